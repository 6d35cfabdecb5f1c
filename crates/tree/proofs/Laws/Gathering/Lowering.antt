-- The walk that lowers what is under a vertex: each vertex is as much deeper as its parent, and its level says whether that is done. Assumes nothing.
use Prim.Native.Nat.{ℕ, suc, ◌+◌, ◌≤◌, ◌<◌}
use mathlib.Core.Path.{◌≡◌, refl, sym, ap, ◌∙◌, subst}
use mathlib.Core.Bool.{Bool, true, false, cond}
use mathlib.Core.Logic.{◌≢◌, ◌⊎◌, inl, inr}
use mathlib.Core.List.{List}
use native.Mathlib.Decide.{dec_le}
use native.Mathlib.Omega.{arith}
use borrow.Author.Tests.{ltb-true, ltb-false}
use lib.ListN.{length, get_or, set}
use lib.Seq.{get_or-set_same, get_or-set_other}
use lib.IntN.{ℤ, pos, ◌-ℤ◌, ◌*ℤ◌}
use Rattle.quantities.specs.Inner.Linear.{whole, -is, *is}
use Rattle.tree.specs.Inner.Regathering.{Deepens, DeepensUnder, Lowered, is_behind}
use Rattle.tree.proofs.Laws.Lists.Sums.{equal?}

less_none : (a c : ℤ) (d : ℕ) → d ≡ 0 → a ≡ a -ℤ c *ℤ pos d
less_none a c d e = let q : c *ℤ pos d ≡ c *ℤ pos 0 = ap (λ (z : ℕ). c *ℤ pos z) e in omega (arith, whole, -is a (c *ℤ pos d), q, *is c 0)

less_one : (a c : ℤ) (d : ℕ) → d ≡ 1 → a -ℤ c ≡ a -ℤ c *ℤ pos d
less_one a c d e = let q : c *ℤ pos d ≡ c *ℤ pos 1 = ap (λ (z : ℕ). c *ℤ pos z) e in omega (arith, whole, -is a c, -is a (c *ℤ pos d), q, *is c 1)

module _ {ps us : List ℕ} {m : ℕ} {D : ℕ → ℕ} {c : ℤ} {ls : List ℕ} {ss : List ℤ} where
  -- the vertex at place j alone
  pub lowered_first : {n j : ℕ} → DeepensUnder ps us n m j ls D → j < m → get_or us j 0 < length ls → get_or us j 0 < length ss
      → Lowered us m D c ls ss j (set ls (get_or us j 0) (get_or ls (get_or us j 0) 0 + 1)) (set ss (get_or us j 0) (get_or ss (get_or us j 0) (pos 0) -ℤ c))
  lowered_first {n} {j} S jm ll sl = record { done = λ h a b. done h a b (equal? h j); left = λ h a b. keep (get_or us h 0) (λ e. omega (arith, S.deepens.apart h j b jm e)); other = λ v o. keep v (λ e. o j jm (sym e)) }
    where
      x : ℕ
      x = get_or us j 0

      ls' : List ℕ
      ls' = set ls (get_or us j 0) (get_or ls (get_or us j 0) 0 + 1)

      ss' : List ℤ
      ss' = set ss (get_or us j 0) (get_or ss (get_or us j 0) (pos 0) -ℤ c)

      keep : (v : ℕ) → v ≢ get_or us j 0 → (get_or ls' v 0 ≡ get_or ls v 0) × (get_or ss' v (pos 0) ≡ get_or ss v (pos 0))
      keep v d = (get_or-set_other ls x v (get_or ls x 0 + 1) 0 d, get_or-set_other ss x v (get_or ss x (pos 0) -ℤ c) (pos 0) d)

      done : (h : ℕ) → j ≤ h → h < m → (h ≡ j) ⊎ (h ≢ j) → (get_or ls' (get_or us h 0) 0 ≡ get_or ls (get_or us h 0) 0 + D (get_or us h 0)) × (get_or ss' (get_or us h 0) (pos 0) ≡ get_or ss (get_or us h 0) (pos 0) -ℤ c *ℤ pos (D (get_or us h 0)))
      done h a b (inl e) =
          subst (λ (i : ℕ). (get_or ls' (get_or us i 0) 0 ≡ get_or ls (get_or us i 0) 0 + D (get_or us i 0)) × (get_or ss' (get_or us i 0) (pos 0) ≡ get_or ss (get_or us i 0) (pos 0) -ℤ c *ℤ pos (D (get_or us i 0)))) (sym e)
          (get_or-set_same ls x (get_or ls x 0 + 1) 0 ll ∙ omega (arith, S.one), get_or-set_same ss x (get_or ss x (pos 0) -ℤ c) (pos 0) sl ∙ less_one (get_or ss x (pos 0)) c (D x) S.one)
      done h a b (inr d) =
          let z : D (get_or us h 0) ≡ 0 = S.behind h (omega arith) b in
          let k : (get_or ls' (get_or us h 0) 0 ≡ get_or ls (get_or us h 0) 0) × (get_or ss' (get_or us h 0) (pos 0) ≡ get_or ss (get_or us h 0) (pos 0)) = keep (get_or us h 0) (λ e. d (S.deepens.apart h j b jm e)) in
          (k.0 ∙ omega (arith, z), k.1 ∙ less_none (get_or ss (get_or us h 0) (pos 0)) c (D (get_or us h 0)) z)

  -- where nothing is under it, that is all
  pub lowered_sink : {n j : ℕ} {levels : List ℕ} {slacks : List ℤ} → DeepensUnder ps us n m j ls D → get_or us j 0 ≤ n → j < m → Lowered us m D c ls ss j levels slacks → Lowered us m D c ls ss 0 levels slacks
  lowered_sink {n} {j} {levels} {slacks} S sn jm L = record { done = λ h a b. done h b (dec_le j h); left = λ h a b. absurd (omega arith); other = L.other }
    where
      done : (h : ℕ) → h < m → Dec (j ≤ h) → (get_or levels (get_or us h 0) 0 ≡ get_or ls (get_or us h 0) 0 + D (get_or us h 0)) × (get_or slacks (get_or us h 0) (pos 0) ≡ get_or ss (get_or us h 0) (pos 0) -ℤ c *ℤ pos (D (get_or us h 0)))
      done h b (yes a) = L.done h a b
      done h b (no a) =
          let z : D (get_or us h 0) ≡ 0 = S.sink sn h (omega arith) in
          let k : (get_or levels (get_or us h 0) 0 ≡ get_or ls (get_or us h 0) 0) × (get_or slacks (get_or us h 0) (pos 0) ≡ get_or ss (get_or us h 0) (pos 0)) = L.left h (omega arith) b in
          (k.0 ∙ omega (arith, z), k.1 ∙ less_none (get_or ss (get_or us h 0) (pos 0)) c (D (get_or us h 0)) z)

  module _ {j : ℕ} (P : Deepens ps us m j ls D) (jm : j < m) {i : ℕ} (ij : i < j) {levels : List ℕ} {slacks : List ℤ} (L : Lowered us m D c ls ss (suc i) levels slacks) where
    abbrev u : ℕ
    u = get_or us i 0

    -- the level of the parent is as it will be
    pub parent_done : get_or levels (get_or ps (get_or us i 0) 0) 0 ≡ get_or ls (get_or ps (get_or us i 0) 0) 0 + D (get_or ps (get_or us i 0) 0)
    parent_done = go (P.parent i ij)
      where
        q : ℕ
        q = get_or ps (get_or us i 0) 0

        go : (get_or ps (get_or us i 0) 0 ≡ 0) ⊎ ((h : ℕ) × (i < h) × (h < m) × (get_or us h 0 ≡ get_or ps (get_or us i 0) 0)) → get_or levels q 0 ≡ get_or ls q 0 + D q
        go (inl e) = subst (λ (z : ℕ). get_or levels z 0 ≡ get_or ls z 0 + D z) (sym e) ((L.other 0 (λ h l. P.positive h l)).0 ∙ omega (arith, P.root))
        go (inr h) = subst (λ (z : ℕ). get_or levels z 0 ≡ get_or ls z 0 + D z) h.3 (L.done h.0 h.1 h.2).0

    pub still : (get_or levels u 0 ≡ get_or ls u 0) × (get_or slacks u (pos 0) ≡ get_or ss u (pos 0))
    still = L.left i (omega arith) (omega arith)

    pub lowered_step : get_or us i 0 < length levels → get_or us i 0 < length slacks
        → {levels' : List ℕ} {slacks' : List ℤ}
        → levels' ≡ cond (is_behind ps levels (get_or us i 0)) (set levels (get_or us i 0) (get_or levels (get_or ps (get_or us i 0) 0) 0 + 1)) levels
        → slacks' ≡ cond (is_behind ps levels (get_or us i 0)) (set slacks (get_or us i 0) (get_or slacks (get_or us i 0) (pos 0) -ℤ c)) slacks
        → Lowered us m D c ls ss i levels' slacks'
    lowered_step ll sl {levels'} {slacks'} el es = by (is_behind ps levels (get_or us i 0)) refl
      where
        same : D u ≡ D (get_or ps u 0)
        same = P.same i ij

        level : get_or ls u 0 ≡ suc (get_or ls (get_or ps u 0) 0)
        level = P.level i ij

        -- all but u stay; u is as it should be
        whole_step : (levels'' : List ℕ) (slacks'' : List ℤ) → ((v : ℕ) → v ≢ u → (get_or levels'' v 0 ≡ get_or levels v 0) × (get_or slacks'' v (pos 0) ≡ get_or slacks v (pos 0)))
            → (get_or levels'' u 0 ≡ get_or ls u 0 + D u) × (get_or slacks'' u (pos 0) ≡ get_or ss u (pos 0) -ℤ c *ℤ pos (D u)) → Lowered us m D c ls ss i levels'' slacks''
        whole_step levels'' slacks'' keep here = record {
          done = λ h a b. done h a b (equal? h i);
          left = λ h a b. let k = keep (get_or us h 0) (λ e. omega (arith, P.apart h i b (omega arith) e)) in (k.0 ∙ (L.left h (omega arith) b).0, k.1 ∙ (L.left h (omega arith) b).1);
          other = λ v o. let k = keep v (λ e. o i (omega arith) (sym e)) in (k.0 ∙ (L.other v o).0, k.1 ∙ (L.other v o).1);
        }
          where
            done : (h : ℕ) → i ≤ h → h < m → (h ≡ i) ⊎ (h ≢ i) → (get_or levels'' (get_or us h 0) 0 ≡ get_or ls (get_or us h 0) 0 + D (get_or us h 0)) × (get_or slacks'' (get_or us h 0) (pos 0) ≡ get_or ss (get_or us h 0) (pos 0) -ℤ c *ℤ pos (D (get_or us h 0)))
            done h a b (inl e) =
                subst (λ (z : ℕ). (get_or levels'' (get_or us z 0) 0 ≡ get_or ls (get_or us z 0) 0 + D (get_or us z 0)) × (get_or slacks'' (get_or us z 0) (pos 0) ≡ get_or ss (get_or us z 0) (pos 0) -ℤ c *ℤ pos (D (get_or us z 0)))) (sym e) here
            done h a b (inr d) = let k = keep (get_or us h 0) (λ e. d (P.apart h i b (omega arith) e)) in (k.0 ∙ (L.done h (omega arith) b).0, k.1 ∙ (L.done h (omega arith) b).1)

        by : (b : Bool) → is_behind ps levels (get_or us i 0) ≡ b → Lowered us m D c ls ss i levels' slacks'
        by true e =
            let l : get_or levels u 0 < get_or levels (get_or ps u 0) 0 + 1 = ltb-true _ _ e in
            let d : D u ≡ 1 = omega (arith, still.0, level, parent_done, same, P.few u) in
            let el' : levels' ≡ set levels u (get_or levels (get_or ps u 0) 0 + 1) = el ∙ ap (λ (b : Bool). cond b (set levels u (get_or levels (get_or ps u 0) 0 + 1)) levels) e in
            let es' : slacks' ≡ set slacks u (get_or slacks u (pos 0) -ℤ c) = es ∙ ap (λ (b : Bool). cond b (set slacks u (get_or slacks u (pos 0) -ℤ c)) slacks) e in
            whole_step levels' slacks'
            (λ v n. (ap (λ (z : List ℕ). get_or z v 0) el' ∙ get_or-set_other levels u v (get_or levels (get_or ps u 0) 0 + 1) 0 n, ap (λ (z : List ℤ). get_or z v (pos 0)) es' ∙ get_or-set_other slacks u v (get_or slacks u (pos 0) -ℤ c) (pos 0) n)) (
              ap (λ (z : List ℕ). get_or z u 0) el' ∙ get_or-set_same levels u (get_or levels (get_or ps u 0) 0 + 1) 0 ll ∙ omega (arith, parent_done, level, same),
              ap (λ (z : List ℤ). get_or z u (pos 0)) es' ∙ get_or-set_same slacks u (get_or slacks u (pos 0) -ℤ c) (pos 0) sl ∙ ap (λ (z : ℤ). z -ℤ c) still.1 ∙ less_one (get_or ss u (pos 0)) c (D u) d,
            )
        by false e =
            let l : get_or levels (get_or ps u 0) 0 + 1 ≤ get_or levels u 0 = ltb-false _ _ e in
            let d : D u ≡ 0 = omega (arith, still.0, level, parent_done, same) in
            let el' : levels' ≡ levels = el ∙ ap (λ (b : Bool). cond b (set levels u (get_or levels (get_or ps u 0) 0 + 1)) levels) e in
            let es' : slacks' ≡ slacks = es ∙ ap (λ (b : Bool). cond b (set slacks u (get_or slacks u (pos 0) -ℤ c)) slacks) e in
            whole_step levels' slacks' (λ v n. (ap (λ (z : List ℕ). get_or z v 0) el', ap (λ (z : List ℤ). get_or z v (pos 0)) es'))
            (ap (λ (z : List ℕ). get_or z u 0) el' ∙ still.0 ∙ omega (arith, d), ap (λ (z : List ℤ). get_or z u (pos 0)) es' ∙ still.1 ∙ less_none (get_or ss u (pos 0)) c (D u) d)
