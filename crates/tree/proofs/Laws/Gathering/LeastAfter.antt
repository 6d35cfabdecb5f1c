-- The least slack under each vertex after the edge to x is split: c less under x, the lesser of the old one and of x's above it, as before elsewhere. Assumes nothing.
use Prim.Native.Nat.{ℕ, zero, suc, ◌+◌, ◌*◌, ◌≤◌, ◌<◌}
use mathlib.Core.Path.{◌≡◌, refl, sym, ap, ◌∙◌, subst}
use mathlib.Core.Logic.{◌≢◌, ◌⊎◌, inl, inr}
use mathlib.Core.List.{List, ◌∷◌}
use native.Mathlib.Nat.{mul-zero, mul-one, zero-mul, one-mul}
use native.Mathlib.Omega.{arith}
use lib.IntN.{ℤ, pos, ◌-ℤ◌, ◌*ℤ◌}
use lib.Signed.{◌≤ℤ◌, ≤ℤ_refl}
use Rattle.quantities.proofs.Laws.MinMax.{min_is}
use Rattle.quantities.specs.Inner.Linear.{whole, -is}
use Rattle.quantities.specs.MinMax.{min_ℤ}
use Rattle.tree.proofs.Laws.Trees.AnySplit.{meet}
use Rattle.tree.proofs.Laws.Trees.Growing.{PartTree, Split, Inner, parent_inner, inner_up, member}
use Rattle.tree.proofs.Laws.Planning.KeepsBest.{≤ℤ_trans}
use Rattle.tree.proofs.Laws.Planning.BeforeSettling.{min_one}
use Rattle.tree.proofs.Laws.Planning.SinkEdge.{in_pos}
use Rattle.tree.proofs.Laws.Trees.SplitUnder.{old_under, branch_over, new_under}
use Rattle.tree.proofs.Laws.Lists.Sums.{delta_self, delta_ne, equal?, down_once}
use Rattle.tree.proofs.Laws.Trees.Under.{meet_root, under_step, not_above, meet_one, meet_same, under_trans, comparable}
use Rattle.tree.proofs.Laws.Planning.WorstAfter.{LeastBelow}
use Rattle.tree.specs.Lists.{delta, count, down}

module _ {N : ℕ} {S : List ℕ} {k F : ℕ} {p p' : ℕ → ℕ} {s x : ℕ} (t : PartTree N S k F p) (c : Split N k s x p p')
    (hx : count x S + count x (down N k) ≢ 0) (s1 : 1 ≤ s) (sN : s ≤ N) (fresh : count s S ≡ 0)
    {cost : ℕ} (c1 : 0 < cost) {f f' G : ℕ → ℤ} (old : (y : ℕ) → count y S ≢ 0 → f' y ≡ f y -ℤ pos (meet p F x y * cost)) (new : (G x -ℤ pos cost) ≤ℤ f' s)
    (least : (v : ℕ) → count v S + count v (down N k) ≢ 0 → LeastBelow p F v S f (G v)) where
  abbrev Vertex : ℕ → Type 0
  Vertex v = count v S + count v (down N k) ≢ 0

  abbrev After : ℕ → ℤ → Type 0
  After v w = LeastBelow p' (suc (suc F)) v (s ∷ S) f' w

  x0 : x ≢ 0
  x0 = in_pos t x hx

  stays : (y : ℕ) → count y S ≢ 0 → meet p F x y ≡ 0 → f' y ≡ f y
  stays y m q = let r : meet p F x y * cost ≡ 0 = rw q (zero-mul cost) in old y m ∙ omega (arith, whole, -is (f y) (pos (meet p F x y * cost)))

  sinks : (y : ℕ) → count y S ≢ 0 → meet p F x y ≢ 0 → f' y ≡ f y -ℤ pos cost
  sinks y m q = let o : meet p F x y ≡ 1 = omega (arith, meet_one t x F y hx) in let r : meet p F x y * cost ≡ cost = rw o (one-mul cost) in old y m ∙ ap (λ (i : ℕ). f y -ℤ pos i) r

  -- x is under what its parent is under
  over : (v : ℕ) → Vertex v → meet p F v (p x) ≢ 0 → (v ≢ x) × (meet p F v x ≢ 0)
  over v hv h = (apart, λ e. h (sym (under_step t v x (in_pos t v hv) apart hx) ∙ e))
    where
      apart : v ≢ x
      apart e = h (ap (λ (z : ℕ). meet p F z (p x)) e ∙ not_above t x F hx)

  -- nothing is both under x and over it
  not_both : (v : ℕ) → Vertex v → meet p F x v ≢ 0 → meet p F v (p x) ≡ 0
  not_both v hv h = go (equal? (meet p F v (p x)) 0) (parent_inner t x hx)
    where
      go : (meet p F v (p x) ≡ 0) ⊎ (meet p F v (p x) ≢ 0) → Inner N k (p x) → meet p F v (p x) ≡ 0
      go (inl e) i = e
      go (inr d) (inl e) = ap (meet p F v) e ∙ meet_root p t.top v (in_pos t v hv) F
      go (inr d) (inr i) = absurd (under_trans t x v (p x) x0 (in_pos t v hv) (omega (arith, down_once N k (p x) i.0 i.1)) h d (not_above t x F hx))

  -- an old vertex: its old sinks, and the new one where it is over x
  at_old : (v : ℕ) (w : ℤ) → Vertex v → ((y : ℕ) → count y S ≢ 0 → meet p F v y ≢ 0 → w ≤ℤ f' y) → (meet p F v (p x) ≢ 0 → w ≤ℤ f' s)
      → (z : ℕ) → count z S ≢ 0 → meet p F v z ≢ 0 → f' z ≡ w → After v w
  at_old v w hv low high z zS zv zw = record { below = λ y q h. below y q h (equal? y s); at = z; in_list = omega arith; under = λ e. zv (sym (old_under t c hx s1 sN fresh v z (in_pos t v hv) m.2 (omega arith)) ∙ e); is = zw }
    where
      m : (1 ≤ v) × (v ≢ s) × (v ≢ N + suc k)
      m = member t c hx s1 sN fresh v hv

      below : (y : ℕ) → delta y s + count y S ≢ 0 → meet p' (suc (suc F)) v y ≢ 0 → (y ≡ s) ⊎ (y ≢ s) → w ≤ℤ f' y
      below y q h (inl e) = subst (λ (i : ℕ). w ≤ℤ f' i) (sym e) (high (λ r. h (ap (meet p' (suc (suc F)) v) e ∙ new_under t c hx s1 sN fresh v m.1 m.2 ∙ r)))
      below y q h (inr d) =
          let yS : count y S ≢ 0 = omega (arith, delta_ne y s d) in
          low y yS (λ r. h (old_under t c hx s1 sN fresh v y (in_pos t v hv) m.2 (omega arith) ∙ r))

  under_x : (v : ℕ) → Vertex v → meet p F x v ≢ 0 → After v (G v -ℤ pos cost)
  under_x v hv h = at_old v (G v -ℤ pos cost) hv low (λ d. absurd (d (not_both v hv h))) l.at l.in_list l.under (sinks l.at l.in_list (down_to l.at l.in_list l.under) ∙ ap (λ (i : ℤ). i -ℤ pos cost) l.is)
    where
      l : LeastBelow p F v S f (G v)
      l = least v hv

      down_to : (y : ℕ) → count y S ≢ 0 → meet p F v y ≢ 0 → meet p F x y ≢ 0
      down_to y m q = under_trans t x v y x0 (in_pos t v hv) (omega arith) h q

      low : (y : ℕ) → count y S ≢ 0 → meet p F v y ≢ 0 → (G v -ℤ pos cost) ≤ℤ f' y
      low y m q =
          let i : G v ≤ℤ f y = l.below y m q in
          subst (λ (z : ℤ). (G v -ℤ pos cost) ≤ℤ z) (sym (sinks y m (down_to y m q))) (omega (arith, whole, -is (G v) (pos cost), -is (f y) (pos cost)))

  over_x : (v : ℕ) → Vertex v → meet p F v (p x) ≢ 0 → After v (min_ℤ (G v) (G x -ℤ pos cost))
  over_x v hv h = go (min_one (G v) (G x -ℤ pos cost)) (equal? (meet p F x l.at) 0)
    where
      l : LeastBelow p F v S f (G v)
      l = least v hv

      q : LeastBelow p F x S f (G x)
      q = least x hx

      w : ℤ
      w = min_ℤ (G v) (G x -ℤ pos cost)

      w_old : w ≤ℤ G v
      w_old = omega (arith, whole, min_is (G v) (G x -ℤ pos cost))

      w_x : w ≤ℤ (G x -ℤ pos cost)
      w_x = omega (arith, whole, min_is (G v) (G x -ℤ pos cost))

      low : (y : ℕ) → count y S ≢ 0 → meet p F v y ≢ 0 → w ≤ℤ f' y
      low y m n = each (equal? (meet p F x y) 0)
        where
          each : (meet p F x y ≡ 0) ⊎ (meet p F x y ≢ 0) → w ≤ℤ f' y
          each (inl e) = subst (λ (z : ℤ). w ≤ℤ z) (sym (stays y m e)) (≤ℤ_trans w (G v) (f y) w_old (l.below y m n))
          each (inr d) =
              let i : G x ≤ℤ f y = q.below y m d in
              let j : w ≤ℤ (G x -ℤ pos cost) = w_x in
              subst (λ (z : ℤ). w ≤ℤ z) (sym (sinks y m d)) (omega (arith, whole, -is (G x) (pos cost), -is (f y) (pos cost)))

      by : (z : ℕ) → count z S ≢ 0 → meet p F v z ≢ 0 → f' z ≡ w → After v w
      by = at_old v w hv low (λ d. ≤ℤ_trans w (G x -ℤ pos cost) (f' s) w_x new)

      go : (w ≡ G v) ⊎ (w ≡ G x -ℤ pos cost) → (meet p F x l.at ≡ 0) ⊎ (meet p F x l.at ≢ 0) → After v w
      go (inr e) d = by q.at q.in_list (under_trans t v x q.at (in_pos t v hv) x0 (omega (arith, q.in_list)) (over v hv h).1 q.under) (sinks q.at q.in_list q.under ∙ ap (λ (i : ℤ). i -ℤ pos cost) q.is ∙ sym e)
      go (inl e) (inl d) = by l.at l.in_list l.under (stays l.at l.in_list d ∙ l.is ∙ sym e)
      go (inl e) (inr d) =
          let i : G x ≤ℤ f l.at = q.below l.at l.in_list d in
          let j : w ≤ℤ (G x -ℤ pos cost) = w_x in
          let g : f l.at ≡ G v = l.is in
          absurd (omega (arith, whole, e, -is (G x) (pos cost)))

  aside : (v : ℕ) → Vertex v → meet p F x v ≡ 0 → meet p F v (p x) ≡ 0 → After v (G v)
  aside v hv h n = at_old v (G v) hv low (λ d. absurd (d n)) l.at l.in_list l.under (stays l.at l.in_list (clear l.at l.in_list l.under) ∙ l.is)
    where
      l : LeastBelow p F v S f (G v)
      l = least v hv

      clear : (y : ℕ) → count y S ≢ 0 → meet p F v y ≢ 0 → meet p F x y ≡ 0
      clear y m q = go (equal? (meet p F x y) 0)
        where
          meets : (meet p F v x ≢ 0) ⊎ (meet p F x v ≢ 0) → ⊥
          meets (inr d) = d h
          meets (inl d) = up (equal? v x)
            where
              up : (v ≡ x) ⊎ (v ≢ x) → ⊥
              up (inl e) = omega (arith, ap (meet p F x) e, h, meet_same t x hx)
              up (inr e) = d (under_step t v x (in_pos t v hv) e hx ∙ n)

          go : (meet p F x y ≡ 0) ⊎ (meet p F x y ≢ 0) → meet p F x y ≡ 0
          go (inl e) = e
          go (inr d) = absurd (meets (comparable t v x y (in_pos t v hv) hx (omega arith) q d))

      low : (y : ℕ) → count y S ≢ 0 → meet p F v y ≢ 0 → G v ≤ℤ f' y
      low y m q = subst (λ (z : ℤ). G v ≤ℤ z) (sym (stays y m (clear y m q))) (l.below y m q)

  -- ---- the numbers as the program makes them

  abbrev lowered : ℕ → ℤ
  lowered v = G v -ℤ pos cost *ℤ pos (meet p F x v)

  none : (v : ℕ) → meet p F x v ≡ 0 → lowered v ≡ G v
  none v e = let r : cost * meet p F x v ≡ 0 = rw e (mul-zero cost) in omega (arith, whole, -is (G v) (pos (cost * meet p F x v)))

  pub at_above : (v : ℕ) → Vertex v → meet p F v (p x) ≢ 0 → After v (min_ℤ (lowered v) (G x -ℤ pos cost))
  at_above v hv h = subst (λ (i : ℤ). After v (min_ℤ i (G x -ℤ pos cost))) (sym (none v (go (equal? (meet p F x v) 0)))) (over_x v hv h)
    where
      go : (meet p F x v ≡ 0) ⊎ (meet p F x v ≢ 0) → meet p F x v ≡ 0
      go (inl e) = e
      go (inr d) = absurd (h (not_both v hv d))

  pub at_others : (v : ℕ) → Vertex v → meet p F v (p x) ≡ 0 → After v (lowered v)
  at_others v hv n = go (equal? (meet p F x v) 0)
    where
      go : (meet p F x v ≡ 0) ⊎ (meet p F x v ≢ 0) → After v (lowered v)
      go (inl e) = subst (After v) (sym (none v e)) (aside v hv e n)
      go (inr d) =
          let o : meet p F x v ≡ 1 = omega (arith, meet_one t x F v hx) in
          let r : cost * meet p F x v ≡ cost = rw o (mul-one cost) in
          subst (After v) (ap (λ (i : ℕ). G v -ℤ pos i) (sym r)) (under_x v hv d)

  pub at_branch : After (N + suc k) (G x -ℤ pos cost)
  at_branch = record { below = λ y q h. below y q h (equal? y s); at = l.at; in_list = omega (arith, l.in_list); under = λ e. l.under (sym (branch_over t c hx s1 sN fresh l.at (omega (arith, l.in_list))) ∙ e); is = sinks l.at l.in_list l.under ∙ ap (λ (i : ℤ). i -ℤ pos cost) l.is }
    where
      l : LeastBelow p F x S f (G x)
      l = least x hx

      below : (y : ℕ) → delta y s + count y S ≢ 0 → meet p' (suc (suc F)) (N + suc k) y ≢ 0 → (y ≡ s) ⊎ (y ≢ s) → (G x -ℤ pos cost) ≤ℤ f' y
      below y q h (inl e) = subst (λ (i : ℕ). (G x -ℤ pos cost) ≤ℤ f' i) (sym e) new
      below y q h (inr d) =
          let yS : count y S ≢ 0 = omega (arith, delta_ne y s d) in
          let m : meet p F x y ≢ 0 = λ r. h (branch_over t c hx s1 sN fresh y (omega arith) ∙ r) in
          let i : G x ≤ℤ f y = l.below y yS m in
          subst (λ (z : ℤ). (G x -ℤ pos cost) ≤ℤ z) (sym (sinks y yS m)) (omega (arith, whole, -is (G x) (pos cost), -is (f y) (pos cost)))

  -- no vertex is under the new sink but itself
  pub at_sink : After s (f' s)
  at_sink = record { below = λ y q h. below y q h (equal? y s); at = s; in_list = omega (arith, delta_self s); under = λ e. omega (arith, delta_self s, e); is = refl }
    where
      bare : (j z : ℕ) → Inner N k z → meet p j s z ≡ 0
      bare zero z i = refl
      bare (suc j) z i = omega (arith, delta_ne s z (apart i), bare j (p z) (inner_up t z i))
        where
          apart : Inner N k z → s ≢ z
          apart (inl e) = omega arith
          apart (inr h) = omega arith

      below : (y : ℕ) → delta y s + count y S ≢ 0 → meet p' (suc (suc F)) s y ≢ 0 → (y ≡ s) ⊎ (y ≢ s) → f' s ≤ℤ f' y
      below y q h (inl e) = subst (λ (i : ℕ). f' s ≤ℤ f' i) (sym e) (≤ℤ_refl (f' s))
      below y q h (inr d) =
          let m : Vertex y = omega (arith, delta_ne y s d) in
          absurd (h (old_under t c hx s1 sN fresh s y (omega arith) (omega arith) m ∙ under_step t s y (omega arith) (λ e. d (sym e)) m ∙ bare F (p y) (parent_inner t y m)))
