-- The searches of specs/Defects find the vertex that 01's sentence names, and only that one. Assumes nothing.
use Prim.Native.Nat.{ℕ, zero, suc, ◌+◌, ◌*◌, ◌-◌, ◌≤◌, ◌<◌}
use mathlib.Core.Path.{◌≡◌, refl, sym, ap, subst, ◌∙◌}
use mathlib.Core.Bool.{Bool, true, false, not}
use mathlib.Core.Logic.{◌≢◌, ◌⊎◌, inl, inr, ⊎_elim, ◌↔◌}
use mathlib.Core.List.{List, ◌∷◌}
use Rattle.std.specs.Prelude.{Option, None, Some}
use native.Mathlib.Omega.{arith}
use native.Mathlib.Decide.{dec_le}
use lib.Dec.{eqb}
use Rattle.tree.specs.Defects.{due_children, wrong_children, unreached, RightChildren, WrongChildrenAt, at_root, at_branch, LowestUnreached}
use Rattle.tree.specs.Lists.{count, range}
use Rattle.tree.specs.Net.{branch_numbers}
use Rattle.tree.specs.Tree.{parent_of, ancestor, Reached, Legal}
use Rattle.tree.proofs.Laws.Trees.LegalTrees.{nowhere}
use Rattle.tree.proofs.Laws.Trees.StepsToRoot.{reached_within}
use Rattle.tree.proofs.Laws.Trees.Defects.{Read, Lowest, differs_no, no_differs, none_first, first_none, range_in, in_range, root_one, branch_two, unreached_lowest, wrong_lowest}

differs : (a b : ℕ) → not (eqb a b) ≡ true → a ≢ b
differs a b e q = let z : ◌≡◌ {A = Bool} true false = sym e ∙ no_differs a b q in absurd (let y : ◌≡◌ {A = ℕ} 0 1 = cc in omega arith)

-- the lower of two, where neither is below the other
same_lowest : (u v : ℕ) → (u < v → ⊥) → (v < u → ⊥) → u ≡ v
same_lowest u v p q = go (dec_le (suc u) v) (dec_le (suc v) u)
  where
    go : Dec (suc u ≤ v) → Dec (suc v ≤ u) → u ≡ v
    go (yes a) b = absurd (p a)
    go (no a) (yes b) = absurd (q b)
    go (no a) (no b) = omega arith

module _ (n : ℕ) (P : List ℕ) where
  -- ---- the numbers of children

  right_if : wrong_children n P ≡ None → RightChildren n P
  right_if w = record { root = root_one n P w; branch = branch_two n P w }

  right_only : 1 ≤ n → RightChildren n P → wrong_children n P ≡ None
  right_only h R = none_first (λ v. not (eqb (count v P) (due_children v))) (0 ∷ branch_numbers n) counts
    where
      counts : (v : ℕ) → count v (0 ∷ branch_numbers n) ≢ 0 → not (eqb (count v P) (due_children v)) ≡ false
      counts zero m = no_differs (count 0 P) 1 R.root
      counts (suc v) m =
          let r : (suc n ≤ suc v) × (suc v < suc n + (n - 1)) = range_in (suc n) (n - 1) (suc v) (omega arith) in
          no_differs (count (suc v) P) 2 (R.branch (suc v) (omega arith) (omega arith))

  wrong_if : (v : ℕ) → wrong_children n P ≡ Some v → WrongChildrenAt n P v
  wrong_if v e = go v (wrong_lowest n P v e)
    where
      go : (v : ℕ) → ((v ≡ 0) × (count 0 P ≢ 1)) ⊎ ((count 0 P ≡ 1) × Lowest (λ v. not (eqb (count v P) (due_children v))) (suc n) (n - 1) v) → WrongChildrenAt n P v
      go v (inl h) = subst (WrongChildrenAt n P) (sym h.0) (at_root h.1)
      go zero (inr h) = absurd (omega (arith, h.1.from))
      go (suc v) (inr h) = at_branch h.0 h.1.from (omega (arith, h.1.from, h.1.below)) (differs (count (suc v) P) 2 h.1.passes) (below h.1.none_below)
        where
          below : ((u : ℕ) → suc n ≤ u → u < suc v → not (eqb (count u P) (due_children u)) ≡ false) → (u : ℕ) → n < u → u < suc v → count u P ≡ 2
          below f zero p q = absurd (omega arith)
          below f (suc u) p q = differs_no (count (suc u) P) 2 (f (suc u) p q)

  wrong_one : (u v : ℕ) → WrongChildrenAt n P u → WrongChildrenAt n P v → u ≡ v
  wrong_one u v (at_root h) (at_root k) = refl
  wrong_one u v (at_root h) (at_branch r a b k f) = absurd (h r)
  wrong_one u v (at_branch r a b h f) (at_root k) = absurd (k r)
  wrong_one u v (at_branch r a b h f) (at_branch s c d k g) = same_lowest u v (λ p. h (g u a p)) (λ p. k (f v c p))

  wrong_right : (v : ℕ) → WrongChildrenAt n P v → RightChildren n P → ⊥
  wrong_right v (at_root h) R = h R.root
  wrong_right v (at_branch r a b h f) R = h (R.branch v a b)

  wrong_only : (v : ℕ) → WrongChildrenAt n P v → wrong_children n P ≡ Some v
  wrong_only v W = go (wrong_children n P) refl
    where
      go : (o : Option ℕ) → wrong_children n P ≡ o → wrong_children n P ≡ Some v
      go None e = absurd (wrong_right v W (right_if e))
      go (Some u) e = e ∙ ap Some (wrong_one u v (wrong_if u e) W)

  pub right_children : 1 ≤ n → (wrong_children n P ≡ None) ↔ RightChildren n P
  right_children h = (right_if, right_only h)

  pub wrong_children_lem : (v : ℕ) → (wrong_children n P ≡ Some v) ↔ WrongChildrenAt n P v
  wrong_children_lem v = (wrong_if v, wrong_only v)

  -- ---- the vertices that are reached

  module _ (R : Read n P) where
    reached_if : unreached n P ≡ None → (v : ℕ) → v < 2 * n → Reached P v
    reached_if e zero h = (0, refl)
    reached_if e (suc v) h = (
      2 * n - 1,
      differs_no (ancestor (parent_of P) (2 * n - 1) (suc v)) 0
          (first_none (λ v. not (eqb (ancestor (parent_of P) (2 * n - 1) v) 0)) (range 1 (2 * n - 1)) e (suc v) (in_range 1 (2 * n - 1) (suc v) (omega arith) (omega arith))),
    )

    reached_only : ((v : ℕ) → v < 2 * n → Reached P v) → unreached n P ≡ None
    reached_only f =
        none_first (λ v. not (eqb (ancestor (parent_of P) (2 * n - 1) v) 0)) (range 1 (2 * n - 1)) λ v m.
        let r : (1 ≤ v) × (v < 1 + (2 * n - 1)) = range_in 1 (2 * n - 1) v m in
        let h : v < 2 * n = omega (arith, R.some_sink) in
        no_differs (ancestor (parent_of P) (2 * n - 1) v) 0 (reached_within n P R.size R.inside v h (f v h))

    lost_if : (v : ℕ) → unreached n P ≡ Some v → LowestUnreached n P v
    lost_if v e =
        let L = unreached_lowest n P v e in
        let h : v < 2 * n = omega (arith, L.below, R.some_sink) in
        record {
          vertex = h;
          unreached = λ r. differs (ancestor (parent_of P) (2 * n - 1) v) 0 L.passes (reached_within n P R.size R.inside v h r);
          lowest = low L.none_below;
        }
      where
        low : ((u : ℕ) → 1 ≤ u → u < v → not (eqb (ancestor (parent_of P) (2 * n - 1) u) 0) ≡ false) → (u : ℕ) → u < v → Reached P u
        low f zero h = (0, refl)
        low f (suc u) h = (2 * n - 1, differs_no (ancestor (parent_of P) (2 * n - 1) (suc u)) 0 (f (suc u) (omega arith) h))

    lost_only : (v : ℕ) → LowestUnreached n P v → unreached n P ≡ Some v
    lost_only v L = go (unreached n P) refl
      where
        go : (o : Option ℕ) → unreached n P ≡ o → unreached n P ≡ Some v
        go None e = absurd (L.unreached (reached_if e v L.vertex))
        go (Some u) e =
            let M = lost_if u e in
            e ∙ ap Some (same_lowest u v (λ p. M.unreached (L.lowest u p)) (λ p. L.unreached (M.lowest v p)))

    pub all_reached : (unreached n P ≡ None) ↔ ((v : ℕ) → v < 2 * n → Reached P v)
    all_reached = (reached_if, reached_only)

    pub lowest_unreached : (v : ℕ) → (unreached n P ≡ Some v) ↔ LowestUnreached n P v
    lowest_unreached v = (lost_if v, lost_only v)

    -- ---- legal just where neither is found

    pub legal_if : RightChildren n P → ((v : ℕ) → v < 2 * n → Reached P v) → Legal n P
    legal_if C f = record {
      size = R.size;
      inside = R.inside;
      root = C.root;
      sink = λ s p q. nowhere P s (λ i h e. ⊎_elim (λ z. omega arith) (λ z. omega arith) (R.no_sink_lem i h));
      branch = C.branch;
      reach = f;
    }

    pub legal_only : Legal n P → (wrong_children n P ≡ None) × (unreached n P ≡ None)
    legal_only L = (right_only R.some_sink (record { root = L.root; branch = L.branch }), reached_only L.reach)
