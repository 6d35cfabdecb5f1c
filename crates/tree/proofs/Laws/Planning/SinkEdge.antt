-- The edge to a sink of largest slack is a best edge to split, among the edges to all vertices. Assumes nothing.
use mathlib.Core.Path.{◌≡◌, refl, sym, ap, ◌∙◌, subst}
use mathlib.Core.Logic.{◌≢◌, ◌⊎◌, inl, inr}
use mathlib.Core.List.{List}
use Prim.Native.Nat.{ℕ, zero, suc, ◌+◌, ◌<◌}
use native.Mathlib.Omega.{arith}
use Rattle.tree.proofs.Laws.Trees.AnySplit.{meet}
use Rattle.tree.proofs.Laws.Trees.Growing.{PartTree, hops_up}
use Rattle.tree.proofs.Laws.Lists.Sums.{delta_self, delta_ne, delta_eq, equal?, sum_over_find, down_in}
use Rattle.tree.proofs.Laws.Trees.Walks.{hops, hops_le}
use Rattle.tree.specs.Lists.{sum_over, delta, count, down}
use Rattle.tree.specs.Tree.{ancestor}

pub meet_next : (p : ℕ → ℕ) (j u z : ℕ) → meet p j u z ≢ 0 → meet p (suc j) (p u) z ≢ 0
meet_next p zero u z h = absurd (h refl)
meet_next p (suc j) u z h = go (meet_next p j u (p z)) (equal? u z)
  where
    go : (meet p j u (p z) ≢ 0 → meet p (suc j) (p u) (p z) ≢ 0) → (u ≡ z) ⊎ (u ≢ z) → delta (p u) z + meet p (suc j) (p u) (p z) ≢ 0
    go ih (inl e) = rw e (omega (arith, delta_self (p z)))
    go ih (inr d) = omega (arith, ih (omega (arith, delta_ne u z d)))

pub meet_stable : (p : ℕ → ℕ) (j v z : ℕ) → v ≢ 0 → ancestor p j z ≡ 0 → meet p (suc j) v z ≡ meet p j v z
meet_stable p zero v z h r = rw r (omega (arith, delta_ne v 0 h))
meet_stable p (suc j) v z h r = ap (◌+◌ (delta v z)) (meet_stable p j v (p z) h r)

pub meet_self : (p : ℕ → ℕ) (j v : ℕ) → v ≢ 0 → ancestor p j v ≡ 0 → meet p j v v ≢ 0
meet_self p zero v h r = absurd (h r)
meet_self p (suc j) v h r = omega (arith, delta_self v)

module _ {N : ℕ} {S : List ℕ} {k F : ℕ} {p : ℕ → ℕ} (t : PartTree N S k F p) where
  pub in_pos : (u : ℕ) → count u S + count u (down N k) ≢ 0 → u ≢ 0
  in_pos u q = go (equal? (count u S) 0)
    where
      go : (count u S ≡ 0) ⊎ (count u S ≢ 0) → u ≢ 0
      go (inl e) = omega (arith, down_in N k u (omega arith))
      go (inr d) = omega (arith, t.low u d)

  child : (v : ℕ) → count v (down N k) ≢ 0 → (u : ℕ) × (count u S + count u (down N k) ≢ 0) × (p u ≡ v)
  child v m = go (equal? (sum_over S f) 0)
    where
      f : ℕ → ℕ
      f x = delta v (p x)

      go : (sum_over S f ≡ 0) ⊎ (sum_over S f ≢ 0) → (u : ℕ) × (count u S + count u (down N k) ≢ 0) × (p u ≡ v)
      go (inl e) =
          let r : (u : ℕ) × (count u (down N k) ≢ 0) × (f u ≢ 0) = sum_over_find (down N k) f (omega (arith, t.children_are v)) in
          (r.0, omega (arith, r.1), sym (delta_eq v (p r.0) r.2))
      go (inr d) =
          let r : (u : ℕ) × (count u S ≢ 0) × (f u ≢ 0) = sum_over_find S f d in
          (r.0, omega (arith, r.1), sym (delta_eq v (p r.0) r.2))

  -- each vertex has a sink at or below it
  sink_below : (g v : ℕ) → count v S + count v (down N k) ≢ 0 → F < hops p F v + g → (z : ℕ) × (count z S ≢ 0) × (meet p F v z ≢ 0)
  sink_below zero v m l = absurd (omega (arith, hops_le p F v))
  sink_below (suc g) v m l = go (sink_below g) (equal? (count v S) 0)
    where
      go : ((u : ℕ) → count u S + count u (down N k) ≢ 0 → F < hops p F u + g → (z : ℕ) × (count z S ≢ 0) × (meet p F u z ≢ 0))
          → (count v S ≡ 0) ⊎ (count v S ≢ 0) → (z : ℕ) × (count z S ≢ 0) × (meet p F v z ≢ 0)
      go ih (inl e) =
          let u : (w : ℕ) × (count w S + count w (down N k) ≢ 0) × (p w ≡ v) = child v (omega arith) in
          let h : hops p F u.0 ≡ suc (hops p F v) = hops_up p F u.0 (in_pos u.0 u.1) (t.reach u.0 u.1) ∙ ap (λ w. suc (hops p F w)) u.2 in
          let r : (z : ℕ) × (count z S ≢ 0) × (meet p F u.0 z ≢ 0) = ih u.0 u.1 (omega arith) in
          let n : meet p (suc F) v r.0 ≢ 0 = subst (λ w. meet p (suc F) w r.0 ≢ 0) u.2 (meet_next p F u.0 r.0 r.2) in
          (r.0, r.1, λ q. n (meet_stable p F v r.0 (in_pos v m) (t.reach r.0 (omega (arith, r.1))) ∙ q))
      go ih (inr d) = (v, d, meet_self p F v (in_pos v m) (t.reach v m))
