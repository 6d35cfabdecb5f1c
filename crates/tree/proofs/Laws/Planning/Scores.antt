-- The worst slack after the edge to any vertex is split, from the least slack under it: the lesser of the worst slack so far and of that least less c. Assumes nothing.
use Prim.Native.Nat.{ℕ, suc, ◌+◌, ◌*◌, ◌≤◌, ◌<◌}
use mathlib.Core.Path.{◌≡◌, ap, ◌∙◌}
use mathlib.Core.Logic.{◌≢◌}
use mathlib.Core.List.{List, ◌∷◌}
use native.Mathlib.Nat.{mul-le-mul_right}
use native.Mathlib.Omega.{arith}
use lib.ListN.{length}
use lib.IntN.{ℤ, pos, ◌-ℤ◌}
use lib.Signed.{◌≤ℤ◌}
use Rattle.quantities.proofs.Laws.MinMax.{min_is}
use Rattle.quantities.specs.Inner.Linear.{whole, -is}
use Rattle.quantities.specs.MinMax.{min_ℤ}
use Rattle.tree.proofs.Laws.Planning.KeepsBest.{Least, Grown}
use Rattle.tree.proofs.Laws.Kraft.GapSums.{depth_in}
use Rattle.tree.proofs.Laws.Measures.VertexDelays.{tree_more, dep_more, unsettled_is}
use Rattle.tree.proofs.Laws.Trees.Under.{under_deep}
use Rattle.tree.proofs.Laws.Planning.WorstAfter.{LeastBelow, before, worst_closed}
use Rattle.tree.specs.Lists.{count, down}
use Rattle.tree.specs.Measures.{slack}
use Rattle.tree.specs.Net.{Net, size, own_slack}
use Rattle.tree.specs.Planning.{unsettled, worst_after}
use Rattle.tree.specs.Tree.{parent_of}

module _ (N : Net) (c1 : 0 < N.branch) {z : ℕ} {S : List ℕ} {k : ℕ} {P : List ℕ} (g : Grown (size N) N.branch (own_slack N) (z ∷ S) k P) where
  -- the slack so far, of specs/Measures
  pub before_is : (y : ℕ) → k < size N → count y (z ∷ S) ≢ 0 → slack N (unsettled N P) y ≡ before N k P y
  before_is y kn m =
      let more : 2 * k + 1 ≤ length P = omega (arith, g.size) in
      unsettled_is N P (tree_more g.tree (length P) more) y m ∙ ap (λ j. own_slack N y -ℤ pos (j * N.branch)) (dep_more g.tree (length P) more y m)

  -- no sink that goes in is worse off than the worst under the edge that it splits
  pub new_no_worse : (s : ℕ) → ((y : ℕ) → count y (z ∷ S) ≢ 0 → own_slack N y ≤ℤ own_slack N s) → (x : ℕ) → count x (z ∷ S) + count x (down (size N) k) ≢ 0
      → (u : ℤ) → LeastBelow (parent_of P) (2 * k + 1) x (z ∷ S) (before N k P) u
      → (u -ℤ pos N.branch) ≤ℤ (own_slack N s -ℤ pos (suc (depth_in (2 * k + 1) (parent_of P) x) * N.branch))
  new_no_worse s rising x hx u r =
      let d : ℕ = depth_in (2 * k + 1) (parent_of P) x in
      let e : ℕ = depth_in (2 * k + 1) (parent_of P) r.at in
      let h : own_slack N r.at ≤ℤ own_slack N s = rising r.at r.in_list in
      let q : suc d * N.branch ≡ d * N.branch + N.branch = omega arith in
      let deep : d * N.branch ≤ e * N.branch = mul-le-mul_right N.branch (under_deep g.tree x r.at hx (omega (arith, r.in_list)) r.under) in
      let is : own_slack N r.at -ℤ pos (e * N.branch) ≡ u = r.is in
      omega (arith, whole, -is u (pos N.branch), -is (own_slack N r.at) (pos (e * N.branch)), -is (own_slack N s) (pos (suc d * N.branch)))

  pub edge_score : (s : ℕ) → 1 ≤ s → s ≤ size N → count s (z ∷ S) ≡ 0 → suc k < size N → ((y : ℕ) → count y (z ∷ S) ≢ 0 → own_slack N y ≤ℤ own_slack N s)
      → (x : ℕ) → count x (z ∷ S) + count x (down (size N) k) ≢ 0 → (a u : ℤ) → Least (z ∷ S) (before N k P) a → LeastBelow (parent_of P) (2 * k + 1) x (z ∷ S) (before N k P) u
      → worst_after N (z ∷ S) k P s x ≡ min_ℤ a (u -ℤ pos N.branch)
  edge_score s s1 sN fresh kN rising x hx a u l r = worst_closed N c1 g s s1 sN fresh kN rising x hx a u l r ∙ drop_new
    where
      new : ℤ
      new = own_slack N s -ℤ pos (suc (depth_in (2 * k + 1) (parent_of P) x) * N.branch)

      drop_new : min_ℤ (min_ℤ a (u -ℤ pos N.branch)) new ≡ min_ℤ a (u -ℤ pos N.branch)
      drop_new =
          let h : (u -ℤ pos N.branch) ≤ℤ new = new_no_worse s rising x hx u r in
          omega (arith, whole, min_is (min_ℤ a (u -ℤ pos N.branch)) new, min_is a (u -ℤ pos N.branch))
