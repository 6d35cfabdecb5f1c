-- What a forest that is joined into one tree costs: the sum of weight times depth is what the joined vertices weigh, and no legal tree has a smaller one.
-- Assumes nothing.
use mathlib.Core.Path.{◌≡◌, sym, ap}
use mathlib.Core.Logic.{◌≢◌, ◌⊎◌, inl, inr}
use mathlib.Core.List.{List, [], ◌∷◌}
use Prim.Native.Nat.{ℕ, suc, ◌+◌, ◌-◌, ◌*◌, ◌≤◌, ◌<◌, zero-le}
use native.Mathlib.Nat.{zero-mul, le_of_eq}
use native.Mathlib.Decide.{dec_le}
use native.Mathlib.Omega.{arith}
use lib.ListN.{length}
use Rattle.tree.specs.Lists.{sum_over, delta, count, down}
use Rattle.tree.specs.Tree.{ancestor, parent_of, Legal}
use Rattle.tree.proofs.Laws.Lists.Sums.{sum, delta_self, equal?, sum_over_cong, sum_over-add, down_in, down_once, down_out, sum_cong, sum-add, sum_zero, sum_same, regroup_by}
use Rattle.tree.proofs.Laws.Trees.Walks.{hops, hops_zero, hops_le, ancestor_add}
use Rattle.tree.proofs.Laws.Trees.Growing.{PartTree, hops_up, parent_inner, inner_lt}
use Rattle.tree.proofs.Laws.Kraft.GapSums.{depth_in, kraft_at}
use Rattle.tree.proofs.Laws.Trees.LegalTrees.{legal_tree, tree_legal, down_le}
use Rattle.weighted_tree.proofs.Laws.Exchange.{cost, Under}
use Rattle.weighted_tree.proofs.Laws.Forests.{all, Forest}

-- a sum of w x * g (q x), regrouped by the values of q
regroup_weighted : (l : List ℕ) (q : ℕ → ℕ) (v : ℕ) (w g : ℕ → ℕ) → ((x : ℕ) → count x l ≢ 0 → q x < v)
    → sum_over l (λ x. w x * g (q x)) ≡ sum 0 v (λ u. sum_over l (λ x. delta u (q x) * w x) * g u)
regroup_weighted [] q v w g h = sym (simp (zero-mul, sum_zero))
regroup_weighted (y ∷ l) q v w g h =
    let a : ℕ → ℕ = λ u. delta u (q y) * (w y * g u) in
    let r : ℕ → ℕ = λ u. sum_over l (λ x. delta u (q x) * w x) * g u in
    omega (
      arith,
      regroup_weighted l q v w g (λ x p. h x (omega arith)),
      sum_same 0 v (q y) (λ u. w y * g u) zero-le (omega (arith, h y (omega (arith, delta_self y)))),
      sum-add 0 v a r,
      sum_cong 0 v (λ u. sum_over (y ∷ l) (λ x. delta u (q x) * w x) * g u) (λ u. a u + r u) (λ i p z. omega arith),
    )

-- the sum of weight times depth is the sum of what the branch points carry
module _ {N : ℕ} {S : List ℕ} {k F : ℕ} {p : ℕ → ℕ} (t : PartTree N S k F p) (w : ℕ → ℕ)
    (load : (u : ℕ) → u ≢ 0 → sum_over S (λ x. delta u (p x) * w x) + sum_over (down N k) (λ x. delta u (p x) * w x) ≡ count u (down N k) * w u) where
  cost_tree : cost S w (λ s. hops p F (p s)) ≡ sum_over (down N k) w
  cost_tree =
      let v : ℕ = suc (N + k) in
      let g : ℕ → ℕ = hops p F in
      let a : ℕ → ℕ = λ u. sum_over S (λ x. delta u (p x) * w x) * g u in
      let b : ℕ → ℕ = λ u. sum_over (down N k) (λ x. delta u (p x) * w x) * g u in
      let c : ℕ → ℕ = λ u. count u (down N k) * (w u * g u) in
      let A : sum_over S (λ x. w x * g (p x)) ≡ sum 0 v a = regroup_weighted S p v w g (λ x h. inner_lt t (p x) (parent_inner t x (omega arith))) in
      let B : sum_over (down N k) (λ x. w x * g (p x)) ≡ sum 0 v b = regroup_weighted (down N k) p v w g (λ x h. inner_lt t (p x) (parent_inner t x (omega arith))) in
      let C : sum_over (down N k) (λ x. w x * g x) ≡ sum 0 v c = regroup_by (down N k) (λ x. x) v (λ u. w u * g u) (λ x h. omega (arith, down_in N k x h)) in
      let E : sum 0 v (λ u. a u + b u) ≡ sum 0 v c = sum_cong 0 v (λ u. a u + b u) c (λ i h l. each i (equal? i 0)) in
      let D : sum_over (down N k) (λ x. w x * g x) ≡ sum_over (down N k) (λ x. w x + w x * g (p x)) = sum_over_cong (down N k) (λ x. w x * g x) (λ x. w x + w x * g (p x)) step in
      omega (arith, sum-add 0 v a b, sum_over-add (down N k) w (λ x. w x * g (p x)))
    where
      each : (u : ℕ) → (u ≡ 0) ⊎ (u ≢ 0) → sum_over S (λ x. delta u (p x) * w x) * hops p F u + sum_over (down N k) (λ x. delta u (p x) * w x) * hops p F u ≡ count u (down N k) * (w u * hops p F u)
      each u (inl e) = rw (e, hops_zero p F) (omega arith)
      each u (inr d) = omega (arith, ap (λ z. z * hops p F u) (load u d))

      step : (x : ℕ) → count x (down N k) ≢ 0 → w x * hops p F x ≡ w x + w x * hops p F (p x)
      step x h = omega (arith, ap (λ z. w x * z) (hops_up p F x (omega (arith, down_in N k x h)) (t.reach x (omega arith))))

module _ (N : ℕ) (A P : List ℕ) (w : ℕ → ℕ) (N1 : 1 ≤ N) (size : suc (length P) ≡ 2 * N) (F : Forest N (N - 1) A w (parent_of P)) where
  forest_tree : PartTree N (down 0 N) (N - 1) (2 * N - 1) (parent_of P)
  forest_tree = record { top = F.top; once = down_le 0 N; low = λ s h. omega (arith, down_in 0 N s h); children_are = children_are; reach = reach }
    where
      children_are : (u : ℕ) → all N (N - 1) (λ x. delta u (parent_of P x)) ≡ delta u 0 + 2 * count u (down N (N - 1))
      children_are u = let one : length A ≡ 1 = omega (arith, F.size) in omega (arith, F.children_are u, ap (λ z. delta u 0 * z) one)

      reach : (v : ℕ) → count v (down 0 N) + count v (down N (N - 1)) ≢ 0 → ancestor (parent_of P) (2 * N - 1) v ≡ 0
      reach v h =
          let e : 2 * N - 1 ≡ (N - 1) + suc (N - 1) = omega arith in
          rw e (ancestor_add (parent_of P) (N - 1) (suc (N - 1)) v F.top (F.reach v (low (dec_le v (N + (N - 1))))))
        where
          low : Dec (v ≤ N + (N - 1)) → v ≤ N + (N - 1)
          low (yes l) = l
          low (no l) = absurd (omega (arith, down_out 0 N v (omega arith), down_out N (N - 1) v (omega arith)))

  pub forest_legal : Legal N P
  forest_legal = tree_legal N P (down 0 N) size (λ s a b. down_once 0 N s a (omega arith)) forest_tree

  -- no depths that keep Kraft's inequality cost less, so no legal tree does
  pub forest_best : (Q : List ℕ) → Legal N Q → cost (down 0 N) w (depth_in (2 * N - 1) (parent_of P)) ≤ cost (down 0 N) w (depth_in (2 * N - 1) (parent_of Q))
  forest_best Q L =
      let T : PartTree N (down 0 N) (N - 1) (2 * N - 1) (parent_of Q) = legal_tree N Q L in
      let d : ℕ → ℕ = depth_in (2 * N - 1) (parent_of Q) in
      let top : (s : ℕ) → count s (down 0 N) ≢ 0 → d s ≤ 2 * N - 1 = λ s q. hops_le (parent_of Q) (2 * N - 1) (parent_of Q s) in
      let u : Under A w (sum_over (down N (N - 1)) w) (cost (down 0 N) w d) = F.lower (2 * N - 1) d top (le_of_eq (kraft_at T (2 * N - 1) top)) in
      omega (arith, u.cheap, cost_tree forest_tree w F.load)
