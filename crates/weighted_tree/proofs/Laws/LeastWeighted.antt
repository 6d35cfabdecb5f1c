-- The sum of weight × delay of the tree by switching weights is the least: request 7 as specs/WeightedDelay states it, for every net with a sink and whatever weights. Assumes nothing.
use Prim.Native.Nat.{ℕ, ◌+◌, ◌*◌, ◌-◌, ◌≤◌}
use mathlib.Core.Path.{◌≡◌, refl, ap, ap₂, ◌∙◌, subst}
use mathlib.Core.Logic.{◌≢◌}
use mathlib.Core.List.{List, [], ◌∷◌}
use native.Mathlib.Nat.{mul-le-mul_left}
use native.Mathlib.Omega.{arith}
use lib.ListN.{length}
use lib.IntN.{ℤ, pos, ◌+ℤ◌, ◌-ℤ◌, ◌*ℤ◌}
use lib.Signed.{◌≤ℤ◌}
use Rattle.quantities.specs.Inner.Linear.{whole, +is, -is, *is}
use Rattle.quantities.specs.Delay.{delay}
use Rattle.tree.specs.Lists.{sum_over, count, down, range}
use Rattle.tree.specs.Net.{Net, size, required, sink_at}
use Rattle.tree.specs.Tree.{Tree, parent, parent_of, Legal, LegalTree}
use Rattle.tree.specs.Settling.{settled_tree}
use Rattle.tree.specs.Weights.{weight_of}
use Rattle.tree.proofs.Laws.Lists.Sums.{delta_self, sum_over_cong, sum_over_mono, sum_over_scale, sum_over-add, down_once}
use Rattle.tree.proofs.Laws.Trees.Growing.{PartTree}
use Rattle.tree.proofs.Laws.Kraft.GapSums.{depth_in}
use Rattle.tree.proofs.Laws.Trees.LegalTrees.{legal_tree, sum_down}
use Rattle.tree.proofs.Laws.Planning.BeforeSettling.{sum_over_range}
use Rattle.tree.proofs.Laws.Kraft.Rivals.{way_delay, far}
use Rattle.tree.proofs.Laws.Measures.VertexDelays.{between, between_metric, place_sink, slack_is}
use Rattle.tree.proofs.Laws.Settling.SlackKept.{settled_legal, settled_is}
use Rattle.tree.proofs.Laws.Trees.Defects.{range_in}
use Rattle.weighted_tree.specs.Joining.{joined_parents, weighted_tree}
use Rattle.weighted_tree.specs.WeightedDelay.{sum_over_ℤ, sink_delay, weighted_delay, LeastWeighted}
use Rattle.weighted_tree.proofs.Laws.Exchange.{cost}
use Rattle.weighted_tree.proofs.Laws.Joins.{joined_legal, joined_best}

-- ---- whole numbers that are natural

minus_minus : (a : ℤ) (z : ℕ) → a -ℤ (a -ℤ pos z) ≡ pos z
minus_minus a z = omega (arith, whole, -is a (pos z), -is a (a -ℤ pos z))

minus_minus₂ : (a : ℤ) (y z : ℕ) → a -ℤ (a -ℤ pos y -ℤ pos z) ≡ pos (y + z)
minus_minus₂ a y z = omega (arith, whole, -is a (pos y), -is (a -ℤ pos y) (pos z), -is a (a -ℤ pos y -ℤ pos z))

sum_natural : (l : List ℕ) (w e : ℕ → ℕ) (f : ℕ → ℤ) → ((s : ℕ) → count s l ≢ 0 → f s ≡ pos (e s)) → sum_over_ℤ l (λ s. pos (w s) *ℤ f s) ≡ pos (sum_over l (λ s. w s * e s))
sum_natural [] w e f h = refl
sum_natural (x ∷ l) w e f h =
    ap₂ (λ (a b : ℤ). pos (w x) *ℤ a +ℤ b) (h x (omega (arith, delta_self x))) (sum_natural l w e f (λ s q. h s (omega arith)))
    ∙ (let z : ℕ = e x in omega (arith, whole, *is (pos (w x)) z, +is (pos (w x) *ℤ pos z) (pos (sum_over l (λ s. w s * e s)))))

module _ (N : Net) where
  abbrev n : ℕ
  n = size N

  in_range : (s : ℕ) → count s (range 1 n) ≢ 0 → (1 ≤ s) × (s ≤ n)
  in_range s q = omega (arith, range_in 1 n s q)

  -- the delay of the straight wire to sink s
  abbrev wire : ℕ → ℕ
  wire s = delay N.wire N.root (sink_at N s)

  -- ---- any legal tree: the wire is at least the straight one

  module _ (R : Tree) (L : LegalTree N R) where
    abbrev F : ℕ
    F = length R.parents

    len : 2 * n - 1 ≡ F
    len = omega (arith, L.shape.size)

    tree : PartTree n (down 0 n) (n - 1) F (parent R)
    tree = rw len at (legal_tree n R.parents L.shape)

    mem : (s : ℕ) → 1 ≤ s → s ≤ n → count s (down 0 n) ≢ 0
    mem s h l = omega (arith, down_once 0 n s h (omega arith))

    abbrev way : ℕ → ℕ
    way s = way_delay (between N R) (parent R) F s + depth_in F (parent R) s * N.branch

    delay_is : (s : ℕ) → 1 ≤ s → s ≤ n → sink_delay N R s ≡ pos (way s)
    delay_is s h l = ap (λ z. required N s -ℤ z) (slack_is N R tree s (mem s h l)) ∙ minus_minus (required N s) (way s)

    wire_le : (s : ℕ) → 1 ≤ s → s ≤ n → wire s ≤ way_delay (between N R) (parent R) F s
    wire_le s h l =
        let e : between N R 0 s ≡ wire s = ap (delay N.wire N.root) (place_sink N R s h l) in
        omega (arith, far (between_metric N R) (parent R) F s (tree.reach s (omega (arith, mem s h l))))

    rival_is : (w : List ℕ) → weighted_delay N w R ≡ pos (sum_over (range 1 n) (λ s. weight_of w s * way s))
    unfolding weighted_delay
    rival_is w = sum_natural (range 1 n) (weight_of w) way (sink_delay N R) (λ s q. delay_is s (in_range s q).0 (in_range s q).1)

  -- ---- the settled tree: just that

  module _ (P : List ℕ) (L : Legal n P) where
    settled_delay : (s : ℕ) → 1 ≤ s → s ≤ n → sink_delay N (settled_tree N P) s ≡ pos (wire s + depth_in (length P) (parent_of P) s * N.branch)
    settled_delay s h l = ap (λ z. required N s -ℤ z) (settled_is N P L s h l) ∙ minus_minus₂ (required N s) (wire s) (depth_in (length P) (parent_of P) s * N.branch)

    plan_is : (w : List ℕ) → weighted_delay N w (settled_tree N P) ≡ pos (sum_over (range 1 n) (λ s. weight_of w s * (wire s + depth_in (length P) (parent_of P) s * N.branch)))
    unfolding weighted_delay
    plan_is w = sum_natural (range 1 n) (weight_of w) _ (sink_delay N (settled_tree N P)) (λ s q. settled_delay s (in_range s q).0 (in_range s q).1)

  -- ---- the two sums

  split_sum : (w d e : ℕ → ℕ) (c : ℕ) (l : List ℕ) → sum_over l (λ s. w s * (e s + d s * c)) ≡ sum_over l (λ s. w s * e s) + c * sum_over l (λ s. w s * d s)
  split_sum w d e c l =
      sum_over_cong l (λ s. w s * (e s + d s * c)) (λ s. w s * e s + c * (w s * d s)) (λ s q. omega arith)
      ∙ sum_over-add l (λ s. w s * e s) (λ s. c * (w s * d s)) ∙ ap (λ z. sum_over l (λ s. w s * e s) + z) (sum_over_scale l c (λ s. w s * d s))

  as_cost : (w d : ℕ → ℕ) → sum_over (range 1 n) (λ s. w s * d s) ≡ cost (down 0 n) w d
  as_cost w d = sum_over_range 1 n (λ s. w s * d s) ∙ sum_down 0 n (λ s. w s * d s)

  module _ (w : List ℕ) (n1 : 1 ≤ n) where
    abbrev P : List ℕ
    P = joined_parents n w

    shape : Legal n P
    shape = joined_legal n w n1

    legal : LegalTree N (weighted_tree N w)
    unfolding weighted_tree
    legal = settled_legal N P shape

    least : (R : Tree) → LegalTree N R → weighted_delay N w (weighted_tree N w) ≤ℤ weighted_delay N w R
    unfolding weighted_tree
    least R L =
        let Q : List ℕ = R.parents in
        let v : ℕ → ℕ = weight_of w in
        let c : ℕ = N.branch in
        let dP : ℕ → ℕ = depth_in (length P) (parent_of P) in
        let dQ : ℕ → ℕ = depth_in (length Q) (parent_of Q) in
        let q : ℕ → ℕ = way_delay (between N R) (parent_of Q) (length Q) in
        let lP : 2 * n - 1 ≡ length P = omega (arith, shape.size) in
        let lQ : 2 * n - 1 ≡ length Q = omega (arith, L.shape.size) in
        let best : cost (down 0 n) v dP ≤ cost (down 0 n) v dQ = rw lQ at (subst (λ m. cost (down 0 n) v (depth_in m (parent_of P)) ≤ cost (down 0 n) v (depth_in (2 * n - 1) (parent_of Q))) lP (joined_best n w n1 Q L.shape)) in
        let wires : sum_over (range 1 n) (λ s. v s * wire s) ≤ sum_over (range 1 n) (λ s. v s * q s) = sum_over_mono (range 1 n) (λ s. v s * wire s) (λ s. v s * q s) (λ s m. mul-le-mul_left (v s) (wire_le R L s (in_range s m).0 (in_range s m).1)) in
        let sums : sum_over (range 1 n) (λ s. v s * (wire s + dP s * c)) ≤ sum_over (range 1 n) (λ s. v s * (q s + dQ s * c)) =
        omega (arith, split_sum v dP wire c (range 1 n), split_sum v dQ q c (range 1 n), wires, ap (λ z. c * z) (as_cost v dP), ap (λ z. c * z) (as_cost v dQ), mul-le-mul_left c best) in
        omega (arith, whole, plan_is P shape w, rival_is R L w, sums)

pub least_weighted : (N : Net) (w : List ℕ) → 1 ≤ size N → LeastWeighted N w
least_weighted N w n1 = record { legal = legal N w n1; least = least N w n1 }
