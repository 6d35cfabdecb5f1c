-- The gathered numbers, by the laws' terms and by the definitions', and what is got from them for each edge. Assumes nothing.
use Prim.Native.Nat.{ℕ, suc, ◌+◌, ◌*◌, ◌≤◌, ◌<◌}
use mathlib.Core.Path.{◌≡◌, sym, ap, ◌∙◌, subst}
use mathlib.Core.Logic.{◌≢◌}
use mathlib.Core.List.{List}
use native.Mathlib.Omega.{arith}
use lib.ListN.{get_or}
use lib.IntN.{ℤ, pos}
use Rattle.quantities.specs.Ranges.{Within}
use Rattle.quantities.specs.Inner.Reach.{time_reach}
use Rattle.tree.specs.Lists.{count, down}
use Rattle.tree.specs.Net.{Net, size}
use Rattle.tree.specs.Tree.{parent_of}
use Rattle.tree.specs.Measures.{slack, worst_over}
use Rattle.tree.specs.Planning.{tie_rule, parents_after}
use Rattle.tree.specs.Limits.{InRange}
use Rattle.tree.specs.SmallestSlack.{tree_after, sinks_in, next_sink, InTree, Gathered, score_of, worst_with}
use Rattle.tree.proofs.Laws.Trees.Growing.{PartTree}
use Rattle.tree.proofs.Laws.Planning.KeepsBest.{Least}
use Rattle.tree.proofs.Laws.Kraft.GapSums.{depth_in}
use Rattle.tree.proofs.Laws.Measures.InReach.{kept_within, kept_reach}
use Rattle.tree.proofs.Laws.Planning.Scores.{edge_score}
use Rattle.tree.proofs.Laws.Planning.Steps.{inserted, order_in, next_fresh, inserted_rising, inserted_in}
use Rattle.tree.proofs.Laws.Planning.TreeAfter.{g, t, to_vertex, from_vertex, slack_is, worst_least, enlarged, worst_root, least_under_lem, under_least}
use Rattle.tree.proofs.Laws.Trees.Under.{under_sink}
use Rattle.tree.proofs.Laws.Trees.Walks.{hops_le}
use Rattle.tree.proofs.Laws.Planning.WorstAfter.{LeastBelow, before}

-- the least under a sink is its own
sink_least : {N : ℕ} {S : List ℕ} {k F : ℕ} {p : ℕ → ℕ} (t : PartTree N S k F p) {f : ℕ → ℤ} (v : ℕ) (w : ℤ) → count v S ≢ 0 → LeastBelow p F v S f w → w ≡ f v
sink_least t {f} v w m l = sym l.is ∙ ap f (under_sink t v l.at m (omega (arith, l.in_list)) l.under)

module _ (N : Net) (c1 : 0 < N.branch) (k : ℕ) (kN : k < size N) where
  abbrev P : List ℕ
  P = parents_after tie_rule N k

  pub gathered_if : (slacks : List ℤ)
      → ((v : ℕ) → count v (inserted N k) + count v (down (size N) k) ≢ 0 → LeastBelow (parent_of P) (2 * k + 1) v (inserted N k) (before N k P) (get_or slacks v (pos 0)))
      → get_or slacks 0 (pos 0) ≡ worst_over N (tree_after N k) (sinks_in N k) → Gathered N k slacks
  gathered_if slacks least worst = record {
    root = worst ∙ sym (worst_root N c1 k kN);
    below = λ v h. let x = to_vertex N c1 k kN v h in least_under_lem N c1 k kN v x (get_or slacks v (pos 0)) (least v x);
  }

  module _ {slacks : List ℤ} (G : Gathered N k slacks) where
    pub gathered_least : (v : ℕ) → count v (inserted N k) + count v (down (size N) k) ≢ 0 → LeastBelow (parent_of P) (2 * k + 1) v (inserted N k) (before N k P) (get_or slacks v (pos 0))
    gathered_least v h = subst (LeastBelow (parent_of P) (2 * k + 1) v (inserted N k) (before N k P)) (sym (G.below v (from_vertex N c1 k kN v h))) (under_least N c1 k kN v h)

    pub gathered_sink : (s : ℕ) → count s (inserted N k) ≢ 0 → get_or slacks s (pos 0) ≡ slack N (tree_after N k) s
    gathered_sink s m = sink_least (t N c1 k kN) s (get_or slacks s (pos 0)) m (gathered_least s (omega arith)) ∙ sym (slack_is N c1 k kN s m)

    pub gathered_worst : get_or slacks 0 (pos 0) ≡ worst_over N (tree_after N k) (sinks_in N k)
    gathered_worst = G.root ∙ worst_root N c1 k kN

    -- what is got from the numbers for each edge is the enlarged tree's worst slack
    pub gathered_score : suc k < size N → (v : ℕ) → count v (inserted N k) + count v (down (size N) k) ≢ 0 → score_of (pos N.branch) slacks v ≡ worst_with N k v
    gathered_score kS v h =
        sym (edge_score N c1 (g N c1 k kN) (next_sink N k) (order_in N (suc k) kS).0 (order_in N (suc k) kS).1 (next_fresh N k kS) kS (inserted_rising N k kS) v h (get_or slacks 0 (pos 0)) (get_or slacks v (pos 0)) all (gathered_least v h))
        ∙ enlarged N c1 k kN kS v
      where
        all : Least (inserted N k) (before N k P) (get_or slacks 0 (pos 0))
        all = subst (Least (inserted N k) (before N k P)) (sym gathered_worst) (worst_least N c1 k kN)

-- ---- ranges

module _ (N : Net) (R : InRange N) where
  slack_within : (k : ℕ) (P : List ℕ) (s : ℕ) → k < size N → 1 ≤ s → s ≤ size N → Within time_reach (before N k P s)
  slack_within k P s kN s1 sN =
      kept_reach _ (kept_within N R s (depth_in (2 * k + 1) (parent_of P) s) s1 sN (omega (arith, hops_le (parent_of P) (2 * k + 1) (parent_of P s), R.sinks)))

  -- what is gathered is in range
  pub gathered_within : (k : ℕ) → k < size N → {slacks : List ℤ} → Gathered N k slacks → (v : ℕ) → InTree N k v → Within time_reach (get_or slacks v (pos 0))
  gathered_within k kN {slacks} G v h =
      let c1 : 0 < N.branch = R.branch.0 in
      let b : LeastBelow (parent_of (parents_after tie_rule N k)) (2 * k + 1) v (inserted N k) (before N k (parents_after tie_rule N k)) (get_or slacks v (pos 0)) = gathered_least N c1 k kN G v (to_vertex N c1 k kN v h) in
      let y : (1 ≤ b.at) × (b.at ≤ size N) = inserted_in N k kN b.at b.in_list in
      subst (Within time_reach) b.is (slack_within k (parents_after tie_rule N k) b.at kN y.0 y.1)
