-- The figures of the tree by switching weights are in the listing's ranges, and it stays in the box of the pins: both hold of every settled tree. Assumes nothing.
use Prim.Native.Nat.{ℕ, ◌*◌, ◌≤◌, ◌<◌}
use mathlib.Core.List.{List}
use native.Mathlib.Omega.{arith}
use Rattle.quantities.specs.declared.point.Point.{Point}
use Rattle.quantities.specs.Inner.Linear.{whole}
use Rattle.quantities.specs.Ranges.{Within, PointWithin}
use Rattle.quantities.specs.Box.{InBox}
use Rattle.tree.specs.Net.{Net, size, sink_at}
use Rattle.tree.specs.Tree.{Legal, place}
use Rattle.tree.specs.Measures.{worst_slack, wire_length}
use Rattle.tree.specs.Settling.{settled_tree}
use Rattle.tree.specs.Limits.{position_limit, need_limit, slack_limit, wire_limit, InRange}
use Rattle.tree.proofs.Laws.Measures.FiguresInRange.{place_in_box, settled_within, settled_wire_range, settled_slack_range}
use Rattle.weighted_tree.specs.Joining.{joined_parents, weighted_tree}
use Rattle.weighted_tree.proofs.Laws.Joins.{joined_legal}

-- every vertex lies in each box that the root and the sinks lie in
pub boxed : (N : Net) (w : List ℕ) → 1 ≤ size N → (low high : Point) → ((v : ℕ) → v ≤ size N → InBox low high (sink_at N v)) → (v : ℕ) → v < 2 * size N → InBox low high (place N (weighted_tree N w) v)
unfolding weighted_tree
boxed N w n1 low high stands = place_in_box N (joined_parents (size N) w) low high stands (joined_legal (size N) w n1)

module _ (N : Net) (w : List ℕ) (R : InRange N) where
  legal : Legal (size N) (joined_parents (size N) w)
  legal = joined_legal (size N) w R.sinks.0

  pub weighted_within : (v : ℕ) → v < 2 * size N → PointWithin position_limit (place N (weighted_tree N w) v)
  unfolding weighted_tree
  weighted_within = settled_within N R (joined_parents (size N) w) legal

  pub weighted_wire_range : wire_length N (weighted_tree N w) ≤ wire_limit
  unfolding weighted_tree
  weighted_wire_range = settled_wire_range N R (joined_parents (size N) w) legal

  pub weighted_slack_range : Within slack_limit (worst_slack N (weighted_tree N w))
  unfolding weighted_tree
  weighted_slack_range =
      let s : Within need_limit (worst_slack N (settled_tree N (joined_parents (size N) w))) = settled_slack_range N R (joined_parents (size N) w) legal in
      omega (arith, whole)
