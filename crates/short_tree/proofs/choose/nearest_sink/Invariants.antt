-- Sink by sink: of those before s the best is the nearest, the lowest on a tie.
use Rattle.std.proofs.Common.{◌+◌, ◌≤◌}
use Rattle.quantities.specs.Distance.{distance}
use Rattle.tree.specs.Inner.Arrays.{point_at}
use Rattle.short_tree.specs.Inner.Searching.{First}
use Rattle.short_tree.proofs.Laws.SinkSearch.{Before, Any}
use Rattle.short_tree.proofs.choose.nearest_sink.Given as goal

abbrev pub invariant-loop-s : goal.invariant-loop-s
invariant-loop-s l = record {
  within : l.s ≤ l.n + 1;
  first : First (λ u. distance (point_at l.xs l.ys 0) (point_at l.xs l.ys u)) (Before Any l.s) l.best;
}
