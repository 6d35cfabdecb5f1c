-- The best edge to a sink: at i, the best to one of the sinks from place i on, with the score that was found (BestEdge).
use Rattle.std.proofs.Common.{◌≡◌, ℕ, ◌≤◌}
use Rattle.tree.specs.SmallestSlack.{score_of}
use Rattle.first_tree.specs.Inner.Choice.{far_at, BestEdge, SinkFrom}
use Rattle.first_tree.proofs.choose.or_nearer_sinks.Given as goal

abbrev pub invariant-loop-i : goal.invariant-loop-i
invariant-loop-i l =
    (l.best.score.0 ≡ l.fn.found.score.0)
    × ((m : ℕ) → l.left ≤ m → BestEdge (SinkFrom l.sinks l.left m) (score_of l.scoring.branch.0 l.scoring.slacks.now) (far_at l.pins.n l.pins.xs.now l.pins.ys.now l.s) l.fn.found
    → BestEdge (SinkFrom l.sinks l.i m) (score_of l.scoring.branch.0 l.scoring.slacks.now) (far_at l.pins.n l.pins.xs.now l.pins.ys.now l.s) l.best)
