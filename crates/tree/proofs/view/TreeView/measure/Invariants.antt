-- The vertices 1 to v - 1 are tallied: the worst slack of the sinks among them, and the wire (Tallied).
use Rattle.tree.specs.Inner.Measuring.{slack_at}
use Rattle.tree.specs.Inner.Views.{length_in}
use Rattle.tree.proofs.Laws.Measures.MeasuredArrays.{Tallied}
use Rattle.tree.proofs.view.TreeView.measure.Given as goal

abbrev pub invariant-loop-v : goal.invariant-loop-v
invariant-loop-v l = Tallied (slack_at l.slacks) (length_in l.self) l.self.n l.v l.so_far.slack.0 l.so_far.wire.0
