-- The vertices in the first places of the queue are marked, and no others (MarksQueued).
use Rattle.tree.specs.Inner.Descent.{MarksQueued}
use Rattle.tree.proofs.descend.mark_queued.Given as goal

abbrev pub invariant-loop-v : goal.invariant-loop-v
invariant-loop-v l = MarksQueued l.n l.queue l.v-index l.marks
