-- The branch points among the first of the order stand in place, root and sinks as they stood (Settled).
use Rattle.tree.proofs.Laws.Settling.SettleLoop.{Settled}
use Rattle.tree.proofs.settle.settle.Given as goal

abbrev pub invariant-loop-v : goal.invariant-loop-v
invariant-loop-v l = Settled l.n l.parents l.upward l.fn.xs l.fn.ys l.v-index l.xs l.ys
