-- What is spent on the way to the first of the order stands in the array (Spent).
use Rattle.tree.proofs.Laws.Measures.Spending.{Spent}
use Rattle.tree.proofs.view.TreeView.spend.Given as goal

abbrev pub invariant-loop-v : goal.invariant-loop-v
invariant-loop-v l = Spent l.header l.self.n l.self.parents.now l.self.xs.now l.self.ys.now l.queue l.v-index l.spent
