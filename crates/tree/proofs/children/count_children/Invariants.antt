-- The children of each vertex among the vertices 1 to v - 1 are counted (Counted).
use Rattle.std.proofs.Common.{◌*◌}
use Rattle.tree.proofs.Laws.Trees.Counting.{Counted}
use Rattle.tree.proofs.children.count_children.Given as goal

abbrev pub invariant-loop-v : goal.invariant-loop-v
invariant-loop-v l = Counted l.parents (2 * l.n) l.children l.v
