-- Each vertex has its children among 1 to v - 1 listed, the lower number first (Listed).
use Rattle.std.proofs.Common.{◌*◌, ◌-◌}
use Rattle.tree.specs.Tree.{parent_of}
use Rattle.tree.specs.Inner.Arrays.{parents_of}
use Rattle.tree.proofs.Laws.Settling.Children.{Listed}
use Rattle.tree.proofs.settle.list_children.Given as goal

abbrev pub invariant-loop-v : goal.invariant-loop-v
invariant-loop-v l = Listed (parent_of (parents_of l.n l.parents)) (2 * l.n) (l.v - 1) l.kids
