-- Each step lists v as the last child so far of its parent.
use Rattle.std.proofs.Common.{arith}
use Rattle.tree.proofs.Laws.Settling.Children.{listed_step}
use Rattle.tree.proofs.settle.list_children.Goals as goal

pub loop-v-preserved : goal.loop-v-preserved
loop-v-preserved c =
    let w = c.loop-v in
    let a = c.args in
    let k = c.add_child in
    listed_step a.n a.parents.now c.requires.1 w.v w.kids k.new.kids (omega arith) (omega arith) (omega arith) (k.ensures.first, k.ensures.second) w.invariant
