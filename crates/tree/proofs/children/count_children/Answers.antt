-- Each step counts one child more for the parent of v; no count exceeds the number of vertices.
use Rattle.std.proofs.Common.{arith, get_or, ◌*◌}
use Rattle.tree.proofs.Laws.Trees.Counting.{counted_le, counted_more}
use Rattle.tree.proofs.children.count_children.Goals as goal

pub overflow_add-children : goal.overflow_add-children
overflow_add-children c =
    let a = c.args in
    let w = c.loop-v in
    let inside = c.requires.0.inside w.v (omega arith) (omega arith) in
    omega (arith, counted_le a.parents.now (2 * a.n) w.children w.v w.invariant (get_or a.parents.now w.v 0) inside)

pub loop-v-preserved : goal.loop-v-preserved
loop-v-preserved c =
    let a = c.args in
    let w = c.loop-v in
    let inside = c.requires.0.inside w.v (omega arith) (omega arith) in
    counted_more a.parents.now (2 * a.n) w.children w.v w.invariant (omega arith) (omega arith) inside
