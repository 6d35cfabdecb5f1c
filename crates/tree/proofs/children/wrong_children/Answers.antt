-- The first vertex with a wrong number of children is found: the root by its count, else as the search over the branch points finds. No loop.
use Rattle.std.proofs.Common.{sym, ◌∙◌, arith, ◌*◌, ◌-◌, suc, ◌+◌}
use Rattle.tree.specs.Inner.Arrays.{parents_of}
use Rattle.tree.proofs.Laws.Lists.Searching.{find_is}
use Rattle.tree.proofs.Laws.Trees.Counting.{root_wrong, root_right}
use Rattle.tree.proofs.children.wrong_children.Goals as goal

pub returns-then-children-ne1 : goal.returns-then-children-ne1
returns-then-children-ne1 c =
    let a = c.args in
    let w = c.count_children in
    sym (root_wrong a.n (parents_of a.n a.parents.now) w.new.children c.requires.0.some w.ensures c.if-children-ne1.true)

pub returns : goal.returns
returns c =
    let a = c.args in
    let w = c.count_children in
    c.wrong_branch_point.ensures
    ∙ find_is _ (a.n + 1) (suc a.n) (a.n - 1) (2 * a.n) (omega arith) (omega arith)
    ∙ sym (root_right a.n (parents_of a.n a.parents.now) w.new.children c.requires.0.some w.ensures c.if-children-ne1.false)
