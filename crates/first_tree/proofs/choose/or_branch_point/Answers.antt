-- The best edge's end: no branch point scores more than the best sink, so one goes before it only where the root is nearer. No loop.
use Rattle.std.proofs.Common.{◌<◌, ◌≤◌, arith}
use Rattle.std.proofs.lemmas.Grind.{common_steps}
use Rattle.first_tree.proofs.Laws.Choosing.{root_nearer, root_no_nearer}
use Rattle.first_tree.proofs.choose.or_branch_point.Goals as goal

pub returns-then-lt : goal.returns-then-lt
returns-then-lt c sinks d small e roomier B =
    let a = c.args in
    let near : a.far.0 < a.best.far.0 = grind (arith, common_steps) in
    root_nearer a.scoring.branch.0 a.n a.k sinks a.scoring.slacks.now d a.best small e roomier B c.first_as_good.result near c.first_as_good.ensures

pub returns-else-lt : goal.returns-else-lt
returns-else-lt c sinks d small e roomier B =
    let a = c.args in
    let near : a.best.far.0 ≤ a.far.0 = grind (arith, common_steps) in
    root_no_nearer a.scoring.branch.0 a.n a.k sinks a.scoring.slacks.now d a.best small e roomier B near
