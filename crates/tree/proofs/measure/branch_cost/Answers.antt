-- What a vertex costs besides its edge, c for a branch point and 0 for a sink: the test is that of the contract. No loop.
use Rattle.std.proofs.Common.{refl}
use Rattle.tree.proofs.Laws.Measures.Spending.{branch_point_cost, sink_cost}
use Rattle.tree.proofs.measure.branch_cost.Goals as goal

pub returns-then-n-v : goal.returns-then-n-v
returns-then-n-v c =
    let e = branch_point_cost c.args.header c.requires _ _ _ c.if-n-v.true refl in
    record { cost = e.0; range = e.1 }

pub returns-else-n-v : goal.returns-else-n-v
returns-else-n-v c =
    let e = sink_cost c.args.header c.requires _ _ _ c.if-n-v.false c.of.ensures in
    record { cost = e.0; range = e.1 }
