-- What the edge above v costs: its delay and what v itself costs, whose sum is in range. No loop.
use Rattle.std.proofs.Common.{arith, sym, ap₂, ◌∙◌, subst, pos, ◌+ℤ◌}
use Rattle.quantities.specs.declared.point.Point.{Point}
use Rattle.quantities.specs.Delay.{delay}
use Rattle.quantities.specs.Inner.Linear.{whole, +is}
use Rattle.quantities.specs.Ranges.{PointWithin}
use Rattle.tree.specs.Limits.{position_limit}
use Rattle.tree.proofs.Laws.Measures.InReach.{point_reach, factors_reach, delay_limit_lem}
use Rattle.tree.proofs.Laws.Measures.MeasuredArrays.{long}
use Rattle.tree.proofs.view.TreeView.cost_above.Goals as goal

pub point-requires : goal.point-requires
point-requires c =
    let t = c.args.self in
    long t.n t.parents.now t.xs.now t.ys.now t.held _ (t.held.parents_in_lem.inside c.args.v c.requires.1.0 c.requires.1.1)

pub delay-edge-requires : goal.delay-edge-requires
delay-edge-requires c =
    let t = c.args.self in
    let p = t.held.parents_in_lem.inside c.args.v c.requires.1.0 c.requires.1.1 in (
      factors_reach _ c.requires.0.0,
      point_reach _ (subst (PointWithin position_limit) (sym c.point.ensures) (t.held.points_in_lem.near _ p)),
      point_reach _ (subst (PointWithin position_limit) (sym c.point-2.ensures) (t.held.points_in_lem.near _ c.requires.1.1)),
    )

pub add-requires : goal.add-requires
add-requires c =
    let t = c.args.self in
    let p = t.held.parents_in_lem.inside c.args.v c.requires.1.0 c.requires.1.1 in
    let d = delay_limit_lem _ _ _ c.requires.0.0
    (subst (PointWithin position_limit) (sym c.point.ensures) (t.held.points_in_lem.near _ p))
    (subst (PointWithin position_limit) (sym c.point-2.ensures) (t.held.points_in_lem.near _ c.requires.1.1)) in
    omega (arith, whole, c.delay-edge.ensures, c.branch_cost.ensures.range)

pub returns : goal.returns
returns c =
    let t = c.args.self in
    let p = t.held.parents_in_lem.inside c.args.v c.requires.1.0 c.requires.1.1 in
    let d = delay_limit_lem _ _ _ c.requires.0.0
    (subst (PointWithin position_limit) (sym c.point.ensures) (t.held.points_in_lem.near _ p))
    (subst (PointWithin position_limit) (sym c.point-2.ensures) (t.held.points_in_lem.near _ c.requires.1.1)) in
    let e = c.delay-edge.ensures ∙ ap₂ (λ (p q : Point). pos (delay c.args.header.wire p q)) c.point.ensures c.point-2.ensures in
    record {
      cost = c.add.ensures ∙ ap₂ ◌+ℤ◌ e c.branch_cost.ensures.cost;
      range = omega (arith, whole, c.add.ensures, c.delay-edge.ensures, c.branch_cost.ensures.range, +is c.delay-edge.result.0 c.branch_cost.result.0);
    }
