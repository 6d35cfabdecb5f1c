-- The length of the edge above v: both its ends are vertices of the tree, in range, so the distance between them fits. No loop.
use Rattle.std.proofs.Common.{sym, ap₂, ◌∙◌, subst}
use Rattle.quantities.specs.Ranges.{PointWithin}
use Rattle.quantities.specs.Inner.Reach.{coordinate_reach}
use Rattle.quantities.specs.Distance.{distance}
use Rattle.tree.proofs.Laws.Measures.InReach.{point_reach}
use Rattle.tree.proofs.Laws.Measures.MeasuredArrays.{long}
use Rattle.tree.proofs.view.TreeView.edge_length.Goals as goal

pub point-requires : goal.point-requires
point-requires c =
    let t = c.args.self in
    long t.n t.parents.now t.xs.now t.ys.now t.held _ (t.held.parents_in_lem.inside c.args.v c.requires.0 c.requires.1)

pub distance-requires : goal.distance-requires
distance-requires c =
    let t = c.args.self in
    let p = t.held.parents_in_lem.inside c.args.v c.requires.0 c.requires.1 in (
      subst (PointWithin coordinate_reach) (sym c.point.ensures) (point_reach _ (t.held.points_in_lem.near _ p)),
      subst (PointWithin coordinate_reach) (sym c.point-2.ensures) (point_reach _ (t.held.points_in_lem.near _ c.requires.1)),
    )

pub returns : goal.returns
returns c = c.distance.ensures ∙ ap₂ distance c.point.ensures c.point-2.ensures
