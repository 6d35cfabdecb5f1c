-- What the sink adds is its distance from the median, all points being in range. No loop.
use Rattle.std.proofs.Common.{sym, subst}
use Rattle.quantities.specs.Ranges.{PointWithin}
use Rattle.quantities.specs.Inner.Reach.{coordinate_reach}
use Rattle.short_tree.proofs.Laws.EdgeSearch.{stands_reach, meets_reach}
use Rattle.short_tree.proofs.edge.Grown.edge_to.Goals as goal

pub distance-added-requires : goal.distance-added-requires
distance-added-requires c =
    let a = c.args in
    let r = c.requires in (
      subst (PointWithin coordinate_reach) (sym c.meeting-m.ensures) (meets_reach a.self.reaches a.s a.v r.2 r.0 r.1),
      subst (PointWithin coordinate_reach) (sym c.at.ensures) (stands_reach a.self.reaches a.s r.2),
    )
