-- The one of two edges that goes first: the edge to u scores less, or as much as the best one, and then the nearer goes first. No loop.
use Rattle.std.proofs.Common.{refl, sym, ap, ◌∙◌, arith}
use Rattle.tree.specs.SmallestSlack.{score_of}
use Rattle.first_tree.specs.declared.choose.Edge.{Edge}
use Rattle.first_tree.specs.Inner.Choice.{far_at, first_of}
use Rattle.first_tree.proofs.Laws.Comparing.{room_behind, room_tied, edge_is, far_sink}
use Rattle.first_tree.proofs.choose.or_nearer_sink.Goals as goal

pub returns-then-lacks_room : goal.returns-then-lacks_room
returns-then-lacks_room c =
    let a = c.args in
    let d = far_at a.pins.n a.pins.xs.now a.pins.ys.now a.s in
    sym (room_behind a.scoring.branch.0 a.scoring.slacks.now a.u d a.best (sym c.lacks_room.ensures ∙ c.if-lacks_room.true))

pub returns : goal.returns
returns c =
    let a = c.args in
    let p = c.requires in
    let d = far_at a.pins.n a.pins.xs.now a.pins.ys.now a.s in
    let tied = room_tied a.scoring.branch.0 a.scoring.slacks.now a.u a.best.score.0 p.u_bound.0 p.u_bound.1 (sym c.lacks_room.ensures ∙ c.if-lacks_room.false) in
    let made = edge_is (score_of a.scoring.branch.0 a.scoring.slacks.now) d _ a.u refl tied (c.far_apart-far.ensures ∙ far_sink a.pins.n a.pins.xs.now a.pins.ys.now a.s a.u (omega arith)) in
    c.nearer_of.ensures ∙ ap (λ (x : Edge). first_of x a.best) made
