-- The best edge to a sink: the roomiest sink is the best of those from its place on, and those before it score no more. No loop.
use Rattle.std.proofs.Common.{refl, ◌∙◌, sym, subst, get_or, ℤ, pos, arith}
use Rattle.std.specs.Prelude.{◌≤ℤ◌}
use Rattle.quantities.proofs.Laws.MinMax.{min_le_left}
use Rattle.tree.specs.SmallestSlack.{score_of}
use Rattle.first_tree.specs.Inner.Choice.{far_at}
use Rattle.first_tree.proofs.Laws.Comparing.{edge_is, far_sink}
use Rattle.first_tree.proofs.Laws.Choosing.{roomiest_best, all_sinks}
use Rattle.first_tree.proofs.choose.best_sink.Goals as goal

pub or_nearer_sinks-requires-clause-by_index_2 : goal.or_nearer_sinks-requires-clause-by_index_2
or_nearer_sinks-requires-clause-by_index_2 c =
    let r = c.roomiest-place in
    let R = r.ensures in
    ((λ i l. R.largest i (omega arith) (omega (arith, R.inside))), subst (λ (z : ℤ). z ≤ℤ get_or c.args.scoring.slacks.now 0 (pos 0)) (sym R.is) (min_le_left _ _))

pub returns : goal.returns
returns c =
    let a = c.args in
    let r = c.roomiest-place in
    let f = score_of a.scoring.branch.0 a.scoring.slacks.now in
    let d = far_at a.pins.n a.pins.xs.now a.pins.ys.now a.s in
    let u = get_or a.sinks.now r.result.place 0 in
    let q = c.requires.by_index r.result.place r.ensures.inside in
    let far = c.far_apart.ensures ∙ far_sink a.pins.n a.pins.xs.now a.pins.ys.now a.s u q.0 in
    let found = roomiest_best f d a.sinks.now a.m r.result _ r.ensures (edge_is f d _ u refl r.ensures.is far) in
    all_sinks f d a.sinks.now a.m c.or_nearer_sinks.result (c.or_nearer_sinks.ensures a.m (omega (arith, r.ensures.inside)) found)
