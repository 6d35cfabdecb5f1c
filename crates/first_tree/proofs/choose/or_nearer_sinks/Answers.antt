-- The sink at place i scores no more than what was found, and the nearer of it and the best so far is the best from place i on.
use Rattle.std.proofs.Common.{◌≡◌, refl, ℕ, suc, ◌-◌, ◌∙◌, ap, subst, get_or, arith}
use Rattle.quantities.specs.Inner.Linear.{whole}
use Rattle.tree.specs.SmallestSlack.{score_of}
use Rattle.first_tree.specs.declared.choose.Edge.{Edge}
use Rattle.first_tree.specs.Inner.Choice.{far_at, edge_to, BestEdge, SinkFrom}
use Rattle.first_tree.proofs.Laws.Comparing.{first_keeps}
use Rattle.first_tree.proofs.Laws.Choosing.{next_sink_lem}
use Rattle.first_tree.proofs.choose.or_nearer_sinks.Goals as goal

pub loop-i-init : goal.loop-i-init
loop-i-init c = (refl, λ m l B. B)

pub or_nearer_sink-best-requires-clause-u_bound : goal.or_nearer_sink-best-requires-clause-u_bound
or_nearer_sink-best-requires-clause-u_bound c =
    let p = c.requires.by_index_2 in
    let l = c.loop-i in
    let no_more = p.0 (l.i - 1) (omega arith) in
    let below = p.1 in
    (omega (arith, whole, l.invariant.0), omega (arith, whole, l.invariant.0))

pub loop-i-preserved : goal.loop-i-preserved
loop-i-preserved c =
    let a = c.args in
    let l = c.loop-i in
    let f = score_of a.scoring.branch.0 a.scoring.slacks.now in
    let d = far_at a.pins.n a.pins.xs.now a.pins.ys.now a.s in
    let r = c.or_nearer_sink-best in
    let i : ℕ = l.i - 1 in
    let no_more = c.requires.by_index_2.0 i (omega arith) in
    let e : l.i ≡ suc i = omega arith in (
      ap (λ (x : Edge). x.score.0) r.ensures ∙ first_keeps (edge_to f d (get_or a.sinks.now i 0)) l.best (omega (arith, whole, l.invariant.0)) ∙ l.invariant.0,
      λ m h B. next_sink_lem f d a.sinks.now m i l.best r.result (omega arith) (subst (λ (h : ℕ). BestEdge (SinkFrom a.sinks.now h m) f d l.best) e (l.invariant.1 m h B)) r.ensures,
    )

pub returns : goal.returns
returns c m h B =
    let a = c.args in
    let l = c.loop-i in
    let e : l.i ≡ 0 = omega arith in
    subst (λ (h : ℕ). BestEdge (SinkFrom a.sinks.now h m) (score_of a.scoring.branch.0 a.scoring.slacks.now) (far_at a.pins.n a.pins.xs.now a.pins.ys.now a.s) l.best) e (l.invariant.1 m h B)
