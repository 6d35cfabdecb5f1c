-- One sink more may be better, and a best one that keeps the worst slack ends the search.
use Rattle.std.proofs.Common.{◌≡◌, ℕ, suc, ◌-◌, ◌∙◌, sym, subst, get_or, ℤ, pos, arith, rules}
use Rattle.std.specs.Prelude.{◌≤ℤ◌}
use mir.Facts.{to_z-of_z}
use mir.Syntax.{w64}
use mir.Val.{SFits}
use Rattle.quantities.specs.Inner.Linear.{lt_z_not}
use Rattle.quantities.proofs.Laws.MinMax.{min_le_left}
use Rattle.tree.specs.SmallestSlack.{score_of}
use Rattle.first_tree.specs.Inner.Choice.{RoomiestFrom}
use Rattle.first_tree.proofs.Laws.Comparing.{le_says}
use Rattle.first_tree.proofs.Laws.Choosing.{roomiest_more, roomiest_all}
use Rattle.first_tree.proofs.choose.roomiest.Goals as goal

pub returns-then-le : goal.returns-then-le
returns-then-le c =
    let a = c.args in
    let best = c.loop-i.best in
    let f = score_of a.scoring.branch.0 a.scoring.slacks.now in
    let worst = get_or a.scoring.slacks.now 0 (pos 0) in
    let read : SFits w64 worst = search rules in
    let kept = subst (λ (z : ℤ). z ≤ℤ best.score.0) (c.of-worst.ensures ∙ to_z-of_z read) (le_says c.of-worst.result.0 best.score.0 (sym c.le.ensures ∙ c.if-le.true)) in
    roomiest_all f a.sinks.now a.m worst c.loop-i.i best (λ v. min_le_left _ _) (lt_z_not {a = best.score.0} {b = worst} kept) c.loop-i.invariant

pub loop-i-preserved : goal.loop-i-preserved
loop-i-preserved c =
    let a = c.args in
    let l = c.loop-i in
    let f = score_of a.scoring.branch.0 a.scoring.slacks.now in
    let i : ℕ = l.i - 1 in
    let e : l.i ≡ suc i = omega arith in
    roomiest_more f a.sinks.now a.m i l.best c.or_roomier-best.result (subst (λ (h : ℕ). RoomiestFrom f a.sinks.now h a.m l.best) e l.invariant) c.or_roomier-best.ensures
