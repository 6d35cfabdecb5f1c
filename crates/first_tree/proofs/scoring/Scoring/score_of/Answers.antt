-- An edge's score, the lesser of the worst slack and of what is left under v: of gathered numbers it is the enlarged tree's worst slack. No loop.
use Rattle.std.proofs.Common.{◌≡◌, ap, ap₂, ◌∙◌, get_or, ℤ, pos, ◌-ℤ◌, rules}
use mir.Facts.{to_z-of_z}
use mir.Syntax.{w64}
use mir.Val.{SFits}
use Rattle.quantities.specs.declared.time.Time.{Time}
use Rattle.quantities.specs.MinMax.{min_ℤ}
use Rattle.quantities.proofs.Laws.Times.{least_of}
use Rattle.tree.specs.SmallestSlack.{score_of}
use Rattle.tree.proofs.Laws.Gathering.SmallestSlack.{smallest_slack}
use Rattle.first_tree.proofs.scoring.Scoring.score_of.Goals.{After-min}
use Rattle.first_tree.proofs.scoring.Scoring.score_of.Goals as goal

number : (c : After-min) → c.min.result.0 ≡ score_of c.args.self.branch.0 c.args.self.slacks.now c.args.v
number c =
    let a = c.args in
    let at_root : SFits w64 (get_or a.self.slacks.now 0 (pos 0)) = search rules in
    let at_v : SFits w64 (get_or a.self.slacks.now a.v (pos 0)) = search rules in
    ap (λ (t : Time). t.0) c.min.ensures ∙ least_of _ _ ∙ ap₂ min_ℤ (c.of-worst.ensures ∙ to_z-of_z at_root) (c.sub-room.ensures ∙ ap (λ (z : ℤ). z -ℤ a.self.branch.0) (c.of-under.ensures ∙ to_z-of_z at_v))

pub returns-clause-number : goal.returns-clause-number
returns-clause-number c = number c

pub returns-clause-worst : goal.returns-clause-worst
returns-clause-worst c N j c1 e l G h =
    let a = c.args in
    number c ∙ ap (λ (z : ℤ). score_of z a.self.slacks.now a.v) e ∙ (smallest_slack N c1).tried j l a.self.slacks.now G a.v h
