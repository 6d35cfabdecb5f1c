-- The listing stays where the plan has left it, a refusal goes to the buffers. No loop.
use Rattle.std.proofs.Common.{length, sym, ◌∙◌}
use Rattle.console.proofs.Laws.Answers.{planned_prints, unplanned_prints}
use Rattle.console.proofs.answer.print_plan.Goals as goal

pub returns-in-Ok-clause-answer : goal.returns-in-Ok-clause-answer
returns-in-Ok-clause-answer g c =
    let a = c.args in
    (planned_prints a.name.now a.out.now _ a.err.now (g.P.Planner.answers a.net.now (length a.out.now)) c.plan.ensures.output c.in-Ok.planned (sym c.in-Ok.is ∙ c.plan.ensures.answer)).0

pub returns-in-Ok-clause-complaint : goal.returns-in-Ok-clause-complaint
returns-in-Ok-clause-complaint g c =
    let a = c.args in
    (planned_prints a.name.now a.out.now _ a.err.now (g.P.Planner.answers a.net.now (length a.out.now)) c.plan.ensures.output c.in-Ok.planned (sym c.in-Ok.is ∙ c.plan.ensures.answer)).1

pub returns-in-Err-clause-answer : goal.returns-in-Err-clause-answer
returns-in-Err-clause-answer g c =
    let a = c.args in
    (unplanned_prints a.name.now a.out.now _ a.err.now (g.P.Planner.answers a.net.now (length a.out.now)) c.plan.ensures.output c.in-Err.refusal (sym c.in-Err.is ∙ c.plan.ensures.answer) _ _ _ _ c.print_refusal.ensures.answer c.print_refusal.ensures.complaint).0

pub returns-in-Err-clause-complaint : goal.returns-in-Err-clause-complaint
returns-in-Err-clause-complaint g c =
    let a = c.args in
    (unplanned_prints a.name.now a.out.now _ a.err.now (g.P.Planner.answers a.net.now (length a.out.now)) c.plan.ensures.output c.in-Err.refusal (sym c.in-Err.is ∙ c.plan.ensures.answer) _ _ _ _ c.print_refusal.ensures.answer c.print_refusal.ensures.complaint).1
