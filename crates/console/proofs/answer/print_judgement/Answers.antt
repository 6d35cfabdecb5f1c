-- The measures go to the buffer, or the refusal to both.
use Rattle.std.proofs.Common.{sym, ◌∙◌}
use Rattle.operations.specs.Answers.{judge_of}
use Rattle.console.proofs.Laws.Rooms.{prints}
use Rattle.console.proofs.Laws.Judgements.{answer_in_range}
use Rattle.console.proofs.Laws.Answers.{judged_prints, unjudged_prints}
use Rattle.console.proofs.answer.print_judgement.Goals as goal

pub put_measures-requires-clause-within : goal.put_measures-requires-clause-within
put_measures-requires-clause-within c =
    let a = c.args in
    answer_in_range a.net.now a.listing.now c.in-Ok.judged (sym c.in-Ok.is ∙ c.judge.ensures)

pub returns-in-Ok-clause-answer : goal.returns-in-Ok-clause-answer
returns-in-Ok-clause-answer c =
    let a = c.args in
    (judged_prints a.net_name.now a.listing_name.now a.out.now a.err.now (judge_of a.net.now a.listing.now) c.in-Ok.judged (sym c.in-Ok.is ∙ c.judge.ensures) _ _ (prints _ _ _ _ c.put_measures.ensures)).0

pub returns-in-Ok-clause-complaint : goal.returns-in-Ok-clause-complaint
returns-in-Ok-clause-complaint c =
    let a = c.args in
    (judged_prints a.net_name.now a.listing_name.now a.out.now a.err.now (judge_of a.net.now a.listing.now) c.in-Ok.judged (sym c.in-Ok.is ∙ c.judge.ensures) _ _ (prints _ _ _ _ c.put_measures.ensures)).1

pub returns-in-Err-clause-answer : goal.returns-in-Err-clause-answer
returns-in-Err-clause-answer c =
    let a = c.args in
    (unjudged_prints a.net_name.now a.listing_name.now a.out.now a.err.now (judge_of a.net.now a.listing.now) c.in-Err.refusal (sym c.in-Err.is ∙ c.judge.ensures) _ _ _ _ c.print_refusal.ensures.answer c.print_refusal.ensures.complaint).0

pub returns-in-Err-clause-complaint : goal.returns-in-Err-clause-complaint
returns-in-Err-clause-complaint c =
    let a = c.args in
    (unjudged_prints a.net_name.now a.listing_name.now a.out.now a.err.now (judge_of a.net.now a.listing.now) c.in-Err.refusal (sym c.in-Err.is ∙ c.judge.ensures) _ _ _ _ c.print_refusal.ensures.answer c.print_refusal.ensures.complaint).1
