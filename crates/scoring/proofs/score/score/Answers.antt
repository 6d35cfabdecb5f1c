-- Judge's refusal is passed on, and what it accepts is scored by its measures. No loop.
use Rattle.std.proofs.Common.{◌≤◌, sym, ap, subst, ◌∙◌}
use Rattle.std.proofs.lemmas.Result.{err_from_is_err_and}
use mir.Facts.{to_z-of_z}
use Rattle.tree.specs.Limits.{wire_limit}
use Rattle.operations.specs.Answers.{judge_of}
use Rattle.operations.proofs.Laws.Judgements.{judged_in_range}
use Rattle.judging.proofs.Laws.Measuring.{measured_value, measured_refused}
use Rattle.scoring.specs.Scores.{scored, score_answer}
use Rattle.scoring.proofs.Laws.Scores.{score_refused, score_judged}
use Rattle.scoring.proofs.score.score.Goals as goal

pub returns-in_err-measures : goal.returns-in_err-measures
returns-in_err-measures c =
    let a = c.args in
    let p = err_from_is_err_and c.from_residual.result c.from_residual.ensures.1 in
    rw (p.1, p.2) (sym (ap score_answer (score_refused a.net.now a.listing.now a.alpha_1024ths a.beta_1024ths a.cap _ (measured_refused _ _ c.in_err-measures.ensures))))

pub score_measures-requires : goal.score_measures-requires
score_measures-requires c =
    let a = c.args in
    let j = measured_value (judge_of a.net.now a.listing.now) c.in_ok-measures.measures c.in_ok-measures.ensures in
    subst (λ l. l ≤ wire_limit) (sym j.1.2) (judged_in_range _ _ j.0 j.1.0).1

pub returns : goal.returns
returns c =
    let a = c.args in
    let j = measured_value (judge_of a.net.now a.listing.now) c.in_ok-measures.measures c.in_ok-measures.ensures in
    c.score_measures.ensures
    ∙ (λ i. score_answer (scored (to_z-of_z c.ranges.alpha_1024ths i) (to_z-of_z c.ranges.beta_1024ths i) (to_z-of_z c.ranges.cap i) (j.1.1 i) (j.1.2 i)))
    ∙ sym (ap score_answer (score_judged a.net.now a.listing.now a.alpha_1024ths a.beta_1024ths a.cap j.0 j.1.0))
