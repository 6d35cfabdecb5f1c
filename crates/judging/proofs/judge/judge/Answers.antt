-- A refused head is told at once; else the answer is from arrays that fit the number of sinks. No loop.
use Rattle.std.proofs.lemmas.Result.{err_from_is_err_and}
use Rattle.formats.proofs.Laws.Nets.NetTexts.{both_refuse}
use Rattle.operations.proofs.Laws.Answers.{judge_refused}
use Rattle.judging.proofs.Laws.Measuring.{judged_refused}
use Rattle.judging.proofs.judge.judge.Goals as goal

pub returns-in_err-head : goal.returns-in_err-head
returns-in_err-head c =
    let p = err_from_is_err_and c.from_residual.result c.from_residual.ensures.1 in
    rw (p.1, p.2) (judged_refused _ _ _ (judge_refused _ _ (both_refuse _ _ c.in_err-head.ensures) _))
