-- Plan answers as its definition: a refused head at once, else from arrays that fit the number of sinks. No loop.
use Rattle.std.proofs.lemmas.Result.{err_from_is_err_and}
use Rattle.formats.proofs.Laws.Nets.NetTexts.{both_refuse}
use Rattle.operations.proofs.Laws.Planning.{refused_answer}
use Rattle.first_plan.proofs.plan.plan.Goals as goal

pub returns-in_err-head-clause-answer : goal.returns-in_err-head-clause-answer
returns-in_err-head-clause-answer c =
    let p = err_from_is_err_and c.from_residual.result c.from_residual.ensures.1 in
    rw (p.1, p.2) (refused_answer _ c.args.out.now _ (both_refuse _ _ c.in_err-head.ensures)).0

pub returns-in_err-head-clause-output : goal.returns-in_err-head-clause-output
returns-in_err-head-clause-output c = (refused_answer _ _ _ (both_refuse _ _ c.in_err-head.ensures)).1
