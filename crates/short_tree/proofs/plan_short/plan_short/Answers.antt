-- The second plan answers as its definition: a refused head at once, else from arrays that fit the number of sinks. No loop.
use Rattle.std.proofs.lemmas.Result.{err_from_is_err_and}
use Rattle.operations.specs.TreePlans.{ignoring_weights}
use Rattle.operations.proofs.Laws.TreePlans.{tree_refused_answer}
use Rattle.short_tree.specs.ShortTree.{short}
use Rattle.short_tree.proofs.plan_short.plan_short.Goals as goal

pub returns-in_err-head-clause-answer : goal.returns-in_err-head-clause-answer
returns-in_err-head-clause-answer c =
    let p = err_from_is_err_and c.from_residual.result c.from_residual.ensures.1 in
    rw (p.1, p.2) (tree_refused_answer (ignoring_weights short) _ c.args.out.now _ c.in_err-head.ensures).0

pub returns-in_err-head-clause-output : goal.returns-in_err-head-clause-output
returns-in_err-head-clause-output c = (tree_refused_answer (ignoring_weights short) _ _ _ c.in_err-head.ensures).1
