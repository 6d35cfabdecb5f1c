-- The listing is accepted over the net in the arrays or refused; what is accepted has true measures, and the maximum is the net's. No loop.
use Rattle.std.proofs.lemmas.Result.{err_from_is_err_and}
use Rattle.tree.specs.Inner.Arrays.{net_of, weights_of}
use Rattle.formats.specs.Inner.ListingReader.{listing_held}
use Rattle.operations.proofs.Laws.AcceptedOver.{judge_over_refused}
use Rattle.judging.proofs.Laws.Measuring.{judged_refused, judged_value}
use Rattle.judging.proofs.judge.judge_within.Goals as goal

pub returns-in_err-measures : goal.returns-in_err-measures
returns-in_err-measures g c =
    let p = err_from_is_err_and c.from_residual.result c.from_residual.ensures.1 in
    rw (p.1, p.2) (judged_refused _ _ _ (judge_over_refused _ _ _ c.in_err-measures.ensures.accepted))

pub returns : goal.returns
returns g c =
    let head = c.args.head in
    let a = c.accept_over.new in
    let m = c.in_ok-measures in
    let range = m.ensures.held.0.in_range in
    judged_value _ _ (record { net = net_of head.header head.n a.xs a.ys a.required; weights = weights_of head.n a.weights }) (listing_held m.measures.slack m.measures.wire head.n a.parents a.xs a.ys) m.ensures.accepted range.branch.0 range.sinks.0 _ c.kraft_maximum-best.ensures
