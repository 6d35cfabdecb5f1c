-- The listing is accepted over the net in the arrays or refused; its measures are told. No loop.
use Rattle.judging.proofs.Laws.Measuring.{measures_told}
use Rattle.judging.proofs.judge.measured_within.Goals as goal

pub returns : goal.returns
returns g c =
    let head = c.args.head in
    let a = c.accept_over.new in
    measures_told _ _ head.header head.n a.xs a.ys a.required a.weights a.parents c.accept_over.result c.accept_over.ensures.accepted
