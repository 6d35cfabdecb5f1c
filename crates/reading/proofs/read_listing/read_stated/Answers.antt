-- The third line is refused as it is due; the rest is found. No loop.
use Rattle.std.proofs.lemmas.Result.{err_from_is_err_and}
use Rattle.reading.proofs.Laws.StatedLines.{count_refused}
use Rattle.reading.proofs.read_listing.read_stated.Goals as goal

pub returns-in_err-count : goal.returns-in_err-count
returns-in_err-count c =
    let slack = rw c.around.ensures at c.in_ok-slack.ensures in
    let wire = rw c.from_zero.ensures at c.in_ok-wire.ensures in
    let said = rw c.up_to.ensures at c.in_err-count.ensures in
    let p = err_from_is_err_and c.from_residual-in_err-count.result c.from_residual-in_err-count.ensures.1 in
    rw (p.1, p.2) (count_refused c.args.n c.args.lines.now c.requires c.in_ok-slack.slack c.number.new.self slack c.in_ok-wire.wire c.number-2.new.self wire _ said.0)
