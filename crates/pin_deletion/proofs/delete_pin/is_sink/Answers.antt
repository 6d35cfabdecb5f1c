-- Whether a number is that of a sink: the two ends one after the other. No loop.
use Rattle.pin_deletion.proofs.Laws.Deletions.{below_one, from_one}
use Rattle.pin_deletion.proofs.delete_pin.is_sink.Goals as goal

pub returns-then-s-ge1 : goal.returns-then-s-ge1
returns-then-s-ge1 c = from_one c.args.n c.args.s c.if-s-ge1.true

pub returns-else-s-ge1 : goal.returns-else-s-ge1
returns-else-s-ge1 c = below_one c.args.n c.args.s c.if-s-ge1.false
