-- A number of 64 bits has 20 digits at most, and four go with each division.
use Rattle.std.proofs.Common.{arith}
use Rattle.formats.proofs.Laws.Numbers.Decimal.{show_nat-length}
use Rattle.formats.proofs.Laws.Listings.ListingLengths.{four_more}
use Rattle.writing.proofs.line_length.natural_length.Goals as goal

pub overflow_add-counted : goal.overflow_add-counted
overflow_add-counted c = omega (arith, c.loop-left.invariant, show_nat-length c.args.n 20 (omega arith) (omega arith))

pub loop-left-preserved : goal.loop-left-preserved
loop-left-preserved c = omega (arith, c.loop-left.invariant, four_more c.loop-left.left c.loop-left-test.true)

pub overflow_add-result : goal.overflow_add-result
overflow_add-result c = omega (arith, c.loop-left.invariant, c.few_digits.ensures, show_nat-length c.args.n 20 (omega arith) (omega arith))
