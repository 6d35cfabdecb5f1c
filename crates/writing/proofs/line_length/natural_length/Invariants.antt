-- How many digits n has: what is counted and the digits of what is left are the digits of n.
use Rattle.std.proofs.Common.{◌≡◌, ◌+◌, length}
use Rattle.formats.specs.Decimal.{show_nat}
use Rattle.writing.proofs.line_length.natural_length.Given as goal

abbrev pub invariant-loop-left : goal.invariant-loop-left
invariant-loop-left l = l.counted + length (show_nat l.left) ≡ length (show_nat l.n)

abbrev pub decreases-loop-left : goal.decreases-loop-left
decreases-loop-left l = l.left
