-- The numbers so far were found in their ranges, and stand in `values` (FoundSoFar).
use Rattle.formats.proofs.Laws.Numbers.Ranges.{FoundSoFar}
use Rattle.formats.proofs.ranges.in_ranges.Given as goal

abbrev pub invariant-loop-k : goal.invariant-loop-k
invariant-loop-k g l = FoundSoFar l.ranges l.numbers l.values l.k
