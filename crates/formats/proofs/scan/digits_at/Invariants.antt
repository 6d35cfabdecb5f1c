-- A run of digits is read to its end: the number so far and the digits left come to the number of the whole run, up to the cap (Going).
use Rattle.formats.proofs.Laws.Numbers.Saturation.{Going}
use Rattle.formats.proofs.scan.digits_at.Given as goal

abbrev pub invariant-loop-i : goal.invariant-loop-i
invariant-loop-i l = Going l.neg l.text l.from l.number l.i
