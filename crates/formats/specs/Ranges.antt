-- Ranges of numbers, and the numbers of a line by their places. Definitions alone.
use Rattle.std.specs.Prelude.{ℕ, List, get_or, ℤ, pos, neg_ℤ}
use Rattle.formats.specs.declared.ranges.Range.{Range}

-- ---- ranges; both ends are in

-- from -k to k, from 1 to k, from 0 to k
abbrev pub around : ℕ → Range
around k = record { from = neg_ℤ (pos k); to = pos k }

abbrev pub up_to : ℕ → Range
up_to k = record { from = pos 1; to = pos k }

abbrev pub from_zero : ℕ → Range
from_zero k = record { from = pos 0; to = pos k }

-- ---- the numbers of a line

-- the number at place i of a line
abbrev pub at : List ℤ → ℕ → ℤ
at zs i = get_or zs i (pos 0)
