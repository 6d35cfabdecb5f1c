-- What the scanner's answers mean, by the declared types. Definitions alone.
use Rattle.std.specs.Prelude.{ℕ, ◌+◌, min, Bool, List, map, length, drop, ℤ, nat_abs, Option, Some, None}
use Rattle.formats.specs.Reading.Numbers.{Field, spelt, misspelt, lead, value, is_negative}
use Rattle.formats.specs.Reading.Rows.{Row, row, misspelled}
use Rattle.formats.specs.declared.number.Number.{Number}
use Rattle.formats.specs.declared.scan.Scanned.{Scanned}

-- every number of this magnitude or more is held as this one: it is out of every range
abbrev pub magnitude_cap : ℕ
magnitude_cap = 1_000_000_000_000_000_000

abbrev pub held_by : Bool → ℕ → Number
held_by neg v = record { neg = neg; mag = min v magnitude_cap }

abbrev pub held : ℤ → Number
held z = held_by (is_negative z) (nat_abs z)

-- the digits at a position of a text
abbrev pub run_at : Bool → List ℕ → ℕ → Scanned
run_at neg s at = record { number = held_by neg (value 0 (lead (drop at s))); next = at + length (lead (drop at s)) }

-- a number at a position, and where it ends
abbrev pub scanned_at : ℕ → Field → Option Scanned
scanned_at at (spelt neg v k) = Some (record { number = held_by neg v; next = at + k })
scanned_at at misspelt = None

-- the numbers of a row or a line at a position, and where the next line starts
abbrev pub line_at : ℕ → Row → Option (List Number × ℕ)
line_at at (row zs k) = Some (map held zs, at + k)
line_at at misspelled = None
