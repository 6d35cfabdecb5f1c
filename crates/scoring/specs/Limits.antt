-- The ranges of 02's request 8, each once. Definitions alone.
use Rattle.std.specs.Prelude.{ℕ, ℤ, pos, ◌≤ℤ◌}

-- "made from A/1024 and B/1024 with A and B from 0 to 1,024": the parts that a weight of 1 has
abbrev pub parts : ℕ
parts = 1_024

-- "the cap is a whole number from 0 to 1,000,000,000,000"
abbrev pub cap_limit : ℕ
cap_limit = 1_000_000_000_000

-- "min(..) is below -1,000,000,000,000": minus this is the least that is scored
abbrev pub late_limit : ℕ
late_limit = 1_000_000_000_000

-- z is from 0 to k
abbrev pub FromZero : ℕ → ℤ → Type 0
FromZero k z = (pos 0 ≤ℤ z) × (z ≤ℤ pos k)
