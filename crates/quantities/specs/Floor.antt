-- Division of a whole number by a natural one. Definitions alone.
use Rattle.std.specs.Prelude.{ℕ, ◌/◌, ℤ, pos, negsuc}

-- "Floor goes down, also below zero: floor(-1/20) = -1."
unfoldable pub floor_div : ℤ → ℕ → ℤ
floor_div (pos n) c = pos (n / c)
floor_div (negsuc n) c = negsuc (n / c)
