-- Binary64 numbers that are whole 1024ths: 02, request 8. Definitions alone.
-- A binary64 number is the library's `Float` (lib.Ieee): `fin s m e` is m × 2 ^ e, negative where s is true, and 2 ^ e is the fraction up e / down e.
use Rattle.std.specs.Prelude.{ℕ, ◌*◌, ◌≡◌, Bool, true, false, ℤ, pos, negsuc, neg_ℤ, nat_abs, ◌*ℤ◌, Float}
use Rattle.std.specs.Float.{nan, inf, fin, binary64}
use Rattle.std.specs.Float.Ieee.{up, down, round}
use Rattle.scoring.specs.Limits.{parts}

-- n with a sign
abbrev pub signed : Bool → ℕ → ℤ
signed true n = neg_ℤ (pos n)
signed false n = pos n

-- "1,024 times it is the whole number": 1,024 times x is z, as an equality of values. A zero may have either sign
abbrev pub Is1024ths : Float → ℤ → Type 0
Is1024ths nan z = ⊥
Is1024ths (inf s) z = ⊥
Is1024ths (fin s m e) z = signed s (m * up e * parts) ≡ z *ℤ pos (down e)

abbrev pub is_negative : ℤ → Bool
is_negative (pos n) = false
is_negative (negsuc n) = true

-- the binary64 number of z 1024ths: the one nearest to z / 1,024, with the sign of z, so that zero is plus zero
unfoldable pub of1024ths : ℤ → Float
of1024ths z = round binary64 (is_negative z) (nat_abs z) parts

-- "a zero score is plus zero"
abbrev pub plus_zero : Float
plus_zero = fin false 0 (pos 0)
