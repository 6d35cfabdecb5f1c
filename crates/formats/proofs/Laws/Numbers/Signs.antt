-- A magnitude below the cap and its sign, as a signed number of 64 bits. Assumes nothing.
use Prim.Native.Nat.{ℕ, zero, suc, ◌<◌}
use mathlib.Core.Path.{◌≡◌}
use mathlib.Core.Bool.{true}
use native.Mathlib.Omega.{arith}
use lib.IntN.{pos, negsuc, ◌-ℤ◌, +ℤ_idl}
use mir.Syntax.{w64}
use mir.Val.{SFits, to_z, of_z}
use mir.Facts.{to_z-of_z}
use Rattle.formats.specs.Reading.Numbers.{signed}
use Rattle.formats.specs.Inner.Scanning.{magnitude_cap}

signed_minus : (n : ℕ) → pos 0 -ℤ pos n ≡ signed true n
signed_minus zero = +ℤ_idl (pos 0)
signed_minus (suc n) = +ℤ_idl (negsuc n)

minus_fits : (n : ℕ) → n < magnitude_cap → SFits w64 (signed true n)
minus_fits zero h = record { sfits = omega arith }
minus_fits (suc n) h = record { sfits = omega arith }

module _ (n : ℕ) (h : n < magnitude_cap) where
  pub plain_back : to_z w64 n ≡ pos n
  plain_back =
      let f : SFits w64 (pos n) = record { sfits = omega arith } in
      to_z-of_z f

  pub difference_fits : SFits w64 (pos 0 -ℤ to_z w64 n)
  difference_fits = rw (plain_back, signed_minus n) (minus_fits n h)

  pub minus_back : to_z w64 (of_z w64 (pos 0 -ℤ to_z w64 n)) ≡ signed true n
  minus_back = rw (plain_back, signed_minus n) (to_z-of_z (minus_fits n h))
