-- The numbers of a line that are in their ranges: each by its place, read back as it is, and cast. Assumes nothing.
use Prim.Native.Nat.{ℕ, zero, suc, ◌<◌, ◌^◌}
use mathlib.Core.Path.{◌≡◌, ap}
use mathlib.Core.Bool.{true, false≢true}
use mathlib.Core.List.{List, [], ◌∷◌}
use lib.ListN.{length, get_or}
use lib.Dec.{T}
use lib.IntN.{ℤ, pos, neg_ℤ, nat_abs}
use lib.Signed.{non_neg, ◌≤ℤ◌, ◌<ℤ◌}
use native.Mathlib.Omega.{arith}
use mir.Syntax.{w64}
use mir.Val.{Fits, SFits, to_z, of_z}
use mir.Facts.{to_z-of_z}
use Rattle.quantities.specs.Inner.Linear.{whole, nat_abs_is, neg_up, neg_dn}
use Rattle.formats.specs.Ranges.{at}
use Rattle.formats.specs.Reading.Lines.{inside, all_inside}
use Rattle.formats.specs.declared.ranges.Range.{Range}
use Rattle.formats.proofs.Laws.Lines.Due.{and_first, and_second, inside_bounds}

-- the number at a place is in the range there
pub inside_at : (ranges : List Range) (zs : List ℤ) (i : ℕ) (r : Range) → all_inside ranges zs ≡ true → i < length ranges → inside (get_or ranges i r) (at zs i) ≡ true
inside_at [] zs i r e h = absurd (omega arith)
inside_at (g ∷ ranges) [] i r e h = absurd (false≢true e)
inside_at (g ∷ ranges) (z ∷ zs) zero r e h = and_first _ _ e
inside_at (g ∷ ranges) (z ∷ zs) (suc i) r e h = inside_at ranges zs i r (and_second _ _ e) (omega arith)

-- a number in a range of 64 bits is read back as it is
module _ (g : Range) (low : neg_ℤ (pos (2 ^ 63)) ≤ℤ g.from) (high : g.to <ℤ pos (2 ^ 63)) (z : ℤ) (e : inside g z ≡ true) where
  pub number_fits : SFits w64 z
  number_fits = let b = inside_bounds g z e in omega (arith, whole, b.0, b.1, neg_up (pos (2 ^ 63)), neg_dn (pos (2 ^ 63)))

  pub number_back : to_z w64 (of_z w64 z) ≡ z
  number_back = to_z-of_z number_fits

-- a number in a range from 0 or 1 on is cast as it is
module _ (g : Range) (low : pos 0 ≤ℤ g.from) (high : g.to <ℤ pos (2 ^ 63)) (z : ℤ) (e : inside g z ≡ true) where
  natural_fits : SFits w64 z
  natural_fits = let b = inside_bounds g z e in omega (arith, whole, b.0, b.1)

  pub natural_is : nat_abs (to_z w64 (of_z w64 z)) ≡ nat_abs z
  natural_is = ap nat_abs (to_z-of_z natural_fits)

  pub natural_cast : T (non_neg (to_z w64 (of_z w64 z))) × Fits w64 (nat_abs (to_z w64 (of_z w64 z)))
  natural_cast = let b = inside_bounds g z e in rw (to_z-of_z natural_fits) (omega (arith, whole, b.0, b.1), omega (arith, whole, nat_abs_is z, b.0, b.1))
