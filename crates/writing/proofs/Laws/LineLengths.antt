-- How long a line is: the key, and each number with the byte after it. Assumes nothing.
use Rattle.std.proofs.Common.{◌≡◌, ℕ, zero, suc, ◌+◌, ◌*◌, ◌≤◌, List, [], ◌∷◌, length, get_or, ℤ, refl, ap, ◌∙◌, arith, length-append}
use Rattle.std.specs.List.{All, sum_by, range_with_len}
use Rattle.std.proofs.lemmas.List.Elements.{All-head, All-tail}
use Rattle.std.proofs.lemmas.List.Sums.{sum_by-cons, sum_by-le}
use Rattle.quantities.specs.Inner.Linear.{rd}
use Rattle.tree.specs.Lists.{range}
use Rattle.formats.specs.Decimal.{show}
use Rattle.formats.specs.Line.{row_text}
use Rattle.formats.specs.ListingText.{lines_text}
use Rattle.formats.specs.Inner.Writing.{Writable}
use Rattle.formats.proofs.Laws.Writing.{writable_back}
use Rattle.formats.proofs.Laws.Listings.ListingLengths.{number_short}

-- a number, and the byte after it
abbrev pub entry_length : ℤ → ℕ
entry_length z = length (show (rd z)) + 1

entry_is : (z : ℤ) → Writable z → entry_length z ≡ length (show z) + 1
entry_is z w = rw (writable_back z w)

pub row_length : (zs : List ℤ) → 1 ≤ length zs → All Writable zs → length (row_text zs) ≡ sum_by entry_length zs
row_length [] h w = absurd (omega arith)
row_length (z ∷ []) h w =
    omega (arith, length-append (show z) (10 ∷ []), sum_by-cons entry_length z [], entry_is z (All-head Writable z [] w))
row_length (z ∷ (y ∷ l)) h w =
    omega (
      arith,
      length-append (show z) (44 ∷ row_text (y ∷ l)),
      sum_by-cons entry_length z (y ∷ l),
      entry_is z (All-head Writable z (y ∷ l) w),
      row_length (y ∷ l) (omega arith) (All-tail Writable z (y ∷ l) w),
    )

pub entries_short : (zs : List ℤ) → All Writable zs → sum_by entry_length zs ≤ length zs * 18
entries_short zs w = sum_by-le entry_length 18 zs (λ k d h. omega (arith, entry_is (get_or zs k d) (w k d h), number_short (get_or zs k d) (w k d h)))

-- ---- a line for each number from a on

pub lines_length : (f : ℕ → List ℕ) (a m : ℕ) → sum_by (λ k. length (f k)) (range_with_len a m) ≡ length (lines_text f (range a m))
lines_length f a zero = refl
lines_length f a (suc m) =
    let e : a + 1 ≡ suc a = omega arith in
    sum_by-cons (λ k. length (f k)) a (range_with_len (a + 1) m) ∙ rw (e, length-append) (ap (λ (n : ℕ). length (f a) + n) (lines_length f (suc a) m))
