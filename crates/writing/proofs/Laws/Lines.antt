-- A line that is put: its numbers are short enough, and its text is known by an equation. Assumes nothing.
use Rattle.std.proofs.Common.{◌≡◌, ℕ, ◌+◌, ◌≤◌, List, [], ◌∷◌, ◌++◌, length, ℤ, pos, sym, subst}
use Rattle.std.specs.List.{All}
use Rattle.std.proofs.lemmas.List.Elements.{All-nil, All-cons}
use Rattle.quantities.specs.Inner.Linear.{rd}
use Rattle.quantities.specs.Ranges.{Within}
use Rattle.formats.specs.Inner.Writing.{Puts, Writable}
use Rattle.formats.proofs.Laws.Writing.{fits_next, puts_both}
use Rattle.formats.proofs.Laws.Listings.ListingWriting.{within_writable, within_back}

-- ---- numbers short enough to be written

pub all_one : (a : ℤ) → Writable a → All Writable (a ∷ [])
all_one a p = All-cons Writable a [] p (All-nil Writable)

pub all_two : (a b : ℤ) → Writable a → Writable b → All Writable (a ∷ (b ∷ []))
all_two a b p q = All-cons Writable a (b ∷ []) p (all_one b q)

pub all_four : (a b c d : ℤ) → Writable a → Writable b → Writable c → Writable d → All Writable (a ∷ (b ∷ (c ∷ (d ∷ []))))
all_four a b c d p q r s = All-cons Writable a (b ∷ (c ∷ (d ∷ []))) p (All-cons Writable b (c ∷ (d ∷ [])) q (all_two c d r s))

-- a number from -k to k that is read back from its bits
pub back_writable : (k : ℕ) (z : ℤ) → Writable (pos k) → Within k z → Writable (rd z)
back_writable k z h w = rw (within_back k z h w) (within_writable k z h w)

-- ---- a line whose text is known by an equation

module _ (at : ℕ) (line text : List ℕ) (e : line ≡ text) where
  pub fits_as : (l : List ℕ) → at + length text ≤ length l → at + length line ≤ length l
  fits_as l h = subst (λ (r : List ℕ). at + length r ≤ length l) (sym e) h

  pub put_as : (l : List ℕ) (end : ℕ) (left : List ℕ) → Puts l at line end left → Puts l at text end left
  put_as l end left p = subst (λ (r : List ℕ). Puts l at r end left) e p

-- such a line after what was put
module _ (l : List ℕ) (at : ℕ) (s t : List ℕ) (fits : at + length (s ++ t) ≤ length l) (mid : ℕ) (k : List ℕ) (first : Puts l at s mid k) (line : List ℕ) (e : line ≡ t) where
  pub next_fits : mid + length line ≤ length k
  next_fits = fits_as mid line t e k (fits_next l at s t fits mid k first)

  pub next_put : (end : ℕ) (j : List ℕ) → Puts k mid line end j → Puts l at (s ++ t) end j
  next_put end j next = puts_both l at s t fits mid k first end j (put_as mid line t e k end j next)
