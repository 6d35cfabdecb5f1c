-- Digits at the start of a text, and their value. Assumes nothing.
use Prim.Native.Nat.{ℕ, ◌+◌, ◌*◌, ◌-◌, ◌<◌, ◌≤◌}
use mathlib.Core.Path.{◌≡◌, refl}
use mathlib.Core.Bool.{Bool, true, false, ◌&&◌, false≢true}
use mathlib.Core.List.{List, [], ◌∷◌}
use lib.ListN.{length, get_or, drop, drop_of_length-le}
use lib.Seq.{drop-cons}
use lib.Dec.{ltb, leb}
use native.Mathlib.Omega.{arith}
use borrow.Author.Tests.{leb-true, ltb-true, le-leb, lt-ltb}
use mathlib.Core.Logic.{⊎_elim}
use Rattle.std.specs.Char.{IsAsciiDigit, IsNotAsciiDigit}
use Rattle.formats.specs.Reading.Numbers.{is_digit, lead, value}

-- a digit is a byte from 48 to 57
pub digit_range : (b : ℕ) → is_digit b ≡ true → (48 ≤ b) × (b < 58)
digit_range b e = go (leb 48 b) refl e
  where
    go : (t : Bool) → leb 48 b ≡ t → t && ltb b 58 ≡ true → (48 ≤ b) × (b < 58)
    go true p q = (leb-true 48 b p, ltb-true b 58 q)
    go false p q = absurd (false≢true q)

pub lead_nil : lead [] ≡ []
unfolding lead
lead_nil = refl

pub lead_yes : (b : ℕ) (s : List ℕ) → is_digit b ≡ true → lead (b ∷ s) ≡ b ∷ lead s
unfolding lead
lead_yes b s e = rw (lead, e)

pub lead_no : (b : ℕ) (s : List ℕ) → is_digit b ≡ false → lead (b ∷ s) ≡ []
unfolding lead
lead_no b s e = rw (lead, e)

pub lead_short : (s : List ℕ) → length (lead s) ≤ length s
lead_short [] = rw lead_nil (omega arith)
lead_short (b ∷ s) = go (is_digit b) refl (lead_short s)
  where
    go : (t : Bool) → is_digit b ≡ t → length (lead s) ≤ length s → length (lead (b ∷ s)) ≤ length (b ∷ s)
    go true e ih = rw (lead_yes b s e) (omega arith)
    go false e ih = rw (lead_no b s e) (omega arith)

-- where no digit stands, none are read
pub lead_end : (s : List ℕ) (i : ℕ) → length s ≤ i → lead (drop i s) ≡ []
lead_end s i h = rw (drop_of_length-le s h) lead_nil

pub lead_other : (s : List ℕ) (i : ℕ) → i < length s → is_digit (get_or s i 0) ≡ false → lead (drop i s) ≡ []
lead_other s i h d = rw (drop-cons s i 0 h) (lead_no (get_or s i 0) _ d)

pub value_nil : (v : ℕ) → value v [] ≡ v
unfolding value
value_nil v = refl

pub value_cons : (v b : ℕ) (s : List ℕ) → value v (b ∷ s) ≡ value (v * 10 + (b - 48)) s
unfolding value
value_cons v b s = refl

pub value_positive : (v : ℕ) (s : List ℕ) → 0 < v → 0 < value v s
unfolding value
value_positive v [] h = h
value_positive v (b ∷ s) h = value_positive (v * 10 + (b - 48)) s (omega arith)

-- the library's test of a digit is the definition's
pub digit_no : (b : ℕ) → IsNotAsciiDigit b → is_digit b ≡ false
digit_no b h = go (leb 48 b) refl (ltb b 58) refl
  where
    go : (t : Bool) → leb 48 b ≡ t → (u : Bool) → ltb b 58 ≡ u → t && u ≡ false
    go false p u q = refl
    go true p false q = refl
    go true p true q = absurd (⊎_elim (λ l. omega (arith, leb-true)) (λ l. omega (arith, ltb-true)) h)

pub digit_yes : (b : ℕ) → IsAsciiDigit b → is_digit b ≡ true
digit_yes b h = rw (le-leb 48 b (omega arith), lt-ltb b 58 (omega arith))
