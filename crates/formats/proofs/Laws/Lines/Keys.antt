-- A key at the start of a text. Assumes nothing.
use Prim.Native.Nat.{ℕ, suc, ◌+◌, ◌-◌, ◌≤◌}
use mathlib.Core.Path.{◌≡◌, refl, sym, ◌∙◌}
use mathlib.Core.Bool.{Bool, true, false, cond, ◌&&◌, false≢true}
use mathlib.Core.List.{List, [], ◌∷◌}
use lib.ListN.{length, drop, take, length-drop}
use lib.Dec.{eqb}
use native.Mathlib.Omega.{arith}
use borrow.Author.Tests.{eq-eqb, ne_eqb, eqb-true, eqb-false}
use Rattle.std.specs.Cmp.Lexicographic.{pointwise}
use Rattle.std.specs.List.{starts_with}
use Rattle.std.proofs.lemmas.List.{take_rest}
use Rattle.formats.specs.Reading.Rows.{begins}

-- ---- the library's test of a slice is the definition's

eqb_turned : (a b : ℕ) → eqb a b ≡ eqb b a
eqb_turned a b = go (eqb b a) refl
  where
    go : (t : Bool) → eqb b a ≡ t → eqb a b ≡ t
    go true e = eq-eqb a b (sym (eqb-true b a e))
    go false e = ne_eqb a b (λ p. eqb-false b a e (sym p))

starts_begins : (key s : List ℕ) → pointwise eqb key (take (length key) s) ≡ begins key s
unfolding begins
starts_begins [] s = refl
starts_begins (k ∷ key) [] = refl
starts_begins (k ∷ key) (b ∷ s) = rw (eqb_turned k b) (go (eqb b k) (starts_begins key s))
  where
    go : (t : Bool) → pointwise eqb key (take (length key) s) ≡ begins key s → (t && pointwise eqb key (take (length key) s)) ≡ cond t (begins key s) false
    go true e = e
    go false e = refl

-- the test of what is left of a text from `at` on
pub starts_there : (key s : List ℕ) (at : ℕ) (t : Bool) → t ≡ starts_with eqb (take (length s - at) (drop at s)) key → begins key (drop at s) ≡ t
starts_there key s at t e =
    let q : take (length s - at) (drop at s) ≡ drop at s = take_rest s at in
    sym (starts_begins key (drop at s)) ∙ sym (rw q at e)

-- ---- its length

begins_length : (key s : List ℕ) → begins key s ≡ true → length key ≤ length s
unfolding begins
begins_length [] s e = omega arith
begins_length (k ∷ key) [] e = absurd (false≢true e)
begins_length (k ∷ key) (b ∷ s) e = go (eqb b k) refl (begins_length key s)
  where
    go : (t : Bool) → eqb b k ≡ t → (begins key s ≡ true → length key ≤ length s) → suc (length key) ≤ suc (length s)
    go true q ih = let h : length key ≤ length s = ih (rw (begins, q) at e) in omega arith
    go false q ih = absurd (false≢true (rw (begins, q) at e))

pub begins_within : (key s : List ℕ) (at : ℕ) → at ≤ length s → begins key (drop at s) ≡ true → at + length key ≤ length s
begins_within key s at h e = omega (arith, begins_length key (drop at s) e, length-drop at s)
