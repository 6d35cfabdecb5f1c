-- How a line that is due is read, with its refusals: document 01, 'Refusals by text and line'. Definitions alone.
use Rattle.std.specs.Prelude.{ℕ, suc, Bool, true, false, ◌&&◌, List, [], ◌∷◌, length, drop, ℤ, pos, nat_abs}
use Rattle.std.specs.Int.Signed.{le_z}
use Rattle.formats.specs.Outcome.{Outcome, value, refused, and_then}
use Rattle.formats.specs.Ranges.{at}
use Rattle.formats.specs.Reading.Rows.{Row, row, misspelled, line_in}
use Rattle.formats.specs.declared.ranges.Range.{Range}
use Rattle.formats.specs.declared.refusal.Text.{Text}
use Rattle.formats.specs.declared.refusal.Refusal.TheVariants.{NotDue, OutOfRange, BytesFollow}

-- ---- ranges

abbrev pub inside : Range → ℤ → Bool
inside r z = le_z r.from z && le_z z r.to

-- each number in the range at its place
abbrev pub all_inside : List Range → List ℤ → Bool
all_inside [] zs = true
all_inside (r ∷ rs) [] = false
all_inside (r ∷ rs) (z ∷ zs) = inside r z && all_inside rs zs

-- ---- what is read

-- what some lines say, and the text after them
pub record Read (A : Type 0) : Type 0 where
  pub got : A
  pub rest : List ℕ

-- what is made of it
abbrev pub reading : {A B : Type 0} → (A → B) → Outcome (Read A) → Outcome (Read B)
reading f o = and_then o λ r. value (record { got = f r.got; rest = r.rest })

-- ---- one line

-- the line l is a row: "in each line 2, 3"
abbrev pub ranged : Text → ℕ → List Range → List ℕ → Row → Outcome (Read (List ℤ))
ranged t l ranges s misspelled = refused (NotDue t l)
ranged t l ranges s (row zs j) = elim (all_inside ranges zs) [ true ↦ value (record { got = zs; rest = drop j s }) | false ↦ refused (OutOfRange t l) ]

-- line l, due at the start of s: a key, and a number for each range.
-- "2: the line due here is missing, lacks its end byte, or has another key, shape, spelling .. than is due"; "3: a number is out of range"
abbrev pub due : Text → ℕ → List ℕ → List Range → List ℕ → Outcome (Read (List ℤ))
due t l key ranges s = ranged t l ranges s (line_in key (length ranges) s)

-- a line of one number, and one whose number is not negative
abbrev pub due_number : Text → ℕ → List ℕ → Range → List ℕ → Outcome (Read ℤ)
due_number t l key range s = reading (λ zs. at zs 0) (due t l key (range ∷ []) s)

abbrev pub due_natural : Text → ℕ → List ℕ → Range → List ℕ → Outcome (Read ℕ)
due_natural t l key range s = reading nat_abs (due_number t l key range s)

-- a line whose first number is k: "or k than is due" is a refusal by 2. What is got are the numbers after it
abbrev pub ranged_after : Text → ℕ → ℕ → List Range → List ℕ → Row → Outcome (Read (List ℤ))
ranged_after t l k ranges s misspelled = refused (NotDue t l)
ranged_after t l k ranges s (row [] j) = refused (NotDue t l)
ranged_after t l k ranges s (row (z ∷ zs) j) = elim (le_z z (pos k) && le_z (pos k) z) [ true ↦ ranged t l ranges s (row zs j) | false ↦ refused (NotDue t l) ]

abbrev pub due_for : Text → ℕ → List ℕ → ℕ → List Range → List ℕ → Outcome (Read (List ℤ))
due_for t l key k ranges s = ranged_after t l k ranges s (line_in key (suc (length ranges)) s)

-- "4: bytes follow the last line", on the line after it
abbrev pub ended : {A : Type 0} → Text → ℕ → A → List ℕ → Outcome A
ended t l a [] = value a
ended t l a (b ∷ s) = refused (BytesFollow t l)
