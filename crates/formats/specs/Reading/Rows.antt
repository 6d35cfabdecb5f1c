-- How the line that a text begins with is read: a key, and numbers in a row. Definitions alone.
use Rattle.std.specs.Prelude.{ℕ, zero, suc, ◌+◌, Bool, true, false, cond, List, [], ◌∷◌, length, get_or, drop, eqb, ℤ}
use Rattle.formats.specs.Bytes.{end_byte, comma}
use Rattle.formats.specs.Reading.Numbers.{Field, spelt, misspelt, field, signed}

-- the number that a text begins with, with the byte `stop` after it: that byte is counted in
abbrev pub stop_by : ℕ → List ℕ → Field → Field
stop_by stop s (spelt neg v k) = cond (eqb (get_or s k 0) stop) (spelt neg v (suc k)) misspelt
stop_by stop s misspelt = misspelt

unfoldable pub number_then : ℕ → List ℕ → Field
number_then stop s = stop_by stop s (field s)

-- the numbers of a row, with how many bytes they take up to the end byte and with it; or no such row
pub data Row : Type 0 where
  row : List ℤ → ℕ → Row
  misspelled : Row

-- one number more in front, of j bytes
abbrev pub prepend : ℤ → ℕ → Row → Row
prepend z j (row zs k) = row (z ∷ zs) (j + k)
prepend z j misspelled = misspelled

-- j bytes more in front
abbrev pub after : ℕ → Row → Row
after j (row zs k) = row zs (j + k)
after j misspelled = misspelled

abbrev pub last : Field → Row
last (spelt neg v k) = row (signed neg v ∷ []) k
last misspelt = misspelled

abbrev pub first : Field → (ℕ → Row) → Row
first (spelt neg v k) rest = prepend (signed neg v) k (rest k)
first misspelt rest = misspelled

-- k numbers in a row at the start of a text
unfoldable pub row_in : ℕ → List ℕ → Row
row_in zero s = misspelled
row_in (suc zero) s = last (number_then end_byte s)
row_in (suc (suc k)) s = first (number_then comma s) (λ j. row_in (suc k) (drop j s))

-- a text begins with a key
unfoldable pub begins : List ℕ → List ℕ → Bool
begins [] s = true
begins (k ∷ key) [] = false
begins (k ∷ key) (b ∷ s) = cond (eqb b k) (begins key s) false

-- a line of a key and k numbers
unfoldable pub line_in : List ℕ → ℕ → List ℕ → Row
line_in key k s = cond (begins key s) (after (length key) (row_in k (drop (length key) s))) misspelled
