-- The bytes of one line of a text: document 01, 'The net text'. Definitions alone.
use Rattle.std.specs.Prelude.{ℕ, List, [], ◌∷◌, ◌++◌, ℤ}
use Rattle.formats.specs.Decimal.{show}
use Rattle.formats.specs.Bytes.{end_byte, comma}

-- numbers in a row: a comma between two, the end byte after the last
abbrev pub row_text : List ℤ → List ℕ
row_text [] = end_byte ∷ []
row_text (z ∷ []) = show z ++ (end_byte ∷ [])
row_text (z ∷ (y ∷ l)) = show z ++ (comma ∷ row_text (y ∷ l))

abbrev pub line_text : List ℕ → List ℤ → List ℕ
line_text key zs = key ++ row_text zs
