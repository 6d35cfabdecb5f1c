-- What was read of a text, where it is known what its reader has. Definitions alone.
use Rattle.std.specs.Prelude.{ℕ, ◌≡◌, ◌<◌, ◌++◌, List, [], ⊤, Option, Some, None, length, take}

-- `left` is what the reader had, `text` the buffer after the reading, of which so many bytes were read: all of it, where the buffer has room for more; as much as the
-- buffer has room for, where it filled it
abbrev pub IsRead : List ℕ → List ℕ → Option ℕ → Type 0
IsRead left text (Some n) = (rest : List ℕ) × (left ≡ take n text ++ rest) × (n < length text → rest ≡ [])
IsRead left text None = ⊤
