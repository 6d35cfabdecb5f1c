-- The room that the parts of a complaint take, and the bytes that were read. Definitions alone.
use Rattle.std.specs.Prelude.{ℕ, ◌+◌, ◌≤◌, List, Option, Some, None, length}

-- the words of any refusal, and a colon with any line
abbrev pub words_room : ℕ
words_room = 64

abbrev pub mark_room : ℕ
mark_room = 21

-- a buffer has room for each of the three names and k bytes more
abbrev pub NamesFit : List ℕ → List ℕ → ℕ → List ℕ → Type 0
NamesFit net listing k out = (6 + k ≤ length out) × (length net + k ≤ length out) × (length listing + k ≤ length out)

-- the bytes that were read are within the buffer
abbrev pub FitsIn : ℕ → Option ℕ → Type 0
FitsIn n (Some bytes) = bytes ≤ n
FitsIn n None = Unit {0}
