-- What the writer leaves in a text. Definitions alone.
use Rattle.std.specs.Prelude.{ℕ, ◌+◌, ◌<◌, ◌≡◌, List, [], ◌∷◌, ◌++◌, length, take, drop, ℤ, pos, nat_abs}
use Rattle.formats.specs.Decimal.{show}
use Rattle.formats.specs.Line.{line_text}
use Rattle.formats.specs.NetText.{wire_key, sinks_key}
use Rattle.formats.specs.ListingText.{slack_key}

-- the text l with s in the place of the bytes from `at` on
unfoldable pub over : List ℕ → ℕ → List ℕ → List ℕ
over l at s = take at l ++ s ++ drop (at + length s) l

-- s is put into l at `at`: it ends at `end`, and l is then `left`
abbrev pub Puts : List ℕ → ℕ → List ℕ → ℕ → List ℕ → Type 0
Puts l at s end left = (end ≡ at + length s) × (left ≡ over l at s)

-- the numbers that the writer takes: 17 bytes at most
abbrev pub Writable : ℤ → Type 0
Writable z = nat_abs z < 10_000_000_000_000_000

-- a number with a byte after it
abbrev pub one_then : ℤ → ℕ → List ℕ
one_then a stop = show a ++ (stop ∷ [])

-- the first three lines of a listing
abbrev pub head_text : ℤ → ℕ → ℕ → List ℕ
head_text slack wire n = (line_text slack_key (slack ∷ []) ++ line_text wire_key (pos wire ∷ [])) ++ line_text sinks_key (pos n ∷ [])
