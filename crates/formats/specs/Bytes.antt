-- Keys and end bytes. Definitions alone.
use Rattle.std.specs.Prelude.{ℕ, List, [], ◌∷◌}
use Prim.Native.String as Str
use Prim.Native.String.{String}
use Prim.Native.Char.{code}

-- the bytes of a quoted ASCII text
abbrev pub bytes : String → List ℕ
bytes Str.[] = []
bytes (Str.◌∷◌ c s) = code c ∷ bytes s

-- "each ended by the byte 10 (decimal)", and a comma between two numbers
abbrev pub end_byte : ℕ
end_byte = 10

abbrev pub comma : ℕ
comma = 44
