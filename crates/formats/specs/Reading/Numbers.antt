-- How the number that a text begins with is read. Definitions alone.
use Rattle.std.specs.Prelude.{ℕ, zero, suc, ◌+◌, ◌*◌, ◌-◌, Bool, true, false, cond, not, ◌&&◌, ◌||◌, List, [], ◌∷◌, length, get_or, drop, ltb, leb, eqb, ℤ, pos, negsuc}

abbrev pub is_digit : ℕ → Bool
is_digit b = leb 48 b && ltb b 58

-- the digits that a text begins with
unfoldable pub lead : List ℕ → List ℕ
lead [] = []
lead (b ∷ s) = elim (is_digit b) [ true ↦ b ∷ lead s | false ↦ [] ]

-- the value of the digits ds after digits whose value is v
unfoldable pub value : ℕ → List ℕ → ℕ
value v [] = v
value v (b ∷ s) = value (v * 10 + (b - 48)) s

-- a number by its sign and magnitude, with how many bytes it has; or no number
pub data Field : Type 0 where
  spelt : Bool → ℕ → ℕ → Field
  misspelt : Field

-- some digits; a first 0 stands alone and has no sign
abbrev pub well : Bool → List ℕ → ℕ → Bool
well neg s n = ltb 0 n && (not (eqb (get_or s 0 0) 48) || (eqb n 1 && not neg))

unfoldable pub natural : Bool → List ℕ → Field
natural neg s = cond (well neg s (length (lead s))) (spelt neg (value 0 (lead s)) (length (lead s))) misspelt

-- the sign is one byte more
abbrev pub signing : Field → Field
signing (spelt neg v k) = spelt neg v (suc k)
signing misspelt = misspelt

-- the number that a text begins with
unfoldable pub field : List ℕ → Field
field s = cond (eqb (get_or s 0 0) 45) (signing (natural true (drop 1 s))) (natural false s)

abbrev pub signed : Bool → ℕ → ℤ
signed false n = pos n
signed true zero = pos zero
signed true (suc n) = negsuc n

abbrev pub is_negative : ℤ → Bool
is_negative (pos n) = false
is_negative (negsuc n) = true
