-- Decimal numbers: document 01, 'The net text'. "Numbers are ASCII decimal of any length, `-` before a negative, no plus, no leading zero, no `-0`." Definitions alone.
use Rattle.std.specs.Prelude.{ℕ, zero, suc, ◌+◌, ◌/◌, ◌%◌, true, false, List, [], ◌∷◌, ◌++◌, ltb, ℤ, pos, negsuc}

-- the digits of n, the most significant first: f bounds how many there are
unfoldable pub digits : ℕ → ℕ → List ℕ
digits zero n = []
digits (suc f) n = elim (ltb n 10) [ true ↦ (48 + n) ∷ [] | false ↦ digits f (n / 10) ++ ((48 + n % 10) ∷ []) ]

unfoldable pub show_nat : ℕ → List ℕ
show_nat n = digits (suc n) n

-- the one spelling of a whole number
unfoldable pub show : ℤ → List ℕ
show (pos n) = show_nat n
show (negsuc n) = 45 ∷ show_nat (suc n)
