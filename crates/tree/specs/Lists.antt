-- Sums, counts and ranges, as the other definitions use them. Definitions alone.
use Rattle.std.specs.Prelude.{ℕ, zero, suc, ◌+◌, Bool, cond, List, [], ◌∷◌, ℤ, pos, Option, None, Some}
use Rattle.quantities.specs.MinMax.{min_ℤ}

-- the sum of f over a list
abbrev pub sum_over : List ℕ → (ℕ → ℕ) → ℕ
sum_over [] f = zero
sum_over (x ∷ l) f = f x + sum_over l f

-- 1 where the two are equal, else 0
abbrev pub delta : ℕ → ℕ → ℕ
delta zero zero = 1
delta zero (suc y) = 0
delta (suc x) zero = 0
delta (suc x) (suc y) = delta x y

-- how often u stands in a list
abbrev pub count : ℕ → List ℕ → ℕ
count u l = sum_over l (delta u)

-- a, a + 1, .., n of them
abbrev pub range : ℕ → ℕ → List ℕ
range a zero = []
range a (suc n) = a ∷ range (suc a) n

-- n + k, .., n + 1
abbrev pub down : ℕ → ℕ → List ℕ
down n zero = []
down n (suc k) = (n + suc k) ∷ down n k

-- the first of a list that passes a test
abbrev pub first_with : (ℕ → Bool) → List ℕ → Option ℕ
first_with test [] = None
first_with test (v ∷ l) = cond (test v) (Some v) (first_with test l)

-- those of a list that pass a test
abbrev pub all_with : (ℕ → Bool) → List ℕ → List ℕ
all_with test [] = []
all_with test (v ∷ l) = cond (test v) (v ∷ all_with test l) (all_with test l)

-- the least of some whole numbers (0 of none)
abbrev pub least_from : ℤ → List ℤ → ℤ
least_from x [] = x
least_from x (y ∷ l) = least_from (min_ℤ x y) l

abbrev pub least : List ℤ → ℤ
least [] = pos 0
least (x ∷ l) = least_from x l
