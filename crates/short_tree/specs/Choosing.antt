-- The first of some numbers by a measure, ties to the lowest number. Definitions alone.
use Rattle.std.specs.Prelude.{ℕ, Bool, true, false, cond, List, [], ◌∷◌, ltb}

-- u goes before v: its f is less, or the same and u is lower
abbrev pub goes_before : (ℕ → ℕ) → ℕ → ℕ → Bool
goes_before f u v = cond (ltb (f u) (f v)) true (cond (ltb (f v) (f u)) false (ltb u v))

-- of v and the list, the one that goes before all the others
abbrev pub first_from : (ℕ → ℕ) → ℕ → List ℕ → ℕ
first_from f v [] = v
first_from f v (u ∷ l) = elim (goes_before f u v) [ true ↦ first_from f u l | false ↦ first_from f v l ]

-- of a list; 0 of none
abbrev pub first_of : (ℕ → ℕ) → List ℕ → ℕ
first_of f [] = 0
first_of f (v ∷ l) = first_from f v l
