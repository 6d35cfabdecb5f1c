-- Lists made from a range of numbers. Assumes nothing.
use Prim.Native.Nat.{ℕ, zero, suc, ◌+◌, ◌≤◌, ◌<◌}
use mathlib.Core.Path.{◌≡◌, refl, sym, ap, ap₂, ◌∙◌}
use mathlib.Core.List.{◌∷◌, map}
use native.Mathlib.Nat.{add-zero}
use native.Mathlib.Omega.{arith}
use lib.ListN.{length, get_or, length-map}
use Rattle.tree.specs.Lists.{range}

pub range_length : (a m : ℕ) → length (range a m) ≡ m
range_length a zero = refl
range_length a (suc m) = ap suc (range_length (suc a) m)

pub table_length : {A : Type 0} (f : ℕ → A) (a m : ℕ) → length (map f (range a m)) ≡ m
table_length f a m = length-map (range a m) f ∙ range_length a m

pub table_at : {A : Type 0} (f : ℕ → A) (d : A) (a m j : ℕ) → j < m → get_or (map f (range a m)) j d ≡ f (a + j)
table_at f d a zero j h = absurd (omega arith)
table_at f d a (suc m) zero h = ap f (sym (add-zero a))
table_at f d a (suc m) (suc j) h = table_at f d (suc a) m j (omega arith) ∙ ap f (omega arith)

-- two tables of the same numbers
pub table_cong : {A : Type 0} (f g : ℕ → A) (a m : ℕ) → ((i : ℕ) → a ≤ i → i < a + m → f i ≡ g i) → map f (range a m) ≡ map g (range a m)
table_cong f g a zero h = refl
table_cong f g a (suc m) h = ap₂ ◌∷◌ (h a (omega arith) (omega arith)) (table_cong f g (suc a) m (λ i p q. h i (omega arith) (omega arith)))
