-- A range of numbers: its first, and the first that passes a test, as the library finds it and under tests that agree. Assumes nothing.
use Prim.Native.Nat.{ℕ, zero, suc, ◌+◌, ◌-◌, ◌≤◌, ◌<◌}
use mathlib.Core.Path.{◌≡◌, refl, ap, ap₂, ◌∙◌}
use mathlib.Core.Bool.{Bool, cond}
use mathlib.Core.List.{◌∷◌}
use native.Mathlib.Nat.{le_refl}
use native.Mathlib.Omega.{arith}
use Rattle.std.specs.Prelude.{Some}
use Rattle.std.specs.List.{find, range_with_len}
use Rattle.tree.specs.Lists.{range, first_with}

pub range_first : (v e : ℕ) → v < e → range v (e - v) ≡ v ∷ range (v + 1) (e - (v + 1))
range_first v e h =
    let d : e - v ≡ suc (e - (v + 1)) = omega arith in
    let s : suc v ≡ v + 1 = omega arith in
    ap (range v) d ∙ ap (λ w. v ∷ range w (e - (v + 1))) s

range_is : (test : ℕ → Bool) (a m : ℕ) → find test (range_with_len a m) ≡ first_with test (range a m)
range_is test a zero = refl
range_is test a (suc m) =
    let next : a + 1 ≡ suc a = omega arith in
    ap (cond (test a) (Some a)) (range_is test (a + 1) m ∙ ap (λ b. first_with test (range b m)) next)

-- the numbers from a to e
pub find_is : (test : ℕ → Bool) (a b m e : ℕ) → a ≡ b → e - a ≡ m → find test (range_with_len a (e - a)) ≡ first_with test (range b m)
find_is test a b m e p q = range_is test a (e - a) ∙ ap₂ (λ i k. first_with test (range i k)) p q

-- tests that agree on the range
pub search_same : (f g : ℕ → Bool) (a m : ℕ) → ((v : ℕ) → a ≤ v → v < a + m → f v ≡ g v) → first_with f (range a m) ≡ first_with g (range a m)
search_same f g a zero h = refl
search_same f g a (suc m) h =
    ap₂ (λ b r. cond b (Some a) r) (h a (le_refl a) (omega arith)) (search_same f g (suc a) m (λ v p q. h v (omega arith) (omega arith)))
