-- The lesser and the greater, by the parts of `specs/Inner/Linear`. Assumes nothing.
use mathlib.Core.Path.{◌≡◌, refl}
use mathlib.Core.Bool.{Bool, true, false, cond}
use mathlib.Core.Logic.{◌⊎◌, inl, inr}
use Prim.Native.Nat.{◌+◌, ◌≤◌, min, max}
use native.Mathlib.Omega.{arith}
use lib.IntN.{ℤ}
use lib.Signed.{◌≤ℤ◌, le_z, lt_z}
use Rattle.quantities.specs.MinMax.{min_ℤ, max_ℤ}
use Rattle.quantities.specs.Inner.Linear.{up, dn, whole, le_z_t, le_z_f}

by_order : (P : ℤ → ℤ → Type 0) (a b : ℤ) (t : Bool) → le_z a b ≡ t → (up a + dn b ≤ up b + dn a → P a b) → (up b + dn a ≤ up a + dn b → P b a) → P (cond t a b) (cond t b a)
by_order P a b true e f g = f (le_z_t a b e)
by_order P a b false e f g = g (omega (arith, le_z_f a b e))

pub min_is : (a b : ℤ) → up (min_ℤ a b) + (dn a + dn b) ≡ min (up a + dn b) (up b + dn a) + dn (min_ℤ a b)
unfolding min_ℤ
min_is a b = by_order (λ (z y : ℤ). up z + (dn a + dn b) ≡ min (up a + dn b) (up b + dn a) + dn z) a b (le_z a b) refl (λ h. omega arith) (λ h. omega arith)

pub max_is : (a b : ℤ) → up (max_ℤ a b) + (dn a + dn b) ≡ max (up a + dn b) (up b + dn a) + dn (max_ℤ a b)
unfolding max_ℤ
max_is a b = by_order (λ (y z : ℤ). up z + (dn a + dn b) ≡ max (up a + dn b) (up b + dn a) + dn z) a b (le_z a b) refl (λ h. omega arith) (λ h. omega arith)

pub min_le_left : (a b : ℤ) → min_ℤ a b ≤ℤ a
min_le_left a b = omega (arith, whole, min_is a b)

pub total : (a b : ℤ) → (a ≤ℤ b) ⊎ (b ≤ℤ a)
total a b = go (le_z a b) refl
  where
    go : (t : Bool) → le_z a b ≡ t → (a ≤ℤ b) ⊎ (b ≤ℤ a)
    go true e = inl (omega (arith, whole))
    go false e = inr (omega (arith, whole))

-- the library's lesser and greater, which test the other order
pub least_of : (a b : ℤ) → cond (lt_z b a) b a ≡ min_ℤ a b
least_of a b = go (lt_z b a) refl
  where
    go : (t : Bool) → lt_z b a ≡ t → cond t b a ≡ min_ℤ a b
    go true e = omega (arith, whole, min_is a b)
    go false e = omega (arith, whole, min_is a b)

pub greatest_of : (a b : ℤ) → cond (lt_z b a) a b ≡ max_ℤ a b
greatest_of a b = go (lt_z b a) refl
  where
    go : (t : Bool) → lt_z b a ≡ t → cond t a b ≡ max_ℤ a b
    go true e = omega (arith, whole, max_is a b)
    go false e = omega (arith, whole, max_is a b)
