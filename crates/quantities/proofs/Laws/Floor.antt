-- `floor_div` rounds down: k × c ≤ z exactly where k ≤ floor(z / c). For a reader of specs/Floor; no proof uses it. Assumes nothing.
use mathlib.Core.Logic.{◌↔◌, ⊎_elim}
use Prim.Native.Nat.{ℕ, ◌+◌, ◌*◌, ◌≤◌, ◌<◌}
use native.Mathlib.Nat.{div-add-mod', mod-lt, mul-le-mul_right}
use native.Mathlib.Omega.{arith}
use lib.IntN.{ℤ, pos, negsuc, ◌*ℤ◌}
use lib.Signed.{◌≤ℤ◌}
use Rattle.quantities.specs.Floor.{floor_div}
use Rattle.quantities.specs.Inner.Linear.{up, dn, whole, *is, le→, lt→, le_or_gt}

-- q × c ≤ z < (q + 1) × c, for the quotient q, by the parts
floor_low : (z : ℤ) (c : ℕ) → 0 < c → up (floor_div z c) * c + dn z ≤ up z + dn (floor_div z c) * c
unfolding floor_div
floor_low (pos n) c h = omega (arith, div-add-mod' n c)
floor_low (negsuc n) c h = omega (arith, div-add-mod' n c, mod-lt n h)

floor_high : (z : ℤ) (c : ℕ) → 0 < c → up z + dn (floor_div z c) * c < up (floor_div z c) * c + dn z + c
unfolding floor_div
floor_high (pos n) c h = omega (arith, div-add-mod' n c, mod-lt n h)
floor_high (negsuc n) c h = omega (arith, div-add-mod' n c, mod-lt n h)

-- k × c ≤ z exactly when k ≤ floor(z / c)
module _ (k z : ℤ) (c : ℕ) (h : 0 < c) where
  floor_above : (k *ℤ pos c) ≤ℤ z → k ≤ℤ floor_div z c
  floor_above l =
      ⊎_elim
      (λ y. y)
      (λ g. omega (arith, whole, *is k c, floor_high z c h, mul-le-mul_right c (lt→ g)))
      (le_or_gt k (floor_div z c))

  floor_below : k ≤ℤ floor_div z c → (k *ℤ pos c) ≤ℤ z
  floor_below l = omega (arith, whole, *is k c, floor_low z c h, mul-le-mul_right c (le→ l))

  pub floor_law : ((k *ℤ pos c) ≤ℤ z) ↔ (k ≤ℤ floor_div z c)
  floor_law = (floor_above, floor_below)
