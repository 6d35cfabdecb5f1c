-- The laws of the delay of a straight wire, each shown for one direction first. Everything above rests on these alone, and not on the delay's definition. Assumes nothing.
use Prim.Native.Nat.{ℕ, ◌+◌, ◌*◌, ◌≤◌}
use mathlib.Core.Path.{◌≡◌, sym, ap, ap₂, ◌∙◌}
use native.Mathlib.Nat.{mul-add, add-mul, mul_assoc, mul-zero, mul-le-mul, mul-le-mul_left}
use native.Mathlib.Omega.{arith}
use lib.IntN.{ℤ}
use Rattle.quantities.specs.declared.metal_pair.MetalPair.{MetalPair}
use Rattle.quantities.specs.declared.point.Point.{Point}
use Rattle.quantities.specs.declared.wire_factor.WireFactor.{WireFactor}
use Rattle.quantities.specs.Distance.{span}
use Rattle.quantities.specs.Delay.{length_delay, delay}
use Rattle.quantities.specs.Median.{median, median_point}
use Rattle.quantities.specs.Ranges.{Within, PointWithin, FactorWithin, FactorsWithin}
use Rattle.quantities.proofs.Laws.Distance.{span_self, span_triangle, span_within}
use Rattle.quantities.proofs.Laws.Median.{span_through_median, median_point_swap}

-- ---- in one direction

module _ (f : WireFactor) where
  along_self : (a : ℤ) → length_delay f (span a a) ≡ 0
  along_self a = ap (length_delay f) (span_self a) ∙ mul-zero f.0

  along_triangle : (a b c : ℤ) → length_delay f (span a c) ≤ length_delay f (span a b) + length_delay f (span b c)
  along_triangle a b c = omega (arith, mul-le-mul_left f.0 (span_triangle a b c), mul-add f.0 (span a b) (span b c))

  along_median : (a b c : ℤ) → length_delay f (span a (median a b c)) + length_delay f (span (median a b c) b) ≡ length_delay f (span a b)
  along_median a b c = omega (arith, ap (length_delay f) (span_through_median a b c), mul-add f.0 (span a (median a b c)) (span (median a b c) b))

  pub along_within : (m k : ℕ) (a b : ℤ) → FactorWithin m f → Within k a → Within k b → length_delay f (span a b) ≤ m * (2 * k)
  along_within m k a b h p q = mul-le-mul h (span_within k a b p q)

  along_scaled : (k l m : ℕ) → m ≡ l * k → length_delay f m ≡ length_delay f l * k
  along_scaled k l m e = ap (length_delay f) e ∙ sym (mul_assoc f.0 l k)

-- ---- and in both

module _ (w : MetalPair) where
  pub delay_self : (p : Point) → delay w p p ≡ 0
  unfolding delay
  delay_self p = omega (arith, along_self w.horizontal p.x, along_self w.vertical p.y)

  pub delay_triangle : (p q r : Point) → delay w p r ≤ delay w p q + delay w q r
  unfolding delay
  delay_triangle p q r = omega (arith, along_triangle w.horizontal p.x q.x r.x, along_triangle w.vertical p.y q.y r.y)

  -- a median of p, q and a third point lies on a way of least delay from p to q
  pub delay_through_median : (p q r : Point) → delay w p (median_point p q r) + delay w (median_point p q r) q ≡ delay w p q
  unfolding delay median_point
  delay_through_median p q r = omega (arith, along_median w.horizontal p.x q.x r.x, along_median w.vertical p.y q.y r.y)

  pub delay_through_median₂ : (p q r : Point) → delay w p (median_point p q r) + delay w (median_point p q r) r ≡ delay w p r
  delay_through_median₂ p q r = rw (median_point_swap p q r) (delay_through_median p r q)

  -- where |dx| and |dy| are k times as large, so is the delay
  pub delay_scaled : (k : ℕ) (p q p' q' : Point) → span p'.x q'.x ≡ span p.x q.x * k → span p'.y q'.y ≡ span p.y q.y * k → delay w p' q' ≡ delay w p q * k
  unfolding delay
  delay_scaled k p q p' q' a u =
      ap₂ ◌+◌ (along_scaled w.horizontal k (span p.x q.x) (span p'.x q'.x) a) (along_scaled w.vertical k (span p.y q.y) (span p'.y q'.y) u)
      ∙ sym (add-mul (length_delay w.horizontal (span p.x q.x)) (length_delay w.vertical (span p.y q.y)) k)

-- a bound: between points in a range, with factors in a range
pub delay_within : (m k : ℕ) (w : MetalPair) (p q : Point) → FactorsWithin m w → PointWithin k p → PointWithin k q → delay w p q ≤ m * (4 * k)
unfolding delay
delay_within m k w p q h a b =
    omega (arith, along_within w.horizontal m k p.x q.x h.0 a.0 b.0, along_within w.vertical m k p.y q.y h.1 a.1 b.1, mul-add m (2 * k) (2 * k), ap (λ l. m * l) (four k))
  where
    four : (k : ℕ) → 2 * k + 2 * k ≡ 4 * k
    four k = omega arith
