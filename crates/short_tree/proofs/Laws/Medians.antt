-- The median of an edge's ends and a third point is the point between them that is nearest to the third. Assumes nothing.
use Prim.Native.Nat.{◌≤◌}
use mathlib.Core.Logic.{◌⊎◌, inl, inr, ⊎_elim}
use native.Mathlib.Omega.{arith}
use lib.IntN.{ℤ}
use lib.Signed.{◌≤ℤ◌}
use Rattle.quantities.specs.declared.point.Point.{Point}
use Rattle.quantities.specs.Distance.{span, distance}
use Rattle.quantities.specs.Median.{median, median_point}
use Rattle.quantities.specs.Inner.Linear.{whole}
use Rattle.quantities.proofs.Laws.MinMax.{total}
use Rattle.quantities.proofs.Laws.Distance.{span_le, span_ge}
use Rattle.quantities.proofs.Laws.Median.{median_is, median_between}

-- x lies between a and b
abbrev pub Between : ℤ → ℤ → ℤ → Type 0
Between a b x = ((a ≤ℤ x) × (x ≤ℤ b)) ⊎ ((b ≤ℤ x) × (x ≤ℤ a))

-- no point between a and b is nearer to c
pub median_nearest : (a b c x : ℤ) → Between a b x → span (median a b c) c ≤ span x c
median_nearest a b c x h = go h (total (median a b c) c) (total x c)
  where
    go : Between a b x → (median a b c ≤ℤ c) ⊎ (c ≤ℤ median a b c) → (x ≤ℤ c) ⊎ (c ≤ℤ x) → span (median a b c) c ≤ span x c
    go (inl i) (inl p) (inl q) = omega (arith, whole, span_le p, span_le q, median_is a b c)
    go (inl i) (inl p) (inr q) = omega (arith, whole, span_le p, span_ge q, median_is a b c)
    go (inl i) (inr p) (inl q) = omega (arith, whole, span_ge p, span_le q, median_is a b c)
    go (inl i) (inr p) (inr q) = omega (arith, whole, span_ge p, span_ge q, median_is a b c)
    go (inr i) (inl p) (inl q) = omega (arith, whole, span_le p, span_le q, median_is a b c)
    go (inr i) (inl p) (inr q) = omega (arith, whole, span_le p, span_ge q, median_is a b c)
    go (inr i) (inr p) (inl q) = omega (arith, whole, span_ge p, span_le q, median_is a b c)
    go (inr i) (inr p) (inr q) = omega (arith, whole, span_ge p, span_ge q, median_is a b c)

between_first : (a b : ℤ) → Between a b a
between_first a b = ⊎_elim (λ h. inl (omega (arith, whole))) (λ h. inr (omega (arith, whole))) (total a b)

between_last : (a b : ℤ) → Between a b b
between_last a b = ⊎_elim (λ h. inl (omega (arith, whole))) (λ h. inr (omega (arith, whole))) (total a b)

-- the median of m, b and a third, where m is between a and b; and that of a, m and a third
between_lower : (a b m c : ℤ) → Between a b m → Between a b (median m b c)
between_lower a b m c (inl h) = ⊎_elim (λ k. inl (omega (arith, whole))) (λ k. inl (omega (arith, whole))) (median_between m b c)
between_lower a b m c (inr h) = ⊎_elim (λ k. inr (omega (arith, whole))) (λ k. inr (omega (arith, whole))) (median_between m b c)

between_upper : (a b m c : ℤ) → Between a b m → Between a b (median a m c)
between_upper a b m c (inl h) = ⊎_elim (λ k. inl (omega (arith, whole))) (λ k. inl (omega (arith, whole))) (median_between a m c)
between_upper a b m c (inr h) = ⊎_elim (λ k. inr (omega (arith, whole))) (λ k. inr (omega (arith, whole))) (median_between a m c)

-- no end of an edge is nearer to s than the median is
pub median_near_first : (u v s : Point) → distance (median_point u v s) s ≤ distance u s
unfolding distance median_point
median_near_first u v s = omega (arith, median_nearest u.x v.x s.x u.x (between_first u.x v.x), median_nearest u.y v.y s.y u.y (between_first u.y v.y))

pub median_near_last : (u v s : Point) → distance (median_point u v s) s ≤ distance v s
unfolding distance median_point
median_near_last u v s = omega (arith, median_nearest u.x v.x s.x v.x (between_last u.x v.x), median_nearest u.y v.y s.y v.y (between_last u.y v.y))

-- no part of a split edge, neither the lower nor the upper, is nearer to s than the edge was
pub lower_part : (u v t s : Point) → distance (median_point u v s) s ≤ distance (median_point (median_point u v t) v s) s
unfolding distance median_point
lower_part u v t s = omega (
  arith,
  median_nearest u.x v.x s.x _ (between_lower u.x v.x (median u.x v.x t.x) s.x (median_between u.x v.x t.x)),
  median_nearest u.y v.y s.y _ (between_lower u.y v.y (median u.y v.y t.y) s.y (median_between u.y v.y t.y)),
)

pub upper_part : (u v t s : Point) → distance (median_point u v s) s ≤ distance (median_point u (median_point u v t) s) s
unfolding distance median_point
upper_part u v t s = omega (
  arith,
  median_nearest u.x v.x s.x _ (between_upper u.x v.x (median u.x v.x t.x) s.x (median_between u.x v.x t.x)),
  median_nearest u.y v.y s.y _ (between_upper u.y v.y (median u.y v.y t.y) s.y (median_between u.y v.y t.y)),
)
