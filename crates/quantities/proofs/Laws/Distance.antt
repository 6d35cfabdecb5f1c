-- Distances. Assumes nothing.
use mathlib.Core.Path.{◌≡◌, ap, ap₂, sym, ◌∙◌}
use mathlib.Core.Logic.{⊎_elim}
use Prim.Native.Nat.{ℕ, ◌+◌, ◌-◌, ◌*◌, ◌≤◌}
use native.Mathlib.Nat.{add-mul}
use native.Mathlib.Omega.{arith}
use lib.IntN.{ℤ, pos, ◌-ℤ◌, ◌*ℤ◌}
use lib.Signed.{◌≤ℤ◌}
use Rattle.quantities.specs.declared.point.Point.{Point}
use Rattle.quantities.specs.Distance.{span, distance}
use Rattle.quantities.specs.Ranges.{Within, PointWithin}
use Rattle.quantities.specs.Inner.Linear.{up, dn, whole, -is, *is, nat_abs_is, neg_up, neg_dn}
use Rattle.quantities.proofs.Laws.MinMax.{total}
use Rattle.quantities.proofs.Laws.Rising.{rising_times}

-- by the parts, with ℕ's differences
pub span_is : (a b : ℤ) → span a b ≡ ((up a + dn b) - (up b + dn a)) + ((up b + dn a) - (up a + dn b))
unfolding span
span_is a b = omega (arith, nat_abs_is (a -ℤ b), -is a b)

-- where the order is known: `omega` has no case to split
pub span_le : {a b : ℤ} → a ≤ℤ b → span a b + (up a + dn b) ≡ up b + dn a
span_le {a} {b} h = omega (arith, whole, span_is a b)

pub span_ge : {a b : ℤ} → b ≤ℤ a → span a b + (up b + dn a) ≡ up a + dn b
span_ge {a} {b} h = omega (arith, whole, span_is a b)

pub span_self : (a : ℤ) → span a a ≡ 0
span_self a = omega (arith, span_is a a)

span_symmetric : (a b : ℤ) → span a b ≡ span b a
span_symmetric a b = omega (arith, span_is a b, span_is b a)

pub span_triangle : (a b c : ℤ) → span a c ≤ span a b + span b c
span_triangle a b c = omega (arith, span_is a b, span_is b c, span_is a c)

pub span_within : (k : ℕ) (a b : ℤ) → Within k a → Within k b → span a b ≤ 2 * k
span_within k a b h l = omega (arith, whole, span_is a b, neg_up (pos k), neg_dn (pos k))

-- coordinates k times as large lie k times as far apart
pub span_times : (k : ℕ) → 1 ≤ k → (a b : ℤ) → span (a *ℤ pos k) (b *ℤ pos k) ≡ span a b * k
span_times k h a b =
    ⊎_elim
    (λ l. omega (arith, *is a k, *is b k, span_le ((rising_times k h).mono l), ap (λ n. n * k) (span_le l), add-mul (span a b) (up a + dn b) k, add-mul (up a) (dn b) k, add-mul (up b) (dn a) k))
    (λ l. omega (arith, *is a k, *is b k, span_ge ((rising_times k h).mono l), ap (λ n. n * k) (span_ge l), add-mul (span a b) (up b + dn a) k, add-mul (up a) (dn b) k, add-mul (up b) (dn a) k))
    (total a b)

pub distance_self : (p : Point) → distance p p ≡ 0
unfolding distance
distance_self p = omega (arith, span_self p.x, span_self p.y)

pub distance_symmetric : (p q : Point) → distance p q ≡ distance q p
unfolding distance
distance_symmetric p q = omega (arith, span_symmetric p.x q.x, span_symmetric p.y q.y)

-- the triangle inequality
pub triangle : (p q r : Point) → distance p r ≤ distance p q + distance q r
unfolding distance
triangle p q r = omega (arith, span_triangle p.x q.x r.x, span_triangle p.y q.y r.y)

pub distance_within : (k : ℕ) (p q : Point) → PointWithin k p → PointWithin k q → distance p q ≤ 4 * k
unfolding distance
distance_within k p q h l = omega (arith, span_within k p.x q.x h.0 l.0, span_within k p.y q.y h.1 l.1)

-- where |dx| and |dy| are k times as large, so is the distance
pub distance_scaled : (k : ℕ) (p q p' q' : Point) → span p'.x q'.x ≡ span p.x q.x * k → span p'.y q'.y ≡ span p.y q.y * k → distance p' q' ≡ distance p q * k
unfolding distance
distance_scaled k p q p' q' a u = ap₂ ◌+◌ a u ∙ sym (add-mul (span p.x q.x) (span p.y q.y) k)
