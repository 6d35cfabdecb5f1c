-- What it means that a number, a point, a wire factor or a pair of them is in a range. Definitions alone.
use Rattle.std.specs.Prelude.{ℕ, ◌≤◌, ℤ, pos, neg_ℤ, ◌≤ℤ◌}
use Rattle.quantities.specs.declared.metal_pair.MetalPair.{MetalPair}
use Rattle.quantities.specs.declared.point.Point.{Point}
use Rattle.quantities.specs.declared.wire_factor.WireFactor.{WireFactor}

-- z is from -k to k
abbrev pub Within : ℕ → ℤ → Type 0
Within k z = (neg_ℤ (pos k) ≤ℤ z) × (z ≤ℤ pos k)

abbrev pub PointWithin : ℕ → Point → Type 0
PointWithin k p = Within k p.x × Within k p.y

abbrev pub FactorWithin : ℕ → WireFactor → Type 0
FactorWithin k w = w.0 ≤ k

abbrev pub FactorsWithin : ℕ → MetalPair → Type 0
FactorsWithin k w = FactorWithin k w.horizontal × FactorWithin k w.vertical
