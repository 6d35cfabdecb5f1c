-- What the limits give: how far lengths, delays and slacks go, and that the functions of `quantities` take them. Assumes nothing.
use Prim.Native.Nat.{ℕ, ◌*◌, ◌≤◌}
use native.Mathlib.Nat.{mul-le-mul}
use native.Mathlib.Omega.{arith}
use lib.IntN.{ℤ, pos, ◌-ℤ◌}
use Rattle.quantities.specs.declared.metal_pair.MetalPair.{MetalPair}
use Rattle.quantities.specs.declared.point.Point.{Point}
use Rattle.quantities.specs.Delay.{delay}
use Rattle.quantities.specs.Distance.{distance}
use Rattle.quantities.specs.Inner.Linear.{whole, -is, neg_up, neg_dn}
use Rattle.quantities.specs.Ranges.{Within, PointWithin, FactorsWithin}
use Rattle.quantities.specs.Inner.Reach.{coordinate_reach, factor_reach, time_reach}
use Rattle.quantities.proofs.Laws.Delay.{delay_within}
use Rattle.quantities.proofs.Laws.Distance.{distance_within}
use Rattle.tree.specs.Net.{Net, size, sink_at, required, own_slack}
use Rattle.tree.specs.Limits.{position_limit, branch_limit, wire_factor_limit, required_limit, InRange}
use Rattle.tree.specs.Inner.DerivedLimits.{length_limit, delay_limit, edge_limit, own_slack_limit, kept_slack_limit}

within_more : (k m : ℕ) (z : ℤ) → k ≤ m → Within k z → Within m z
within_more k m z l w = omega (arith, whole, neg_up (pos k), neg_dn (pos k), neg_up (pos m), neg_dn (pos m))

pub point_reach : (p : Point) → PointWithin position_limit p → PointWithin coordinate_reach p
point_reach p w = (within_more position_limit coordinate_reach p.x (omega arith) w.0, within_more position_limit coordinate_reach p.y (omega arith) w.1)

pub factors_reach : (w : MetalPair) → FactorsWithin wire_factor_limit w → FactorsWithin factor_reach w
factors_reach w l = (omega (arith, l.0), omega (arith, l.1))

-- a wire between two points in range
pub distance_limit : (p q : Point) → PointWithin position_limit p → PointWithin position_limit q → distance p q ≤ length_limit
distance_limit p q = distance_within position_limit p q

pub delay_limit_lem : (w : MetalPair) (p q : Point) → FactorsWithin wire_factor_limit w → PointWithin position_limit p → PointWithin position_limit q → delay w p q ≤ delay_limit
delay_limit_lem w p q = delay_within wire_factor_limit position_limit w p q

module _ (N : Net) (R : InRange N) where
  pub wire_within : FactorsWithin wire_factor_limit N.wire
  wire_within = (R.wire.0.1, R.wire.1.1)

  -- the straight wire from the root to a sink
  far_limit : (s : ℕ) → 1 ≤ s → s ≤ size N → delay N.wire N.root (sink_at N s) ≤ delay_limit
  far_limit s s1 sN = delay_limit_lem N.wire N.root (sink_at N s) wire_within R.root (R.points s s1 sN)

  pub own_within : (s : ℕ) → 1 ≤ s → s ≤ size N → Within own_slack_limit (own_slack N s)
  own_within s s1 sN =
      let q : Within required_limit (required N s) = R.required s s1 sN in
      omega (arith, whole, far_limit s s1 sN, -is (required N s) (pos (delay N.wire N.root (sink_at N s))))

  -- the slack of a sink below d branch points, all at the root's position
  pub kept_within : (s d : ℕ) → 1 ≤ s → s ≤ size N → d ≤ edge_limit → Within kept_slack_limit (own_slack N s -ℤ pos (d * N.branch))
  kept_within s d s1 sN deep =
      let q = own_within s s1 sN in
      omega (arith, whole, mul-le-mul {n₂ = edge_limit} {m₂ = branch_limit} deep R.branch.1, -is (own_slack N s) (pos (d * N.branch)))

pub own_reach : (z : ℤ) → Within own_slack_limit z → Within time_reach z
own_reach z w = omega (arith, whole)

pub kept_reach : (z : ℤ) → Within kept_slack_limit z → Within time_reach z
kept_reach z w = omega (arith, whole)
