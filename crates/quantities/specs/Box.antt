-- Boxes with sides along the axes. Definitions alone.
use Rattle.std.specs.Prelude.{◌≤ℤ◌}
use Rattle.quantities.specs.declared.point.Point.{Point}

-- p lies in the box from the corner `low` to the corner `high`
pub record InBox (low high p : Point) : Type 0 where
  pub x : (low.x ≤ℤ p.x) × (p.x ≤ℤ high.x)
  pub y : (low.y ≤ℤ p.y) × (p.y ≤ℤ high.y)
