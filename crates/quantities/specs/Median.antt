-- The coordinate-wise median of three positions. Definitions alone.
use Rattle.std.specs.Prelude.{ℤ}
use Rattle.quantities.specs.declared.point.Point.{Point}
use Rattle.quantities.specs.MinMax.{min_ℤ, max_ℤ}

-- the middle one of three whole numbers
unfoldable pub median : ℤ → ℤ → ℤ → ℤ
median a b c = max_ℤ (min_ℤ a b) (min_ℤ (max_ℤ a b) c)

-- "the coordinate-wise median"
unfoldable pub median_point : Point → Point → Point → Point
median_point p q r = record { x = median p.x q.x r.x; y = median p.y q.y r.y }
