-- The marked lines of 01 that speak of quantities alone, by computation.
use mathlib.Core.Path.{◌≡◌, refl}
use lib.IntN.{ℤ, pos, negsuc}
use Rattle.quantities.specs.declared.point.Point.{Point}
use Rattle.quantities.specs.MinMax.{min_ℤ, max_ℤ}
use Rattle.quantities.specs.Floor.{floor_div}
use Rattle.quantities.specs.Median.{median, median_point}

abbrev point : ℤ → ℤ → Point
point x y = record { x = x; y = y }

-- "The median of 0,0 and 4,6 and 10,0 is 4,0."
pub marked_median : median_point (point (pos 0) (pos 0)) (point (pos 4) (pos 6)) (point (pos 10) (pos 0)) ≡ point (pos 4) (pos 0)
unfolding median_point median min_ℤ max_ℤ
marked_median = refl

-- "floor(-1/20) = -1"
pub marked_floor : floor_div (negsuc 0) 20 ≡ negsuc 0
unfolding floor_div
marked_floor = refl
