-- What the search for an edge asks of the planner's arrays. Definitions alone.
use Rattle.std.specs.Prelude.{ℕ, ◌≤◌, ◌<◌, List, length, get_or, ℤ, pos}
use Rattle.quantities.specs.Ranges.{Within, PointWithin}
use Rattle.quantities.specs.Inner.Reach.{time_reach}
use Rattle.tree.specs.Limits.{position_limit}
use Rattle.tree.specs.Inner.Arrays.{point_at}

-- the places of the root and of the n sinks
abbrev pub PlacesWithin : ℕ → List ℤ → List ℤ → Type 0
PlacesWithin n xs ys = (n < length xs) × (n < length ys) × ((u : ℕ) → u ≤ n → PointWithin position_limit (point_at xs ys u))

-- what a score asks: the number at v
abbrev pub CanScore : List ℤ → ℕ → Type 0
CanScore slacks v = (v < length slacks) × Within time_reach (get_or slacks v (pos 0))

-- a sink that is in
abbrev pub SinkWithin : ℕ → List ℤ → ℕ → Type 0
SinkWithin n slacks u = (u ≤ n) × CanScore slacks u
