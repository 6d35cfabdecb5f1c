-- Distances, in nanometres. Definitions alone.
use Rattle.std.specs.Prelude.{ℕ, ◌+◌, ℤ, ◌-ℤ◌, nat_abs}
use Rattle.quantities.specs.declared.point.Point.{Point}

-- |a - b|, of two coordinates
unfoldable pub span : ℤ → ℤ → ℕ
span a b = nat_abs (a -ℤ b)

-- "this house takes the distance |dx| + |dy|"
unfoldable pub distance : Point → Point → ℕ
distance p q = span p.x q.x + span p.y q.y
