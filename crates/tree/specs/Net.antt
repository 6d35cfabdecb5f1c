-- The net: document 01, 'The net text' and 'Measures', with the two wire factors of 02's request 4. Definitions alone.
use Rattle.std.specs.Prelude.{ℕ, zero, suc, ◌-◌, List, ◌∷◌, map, length, get_or, ℤ, pos, ◌-ℤ◌}
use Rattle.quantities.specs.declared.metal_pair.MetalPair.{MetalPair}
use Rattle.quantities.specs.declared.point.Point.{Point}
use Rattle.quantities.specs.Delay.{delay}
use Rattle.tree.specs.Lists.{range}

-- `sink=X,Y,a,w`: a is the required arrival. The weight w stands beside the net (Weights)
pub record Sink : Type 0 where
  pub point : Point
  pub required : ℤ

-- `root=X,Y`, `branch=c`, `wire=h,v`, `need=t`, and the sinks 1 to n
pub record Net : Type 0 where
  pub root : Point
  pub branch : ℕ
  pub wire : MetalPair
  pub need : ℤ
  pub sinks : List Sink

-- n
abbrev pub size : Net → ℕ
size N = length N.sinks

-- "Vertex 0 is the root, 1 to n the sinks, n+1 to 2n-1 the branch points."
abbrev pub sink_numbers : ℕ → List ℕ
sink_numbers n = range 1 n

abbrev pub branch_numbers : ℕ → List ℕ
branch_numbers n = range (suc n) (n - 1)

-- where sink s stands, and its required arrival
abbrev pub sink_at : Net → ℕ → Point
sink_at N s = get_or (N.root ∷ map (λ s. s.point) N.sinks) s N.root

abbrev pub required : Net → ℕ → ℤ
required N zero = pos 0
required N (suc i) = get_or (map (λ s. s.required) N.sinks) i (pos 0)

-- "Own slack a' of a sink = a - d × distance from the root", the product by request 4's two factors
abbrev pub own_slack : Net → ℕ → ℤ
own_slack N s = required N s -ℤ pos (delay N.wire N.root (sink_at N s))

-- the own slacks of the sinks 1 to n
abbrev pub own_slacks : Net → List ℤ
own_slacks N = map (own_slack N) (sink_numbers (size N))
