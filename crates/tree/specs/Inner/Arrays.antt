-- The net and the tree that a program's arrays hold. Each array has a place for every vertex, by its number. Definitions alone.
use Rattle.std.specs.Prelude.{ℕ, suc, ◌+◌, ◌*◌, ◌-◌, ◌≤◌, ◌<◌, ◌≡◌, ◌⊎◌, List, map, length, get_or, ℤ, pos}
use Rattle.quantities.specs.declared.point.Point.{Point}
use Rattle.quantities.specs.Distance.{distance}
use Rattle.quantities.specs.Inner.Linear.{up}
use Rattle.quantities.specs.Median.{median_point}
use Rattle.quantities.specs.Ranges.{PointWithin}
use Rattle.tree.specs.declared.header.Header.{Header}
use Rattle.tree.specs.Lists.{range}
use Rattle.tree.specs.Net.{Net, sink_numbers, branch_numbers}
use Rattle.tree.specs.Tree.{Tree}
use Rattle.tree.specs.Limits.{position_limit, sink_limit, InRange, WeightsInRange}

-- where vertex v stands
abbrev pub point_at : List ℤ → List ℤ → ℕ → Point
point_at xs ys v = record { x = get_or xs v (pos 0); y = get_or ys v (pos 0) }

-- the length of the edge whose lower end is v
abbrev pub length_above : List ℕ → List ℤ → List ℤ → ℕ → ℕ
length_above parents xs ys v = distance (point_at xs ys (get_or parents v 0)) (point_at xs ys v)

-- the net of n sinks. c is at least 1 in its range: a negative one stands for none
abbrev pub net_of : Header → ℕ → List ℤ → List ℤ → List ℤ → Net
net_of h n xs ys required = record {
  root = point_at xs ys 0;
  branch = up h.branch.0;
  wire = h.wire;
  need = h.need.0;
  sinks = map (λ s. record { point = point_at xs ys s; required = get_or required s (pos 0) }) (sink_numbers n);
}

-- the weights of the sinks, at the places 1 to n. Each is at least 1 in its range: a negative one stands for none
abbrev pub weights_of : ℕ → List ℤ → List ℕ
weights_of n weights = map (λ s. up (get_or weights s (pos 0))) (sink_numbers n)

abbrev pub parents_of : ℕ → List ℕ → List ℕ
parents_of n parents = map (λ v. get_or parents v 0) (range 1 (2 * n - 1))

abbrev pub tree_of : ℕ → List ℕ → List ℤ → List ℤ → Tree
tree_of n parents xs ys = record { parents = parents_of n parents; points = map (point_at xs ys) (branch_numbers n) }

-- a parent below 2n for each vertex below the root; it may be any vertex, so rings and a vertex that is its own parent too
pub record Parents (n : ℕ) (parents : List ℕ) : Type 0 where
  pub some : 1 ≤ n
  pub few : n ≤ sink_limit
  pub long : 2 * n ≤ length parents
  pub inside : (v : ℕ) → 1 ≤ v → v < 2 * n → get_or parents v 0 < 2 * n

-- a point in range for each vertex below m
pub record Points (m : ℕ) (xs ys : List ℤ) : Type 0 where
  pub xs_long : m ≤ length xs
  pub ys_long : m ≤ length ys
  pub near : (v : ℕ) → v < m → PointWithin position_limit (point_at xs ys v)

-- a net in range: the root and the sinks stand at the places 0 to n
pub record HoldsNet (h : Header) (n : ℕ) (xs ys required : List ℤ) : Type 0 where
  pub points : Points (suc n) xs ys
  pub required_long : n < length required
  pub in_range : InRange (net_of h n xs ys required)

-- the weights of its sinks, in range
pub record HoldsWeights (n : ℕ) (weights : List ℤ) : Type 0 where
  pub long : n < length weights
  pub in_range : WeightsInRange n (weights_of n weights)

-- a tree over it, legal or not, with every vertex in range
pub record HoldsTree (n : ℕ) (parents : List ℕ) (xs ys : List ℤ) : Type 0 where
  pub parents_in_lem : Parents n parents
  pub points_in_lem : Points (2 * n) xs ys

-- the vertices 1 to 2n-1
abbrev pub UnderRoot : ℕ → ℕ → Type 0
UnderRoot n v = (1 ≤ v) × (v < 2 * n)

-- the first m places of `upward` hold the vertices of a tree, each before its parent: an order from the leaves up
pub record LeavesUp (Vertex : ℕ → Type 0) (m : ℕ) (parents upward : List ℕ) : Type 0 where
  pub inside : (i : ℕ) → i < m → Vertex (get_or upward i 0)
  pub all : (v : ℕ) → Vertex v → (i : ℕ) × (i < m) × (get_or upward i 0 ≡ v)
  pub once : (h i : ℕ) → h < m → i < m → get_or upward h 0 ≡ get_or upward i 0 → h ≡ i
  pub before : (h i : ℕ) → h < m → i < m → get_or parents (get_or upward h 0) 0 ≡ get_or upward i 0 → h < i

-- the first 2n - 1 places of `queue` hold the vertices 1 to 2n-1, each after its parent, but for the root's child: an order from the root down
pub record RootDown (n : ℕ) (parents queue : List ℕ) : Type 0 where
  pub long : 2 * n - 1 ≤ length queue
  pub inside : (i : ℕ) → i < 2 * n - 1 → UnderRoot n (get_or queue i 0)
  pub all : (v : ℕ) → UnderRoot n v → (i : ℕ) × (i < 2 * n - 1) × (get_or queue i 0 ≡ v)
  pub after : (i : ℕ) → i < 2 * n - 1 → (get_or parents (get_or queue i 0) 0 ≡ 0) ⊎ ((h : ℕ) × (h < i) × (get_or queue h 0 ≡ get_or parents (get_or queue i 0) 0))

-- `below` leads from each vertex of an order to the one before it: from the root, which stands behind the last, to the last, and from the first to 0
pub record Chained (m : ℕ) (upward below : List ℕ) : Type 0 where
  pub size : length upward ≡ m
  pub first : get_or below (get_or upward 0 0) 0 ≡ 0
  pub next : (i : ℕ) → i < m → get_or below (get_or upward (suc i) 0) 0 ≡ get_or upward i 0

-- the median of the root and of the two children of b, which stand in `kids` at the places 2b and 2b+1
abbrev pub median_at : List ℤ → List ℤ → List ℕ → ℕ → Point
median_at xs ys kids b = median_point (point_at xs ys 0) (point_at xs ys (get_or kids (2 * b) 0)) (point_at xs ys (get_or kids (2 * b + 1) 0))
