-- What the arrays of the short tree's program hold: where the vertices stand, their parents, and for each sink that waits an edge and a cost below which it
-- has none. Definitions alone.
use Rattle.std.specs.Prelude.{ℕ, suc, ◌+◌, ◌*◌, ◌≤◌, ◌<◌, ◌≡◌, ◌≢◌, ◌⊎◌, List, length, get_or, leb, ℤ, Bool, false, Option, None, Some, MatchOption}
use Rattle.quantities.specs.declared.point.Point.{Point}
use Rattle.quantities.specs.Distance.{distance}
use Rattle.quantities.specs.Median.{median_point}
use Rattle.quantities.specs.Ranges.{PointWithin}
use Rattle.tree.specs.Lists.{count}
use Rattle.tree.specs.Net.{Net, size, sink_at}
use Rattle.tree.specs.Tree.{place}
use Rattle.tree.specs.Limits.{position_limit, sink_limit}
use Rattle.tree.specs.Inner.Arrays.{point_at, parents_of, Points}
use Rattle.short_tree.specs.ShortTree.{after}
use Rattle.short_tree.specs.Inner.Searching.{First, Bound}

-- where sink s meets the edge to v, and what it adds there
abbrev pub meeting_at : List ℕ → List ℤ → List ℤ → ℕ → ℕ → Point
meeting_at parents xs ys s v = median_point (point_at xs ys (get_or parents v 0)) (point_at xs ys v) (point_at xs ys s)

abbrev pub added_at : List ℕ → List ℤ → List ℤ → ℕ → ℕ → ℕ
added_at parents xs ys s v = distance (meeting_at parents xs ys s v) (point_at xs ys s)

-- the vertices 0 to `last` stand in range, and their parents are among them
pub record Reaches (last : ℕ) (parents : List ℕ) (xs ys : List ℤ) : Type 0 where
  pub points : Points (suc last) xs ys
  pub long : last < length parents
  pub inside : (v : ℕ) → 1 ≤ v → v ≤ last → get_or parents v 0 ≤ last

-- ---- `kept` has the lower end of an edge for each sink that waits, and 0 for a vertex that does not

abbrev pub Waits : ℕ → List ℕ → ℕ → Type 0
Waits n kept s = (1 ≤ s) × (s ≤ n) × (get_or kept s 0 ≢ 0)

-- v is the lower end of an edge
abbrev pub Inside : ℕ → List ℕ → ℕ → Type 0
Inside last kept v = (1 ≤ v) × (v ≤ last) × (get_or kept v 0 ≡ 0)

-- the edges that a search has seen before v: that to `from` too
abbrev pub Seen : List ℕ → ℕ → ℕ → ℕ → Type 0
Seen kept from v u = (u ≡ from) ⊎ ((1 ≤ u) × (u < v) × (get_or kept u 0 ≡ 0))

-- of the edges that are in, sink s adds least at the one to v, and that is `cost`
pub record Cheapest (In : ℕ → Type 0) (parents : List ℕ) (xs ys : List ℤ) (s v cost : ℕ) : Type 0 where
  pub bound : Bound (added_at parents xs ys s) In v cost
  pub cost_is : cost ≡ added_at parents xs ys s v

-- for sink s an edge is kept, and no edge that is in goes before it and `costs`. What s really adds there may be more
abbrev pub Kept : (ℕ → Type 0) → List ℕ → List ℤ → List ℤ → List ℕ → List ℕ → ℕ → Type 0
Kept In parents xs ys kept costs s = Bound (added_at parents xs ys s) In (get_or kept s 0) (get_or costs s 0)

-- so it is for each sink that waits
abbrev pub AllKept : ℕ → ℕ → List ℕ → List ℤ → List ℤ → List ℕ → List ℕ → Type 0
AllKept n last parents xs ys kept costs = (s : ℕ) → Waits n kept s → Kept (Inside last kept) parents xs ys kept costs s

-- the same places hold 0
abbrev pub SameZeros : List ℕ → List ℕ → Type 0
SameZeros kept kept' = (u : ℕ) → (get_or kept u 0 ≡ 0 → get_or kept' u 0 ≡ 0) × (get_or kept' u 0 ≡ 0 → get_or kept u 0 ≡ 0)

-- only the place s changed
abbrev pub SameBut : ℕ → List ℕ → List ℕ → Type 0
SameBut s l l' = (u : ℕ) → u ≢ s → get_or l' u 0 ≡ get_or l u 0

-- ---- the search for the sink that goes in next

-- sink `best` is the first by what is kept of the sinks before s that wait; and it adds there just what is kept
pub record Best (parents : List ℕ) (xs ys : List ℤ) (kept costs : List ℕ) (s best : ℕ) : Type 0 where
  pub first : First (λ u. get_or costs u 0) (λ u. (1 ≤ u) × (u < s) × (get_or kept u 0 ≢ 0)) best
  pub exact : get_or costs best 0 ≡ added_at parents xs ys best (get_or kept best 0)

-- the best of the sinks before s; none where none of them waits
abbrev pub Looked : List ℕ → List ℤ → List ℤ → List ℕ → List ℕ → ℕ → Option ℕ → Type 0
Looked parents xs ys kept costs s best = MatchOption best ((u : ℕ) → 1 ≤ u → u < s → get_or kept u 0 ≡ 0) (Best parents xs ys kept costs s)

-- sink s goes behind the best, by what is kept
abbrev pub behind : List ℕ → ℕ → Option ℕ → Bool
behind costs s None = false
behind costs s (Some best) = leb (get_or costs best 0) (get_or costs s 0)

-- sink s goes in next, at the edge that is kept for it
pub record Chosen (n : ℕ) (parents : List ℕ) (xs ys : List ℤ) (kept costs : List ℕ) (s : ℕ) : Type 0 where
  pub first : First (λ u. get_or costs u 0) (Waits n kept) s
  pub exact : get_or costs s 0 ≡ added_at parents xs ys s (get_or kept s 0)

-- ---- after sink s went in

-- the edges but that to s
abbrev pub Others : ℕ → ℕ → List ℕ → ℕ → Type 0
Others last s kept u = Inside last kept u × (u ≢ s)

-- ---- the arrays of a net

-- a net of n sinks in range
pub record Pins (N : Net) (n : ℕ) : Type 0 where
  pub size_is : size N ≡ n
  pub some : 1 ≤ n
  pub few : n ≤ sink_limit
  pub near : (v : ℕ) → v ≤ n → PointWithin position_limit (sink_at N v)

-- its root and its sinks stand at the places 0 to n
pub record HoldsPins (N : Net) (n : ℕ) (xs ys : List ℤ) : Type 0 where
  pub pins : Pins N n
  pub stand : (v : ℕ) → v ≤ n → point_at xs ys v ≡ sink_at N v

-- a place for each vertex
pub record Room (n : ℕ) (xs ys : List ℤ) (parents kept costs : List ℕ) : Type 0 where
  pub xs_long : 2 * n ≤ length xs
  pub ys_long : 2 * n ≤ length ys
  pub parents_long : 2 * n ≤ length parents
  pub kept_long : 2 * n ≤ length kept
  pub costs_long : n < length costs

-- after k insertions: the parents, and where the vertices stand
pub record Tracks (N : Net) (n k : ℕ) (xs ys : List ℤ) (parents : List ℕ) : Type 0 where
  pub parents_are : parents_of n parents ≡ (after N k).tree.parents
  pub points_are : (v : ℕ) → v ≤ n + k → point_at xs ys v ≡ place N (after N k).tree v

-- and which sinks wait, each with an edge kept for it
pub record Held (N : Net) (n k : ℕ) (xs ys : List ℤ) (parents kept costs : List ℕ) : Type 0 where
  pub room : Room n xs ys parents kept costs
  pub tracks : Tracks N n k xs ys parents
  pub in_tree : (s : ℕ) → 1 ≤ s → s ≤ n → get_or kept s 0 ≡ 0 → count s (after N k).sinks ≢ 0
  pub waits : (s : ℕ) → 1 ≤ s → s ≤ n → get_or kept s 0 ≢ 0 → count s (after N k).sinks ≡ 0
  pub branches : (v : ℕ) → n < v → v < 2 * n → get_or kept v 0 ≡ 0
  pub known : AllKept n (n + k) parents xs ys kept costs

-- room for the whole plan: the tree is made, gone down and measured
pub record PlanRoom (n : ℕ) (xs ys : List ℤ) (parents kept costs second queue : List ℕ) (slacks : List ℤ) : Type 0 where
  pub tree : Room n xs ys parents kept costs
  pub second_long : 2 * n ≤ length second
  pub queue_long : 2 * n ≤ length queue
  pub slacks_long : 2 * n ≤ length slacks
