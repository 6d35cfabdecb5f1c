-- The choice of the edge to split, from the numbers that the planner's arrays give, for the contracts of its inner functions. Definitions alone.
use Rattle.std.specs.Prelude.{ℕ, suc, ◌+◌, ◌≤◌, ◌<◌, ◌≡◌, Bool, true, false, cond, ◌⊎◌, List, get_or, ltb, ℤ, pos, ◌≤ℤ◌, ◌<ℤ◌}
use Rattle.std.specs.Int.Signed.{lt_z}
use Rattle.quantities.specs.Distance.{distance}
use Rattle.first_tree.specs.declared.choose.Edge.{Edge}
use Rattle.first_tree.specs.declared.choose.Scored.{Scored}
use Rattle.tree.specs.Planning.{nearer, ranks}
use Rattle.tree.specs.SmallestSlack.{score_of}
use Rattle.tree.specs.Inner.Arrays.{point_at}

-- how far the lower end v is from sink s, a branch point counted at the root's position
abbrev pub far_at : ℕ → List ℤ → List ℤ → ℕ → ℕ → ℕ
far_at n xs ys s v = distance (point_at xs ys (cond (ltb n v) 0 v)) (point_at xs ys s)

-- edge a goes before edge b: by the larger worst slack, then the nearer lower end, then its lower number
abbrev pub goes_before : Edge → Edge → Bool
goes_before a b = ranks a.score.0 b.score.0 (nearer a.far.0 b.far.0 (ltb a.end b.end))

abbrev pub first_of : Edge → Edge → Edge
first_of a b = cond (goes_before a b) a b

-- the edge to v, where f gives the worst slacks and d the distances
abbrev pub edge_to : (ℕ → ℤ) → (ℕ → ℕ) → ℕ → Edge
edge_to f d v = record { end = v; score = record { 0 = f v }; far = record { 0 = d v } }

-- the sink at place i of the order, and the roomier of two: the first only where it scores more
abbrev pub scored_at : (ℕ → ℤ) → List ℕ → ℕ → Scored
scored_at f sinks i = record { place = i; score = record { 0 = f (get_or sinks i 0) } }

abbrev pub roomier_of : Scored → Scored → Scored
roomier_of a b = cond (lt_z b.score.0 a.score.0) a b

-- of the sinks at the places i to m - 1 of their order the one at r's place scores the most, and more than those behind it
pub record RoomiestFrom (f : ℕ → ℤ) (sinks : List ℕ) (i m : ℕ) (r : Scored) : Type 0 where
  pub from : i ≤ r.place
  pub inside : r.place < m
  pub is : r.score.0 ≡ f (get_or sinks r.place 0)
  pub largest : (h : ℕ) → i ≤ h → h < m → f (get_or sinks h 0) ≤ℤ r.score.0
  pub behind : (h : ℕ) → r.place < h → h < m → f (get_or sinks h 0) <ℤ r.score.0

-- r is one of the given lower ends: of the largest f, then of the smallest d, then of the lowest number
pub record BestEnd (Ends : ℕ → Type 0) (f : ℕ → ℤ) (d : ℕ → ℕ) (r : ℕ) : Type 0 where
  pub inside : Ends r
  pub largest : (u : ℕ) → Ends u → f u ≤ℤ f r
  pub nearest : (u : ℕ) → Ends u → f u ≡ f r → d r ≤ d u
  pub lowest : (u : ℕ) → Ends u → f u ≡ f r → d u ≡ d r → r ≤ u

abbrev pub BestEdge : (ℕ → Type 0) → (ℕ → ℤ) → (ℕ → ℕ) → Edge → Type 0
BestEdge Ends f d x = (x ≡ edge_to f d x.end) × BestEnd Ends f d x.end

-- the lower ends: the first m sinks in their order, and h branch points
abbrev pub SinkEnd : List ℕ → ℕ → ℕ → Type 0
SinkEnd sinks m v = (i : ℕ) × (i < m) × (get_or sinks i 0 ≡ v)

abbrev pub AnyEnd : List ℕ → ℕ → ℕ → ℕ → ℕ → Type 0
AnyEnd sinks m n h v = SinkEnd sinks m v ⊎ ((n < v) × (v ≤ n + h))

-- the sinks at the places i to m - 1 of their order
abbrev pub SinkFrom : List ℕ → ℕ → ℕ → ℕ → Type 0
SinkFrom sinks i m v = (h : ℕ) × (i ≤ h) × (h < m) × (get_or sinks h 0 ≡ v)

-- no branch point has more room than every sink
abbrev pub NoneRoomier : ℕ → ℕ → List ℕ → List ℤ → Type 0
NoneRoomier n k sinks slacks = (b : ℕ) → n < b → b ≤ n + k → (i : ℕ) × (i < suc k) × (get_or slacks b (pos 0) ≤ℤ get_or slacks (get_or sinks i 0) (pos 0))

-- no branch point below b scores w
abbrev pub NoneAsGood : ℤ → List ℤ → ℤ → ℕ → ℕ → Type 0
NoneAsGood branch slacks w n b = (v : ℕ) → n < v → v < b → lt_z (score_of branch slacks v) w ≡ true

-- r is the lowest of k branch points that scores w, or u where none does
abbrev pub FirstAsGood : ℤ → List ℤ → ℤ → ℕ → ℕ → ℕ → ℕ → Type 0
FirstAsGood branch slacks w n k u r =
    ((n < r) × (r ≤ n + k) × (lt_z (score_of branch slacks r) w ≡ false) × NoneAsGood branch slacks w n r) ⊎ ((r ≡ u) × NoneAsGood branch slacks w n (suc (n + k)))
