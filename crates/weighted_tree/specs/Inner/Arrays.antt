-- What the arrays of the third plan's program hold: two queues of the vertices that are free, and a joining. Definitions alone.
use Rattle.std.specs.Prelude.{ℕ, suc, ◌+◌, ◌*◌, ◌-◌, ◌≤◌, ◌<◌, ◌≡◌, ◌⊎◌, List, length, get_or, ℤ, pos, ◌≤ℤ◌, ◌<ℤ◌}
use Rattle.tree.specs.Tree.{parent_of}
use Rattle.tree.specs.Weights.{weight_of}
use Rattle.tree.specs.Limits.{sink_limit}
use Rattle.tree.specs.Inner.Arrays.{parents_of}
use Rattle.weighted_tree.specs.Joining.{Joining}

-- the places 0 to n - 1 of `order` hold sinks
abbrev pub Sinks : ℕ → List ℕ → Type 0
Sinks n order = (q : ℕ) → q < n → (1 ≤ get_or order q 0) × (get_or order q 0 ≤ n)

-- ---- Two queues, of n sinks and of k branch points: O q is the sink at place q, W v the total weight of v. The first i sinks and the first j branch
-- points have been taken.

-- the arrays have the queues of n sinks and k branch points
abbrev pub HoldsQueues : ℕ → ℕ → List ℤ → List ℕ → ℕ → ℕ → Type 0
HoldsQueues n k weights order i j = (k < n) × (n ≤ sink_limit) × (2 * n ≤ length weights) × (n ≤ length order) × (i ≤ n) × (j ≤ k) × Sinks n order

-- u waits
abbrev pub Waits : ℕ → ℕ → (ℕ → ℕ) → ℕ → ℕ → ℕ → Type 0
Waits n k O i j u = ((q : ℕ) × (i ≤ q) × (q < n) × (O q ≡ u)) ⊎ ((n + j < u) × (u ≤ n + k))

-- a sink goes first, or a branch point: a tie goes to the sink, whose number is lower
abbrev pub SinkFirst : ℕ → ℕ → (ℕ → ℤ) → (ℕ → ℕ) → ℕ → ℕ → Type 0
SinkFirst n k W O i j = (i < n) × (j < k → W (O i) ≤ℤ W (n + suc j))

abbrev pub BranchFirst : ℕ → ℕ → (ℕ → ℤ) → (ℕ → ℕ) → ℕ → ℕ → Type 0
BranchFirst n k W O i j = (j < k) × (i < n → W (n + suc j) <ℤ W (O i))

-- v is taken; then i' sinks and j' branch points have been
abbrev pub Takes : ℕ → ℕ → (ℕ → ℤ) → (ℕ → ℕ) → ℕ → ℕ → ℕ → ℕ → ℕ → Type 0
Takes n k W O i j v i' j' =
    (SinkFirst n k W O i j × (v ≡ O i) × (i' ≡ suc i) × (j' ≡ j)) ⊎ (BranchFirst n k W O i j × (v ≡ n + suc j) × (i' ≡ i) × (j' ≡ suc j))

-- x goes before y, by total weight and number
abbrev pub Lower : (ℕ → ℕ) → ℕ → ℕ → Type 0
Lower W x y = (W x ≤ W y) × (W x ≡ W y → x < y)

-- each queue is in order
pub record Lines (n k : ℕ) (W O : ℕ → ℕ) : Type 0 where
  pub sinks : (q : ℕ) → q < n → (1 ≤ O q) × (O q ≤ n)
  pub sinks_rise : (q r : ℕ) → q < r → r < n → Lower W (O q) (O r)
  pub branches_rise : (b c : ℕ) → n < b → b ≤ c → c ≤ n + k → W b ≤ W c

-- what waits is what has no parent yet, p v being the parent of v; no branch point weighs more than twice one that waits
pub record Queues (n k i j : ℕ) (W p O : ℕ → ℕ) : Type 0 where
  pub lines : Lines n k W O
  pub sinks_taken : i ≤ n
  pub branches_taken : j ≤ k
  pub two_each : i + j ≡ 2 * k
  pub free : (u : ℕ) → Waits n k O i j u → p u ≡ 0
  pub all : (u : ℕ) → 1 ≤ u → u ≤ n + k → p u ≡ 0 → Waits n k O i j u
  pub unborn : (u : ℕ) → n + k < u → p u ≡ 0
  pub light : (b u : ℕ) → n < b → b ≤ n + k → Waits n k O i j u → W b ≤ 2 * W u

-- ---- the arrays

-- k joins have been made, i sinks being joined: J has the total weight and the parent of each vertex, and the queues are left
pub record Joined (n k i : ℕ) (J : Joining) (weights : List ℤ) (order parents : List ℕ) : Type 0 where
  pub totals_long : suc (length J.totals) ≡ 2 * n
  pub weights_are : (v : ℕ) → 1 ≤ v → v ≤ n + k → get_or weights v (pos 0) ≡ pos (weight_of J.totals v)
  pub parents_are : parents_of n parents ≡ J.parents
  pub queues : Queues n k i (2 * k - i) (weight_of J.totals) (parent_of J.parents) (λ q. get_or order q 0)

-- room for the whole plan: the tree is made, settled and measured
pub record PlanRoom (n : ℕ) (xs ys weights : List ℤ) (parents order room : List ℕ) (slacks : List ℤ) : Type 0 where
  pub xs_long : 2 * n ≤ length xs
  pub ys_long : 2 * n ≤ length ys
  pub weights_long : 2 * n ≤ length weights
  pub parents_long : 2 * n ≤ length parents
  pub order_long : 2 * n ≤ length order
  pub room_long : 4 * n ≤ length room
  pub slacks_long : 2 * n ≤ length slacks
