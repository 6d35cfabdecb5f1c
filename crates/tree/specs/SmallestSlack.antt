-- The smallest slack under each vertex: document 02, request 3. Definitions, and the request's promises as one statement.
use Rattle.std.specs.Prelude.{ℕ, suc, ◌≤◌, ◌<◌, ◌≡◌, Bool, ◌↔◌, ◌≢◌, ◌⊎◌, List, ◌∷◌, map, get_or, take, ltb, ℤ, pos, ◌-ℤ◌}
use Rattle.quantities.specs.MinMax.{min_ℤ}
use Rattle.tree.specs.Lists.{count, down, all_with, least}
use Rattle.tree.specs.Net.{Net, size}
use Rattle.tree.specs.Tree.{Tree, parent}
use Rattle.tree.specs.Measures.{path, slack, worst_over}
use Rattle.tree.specs.Planning.{order, unsettled, lower_ends, worst_after, tie_rule, parents_after}
use Rattle.tree.specs.Settling.{children_in}

-- ---- "the tree so far": after j insertions, all branch points at the root's position

abbrev pub tree_after : Net → ℕ → Tree
tree_after N j = unsettled N (parents_after tie_rule N j)

-- the sinks that are in, and the one that goes in next
abbrev pub sinks_in : Net → ℕ → List ℕ
sinks_in N j = take (suc j) (order N)

abbrev pub next_sink : Net → ℕ → ℕ
next_sink N j = get_or (order N) (suc j) 0

-- v is the lower end of one of its edges: a vertex other than the root
abbrev pub InTree : Net → ℕ → ℕ → Type 0
InTree N j v = count v (lower_ends (size N) (sinks_in N j) j) ≢ 0

-- ---- "the smallest slack under each vertex"

-- a sink is at or under v where v is on its path; every path comes from the root
abbrev pub is_under : Tree → ℕ → ℕ → Bool
is_under T v s = ltb 0 (count v (0 ∷ path T s))

abbrev pub sinks_under : Tree → ℕ → List ℕ → List ℕ
sinks_under T v S = all_with (is_under T v) S

-- "the least slack of the sinks at or under its vertex in the tree so far": sinks that are not in are left out
abbrev pub least_under : Net → ℕ → ℕ → ℤ
least_under N j v = worst_over N (tree_after N j) (sinks_under (tree_after N j) v (sinks_in N j))

-- "Each gathered number is .. the least slack of the sinks at or under its vertex": at the place of every vertex, that of the root too
pub record Gathered (N : Net) (j : ℕ) (slacks : List ℤ) : Type 0 where
  pub root : get_or slacks 0 (pos 0) ≡ least_under N j 0
  pub below : (v : ℕ) → InTree N j v → get_or slacks v (pos 0) ≡ least_under N j v

-- "gather .. from the leaves up": a sink has its slack, every other vertex the least of its children's numbers
abbrev pub children_after : Net → ℕ → ℕ → List ℕ
children_after N j v = children_in (parent (tree_after N j)) v (lower_ends (size N) (sinks_in N j) j)

pub record FromLeavesUp (N : Net) (j : ℕ) (slacks : List ℤ) : Type 0 where
  pub sinks : (s : ℕ) → count s (sinks_in N j) ≢ 0 → get_or slacks s (pos 0) ≡ slack N (tree_after N j) s
  pub others : (v : ℕ) → (v ≡ 0) ⊎ (count v (down (size N) j) ≢ 0) → get_or slacks v (pos 0) ≡ least (map (λ u. get_or slacks u (pos 0)) (children_after N j v))

-- ---- "then try the edges from those"

-- "the number got from these for each edge": for the edge to v, from the numbers at the root and at v
abbrev pub score_of : ℤ → List ℤ → ℕ → ℤ
score_of branch slacks v = min_ℤ (get_or slacks 0 (pos 0)) (get_or slacks v (pos 0) -ℤ branch)

-- "the enlarged tree's worst slack", where the next sink splits the edge to v
abbrev pub worst_with : Net → ℕ → ℕ → ℤ
worst_with N j v = worst_after N (sinks_in N j) j (parents_after tie_rule N j) (next_sink N j) v

pub record SmallestSlackFor (N : Net) : Type 0 where
  -- "Each gathered number is proved to be the least slack of the sinks at or under its vertex in the tree so far": what is gathered from the leaves up, and nothing else
  pub gathered : (j : ℕ) → j < size N → (slacks : List ℤ) → FromLeavesUp N j slacks ↔ Gathered N j slacks
  -- "and the number got from these for each edge to be the enlarged tree's worst slack": every edge, those above branch points too
  pub tried : (j : ℕ) → suc j < size N → (slacks : List ℤ) → Gathered N j slacks → (v : ℕ) → InTree N j v → score_of (pos N.branch) slacks v ≡ worst_with N j v

-- for every net where a branch point costs something
abbrev pub SmallestSlack : Type 0
SmallestSlack = (N : Net) → 1 ≤ N.branch → SmallestSlackFor N
