-- The short tree: 02, request 6, which follows P2 of document 000. Definitions alone.
use Rattle.std.specs.Prelude.{ℕ, zero, suc, ◌*◌, ◌-◌, cond, List, [], ◌∷◌, ◌++◌, replicate, eqb}
use Rattle.quantities.specs.declared.point.Point.{Point}
use Rattle.quantities.specs.Distance.{distance}
use Rattle.quantities.specs.Median.{median_point}
use Rattle.tree.specs.Lists.{count}
use Rattle.tree.specs.Net.{Net, size, sink_numbers, sink_at}
use Rattle.tree.specs.Tree.{Tree, parent, place}
use Rattle.tree.specs.Planning.{split, lower_ends}
use Rattle.short_tree.specs.Choosing.{first_of}

-- "the point being the median of the edge's ends and the sink": where sink s meets the edge whose lower end is v
abbrev pub meeting : Net → Tree → ℕ → ℕ → Point
meeting N T s v = median_point (place N T (parent T v)) (place N T v) (place N T s)

-- the plain wire that this adds. The edge's own wire stays the same: the median lies on a shortest way between its ends
abbrev pub added : Net → Tree → ℕ → ℕ → ℕ
added N T s v = distance (meeting N T s v) (place N T s)

-- those of a list that are not in S
abbrev pub outside : List ℕ → List ℕ → List ℕ
outside S [] = []
outside S (s ∷ l) = cond (eqb (count s S) 0) (s ∷ outside S l) (outside S l)

-- a tree that grows: the sinks that are in, the last first, and the tree so far. A vertex that is not in has parent 0
pub record Growing : Type 0 where
  pub sinks : List ℕ
  pub tree : Tree

-- the sinks that wait
abbrev pub waiting : Net → Growing → List ℕ
waiting N g = outside g.sinks (sink_numbers (size N))

-- k branch points are made: the edges by their lower ends, and for sink s the one at which it adds least, the lowest lower end on a tie
abbrev pub edges : Net → ℕ → Growing → List ℕ
edges N k g = lower_ends (size N) g.sinks k

abbrev pub edge_for : Net → ℕ → Growing → ℕ → ℕ
edge_for N k g s = first_of (added N g.tree s) (edges N k g)

-- "then always the sink, edge and point that add least plain wire", "Ties: lowest sink, then lowest lower end"
abbrev pub next_sink : Net → ℕ → Growing → ℕ
next_sink N k g = first_of (λ s. added N g.tree s (edge_for N k g s)) (waiting N g)

-- "A split edge hangs as in step 2 of 01, but with the branch point at that median, and branch points are numbered n+1 upward in order of making"
abbrev pub inserted : Net → ℕ → Growing → ℕ → ℕ → Growing
inserted N k g s v = record {
  sinks = s ∷ g.sinks;
  tree = record { parents = split g.tree.parents (size N) k s v; points = g.tree.points ++ (meeting N g.tree s v ∷ []) };
}

abbrev pub step : Net → ℕ → Growing → Growing
step N k g = inserted N k g (next_sink N k g) (edge_for N k g (next_sink N k g))

-- "first the sink nearest to the root (lowest number on a tie)", which hangs on the root
abbrev pub nearest : Net → ℕ
nearest N = first_of (λ s. distance N.root (sink_at N s)) (sink_numbers (size N))

abbrev pub start : Net → Growing
start N = record { sinks = nearest N ∷ []; tree = record { parents = replicate (2 * size N - 1) 0; points = [] } }

-- after k insertions
abbrev pub after : Net → ℕ → Growing
after N zero = start N
after N (suc k) = step N k (after N k)

-- the short tree
unfoldable pub short : Net → Tree
short N = (after N (size N - 1)).tree
