-- Theorem 2 of document 000 in the words of 02's request 6, and what that request says of the choice and of the tree besides: one statement about any net.
use Rattle.std.specs.Prelude.{ℕ, suc, ◌*◌, ◌≤◌, ◌<◌, ◌≡◌, ◌⊎◌, List, map}
use Rattle.quantities.specs.declared.point.Point.{Point}
use Rattle.quantities.specs.Distance.{distance}
use Rattle.quantities.specs.Box.{InBox}
use Rattle.tree.specs.Net.{Net, size, sink_numbers, sink_at}
use Rattle.tree.specs.Tree.{LegalTree, place}
use Rattle.tree.specs.Measures.{wire_length}
use Rattle.tree.specs.SpanningTrees.{Link, Among, SpanningTree, link_wire, terminals}
use Rattle.short_tree.specs.ShortTree.{Growing, added, waiting, edges, edge_for, next_sink, nearest, after, short}

-- sink s is nearest to the root, "lowest number on a tie"
pub record NearestSink (N : Net) (s : ℕ) : Type 0 where
  pub sink : Among (sink_numbers (size N)) s
  pub first : (t : ℕ) → Among (sink_numbers (size N)) t
      → (distance N.root (sink_at N s) < distance N.root (sink_at N t)) ⊎ ((distance N.root (sink_at N s) ≡ distance N.root (sink_at N t)) × (s ≤ t))

-- (a, s, v) is not after (b, t, u)
abbrev pub NotAfter : ℕ → ℕ → ℕ → ℕ → ℕ → ℕ → Type 0
NotAfter a s v b t u = (a < b) ⊎ ((a ≡ b) × ((s < t) ⊎ ((s ≡ t) × (v ≤ u))))

-- of all sinks that wait and all edges, sink s and the edge to v are first by added wire, "Ties: lowest sink, then lowest lower end"
pub record FirstChoice (N : Net) (k : ℕ) (g : Growing) (s v : ℕ) : Type 0 where
  pub sink : Among (waiting N g) s
  pub edge : Among (edges N k g) v
  pub first : (t u : ℕ) → Among (waiting N g) t → Among (edges N k g) u → NotAfter (added N g.tree s v) s v (added N g.tree t u) t u

-- one spanning tree on the root and n sinks: a wire of its own from the root to each
abbrev pub star : ℕ → List Link
star n = map (λ s. record { one = 0; other = s }) (sink_numbers n)

-- for every net with a sink, of whatever numbers
pub record Theorem2 (N : Net) : Type 0 where
  pub start : NearestSink N (nearest N)
  pub choice : (k : ℕ) → suc k < size N → FirstChoice N k (after N k) (next_sink N k (after N k)) (edge_for N k (after N k) (next_sink N k (after N k)))
  pub legal : LegalTree N (short N)
  -- "its wire is at most that of every spanning tree on the root and the sinks"
  pub shortest : (L : List Link) → SpanningTree (terminals (size N)) L → wire_length N (short N) ≤ link_wire (sink_at N) L
  -- and there are such trees
  pub spanned : SpanningTree (terminals (size N)) (star (size N))
  -- every vertex lies in each box that the root and the sinks lie in
  pub boxed : (low high : Point) → ((t : ℕ) → t ≤ size N → InBox low high (sink_at N t)) → (v : ℕ) → v < 2 * size N → InBox low high (place N (short N) v)
