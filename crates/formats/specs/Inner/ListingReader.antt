-- What the answers of the listing reader mean, by the arrays that it fills. Definitions alone.
use Rattle.std.specs.Prelude.{ℕ, suc, ◌*◌, ◌-◌, ◌≤◌, ◌≡◌, List, map, length, get_or, ℤ, Result, Ok, Err}
use Rattle.quantities.specs.declared.length.Length.{Length}
use Rattle.quantities.specs.declared.time.Time.{Time}
use Rattle.tree.specs.declared.measures.Measures.{Measures}
use Rattle.tree.specs.Lists.{range}
use Rattle.tree.specs.Inner.Arrays.{point_at, tree_of}
use Rattle.formats.specs.Outcome.{Outcome, value, refused, and_then}
use Rattle.formats.specs.ListingText.{Listing}
use Rattle.formats.specs.Reading.Lines.{Read, reading}
use Rattle.formats.specs.Reading.Listings.{Stated, due_total, due_same, Vertex, due_leaf, due_node, read_vertices, parents_in}
use Rattle.formats.specs.declared.refusal.Refusal.{Refusal}

-- the arrays have places for the 2n vertices
abbrev pub HasVertices : ℕ → List ℕ → List ℤ → List ℤ → Type 0
HasVertices n parents xs ys = (2 * n ≤ length parents) × (2 * n ≤ length xs) × (2 * n ≤ length ys)

-- ---- the first three lines

-- the line of the count, where those before it are read; then from the line of the wire on
abbrev pub from_same : ℕ → ℤ → ℕ → List ℕ → Outcome (Read Stated)
from_same n slack wire s = and_then (due_same n s) λ count. value (record { got = record { slack = slack; wire = wire }; rest = count.rest })

abbrev pub from_total : ℕ → ℤ → List ℕ → Outcome (Read Stated)
from_total n slack s = and_then (due_total s) λ wire. from_same n slack wire.got wire.rest

-- ---- the lines of the vertices

-- the parents of m vertices from a on, as an array holds them; the vertices, as arrays hold them
abbrev pub parents_from : List ℕ → ℕ → ℕ → List ℕ
parents_from parents a m = map (λ v. get_or parents v 0) (range a m)

abbrev pub vertex_held : List ℕ → List ℤ → List ℤ → ℕ → Vertex
vertex_held parents xs ys v = record { parent = get_or parents v 0; point = point_at xs ys v }

abbrev pub vertices_from : List ℕ → List ℤ → List ℤ → ℕ → ℕ → List Vertex
vertices_from parents xs ys a m = map (vertex_held parents xs ys) (range a m)

-- the leaves of n sinks, by their parents alone; and the nodes
abbrev pub leaves_in : ℕ → List ℕ → Outcome (Read (List ℕ))
leaves_in n s = reading parents_in (read_vertices (due_leaf n) n 1 s)

abbrev pub nodes_in : ℕ → List ℕ → Outcome (Read (List Vertex))
nodes_in n s = read_vertices (due_node n) (n - 1) (suc n) s

-- the listing that the arrays hold, or the refusal
abbrev pub listing_held : Time → Length → ℕ → List ℕ → List ℤ → List ℤ → Listing
listing_held slack wire n parents xs ys = record { slack = slack.0; wire = wire.0; tree = tree_of n parents xs ys }

abbrev pub listing_outcome : Result Measures Refusal → ℕ → List ℕ → List ℤ → List ℤ → Outcome Listing
listing_outcome (Ok measures) n parents xs ys = value (listing_held measures.slack measures.wire n parents xs ys)
listing_outcome (Err e) n parents xs ys = refused e

-- the root and the sinks stand where they stood
abbrev pub SinksKept : ℕ → List ℤ → List ℤ → List ℤ → List ℤ → Type 0
SinksKept n xs ys xs' ys' = (v : ℕ) → v ≤ n → point_at xs' ys' v ≡ point_at xs ys v
