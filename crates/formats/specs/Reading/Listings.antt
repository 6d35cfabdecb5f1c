-- How the listing of a net of n sinks is read: a step for each kind of line. Definitions alone.
use Rattle.std.specs.Prelude.{ℕ, zero, suc, ◌+◌, ◌*◌, ◌-◌, Bool, true, false, ◌&&◌, List, [], ◌∷◌, ◌++◌, map, length, ltb, leb, eqb, ℤ, nat_abs}
use Rattle.quantities.specs.declared.point.Point.{Point}
use Rattle.tree.specs.Tree.{Tree}
use Rattle.tree.specs.Limits.{sink_limit, slack_limit, wire_limit}
use Rattle.formats.specs.Limits.{listing_length_limit}
use Rattle.formats.specs.Outcome.{Outcome, value, refused, and_then}
use Rattle.formats.specs.Ranges.{around, up_to, from_zero, at}
use Rattle.formats.specs.NetText.{wire_key, sinks_key, position_ranges}
use Rattle.formats.specs.ListingText.{Listing, slack_key, leaf_key, node_key, parent_range}
use Rattle.formats.specs.Reading.Lines.{Read, reading, due_number, due_natural, due_for, ended}
use Rattle.formats.specs.declared.ranges.Range.{Range}
use Rattle.formats.specs.declared.refusal.Text.TheVariants.{InListing}
use Rattle.formats.specs.declared.refusal.Refusal.TheVariants.{TooLong, OtherCount, SinkParent}

-- what a listing says before its vertices
pub record Stated : Type 0 where
  pub slack : ℤ
  pub wire : ℕ

abbrev pub due_slack : List ℕ → Outcome (Read ℤ)
due_slack s = due_number InListing 1 slack_key (around slack_limit) s

abbrev pub due_total : List ℕ → Outcome (Read ℕ)
due_total s = due_natural InListing 2 wire_key (from_zero wire_limit) s

-- "7: n is not the net's", after 2 and 3 on line 3
abbrev pub same_only : ℕ → Read ℕ → Outcome (Read ℕ)
same_only n count = elim (eqb count.got n) [ true ↦ value count | false ↦ refused OtherCount ]

abbrev pub due_same : ℕ → List ℕ → Outcome (Read ℕ)
due_same n s = and_then (due_natural InListing 3 sinks_key (up_to sink_limit) s) (same_only n)

abbrev pub read_stated : ℕ → List ℕ → Outcome (Read Stated)
read_stated n s =
    and_then (due_slack s) λ slack.
    and_then (due_total slack.rest) λ wire.
    and_then (due_same n wire.rest) λ count.
    value (record { got = record { slack = slack.got; wire = wire.got }; rest = count.rest })

-- P is a sink
abbrev pub is_sink : ℕ → ℕ → Bool
is_sink n p = leb 1 p && leb p n

-- what the line of a vertex says: its parent; and of a branch point, where it stands
pub record Vertex : Type 0 where
  pub parent : ℕ
  pub point : Point

abbrev pub vertex_of : List ℤ → Vertex
vertex_of zs = record { parent = nat_abs (at zs 0); point = record { x = at zs 1; y = at zs 2 } }

-- "8: P is a sink", after 2 and 3 on the line
abbrev pub no_sink : ℕ → ℕ → Read Vertex → Outcome (Read Vertex)
no_sink n l v = elim (is_sink n v.got.parent) [ true ↦ refused (SinkParent l) | false ↦ value v ]

-- the line of vertex k, by its key and the ranges after P's. "Vertex k stands on line k+3."
abbrev pub due_vertex : List ℕ → List Range → ℕ → ℕ → List ℕ → Outcome (Read Vertex)
due_vertex key ranges n k s = and_then (reading vertex_of (due_for InListing (k + 3) key k (parent_range n ∷ ranges) s)) (no_sink n (k + 3))

abbrev pub due_leaf : ℕ → ℕ → List ℕ → Outcome (Read Vertex)
due_leaf n k s = due_vertex leaf_key [] n k s

abbrev pub due_node : ℕ → ℕ → List ℕ → Outcome (Read Vertex)
due_node n k s = due_vertex node_key position_ranges n k s

-- j lines of vertices, from vertex k on, each by its step
abbrev pub read_vertices : (ℕ → List ℕ → Outcome (Read Vertex)) → ℕ → ℕ → List ℕ → Outcome (Read (List Vertex))
read_vertices line zero k s = value (record { got = []; rest = s })
read_vertices line (suc j) k s = and_then (line k s) λ v. reading (λ l. v.got ∷ l) (read_vertices line j (suc k) v.rest)

abbrev pub parents_in : List Vertex → List ℕ
parents_in l = map (λ v. v.parent) l

abbrev pub points_in : List Vertex → List Point
points_in l = map (λ v. v.point) l

-- the lines of the leaves and of the nodes, and the text's end
abbrev pub read_tree : ℕ → List ℕ → Outcome Tree
read_tree n s =
    and_then (read_vertices (due_leaf n) n 1 s) λ leaves.
    and_then (read_vertices (due_node n) (n - 1) (suc n) leaves.rest) λ nodes.
    ended InListing (2 * n + 3) (record { parents = parents_in leaves.got ++ parents_in nodes.got; points = points_in nodes.got }) nodes.rest

-- the listing of a net with n sinks
abbrev pub read_listing_lines : ℕ → List ℕ → Outcome Listing
read_listing_lines n s =
    and_then (read_stated n s) λ stated.
    and_then (read_tree n stated.rest) λ tree.
    value (record { slack = stated.got.slack; wire = stated.got.wire; tree = tree })

unfoldable pub read_listing : ℕ → List ℕ → Outcome Listing
read_listing n s = elim (ltb listing_length_limit (length s)) [ true ↦ refused (TooLong InListing) | false ↦ read_listing_lines n s ]
