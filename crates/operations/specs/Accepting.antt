-- Which listings are accepted: document 01, 'Refusals by text and line', and what every call that takes a net and a listing starts from. Definitions alone.
use Rattle.std.specs.Prelude.{ℕ, zero, suc, ◌+◌, true, false, ◌&&◌, List, eqb, Option, None, Some}
use Rattle.std.specs.Int.Signed.{le_z}
use Rattle.tree.specs.Net.{Net, size}
use Rattle.tree.specs.Measures.{worst_slack, wire_length}
use Rattle.tree.specs.Defects.{wrong_children, unreached}
use Rattle.formats.specs.Outcome.{Outcome, value, refused, and_then}
use Rattle.formats.specs.Reading.Nets.{read_net}
use Rattle.formats.specs.ListingText.{Listing}
use Rattle.formats.specs.Reading.Listings.{read_listing}
use Rattle.formats.specs.declared.refusal.Refusal.{Refusal}
use Rattle.formats.specs.declared.refusal.Refusal.TheVariants.{WrongChildren, NotReached, OtherSlack, OtherWire}

-- "Vertex k stands on line k+3"; "line 0 for the root"
abbrev pub vertex_line : ℕ → ℕ
vertex_line zero = 0
vertex_line (suc v) = suc v + 3

-- the refusal on the line of the vertex that was found; else what comes next
abbrev pub unless_found : {A : Type 0} → (ℕ → Refusal) → Option ℕ → Outcome A → Outcome A
unless_found refusal (Some v) next = refused (refusal (vertex_line v))
unless_found refusal None next = next

-- 11 and 12: the stated slack and wire are the tree's
abbrev pub true_only : Net → Listing → Outcome Listing
true_only N G =
    elim (le_z G.slack (worst_slack N G.tree) && le_z (worst_slack N G.tree) G.slack) [
      | true ↦ elim (eqb G.wire (wire_length N G.tree)) [ true ↦ value G | false ↦ refused OtherWire ]
      | false ↦ refused OtherSlack
    ]

-- a listing that was read: "9 (root first), 10, 11, 12"
abbrev pub accept_tree : Net → Listing → Outcome Listing
accept_tree N G =
    unless_found WrongChildren (wrong_children (size N) G.tree.parents)
    (unless_found NotReached (unreached (size N) G.tree.parents)
    (true_only N G))

abbrev pub accept_listing : Net → List ℕ → Outcome Listing
accept_listing N listing = and_then (read_listing (size N) listing) (accept_tree N)

-- a net and a listing over it
pub record Accepted : Type 0 where
  pub net : Net
  pub listing : Listing

-- the two texts: "the whole net text before the listing"
unfoldable pub accepted : List ℕ → List ℕ → Outcome Accepted
accepted net listing =
    and_then (read_net net) λ N.
    and_then (accept_listing N listing) λ G.
    value (record { net = N; listing = G })
