-- What the deletion of a pin answers, for all bytes: 02, request 9. Definitions alone.
use Rattle.std.specs.Prelude.{ℕ, Bool, true, false, ◌&&◌, ◌||◌, List, [], length, eqb, ltb, leb, Result, Ok, Err}
use Rattle.tree.specs.Net.{Net, size}
use Rattle.tree.specs.Tree.{Tree}
use Rattle.formats.specs.Refusals.{told}
use Rattle.formats.specs.Outcome.{Outcome, value, refused, and_then}
use Rattle.formats.specs.NetText.{net_text}
use Rattle.formats.specs.ListingText.{listing_text}
use Rattle.formats.specs.Reading.Nets.{read_weighted}
use Rattle.formats.specs.declared.refusal.Refusal.{Refusal}
use Rattle.formats.specs.declared.refusal.Refusal.TheVariants.{TooShort, NotASink, OnlySink}
use Rattle.operations.specs.Accepting.{accept_listing}
use Rattle.operations.specs.Answers.{stated, overwritten}
use Rattle.shorter_tree.specs.Deletion.{without, weights_without, pruned}
use Rattle.pin_deletion.specs.declared.delete_pin.Deleted.{Deleted}

-- ---- the two texts

-- "The shorter net and listing": their bytes
pub record Shorter : Type 0 where
  pub net : List ℕ
  pub listing : List ℕ

-- of the net N with the weights w, the tree T over it and the sink s. "The listing states its own true slack and wire"
unfoldable pub shorter : Net → List ℕ → Tree → ℕ → Shorter
shorter N w T s = record {
  net = net_text (without N s) (weights_without w s);
  listing = listing_text (size (without N s)) (stated (without N s) (pruned N T s));
}

-- "go into two lent outputs", of so many bytes; "6 if either output is too short"
abbrev pub both_fit : Shorter → ℕ → ℕ → Outcome Shorter
both_fit t net_room listing_room = elim (ltb net_room (length t.net) || ltb listing_room (length t.listing)) [ true ↦ refused TooShort | false ↦ value t ]

-- s is "1 to n"
unfoldable pub is_sink : ℕ → ℕ → Bool
is_sink n s = leb 1 s && leb s n

-- "Turned away: 15 .. if the sink number is not 1 to n; 16, likewise, if n is 1; they are tried in this order after judge's refusals, then 6"
abbrev pub deleted : Net → List ℕ → Tree → ℕ → ℕ → ℕ → Outcome Shorter
deleted N w T s net_room listing_room =
    elim (is_sink (size N) s) [
      | true ↦ elim (eqb (size N) 1) [ true ↦ refused OnlySink | false ↦ both_fit (shorter N w T s) net_room listing_room ]
      | false ↦ refused NotASink
    ]

-- "Given a net, an accepted listing and a sink": of their bytes, and the lengths of the two outputs
unfoldable pub deletion_of : List ℕ → List ℕ → ℕ → ℕ → ℕ → Outcome Shorter
deletion_of net listing s net_room listing_room =
    and_then (read_weighted net) λ M.
    and_then (accept_listing M.net listing) λ G.
    deleted M.net M.weights G.tree s net_room listing_room

-- ---- the outputs after the call: "bytes beyond them keep their values"

-- the bytes that go out: none where it is refused
abbrev pub net_bytes_of : Outcome Shorter → List ℕ
net_bytes_of (value t) = t.net
net_bytes_of (refused e) = []

abbrev pub listing_bytes_of : Outcome Shorter → List ℕ
listing_bytes_of (value t) = t.listing
listing_bytes_of (refused e) = []

unfoldable pub net_output : List ℕ → List ℕ → ℕ → List ℕ → List ℕ → List ℕ
net_output net listing s net_out listing_out = overwritten (net_bytes_of (deletion_of net listing s (length net_out) (length listing_out))) net_out

unfoldable pub listing_output : List ℕ → List ℕ → ℕ → List ℕ → List ℕ → List ℕ
listing_output net listing s net_out listing_out = overwritten (listing_bytes_of (deletion_of net listing s (length net_out) (length listing_out))) listing_out

-- ---- the answer of the function, and its figures

-- "both byte counts are returned"
abbrev pub deletion_answer : Outcome Shorter → Result Deleted Refusal
deletion_answer (value t) = Ok (record { net_bytes = length t.net; listing_bytes = length t.listing })
deletion_answer (refused e) = Err e

-- "Where nothing is refused, number, text and line are 0." "All figures except number, text and line are then 0"
pub record DeletionFigures : Type 0 where
  pub number : ℕ
  pub text : ℕ
  pub line : ℕ
  pub net_bytes : ℕ
  pub listing_bytes : ℕ

abbrev pub deletion_figures : Result Deleted Refusal → DeletionFigures
deletion_figures (Ok d) = record { number = 0; text = 0; line = 0; net_bytes = d.net_bytes; listing_bytes = d.listing_bytes }
deletion_figures (Err e) = record { number = (told e).number; text = (told e).text; line = (told e).line; net_bytes = 0; listing_bytes = 0 }
