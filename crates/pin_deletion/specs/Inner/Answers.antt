-- What the answers of inner functions mean. Definitions alone.
use Rattle.std.specs.Prelude.{ℕ, ◌≡◌, List, ℤ, Result}
use Rattle.tree.specs.declared.header.Header.{Header}
use Rattle.tree.specs.declared.measures.Measures.{Measures}
use Rattle.tree.specs.Net.{Net}
use Rattle.formats.specs.Outcome.{Outcome, and_then}
use Rattle.formats.specs.ListingText.{listing_text}
use Rattle.formats.specs.Inner.ListingReader.{listing_held}
use Rattle.formats.specs.declared.refusal.Refusal.{Refusal}
use Rattle.writing.specs.Inner.NetWriting.{net_held_text}
use Rattle.operations.specs.Accepting.{accept_listing}
use Rattle.operations.specs.Answers.{overwritten}
use Rattle.pin_deletion.specs.Deletions.{Shorter, deleted, net_bytes_of, listing_bytes_of, deletion_answer}
use Rattle.pin_deletion.specs.declared.delete_pin.Deleted.{Deleted}

-- the texts of the net and the tree in the arrays
abbrev pub texts_held : Header → Measures → ℕ → List ℕ → List ℤ → List ℤ → List ℤ → List ℤ → Shorter
texts_held h m n ps xs ys rs ws = record { net = net_held_text h n xs ys rs ws; listing = listing_text n (listing_held m.slack m.wire n ps xs ys) }

-- the deletion from a net that was read, of the weights w
abbrev pub deleted_over : Net → List ℕ → List ℕ → ℕ → ℕ → ℕ → Outcome Shorter
deleted_over N w listing s net_room listing_room = and_then (accept_listing N listing) λ G. deleted N w G.tree s net_room listing_room

-- r is the answer of the outcome o, and the outputs with a stroke are what it leaves of the two
abbrev pub Answers : Outcome Shorter → List ℕ → List ℕ → Result Deleted Refusal → List ℕ → List ℕ → Type 0
Answers o net_out listing_out r net_out' listing_out' = (r ≡ deletion_answer o) × (net_out' ≡ overwritten (net_bytes_of o) net_out) × (listing_out' ≡ overwritten (listing_bytes_of o) listing_out)
