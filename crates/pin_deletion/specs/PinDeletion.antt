-- What 02's request 9 promises of a deletion, in one statement.
use Rattle.std.specs.Prelude.{ℕ, ◌≤◌, ◌<◌, ◌≡◌, ◌≢◌, ◌⊎◌, ◌↔◌, List, length, take, drop, Result}
use Rattle.tree.specs.Net.{Net, size, own_slacks}
use Rattle.tree.specs.Tree.{Tree, LegalTree}
use Rattle.tree.specs.Measures.{worst_slack, wire_length}
use Rattle.tree.specs.Kraft.{kraft_maximum}
use Rattle.formats.specs.Outcome.{value, refused}
use Rattle.formats.specs.NetText.{InFormat}
use Rattle.formats.specs.ListingText.{ListingInFormat}
use Rattle.formats.specs.declared.refusal.Refusal.{Refusal}
use Rattle.formats.specs.declared.refusal.Refusal.TheVariants.{TooShort, NotASink, OnlySink}
use Rattle.operations.specs.Answers.{stated, judge_of}
use Rattle.operations.specs.Demands.{Accepts}
use Rattle.operations.specs.Refusing.{JudgeRefuses}
use Rattle.shorter_tree.specs.Deletion.{without, weights_without, pruned}
use Rattle.shorter_tree.specs.Kept.{Deletable, Kept}
use Rattle.pin_deletion.specs.Deletions.{Shorter, shorter, deletion_of, net_bytes_of, listing_bytes_of, net_output, listing_output, deletion_figures}
use Rattle.pin_deletion.specs.declared.delete_pin.Deleted.{Deleted}

-- ---- two texts

-- the text of a net of the weights w, and an accepted listing over it: that of a legal tree with its true slack and wire
pub record TextsOf (net listing : List ℕ) (N : Net) (w : List ℕ) (T : Tree) : Type 0 where
  pub in_format : InFormat net N
  pub weights_are : in_format.weights ≡ w
  pub listed : ListingInFormat (size N) listing (stated N T)
  pub legal : LegalTree N T

-- for each sink that may be deleted
pub record DeletionFor (net listing : List ℕ) (N : Net) (w : List ℕ) (T : Tree) (s : ℕ) : Type 0 where
  pub kept : Kept N w T s
  -- the two texts are given where both fit
  pub given : (net_room listing_room : ℕ) → length (shorter N w T s).net ≤ net_room → length (shorter N w T s).listing ≤ listing_room → deletion_of net listing s net_room listing_room ≡ value (shorter N w T s)
  -- they are those of the shorter net, which is in the format, and of the shorter tree with its true slack and wire
  pub texts : TextsOf (shorter N w T s).net (shorter N w T s).listing (without N s) (weights_without w s) (pruned N T s)
  -- "it passes judge for that net": the bytes that stand in the two outputs, with this slack and wire
  pub read_back : (net_out listing_out : List ℕ) (t : Shorter) → deletion_of net listing s (length net_out) (length listing_out) ≡ value t
      → judge_of (take (length t.net) (net_output net listing s net_out listing_out)) (take (length t.listing) (listing_output net listing s net_out listing_out))
      ≡ value (record {
        slack = worst_slack (without N s) (pruned N T s);
        wire = wire_length (without N s) (pruned N T s);
        best = kraft_maximum N.branch (own_slacks (without N s));
      })

-- ---- any bytes

-- why a deletion is refused
pub data DeletionRefuses (net listing : List ℕ) (s net_room listing_room : ℕ) : Refusal → Type 0 where
  -- "after judge's refusals"
  by_judge : {e : Refusal} → JudgeRefuses net listing e → DeletionRefuses net listing s net_room listing_room e
  -- "15 .. if the sink number is not 1 to n"
  not_a_sink : (N : Net) (w : List ℕ) (T : Tree) → TextsOf net listing N w T → ((1 ≤ s) × (s ≤ size N) → ⊥) → DeletionRefuses net listing s net_room listing_room NotASink
  -- "16, likewise, if n is 1"
  only_sink : (N : Net) (w : List ℕ) (T : Tree) → TextsOf net listing N w T → (1 ≤ s) × (s ≤ size N) → size N ≡ 1 → DeletionRefuses net listing s net_room listing_room OnlySink
  -- "then 6 if either output is too short"
  too_short : (N : Net) (w : List ℕ) (T : Tree) → TextsOf net listing N w T → Deletable N s → (net_room < length (shorter N w T s).net) ⊎ (listing_room < length (shorter N w T s).listing)
      → DeletionRefuses net listing s net_room listing_room TooShort

pub record Outputs (net listing : List ℕ) (s : ℕ) (net_out listing_out : List ℕ) : Type 0 where
  -- "the output is untouched": both are, whatever the refusal
  pub untouched : (e : Refusal) → deletion_of net listing s (length net_out) (length listing_out) ≡ refused e → (net_output net listing s net_out listing_out ≡ net_out) × (listing_output net listing s net_out listing_out ≡ listing_out)
  -- "bytes beyond them keep their values"
  pub net_beyond : drop (length (net_bytes_of (deletion_of net listing s (length net_out) (length listing_out)))) (net_output net listing s net_out listing_out) ≡ drop (length (net_bytes_of (deletion_of net listing s (length net_out) (length listing_out)))) net_out
  pub listing_beyond : drop (length (listing_bytes_of (deletion_of net listing s (length net_out) (length listing_out)))) (listing_output net listing s net_out listing_out)
      ≡ drop (length (listing_bytes_of (deletion_of net listing s (length net_out) (length listing_out)))) listing_out
  pub same_lengths : (length (net_output net listing s net_out listing_out) ≡ length net_out) × (length (listing_output net listing s net_out listing_out) ≡ length listing_out)

pub record PinDeletion : Type 0 where
  -- "an accepted listing": what is said below of texts is said of every listing that judge accepts
  pub accepted : (net listing : List ℕ) → Accepts net listing ↔ ((N : Net) × (w : List ℕ) × (T : Tree) × TextsOf net listing N w T)
  -- every sink of a net of two or more
  pub deletes : (net listing : List ℕ) (N : Net) (w : List ℕ) (T : Tree) → TextsOf net listing N w T → (s : ℕ) → Deletable N s → DeletionFor net listing N w T s
  -- each refusal exactly for its reason
  pub refuses : (net listing : List ℕ) (s net_room listing_room : ℕ) (e : Refusal) → (deletion_of net listing s net_room listing_room ≡ refused e) ↔ DeletionRefuses net listing s net_room listing_room e
  -- judge itself tells none of 6, 15 and 16
  pub judge_never : (net listing : List ℕ) (e : Refusal) → judge_of net listing ≡ refused e → (e ≢ TooShort) × (e ≢ NotASink) × (e ≢ OnlySink)
  pub outputs : (net listing : List ℕ) (s : ℕ) (net_out listing_out : List ℕ) → Outputs net listing s net_out listing_out
  -- the figures that a caller gets tell the answers apart
  pub figures : (a b : Result Deleted Refusal) → deletion_figures a ≡ deletion_figures b → a ≡ b
