-- A plan that ignores need, whatever tree it makes: what it answers for all bytes, why it refuses, and what is promised of it. 02's requests 6 and 7 have such plans; the first of them ignores weights too.
use Rattle.std.specs.Prelude.{ℕ, ◌<◌, ◌≡◌, ◌↔◌, ◌≢◌, List, ◌++◌, length, take, drop, ℤ}
use Rattle.tree.specs.Net.{Net, size, own_slacks}
use Rattle.tree.specs.Tree.{Tree}
use Rattle.tree.specs.Measures.{worst_slack, wire_length}
use Rattle.tree.specs.Kraft.{kraft_maximum}
use Rattle.formats.specs.Outcome.{Outcome, value, refused, and_then}
use Rattle.formats.specs.NetText.{InFormat}
use Rattle.formats.specs.ListingText.{listing_text}
use Rattle.formats.specs.Faults.{NetFault}
use Rattle.formats.specs.Reading.Nets.{read_weighted}
use Rattle.formats.specs.declared.refusal.Refusal.{Refusal}
use Rattle.formats.specs.declared.refusal.Refusal.TheVariants.{Unreachable, TooShort}
use Rattle.operations.specs.Answers.{Written, stated, emitted, bytes_of, overwritten, judge_of}
use Rattle.operations.specs.Demands.{with_need}

-- a way to a tree over a net whose sinks have these weights
abbrev pub Make : Type 0
Make = Net → List ℕ → Tree

-- one that ignores the weights
abbrev pub ignoring_weights : (Net → Tree) → Make
ignoring_weights make N w = make N

-- ---- what it answers, `make` being the way to its tree

-- the listing of its tree, which states its own true slack and wire
unfoldable pub tree_listing : Make → Net → List ℕ → List ℕ
tree_listing make N w = listing_text (size N) (stated N (make N w))

-- of the net's bytes and the length of the output: the net's refusals, then 6
unfoldable pub tree_plan_of : Make → List ℕ → ℕ → Outcome Written
tree_plan_of make net room = and_then (read_weighted net) λ M. emitted (size M.net) (stated M.net (make M.net M.weights)) room

-- the output after the call
unfoldable pub tree_plan_output : Make → List ℕ → List ℕ → List ℕ
tree_plan_output make net out = overwritten (bytes_of (tree_plan_of make net (length out))) out

-- ---- why it refuses: a fault of the net text, or 6, "the output is shorter than the listing"

pub data TreePlanRefuses (make : Make) (net : List ℕ) (room : ℕ) : Refusal → Type 0 where
  in_net : {e : Refusal} → NetFault net e → TreePlanRefuses make net room e
  too_short : (N : Net) (f : InFormat net N) → room < length (tree_listing make N f.weights) → TreePlanRefuses make net room TooShort

-- ---- what is promised

-- for a net in the format, of the weights w
pub record TreePlanFor (make : Make) (net : List ℕ) (N : Net) (w : List ℕ) : Type 0 where
  pub short : (room : ℕ) → (tree_plan_of make net room ≡ refused TooShort) ↔ (room < length (tree_listing make N w))
  pub otherwise : (room : ℕ) → tree_plan_of make net room ≢ refused TooShort → (r : Written) × (tree_plan_of make net room ≡ value r)
  -- what is returned is of the tree that was made, and what is written is its listing
  pub returned : (room : ℕ) (r : Written) → tree_plan_of make net room ≡ value r → r ≡ record { slack = worst_slack N (make N w); wire = wire_length N (make N w); bytes = tree_listing make N w }
  pub written : (out : List ℕ) (r : Written) → tree_plan_of make net (length out) ≡ value r → tree_plan_output make net out ≡ tree_listing make N w ++ drop (length (tree_listing make N w)) out
  -- "Its listing passes judge": the bytes that stand in the output, with the same slack and wire
  pub read_back : (out : List ℕ) (r : Written) → tree_plan_of make net (length out) ≡ value r
      → judge_of net (take (length r.bytes) (tree_plan_output make net out)) ≡ value (record { slack = r.slack; wire = r.wire; best = kraft_maximum N.branch (own_slacks N) })
  -- "It ignores need"
  pub needless : (other : List ℕ) (t : ℤ) (f : InFormat other (with_need t N)) → f.weights ≡ w → (room : ℕ) → tree_plan_of make other room ≡ tree_plan_of make net room

pub record TreePlan (make : Make) : Type 0 where
  -- each refusal exactly for its fault
  pub refuses : (net : List ℕ) (room : ℕ) (e : Refusal) → (tree_plan_of make net room ≡ refused e) ↔ TreePlanRefuses make net room e
  -- "so never gives 5"
  pub never_unreachable : (net : List ℕ) (room : ℕ) → tree_plan_of make net room ≢ refused Unreachable
  -- "the output is untouched", and "output bytes beyond those keep their values"
  pub untouched : (net out : List ℕ) (e : Refusal) → tree_plan_of make net (length out) ≡ refused e → tree_plan_output make net out ≡ out
  pub beyond : (net out : List ℕ) → drop (length (bytes_of (tree_plan_of make net (length out)))) (tree_plan_output make net out) ≡ drop (length (bytes_of (tree_plan_of make net (length out)))) out
  pub same_length : (net out : List ℕ) → length (tree_plan_output make net out) ≡ length out
  pub nets : (net : List ℕ) (N : Net) (f : InFormat net N) → TreePlanFor make net N f.weights
