-- 02, request 5: "Nothing is lost", as a statement about the definitions and about what plan answers and writes; with it what judge answers.
use Rattle.std.specs.Prelude.{ℕ, ◌*◌, ◌≤◌, ◌≡◌, ◌↔◌, List, length, pos, ◌*ℤ◌}
use Rattle.tree.specs.Net.{Net, size, own_slacks}
use Rattle.tree.specs.Tree.{Tree}
use Rattle.tree.specs.Measures.{worst_slack, wire_length}
use Rattle.tree.specs.Kraft.{kraft_maximum}
use Rattle.tree.specs.Settling.{plan}
use Rattle.formats.specs.NetText.{InFormat}
use Rattle.formats.specs.ListingText.{Listing, ListingInFormat}
use Rattle.formats.specs.Outcome.{value, refused}
use Rattle.formats.specs.declared.refusal.Refusal.TheVariants.{Unreachable}
use Rattle.operations.specs.Answers.{Written, plan_of, Judgement, judge_of}
use Rattle.operations.specs.Demands.{written_to}
use Rattle.invariance.specs.Times.{thousand, times_net, times_tree, times_listing, times_judgement}

-- ---- the definitions

-- the net N, multiplied by k: every tree's measures, the best slack and the planned tree are k times as large
pub record Scales (k : ℕ) (N : Net) : Type 0 where
  pub slack : (T : Tree) → worst_slack (times_net k N) (times_tree k T) ≡ worst_slack N T *ℤ pos k
  pub wire : (T : Tree) → wire_length (times_net k N) (times_tree k T) ≡ wire_length N T * k
  pub best : kraft_maximum (N.branch * k) (own_slacks (times_net k N)) ≡ kraft_maximum N.branch (own_slacks N) *ℤ pos k
  pub planned : plan (times_net k N) ≡ times_tree k (plan N)

-- ---- the texts

-- "accepted nets, that is, ones for which plan refuses nothing": the text is the net N's, plan answers w, and the bytes that stand in the output are the listing G
pub record AcceptedNet (net out : List ℕ) (N : Net) (w : Written) (G : Listing) : Type 0 where
  pub in_format : InFormat net N
  pub answer : plan_of net (length out) ≡ value w
  pub listing : ListingInFormat (size N) (written_to net out w) G

-- texts of the net N and of the net multiplied by k
pub record Multiplied (k : ℕ) : Type 0 where
  -- "both plans have the same parents, and the one has slack, wire and branch positions 1,000 [k] times as large": in the listings that are written, and slack and
  -- wire in the answers too
  pub planned : (net net' out out' : List ℕ) (N : Net) (w w' : Written) (G G' : Listing) → AcceptedNet net out N w G → AcceptedNet net' out' (times_net k N) w' G'
      → (G' ≡ times_listing k G) × (w'.slack ≡ w.slack *ℤ pos k) × (w'.wire ≡ w.wire * k)
  -- the one is refused by 5 exactly where the other is
  pub unreachable : (net net' : List ℕ) (N : Net) → InFormat net N → InFormat net' (times_net k N) → (room room' : ℕ) → (plan_of net' room' ≡ refused Unreachable) ↔ (plan_of net room ≡ refused Unreachable)
  -- a listing that judge accepts is accepted over the other net when it is multiplied too
  pub judged : (net net' listing listing' : List ℕ) (N : Net) (G : Listing) (j : Judgement) → InFormat net N → InFormat net' (times_net k N)
      → ListingInFormat (size N) listing G → ListingInFormat (size N) listing' (times_listing k G) → judge_of net listing ≡ value j → judge_of net' listing' ≡ value (times_judgement k j)

pub record NothingLost : Type 0 where
  -- whenever plan refuses nothing there are such a net and listing
  pub accepted : (net out : List ℕ) (w : Written) → plan_of net (length out) ≡ value w → (N : Net) × ((G : Listing) × AcceptedNet net out N w G)
  -- "of two accepted nets .. one having every position, c, t and every a of the other multiplied by 1,000, with h, v and n alike"
  pub thousandfold : Multiplied thousand
  -- and by any factor, of texts as of definitions
  pub texts : (k : ℕ) → 1 ≤ k → Multiplied k
  pub scales : (k : ℕ) → 1 ≤ k → (N : Net) → 1 ≤ N.branch → 1 ≤ size N → Scales k N
