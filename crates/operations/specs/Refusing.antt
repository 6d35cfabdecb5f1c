-- Why plan and judge refuse: document 01, 'Refusals by text and line', row by row and in its order, with the row of 02's request 2. Definitions alone.
use Rattle.std.specs.Prelude.{ℕ, ◌<◌, ◌≡◌, ◌≢◌, List, length, ◌<ℤ◌}
use Rattle.tree.specs.Net.{Net, size}
use Rattle.tree.specs.Tree.{Tree, LegalTree}
use Rattle.tree.specs.Measures.{worst_slack, wire_length}
use Rattle.tree.specs.Defects.{RightChildren, WrongChildrenAt, LowestUnreached}
use Rattle.formats.specs.NetText.{InFormat}
use Rattle.formats.specs.ListingText.{Listing, ListingInFormat, NoSinkParent}
use Rattle.formats.specs.Faults.{NetFault, ListingFault}
use Rattle.formats.specs.declared.refusal.Refusal.{Refusal}
use Rattle.formats.specs.declared.refusal.Refusal.TheVariants.{Unreachable, TooShort, WrongChildren, NotReached, OtherSlack, OtherWire}
use Rattle.operations.specs.Accepting.{vertex_line}
use Rattle.operations.specs.Answers.{plan_listing}

-- ---- plan

-- "no legal tree has worst slack t or more"
abbrev pub NeedUnreachable : Net → Type 0
NeedUnreachable N = (R : Tree) → LegalTree N R → worst_slack N R <ℤ N.need

-- of a net's bytes and an output of so many bytes: "length first; then line by line", "then 4, 5, 6"
pub data PlanRefuses (net : List ℕ) (room : ℕ) : Refusal → Type 0 where
  in_net : {e : Refusal} → NetFault net e → PlanRefuses net room e
  unreachable : (N : Net) → InFormat net N → NeedUnreachable N → PlanRefuses net room Unreachable
  -- "the output is shorter than the listing"
  too_short : (N : Net) → InFormat net N → (NeedUnreachable N → ⊥) → room < length (plan_listing N) → PlanRefuses net room TooShort

-- ---- judge

-- both texts are in their formats, and no parent is a sink
pub record BothRead (net listing : List ℕ) (N : Net) (G : Listing) : Type 0 where
  pub net_format : InFormat net N
  pub listing_format : ListingInFormat (size N) listing G
  pub no_sink_lem : NoSinkParent (size N) G.tree.parents

-- of the two texts: "the whole net text before the listing", "or 4, 9 (root first), 10, 11, 12"
pub data JudgeRefuses (net listing : List ℕ) : Refusal → Type 0 where
  in_net : {e : Refusal} → NetFault net e → JudgeRefuses net listing e
  in_listing : {e : Refusal} (N : Net) → InFormat net N → ListingFault (size N) listing e → JudgeRefuses net listing e
  -- "wrong number of children; line 0 for the root, else the lowest such branch point's"
  wrong_children_lem : (N : Net) (G : Listing) → BothRead net listing N G → (v : ℕ) → WrongChildrenAt (size N) G.tree.parents v → JudgeRefuses net listing (WrongChildren (vertex_line v))
  -- "the lowest vertex not reached from the root"
  not_reached : (N : Net) (G : Listing) → BothRead net listing N G → RightChildren (size N) G.tree.parents → (v : ℕ) → LowestUnreached (size N) G.tree.parents v → JudgeRefuses net listing (NotReached (vertex_line v))
  -- "W is not the worst slack"
  other_slack : (N : Net) (G : Listing) → BothRead net listing N G → LegalTree N G.tree → G.slack ≢ worst_slack N G.tree → JudgeRefuses net listing OtherSlack
  -- "L is not the wire"
  other_wire : (N : Net) (G : Listing) → BothRead net listing N G → LegalTree N G.tree → G.slack ≡ worst_slack N G.tree → G.wire ≢ wire_length N G.tree → JudgeRefuses net listing OtherWire
