-- What accept and judge answer, step by step: the line of what is found, the stated slack and wire, the texts. Assumes nothing.
use Prim.Native.Nat.{ℕ, zero, suc, ◌+◌, ◌*◌, ◌≤◌, ◌<◌}
use mathlib.Core.Path.{◌≡◌, refl, sym, ap, ◌∙◌}
use mathlib.Core.Bool.{true, false, ◌&&◌}
use mathlib.Core.Logic.{⊎_elim}
use mathlib.Core.List.{List}
use Rattle.std.specs.Prelude.{None, Some}
use native.Mathlib.Omega.{arith}
use lib.IntN.{ℤ}
use lib.Signed.{le_z}
use lib.Dec.{eqb}
use Rattle.tree.specs.Net.{Net, size}
use Rattle.tree.specs.Measures.{worst_slack, wire_length}
use Rattle.tree.specs.Defects.{wrong_children, unreached}
use Rattle.tree.proofs.Laws.Trees.Defects.{unreached_lowest, wrong_lowest}
use Rattle.formats.specs.Outcome.{Outcome, value, refused, and_then}
use Rattle.formats.specs.Reading.Nets.{read_net}
use Rattle.formats.specs.ListingText.{Listing}
use Rattle.formats.specs.Reading.Listings.{read_listing}
use Rattle.formats.specs.declared.refusal.Refusal.{Refusal}
use Rattle.formats.specs.declared.refusal.Refusal.TheVariants.{WrongChildren, NotReached, OtherSlack, OtherWire}
use Rattle.formats.proofs.Laws.Lines.Outcomes.{then_then, then_value, then_refused}
use Rattle.operations.specs.Accepting.{vertex_line, unless_found, true_only, accept_tree, accept_listing, accepted}
use Rattle.operations.specs.Answers.{judgement, judge_of}
use Rattle.operations.specs.Inner.Acceptance.{judge_net}

pub line_below : (v : ℕ) → (v ≡ 0 → ⊥) → v + 3 ≡ vertex_line v
line_below zero h = absurd (h refl)
line_below (suc v) h = refl

-- ---- what is found is a vertex

pub wrong_vertex : (n : ℕ) (P : List ℕ) (v : ℕ) → 1 ≤ n → wrong_children n P ≡ Some v → v < 2 * n
wrong_vertex n P v h e = ⊎_elim (λ z. omega arith) (λ z. omega (arith, z.1.below)) (wrong_lowest n P v e)

pub lost_vertex : (n : ℕ) (P : List ℕ) (v : ℕ) → 1 ≤ n → unreached n P ≡ Some v → v < 2 * n
lost_vertex n P v h e = omega (arith, (unreached_lowest n P v e).below)

-- ---- 9, 10, or neither

module _ (N : Net) (G : Listing) (n : ℕ) (sized : size N ≡ n) where
  counted : accept_tree N G ≡ unless_found WrongChildren (wrong_children n G.tree.parents) (unless_found NotReached (unreached n G.tree.parents) (true_only N G))
  counted = ap (λ m. unless_found WrongChildren (wrong_children m G.tree.parents) (unless_found NotReached (unreached m G.tree.parents) (true_only N G))) sized

  pub wrong_refused : (v line : ℕ) → wrong_children n G.tree.parents ≡ Some v → line ≡ vertex_line v → refused (WrongChildren line) ≡ accept_tree N G
  wrong_refused v line e q = ap (λ l. refused (WrongChildren l)) q ∙ sym (counted ∙ ap (λ f. unless_found WrongChildren f (unless_found NotReached (unreached n G.tree.parents) (true_only N G))) e)

  module _ (right : wrong_children n G.tree.parents ≡ None) where
    reached : accept_tree N G ≡ unless_found NotReached (unreached n G.tree.parents) (true_only N G)
    reached = counted ∙ ap (λ f. unless_found WrongChildren f (unless_found NotReached (unreached n G.tree.parents) (true_only N G))) right

    pub lost_refused : (v line : ℕ) → unreached n G.tree.parents ≡ Some v → line ≡ vertex_line v → refused (NotReached line) ≡ accept_tree N G
    lost_refused v line e q = ap (λ l. refused (NotReached l)) q ∙ sym (reached ∙ ap (λ f. unless_found NotReached f (true_only N G)) e)

    pub legal_judged : unreached n G.tree.parents ≡ None → (o : Outcome Listing) → o ≡ true_only N G → o ≡ accept_tree N G
    legal_judged e o q = q ∙ sym (reached ∙ ap (λ f. unless_found NotReached f (true_only N G)) e)

-- ---- 11, 12, or accepted

-- w and l are the worst slack and the wire as they were measured
module _ (N : Net) (G : Listing) (w : ℤ) (l : ℕ) (worst : w ≡ worst_slack N G.tree) (total : l ≡ wire_length N G.tree) where
  pub slack_other : (le_z G.slack w && le_z w G.slack) ≡ false → refused OtherSlack ≡ true_only N G
  slack_other h = rw (true_only, ← worst, h)

  module _ (slack : (le_z G.slack w && le_z w G.slack) ≡ true) where
    pub wire_other : eqb G.wire l ≡ false → refused OtherWire ≡ true_only N G
    wire_other h = rw (true_only, ← worst, slack, ← total, h)

    pub wire_same : eqb G.wire l ≡ true → value G ≡ true_only N G
    wire_same h = rw (true_only, ← worst, slack, ← total, h)

-- ---- a listing over a net that was read

-- n sinks; M is the net as it stands in the arrays after the listing was read
pub tree_accepted : (N M : Net) (n : ℕ) (text : List ℕ) (G : Listing) → size N ≡ n → read_listing n text ≡ value G → M ≡ N → (o : Outcome Listing) → o ≡ accept_tree M G → o ≡ accept_listing N text
tree_accepted N M n text G sized e m o q =
    q ∙ ap (λ K. accept_tree K G) m ∙ sym (ap (λ k. and_then (read_listing k text) (accept_tree N)) sized ∙ then_value (accept_tree N) e)

pub listing_turned : (N : Net) (n : ℕ) (text : List ℕ) (e : Refusal) → size N ≡ n → read_listing n text ≡ refused e → refused e ≡ accept_listing N text
listing_turned N n text e sized r = sym (ap (λ k. and_then (read_listing k text) (accept_tree N)) sized ∙ then_refused (accept_tree N) r)

-- ---- the texts

-- judge, once the net is read
pub judge_read : (net : List ℕ) (N : Net) → read_net net ≡ value N → (listing : List ℕ) → judge_of net listing ≡ judge_net N listing
unfolding judge_of accepted
judge_read net N e listing =
    ap (λ o. and_then (and_then o (λ N. and_then (accept_listing N listing) (λ G. value (record { net = N; listing = G })))) (λ a. value (judgement a))) e
    ∙ then_then (accept_listing N listing) _ _
