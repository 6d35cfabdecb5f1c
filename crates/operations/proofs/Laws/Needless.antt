-- Judge does not look at need: its answer is one over a net with another. Assumes nothing.
use Prim.Native.Nat.{ℕ, zero, suc, ◌*◌}
use mathlib.Core.Path.{◌≡◌, refl, ap}
use mathlib.Core.Bool.{true, false, ◌&&◌}
use mathlib.Core.List.{List, map}
use lib.Dec.{eqb}
use lib.IntN.{ℤ, pos, ◌-ℤ◌}
use lib.Signed.{le_z}
use Rattle.quantities.specs.Delay.{delay}
use Rattle.tree.specs.Lists.{least}
use Rattle.tree.specs.Net.{Net, size, sink_numbers, sink_at, required, own_slacks}
use Rattle.tree.specs.Tree.{Tree}
use Rattle.tree.specs.Measures.{path_delay, depth, worst_slack, wire_length}
use Rattle.tree.specs.Kraft.{kraft_maximum}
use Rattle.tree.specs.Defects.{wrong_children, unreached}
use Rattle.formats.specs.Outcome.{Outcome, value, refused, and_then}
use Rattle.formats.specs.ListingText.{Listing}
use Rattle.formats.specs.Reading.Listings.{read_listing}
use Rattle.formats.specs.declared.refusal.Refusal.TheVariants.{WrongChildren, NotReached, OtherSlack, OtherWire}
use Rattle.operations.specs.Accepting.{unless_found}
use Rattle.operations.specs.Answers.{Judgement}
use Rattle.operations.specs.Demands.{with_need}
use Rattle.operations.specs.Inner.Acceptance.{judge_net}

-- judge by what it takes of a net: n, c, the measures of a tree, the own slacks
abbrev true_by : (Tree → ℤ) → (Tree → ℕ) → Listing → Outcome Listing
true_by worst wire G =
    elim (le_z G.slack (worst G.tree) && le_z (worst G.tree) G.slack) [
      | true ↦ elim (eqb G.wire (wire G.tree)) [ true ↦ value G | false ↦ refused OtherWire ]
      | false ↦ refused OtherSlack
    ]

abbrev judge_by : ℕ → ℕ → (Tree → ℤ) → (Tree → ℕ) → List ℤ → List ℕ → Outcome Judgement
judge_by n c worst wire own listing =
    and_then
    (and_then (read_listing n listing) λ G.
    unless_found WrongChildren (wrong_children n G.tree.parents)
    (unless_found NotReached (unreached n G.tree.parents)
    (true_by worst wire G)))
    λ G. value (record { slack = worst G.tree; wire = wire G.tree; best = kraft_maximum c own })

module _ (t : ℤ) (N : Net) where
  same_required : required (with_need t N) ≡ required N
  same_required i s = go s i
    where
      go : (s : ℕ) → required (with_need t N) s ≡ required N s
      go zero = refl
      go (suc s) = refl

  pub same_worst : worst_slack (with_need t N) ≡ worst_slack N
  unfolding worst_slack
  same_worst i T = least (map (λ s. same_required i s -ℤ pos (path_delay N T s) -ℤ pos (N.branch * depth N T s)) (sink_numbers (size N)))

  pub same_wire : wire_length (with_need t N) ≡ wire_length N
  unfolding wire_length
  same_wire = refl

  same_own : own_slacks (with_need t N) ≡ own_slacks N
  same_own = ap (λ (r : ℕ → ℤ). map (λ s. r s -ℤ pos (delay N.wire N.root (sink_at N s))) (sink_numbers (size N))) same_required

  pub needless : (listing : List ℕ) → judge_net (with_need t N) listing ≡ judge_net N listing
  needless listing = λ i. judge_by (size N) N.branch (same_worst i) (same_wire i) (same_own i) listing
