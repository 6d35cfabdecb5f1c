-- A listing that was read is accepted exactly when its tree is legal and its stated slack and wire are true. Assumes nothing.
use Prim.Native.Nat.{ℕ, suc, ◌≤◌, ◌<◌}
use mathlib.Core.Path.{◌≡◌, refl, sym, ap₂, ◌∙◌}
use mathlib.Core.Bool.{Bool, true, false, ◌&&◌}
use mathlib.Core.Logic.{◌≢◌, ◌⊎◌, inl, inr}
use mathlib.Core.List.{List}
use Rattle.std.specs.Prelude.{Option, None, Some}
use native.Mathlib.Omega.{arith}
use native.Mathlib.Decide.{dec_le}
use borrow.Author.Tests.{eq-eqb, eqb-true, eqb-false}
use lib.ListN.{get_or}
use lib.Dec.{eqb}
use lib.Signed.{le_z}
use Rattle.quantities.specs.Inner.Linear.{whole, le_z_is}
use Rattle.tree.specs.Net.{Net, size}
use Rattle.tree.specs.Tree.{Legal}
use Rattle.tree.specs.Measures.{worst_slack, wire_length}
use Rattle.tree.specs.Defects.{wrong_children, unreached}
use Rattle.tree.proofs.Laws.Trees.LegalTrees.{somewhere}
use Rattle.tree.proofs.Laws.Trees.Defects.{Read}
use Rattle.tree.proofs.Laws.Trees.NamedDefects.{legal_only}
use Rattle.formats.specs.Outcome.{Outcome, value, refused, and_then}
use Rattle.formats.specs.ListingText.{Listing, ListingInFormat, NoSinkParent}
use Rattle.formats.specs.Reading.Listings.{read_listing}
use Rattle.formats.specs.declared.refusal.Refusal.TheVariants.{WrongChildren, NotReached, OtherSlack, OtherWire}
use Rattle.formats.proofs.Laws.Lines.DueTexts.{never}
use Rattle.operations.specs.Accepting.{vertex_line, unless_found, true_only, accept_tree, accept_listing}

-- no sink of a legal tree is a parent
pub legal_no_sink : (n : ℕ) (P : List ℕ) → Legal n P → NoSinkParent n P
legal_no_sink n P L i h = go (dec_le (suc n) (get_or P i 0)) (dec_le 1 (get_or P i 0))
  where
    go : Dec (suc n ≤ get_or P i 0) → Dec (1 ≤ get_or P i 0) → (get_or P i 0 ≡ 0) ⊎ (n < get_or P i 0)
    go (yes p) q = inr p
    go (no p) (yes q) = absurd (somewhere P i h (L.sink (get_or P i 0) q (omega arith)))
    go (no p) (no q) = inl (omega arith)

module _ (N : Net) (G : Listing) where
  -- ---- the stated slack and wire

  -- by the tests on them
  unfoldable pub true_by : Bool → Bool → Outcome Listing
  true_by a b = elim a [ true ↦ elim b [ true ↦ value G | false ↦ refused OtherWire ] | false ↦ refused OtherSlack ]

  pub true_all : G.slack ≡ worst_slack N G.tree → G.wire ≡ wire_length N G.tree → true_only N G ≡ value G
  unfolding true_by
  true_all e f = ap₂ true_by both (eq-eqb G.wire (wire_length N G.tree) f)
    where
      both : le_z G.slack (worst_slack N G.tree) && le_z (worst_slack N G.tree) G.slack ≡ true
      both = rw (le_z_is {a = G.slack} {b = worst_slack N G.tree} (omega (arith, whole)), le_z_is {a = worst_slack N G.tree} {b = G.slack} (omega (arith, whole)))

  -- the two ways to fall short, and the one to be accepted
  pub true_cases : {C : Type 0} (o : Outcome Listing) → true_only N G ≡ o → (G.slack ≢ worst_slack N G.tree → o ≡ refused OtherSlack → C)
      → (G.slack ≡ worst_slack N G.tree → G.wire ≢ wire_length N G.tree → o ≡ refused OtherWire → C)
      → (G.slack ≡ worst_slack N G.tree → G.wire ≡ wire_length N G.tree → value G ≡ o → C) → C
  unfolding true_by
  true_cases {C = C} o h slack wire f = go (le_z G.slack (worst_slack N G.tree)) refl (le_z (worst_slack N G.tree) G.slack) refl (eqb G.wire (wire_length N G.tree)) refl
    where
      go : (t : Bool) → le_z G.slack (worst_slack N G.tree) ≡ t → (u : Bool) → le_z (worst_slack N G.tree) G.slack ≡ u → (w : Bool) → eqb G.wire (wire_length N G.tree) ≡ w → C
      go true p true q true r = f (omega (arith, whole)) (eqb-true G.wire (wire_length N G.tree) r) (sym (λ i. true_by (p i && q i) (r i)) ∙ h)
      go true p true q false r = wire (omega (arith, whole)) (eqb-false G.wire (wire_length N G.tree) r) (sym h ∙ (λ i. true_by (p i && q i) (r i)))
      go true p false q w r = slack (λ e. absurd (omega (arith, whole))) (sym h ∙ (λ i. true_by (p i && q i) (r i)))
      go false p u q w r = slack (λ e. absurd (omega (arith, whole))) (sym h ∙ (λ i. true_by (p i && q i) (r i)))

  pub slack_false : G.slack ≢ worst_slack N G.tree → true_only N G ≡ refused OtherSlack
  slack_false n = true_cases (true_only N G) refl (λ m u. u) (λ e m u. absurd (n e)) (λ e f u. absurd (n e))

  pub wire_false : G.slack ≡ worst_slack N G.tree → G.wire ≢ wire_length N G.tree → true_only N G ≡ refused OtherWire
  wire_false e n = true_cases (true_only N G) refl (λ m u. absurd (m e)) (λ e m u. u) (λ e f u. absurd (n f))

  -- ---- the tree

  -- by what was found
  abbrev by : Option ℕ → Option ℕ → Outcome Listing
  by a b = unless_found WrongChildren a (unless_found NotReached b (true_only N G))

  pub tree_cases : {C : Type 0} (o : Outcome Listing) → accept_tree N G ≡ o
      → ((v : ℕ) → wrong_children (size N) G.tree.parents ≡ Some v → o ≡ refused (WrongChildren (vertex_line v)) → C)
      → (wrong_children (size N) G.tree.parents ≡ None → (v : ℕ) → unreached (size N) G.tree.parents ≡ Some v → o ≡ refused (NotReached (vertex_line v)) → C)
      → (wrong_children (size N) G.tree.parents ≡ None → unreached (size N) G.tree.parents ≡ None → true_only N G ≡ o → C) → C
  tree_cases {C = C} o h wrong lost f = go (wrong_children (size N) G.tree.parents) refl (unreached (size N) G.tree.parents) refl
    where
      go : (a : Option ℕ) → wrong_children (size N) G.tree.parents ≡ a → (b : Option ℕ) → unreached (size N) G.tree.parents ≡ b → C
      go (Some v) e b g = wrong v e (sym h ∙ ap₂ by e g)
      go None e (Some v) g = lost e v g (sym h ∙ ap₂ by e g)
      go None e None g = f e g (sym (ap₂ by e g) ∙ h)

  -- what a listing that was read makes sure of
  pub read_shape : {s : List ℕ} → ListingInFormat (size N) s G → NoSinkParent (size N) G.tree.parents → Read (size N) G.tree.parents
  read_shape f k = record { some_sink = f.in_range.sinks.0; size = f.in_range.parents_all; inside = f.in_range.parents; no_sink_lem = k }

  pub legal_accepted : Legal (size N) G.tree.parents → Read (size N) G.tree.parents → accept_tree N G ≡ true_only N G
  legal_accepted L R = let h = legal_only (size N) G.tree.parents R L in rw (h.0, h.1)

-- ---- the text

-- what an accepted listing states is true
pub accepted_true : (N : Net) (text : List ℕ) (G : Listing) → accept_listing N text ≡ value G → (G.slack ≡ worst_slack N G.tree) × (G.wire ≡ wire_length N G.tree)
accepted_true N text G h = go (read_listing (size N) text) h
  where
    go : (o : Outcome Listing) → and_then o (accept_tree N) ≡ value G → (G.slack ≡ worst_slack N G.tree) × (G.wire ≡ wire_length N G.tree)
    go (refused e) w = never G e (sym w)
    go (value H) w =
        tree_cases N H (value G) w (λ v q u. never G (WrongChildren (vertex_line v)) u) (λ p v q u. never G (NotReached (vertex_line v)) u) λ p q u.
        true_cases N H (value G) u (λ m. never G OtherSlack) (λ e m. never G OtherWire) λ e f u.
        let same : H ≡ G = cc in
        rw (← same) (e, f)
