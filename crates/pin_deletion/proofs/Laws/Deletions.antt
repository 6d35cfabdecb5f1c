-- What the definitions of specs/Deletions come to, case by case, and what an answer leaves in the outputs. Assumes nothing.
use Prim.Native.Nat.{ℕ, ◌≤◌, ◌<◌}
use mathlib.Core.Path.{◌≡◌, refl, sym, ap, ap₂, subst, ◌∙◌}
use mathlib.Core.Bool.{Bool, true, false, ◌&&◌, ◌||◌}
use mathlib.Core.Logic.{◌≢◌, ◌⊎◌, inl, inr}
use mathlib.Core.List.{List}
use Rattle.std.specs.Prelude.{Result, Ok, Err}
use native.Mathlib.Nat.{zero-add}
use native.Mathlib.Decide.{dec_le}
use native.Mathlib.Omega.{arith}
use borrow.Author.Tests.{leb-true, lt-ltb, le-ltb, le-leb, lt-leb, eq-eqb, ne_eqb}
use lib.ListN.{length}
use lib.Dec.{leb, ltb, eqb}
use lib.Dec as dec
use Rattle.tree.specs.Net.{Net, size}
use Rattle.tree.specs.Tree.{Tree}
use Rattle.tree.proofs.Laws.Lists.Sums.{equal?}
use Rattle.formats.specs.Outcome.{Outcome, value, refused, and_then}
use Rattle.formats.specs.Inner.Writing.{Puts, over}
use Rattle.formats.specs.Reading.Nets.{WeightedNet, read_weighted}
use Rattle.formats.specs.ListingText.{Listing}
use Rattle.formats.specs.declared.refusal.Refusal.{Refusal}
use Rattle.formats.specs.declared.refusal.Refusal.TheVariants.{TooShort, NotASink, OnlySink}
use Rattle.formats.proofs.Laws.Lines.Outcomes.{then_value, then_refused}
use Rattle.operations.specs.Accepting.{accept_listing}
use Rattle.operations.specs.Inner.Acceptance.{accepted_over}
use Rattle.operations.proofs.Laws.AcceptedOver.{both_read}
use Rattle.pin_deletion.specs.Deletions.{Shorter, shorter, both_fit, is_sink, deleted, deletion_of, net_output, listing_output, deletion_answer}
use Rattle.shorter_tree.specs.Kept.{Deletable}
use Rattle.pin_deletion.specs.Inner.Answers.{deleted_over, Answers}
use Rattle.pin_deletion.specs.declared.delete_pin.Deleted.{Deleted}

-- ---- the sink

pub below_one : (n s : ℕ) → s < 1 → leb 1 s ≡ is_sink n s
unfolding is_sink
below_one n s h = lt-leb 1 s h ∙ sym (ap (λ t. t && leb s n) (lt-leb 1 s h))

pub from_one : (n s : ℕ) → 1 ≤ s → leb s n ≡ is_sink n s
unfolding is_sink
from_one n s h = sym (ap (λ t. t && leb s n) (le-leb 1 s h))

pub sink_is : (n s : ℕ) → is_sink n s ≡ true → (1 ≤ s) × (s ≤ n)
unfolding is_sink
sink_is n s e = go (leb 1 s) refl e
  where
    go : (t : Bool) → leb 1 s ≡ t → t && leb s n ≡ true → (1 ≤ s) × (s ≤ n)
    go true f e = (leb-true 1 s f, leb-true s n e)
    go false f e = absurd (subst dec.T (sym e) tt)

pub is_sink_lem : (n s : ℕ) → (1 ≤ s) × (s ≤ n) → is_sink n s ≡ true
is_sink_lem n s h = sym (from_one n s h.0) ∙ le-leb s n h.1

-- ---- both texts, or neither

module _ (t : Shorter) (net_room listing_room : ℕ) where
  abbrev fit_by : Bool → Bool → Outcome Shorter
  fit_by a b = elim (a || b) [ true ↦ refused TooShort | false ↦ value t ]

  pub net_short : net_room < length t.net → both_fit t net_room listing_room ≡ refused TooShort
  net_short h = ap (λ a. fit_by a (ltb listing_room (length t.listing))) (lt-ltb net_room (length t.net) h)

  module _ (fits : length t.net ≤ net_room) where
    net_fits : both_fit t net_room listing_room ≡ fit_by false (ltb listing_room (length t.listing))
    net_fits = ap (λ a. fit_by a (ltb listing_room (length t.listing))) (le-ltb net_room (length t.net) fits)

    pub listing_short : listing_room < length t.listing → both_fit t net_room listing_room ≡ refused TooShort
    listing_short h = net_fits ∙ ap (fit_by false) (lt-ltb listing_room (length t.listing) h)

    pub both_fit_lem : length t.listing ≤ listing_room → both_fit t net_room listing_room ≡ value t
    both_fit_lem h = net_fits ∙ ap (fit_by false) (le-ltb listing_room (length t.listing) h)

  -- one of the two is too short, or both are given
  pub fit_cases : {C : Type 0} (o : Outcome Shorter) → both_fit t net_room listing_room ≡ o → ((net_room < length t.net) ⊎ (listing_room < length t.listing) → o ≡ refused TooShort → C)
      → (length t.net ≤ net_room → length t.listing ≤ listing_room → o ≡ value t → C) → C
  fit_cases {C = C} o h short fits = go (dec_le (length t.net) net_room) (dec_le (length t.listing) listing_room)
    where
      go : Dec (length t.net ≤ net_room) → Dec (length t.listing ≤ listing_room) → C
      go (yes p) (yes q) = fits p q (sym h ∙ both_fit_lem p q)
      go (yes p) (no q) = short (inr (omega arith)) (sym h ∙ listing_short p (omega arith))
      go (no p) d = short (inl (omega arith)) (sym h ∙ net_short (omega arith))

-- ---- a net that was read, of n sinks

module _ (N : Net) (w : List ℕ) (T : Tree) (s net_room listing_room n : ℕ) (sized : size N ≡ n) where
  -- by the two tests
  abbrev by : Bool → Bool → Outcome Shorter
  by a b = elim a [ true ↦ elim b [ true ↦ refused OnlySink | false ↦ both_fit (shorter N w T s) net_room listing_room ] | false ↦ refused NotASink ]

  tested : (a b : Bool) → is_sink n s ≡ a → eqb n 1 ≡ b → deleted N w T s net_room listing_room ≡ by a b
  tested a b e f = ap₂ by (ap (λ m. is_sink m s) sized ∙ e) (ap (λ m. eqb m 1) sized ∙ f)

  pub not_a_sink : is_sink n s ≡ false → deleted N w T s net_room listing_room ≡ refused NotASink
  not_a_sink e = tested false (eqb n 1) e refl

  module _ (sink : is_sink n s ≡ true) where
    pub only_sink : n ≡ 1 → deleted N w T s net_room listing_room ≡ refused OnlySink
    only_sink e = tested true true sink (eq-eqb n 1 e)

    pub sink_goes : (n ≡ 1 → ⊥) → deleted N w T s net_room listing_room ≡ both_fit (shorter N w T s) net_room listing_room
    sink_goes d = tested true false sink (ne_eqb n 1 d)

-- the three ways that a deletion can go on
pub sink_cases : {C : Type 0} (N : Net) (w : List ℕ) (T : Tree) (s net_room listing_room : ℕ) (o : Outcome Shorter) → deleted N w T s net_room listing_room ≡ o
    → (((1 ≤ s) × (s ≤ size N) → ⊥) → o ≡ refused NotASink → C) → ((1 ≤ s) × (s ≤ size N) → size N ≡ 1 → o ≡ refused OnlySink → C)
    → (Deletable N s → both_fit (shorter N w T s) net_room listing_room ≡ o → C) → C
sink_cases {C = C} N w T s net_room listing_room o h none only goes = go (is_sink (size N) s) refl (equal? (size N) 1)
  where
    go : (t : Bool) → is_sink (size N) s ≡ t → (size N ≡ 1) ⊎ (size N ≢ 1) → C
    go false e d = none (λ i. absurd (subst dec.T (sym (is_sink_lem (size N) s i) ∙ e) tt)) (sym h ∙ not_a_sink N w T s net_room listing_room (size N) refl e)
    go true e (inl d) = only (sink_is (size N) s e) d (sym h ∙ only_sink N w T s net_room listing_room (size N) refl e d)
    go true e (inr d) = let i = sink_is (size N) s e in goes (omega arith, i.0, i.1) (sym (sink_goes N w T s net_room listing_room (size N) refl e d) ∙ h)

-- ---- the answers

module _ (net_out listing_out : List ℕ) where
  pub refused_answers : (o : Outcome Shorter) (e : Refusal) → o ≡ refused e → Answers o net_out listing_out (Err e) net_out listing_out
  refused_answers o e h = rw h (refl, refl, refl)

  -- the texts stand at the starts of the outputs, which are then as left
  pub written_answers : (o : Outcome Shorter) (t : Shorter) → o ≡ value t → (net_end listing_end : ℕ) (net_left listing_left : List ℕ) → Puts net_out 0 t.net net_end net_left → Puts listing_out 0 t.listing listing_end listing_left
      → Answers o net_out listing_out (Ok (record { net_bytes = net_end; listing_bytes = listing_end })) net_left listing_left
  unfolding over
  written_answers o t h net_end listing_end net_left listing_left p q =
      let e : net_end ≡ length t.net = omega (arith, p.0) in
      let f : listing_end ≡ length t.listing = omega (arith, q.0) in
      rw h ((λ i. Ok (record { net_bytes = e i; listing_bytes = f i })), p.1 ∙ rw zero-add refl, q.1 ∙ rw zero-add refl)

  pub same_answers : (o p : Outcome Shorter) (r : Result Deleted Refusal) (net_left listing_left : List ℕ) → o ≡ p → Answers o net_out listing_out r net_left listing_left → Answers p net_out listing_out r net_left listing_left
  same_answers o p r net_left listing_left h a = rw (← h) a

-- ---- any bytes

pub net_turned : (net listing : List ℕ) (s net_room listing_room : ℕ) (e : Refusal) → read_weighted net ≡ refused e → deletion_of net listing s net_room listing_room ≡ refused e
unfolding deletion_of
net_turned net listing s net_room listing_room e h = then_refused _ h

module _ (net listing : List ℕ) (s net_room listing_room : ℕ) (N : Net) (w : List ℕ) (read : read_weighted net ≡ value (record { net = N; weights = w })) where
  pub net_read : deletion_of net listing s net_room listing_room ≡ deleted_over N w listing s net_room listing_room
  unfolding deletion_of
  net_read = then_value _ read

module _ (N : Net) (w listing : List ℕ) (s net_room listing_room : ℕ) where
  pub listing_turned : (e : Refusal) → accept_listing N listing ≡ refused e → deleted_over N w listing s net_room listing_room ≡ refused e
  listing_turned e h = then_refused _ h

  pub listing_accepted : (G : Listing) → accept_listing N listing ≡ value G → deleted_over N w listing s net_room listing_room ≡ deleted N w G.tree s net_room listing_room
  listing_accepted G h = then_value _ h

-- the deletion by what is accepted over the net
module _ (net listing : List ℕ) (s net_room listing_room : ℕ) where
  deletion_over : deletion_of net listing s net_room listing_room ≡ and_then (accepted_over net listing) (λ p. deleted p.net.net p.net.weights p.listing.tree s net_room listing_room)
  unfolding deletion_of
  deletion_over = go (read_weighted net)
    where
      at_listing : (K : WeightedNet) (o : Outcome Listing) → and_then o (λ G. deleted K.net K.weights G.tree s net_room listing_room) ≡ and_then (and_then o (both_read K)) (λ p. deleted p.net.net p.net.weights p.listing.tree s net_room listing_room)
      at_listing K (value G) = refl
      at_listing K (refused d) = refl

      go : (o : Outcome WeightedNet) → and_then o (λ M. and_then (accept_listing M.net listing) (λ G. deleted M.net M.weights G.tree s net_room listing_room))
          ≡ and_then (and_then o (λ M. and_then (accept_listing M.net listing) (both_read M))) (λ p. deleted p.net.net p.net.weights p.listing.tree s net_room listing_room)
      go (value K) = at_listing K (accept_listing K.net listing)
      go (refused d) = refl

  pub over_turned : (e : Refusal) → refused e ≡ accepted_over net listing → deletion_of net listing s net_room listing_room ≡ refused e
  over_turned e h = deletion_over ∙ then_refused _ (sym h)

  pub over_deleted : (M : WeightedNet) (G : Listing) → both_read M G ≡ accepted_over net listing → deleted M.net M.weights G.tree s net_room listing_room ≡ deletion_of net listing s net_room listing_room
  over_deleted M G h = sym (deletion_over ∙ then_value _ (sym h))

-- what the whole call leaves
pub outputs_are : (net listing : List ℕ) (s : ℕ) (net_out listing_out : List ℕ) (r : Result Deleted Refusal) (net_left listing_left : List ℕ)
    → Answers (deletion_of net listing s (length net_out) (length listing_out)) net_out listing_out r net_left listing_left
    → (r ≡ deletion_answer (deletion_of net listing s (length net_out) (length listing_out))) × (net_left ≡ net_output net listing s net_out listing_out) × (listing_left ≡ listing_output net listing s net_out listing_out)
unfolding net_output listing_output
outputs_are net listing s net_out listing_out r net_left listing_left a = a
