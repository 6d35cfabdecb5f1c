-- What plan answers from step to step: the planned tree, its listing, the net that was read. Assumes nothing.
use Prim.Native.Nat.{ℕ, ◌≤◌, ◌<◌}
use mathlib.Core.Path.{◌≡◌, refl, sym, ap, ◌∙◌}
use mathlib.Core.Bool.{Bool, true, false}
use mathlib.Core.List.{List}
use Rattle.std.specs.Prelude.{Result, Ok, Err, cond, ℤ}
use Rattle.std.specs.Ordering.{is_lt}
use Rattle.std.proofs.Common.{Less, Greater, Equal}
use native.Mathlib.Nat.{zero-add}
use native.Mathlib.Omega.{arith}
use borrow.Author.Tests.{lt-ltb, le-ltb}
use lib.ListN.{length}
use lib.Signed.{lt_z}
use Rattle.quantities.specs.declared.length.Length.{Length}
use Rattle.quantities.specs.declared.time.Time.{Time}
use Rattle.tree.specs.Net.{Net, size}
use Rattle.tree.specs.Measures.{worst_slack}
use Rattle.tree.specs.Settling.{plan}
use Rattle.tree.specs.Limits.{InRange}
use Rattle.formats.specs.Reading.Nets.{read_net}
use Rattle.formats.specs.Outcome.{value, refused}
use Rattle.formats.specs.ListingText.{Listing, listing_text, ListingInRange}
use Rattle.formats.specs.Inner.Writing.{over, Puts}
use Rattle.formats.specs.declared.refusal.Refusal.{Refusal}
use Rattle.formats.specs.declared.refusal.Refusal.TheVariants.{Unreachable, TooShort}
use Rattle.formats.proofs.Laws.Lines.Outcomes.{then_value}
use Rattle.operations.specs.Answers.{planned, emitted, plan_net, plan_of, bytes_of, overwritten, plan_output, plan_answer}
use Rattle.operations.specs.declared.answers.Planned.{Planned}
use Rattle.operations.proofs.Laws.Answers.{plan_refused}
use Rattle.operations.proofs.Laws.PlanListing.{plan_in_range}

-- ---- the answer, by what was read

pub refused_answer : (s out : List ℕ) (e : Refusal) → read_net s ≡ refused e → (Err e ≡ plan_answer (plan_of s (length out))) × (out ≡ plan_output s out)
unfolding plan_output
refused_answer s out e h =
    let p = plan_refused s e h (length out) in
    (sym (ap plan_answer p), sym (ap (λ o. overwritten (bytes_of o) out) p))

pub read_answer : (s out left : List ℕ) (N : Net) (r : Result Planned Refusal) → read_net s ≡ value N → (r ≡ plan_answer (plan_net N (length out))) × (left ≡ overwritten (bytes_of (plan_net N (length out))) out) → (r ≡ plan_answer (plan_of s (length out))) × (left ≡ plan_output s out)
unfolding plan_of plan_output
read_answer s out left N r e h =
    let p = then_value (λ N. plan_net N (length out)) e in
    (h.0 ∙ sym (ap plan_answer p), h.1 ∙ sym (ap (λ o. overwritten (bytes_of o) out) p))

-- ---- the listing of the planned tree

-- G is the planned tree of a net of n sinks, with its slack and wire
module _ (N : Net) (n : ℕ) (G : Listing) (sized : size N ≡ n) (made : G ≡ planned N) where
  pub planned_in_range : InRange N → ListingInRange n G
  planned_in_range R = rw (made, ← sized) (plan_in_range N R)

  -- refusal 5, by the slack that was measured
  need_test : lt_z (worst_slack N (plan N)) N.need ≡ lt_z G.slack N.need
  need_test = rw made refl

  pub net_unreachable : (out : List ℕ) → lt_z G.slack N.need ≡ true → (Err Unreachable ≡ plan_answer (plan_net N (length out))) × (out ≡ overwritten (bytes_of (plan_net N (length out))) out)
  net_unreachable out e = let t = need_test ∙ e in (rw (plan_net, t) refl, rw (plan_net, t) refl)

  pub net_reachable : (r : Result Planned Refusal) (out left : List ℕ) → lt_z G.slack N.need ≡ false → r ≡ plan_answer (emitted n G (length out)) → left ≡ overwritten (bytes_of (emitted n G (length out))) out
      → (r ≡ plan_answer (plan_net N (length out))) × (left ≡ overwritten (bytes_of (plan_net N (length out))) out)
  net_reachable r out left e f b =
      let t = need_test ∙ e in (
        f ∙ (λ i. plan_answer (emitted (sym sized i) (made i) (length out))) ∙ rw (plan_net, t) refl,
        b ∙ (λ i. overwritten (bytes_of (emitted (sym sized i) (made i) (length out))) out) ∙ rw (plan_net, t) refl,
      )

  -- the net is that of the text s
  module _ (s : List ℕ) (read : read_net s ≡ value N) where
    pub unreachable : (out : List ℕ) → lt_z G.slack N.need ≡ true → (Err Unreachable ≡ plan_answer (plan_of s (length out))) × (out ≡ plan_output s out)
    unreachable out e = read_answer s out out N (Err Unreachable) read (net_unreachable out e)

    pub reachable : (r : Result Planned Refusal) (out left : List ℕ) → lt_z G.slack N.need ≡ false → r ≡ plan_answer (emitted n G (length out)) → left ≡ overwritten (bytes_of (emitted n G (length out))) out
        → (r ≡ plan_answer (plan_of s (length out))) × (left ≡ plan_output s out)
    reachable r out left e f b = read_answer s out left N r read (net_reachable r out left e f b)

-- a test by the derived order of times, by their numbers
pub less_says : (a b : ℤ) (t : Bool) → is_lt (cond (lt_z a b) Less (cond (lt_z b a) Greater Equal)) ≡ t → lt_z a b ≡ t
less_says a b t h = go (lt_z a b) (lt_z b a) h
  where
    go : (p q : Bool) → is_lt (cond p Less (cond q Greater Equal)) ≡ t → p ≡ t
    go true q h = h
    go false true h = h
    go false false h = h

-- ---- writing a listing

module _ (n : ℕ) (G : Listing) (out : List ℕ) where
  pub no_room : length out < length (listing_text n G) → (Err TooShort ≡ plan_answer (emitted n G (length out))) × (out ≡ overwritten (bytes_of (emitted n G (length out))) out)
  no_room h = let t = lt-ltb (length out) (length (listing_text n G)) h in (rw (emitted, t) refl, rw (emitted, t) refl)

  -- the listing stands at the start of the output, which is then `left`
  pub written_in_place : (left : List ℕ) (bytes : ℕ) (slack : Time) (wire : Length) → slack.0 ≡ G.slack → wire.0 ≡ G.wire → Puts out 0 (listing_text n G) bytes left → length (listing_text n G) ≤ length out
      → (Ok (record { slack = slack; wire = wire; bytes = bytes }) ≡ plan_answer (emitted n G (length out))) × (left ≡ overwritten (bytes_of (emitted n G (length out))) out)
  unfolding over
  written_in_place left bytes slack wire e f put h =
      let t = le-ltb (length out) (length (listing_text n G)) h in
      let ends : bytes ≡ length (listing_text n G) = omega (arith, put.0) in (
        (λ i. Ok (record { slack = record { 0 = e i }; wire = record { 0 = f i }; bytes = ends i })) ∙ rw (emitted, t) refl,
        put.1 ∙ rw (emitted, t, zero-add) refl,
      )
