-- No answer of a program is a proper part of another: listings, measures and refusals each by their lines, and a refusal begins with another byte than the others. Assumes nothing.
use Prim.Native.Nat.{ℕ}
use mathlib.Core.Path.{◌≡◌, refl, sym, ap, ◌∙◌}
use mathlib.Core.Logic.{◌⊎◌, inl, inr}
use mathlib.Core.List.{List, [], ◌∷◌, ◌++◌, append_assoc, append-nil}
use native.Mathlib.Omega.{arith}
use lib.ListN.{get_or}
use lib.IntN.{ℤ, pos}
use Rattle.tree.specs.Net.{Net, size}
use Rattle.tree.specs.Limits.{InRange}
use Rattle.formats.specs.Line.{line_text}
use Rattle.formats.specs.Outcome.{Outcome, value, refused}
use Rattle.formats.specs.NetText.{wire_key, InFormat}
use Rattle.formats.specs.Faults.{NetFault}
use Rattle.formats.specs.Reading.Nets.{read_net}
use Rattle.formats.specs.ListingText.{Listing, slack_key, listing_text, ListingInRange}
use Rattle.formats.specs.Refusals.{told}
use Rattle.formats.specs.declared.refusal.Refusal.{Refusal}
use Rattle.formats.specs.declared.refusal.Refusal.TheVariants.{Unreachable, TooShort}
use Rattle.formats.specs.declared.refusal.Told.{Told}
use Rattle.formats.proofs.Laws.Lines.OneLine.{line_one}
use Rattle.formats.proofs.Laws.Lines.DueTexts.{never}
use Rattle.formats.proofs.Laws.Lines.Outcomes.{then_value}
use Rattle.formats.proofs.Laws.Faults.NetFaults.{net_answered}
use Rattle.formats.proofs.Laws.Listings.OneText.{listing_prefix}
use Rattle.formats.proofs.Laws.Nets.NetTexts.{net_sound}
use Rattle.operations.specs.Answers.{Written, stated, planned, plan_listing, plan_net, plan_of, Judgement, judge_of}
use Rattle.operations.specs.TreePlans.{Make, tree_listing, tree_plan_of, TreePlanRefuses}
use Rattle.operations.proofs.Laws.Answers.{plan_refused, Ends, unreachable, short, written, ends}
use Rattle.operations.proofs.Laws.PlanListing.{plan_in_range}
use Rattle.operations.proofs.Laws.TreePlans.{Makes, made_in_range, tree_plan}
use Rattle.short_tree.proofs.Laws.SecondPlan.{short_makes}
use Rattle.weighted_tree.proofs.Laws.ThirdPlan.{weighted_makes}
use Rattle.console.specs.Printing.{refused_key, best_key, refusal_text, measures_text, plan_printed, judge_printed, OneAnswer}

-- ---- two texts of one kind

refusals_one : (t u : Told) (r : List ℕ) → refusal_text t ≡ refusal_text u ++ r → r ≡ []
refusals_one t u r e =
    let xs : List ℤ = pos t.number ∷ (pos t.text ∷ (pos t.line ∷ [])) in
    let ys : List ℤ = pos u.number ∷ (pos u.text ∷ (pos u.line ∷ [])) in
    sym (line_one refused_key xs ys [] r refl (omega arith) (append-nil (refusal_text t) ∙ e)).1

module _ (i j : Judgement) (r : List ℕ) (e : measures_text i ≡ measures_text j ++ r) where
  abbrev slack_line : Judgement → List ℕ
  slack_line k = line_text slack_key (k.slack ∷ [])

  abbrev wire_line : Judgement → List ℕ
  wire_line k = line_text wire_key (pos k.wire ∷ [])

  abbrev best_line : Judgement → List ℕ
  best_line k = line_text best_key (k.best ∷ [])

  -- line after line
  apart : slack_line i ++ (wire_line i ++ (best_line i ++ [])) ≡ slack_line j ++ (wire_line j ++ (best_line j ++ r))
  apart =
      ap (λ (b : List ℕ). slack_line i ++ (wire_line i ++ b)) (append-nil (best_line i))
      ∙ sym (append_assoc (slack_line i) (wire_line i) (best_line i))
      ∙ e
      ∙ append_assoc (slack_line j ++ wire_line j) (best_line j) r
      ∙ append_assoc (slack_line j) (wire_line j) (best_line j ++ r)

  measures_one : r ≡ []
  measures_one =
      let first = (line_one slack_key (i.slack ∷ []) (j.slack ∷ []) (wire_line i ++ (best_line i ++ [])) (wire_line j ++ (best_line j ++ r)) refl (omega arith) apart).1 in
      let second = (line_one wire_key (pos i.wire ∷ []) (pos j.wire ∷ []) (best_line i ++ []) (best_line j ++ r) refl (omega arith) first).1 in
      sym (line_one best_key (i.best ∷ []) (j.best ∷ []) [] r refl (omega arith) second).1

-- ---- a refusal begins with r, the others with s

first_byte : {C : Type 0} (s t : List ℕ) → s ≡ t → get_or s 0 0 ≡ 114 → get_or t 0 0 ≡ 115 → C
first_byte s t e p q = absurd (omega (arith, ap (λ (l : List ℕ). get_or l 0 0) e))

listing_first : (n : ℕ) (G : Listing) (r : List ℕ) → get_or (listing_text n G ++ r) 0 0 ≡ 115
unfolding listing_text
listing_first n G r = refl

-- ---- what plan prints

abbrev PlanText : List ℕ → Type 0
PlanText s = ((n : ℕ) × (G : Listing) × ListingInRange n G × (s ≡ listing_text n G)) ⊎ ((t : Told) × (s ≡ refusal_text t))

plan_text : (net : List ℕ) (room : ℕ) → PlanText (plan_printed (plan_of net room))
unfolding plan_of plan_listing
plan_text net room = go (read_net net) refl
  where
    net_planned : (N : Net) → InRange N → plan_of net room ≡ plan_net N room → Ends N room → PlanText (plan_printed (plan_of net room))
    net_planned N R e (unreachable h f) = inr (told Unreachable, ap plan_printed (e ∙ f))
    net_planned N R e (short h l f) = inr (told TooShort, ap plan_printed (e ∙ f))
    net_planned N R e (written h l f) = inl (size N, planned N, plan_in_range N R, ap plan_printed (e ∙ f))

    go : (o : Outcome Net) → read_net net ≡ o → PlanText (plan_printed (plan_of net room))
    go (refused e) h = inr (told e, ap plan_printed (plan_refused net e h room))
    go (value N) h = net_planned N (net_sound net N h).in_range (then_value _ h) (ends N room)

-- and a plan that ignores need
tree_text_lem : (make : Make) → Makes make → (net : List ℕ) (room : ℕ) → PlanText (plan_printed (tree_plan_of make net room))
unfolding tree_listing
tree_text_lem make M net room = go (tree_plan_of make net room) refl (net_answered net).either
  where
    go : (o : Outcome Written) → tree_plan_of make net room ≡ o → ((N : Net) × InFormat net N) ⊎ ((e : Refusal) × NetFault net e) → PlanText (plan_printed (tree_plan_of make net room))
    go (refused e) h f = inr (told e, ap plan_printed h)
    go (value w) h (inl (N, F)) =
        let q = ((tree_plan make M).nets net N F).returned room w h in
        inl (size N, stated N (make N F.weights), made_in_range make M N F.weights (size N) (stated N (make N F.weights)) refl refl F.in_range, ap plan_printed h ∙ ap (λ w. w.bytes) q)
    go (value w) h (inr (e, f)) = never w e (sym h ∙ ((tree_plan make M).refuses net room e).1 (TreePlanRefuses.in_net f))

plan_one : (s t r : List ℕ) → PlanText s → PlanText t → s ≡ t ++ r → r ≡ []
plan_one s t r (inl (n, G, g, p)) (inl (m, H, h, q)) e = (listing_prefix n m G H r g h (sym p ∙ e ∙ ap (λ (l : List ℕ). l ++ r) q)).2
plan_one s t r (inl (n, G, g, p)) (inr (u, q)) e = first_byte (refusal_text u ++ r) (listing_text n G ++ []) (sym (ap (λ (l : List ℕ). l ++ r) q) ∙ sym e ∙ p ∙ sym (append-nil (listing_text n G))) refl (listing_first n G [])
plan_one s t r (inr (u, p)) (inl (m, H, h, q)) e = first_byte (refusal_text u) (listing_text m H ++ r) (sym p ∙ e ∙ ap (λ (l : List ℕ). l ++ r) q) refl (listing_first m H r)
plan_one s t r (inr (u, p)) (inr (v, q)) e = refusals_one u v r (sym p ∙ e ∙ ap (λ (l : List ℕ). l ++ r) q)

-- ---- what judge prints

judge_one : (o p : Outcome Judgement) (r : List ℕ) → judge_printed o ≡ judge_printed p ++ r → r ≡ []
judge_one (value i) (value j) r e = measures_one i j r e
judge_one (value i) (refused f) r e = first_byte (refusal_text (told f) ++ r) (measures_text i) (sym e) refl refl
judge_one (refused f) (value j) r e = first_byte (refusal_text (told f)) (measures_text j ++ r) e refl refl
judge_one (refused f) (refused g) r e = refusals_one (told f) (told g) r e

pub one_answer : OneAnswer
one_answer = record {
  plan = λ net net' room room' r. plan_one _ _ r (plan_text net room) (plan_text net' room');
  plan_short = λ net net' room room' r. plan_one _ _ r (tree_text_lem _ short_makes net room) (tree_text_lem _ short_makes net' room');
  plan_weighted = λ net net' room room' r. plan_one _ _ r (tree_text_lem _ weighted_makes net room) (tree_text_lem _ weighted_makes net' room');
  judge = λ net listing net' listing' r. judge_one (judge_of net listing) (judge_of net' listing') r;
}
