-- What 02's request 8 promises of the router's score. Assumes nothing.
use mathlib.Core.Path.{◌≡◌, refl, sym, ap, subst, ◌∙◌}
use mathlib.Core.Bool.{Bool, true, false, not}
use mathlib.Core.List.{List}
use Rattle.std.specs.Prelude.{Result, Ok, Err}
use Prim.Native.Nat.{ℕ}
use native.Mathlib.Omega.{arith}
use lib.Dec.{T}
use lib.IntN.{ℤ, pos}
use lib.Ieee.{Float, nan, inf, fin, binary64, round, to_bits, is_nan}
use Rattle.quantities.specs.MinMax.{min_ℤ}
use Rattle.quantities.specs.Inner.Linear.{whole}
use Rattle.quantities.proofs.Laws.MinMax.{min_is}
use Rattle.formats.specs.Outcome.{Outcome, value, refused}
use Rattle.formats.specs.declared.refusal.Refusal.{Refusal}
use Rattle.formats.specs.declared.refusal.Refusal.TheVariants.{NotScored}
use Rattle.formats.proofs.Laws.Lines.DueTexts.{never}
use Rattle.formats.proofs.Laws.Lines.Outcomes.{same_refusal}
use Rattle.formats.proofs.Laws.Lines.Refusals.{numbered, told_one}
use Rattle.formats.proofs.Laws.Nets.NetTexts.{net_refused}
use Rattle.formats.proofs.Laws.Faults.NetFaults.{net_answered}
use Rattle.operations.specs.Answers.{Judgement, judge_of}
use Rattle.operations.proofs.Laws.Demands.{of_net_text}
use Rattle.operations.proofs.Laws.FarPins.{judge_fault}
use Rattle.operations.proofs.Laws.Judgements.{judged_in_range}
use Rattle.operations.proofs.Laws.Refusing.{judge_refuses}
use Rattle.scoring.specs.Binary64.{Is1024ths, of1024ths, plus_zero}
use Rattle.scoring.specs.Exact.{score1024ths, Exact}
use Rattle.scoring.specs.Scores.{is_scored, scored, score_of, score_answer, score_figures}
use Rattle.scoring.specs.RoutersScore.{ScoreInRange, ScoreRefuses, ScoreFor, RoutersScore}
use Rattle.scoring.proofs.Laws.Exact.{exactly}
use Rattle.scoring.proofs.Laws.Scores.{scored_only, scored_if, scored_no, scored_yes, score_refused, score_judged}

-- ---- the test is for the ranges

module _ (A B cap slack : ℤ) where
  granted : ScoreInRange A B cap slack → is_scored A B cap (min_ℤ slack cap) ≡ true
  granted c = scored_if A B cap (min_ℤ slack cap) (c.alpha, c.beta, c.cap_range, c.late)

  can : is_scored A B cap (min_ℤ slack cap) ≡ true → ScoreInRange A B cap slack
  can e = let h = scored_only A B cap (min_ℤ slack cap) e in record { alpha = h.0; beta = h.1; cap_range = h.2; late = h.3 }

  -- the two ways that a score can end
  scored_cases : {C : Type 0} (wire : ℕ) (o : Outcome ℤ) → scored A B cap slack wire ≡ o
      → (ScoreInRange A B cap slack → o ≡ value (score1024ths A B (min_ℤ slack cap) wire) → C)
      → ((ScoreInRange A B cap slack → ⊥) → o ≡ refused NotScored → C) → C
  scored_cases {C = C} wire o h given turned = by (is_scored A B cap (min_ℤ slack cap)) refl
    where
      by : (t : Bool) → is_scored A B cap (min_ℤ slack cap) ≡ t → C
      by true e = given (can e) (sym h ∙ scored_yes A B cap (min_ℤ slack cap) wire e)
      by false e = turned (λ c. absurd (differ (sym (granted c) ∙ e))) (sym h ∙ scored_no A B cap (min_ℤ slack cap) wire e)
        where
          differ : true ≡ false → ⊥
          differ q = subst T q tt

-- ---- a listing that judge accepts

module _ (net listing : List ℕ) (j : Judgement) (judged : judge_of net listing ≡ value j) (A B cap : ℤ) where
  exact_steps : ScoreInRange A B cap j.slack → Exact A B (min_ℤ j.slack cap) j.wire
  exact_steps c =
      exactly A B (min_ℤ j.slack cap) j.wire c.alpha c.beta (c.late, omega (arith, whole, c.cap_range, min_is j.slack cap)) (judged_in_range net listing j judged).1

  score_for : ScoreFor net listing j A B cap
  score_for = record {
    scores = λ c. score_judged net listing A B cap j judged ∙ scored_yes A B cap (min_ℤ j.slack cap) j.wire (granted A B cap j.slack c);
    exact = exact_steps;
  }

-- ---- any two texts

module _ (net listing : List ℕ) (A B cap : ℤ) where
  -- judge refuses, or the score is given, or 14
  score_cases : {C : Type 0} (o : Outcome ℤ) → score_of net listing A B cap ≡ o
      → ((e : Refusal) → judge_of net listing ≡ refused e → o ≡ refused e → C)
      → ((j : Judgement) → judge_of net listing ≡ value j → ScoreInRange A B cap j.slack → o ≡ value (score1024ths A B (min_ℤ j.slack cap) j.wire) → C)
      → ((j : Judgement) → judge_of net listing ≡ value j → (ScoreInRange A B cap j.slack → ⊥) → o ≡ refused NotScored → C) → C
  score_cases {C = C} o h by_judge given turned = go (judge_of net listing) refl
    where
      go : (r : Outcome Judgement) → judge_of net listing ≡ r → C
      go (refused e) q = by_judge e q (sym h ∙ score_refused net listing A B cap e q)
      go (value j) q = scored_cases A B cap j.slack j.wire o (sym (score_judged net listing A B cap j q) ∙ h) (given j q) (turned j q)

  score_exact : (z : ℤ) → score_of net listing A B cap ≡ value z → Is1024ths (of1024ths z) z
  score_exact z h =
      score_cases (value z) h (λ e q u. never z e u)
      (λ j q c u. let same : z ≡ score1024ths A B (min_ℤ j.slack cap) j.wire = cc in subst (λ y. Is1024ths (of1024ths y) y) (sym same) (exact_steps net listing j q A B cap c).score_exact)
      (λ j q n u. never z NotScored u)

  score_sound : (e : Refusal) → score_of net listing A B cap ≡ refused e → ScoreRefuses net listing A B cap e
  score_sound e h =
      score_cases (refused e) h
      (λ d q u. subst (ScoreRefuses net listing A B cap) (same_refusal d e (sym u)) (ScoreRefuses.by_judge ((judge_refuses net listing d).0 q)))
      (λ j q c u. never (score1024ths A B (min_ℤ j.slack cap) j.wire) e (sym u))
      (λ j q n u. subst (ScoreRefuses net listing A B cap) (same_refusal NotScored e (sym u)) (ScoreRefuses.not_scored j q n))

  score_complete : (e : Refusal) → ScoreRefuses net listing A B cap e → score_of net listing A B cap ≡ refused e
  score_complete e (ScoreRefuses.by_judge f) = score_refused net listing A B cap e ((judge_refuses net listing e).1 f)
  score_complete e (ScoreRefuses.not_scored j q n) =
      scored_cases A B cap j.slack j.wire (score_of net listing A B cap) (sym (score_judged net listing A B cap j q)) (λ c u. absurd (n c)) (λ m u. u)

-- ---- the rest

judge_never : (net listing : List ℕ) → judge_of net listing ≡ refused NotScored → ⊥
judge_never net listing h =
    let f = judge_fault net listing NotScored ((judge_refuses net listing NotScored).0 h) (omega arith) in
    let t = (of_net_text NotScored (net_refused net NotScored (((net_answered net).refuses NotScored).1 f))).0 in
    omega (arith, t)

plus_zero_lem : of1024ths (pos 0) ≡ plus_zero
unfolding of1024ths round
plus_zero_lem = refl

no_bits : to_bits binary64 plus_zero ≡ 0
unfolding to_bits
no_bits = refl

figures_one : (a b : Result Float Refusal) → score_figures a ≡ score_figures b → a ≡ b
figures_one (Ok x) (Ok y) e = ap (λ f. Ok f.score) e
figures_one (Ok x) (Err f) e = absurd (omega (arith, numbered f, ap (λ r. r.number) e))
figures_one (Err f) (Ok y) e = absurd (omega (arith, numbered f, ap (λ r. r.number) e))
figures_one (Err f) (Err g) e = ap Err (told_one f g (λ i. record { number = (e i).number; text = (e i).text; line = (e i).line }))

-- ---- a score that is given is a number

exact_number : (x : Float) (z : ℤ) → Is1024ths x z → T (not (is_nan x))
unfolding is_nan
exact_number nan z v = absurd v
exact_number (inf s) z v = tt
exact_number (fin s m e) z v = tt

pub score_number : (net listing : List ℕ) (A B cap : ℤ) (x : Float) → Ok x ≡ score_answer (score_of net listing A B cap) → T (not (is_nan x))
score_number net listing A B cap x e = go (score_of net listing A B cap) refl e
  where
    go : (o : Outcome ℤ) → score_of net listing A B cap ≡ o → Ok x ≡ score_answer o → T (not (is_nan x))
    go (value z) h e = let same : x ≡ of1024ths z = cc in subst (λ y. T (not (is_nan y))) (sym same) (exact_number (of1024ths z) z (score_exact net listing A B cap z h))
    go (refused f) h e = absurd (let n : ◌≡◌ {A = ℕ} 0 1 = cc in omega arith)

pub routers_score : RoutersScore
routers_score = record {
  accepted = score_for;
  exact = score_exact;
  plus_zero_lem = (plus_zero_lem, no_bits);
  refuses = λ net listing A B cap e. (score_sound net listing A B cap e, score_complete net listing A B cap e);
  judge_never = judge_never;
  figures = figures_one;
}
