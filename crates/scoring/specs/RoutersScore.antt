-- What 02's request 8 promises of the router's score, in one statement.
use Rattle.std.specs.Prelude.{ℕ, ◌≡◌, ◌↔◌, List, ℤ, pos, neg_ℤ, ◌≤ℤ◌, Float, Result}
use Rattle.std.specs.Float.{binary64}
use Rattle.std.specs.Float.Ieee.{to_bits}
use Rattle.quantities.specs.MinMax.{min_ℤ}
use Rattle.formats.specs.Outcome.{value, refused}
use Rattle.formats.specs.declared.refusal.Refusal.{Refusal}
use Rattle.formats.specs.declared.refusal.Refusal.TheVariants.{NotScored}
use Rattle.operations.specs.Answers.{Judgement, judge_of}
use Rattle.operations.specs.Refusing.{JudgeRefuses}
use Rattle.scoring.specs.Limits.{parts, cap_limit, late_limit, FromZero}
use Rattle.scoring.specs.Binary64.{Is1024ths, of1024ths, plus_zero}
use Rattle.scoring.specs.Exact.{score1024ths, Exact}
use Rattle.scoring.specs.Scores.{score_of, score_figures}

-- nothing is "out of range", and min(..) is not "below -1,000,000,000,000"
pub record ScoreInRange (A B cap slack : ℤ) : Type 0 where
  pub alpha : FromZero parts A
  pub beta : FromZero parts B
  pub cap_range : FromZero cap_limit cap
  pub late : neg_ℤ (pos late_limit) ≤ℤ min_ℤ slack cap

-- why no score is given: judge refuses, or it accepts and 14
pub data ScoreRefuses (net listing : List ℕ) (A B cap : ℤ) : Refusal → Type 0 where
  by_judge : {e : Refusal} → JudgeRefuses net listing e → ScoreRefuses net listing A B cap e
  not_scored : (j : Judgement) → judge_of net listing ≡ value j → (ScoreInRange A B cap j.slack → ⊥) → ScoreRefuses net listing A B cap NotScored

-- of a listing that judge accepts, with these measures
pub record ScoreFor (net listing : List ℕ) (j : Judgement) (A B cap : ℤ) : Type 0 where
  -- the score is "A × min(..) - B × wire" 1024ths
  pub scores : ScoreInRange A B cap j.slack → score_of net listing A B cap ≡ value (score1024ths A B (min_ℤ j.slack cap) j.wire)
  -- "The binary64 score must be exact", and so is each step to it
  pub exact : ScoreInRange A B cap j.slack → Exact A B (min_ℤ j.slack cap) j.wire

pub record RoutersScore : Type 0 where
  pub accepted : (net listing : List ℕ) (j : Judgement) → judge_of net listing ≡ value j → (A B cap : ℤ) → ScoreFor net listing j A B cap
  -- "1,024 times it is the whole number": of every score that is given
  pub exact : (net listing : List ℕ) (A B cap z : ℤ) → score_of net listing A B cap ≡ value z → Is1024ths (of1024ths z) z
  -- "a zero score is plus zero": all 64 bits are 0
  pub plus_zero_lem : (of1024ths (pos 0) ≡ plus_zero) × (to_bits binary64 plus_zero ≡ 0)
  -- "Turned away: 14 .. it follows all of judge's refusals": each refusal exactly for its reason
  pub refuses : (net listing : List ℕ) (A B cap : ℤ) (e : Refusal) → (score_of net listing A B cap ≡ refused e) ↔ ScoreRefuses net listing A B cap e
  -- judge itself never tells 14
  pub judge_never : (net listing : List ℕ) → judge_of net listing ≡ refused NotScored → ⊥
  -- the figures that a caller gets tell the answers apart
  pub figures : (a b : Result Float Refusal) → score_figures a ≡ score_figures b → a ≡ b
