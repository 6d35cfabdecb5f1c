-- The router's score of a listing over its net, for all bytes: 02, request 8. Definitions alone.
use Rattle.std.specs.Prelude.{ℕ, Bool, true, false, ◌&&◌, List, ℤ, pos, neg_ℤ, Float, Result, Ok, Err}
use Rattle.std.specs.Int.Signed.{le_z}
use Rattle.quantities.specs.MinMax.{min_ℤ}
use Rattle.formats.specs.Refusals.{told}
use Rattle.formats.specs.Outcome.{Outcome, value, refused, and_then}
use Rattle.formats.specs.declared.refusal.Refusal.{Refusal}
use Rattle.formats.specs.declared.refusal.Refusal.TheVariants.{NotScored}
use Rattle.operations.specs.Answers.{judge_of}
use Rattle.scoring.specs.Limits.{parts, cap_limit, late_limit}
use Rattle.scoring.specs.Binary64.{of1024ths, plus_zero}
use Rattle.scoring.specs.Exact.{score1024ths}

-- ---- the score of a slack and a wire

-- z is from 0 to k
abbrev pub is_from_zero : ℕ → ℤ → Bool
is_from_zero k z = le_z (pos 0) z && le_z z (pos k)

-- "A and B from 0 to 1,024; the cap is a whole number from 0 to 1,000,000,000,000"; m, which is min(..), is not "below -1,000,000,000,000"
unfoldable pub is_scored : ℤ → ℤ → ℤ → ℤ → Bool
is_scored A B cap m = is_from_zero parts A && (is_from_zero parts B && (is_from_zero cap_limit cap && le_z (neg_ℤ (pos late_limit)) m))

-- the score in 1024ths, m being min(..); or 14
abbrev pub scored_at : ℤ → ℤ → ℤ → ℤ → ℕ → Outcome ℤ
scored_at A B cap m wire = elim (is_scored A B cap m) [ true ↦ value (score1024ths A B m wire) | false ↦ refused NotScored ]

-- "min(worst slack, cap)"
abbrev pub scored : ℤ → ℤ → ℤ → ℤ → ℕ → Outcome ℤ
scored A B cap slack wire = scored_at A B cap (min_ℤ slack cap) wire

-- ---- of the two texts

-- the score in 1024ths: 14 "follows all of judge's refusals"; slack and wire are those that judge measures
unfoldable pub score_of : List ℕ → List ℕ → ℤ → ℤ → ℤ → Outcome ℤ
score_of net listing A B cap = and_then (judge_of net listing) λ j. scored A B cap j.slack j.wire

-- the answer of the function: the score in binary64
abbrev pub score_answer : Outcome ℤ → Result Float Refusal
score_answer (value z) = Ok (of1024ths z)
score_answer (refused e) = Err e

-- "Where nothing is refused, number, text and line are 0." "All figures except number, text and line are then 0": the score plus zero
pub record ScoreFigures : Type 0 where
  pub number : ℕ
  pub text : ℕ
  pub line : ℕ
  pub score : Float

abbrev pub score_figures : Result Float Refusal → ScoreFigures
score_figures (Ok score) = record { number = 0; text = 0; line = 0; score = score }
score_figures (Err e) = record { number = (told e).number; text = (told e).text; line = (told e).line; score = plus_zero }
