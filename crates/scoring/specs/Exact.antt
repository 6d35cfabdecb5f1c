-- The score of a slack and a wire, step by step in binary64, and that no step is rounded: 02, request 8.
use Rattle.std.specs.Prelude.{ℕ, ◌≡◌, ℤ, pos, ◌-ℤ◌, ◌*ℤ◌, Float}
use Rattle.std.specs.Float.{binary64}
use Rattle.std.specs.Float.Ieee.{add, sub, mul, of_int}
use Rattle.scoring.specs.Binary64.{Is1024ths, of1024ths, plus_zero}

-- "1,024 times it is the whole number A × min(..) - B × wire": the score in 1024ths, m being min(..)
abbrev pub score1024ths : ℤ → ℤ → ℤ → ℕ → ℤ
score1024ths A B m wire = A *ℤ m -ℤ B *ℤ pos wire

-- "alpha × min(worst slack, cap)" and "beta × wire", alpha and beta being A/1024 and B/1024, in binary64
abbrev pub gain : ℤ → ℤ → Float
gain A m = mul binary64 (of1024ths A) (of_int binary64 m)

abbrev pub loss : ℤ → ℕ → Float
loss B wire = mul binary64 (of1024ths B) (of_int binary64 (pos wire))

-- their difference
abbrev pub gain_less_loss : ℤ → ℤ → ℤ → ℕ → Float
gain_less_loss A B m wire = sub binary64 (gain A m) (loss B wire)

-- "The binary64 score must be exact": the weights, each product, the difference and the score are the whole numbers of 1024ths that they stand for
pub record Exact (A B m : ℤ) (wire : ℕ) : Type 0 where
  pub alpha : Is1024ths (of1024ths A) A
  pub beta : Is1024ths (of1024ths B) B
  pub gain_exact : Is1024ths (gain A m) (A *ℤ m)
  pub loss_exact : Is1024ths (loss B wire) (B *ℤ pos wire)
  pub difference_exact : Is1024ths (gain_less_loss A B m wire) (score1024ths A B m wire)
  pub score_exact : Is1024ths (of1024ths (score1024ths A B m wire)) (score1024ths A B m wire)
  -- "a zero score is plus zero": a sum with plus zero makes the difference the score
  pub score_is : add binary64 (gain_less_loss A B m wire) plus_zero ≡ of1024ths (score1024ths A B m wire)
