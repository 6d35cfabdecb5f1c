-- What the functions on the two weights ask for and give. Definitions alone.
use Rattle.std.specs.Prelude.{ℕ, ◌^◌, ◌≡◌, ℤ, pos, neg_ℤ, ◌≤ℤ◌, Float}
use Rattle.scoring.specs.Limits.{parts, cap_limit, late_limit, FromZero}
use Rattle.scoring.specs.Binary64.{Is1024ths, of1024ths}
use Rattle.scoring.specs.declared.weights.Weights.{Weights}

-- the weights are A/1024 and B/1024
pub record Weighs (w : Weights) (A B : ℤ) : Type 0 where
  pub alpha : w.alpha ≡ of1024ths A
  pub beta : w.beta ≡ of1024ths B
  pub alpha_range : FromZero parts A
  pub beta_range : FromZero parts B

-- there are such A and B
abbrev pub Weighed : Weights → Type 0
Weighed w = (A : ℤ) × ((B : ℤ) × Weighs w A B)

-- a slack that is scored: no more than a cap, and not too late
abbrev pub Scorable : ℤ → Type 0
Scorable m = (neg_ℤ (pos late_limit) ≤ℤ m) × (m ≤ℤ pos cap_limit)

-- r is the product x, of z 1024ths exactly
abbrev pub ExactProduct : Float → Float → ℤ → Type 0
ExactProduct r x z = (r ≡ x) × Is1024ths r z

-- every slack and every wire that is scored is below it
abbrev pub score_reach : ℕ
score_reach = 2 ^ 40
