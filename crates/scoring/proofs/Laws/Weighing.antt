-- What the code makes of two weights: the quotients are A/1024 and B/1024, the products and the score those of the definitions. Assumes nothing.
use mathlib.Core.Path.{◌≡◌, sym, ap, ap₂, subst, ◌∙◌}
use Prim.Native.Nat.{ℕ, ◌^◌, ◌≤◌}
use native.Mathlib.Omega.{arith}
use lib.Dec.{T}
use lib.IntN.{ℤ, pos, negsuc, nat_abs, ◌*ℤ◌}
use lib.Ieee.{Float, binary64, of_bits, in_float, of_int, add, sub, mul, div}
use Rattle.quantities.specs.Inner.Linear.{whole, nat_abs_is}
use Rattle.tree.specs.Limits.{wire_limit}
use Rattle.scoring.specs.Limits.{parts, FromZero}
use Rattle.scoring.specs.Binary64.{Is1024ths, of1024ths, plus_zero}
use Rattle.scoring.specs.Exact.{score1024ths, gain, loss}
use Rattle.scoring.specs.Inner.Weighing.{Weighs, Scorable, ExactProduct}
use Rattle.scoring.specs.declared.weights.Weights.{Weights}
use Rattle.scoring.proofs.Laws.Parts.{castable, weight}
use Rattle.scoring.proofs.Laws.Exact.{product_exact, exactly}

-- ---- casts

pub weight_castable : (A : ℤ) → FromZero parts A → T (in_float binary64 A)
weight_castable A h = castable A (omega (arith, whole, nat_abs_is A))

pub slack_castable : (m : ℤ) → Scorable m → T (in_float binary64 m)
slack_castable m h = castable m (omega (arith, whole, nat_abs_is m))

pub wire_castable : (l : ℕ) → l ≤ wire_limit → T (in_float binary64 (pos l))
wire_castable l h = castable (pos l) (omega arith)

-- ---- the weights

pub quotient_is : (A : ℤ) → FromZero parts A → div binary64 (of_int binary64 A) (of_int binary64 (pos parts)) ≡ of1024ths A
unfolding of1024ths
quotient_is (pos A) h = weight A (omega (arith, whole))
quotient_is (negsuc A) h = absurd h.0.le

-- ---- the products

weighted_exact : (A m : ℤ) → FromZero parts A → nat_abs m ≤ 2 ^ 40 → Is1024ths (mul binary64 (of1024ths A) (of_int binary64 m)) (A *ℤ m)
weighted_exact (pos A) m h k = product_exact A m (omega (arith, whole)) k
weighted_exact (negsuc A) m h k = absurd h.0.le

module _ (w : Weights) (A B : ℤ) (h : Weighs w A B) where
  pub gain_made : (m : ℤ) → Scorable m → ExactProduct (mul binary64 w.alpha (of_int binary64 m)) (gain A m) (A *ℤ m)
  gain_made m k = (e, subst (λ x. Is1024ths x (A *ℤ m)) (sym e) (weighted_exact A m h.alpha_range (omega (arith, whole, nat_abs_is m))))
    where
      e : mul binary64 w.alpha (of_int binary64 m) ≡ gain A m
      e = ap (λ x. mul binary64 x (of_int binary64 m)) h.alpha

  pub loss_made : (l : ℕ) → l ≤ wire_limit → ExactProduct (mul binary64 w.beta (of_int binary64 (pos l))) (loss B l) (B *ℤ pos l)
  loss_made l k = (e, subst (λ x. Is1024ths x (B *ℤ pos l)) (sym e) (weighted_exact B (pos l) h.beta_range (omega arith)))
    where
      e : mul binary64 w.beta (of_int binary64 (pos l)) ≡ loss B l
      e = ap (λ x. mul binary64 x (of_int binary64 (pos l))) h.beta

  -- ---- the score

  pub score_made : (m : ℤ) (l : ℕ) → Scorable m → l ≤ wire_limit → (x y : Float) → x ≡ gain A m → y ≡ loss B l
      → add binary64 (sub binary64 x y) (of_bits binary64 0) ≡ of1024ths (score1024ths A B m l)
  unfolding of_bits
  score_made m l k n x y e f =
      ap₂ (λ a b. add binary64 (sub binary64 a b) plus_zero) e f ∙ (exactly A B m l h.alpha_range h.beta_range k n).score_is
