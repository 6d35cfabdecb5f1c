-- The score's binary64 operations round nothing: every number on the way is a whole number of 1024ths below 2 ^ 53.
use mathlib.Core.Path.{◌≡◌, refl, sym, ap, subst, ◌∙◌}
use mathlib.Core.Bool.{Bool, true, false, not, ◌&&◌}
use Prim.Native.Nat.{ℕ, zero, suc, ◌+◌, ◌*◌, ◌^◌, ◌≤◌, ◌<◌}
use native.Mathlib.Omega.{arith}
use native.Mathlib.Nat.{mul-le-mul}
use lib.Dec.{T}
use lib.IntN.{ℤ, pos, negsuc, nat_abs, ◌*ℤ◌}
use lib.Ieee.{Float, binary64, unlike, add, mul, of_int}
use lib.Ieee.Exact.{HasValue}
use Rattle.quantities.specs.Inner.Linear.{up, dn, whole, -is, nat_abs_is}
use Rattle.tree.specs.Limits.{wire_limit}
use Rattle.scoring.specs.Limits.{parts, FromZero}
use Rattle.scoring.specs.Binary64.{signed, Is1024ths, is_negative, of1024ths, plus_zero}
use Rattle.scoring.specs.Inner.Weighing.{Scorable, score_reach}
use Rattle.scoring.specs.Exact.{score1024ths, gain, loss, gain_less_loss, Exact}
use Rattle.scoring.proofs.Laws.Parts.{nth, nth_value, valued, cast, product}
use Rattle.scoring.proofs.Laws.Sums.{plus, minus, Sum, total, difference}

-- ---- the binary64 number of so many 1024ths

signed_is : (z : ℤ) → signed (is_negative z) (nat_abs z) ≡ z
signed_is (pos n) = refl
signed_is (negsuc n) = refl

pub of_value : (z : ℤ) → nat_abs z < 2 ^ 53 → HasValue (of1024ths z) (is_negative z) (nat_abs z) parts
unfolding of1024ths
of_value z h = nth_value (is_negative z) (nat_abs z) h

-- below 2 ^ 53 it has the value
pub of_exact : (z : ℤ) → nat_abs z < 2 ^ 53 → Is1024ths (of1024ths z) z
of_exact z h = subst (Is1024ths (of1024ths z)) (signed_is z) (valued (of1024ths z) (is_negative z) (nat_abs z) (of_value z h))

-- it is ±n / 1,024, unless that is minus zero
of_part : (s : Bool) (n : ℕ) → (T s → 0 < n) → nth s n ≡ of1024ths (signed s n)
unfolding of1024ths
of_part false n h = refl
of_part true zero h = absurd (omega (arith, h tt))
of_part true (suc n) h = refl

-- x is ±n / 1,024: its value
part_exact : (x : Float) (s : Bool) (n : ℕ) (z : ℤ) → x ≡ nth s n → n < 2 ^ 53 → signed s n ≡ z → Is1024ths x z
part_exact x s n z e h g = subst (Is1024ths x) g (valued x s n (subst (λ y. HasValue y s n parts) (sym e) (nth_value s n h)))

-- ---- a weight of A / 1,024 times a whole number

module _ (A : ℕ) (m : ℤ) (hA : A ≤ parts) (hm : nat_abs m ≤ score_reach) where
  bound : A * nat_abs m ≤ parts * score_reach
  bound = mul-le-mul hA hm

  -- ±A × |m|
  product_is : mul binary64 (of1024ths (pos A)) (of_int binary64 m) ≡ nth (unlike false (is_negative m)) (A * nat_abs m)
  product_is = product (of1024ths (pos A)) (of_int binary64 m) false (is_negative m) A (nat_abs m) (of_value (pos A) (omega arith)) (cast m (omega arith))

  product_value : HasValue (mul binary64 (of1024ths (pos A)) (of_int binary64 m)) (unlike false (is_negative m)) (A * nat_abs m) parts
  product_value = subst (λ x. HasValue x (unlike false (is_negative m)) (A * nat_abs m) parts) (sym product_is) (nth_value (unlike false (is_negative m)) (A * nat_abs m) (omega (arith, bound)))

signed_product : (A : ℕ) (m : ℤ) → signed (unlike false (is_negative m)) (A * nat_abs m) ≡ pos A *ℤ m
signed_product A (pos n) = refl
signed_product A (negsuc n) = refl

pub product_exact : (A : ℕ) (m : ℤ) → A ≤ parts → nat_abs m ≤ score_reach → Is1024ths (mul binary64 (of1024ths (pos A)) (of_int binary64 m)) (pos A *ℤ m)
product_exact A m hA hm =
    part_exact _ (unlike false (is_negative m)) (A * nat_abs m) (pos A *ℤ m) (product_is A m hA hm) (omega (arith, bound A m hA hm)) (signed_product A m)

-- ---- the score

-- ±n by its two parts
signed_parts : (s : Bool) (n : ℕ) → up (signed s n) + minus s n ≡ plus s n + dn (signed s n)
signed_parts false n = omega arith
signed_parts true zero = omega arith
signed_parts true (suc n) = omega arith

one_minus : (s : Bool) → T (not (s && false))
one_minus true = tt
one_minus false = tt

signed_size : (s : Bool) (n : ℕ) → nat_abs (signed s n) ≡ n
signed_size false n = refl
signed_size true zero = refl
signed_size true (suc n) = refl

module _ (A B : ℕ) (m : ℤ) (wire : ℕ) (hA : A ≤ parts) (hB : B ≤ parts) (hm : nat_abs m ≤ score_reach) (hw : wire ≤ score_reach) where
  abbrev z : ℤ
  z = score1024ths (pos A) (pos B) m wire

  abbrev s : Bool
  s = unlike false (is_negative m)

  apart : Sum (gain_less_loss (pos A) (pos B) m wire) s (A * nat_abs m) true (B * wire)
  apart = difference (gain (pos A) m) (loss (pos B) wire) s false (A * nat_abs m) (B * wire) (product_value A m hA hm) (product_value B (pos wire) hB hw)

  small : apart.size < 2 ^ 53
  small = omega (arith, apart.most, bound A m hA hm, bound B (pos wire) hB hw)

  apart_is : signed apart.sign apart.size ≡ z
  apart_is = omega (arith, whole, signed_parts apart.sign apart.size, apart.is, signed_parts s (A * nat_abs m), eq_parts, -is (pos A *ℤ m) (pos B *ℤ pos wire))
    where
      eq_parts : up (signed s (A * nat_abs m)) + dn (pos A *ℤ m) ≡ up (pos A *ℤ m) + dn (signed s (A * nat_abs m))
      eq_parts = subst (λ y. up y + dn (pos A *ℤ m) ≡ up (pos A *ℤ m) + dn y) (sym (signed_product A m)) refl

  ended : Sum (add binary64 (gain_less_loss (pos A) (pos B) m wire) plus_zero) apart.sign apart.size false 0
  ended =
      total (gain_less_loss (pos A) (pos B) m wire) plus_zero apart.sign false apart.size 0
      (subst (λ x. HasValue x apart.sign apart.size parts) (sym apart.part) (nth_value apart.sign apart.size small)) (refl, refl)

  ended_is : signed ended.sign ended.size ≡ z
  ended_is = again ∙ apart_is
    where
      again : signed ended.sign ended.size ≡ signed apart.sign apart.size
      again = omega (arith, whole, signed_parts ended.sign ended.size, ended.is, signed_parts apart.sign apart.size)

  pub exact : Exact (pos A) (pos B) m wire
  exact = record {
    alpha = of_exact (pos A) (omega arith);
    beta = of_exact (pos B) (omega arith);
    gain_exact = product_exact A m hA hm;
    loss_exact = product_exact B (pos wire) hB hw;
    difference_exact = part_exact _ apart.sign apart.size z apart.part small apart_is;
    score_exact = of_exact z (subst (λ y. nat_abs y < 2 ^ 53) apart_is (subst (λ n. n < 2 ^ 53) (sym (signed_size apart.sign apart.size)) small));
    score_is = ended.part ∙ of_part ended.sign ended.size (ended.plus_zero_lem (one_minus apart.sign)) ∙ ap of1024ths ended_is;
  }

-- the same of whole numbers in range
pub exactly : (A B m : ℤ) (wire : ℕ) → FromZero parts A → FromZero parts B → Scorable m → wire ≤ wire_limit → Exact A B m wire
exactly (pos A) (pos B) m wire hA hB hm hw = exact A B m wire (omega (arith, whole)) (omega (arith, whole)) (omega (arith, whole, nat_abs_is m)) (omega arith)
exactly (negsuc A) B m wire hA hB hm hw = absurd hA.0.le
exactly (pos A) (negsuc B) m wire hA hB hm hw = absurd hB.0.le
