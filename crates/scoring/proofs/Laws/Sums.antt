-- Sums and differences of numbers ±n / 1,024 in binary64: each is such a number again, and minus zero comes of two minus signs only.
use mathlib.Core.Path.{◌≡◌, ap, subst, ◌∙◌}
use mathlib.Core.Bool.{Bool, true, false, not, ◌&&◌, cond}
use Prim.Native.Nat.{ℕ, ◌+◌, ◌*◌, ◌-◌, ◌≤◌, ◌<◌}
use native.Mathlib.Omega.{arith}
use native.Mathlib.Nat.{mul_assoc, mul_comm, mul_right_comm, add-mul, mul-pos, lt_of_mul-lt-mul_right, le_of_mul-le-mul_right}
use lib.Dec.{T, ltb, ltb→lt, nltb→le}
use lib.Ieee.{Float, nan, inf, fin, binary64, up as num2, down as den2, round, sum, add, sub, neg}
use lib.Ieee.Fits.{down_pos}
use lib.Ieee.Exact.{HasValue}
use Rattle.scoring.specs.Limits.{parts}
use Rattle.scoring.proofs.Laws.Parts.{nth, nth_is}

-- the plus part and the minus part of ±n, which `omega` reads
abbrev pub plus : Bool → ℕ → ℕ
plus false n = n
plus true n = 0

abbrev pub minus : Bool → ℕ → ℕ
minus false n = 0
minus true n = n

-- x is ±a / 1,024 with ±b / 1,024 added
pub record Sum (x : Float) (s : Bool) (a : ℕ) (t : Bool) (b : ℕ) : Type 0 where
  pub sign : Bool
  pub size : ℕ
  pub part : x ≡ nth sign size
  pub most : size ≤ a + b
  pub is : plus sign size + (minus s a + minus t b) ≡ (plus s a + plus t b) + minus sign size
  pub plus_zero_lem : T (not (s && t)) → T sign → 0 < size

-- ---- fractions P / D and Q / D that are a / 1,024 and b / 1,024

module _ (P Q D a b : ℕ) (e : P * parts ≡ a * D) (f : Q * parts ≡ b * D) where
  less : P < Q → a < b
  less h = lt_of_mul-lt-mul_right D (omega arith)

  no_less : 0 < D → P ≤ Q → a ≤ b
  no_less C h = le_of_mul-le-mul_right (omega arith) C

  added : (P + Q) * parts ≡ (a + b) * D
  added = omega (arith, add-mul a b D)

  taken : P ≤ Q → a ≤ b → (Q - P) * parts ≡ (b - a) * D
  taken h k =
      let r : b - a + a ≡ b = omega arith in
      omega (arith, add-mul (b - a) a D, ap (λ z. z * D) r)

-- where two of unlike signs are of one size, the sign of what is left is plus
tied : (s : Bool) (a b : ℕ) → b ≤ a → (T (not s) → a ≤ b) → plus s (a - b) + a ≡ b + minus s (a - b)
tied true a b h k = omega arith
tied false a b h k = omega (arith, k tt)

summed : (s : Bool) (P : ℕ) (t : Bool) (Q D a b : ℕ) → 0 < D → P * parts ≡ a * D → Q * parts ≡ b * D → Sum (sum binary64 s P t Q D) s a t b
unfolding sum
summed false P false Q D a b C e f = record { sign = false; size = a + b; part = nth_is false (P + Q) D (a + b) C (added P Q D a b e f); most = omega arith; is = omega arith; plus_zero_lem = λ u w. absurd w }
summed true P true Q D a b C e f = record { sign = true; size = a + b; part = nth_is true (P + Q) D (a + b) C (added P Q D a b e f); most = omega arith; is = omega arith; plus_zero_lem = λ u w. absurd u }
summed false P true Q D a b C e f = by (ltb P Q) (ltb→lt P Q) (nltb→le P Q)
  where
    by : (u : Bool) → (T u → P < Q) → (T (not u) → Q ≤ P) → Sum (cond u (round binary64 true (Q - P) D) (round binary64 false (P - Q) D)) false a true b
    by true y n =
        let k = less P Q D a b e f (y tt) in
        record { sign = true; size = b - a; part = nth_is true (Q - P) D (b - a) C (taken P Q D a b e f (omega (arith, y tt)) (omega arith)); most = omega arith; is = omega arith; plus_zero_lem = λ u w. omega arith }
    by false y n =
        let k = no_less Q P D b a f e C (n tt) in
        record { sign = false; size = a - b; part = nth_is false (P - Q) D (a - b) C (taken Q P D b a f e (n tt) k); most = omega arith; is = omega arith; plus_zero_lem = λ u w. absurd w }
summed true P false Q D a b C e f = by (ltb P Q) (ltb→lt P Q) (nltb→le P Q)
  where
    by : (u : Bool) → (T u → P < Q) → (T (not u) → Q ≤ P) → Sum (cond u (round binary64 false (Q - P) D) (round binary64 (ltb Q P) (P - Q) D)) true a false b
    by true y n =
        let k = less P Q D a b e f (y tt) in
        record { sign = false; size = b - a; part = nth_is false (Q - P) D (b - a) C (taken P Q D a b e f (omega (arith, y tt)) (omega arith)); most = omega arith; is = omega arith; plus_zero_lem = λ u w. absurd w }
    by false y n =
        let k = no_less Q P D b a f e C (n tt) in
        let z : T (not (ltb Q P)) → a ≤ b = λ w. no_less P Q D a b e f C (nltb→le Q P w) in
        record {
          sign = ltb Q P;
          size = a - b;
          part = nth_is (ltb Q P) (P - Q) D (a - b) C (taken Q P D b a f e (n tt) k);
          most = omega arith;
          is = let g = tied (ltb Q P) a b k z in omega arith;
          plus_zero_lem = λ u w. let r = less Q P D b a f e (ltb→lt Q P w) in omega arith;
        }

-- ---- sums and differences of two numbers

-- ±a / 1,024 over a wider denominator
widened : (M a D d : ℕ) → M * parts ≡ a * D → M * d * parts ≡ a * (D * d)
widened M a D d e = mul_right_comm M d parts ∙ ap (λ k. k * d) e ∙ mul_assoc a D d

widened' : (N b D d : ℕ) → N * parts ≡ b * d → N * D * parts ≡ b * (D * d)
widened' N b D d e = widened N b d D e ∙ ap (λ k. b * k) (mul_comm d D)

pub total : (x y : Float) (s t : Bool) (a b : ℕ) → HasValue x s a parts → HasValue y t b parts → Sum (add binary64 x y) s a t b
unfolding add
total nan y s t a b v w = absurd v
total (inf s') y s t a b v w = absurd v
total (fin s' m e) nan s t a b v w = absurd w
total (fin s' m e) (inf t') s t a b v w = absurd w
total (fin s' m e) (fin t' n d) s t a b v w =
    subst (λ u. Sum (sum binary64 s' (m * num2 e * den2 d) t' (n * num2 d * den2 e) (den2 e * den2 d)) u a t b) v.0
    (subst (λ u. Sum (sum binary64 s' (m * num2 e * den2 d) t' (n * num2 d * den2 e) (den2 e * den2 d)) s' a u b) w.0
    (summed s' (m * num2 e * den2 d) t' (n * num2 d * den2 e) (den2 e * den2 d) a b (mul-pos (down_pos e) (down_pos d)) (widened (m * num2 e) a (den2 e) (den2 d) v.1) (widened' (n * num2 d) b (den2 e) (den2 d) w.1)))

turned : (y : Float) (t : Bool) (b : ℕ) → HasValue y t b parts → HasValue (neg y) (not t) b parts
unfolding neg
turned nan t b w = w
turned (inf u) t b w = w
turned (fin u n d) t b w = (ap not w.0, w.1)

pub difference : (x y : Float) (s t : Bool) (a b : ℕ) → HasValue x s a parts → HasValue y t b parts → Sum (sub binary64 x y) s a (not t) b
unfolding sub
difference x y s t a b v w = total x (neg y) s (not t) a b v (turned y t b w)
