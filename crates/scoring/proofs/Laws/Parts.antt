-- Numbers of the form ±n / 1,024 in binary64: below 2 ^ 53 none is rounded, a weight's quotient is one, and so is its product with a whole number.
use mathlib.Core.Path.{◌≡◌, refl, sym, ap, ap₂, ◌∙◌}
use mathlib.Core.Bool.{Bool, true, false}
use Prim.Native.Nat.{ℕ, zero, suc, ◌*◌, ◌^◌, ◌≤◌, ◌<◌}
use native.Mathlib.Omega.{arith}
use native.Mathlib.Nat.{mul_assoc, mul_left_comm, mul_right_comm, mul-one, zero-mul, mul-pos, lt_of_lt_of_le}
use lib.Dec.{T, lit<, lit≤, le→leb, lt→ltb}
use lib.Pow.{pow_mono, shl_lt}
use lib.IntN.{ℤ, pos, negsuc, nat_abs, neg_ℤ, ◌*ℤ◌}
use lib.Ieee.{Float, nan, inf, fin, binary64, up as num2, down as den2, unlike, round, mul, div, of_int, in_float}
use lib.Ieee.Fits.{down_pos}
use lib.Ieee.Exact.{HasValue, round_exact}
use lib.Ieee.Scale.{round_same}
use lib.Ieee.Back.{round_whole}
use Rattle.scoring.specs.Limits.{parts}
use Rattle.scoring.specs.Binary64.{signed, Is1024ths, is_negative}

-- ±n / 1,024
abbrev pub nth : Bool → ℕ → Float
nth s n = round binary64 s n parts

-- below 2 ^ 53 it is not rounded
pub nth_value : (s : Bool) (n : ℕ) → n < 2 ^ 53 → HasValue (nth s n) s n parts
nth_value s n h =
    round_exact binary64 s n parts n 1064 (lit< tt) h (lt_of_lt_of_le (shl_lt 53 1064 h) (pow_mono {i = 1117} {j = 2098} (lit≤ tt))) (sym (mul_assoc n (2 ^ 1064) parts))

-- whatever fraction is rounded, if it is n / 1,024
pub nth_is : (s : Bool) (a c n : ℕ) → 0 < c → a * parts ≡ n * c → round binary64 s a c ≡ nth s n
nth_is s a c n C e = round_same binary64 s a c n parts C (lit< tt) e

-- its value as a whole number of 1024ths
signed_times : (s : Bool) (n d : ℕ) → signed s (n * d) ≡ signed s n *ℤ pos d
signed_times true zero d = ap (λ k. neg_ℤ (pos k)) (zero-mul d) ∙ sym (ap pos (zero-mul d))
signed_times true (suc n) d = refl
signed_times false n d = refl

pub valued : (x : Float) (s : Bool) (n : ℕ) → HasValue x s n parts → Is1024ths x (signed s n)
valued nan s n v = v
valued (inf t) s n v = v
valued (fin t m e) s n v = (λ i. signed (v.0 i) (v.1 i)) ∙ signed_times s n (den2 e)

-- ---- casts

pub castable : (z : ℤ) → nat_abs z ≤ 2 ^ 53 → T (in_float binary64 z)
unfolding in_float
castable (pos n) h = le→leb n (2 ^ 53) h
castable (negsuc n) h = lt→ltb n (2 ^ 53) h

pub cast : (z : ℤ) → nat_abs z ≤ 2 ^ 53 → HasValue (of_int binary64 z) (is_negative z) (nat_abs z) 1
unfolding of_int
cast (pos n) h = round_whole binary64 false n h
cast (negsuc n) h = round_whole binary64 true _ h

-- ---- a product with a whole number

crossed : (M a D N b d : ℕ) → M * parts ≡ a * D → N * 1 ≡ b * d → M * N * parts ≡ a * b * (D * d)
crossed M a D N b d p q =
    mul_right_comm M N parts ∙ ap (λ k. M * parts * k) (sym (mul-one N)) ∙ ap₂ ◌*◌ p q ∙ simp (mul_assoc, mul_left_comm)

pub product : (x y : Float) (s t : Bool) (a b : ℕ) → HasValue x s a parts → HasValue y t b 1 → mul binary64 x y ≡ nth (unlike s t) (a * b)
unfolding mul
product nan y s t a b v w = absurd v
product (inf s') y s t a b v w = absurd v
product (fin s' m e) nan s t a b v w = absurd w
product (fin s' m e) (inf t') s t a b v w = absurd w
product (fin s' m e) (fin t' n d) s t a b v w =
    nth_is (unlike s' t') (m * num2 e * (n * num2 d)) (den2 e * den2 d) (a * b) (mul-pos (down_pos e) (down_pos d)) (crossed (m * num2 e) a (den2 e) (n * num2 d) b (den2 d) v.1 w.1)
    ∙ ap₂ (λ u u'. nth (unlike u u') (a * b)) v.0 w.0

-- ---- the quotient by 1,024

thousand : of_int binary64 (pos parts) ≡ fin false 1 (pos 10)
unfolding of_int
thousand = refl

over : (M a D : ℕ) → M * 1 ≡ a * D → M * 1 * parts ≡ a * (1 * 1024 * D)
over M a D p = ap (λ k. k * parts) p ∙ mul_right_comm a D parts ∙ mul_assoc a parts D

quotient : (x : Float) (a : ℕ) → HasValue x false a 1 → div binary64 x (fin false 1 (pos 10)) ≡ nth false a
unfolding div
quotient nan a v = absurd v
quotient (inf s) a v = absurd v
quotient (fin s m e) a v =
    nth_is (unlike s false) (m * num2 e * 1) (1 * 1024 * den2 e) a (mul-pos (lit< tt) (down_pos e)) (over (m * num2 e) a (den2 e) v.1)
    ∙ ap (λ u. nth (unlike u false) a) v.0

-- "made from A/1024"
pub weight : (A : ℕ) → A ≤ parts → div binary64 (of_int binary64 (pos A)) (of_int binary64 (pos parts)) ≡ nth false A
weight A h = ap (div binary64 (of_int binary64 (pos A))) thousand ∙ quotient (of_int binary64 (pos A)) A (cast (pos A) (omega arith))
