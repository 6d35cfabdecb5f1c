-- The Kraft condition and maximum of specs/Kraft: the choice of m changes nothing, a negative floor fails, and the search finds the one maximum. Assumes nothing.
use Prim.Native.Nat.{ℕ, zero, suc, ◌+◌, ◌*◌, ◌-◌, ◌/◌, ◌^◌, ◌≤◌, ◌<◌, max, zero-le}
use mathlib.Core.Path.{◌≡◌, refl, sym, ap, ap₂, ◌∙◌, subst}
use mathlib.Core.Bool.{Bool, true, false}
use mathlib.Core.Logic.{◌⊎◌, inl, inr, ⊎_elim}
use mathlib.Core.List.{List, [], ◌∷◌}
use native.Mathlib.Nat.{add_comm, mul_comm, mul-zero, mul-add, le_of_mul-le-mul_left, mul-le-mul_left, mul-le-mul_right, pow-succ', le-div_iff_mul-le, zero-div}
use native.Mathlib.Omega.{arith}
use lib.Pow.{pow-add, pow_pos, pow_mono}
use lib.ListN.{length}
use lib.Dec.{T, leb→le, le→leb}
use lib.IntN.{ℤ, pos, negsuc, ◌-ℤ◌, pred_ℤ, +ℤ_invr}
use lib.Signed.{◌≤ℤ◌}
use Rattle.quantities.proofs.Laws.MinMax.{min_is}
use Rattle.quantities.specs.Floor.{floor_div}
use Rattle.quantities.specs.Inner.Linear.{up, dn, whole, -is, le_or_gt}
use Rattle.quantities.specs.MinMax.{min_ℤ}
use Rattle.tree.specs.Kraft.{floors, power, powers, Above, Kraft, IsKraftMaximum, upper, top, meets_kraft_at, meets_kraft, search_down, kraft_maximum}
use Rattle.tree.specs.Lists.{least, least_from}

-- ---- the choice of m changes nothing

power_up : (m k : ℕ) (f : ℤ) → f ≤ℤ pos m → power (m + k) f ≡ 2 ^ k * power m f
power_up m k (pos f) h = let e : m + k - f ≡ k + (m - f) = omega (arith, whole) in rw e (pow-add 2 k (m - f))
power_up m k (negsuc f) h = let e : m + k + suc f ≡ k + (m + suc f) = omega arith in rw e (pow-add 2 k (m + suc f))

powers_up : (m k : ℕ) (fs : List ℤ) → Above m fs → powers (m + k) fs ≡ 2 ^ k * powers m fs
powers_up m k [] h = sym (mul-zero (2 ^ k))
powers_up m k (f ∷ l) h = ap₂ ◌+◌ (power_up m k f h.0) (powers_up m k l h.1) ∙ sym (mul-add (2 ^ k) (power m f) (powers m l))

powers_two : (m k : ℕ) (fs : List ℤ) → Above m fs → Above k fs → 2 ^ k * powers m fs ≡ 2 ^ m * powers k fs
powers_two m k fs h j = sym (powers_up m k fs h) ∙ (rw (add_comm m k) (powers_up k m fs j))

pub any_m : (m k : ℕ) (fs : List ℤ) → Above m fs → Above k fs → powers k fs ≤ 2 ^ k → powers m fs ≤ 2 ^ m
any_m m k fs h j e = le_of_mul-le-mul_left {k = 2 ^ k} (rw (powers_two m k fs h j, mul_comm (2 ^ k) (2 ^ m)) (mul-le-mul_left (2 ^ m) e)) (pow_pos k)

-- ---- the computed test

above_more : (m k : ℕ) (fs : List ℤ) → m ≤ k → Above m fs → Above k fs
above_more m k [] h a = tt
above_more m k (f ∷ l) h a = (let g : f ≤ℤ pos m = a.0 in omega (arith, whole), above_more m k l h a.1)

upper_above : (f : ℤ) → f ≤ℤ pos (upper f)
upper_above (pos f) = omega (arith, whole)
upper_above (negsuc f) = omega (arith, whole)

pub top_above : (fs : List ℤ) → Above (top fs) fs
top_above [] = tt
top_above (f ∷ l) = (let g : f ≤ℤ pos (upper f) = upper_above f in omega (arith, whole), above_more (top l) (max (upper f) (top l)) l (omega arith) (top_above l))

kraft_sound : (c : ℕ) (own : List ℤ) (s : ℤ) → meets_kraft c own s ≡ true → Kraft c own s
kraft_sound c own s e m a = any_m m (top fs) fs a (top_above fs) (leb→le (powers (top fs) fs) (2 ^ top fs) (subst T (sym e) tt))
  where
    fs : List ℤ
    fs = floors c own s

kraft_complete : (c : ℕ) (own : List ℤ) (s : ℤ) → meets_kraft c own s ≡ false → Kraft c own s → ⊥
kraft_complete c own s e h = subst T e (le→leb (powers (top fs) fs) (2 ^ top fs) (h (top fs) (top_above fs)))
  where
    fs : List ℤ
    fs = floors c own s

-- ---- "A negative floor gives a power above 1, so the sum is then above 1"

-- s is no more than each
abbrev pub NoneLess : ℤ → List ℤ → Type 0
NoneLess s [] = Unit {0}
NoneLess s (a ∷ l) = (s ≤ℤ a) × NoneLess s l

power_neg : (m : ℕ) (z : ℤ) (c : ℕ) → power m (floor_div z c) ≤ 2 ^ m → dn z ≤ up z
unfolding floor_div
power_neg m (pos n) c h = omega arith
power_neg m (negsuc n) c h =
    let q : ℕ = n / c in
    let e : m + suc q ≡ suc m + q = omega arith in
    let a : 2 ^ (m + suc q) ≡ 2 ^ suc m * 2 ^ q = rw e (pow-add 2 (suc m) q) in
    let b : 2 ^ suc m * 1 ≤ 2 ^ suc m * 2 ^ q = mul-le-mul_left (2 ^ suc m) (pow_pos q) in
    absurd (omega (arith, pow-succ' 2 m, pow_pos m))

sum_below : (m c : ℕ) (own : List ℤ) (s : ℤ) → powers m (floors c own s) ≤ 2 ^ m → NoneLess s own
sum_below m c [] s h = tt
sum_below m c (a ∷ l) s h = (
  (let k : dn (a -ℤ s) ≤ up (a -ℤ s) = power_neg m (a -ℤ s) c (omega arith) in omega (arith, whole, -is a s)),
  sum_below m c l s (omega arith),
)

pub kraft_below : (c : ℕ) (own : List ℤ) (s : ℤ) → Kraft c own s → NoneLess s own
kraft_below c own s h = sum_below (top (floors c own s)) c own s (h (top (floors c own s)) (top_above (floors c own s)))

-- ---- the least

least_from_lem : (s x : ℤ) (l : List ℤ) → s ≤ℤ x → NoneLess s l → s ≤ℤ least_from x l
least_from_lem s x [] h b = h
least_from_lem s x (y ∷ l) h b = let g : s ≤ℤ y = b.0 in least_from_lem s (min_ℤ x y) l (omega (arith, whole, min_is x y)) b.1

below_least : (s a : ℤ) (l : List ℤ) → NoneLess s (a ∷ l) → s ≤ℤ least (a ∷ l)
below_least s a l h = least_from_lem s a l h.0 h.1

below_less : (r s : ℤ) (l : List ℤ) → r ≤ℤ s → NoneLess s l → NoneLess r l
below_less r s [] h b = tt
below_less r s (a ∷ l) h b = (let g : s ≤ℤ a = b.0 in omega (arith, whole), below_less r s l h b.1)

least_low : (x : ℤ) (l : List ℤ) → (least_from x l ≤ℤ x) × NoneLess (least_from x l) l
least_low x [] = (omega (arith, whole), tt)
least_low x (y ∷ l) =
    let r : (least_from (min_ℤ x y) l ≤ℤ min_ℤ x y) × NoneLess (least_from (min_ℤ x y) l) l = least_low (min_ℤ x y) l in
    let g : least_from (min_ℤ x y) l ≤ℤ min_ℤ x y = r.0 in
    (omega (arith, whole, min_is x y), (omega (arith, whole, min_is x y), r.1))

least_below : (a : ℤ) (l : List ℤ) → NoneLess (least (a ∷ l)) (a ∷ l)
least_below a l = least_low a l

-- ---- some s meets the condition

two_pow : (n : ℕ) → n < 2 ^ n
two_pow zero = omega arith
two_pow (suc n) = omega (arith, two_pow n, pow-succ' 2 n)

-- a floor of at least n
power_far : (m n : ℕ) (z : ℤ) (c : ℕ) → 0 < c → n * c + dn z ≤ up z → power m (floor_div z c) ≤ 2 ^ (m - n)
unfolding floor_div
power_far m n (pos k) c c1 h = let g : n ≤ k / c = (le-div_iff_mul-le c1).1 (omega arith) in pow_mono (omega arith)
power_far m n (negsuc k) c c1 h = absurd (omega arith)

sum_far : (m n c : ℕ) (own : List ℤ) (s t : ℤ) → 0 < c → NoneLess s own → up t + n * c + dn s ≤ up s + dn t → powers m (floors c own t) ≤ length own * 2 ^ (m - n)
sum_far m n c [] s t c1 b h = zero-le
sum_far m n c (a ∷ l) s t c1 b h =
    let g : s ≤ℤ a = b.0 in
    let p : power m (floor_div (a -ℤ t) c) ≤ 2 ^ (m - n) = power_far m n (a -ℤ t) c c1 (omega (arith, whole, -is a t)) in
    omega (arith, p, sum_far m n c l s t c1 b.1 h)

kraft_far : (c : ℕ) (own : List ℤ) (s t : ℤ) → 0 < c → NoneLess s own → up t + length own * c + dn s ≤ up s + dn t → Kraft c own t
kraft_far c own s t c1 b h m a = any_m m M fs a (above_more (top fs) M fs (omega arith) (top_above fs)) fine
  where
    n : ℕ
    n = length own

    fs : List ℤ
    fs = floors c own t

    M : ℕ
    M = top fs + n

    fine : powers M fs ≤ 2 ^ M
    fine =
        let e : top fs + n - n ≡ top fs = omega arith in
        let p : powers M fs ≤ n * 2 ^ top fs = rw e at (sum_far M n c own s t c1 b h) in
        let q : n * 2 ^ top fs ≤ 2 ^ n * 2 ^ top fs = mul-le-mul_right (2 ^ top fs) (omega (arith, two_pow n)) in
        omega (arith, pow-add 2 (top fs) n, mul_comm (2 ^ top fs) (2 ^ n))

-- ---- the search finds the largest

pred_is : (s : ℤ) → up (pred_ℤ s) + dn s + 1 ≡ up s + dn (pred_ℤ s)
pred_is (pos zero) = refl
pred_is (pos (suc n)) = omega arith
pred_is (negsuc n) = omega arith

below_pred : (r s : ℤ) → r ≤ℤ s → (r ≡ s) ⊎ (r ≤ℤ pred_ℤ s)
below_pred r s h = ⊎_elim (λ q. inl (omega (arith, whole))) (λ q. inr (omega (arith, whole, pred_is s))) (le_or_gt s r)

module _ (c : ℕ) (own : List ℤ) (c1 : 0 < c) (b : ℤ) (low : NoneLess b own) where
  search_law : (k : ℕ) (s : ℤ) → ((r : ℤ) → Kraft c own r → r ≤ℤ s) → up s + length own * c + dn b ≤ k + up b + dn s → IsKraftMaximum c own (search_down c own k s)
  unfolding search_down
  search_law zero s most h = record { meets = kraft_far c own b s c1 low (omega arith); largest = most }
  search_law (suc k) s most h = go (meets_kraft c own s) refl (search_law k (pred_ℤ s))
    where
      go : (t : Bool) → meets_kraft c own s ≡ t
          → (((r : ℤ) → Kraft c own r → r ≤ℤ pred_ℤ s) → up (pred_ℤ s) + length own * c + dn b ≤ k + up b + dn (pred_ℤ s) → IsKraftMaximum c own (search_down c own k (pred_ℤ s)))
          → IsKraftMaximum c own (elim t [ true ↦ s | false ↦ search_down c own k (pred_ℤ s) ])
      go true e ih = record { meets = kraft_sound c own s e; largest = most }
      go false e ih = ih less (omega (arith, pred_is s))
        where
          less : (r : ℤ) → Kraft c own r → r ≤ℤ pred_ℤ s
          less r κ = ⊎_elim (λ q. absurd (kraft_complete c own s e (subst (Kraft c own) q κ))) (λ q. q) (below_pred r s (most r κ))

pub maximum_is : (c : ℕ) (a : ℤ) (l : List ℤ) → 0 < c → IsKraftMaximum c (a ∷ l) (kraft_maximum c (a ∷ l))
unfolding kraft_maximum
maximum_is c a l c1 =
    search_law c (a ∷ l) c1 (least (a ∷ l)) (least_below a l) (length (a ∷ l) * c) (least (a ∷ l))
    (λ r κ. below_least r a l (kraft_below c (a ∷ l) r κ)) (omega arith)

-- there is one only
pub maximum_one : (c : ℕ) (own : List ℤ) (s t : ℤ) → IsKraftMaximum c own s → IsKraftMaximum c own t → s ≡ t
maximum_one c own s t h k = let a : s ≤ℤ t = k.largest s h.meets in let b : t ≤ℤ s = h.largest t k.meets in omega (arith, whole)

-- ---- "One sink .. Kraft maximum -4 whatever c": of one sink it is the own slack
pub maximum_single : (c : ℕ) (a : ℤ) → IsKraftMaximum c (a ∷ []) a
unfolding floor_div
maximum_single c a = record { meets = kraft_sound c (a ∷ []) a meets; largest = λ r κ. (kraft_below c (a ∷ []) r κ).0 }
  where
    zero_floor : (z : ℤ) → z ≡ pos 0 → floor_div z c ≡ pos 0
    zero_floor z e = ap (λ y. floor_div y c) e ∙ ap pos (zero-div c)

    meets : meets_kraft c (a ∷ []) a ≡ true
    meets = ap (λ f. meets_kraft_at (top (f ∷ [])) (f ∷ [])) (zero_floor (a -ℤ a) (+ℤ_invr a))
