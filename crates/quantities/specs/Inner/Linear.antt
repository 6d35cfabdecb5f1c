-- A library for proofs: linear arithmetic over whole numbers with `omega`, which reads natural numbers alone.
-- A whole number z is `up z` less `dn z`, two naturals. The ruleset `whole` turns each order, equation, test and fit of whole numbers, in a hypothesis or as
-- the goal, into one of naturals. A proof lists one fact for each operation besides: `omega (arith, whole, +is a b, -is c d)`.
-- Facts are stated by differences, `up z + .. ≡ .. + dn z`, since `omega` does not know that one of the two parts is 0.
use Rattle.std.specs.Prelude.{◌≡◌, refl, ◌⊎◌, Bool, true, false, not, cond, ℕ, zero, suc, ◌+◌, ◌*◌, ◌-◌, ◌^◌, ◌≤◌, ◌<◌, min, max, T, ltb, ℤ, pos, negsuc, neg_ℤ, ◌+ℤ◌, ◌-ℤ◌, ◌*ℤ◌, nat_abs, ◌≤ℤ◌, ◌<ℤ◌}
use Rattle.std.proofs.Common.{sym, ap, subst, ◌∙◌, inl, inr, arith, mul-le-mul, ltb→lt, nltb→le, leb→le, le→leb, lt→ltb, leb-false}
use Rattle.std.proofs.Math.IntN.{sub_ℕ}
use Rattle.std.specs.Int.Signed.{mag, lt_z, le_z, non_neg, lt_z_no}
use Rattle.std.specs.Int.{Width, w64}
use mir.Val.{SFits, to_z, of_z, hbits}
use Rattle.std.proofs.lemmas.Int.{to_z-of_z}

abbrev pub up : ℤ → ℕ
up (pos n) = n
up (negsuc n) = 0

abbrev pub dn : ℤ → ℕ
dn (pos n) = 0
dn (negsuc n) = suc n

-- ---- orders and equations, as hypotheses

pub le→ : {a b : ℤ} → a ≤ℤ b → up a + dn b ≤ up b + dn a
le→ {a = pos a} {b = pos b} h = omega (arith, leb→le a b h.le)
le→ {a = pos a} {b = negsuc b} h = absurd h.le
le→ {a = negsuc a} {b = pos b} h = omega arith
le→ {a = negsuc a} {b = negsuc b} h = omega (arith, leb→le b a h.le)

pub lt→ : {a b : ℤ} → a <ℤ b → up a + dn b < up b + dn a
lt→ {a = pos a} {b = pos b} h = omega (arith, ltb→lt a b h.lt)
lt→ {a = pos a} {b = negsuc b} h = absurd h.lt
lt→ {a = negsuc a} {b = pos b} h = omega arith
lt→ {a = negsuc a} {b = negsuc b} h = omega (arith, ltb→lt b a h.lt)

pub eq→ : {a b : ℤ} → a ≡ b → up a + dn b ≡ up b + dn a
eq→ {a} {b} e = subst (λ (z : ℤ). up a + dn z ≡ up z + dn a) e refl

-- ---- and as goals

sum_positive : (m n : ℕ) → m + suc n ≤ 0 → ⊥
sum_positive m n h = omega arith

pub →le : {a b : ℤ} → up a + dn b ≤ up b + dn a → a ≤ℤ b
→le {a = pos a} {b = pos b} h = record { le = le→leb a b (omega arith) }
→le {a = pos a} {b = negsuc b} h = absurd (sum_positive a b h)
→le {a = negsuc a} {b = pos b} h = record { le = tt }
→le {a = negsuc a} {b = negsuc b} h = record { le = le→leb b a (omega arith) }

pub →lt : {a b : ℤ} → up a + dn b < up b + dn a → a <ℤ b
→lt {a = pos a} {b = pos b} h = record { lt = lt→ltb a b (omega arith) }
→lt {a = pos a} {b = negsuc b} h = absurd (sum_positive a b (omega arith))
→lt {a = negsuc a} {b = pos b} h = record { lt = tt }
→lt {a = negsuc a} {b = negsuc b} h = record { lt = lt→ltb b a (omega arith) }

pub →eq : {a b : ℤ} → up a + dn b ≡ up b + dn a → a ≡ b
→eq {a = pos a} {b = pos b} h = ap pos (omega arith)
→eq {a = pos a} {b = negsuc b} h = absurd (sum_positive a b (omega arith))
→eq {a = negsuc a} {b = pos b} h = absurd (sum_positive b a (omega arith))
→eq {a = negsuc a} {b = negsuc b} h = ap negsuc (omega arith)

-- ---- the parts of a difference of naturals, a sum, a negation, a difference, a product with a natural, a magnitude

pub sub_is : (a b : ℕ) → up (sub_ℕ a b) + b ≡ a + dn (sub_ℕ a b)
sub_is a b = go (ltb a b) (λ t. ltb→lt a b t) (λ t. nltb→le a b t)
  where
    go : (t : Bool) → (T t → a < b) → (T (not t) → b ≤ a) → up (cond t (negsuc (b - suc a)) (pos (a - b))) + b ≡ a + dn (cond t (negsuc (b - suc a)) (pos (a - b)))
    go true f g = omega (arith, f tt)
    go false f g = omega (arith, g tt)

pub +is : (a b : ℤ) → up (a +ℤ b) + (dn a + dn b) ≡ (up a + up b) + dn (a +ℤ b)
+is (pos a) (pos b) = omega arith
+is (pos a) (negsuc b) = omega (arith, sub_is a (suc b))
+is (negsuc a) (pos b) = omega (arith, sub_is b (suc a))
+is (negsuc a) (negsuc b) = omega arith

pub neg_up : (a : ℤ) → up (neg_ℤ a) ≡ dn a
neg_up (pos zero) = refl
neg_up (pos (suc n)) = refl
neg_up (negsuc n) = refl

pub neg_dn : (a : ℤ) → dn (neg_ℤ a) ≡ up a
neg_dn (pos zero) = refl
neg_dn (pos (suc n)) = refl
neg_dn (negsuc n) = refl

pub -is : (a b : ℤ) → up (a -ℤ b) + (dn a + up b) ≡ (up a + dn b) + dn (a -ℤ b)
-is a b = omega (arith, +is a (neg_ℤ b), neg_up b, neg_dn b)

pub *is : (a : ℤ) (k : ℕ) → up (a *ℤ pos k) + dn a * k ≡ up a * k + dn (a *ℤ pos k)
*is (pos a) k = omega arith
*is (negsuc a) k = omega (arith, neg_up (pos (suc a * k)), neg_dn (pos (suc a * k)))

pub nat_abs_is : (z : ℤ) → nat_abs z ≡ (up z - dn z) + (dn z - up z)
nat_abs_is (pos n) = omega arith
nat_abs_is (negsuc n) = omega arith

pub one_part : (a : ℤ) → min (up a) (dn a) ≡ 0
one_part (pos a) = omega arith
one_part (negsuc a) = omega arith

-- ---- tests: what each outcome says

pub lt_z_t : (a b : ℤ) → lt_z a b ≡ true → up a + dn b < up b + dn a
lt_z_t a b e = lt→ {a = a} {b = b} (record { lt = subst T (sym e) tt })

pub lt_z_f : (a b : ℤ) → lt_z a b ≡ false → up b + dn a ≤ up a + dn b
lt_z_f a b e = le→ {a = b} {b = a} (lt_z_no (subst (λ (t : Bool). T (not t)) (sym e) tt))

pub le_z_t : (a b : ℤ) → le_z a b ≡ true → up a + dn b ≤ up b + dn a
le_z_t a b e = le→ {a = a} {b = b} (record { le = subst T (sym e) tt })

pub le_z_f : (a b : ℤ) → le_z a b ≡ false → up b + dn a < up a + dn b
le_z_f (pos a) (pos b) e = omega (arith, leb-false a b e)
le_z_f (pos a) (negsuc b) e = omega arith
le_z_f (negsuc a) (pos b) e = absurd (subst T e tt)
le_z_f (negsuc a) (negsuc b) e = omega (arith, leb-false b a e)

-- ---- machine integers: a number that fits, and what is read back from its bits

pub sfits_up : {w : Width} {z : ℤ} → SFits w z → up z < 2 ^ hbits w
sfits_up {z = pos n} h = h.sfits
sfits_up {z = negsuc n} h = omega (arith, h.sfits)

pub sfits_dn : {w : Width} {z : ℤ} → SFits w z → dn z ≤ 2 ^ hbits w
sfits_dn {z = pos n} h = omega arith
sfits_dn {z = negsuc n} h = h.sfits

-- both bounds in one statement: a rule gives one fact
pub →sfits : {w : Width} {z : ℤ} → max (up z + up z + 1) (dn z + dn z) ≤ 2 ^ hbits w + (up z + dn z) → SFits w z
→sfits {z = pos n} h = record { sfits = omega arith }
→sfits {z = negsuc n} h = record { sfits = omega arith }

pub →non_neg : (z : ℤ) → dn z ≤ up z → T (non_neg z)
→non_neg (pos n) h = tt
→non_neg (negsuc n) h = absurd (sum_positive 0 n (omega arith))

-- the number that the machine reads back from the bits of z
abbrev pub rd : ℤ → ℤ
rd z = to_z w64 (of_z w64 z)

pub back : {w : Width} {z : ℤ} → SFits w z → up (to_z w (of_z w z)) + dn z ≡ up z + dn (to_z w (of_z w z))
back {w} {z} h = omega (arith, ap up (to_z-of_z w z h), ap dn (to_z-of_z w z h))

pub back_abs : {w : Width} {z : ℤ} → SFits w z → nat_abs (to_z w (of_z w z)) ≡ (up z - dn z) + (dn z - up z)
back_abs {w} {z} h = ap nat_abs (to_z-of_z w z h) ∙ nat_abs_is z

-- `omega` applies to a hypothesis the first rule that fits it, and no other
pub ruleset whole = (le→, lt→, eq→, →le, →lt, →eq, →sfits, back, →non_neg, lt_z_t, lt_z_f, le_z_t, le_z_f)

-- an element that was read, a call's result and a struct's field bring the bare bound
pub fit : (z : ℤ) → mag z < 2 ^ hbits w64 → SFits w64 z
fit z h = record { sfits = h }

-- the machine's sum, difference and product as equations of whole numbers, from the fits of the operands and of the result
module _ {w : Width} {x y : ℤ} (fx : SFits w x) (fy : SFits w y) where
  pub sum_is : SFits w (to_z w (of_z w x) +ℤ to_z w (of_z w y)) → to_z w (of_z w (to_z w (of_z w x) +ℤ to_z w (of_z w y))) ≡ x +ℤ y
  sum_is h = to_z-of_z w _ h ∙ (λ i. to_z-of_z w x fx i +ℤ to_z-of_z w y fy i)

  pub dif_is : SFits w (to_z w (of_z w x) -ℤ to_z w (of_z w y)) → to_z w (of_z w (to_z w (of_z w x) -ℤ to_z w (of_z w y))) ≡ x -ℤ y
  dif_is h = to_z-of_z w _ h ∙ (λ i. to_z-of_z w x fx i -ℤ to_z-of_z w y fy i)

  pub mul_is : SFits w (to_z w (of_z w x) *ℤ to_z w (of_z w y)) → to_z w (of_z w (to_z w (of_z w x) *ℤ to_z w (of_z w y))) ≡ x *ℤ y
  mul_is h = to_z-of_z w _ h ∙ (λ i. to_z-of_z w x fx i *ℤ to_z-of_z w y fy i)

-- ---- a product of two whole numbers: the magnitude is the product of the magnitudes

pub mul_abs : (a b : ℤ) → nat_abs (a *ℤ b) ≡ nat_abs a * nat_abs b
mul_abs (pos a) (pos b) = refl
mul_abs (pos a) (negsuc b) = omega (arith, nat_abs_is (neg_ℤ (pos (a * suc b))), neg_up (pos (a * suc b)), neg_dn (pos (a * suc b)))
mul_abs (negsuc a) (pos b) = omega (arith, nat_abs_is (neg_ℤ (pos (suc a * b))), neg_up (pos (suc a * b)), neg_dn (pos (suc a * b)))
mul_abs (negsuc a) (negsuc b) = refl

pub abs_le : (z : ℤ) (n : ℕ) → neg_ℤ (pos n) ≤ℤ z → z ≤ℤ pos n → nat_abs z ≤ n
abs_le z n l h = omega (arith, le→, nat_abs_is z, neg_up (pos n), neg_dn (pos n))

pub mul-le : (a b : ℤ) (m n : ℕ) → nat_abs a ≤ m → nat_abs b ≤ n → nat_abs (a *ℤ b) ≤ m * n
mul-le a b m n h k = subst (λ (i : ℕ). i ≤ m * n) (sym (mul_abs a b)) (mul-le-mul h k)

-- ---- the order is decided, and a test's value follows from the fact

pub le_or_gt : (a b : ℤ) → (a ≤ℤ b) ⊎ (b <ℤ a)
le_or_gt a b = go (le_z a b) refl
  where
    go : (t : Bool) → le_z a b ≡ t → (a ≤ℤ b) ⊎ (b <ℤ a)
    go true e = inl (omega (arith, whole))
    go false e = inr (omega (arith, whole))

-- a test that cannot have the other value
only_true : (t : Bool) → (t ≡ false → ⊥) → t ≡ true
only_true true f = refl
only_true false f = absurd (f refl)

only_false : (t : Bool) → (t ≡ true → ⊥) → t ≡ false
only_false true f = absurd (f refl)
only_false false f = refl

pub lt_z_is : {a b : ℤ} → a <ℤ b → lt_z a b ≡ true
lt_z_is {a} {b} h = only_true (lt_z a b) (λ e. omega (arith, whole))

pub lt_z_not : {a b : ℤ} → b ≤ℤ a → lt_z a b ≡ false
lt_z_not {a} {b} h = only_false (lt_z a b) (λ e. omega (arith, whole))

pub le_z_is : {a b : ℤ} → a ≤ℤ b → le_z a b ≡ true
le_z_is {a} {b} h = only_true (le_z a b) (λ e. omega (arith, whole))

pub le_z_not : {a b : ℤ} → b <ℤ a → le_z a b ≡ false
le_z_not {a} {b} h = only_false (le_z a b) (λ e. omega (arith, whole))
