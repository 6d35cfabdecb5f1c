-- Sums over a range of numbers and over a list, counts, and the regrouping of a sum by its values. Assumes nothing.
use mathlib.Core.Path.{◌≡◌, refl, sym, ap, ap₂, ◌∙◌}
use mathlib.Core.Bool.{Bool, true, false, cond}
use mathlib.Core.Logic.{◌≢◌, ◌⊎◌, inl, inr}
use mathlib.Core.List.{List, [], ◌∷◌, ◌++◌, map}
use Prim.Native.Nat.{ℕ, zero, suc, ◌+◌, ◌*◌, ◌≤◌, ◌<◌, zero-le}
use native.Mathlib.Nat.{add-zero, zero-add, add-suc, suc-add, add-mul, zero-mul, one-mul, mul-zero, le_refl, eq-or-lt_of_le}
use native.Mathlib.Omega.{arith}
use lib.ListN.{length, get_or}
use Rattle.tree.specs.Lists.{sum_over, delta, count, down, all_with}

-- f a + f (a + 1) + .. , n terms
abbrev pub sum : ℕ → ℕ → (ℕ → ℕ) → ℕ
sum a zero f = zero
sum a (suc n) f = f a + sum (suc a) n f

pub sum_cong : (a n : ℕ) (f g : ℕ → ℕ) → ((i : ℕ) → a ≤ i → i < a + n → f i ≡ g i) → sum a n f ≡ sum a n g
sum_cong a zero f g h = refl
sum_cong a (suc n) f g h = ap₂ ◌+◌ (h a (le_refl a) (omega arith)) (sum_cong (suc a) n f g (λ i p q. h i (omega arith) (omega arith)))

pub sum_mono : (a n : ℕ) (f g : ℕ → ℕ) → ((i : ℕ) → a ≤ i → i < a + n → f i ≤ g i) → sum a n f ≤ sum a n g
sum_mono a zero f g h = zero-le
sum_mono a (suc n) f g h = omega (arith, h a (le_refl a) (omega arith), sum_mono (suc a) n f g (λ i p q. h i (omega arith) (omega arith)))

pub sum-add : (a n : ℕ) (f g : ℕ → ℕ) → sum a n (λ i. f i + g i) ≡ sum a n f + sum a n g
sum-add a zero f g = refl
sum-add a (suc n) f g = omega (arith, sum-add (suc a) n f g)

pub sum_scale : (a n k : ℕ) (f : ℕ → ℕ) → sum a n (λ i. k * f i) ≡ k * sum a n f
sum_scale a zero k f = sym (mul-zero k)
sum_scale a (suc n) k f = omega (arith, sum_scale (suc a) n k f)

pub sum_ones : (a n : ℕ) → sum a n (λ i. 1) ≡ n
sum_ones a zero = refl
sum_ones a (suc n) = omega (arith, sum_ones (suc a) n)

-- one term is no more than the sum
pub sum_member : (a n : ℕ) (f : ℕ → ℕ) (x : ℕ) → a ≤ x → x < a + n → f x ≤ sum a n f
sum_member a zero f x p q = absurd (omega arith)
sum_member a (suc n) f x p q = go (eq-or-lt_of_le p) (λ l. sum_member (suc a) n f x l (omega arith))
  where
    go : (a ≡ x) ⊎ (a < x) → (a < x → f x ≤ sum (suc a) n f) → f x ≤ f a + sum (suc a) n f
    go (inl e) ih = omega (arith, ap f e)
    go (inr l) ih = omega (arith, ih l)

pub sum_zero : (a n : ℕ) → sum a n (λ i. 0) ≡ 0
sum_zero a zero = refl
sum_zero a (suc n) = omega (arith, sum_zero (suc a) n)

pub sum_split : (a n k : ℕ) (f : ℕ → ℕ) → sum a (n + k) f ≡ sum a n f + sum (a + n) k f
sum_split a zero k f = simp (zero-add, add-zero)
sum_split a (suc n) k f = simp (suc-add, add-suc) (omega (arith, simp suc-add at (sum_split (suc a) n k f)))

pub delta_self : (x : ℕ) → delta x x ≡ 1
delta_self zero = refl
delta_self (suc x) = delta_self x

delta_lt : (x y : ℕ) → x < y → delta x y ≡ 0
delta_lt zero zero h = omega arith
delta_lt zero (suc y) h = refl
delta_lt (suc x) zero h = refl
delta_lt (suc x) (suc y) h = delta_lt x y (omega arith)

delta_gt : (x y : ℕ) → y < x → delta x y ≡ 0
delta_gt zero zero h = omega arith
delta_gt zero (suc y) h = refl
delta_gt (suc x) zero h = refl
delta_gt (suc x) (suc y) h = delta_gt x y (omega arith)

-- a sum over a range that x does not reach
sum_none : (a n x : ℕ) (f : ℕ → ℕ) → x < a → sum a n (λ u. delta u x * f u) ≡ 0
sum_none a zero x f h = refl
sum_none a (suc n) x f h = simp (delta_gt a x h, zero-mul, zero-add) (sum_none (suc a) n x f (omega arith))

-- one value of a range
pub sum_same : (a n x : ℕ) (f : ℕ → ℕ) → a ≤ x → x < a + n → sum a n (λ u. delta u x * f u) ≡ f x
sum_same a zero x f p q = omega arith
sum_same a (suc n) x f p q = go (λ h. sum_same (suc a) n x f h (omega arith)) (eq-or-lt_of_le p)
  where
    go : (a < x → sum (suc a) n (λ u. delta u x * f u) ≡ f x) → (a ≡ x) ⊎ (a < x) → delta a x * f a + sum (suc a) n (λ u. delta u x * f u) ≡ f x
    go ih (inl e) = rw (← e) (rw (delta_self a, one-mul, sum_none (suc a) n a f (omega arith), add-zero) refl)
    go ih (inr h) = rw (delta_lt a x h, zero-mul, zero-add) (ih h)

-- the sum over a list, regrouped by its values
pub regroup : (l : List ℕ) (v : ℕ) (f : ℕ → ℕ) → ((i : ℕ) → i < length l → get_or l i 0 < v) → sum_over l f ≡ sum 0 v (λ u. count u l * f u)
regroup [] v f h = sym (simp (zero-mul, sum_zero))
regroup (x ∷ l) v f h = simp add-mul (rw (sum-add 0 v (λ u. delta u x * f u) (λ u. count u l * f u), sum_same 0 v x f zero-le (omega (arith, h 0 (omega arith)))) (ap (◌+◌ (f x)) (regroup l v f (λ i p. h (suc i) (omega arith)))))

-- a sum over the places of a list
pub sum_places : (a : ℕ) (l : List ℕ) (f g : ℕ → ℕ) → ((i : ℕ) → i < length l → g (a + i) ≡ f (get_or l i 0)) → sum a (length l) g ≡ sum_over l f
sum_places a [] f g h = refl
sum_places a (x ∷ l) f g h = ap₂ ◌+◌ (rw add-zero at (h 0 (omega arith))) (sum_places (suc a) l f g (λ i p. simp suc-add (simp add-suc at (h (suc i) (omega arith)))))

-- ---- a list as a bag: x is in l where its count is not 0

pub delta_ne : (x y : ℕ) → x ≢ y → delta x y ≡ 0
delta_ne zero zero h = absurd (h refl)
delta_ne zero (suc y) h = refl
delta_ne (suc x) zero h = refl
delta_ne (suc x) (suc y) h = delta_ne x y (λ e. h (ap suc e))

pub delta_eq : (x y : ℕ) → delta x y ≢ 0 → x ≡ y
delta_eq zero zero h = refl
delta_eq zero (suc y) h = absurd (h refl)
delta_eq (suc x) zero h = absurd (h refl)
delta_eq (suc x) (suc y) h = ap suc (delta_eq x y h)

pub equal? : (x y : ℕ) → (x ≡ y) ⊎ (x ≢ y)
equal? zero zero = inl refl
equal? zero (suc y) = inr (omega arith)
equal? (suc x) zero = inr (omega arith)
equal? (suc x) (suc y) = ancestor (equal? x y)
  where
    ancestor : (x ≡ y) ⊎ (x ≢ y) → (suc x ≡ suc y) ⊎ (suc x ≢ suc y)
    ancestor (inl e) = inl (ap suc e)
    ancestor (inr h) = inr (omega arith)

pub sum_over_cong : (l : List ℕ) (f g : ℕ → ℕ) → ((x : ℕ) → count x l ≢ 0 → f x ≡ g x) → sum_over l f ≡ sum_over l g
sum_over_cong [] f g h = refl
sum_over_cong (y ∷ l) f g h = ap₂ ◌+◌ (h y (omega (arith, delta_self y))) (sum_over_cong l f g (λ x q. h x (omega arith)))

pub sum_over_mono : (l : List ℕ) (f g : ℕ → ℕ) → ((x : ℕ) → count x l ≢ 0 → f x ≤ g x) → sum_over l f ≤ sum_over l g
sum_over_mono [] f g h = zero-le
sum_over_mono (y ∷ l) f g h = omega (arith, h y (omega (arith, delta_self y)), sum_over_mono l f g (λ x q. h x (omega arith)))

-- none of the terms is above m
pub sum_over_bound : (l : List ℕ) (f : ℕ → ℕ) (m : ℕ) → ((x : ℕ) → count x l ≢ 0 → f x ≤ m) → sum_over l f ≤ length l * m
sum_over_bound [] f m h = zero-le
sum_over_bound (x ∷ l) f m h = omega (arith, h x (omega (arith, delta_self x)), sum_over_bound l f m (λ y q. h y (omega arith)))

pub sum_over_scale : (l : List ℕ) (k : ℕ) (f : ℕ → ℕ) → sum_over l (λ x. k * f x) ≡ k * sum_over l f
sum_over_scale [] k f = sym (mul-zero k)
sum_over_scale (y ∷ l) k f = omega (arith, sum_over_scale l k f)

pub sum_over_member : (l : List ℕ) (f : ℕ → ℕ) (x : ℕ) → count x l ≢ 0 → f x ≤ sum_over l f
sum_over_member [] f x h = absurd (h refl)
sum_over_member (y ∷ l) f x h = go (sum_over_member l f x) (equal? x y)
  where
    go : (count x l ≢ 0 → f x ≤ sum_over l f) → (x ≡ y) ⊎ (x ≢ y) → f x ≤ f y + sum_over l f
    go ih (inl e) = omega (arith, ap f e)
    go ih (inr d) = omega (arith, ih (omega (arith, delta_ne x y d)))

-- a sum that is not 0 has a term that is not 0
pub sum_over_find : (l : List ℕ) (f : ℕ → ℕ) → sum_over l f ≢ 0 → (x : ℕ) × (count x l ≢ 0) × (f x ≢ 0)
sum_over_find [] f h = absurd (h refl)
sum_over_find (y ∷ l) f h = go (sum_over_find l f) (equal? (f y) 0)
  where
    go : (sum_over l f ≢ 0 → (x : ℕ) × (count x l ≢ 0) × (f x ≢ 0)) → (f y ≡ 0) ⊎ (f y ≢ 0) → (x : ℕ) × (delta x y + count x l ≢ 0) × (f x ≢ 0)
    go ih (inl e) = let r : (x : ℕ) × (count x l ≢ 0) × (f x ≢ 0) = ih (omega arith) in (r.0, omega (arith, r.1), r.2)
    go ih (inr d) = (y, omega (arith, delta_self y), d)

-- the sum of f (q x), regrouped by the values of q
pub regroup_by : (l : List ℕ) (q : ℕ → ℕ) (v : ℕ) (f : ℕ → ℕ) → ((x : ℕ) → count x l ≢ 0 → q x < v)
    → sum_over l (λ x. f (q x)) ≡ sum 0 v (λ u. sum_over l (λ x. delta u (q x)) * f u)
regroup_by [] q v f h = sym (simp (zero-mul, sum_zero))
regroup_by (y ∷ l) q v f h =
    simp add-mul
    (rw (sum-add 0 v (λ u. delta u (q y) * f u) (λ u. sum_over l (λ x. delta u (q x)) * f u), sum_same 0 v (q y) f zero-le (omega (arith, h y (omega (arith, delta_self y)))))
    (ap (◌+◌ (f (q y))) (regroup_by l q v f (λ x p. h x (omega arith)))))

pub down_length : (N k : ℕ) → length (down N k) ≡ k
down_length N zero = refl
down_length N (suc k) = ap suc (down_length N k)

pub down_in : (N k u : ℕ) → count u (down N k) ≢ 0 → (N < u) × (u ≤ N + k)
down_in N zero u h = absurd (h refl)
down_in N (suc k) u h = go (down_in N k u) (equal? u (N + suc k))
  where
    go : (count u (down N k) ≢ 0 → (N < u) × (u ≤ N + k)) → (u ≡ N + suc k) ⊎ (u ≢ N + suc k) → (N < u) × (u ≤ N + suc k)
    go ih (inl e) = omega arith
    go ih (inr d) = let i : (N < u) × (u ≤ N + k) = ih (omega (arith, delta_ne u (N + suc k) d)) in omega arith

pub down_out : (N k u : ℕ) → N + k < u → count u (down N k) ≡ 0
down_out N zero u h = refl
down_out N (suc k) u h = omega (arith, delta_gt u (N + suc k) h, down_out N k u (omega arith))

pub down_low : (N k u : ℕ) → u ≤ N → count u (down N k) ≡ 0
down_low N zero u h = refl
down_low N (suc k) u h = omega (arith, delta_lt u (N + suc k) (omega arith), down_low N k u h)

pub down_once : (N k u : ℕ) → N < u → u ≤ N + k → count u (down N k) ≡ 1
down_once N zero u h g = omega arith
down_once N (suc k) u h g = go (down_once N k u h) (eq-or-lt_of_le g)
  where
    go : (u ≤ N + k → count u (down N k) ≡ 1) → (u ≡ N + suc k) ⊎ (u < N + suc k) → delta u (N + suc k) + count u (down N k) ≡ 1
    go ih (inl e) = rw e (omega (arith, delta_self (N + suc k), down_out N k (N + suc k) (omega arith)))
    go ih (inr l) = omega (arith, delta_lt u (N + suc k) l, ih (omega arith))

-- a sum after a change at x
pub sum_over_change : (l : List ℕ) (f g : ℕ → ℕ) (x : ℕ) → ((y : ℕ) → count y l ≢ 0 → y ≢ x → g y ≡ f y) → sum_over l g + count x l * f x ≡ sum_over l f + count x l * g x
sum_over_change [] f g x h = omega arith
sum_over_change (y ∷ l) f g x h = go (sum_over_change l f g x (λ z q. h z (omega arith))) (equal? x y)
  where
    go : sum_over l g + count x l * f x ≡ sum_over l f + count x l * g x → (x ≡ y) ⊎ (x ≢ y)
        → g y + sum_over l g + (delta x y + count x l) * f x ≡ f y + sum_over l f + (delta x y + count x l) * g x
    go ih (inl e) = rw (← e) (rw (delta_self x) (omega arith))
    go ih (inr d) = rw (delta_ne x y d) (omega (arith, h y (omega (arith, delta_self y)) (λ e. d (sym e))))

pub some_length : (l : List ℕ) (y : ℕ) → count y l ≢ 0 → 0 < length l
some_length [] y h = absurd (h refl)
some_length (x ∷ l) y h = omega arith

pub ones_length : (l : List ℕ) → sum_over l (λ x. 1) ≡ length l
ones_length [] = refl
ones_length (x ∷ l) = omega (arith, ones_length l)

pub sum_over-add : (l : List ℕ) (f g : ℕ → ℕ) → sum_over l (λ x. f x + g x) ≡ sum_over l f + sum_over l g
sum_over-add [] f g = refl
sum_over-add (x ∷ l) f g = omega (arith, sum_over-add l f g)

pub sum_over-append : (l r : List ℕ) (f : ℕ → ℕ) → sum_over (l ++ r) f ≡ sum_over l f + sum_over r f
sum_over-append [] r f = sym (zero-add (sum_over r f))
sum_over-append (x ∷ l) r f = omega (arith, sum_over-append l r f)

pub sum_over-map : (q : ℕ → ℕ) (l : List ℕ) (f : ℕ → ℕ) → sum_over (map q l) f ≡ sum_over l (λ x. f (q x))
sum_over-map q [] f = refl
sum_over-map q (x ∷ l) f = ap (◌+◌ (f (q x))) (sum_over-map q l f)

-- ---- what passes a test stands among those of the list that do

module _ (test : ℕ → Bool) where
  pub with_in : (l : List ℕ) (y : ℕ) → count y (all_with test l) ≢ 0 → (count y l ≢ 0) × (test y ≡ true)
  with_in [] y h = absurd (h refl)
  with_in (x ∷ l) y h = go (with_in l y) (test x) refl h (equal? y x)
    where
      go : (count y (all_with test l) ≢ 0 → (count y l ≢ 0) × (test y ≡ true)) → (b : Bool) → test x ≡ b → count y (cond b (x ∷ all_with test l) (all_with test l)) ≢ 0
          → (y ≡ x) ⊎ (y ≢ x) → (count y (x ∷ l) ≢ 0) × (test y ≡ true)
      go ih true e q (inl i) = (omega (arith, ap (delta y) (sym i), delta_self y), ap test i ∙ e)
      go ih true e q (inr d) = let r : (count y l ≢ 0) × (test y ≡ true) = ih (omega (arith, delta_ne y x d)) in (omega (arith, r.0), r.1)
      go ih false e q d = let r : (count y l ≢ 0) × (test y ≡ true) = ih q in (omega (arith, r.0), r.1)

  pub count_with : (l : List ℕ) (y : ℕ) → count y (all_with test l) ≤ count y l
  count_with [] y = zero-le
  count_with (x ∷ l) y = go (test x) (count_with l y)
    where
      go : (b : Bool) → count y (all_with test l) ≤ count y l → count y (cond b (x ∷ all_with test l) (all_with test l)) ≤ count y (x ∷ l)
      go true ih = omega arith
      go false ih = omega arith

  pub in_with : (l : List ℕ) (y : ℕ) → count y l ≢ 0 → test y ≡ true → count y (all_with test l) ≢ 0
  in_with [] y h q = h
  in_with (x ∷ l) y h q = go (λ m. in_with l y m q) (test x) refl (equal? y x)
    where
      go : (count y l ≢ 0 → count y (all_with test l) ≢ 0) → (b : Bool) → test x ≡ b → (y ≡ x) ⊎ (y ≢ x) → count y (cond b (x ∷ all_with test l) (all_with test l)) ≢ 0
      go ih true e (inl i) = omega (arith, ap (delta y) (sym i), delta_self y)
      go ih true e (inr d) = omega (arith, delta_ne y x d, ih (omega (arith, delta_ne y x d)))
      go ih false e (inl i) = let z : true ≡ false = sym q ∙ ap test i ∙ e in let o : ◌≡◌ {A = ℕ} 0 1 = cc in absurd (omega arith)
      go ih false e (inr d) = ih (omega (arith, delta_ne y x d))
