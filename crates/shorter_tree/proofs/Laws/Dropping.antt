-- A list without one of its places. Assumes nothing.
use Prim.Native.Nat.{ℕ, zero, suc, ◌+◌, ◌≤◌, ◌<◌}
use mathlib.Core.Path.{◌≡◌, refl, ap, ap₂, ◌∙◌}
use mathlib.Core.Logic.{◌≢◌, ◌⊎◌, inl, inr}
use mathlib.Core.List.{List, [], ◌∷◌, ◌++◌, map}
use native.Mathlib.Omega.{arith}
use lib.ListN.{length, get_or}
use Rattle.tree.specs.Lists.{sum_over}
use Rattle.tree.proofs.Laws.Lists.Sums.{sum, sum_cong, equal?}
use Rattle.shorter_tree.specs.Deletion.{drop_at}
use Rattle.shorter_tree.specs.Inner.Arrays.{skip}

pub skip_low : (i j : ℕ) → j < i → skip i j ≡ j
skip_low zero j h = absurd (omega arith)
skip_low (suc i) zero h = refl
skip_low (suc i) (suc j) h = ap suc (skip_low i j (omega arith))

pub skip_high : (i j : ℕ) → i ≤ j → skip i j ≡ suc j
skip_high zero j h = refl
skip_high (suc i) zero h = absurd (omega arith)
skip_high (suc i) (suc j) h = ap suc (skip_high i j (omega arith))

pub skip_le : (i j : ℕ) → skip i j ≤ suc j
skip_le zero j = omega arith
skip_le (suc i) zero = omega arith
skip_le (suc i) (suc j) = omega (arith, skip_le i j)

pub skip_ge : (i j : ℕ) → j ≤ skip i j
skip_ge zero j = omega arith
skip_ge (suc i) zero = omega arith
skip_ge (suc i) (suc j) = omega (arith, skip_ge i j)

pub skip_add : (c i j : ℕ) → skip (c + i) (c + j) ≡ c + skip i j
skip_add zero i j =
    let e : 0 + i ≡ i = omega arith in
    let f : 0 + j ≡ j = omega arith in
    ap₂ skip e f ∙ omega arith
skip_add (suc c) i j =
    let e : suc c + i ≡ suc (c + i) = omega arith in
    let f : suc c + j ≡ suc (c + j) = omega arith in
    ap₂ skip e f ∙ omega (arith, skip_add c i j)

-- ---- lists

pub gone_at : {A : Type 0} (l : List A) (i j : ℕ) (d : A) → get_or (drop_at i l) j d ≡ get_or l (skip i j) d
gone_at [] i j d = refl
gone_at (x ∷ l) zero j d = refl
gone_at (x ∷ l) (suc i) zero d = refl
gone_at (x ∷ l) (suc i) (suc j) d = gone_at l i j d

pub gone_length : {A : Type 0} (l : List A) (i : ℕ) → i < length l → suc (length (drop_at i l)) ≡ length l
gone_length [] i h = absurd (omega arith)
gone_length (x ∷ l) zero h = refl
gone_length (x ∷ l) (suc i) h = ap suc (gone_length l i (omega arith))

pub gone_map : {A B : Type 0} (f : A → B) (l : List A) (i : ℕ) → map f (drop_at i l) ≡ drop_at i (map f l)
gone_map f [] i = refl
gone_map f (x ∷ l) zero = refl
gone_map f (x ∷ l) (suc i) = ap (◌∷◌ (f x)) (gone_map f l i)

pub gone_left : {A : Type 0} (l r : List A) (i : ℕ) → i < length l → drop_at i (l ++ r) ≡ drop_at i l ++ r
gone_left [] r i h = absurd (omega arith)
gone_left (x ∷ l) r zero h = refl
gone_left (x ∷ l) r (suc i) h = ap (◌∷◌ x) (gone_left l r i (omega arith))

pub gone_right : {A : Type 0} (l r : List A) (i : ℕ) → drop_at (length l + i) (l ++ r) ≡ l ++ drop_at i r
gone_right [] r i = let e : 0 + i ≡ i = omega arith in ap (λ j. drop_at j r) e
gone_right (x ∷ l) r i = let e : suc (length l) + i ≡ suc (length l + i) = omega arith in ap (λ j. drop_at j (x ∷ (l ++ r))) e ∙ ap (◌∷◌ x) (gone_right l r i)

-- the sum over it
pub gone_sum : (l : List ℕ) (i : ℕ) (f : ℕ → ℕ) → i < length l → sum_over (drop_at i l) f + f (get_or l i 0) ≡ sum_over l f
gone_sum [] i f h = absurd (omega arith)
gone_sum (x ∷ l) zero f h = omega arith
gone_sum (x ∷ l) (suc i) f h = omega (arith, gone_sum l i f (omega arith))

-- ---- a sum over a range of numbers without i

sum_next : (a n : ℕ) (f : ℕ → ℕ) → sum a n (λ i. f (suc i)) ≡ sum (suc a) n f
sum_next a zero f = refl
sum_next a (suc n) f = ap (◌+◌ (f (suc a))) (sum_next (suc a) n f)

pub sum_skip : (a n i : ℕ) (f : ℕ → ℕ) → a ≤ i → i ≤ a + n → sum a n (λ w. f (skip i w)) + f i ≡ sum a (suc n) f
sum_skip a zero i f h l = let e : i ≡ a = omega arith in omega (arith, ap f e)
sum_skip a (suc n) i f h l = go (sum_skip (suc a) n i f) (equal? a i)
  where
    go : (suc a ≤ i → i ≤ suc a + n → sum (suc a) n (λ w. f (skip i w)) + f i ≡ sum (suc a) (suc n) f) → (a ≡ i) ⊎ (a ≢ i)
        → f (skip i a) + sum (suc a) n (λ w. f (skip i w)) + f i ≡ sum a (suc (suc n)) f
    go ih (inl e) =
        let c : sum a (suc n) (λ w. f (skip i w)) ≡ sum a (suc n) (λ w. f (suc w)) = sum_cong a (suc n) (λ w. f (skip i w)) (λ w. f (suc w)) (λ w p q. ap f (skip_high i w (omega arith))) in
        omega (arith, c, sum_next a (suc n) f, ap f e)
    go ih (inr d) = omega (arith, ih (omega arith) (omega arith), ap f (skip_low i a (omega arith)))
