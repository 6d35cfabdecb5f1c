-- A largest of the numbers 1 to n, found number by number. Assumes nothing.
use Prim.Native.Nat.{ℕ, ◌-◌, ◌≤◌}
use mathlib.Core.Path.{◌≡◌, refl, sym, subst}
use mathlib.Core.Bool.{Bool, true, false, cond}
use mathlib.Core.Logic.{◌≢◌, ◌⊎◌, inl, inr}
use native.Mathlib.Omega.{arith}
use lib.IntN.{ℤ}
use lib.Signed.{◌≤ℤ◌, ≤ℤ_refl, lt_z}
use Rattle.quantities.specs.Inner.Linear.{whole}
use Rattle.judging.specs.Inner.SinkSplits.{LargestAt}
use Rattle.tree.proofs.Laws.Lists.Sums.{equal?}

module _ (f : ℕ → ℤ) where
  pub largest_start : LargestAt f 1 1
  largest_start = record { from = omega arith; to = omega arith; largest = λ u a b. let e : 1 ≡ u = omega arith in subst (λ (v : ℕ). f v ≤ℤ f 1) e (≤ℤ_refl (f 1)) }

  -- i is looked at next: w is the largest so far
  pub largest_more : (i v : ℕ) (w : ℤ) → 1 ≤ i → LargestAt f (i - 1) v → w ≡ f v → LargestAt f i (cond (lt_z w (f i)) i v) × (cond (lt_z w (f i)) (f i) w ≡ f (cond (lt_z w (f i)) i v))
  largest_more i v w i1 b is = go (lt_z w (f i)) refl
    where
      -- what is no less than f v and than f i is no less than all
      all : (r : ℤ) → f v ≤ℤ r → f i ≤ℤ r → (u : ℕ) → 1 ≤ u → u ≤ i → (u ≡ i) ⊎ (u ≢ i) → f u ≤ℤ r
      all r h k u x y (inl q) = subst (λ (z : ℕ). f z ≤ℤ r) (sym q) k
      all r h k u x y (inr d) = let g : f u ≤ℤ f v = b.largest u x (omega arith) in omega (arith, whole)

      go : (t : Bool) → lt_z w (f i) ≡ t → LargestAt f i (cond t i v) × (cond t (f i) w ≡ f (cond t i v))
      go true e = (record { from = i1; to = omega arith; largest = λ u x y. all (f i) (omega (arith, whole)) (≤ℤ_refl (f i)) u x y (equal? u i) }, refl)
      go false e = (record { from = b.from; to = omega (arith, b.to); largest = λ u x y. all (f v) (≤ℤ_refl (f v)) (omega (arith, whole)) u x y (equal? u i) }, is)

  -- the rest need not be looked at where none is above w and f v is not below it
  pub largest_rest : (m n v : ℕ) (w : ℤ) → LargestAt f m v → m ≤ n → ((u : ℕ) → f u ≤ℤ w) → w ≤ℤ f v → LargestAt f n v
  largest_rest m n v w b h top e = record { from = b.from; to = omega (arith, b.to); largest = λ u x y. let t : f u ≤ℤ w = top u in omega (arith, whole) }
