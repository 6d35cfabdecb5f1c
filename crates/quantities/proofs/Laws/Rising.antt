-- Maps of whole numbers that keep their order: tests stay, and the lesser, the greater and the median of images are the images. Multiplying by a k of at least 1 is one. Assumes nothing.
use Prim.Native.Nat.{ℕ, ◌≤◌}
use mathlib.Core.Path.{◌≡◌, refl, sym, ap, ap₂, ◌∙◌}
use mathlib.Core.Bool.{Bool, true, false, cond}
use mathlib.Core.Logic.{◌↔◌, ⊎_elim}
use native.Mathlib.Nat.{add-mul, mul-lt-mul_of_pos_right, mul-le-mul_right}
use native.Mathlib.Omega.{arith}
use lib.IntN.{ℤ, pos, ◌*ℤ◌}
use lib.Signed.{◌≤ℤ◌, ◌<ℤ◌, lt_z, le_z}
use Rattle.quantities.specs.MinMax.{min_ℤ, max_ℤ}
use Rattle.quantities.specs.Median.{median}
use Rattle.quantities.specs.Inner.Linear.{up, dn, whole, le→, lt→, *is, le_or_gt, le_z_is, le_z_not, lt_z_is, lt_z_not}

pub record Rising (g : ℤ → ℤ) : Type 0 where
  pub mono : {a b : ℤ} → a ≤ℤ b → g a ≤ℤ g b
  pub strict : {a b : ℤ} → a <ℤ b → g a <ℤ g b

module _ {g : ℤ → ℤ} (R : Rising g) where
  pub rising_lt : (a b : ℤ) → lt_z (g a) (g b) ≡ lt_z a b
  rising_lt a b = ⊎_elim (λ h. lt_z_not (R.mono h) ∙ sym (lt_z_not h)) (λ h. lt_z_is (R.strict h) ∙ sym (lt_z_is h)) (le_or_gt b a)

  pub rising_iff : (a b : ℤ) → (g a <ℤ g b) ↔ (a <ℤ b)
  rising_iff a b = (λ h. ⊎_elim (λ l. let m : g b ≤ℤ g a = R.mono l in absurd (omega (arith, whole))) (λ l. l) (le_or_gt b a), λ h. R.strict h)

  rising_le : (a b : ℤ) → le_z (g a) (g b) ≡ le_z a b
  rising_le a b = ⊎_elim (λ h. le_z_is (R.mono h) ∙ sym (le_z_is h)) (λ h. le_z_not (R.strict h) ∙ sym (le_z_not h)) (le_or_gt a b)

  by_test : (t : Bool) (a b : ℤ) → cond t (g a) (g b) ≡ g (cond t a b)
  by_test true a b = refl
  by_test false a b = refl

  pub rising_min : (a b : ℤ) → min_ℤ (g a) (g b) ≡ g (min_ℤ a b)
  unfolding min_ℤ
  rising_min a b = ap (λ t. cond t (g a) (g b)) (rising_le a b) ∙ by_test (le_z a b) a b

  rising_max : (a b : ℤ) → max_ℤ (g a) (g b) ≡ g (max_ℤ a b)
  unfolding max_ℤ
  rising_max a b = ap (λ t. cond t (g b) (g a)) (rising_le a b) ∙ by_test (le_z a b) b a

  pub rising_median : (a b c : ℤ) → median (g a) (g b) (g c) ≡ g (median a b c)
  unfolding median
  rising_median a b c = ap₂ max_ℤ (rising_min a b) (ap (λ z. min_ℤ z (g c)) (rising_max a b) ∙ rising_min (max_ℤ a b) c) ∙ rising_max (min_ℤ a b) (min_ℤ (max_ℤ a b) c)

pub rising_times : (k : ℕ) → 1 ≤ k → Rising (λ a. a *ℤ pos k)
rising_times k h = record {
  mono = λ {a} {b} l. omega (arith, whole, *is a k, *is b k, mul-le-mul_right k (le→ l), add-mul (up a) (dn b) k, add-mul (up b) (dn a) k);
  strict = λ {a} {b} l. omega (arith, whole, *is a k, *is b k, mul-lt-mul_of_pos_right {k = k} (lt→ l) h, add-mul (up a) (dn b) k, add-mul (up b) (dn a) k);
}
