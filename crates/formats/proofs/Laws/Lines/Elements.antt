-- What holds of every element of a list, and lists of a function's values. Assumes nothing.
use Prim.Native.Nat.{ℕ, zero, suc, ◌+◌, ◌≤◌, ◌<◌}
use mathlib.Core.Path.{◌≡◌, refl, sym, ap, ap₂, ◌∙◌}
use mathlib.Core.List.{List, [], ◌∷◌, ◌++◌, map}
use lib.ListN.{length, get_or}
use native.Mathlib.Omega.{arith}
use native.Mathlib.Nat.{add-zero}
use Rattle.tree.specs.Lists.{range}

abbrev pub All : {A : Type 0} → (A → Type 0) → List A → Type 0
All P [] = Unit {0}
All P (x ∷ l) = P x × All P l

module _ {A : Type 0} (P : A → Type 0) where
  pub all_at : (l : List A) → All P l → (i : ℕ) (d : A) → i < length l → P (get_or l i d)
  all_at [] h i d k = absurd (omega arith)
  all_at (x ∷ l) h zero d k = h.0
  all_at (x ∷ l) h (suc i) d k = all_at l h.1 i d (omega arith)

  pub all_of : (l : List A) (d : A) → ((i : ℕ) → i < length l → P (get_or l i d)) → All P l
  all_of [] d f = tt
  all_of (x ∷ l) d f = (f 0 (omega arith), all_of l d (λ i k. f (suc i) (omega arith)))

  pub all_append : (l k : List A) → All P l → All P k → All P (l ++ k)
  all_append [] k h g = g
  all_append (x ∷ l) k h g = (h.0, all_append l k h.1 g)

  pub all_map : {B : Type 0} (f : A → B) (Q : B → Type 0) → ((x : A) → P x → Q (f x)) → (l : List A) → All P l → All Q (map f l)
  all_map f Q g [] h = tt
  all_map f Q g (x ∷ l) h = (g x h.0, all_map f Q g l h.1)

-- ---- tables: what a function gives from a number on

pub table_of : {A : Type 0} (f : ℕ → A) (a : ℕ) (l : List A) (d : A) → ((i : ℕ) → i < length l → f (a + i) ≡ get_or l i d) → map f (range a (length l)) ≡ l
table_of f a [] d h = refl
table_of f a (x ∷ l) d h = ap₂ ◌∷◌ (ap f (sym (add-zero a)) ∙ h 0 (omega arith)) (table_of f (suc a) l d (λ i p. ap f (omega arith) ∙ h (suc i) (omega arith)))

pub table_append : {A : Type 0} (f : ℕ → A) (a j k : ℕ) → map f (range a (j + k)) ≡ map f (range a j) ++ map f (range (a + j) k)
table_append f a zero k =
    let b : a ≡ a + 0 = omega arith in
    let m : 0 + k ≡ k = omega arith in
    ap₂ (λ b m. map f (range b m)) b m
table_append f a (suc j) k =
    let m : suc j + k ≡ suc (j + k) = omega arith in
    let b : suc a + j ≡ a + suc j = omega arith in
    ap (λ m. map f (range a m)) m ∙ ap (λ l. f a ∷ l) (table_append f (suc a) j k ∙ ap (λ b. map f (range (suc a) j) ++ map f (range b k)) b)

-- P holds of all that it gives
pub all_table : {A : Type 0} (P : A → Type 0) (f : ℕ → A) (a m : ℕ) → ((i : ℕ) → a ≤ i → i < a + m → P (f i)) → All P (map f (range a m))
all_table P f a zero h = tt
all_table P f a (suc m) h = (h a (omega arith) (omega arith), all_table P f (suc a) m (λ i p q. h i (omega arith) (omega arith)))
