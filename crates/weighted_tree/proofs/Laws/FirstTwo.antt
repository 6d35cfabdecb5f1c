-- The first two of a sorted list: the one that goes before all others, and the one that goes before all others but it. Assumes nothing.
use Prim.Native.Nat.{ℕ, zero, suc, ◌+◌, ◌≤◌, ◌<◌}
use mathlib.Core.Path.{◌≡◌, refl, sym, ap, ◌∙◌}
use mathlib.Core.Bool.{Bool, true, false, cond}
use mathlib.Core.Logic.{◌≢◌, ◌⊎◌, inl, inr}
use mathlib.Core.List.{List, [], ◌∷◌}
use native.Mathlib.Omega.{arith}
use lib.Dec.{T, eqb, eqb→eq}
use lib.ListN.{length, get_or}
use lib.IntN.{ℤ, pos}
use Rattle.quantities.specs.Inner.Linear.{whole}
use Rattle.tree.specs.Lists.{delta, count, range}
use Rattle.tree.specs.Tree.{parent_of}
use Rattle.tree.specs.Weights.{weight_of}
use Rattle.tree.specs.Planning.{sort}
use Rattle.tree.specs.Settling.{children_in}
use Rattle.tree.proofs.Laws.Lists.Sums.{equal?, delta_self, delta_ne, down_in, down_once}
use Rattle.tree.proofs.Laws.Trees.LegalTrees.{somewhere, down_le}
use Rattle.tree.proofs.Laws.Settling.SlackKept.{range_count, children_all}
use Rattle.tree.proofs.Laws.Planning.Earlier.{Says, says}
use Rattle.tree.proofs.Laws.Planning.BeforeSettling.{sort_count}
use Rattle.tree.proofs.Laws.Planning.OneOrder.{LowerOwn, asym, Sorted, sort_sorted}
use Rattle.weighted_tree.specs.Joining.{lighter, free, Joining, waiting}
use Rattle.weighted_tree.specs.Inner.Arrays.{Lower}

-- ---- what a test by (key, number) says

pub before : (o : ℕ → ℤ) (x y : ℕ) → x ≢ y → (t : Bool) → Says o t x y → cond t (LowerOwn o x y) (LowerOwn o y x)
before o x y ne true h = record { le = h.0; tie = h.1 }
before o x y ne false h = record { le = h.0; tie = λ k. omega (arith, h.1 (sym k)) }

abbrev key : List ℕ → ℕ → ℤ
key T v = pos (weight_of T v)

lighter_sorted : (T : List ℕ) (l : List ℕ) → ((y : ℕ) → count y l ≤ 1) → Sorted (key T) (sort (lighter T) l)
lighter_sorted T l once = sort_sorted (key T) (lighter T) (λ x y ne t e. before (key T) x y ne t (says (key T) x y t e)) l once

-- ---- places in a sorted list

pub sorted_at : (o : ℕ → ℤ) (l : List ℕ) → Sorted o l → (q r : ℕ) → q < r → r < length l → LowerOwn o (get_or l q 0) (get_or l r 0)
sorted_at o [] s q r h g = absurd (omega arith)
sorted_at o (x ∷ l) s zero zero h g = absurd (omega arith)
sorted_at o (x ∷ l) s zero (suc r) h g = s.0 (get_or l r 0) (somewhere l r (omega arith))
sorted_at o (x ∷ l) s (suc q) zero h g = absurd (omega arith)
sorted_at o (x ∷ l) s (suc q) (suc r) h g = sorted_at o l s.1 q r (omega arith) (omega arith)

pub place_of : (l : List ℕ) (x : ℕ) → count x l ≢ 0 → (q : ℕ) × (q < length l) × (get_or l q 0 ≡ x)
place_of [] x h = absurd (h refl)
place_of (y ∷ l) x h = go (equal? x y) (place_of l x)
  where
    go : (x ≡ y) ⊎ (x ≢ y) → (count x l ≢ 0 → (q : ℕ) × (q < length l) × (get_or l q 0 ≡ x)) → (q : ℕ) × (q < suc (length l)) × (get_or (y ∷ l) q 0 ≡ x)
    go (inl e) ih = (0, omega arith, sym e)
    go (inr d) ih = let r = ih (omega (arith, delta_ne x y d)) in (suc r.0, omega (arith, r.1), r.2)

-- ---- the first two

module _ (o : ℕ → ℤ) (l : List ℕ) (once : (u : ℕ) → count u l ≤ 1) (x : ℕ) (x_in : count x l ≢ 0) (x_first : (u : ℕ) → count u l ≢ 0 → u ≢ x → LowerOwn o x u) where
  first_of_lem : (r : List ℕ) → Sorted o r → ((u : ℕ) → count u r ≡ count u l) → get_or r 0 0 ≡ x
  first_of_lem [] s e = absurd (x_in (sym (e x)))
  first_of_lem (a ∷ r) s e = go (equal? a x)
    where
      go : (a ≡ x) ⊎ (a ≢ x) → a ≡ x
      go (inl q) = q
      go (inr d) = absurd (asym o (s.0 x (omega (arith, e x, delta_ne x a (λ q. d (sym q))))) (x_first a (omega (arith, e a, delta_self a)) d))

  second_of : (y : ℕ) → y ≢ x → count y l ≢ 0 → ((u : ℕ) → count u l ≢ 0 → u ≢ x → u ≢ y → LowerOwn o y u)
      → (r : List ℕ) → Sorted o r → ((u : ℕ) → count u r ≡ count u l) → get_or r 1 0 ≡ y
  second_of y yx y_in y_next [] s e = absurd (x_in (sym (e x)))
  second_of y yx y_in y_next (a ∷ []) s e =
      let q : a ≡ x = first_of_lem (a ∷ []) s e in
      absurd (omega (arith, e y, delta_ne y a (λ z. yx (z ∙ q))))
  second_of y yx y_in y_next (a ∷ (c ∷ r)) s e = go (equal? c y)
    where
      q : a ≡ x
      q = first_of_lem (a ∷ (c ∷ r)) s e

      other : c ≢ x
      other z = omega (arith, e c, once c, delta_self c, ap (delta c) (q ∙ sym z))

      go : (c ≡ y) ⊎ (c ≢ y) → c ≡ y
      go (inl z) = z
      go (inr d) =
          absurd (asym o
          (s.1.0 y (omega (arith, e y, delta_ne y a (λ z. yx (z ∙ q)), delta_ne y c (λ z. d (sym z)))))
          (y_next c (omega (arith, e c, delta_self c)) other d))

-- ---- the free vertices

module _ (p : ℕ → ℕ) where
  children_le : (l : List ℕ) (u : ℕ) → count u (children_in p 0 l) ≤ count u l
  children_le [] u = omega arith
  children_le (v ∷ l) u = go (eqb (p v) 0) (children_le l u)
    where
      go : (t : Bool) → count u (children_in p 0 l) ≤ count u l → count u (cond t (v ∷ children_in p 0 l) (children_in p 0 l)) ≤ delta u v + count u l
      go true ih = omega arith
      go false ih = omega arith

  children_free : (l : List ℕ) (u : ℕ) → count u (children_in p 0 l) ≢ 0 → p u ≡ 0
  children_free [] u h = absurd (h refl)
  children_free (v ∷ l) u h = go (eqb (p v) 0) (λ t. eqb→eq (p v) 0 t) h (equal? u v) (children_free l u)
    where
      go : (t : Bool) → (T t → p v ≡ 0) → count u (cond t (v ∷ children_in p 0 l) (children_in p 0 l)) ≢ 0 → (u ≡ v) ⊎ (u ≢ v) → (count u (children_in p 0 l) ≢ 0 → p u ≡ 0) → p u ≡ 0
      go true f h (inl e) ih = ap p e ∙ f tt
      go true f h (inr d) ih = ih (omega (arith, delta_ne u v d))
      go false f h e ih = ih h

module _ (m : ℕ) (P : List ℕ) where
  free_once : (u : ℕ) → count u (free m P) ≤ 1
  free_once u = omega (arith, children_le (parent_of P) (range 1 m) u, range_count m u, down_le 0 m u)

  free_is : (u : ℕ) → count u (free m P) ≢ 0 → (1 ≤ u) × (u ≤ m) × (parent_of P u ≡ 0)
  free_is u h =
      let d : (0 < u) × (u ≤ 0 + m) = down_in 0 m u (omega (arith, children_le (parent_of P) (range 1 m) u, range_count m u)) in
      (d.0, omega (arith, d.1), children_free (parent_of P) (range 1 m) u h)

  free_in : (u : ℕ) → 1 ≤ u → u ≤ m → parent_of P u ≡ 0 → count u (free m P) ≢ 0
  free_in u h l e = children_all (parent_of P) 0 (range 1 m) u (omega (arith, range_count m u, down_once 0 m u h (omega arith))) e

-- ---- of the free vertices

module _ (m : ℕ) (J : Joining) (x y : ℕ) (x_in : (1 ≤ x) × (x ≤ m) × (parent_of J.parents x ≡ 0)) (y_in : (1 ≤ y) × (y ≤ m) × (parent_of J.parents y ≡ 0)) (apart : y ≢ x)
    (x_first : (u : ℕ) → 1 ≤ u → u ≤ m → parent_of J.parents u ≡ 0 → u ≢ x → Lower (weight_of J.totals) x u)
    (y_next : (u : ℕ) → 1 ≤ u → u ≤ m → parent_of J.parents u ≡ 0 → u ≢ x → u ≢ y → Lower (weight_of J.totals) y u) where
  lower_own : (a u : ℕ) → Lower (weight_of J.totals) a u → LowerOwn (key J.totals) a u
  lower_own a u h = record { le = omega (arith, whole, h.0); tie = λ e. h.1 (omega (arith, whole)) }

  l : List ℕ
  l = free m J.parents

  pub first_two : (get_or (waiting m J) 0 0 ≡ x) × (get_or (waiting m J) 1 0 ≡ y)
  unfolding l
  first_two = (
    first_of_lem (key J.totals) l (free_once m J.parents) x inx fx (waiting m J) sorted same,
    second_of (key J.totals) l (free_once m J.parents) x inx fx y apart iny fy (waiting m J) sorted same,
  )
    where
      inx : count x l ≢ 0
      inx = free_in m J.parents x x_in.0 x_in.1 x_in.2

      iny : count y l ≢ 0
      iny = free_in m J.parents y y_in.0 y_in.1 y_in.2

      fx : (u : ℕ) → count u l ≢ 0 → u ≢ x → LowerOwn (key J.totals) x u
      fx u h d = let f = free_is m J.parents u h in lower_own x u (x_first u f.0 f.1 f.2 d)

      fy : (u : ℕ) → count u l ≢ 0 → u ≢ x → u ≢ y → LowerOwn (key J.totals) y u
      fy u h d d' = let f = free_is m J.parents u h in lower_own y u (y_next u f.0 f.1 f.2 d d')

      sorted : Sorted (key J.totals) (waiting m J)
      sorted = lighter_sorted J.totals l (free_once m J.parents)

      same : (u : ℕ) → count u (waiting m J) ≡ count u l
      same u = sort_count (lighter J.totals) l u
