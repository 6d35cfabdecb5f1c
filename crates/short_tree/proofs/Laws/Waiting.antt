-- The sinks that wait, and where the vertices stand after an insertion. Assumes nothing.
use Prim.Native.Nat.{ℕ, zero, suc, ◌+◌, ◌*◌, ◌≤◌, ◌<◌}
use mathlib.Core.Path.{◌≡◌, refl, sym, ap, ◌∙◌}
use mathlib.Core.Bool.{Bool, true, false, cond}
use mathlib.Core.Logic.{◌≢◌, ◌⊎◌, inl, inr}
use mathlib.Core.List.{List, [], ◌∷◌, ◌++◌, map}
use native.Mathlib.Nat.{mul-one}
use native.Mathlib.Omega.{arith}
use borrow.Author.Tests.{eqb-true, eqb-false}
use lib.Dec.{eqb}
use lib.ListN.{length, get_or, length-map}
use Rattle.quantities.specs.declared.point.Point.{Point}
use Rattle.tree.specs.Lists.{sum_over, count, delta, down, range}
use Rattle.tree.specs.Net.{Net, size, sink_at}
use Rattle.tree.specs.Tree.{Tree, place}
use Rattle.tree.proofs.Laws.Lists.Sums.{sum, equal?, delta_ne, delta_self, regroup_by, down_in, down_once, sum_cong}
use Rattle.tree.proofs.Laws.Lists.Tables.{range_length}
use Rattle.tree.proofs.Laws.Trees.LegalTrees.{sum_down}
use Rattle.tree.proofs.Laws.Planning.BeforeSettling.{sum_over_range}
use Rattle.short_tree.specs.ShortTree.{outside}

-- ---- what is outside S

module _ (S : List ℕ) where
  pub outside_free : (l : List ℕ) (s : ℕ) → count s S ≡ 0 → count s (outside S l) ≡ count s l
  outside_free [] s h = refl
  outside_free (x ∷ l) s h = go (eqb (count x S) 0) refl (outside_free l s h) (equal? s x)
    where
      go : (t : Bool) → eqb (count x S) 0 ≡ t → count s (outside S l) ≡ count s l → (s ≡ x) ⊎ (s ≢ x) → count s (cond t (x ∷ outside S l) (outside S l)) ≡ delta s x + count s l
      go true e ih d = omega arith
      go false e ih (inl q) = absurd (eqb-false (count x S) 0 e (ap (λ z. count z S) (sym q) ∙ h))
      go false e ih (inr d) = omega (arith, delta_ne s x d)

  pub outside_in : (l : List ℕ) (s : ℕ) → count s (outside S l) ≢ 0 → (count s S ≡ 0) × (count s l ≢ 0)
  outside_in [] s m = absurd (m refl)
  outside_in (x ∷ l) s m = go (eqb (count x S) 0) refl m (outside_in l s) (equal? s x)
    where
      go : (t : Bool) → eqb (count x S) 0 ≡ t → count s (cond t (x ∷ outside S l) (outside S l)) ≢ 0 → (count s (outside S l) ≢ 0 → (count s S ≡ 0) × (count s l ≢ 0)) → (s ≡ x) ⊎ (s ≢ x)
          → (count s S ≡ 0) × (delta s x + count s l ≢ 0)
      go true e m ih (inl q) = (ap (λ z. count z S) q ∙ eqb-true (count x S) 0 e, omega (arith, ap (λ z. delta z x) q, delta_self x))
      go true e m ih (inr d) = let r : (count s S ≡ 0) × (count s l ≢ 0) = ih (omega (arith, delta_ne s x d)) in (r.0, omega (arith, r.1))
      go false e m ih d = let r : (count s S ≡ 0) × (count s l ≢ 0) = ih m in (r.0, omega (arith, r.1))

  -- where S is shorter than l, one of l is outside
  absent : (l : List ℕ) → sum_over l (λ s. count s S) < length l → (s : ℕ) × (count s l ≢ 0) × (count s S ≡ 0)
  absent [] h = absurd (omega arith)
  absent (x ∷ l) h = go (absent l) (equal? (count x S) 0)
    where
      go : (sum_over l (λ s. count s S) < length l → (s : ℕ) × (count s l ≢ 0) × (count s S ≡ 0)) → (count x S ≡ 0) ⊎ (count x S ≢ 0) → (s : ℕ) × (delta s x + count s l ≢ 0) × (count s S ≡ 0)
      go ih (inl e) = (x, omega (arith, delta_self x), e)
      go ih (inr d) = let r : (s : ℕ) × (count s l ≢ 0) × (count s S ≡ 0) = ih (omega arith) in (r.0, omega (arith, r.1), r.2)

pub ones : (l : List ℕ) → sum_over l (λ x. 1) ≡ length l
ones [] = refl
ones (x ∷ l) = omega (arith, ones l)

-- the sinks 1 to n, as two lists
pub sinks_count : (n s : ℕ) → count s (range 1 n) ≡ count s (down 0 n)
sinks_count n s = sum_over_range 1 n (delta s) ∙ sum_down 0 n (delta s)

pub sink_once : (n s : ℕ) → 1 ≤ s → s ≤ n → count s (range 1 n) ≡ 1
sink_once n s h l = sinks_count n s ∙ down_once 0 n s h (omega arith)

pub sink_range : (n s : ℕ) → count s (range 1 n) ≢ 0 → (1 ≤ s) × (s ≤ n)
sink_range n s m = let d : (0 < s) × (s ≤ 0 + n) = down_in 0 n s (omega (arith, sinks_count n s)) in omega arith

-- fewer than n sinks: one waits
pub some_waits : (n : ℕ) (S : List ℕ) → ((s : ℕ) → count s S ≢ 0 → (1 ≤ s) × (s ≤ n)) → length S < n → (s : ℕ) × (count s (outside S (range 1 n)) ≢ 0)
some_waits n S low h =
    let a : sum_over S (λ x. 1) ≡ sum 0 (suc n) (λ u. sum_over S (λ x. delta u x) * 1) = regroup_by S (λ x. x) (suc n) (λ x. 1) (λ x m. omega (arith, low x m)) in
    let b : sum 1 n (λ u. sum_over S (λ x. delta u x) * 1) ≡ sum 1 n (λ u. count u S) = sum_cong 1 n (λ u. count u S * 1) (λ u. count u S) (λ i p q. mul-one (count i S)) in
    let r : (s : ℕ) × (count s (range 1 n) ≢ 0) × (count s S ≡ 0) = absent S (range 1 n) (omega (arith, ones S, sum_over_range 1 n (λ s. count s S), range_length 1 n)) in
    (r.0, omega (arith, outside_free S (range 1 n) r.0 r.2, r.1))

-- ---- where the vertices stand

module _ {A : Type 0} (d : A) where
  last_old : (l : List A) (a : A) (j : ℕ) → j ≢ length l → get_or (l ++ (a ∷ [])) j d ≡ get_or l j d
  last_old [] a zero h = absurd (h refl)
  last_old [] a (suc j) h = refl
  last_old (x ∷ l) a zero h = refl
  last_old (x ∷ l) a (suc j) h = last_old l a j (λ e. h (ap suc e))

  last_new : (l : List A) (a : A) → get_or (l ++ (a ∷ [])) (length l) d ≡ a
  last_new [] a = refl
  last_new (x ∷ l) a = last_new l a

  behind_old : (r l : List A) (a : A) (j : ℕ) → j ≢ length r + length l → get_or (r ++ (l ++ (a ∷ []))) j d ≡ get_or (r ++ l) j d
  behind_old [] l a j h = last_old l a j (λ e. h (omega arith))
  behind_old (x ∷ r) l a zero h = refl
  behind_old (x ∷ r) l a (suc j) h = behind_old r l a j (λ e. h (omega arith))

  behind_new : (r l : List A) (a : A) (j : ℕ) → j ≡ length r + length l → get_or (r ++ (l ++ (a ∷ []))) j d ≡ a
  behind_new [] l a j e = ap (λ i. get_or (l ++ (a ∷ [])) i d) (omega arith) ∙ last_new l a
  behind_new (x ∷ r) l a zero e = absurd (omega arith)
  behind_new (x ∷ r) l a (suc j) e = behind_new r l a j (omega arith)

  before_it : (r l : List A) (j : ℕ) → j < length r → get_or (r ++ l) j d ≡ get_or r j d
  before_it [] l j h = absurd (omega arith)
  before_it (x ∷ r) l zero h = refl
  before_it (x ∷ r) l (suc j) h = before_it r l j (omega arith)

module _ (N : Net) where
  sinks_long : length (map (λ s. s.point) N.sinks) ≡ size N
  sinks_long = length-map N.sinks (λ s. s.point)

  -- the root and the sinks stand where the net puts them
  pub place_terminal : (T : Tree) (v : ℕ) → v ≤ size N → place N T v ≡ sink_at N v
  place_terminal T v h = before_it N.root (N.root ∷ map (λ s. s.point) N.sinks) T.points v (omega (arith, sinks_long))

  -- with one point more
  module _ (P Q : List ℕ) (points : List Point) (p : Point) (k : ℕ) (made : length points ≡ k) where
    pub place_old : (v : ℕ) → v ≢ size N + suc k → place N (record { parents = Q; points = points ++ (p ∷ []) }) v ≡ place N (record { parents = P; points = points }) v
    place_old v h = behind_old N.root (N.root ∷ map (λ s. s.point) N.sinks) points p v (λ e. h (omega (arith, sinks_long)))

    pub place_new : place N (record { parents = Q; points = points ++ (p ∷ []) }) (size N + suc k) ≡ p
    place_new = behind_new N.root (N.root ∷ map (λ s. s.point) N.sinks) points p (size N + suc k) (omega (arith, sinks_long))
