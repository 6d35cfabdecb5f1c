-- A legal tree is a tree on all sinks as Laws/Trees/Growing has it, and back; and the three stores that split an edge. Assumes nothing.
use mathlib.Core.Path.{◌≡◌, refl, sym, ap, ◌∙◌}
use mathlib.Core.Logic.{◌≢◌, ◌⊎◌, inl, inr}
use mathlib.Core.List.{List, [], ◌∷◌}
use Prim.Native.Nat.{ℕ, zero, suc, ◌+◌, ◌-◌, ◌*◌, ◌≤◌, ◌<◌, zero-le}
use native.Mathlib.Nat.{add_comm}
use native.Mathlib.Decide.{dec_le}
use native.Mathlib.Numerals.{add-one}
use native.Mathlib.Omega.{arith}
use lib.ListN.{length, get_or, replicate, length-set}
use lib.Seq.{get_or-set_same, get_or-set_other}
use Rattle.tree.proofs.Laws.Trees.Growing.{PartTree, Split}
use Rattle.tree.proofs.Laws.Trees.Walks.{ancestor_top}
use Rattle.tree.proofs.Laws.Trees.StepsToRoot.{legal_reach}
use Rattle.tree.proofs.Laws.Lists.Sums.{sum, delta_self, delta_ne, equal?, down_in, down_out, down_low, down_once, sum_places, sum_split, sum_cong, regroup_by}
use Rattle.tree.specs.Lists.{sum_over, delta, count, down}
use Rattle.tree.specs.Planning.{put}
use Rattle.tree.specs.Tree.{ancestor, parent_of, Legal}

-- a sum over a range is one over the range's list
pub sum_down : (a n : ℕ) (f : ℕ → ℕ) → sum (1 + a) n f ≡ sum_over (down a n) f
sum_down a zero f = refl
sum_down a (suc n) f =
    let e : 1 + a + n ≡ a + suc n = omega arith in
    let h : sum (1 + a) (suc n) f ≡ sum (1 + a) n f + sum (1 + a + n) 1 f = rw add-one at (sum_split (1 + a) n 1 f) in
    omega (arith, sum_down a n f, ap f e)

-- the parents of the vertices 1 .. are the list
places : (P : List ℕ) (n k : ℕ) (f : ℕ → ℕ) → length P ≡ n + k → sum_over (down 0 n) (λ x. f (parent_of P x)) + sum_over (down n k) (λ x. f (parent_of P x)) ≡ sum_over P f
places P n k f e =
    let g : ℕ → ℕ = λ x. f (parent_of P x) in
    let h : sum 1 (n + k) g ≡ sum_over P f = rw (← e) (sum_places 1 P f g (λ i l. rw (add_comm 1 i, add-one))) in
    omega (arith, sum_split 1 n k g, sum_down 0 n g, sum_down n k g)

-- two bags with the same legal_counts have the same sums
pub bag : (v : ℕ) (l r : List ℕ) (f : ℕ → ℕ) → ((x : ℕ) → count x l ≢ 0 → x < v) → ((x : ℕ) → count x r ≢ 0 → x < v) → ((x : ℕ) → x < v → count x l ≡ count x r) → sum_over l f ≡ sum_over r f
bag v l r f hl hr e = regroup_by l (λ x. x) v f hl ∙ sum_cong 0 v (λ u. sum_over l (λ x. delta u x) * f u) (λ u. sum_over r (λ x. delta u x) * f u) (λ i p q. ap (λ z. z * f i) (e i (omega arith))) ∙ sym (regroup_by r (λ x. x) v f hr)

-- what stands nowhere in a list
pub nowhere : (l : List ℕ) (u : ℕ) → ((i : ℕ) → i < length l → get_or l i 0 ≢ u) → count u l ≡ 0
nowhere [] u h = refl
nowhere (x ∷ l) u h = omega (arith, delta_ne u x (λ e. h 0 (omega arith) (sym e)), nowhere l u (λ i p. h (suc i) (omega arith)))

pub somewhere : (l : List ℕ) (i : ℕ) → i < length l → count (get_or l i 0) l ≢ 0
somewhere [] i h = absurd (omega arith)
somewhere (x ∷ l) zero h = omega (arith, delta_self x)
somewhere (x ∷ l) (suc i) h = omega (arith, somewhere l i (omega arith))

-- where nothing has a parent yet, everything hangs on the root
pub hangs : (m v : ℕ) → parent_of (replicate m 0) v ≡ 0
hangs m zero = refl
hangs zero (suc v) = refl
hangs (suc m) (suc zero) = refl
hangs (suc m) (suc (suc v)) = hangs m (suc v)

-- the children of each vertex of a legal tree, as a growing tree counts them
legal_counts : (n : ℕ) (P : List ℕ) → Legal n P → (u : ℕ) → count u P ≡ delta u 0 + 2 * count u (down n (n - 1))
legal_counts n P L zero = omega (arith, L.root, down_low n (n - 1) 0 zero-le)
legal_counts n P L (suc v) = go (dec_le (suc v) n) (dec_le (suc v) (n + (n - 1)))
  where
    go : Dec (suc v ≤ n) → Dec (suc v ≤ n + (n - 1)) → count (suc v) P ≡ 0 + 2 * count (suc v) (down n (n - 1))
    go (yes a) d = omega (arith, L.sink (suc v) (omega arith) a, down_low n (n - 1) (suc v) a)
    go (no a) (yes b) = omega (arith, L.branch (suc v) (omega arith) (omega arith), down_once n (n - 1) (suc v) (omega arith) b)
    go (no a) (no b) = omega (arith, nowhere P (suc v) (λ i p. omega (arith, L.inside i p, L.size)), down_out n (n - 1) (suc v) (omega arith))

pub down_le : (a n u : ℕ) → count u (down a n) ≤ 1
down_le a n u = go (equal? (count u (down a n)) 0)
  where
    go : (count u (down a n) ≡ 0) ⊎ (count u (down a n) ≢ 0) → count u (down a n) ≤ 1
    go (inl e) = omega arith
    go (inr d) = omega (arith, down_once a n u (down_in a n u d).0 (down_in a n u d).1)

pub legal_tree : (n : ℕ) (P : List ℕ) → Legal n P → PartTree n (down 0 n) (n - 1) (2 * n - 1) (parent_of P)
legal_tree n P L = record { top = refl; once = down_le 0 n; low = low; children_are = children_are; reach = reach }
  where
    low : (s : ℕ) → count s (down 0 n) ≢ 0 → (1 ≤ s) × (s ≤ n)
    low s h = omega (arith, down_in 0 n s h)

    children_are : (u : ℕ) → sum_over (down 0 n) (λ x. delta u (parent_of P x)) + sum_over (down n (n - 1)) (λ x. delta u (parent_of P x)) ≡ delta u 0 + 2 * count u (down n (n - 1))
    children_are u = places P n (n - 1) (delta u) (omega (arith, L.size)) ∙ legal_counts n P L u

    reach : (v : ℕ) → count v (down 0 n) + count v (down n (n - 1)) ≢ 0 → ancestor (parent_of P) (2 * n - 1) v ≡ 0
    reach v h = go (dec_le v (2 * n - 1))
      where
        go : Dec (v ≤ 2 * n - 1) → ancestor (parent_of P) (2 * n - 1) v ≡ 0
        go (yes a) = legal_reach n P L v (omega (arith, L.size))
        go (no a) = absurd (omega (arith, down_out 0 n v (omega arith), down_out n (n - 1) v (omega arith)))

-- a tree that has grown to all the sinks is legal
module _ (n : ℕ) (P S : List ℕ) (size : suc (length P) ≡ 2 * n) (all : (s : ℕ) → 1 ≤ s → s ≤ n → count s S ≡ 1) (t : PartTree n S (n - 1) (2 * n - 1) (parent_of P)) where
  all_low : (x : ℕ) → x < suc n → count x (down 0 n) ≡ count x S
  all_low zero p = go (equal? (count 0 S) 0)
    where
      go : (count 0 S ≡ 0) ⊎ (count 0 S ≢ 0) → count 0 (down 0 n) ≡ count 0 S
      go (inl e) = omega (arith, down_low 0 n 0 zero-le)
      go (inr d) = absurd (omega (arith, t.low 0 d))
  all_low (suc v) p = omega (arith, all (suc v) (omega arith) (omega arith), down_once 0 n (suc v) (omega arith) (omega arith))

  pub sinks_sum : (f : ℕ → ℕ) → sum_over (down 0 n) f ≡ sum_over S f
  sinks_sum f = bag (suc n) (down 0 n) S f (λ x h. omega (arith, down_in 0 n x h)) (λ x h. omega (arith, t.low x h)) all_low

  part_counts : (u : ℕ) → count u P ≡ delta u 0 + 2 * count u (down n (n - 1))
  part_counts u = omega (arith, places P n (n - 1) (delta u) (omega arith), sinks_sum (λ x. delta u (parent_of P x)), t.children_are u)

  inside : (i : ℕ) → i < length P → (get_or P i 0 ≡ 0) ⊎ (get_or P i 0 ≢ 0) → get_or P i 0 < 2 * n
  inside i p (inl e) = omega arith
  inside i p (inr d) =
      let x : ℕ = get_or P i 0 in
      omega (arith, down_in n (n - 1) x (omega (arith, somewhere P i p, part_counts x, delta_ne x 0 d)))

  reach : (v : ℕ) → v < 2 * n → Dec (v ≤ n) → ancestor (parent_of P) (2 * n - 1) v ≡ 0
  reach zero h d = ancestor_top (parent_of P) (2 * n - 1) refl
  reach (suc v) h (yes a) = t.reach (suc v) (omega (arith, all (suc v) (omega arith) a))
  reach (suc v) h (no a) = t.reach (suc v) (omega (arith, down_once n (n - 1) (suc v) (omega arith) (omega arith)))

  pub tree_legal : Legal n P
  tree_legal = record {
    size = size;
    inside = λ i p. inside i p (equal? (get_or P i 0) 0);
    root = omega (arith, part_counts 0, down_low n (n - 1) 0 zero-le);
    sink = λ s p q. omega (arith, part_counts s, delta_ne s 0 (omega arith), down_low n (n - 1) s q);
    branch = λ b p q. omega (arith, part_counts b, delta_ne b 0 (omega arith), down_once n (n - 1) b p (omega arith));
    reach = λ v h. (2 * n - 1, reach v h (dec_le v n));
  }

pub put_same : (P : List ℕ) (v a : ℕ) → 1 ≤ v → v ≤ length P → parent_of (put P v a) v ≡ a
put_same P zero a h l = omega arith
put_same P (suc v) a h l = let e : suc v - 1 ≡ v = omega arith in rw e (get_or-set_same P v a 0 l)

pub put_other : (P : List ℕ) (v a y : ℕ) → 1 ≤ v → y ≢ v → parent_of (put P v a) y ≡ parent_of P y
put_other P v a zero h d = refl
put_other P v a (suc y) h d = get_or-set_other P (v - 1) y a 0 (omega arith)

-- the three stores that split the edge to x
pub stores : (P : List ℕ) (N k s x : ℕ) → 1 ≤ s → 1 ≤ x → s ≢ x → s ≢ N + suc k → x ≢ N + suc k → s ≤ length P → x ≤ length P → N + suc k ≤ length P
    → Split N k s x (parent_of P) (parent_of (put (put (put P (N + suc k) (parent_of P x)) x (N + suc k)) s (N + suc k)))
stores P N k s x s1 x1 sx sb xb sl xl bl = record {
  low = put_other P₂ s b x s1 (omega arith) ∙ put_same P₁ x b x1 (rw length-set xl);
  new = put_same P₂ s b s1 (rw (length-set, length-set) sl);
  mid = put_other P₂ s b b s1 (omega arith) ∙ put_other P₁ x b b x1 (omega arith) ∙ put_same P b (parent_of P x) (omega arith) bl;
  old = λ y dx ds db. put_other P₂ s b y s1 ds ∙ put_other P₁ x b y x1 dx ∙ put_other P b (parent_of P x) y (omega arith) db;
}
  where
    b : ℕ
    b = N + suc k

    P₁ : List ℕ
    P₁ = put P b (parent_of P x)

    P₂ : List ℕ
    P₂ = put P₁ x b
