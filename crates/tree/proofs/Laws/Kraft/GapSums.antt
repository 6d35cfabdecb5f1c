-- Kraft's condition over gaps (own slack - σ, natural numbers): a tree whose slacks are all at least σ has it, and where it holds with one sink more some old sink has room. Assumes nothing.
use mathlib.Core.Path.{◌≡◌, refl, sym, ◌∙◌}
use mathlib.Core.Logic.{◌≢◌, ◌⊎◌, inl, inr}
use mathlib.Core.List.{List, [], ◌∷◌}
use Prim.Native.Nat.{ℕ, suc, ◌+◌, ◌-◌, ◌*◌, ◌/◌, ◌^◌, ◌≤◌, ◌<◌}
use native.Mathlib.Nat.{mul_comm, add_comm, le_trans, le_of_eq, le-div_iff_mul-le, le_of_mul-le-mul_left, mul-le-mul_left, eq_of_mul-eq-mul_left}
use native.Mathlib.Decide.{dec_le}
use native.Mathlib.Omega.{arith}
use lib.Pow.{pow-add, pow_pos, pow_mono}
use Rattle.tree.proofs.Laws.Trees.Growing.{PartTree, Split, kraft_tree, depth_new, depth_low, depth_other}
use Rattle.tree.proofs.Laws.Lists.Sums.{delta_self, delta_ne, equal?, sum_over_cong, sum_over_mono, sum_over_scale}
use Rattle.tree.proofs.Laws.Trees.Walks.{hops, hops_le}
use Rattle.tree.specs.Lists.{sum_over, delta, count, down}

-- the sum of 2 ^ - d, times 2 ^ m
abbrev pub power_sum : List ℕ → ℕ → (ℕ → ℕ) → ℕ
power_sum S m d = sum_over S (λ s. 2 ^ (m - d s))

abbrev pub AtMost : List ℕ → ℕ → (ℕ → ℕ) → Type 0
AtMost S m d = (s : ℕ) → count s S ≢ 0 → d s ≤ m

power_sum_up : (S : List ℕ) (m k : ℕ) (d : ℕ → ℕ) → AtMost S m d → power_sum S (m + k) d ≡ 2 ^ k * power_sum S m d
power_sum_up S m k d h = sum_over_cong S (λ i. 2 ^ (m + k - d i)) (λ i. 2 ^ k * 2 ^ (m - d i)) (λ i p. one i (h i p)) ∙ sum_over_scale S (2 ^ k) (λ i. 2 ^ (m - d i))
  where
    one : (i : ℕ) → d i ≤ m → 2 ^ (m + k - d i) ≡ 2 ^ k * 2 ^ (m - d i)
    one i le = let e : m + k - d i ≡ k + (m - d i) = omega arith in rw e (pow-add 2 k (m - d i))

power_sum_two : (S : List ℕ) (m k : ℕ) (d : ℕ → ℕ) → AtMost S m d → AtMost S k d → 2 ^ k * power_sum S m d ≡ 2 ^ m * power_sum S k d
power_sum_two S m k d h j = sym (power_sum_up S m k d h) ∙ (rw (add_comm m k) (power_sum_up S k m d j))

power_sum_eq : (S : List ℕ) (m k : ℕ) (d : ℕ → ℕ) → AtMost S m d → AtMost S k d → power_sum S k d ≡ 2 ^ k → power_sum S m d ≡ 2 ^ m
power_sum_eq S m k d h j e = eq_of_mul-eq-mul_left (2 ^ k) (pow_pos k) _ _ (power_sum_two S m k d h j ∙ (rw e (mul_comm (2 ^ m) (2 ^ k))))

pub power_sum_le : (S : List ℕ) (m k : ℕ) (d : ℕ → ℕ) → AtMost S m d → AtMost S k d → power_sum S k d ≤ 2 ^ k → power_sum S m d ≤ 2 ^ m
power_sum_le S m k d h j e = le_of_mul-le-mul_left {k = 2 ^ k} (rw (power_sum_two S m k d h j, mul_comm (2 ^ k) (2 ^ m)) (mul-le-mul_left (2 ^ m) e)) (pow_pos k)

-- more depth, less power_sum
power_sum_mono : (S : List ℕ) (m : ℕ) (d e : ℕ → ℕ) → ((s : ℕ) → count s S ≢ 0 → d s ≤ e s) → power_sum S m e ≤ power_sum S m d
power_sum_mono S m d e h = sum_over_mono S (λ s. 2 ^ (m - e s)) (λ s. 2 ^ (m - d s)) (λ s p. pow_mono (less s (h s p)))
  where
    less : (s : ℕ) → d s ≤ e s → m - e s ≤ m - d s
    less s l = omega arith

-- Kraft's condition: the gaps, in branch points of cost c
pub record KraftGaps (c : ℕ) (S : List ℕ) (gap : ℕ → ℕ) : Type 0 where
  pub m : ℕ
  pub at_most : AtMost S m (λ s. gap s / c)
  pub sum-le : power_sum S m (λ s. gap s / c) ≤ 2 ^ m

-- e is at most d on all of a list, or above it at one place
roomy : (d e : ℕ → ℕ) (l : List ℕ) → ((s : ℕ) → count s l ≢ 0 → e s ≤ d s) ⊎ ((x : ℕ) × (count x l ≢ 0) × (suc (d x) ≤ e x))
roomy d e [] = inl (λ s q. absurd (q refl))
roomy d e (y ∷ l) = go (roomy d e l) (dec_le (suc (d y)) (e y))
  where
    both : ((s : ℕ) → count s l ≢ 0 → e s ≤ d s) → ¬ (suc (d y) ≤ e y) → (s : ℕ) → delta s y + count s l ≢ 0 → (s ≡ y) ⊎ (s ≢ y) → e s ≤ d s
    both h f s q (inl g) = rw g (omega arith)
    both h f s q (inr g) = h s (omega (arith, delta_ne s y g))

    go : ((s : ℕ) → count s l ≢ 0 → e s ≤ d s) ⊎ ((x : ℕ) × (count x l ≢ 0) × (suc (d x) ≤ e x)) → Dec (suc (d y) ≤ e y)
        → ((s : ℕ) → delta s y + count s l ≢ 0 → e s ≤ d s) ⊎ ((x : ℕ) × (delta x y + count x l ≢ 0) × (suc (d x) ≤ e x))
    go (inr r) z = inr (r.0, omega (arith, r.1), r.2)
    go (inl h) (yes f) = inr (y, omega (arith, delta_self y), f)
    go (inl h) (no f) = inl (λ s q. both h f s q (equal? s y))

-- depths whose sum is exactly 1, whatever they are the depths of
module _ (S : List ℕ) (d : ℕ → ℕ) (F : ℕ) (deep : AtMost S F d) (exact : power_sum S F d ≡ 2 ^ F) where
  exact_at : (m : ℕ) → AtMost S m d → power_sum S m d ≡ 2 ^ m
  exact_at m h = power_sum_eq S m F d h deep exact

  -- each gap has room for the branch points above the sink
  pub exact_rival : (c : ℕ) (gap : ℕ → ℕ) → 0 < c → ((s : ℕ) → count s S ≢ 0 → d s * c ≤ gap s)
      → (m : ℕ) → AtMost S m (λ s. gap s / c) → power_sum S m (λ s. gap s / c) ≤ 2 ^ m
  exact_rival c gap c1 h m u =
      let le : (s : ℕ) → count s S ≢ 0 → d s ≤ gap s / c = λ s q. (le-div_iff_mul-le c1).1 (h s q) in
      le_trans (power_sum_mono S m d (λ s. gap s / c) le) (le_of_eq (exact_at m (λ s q. le_trans (le s q) (u s q))))

  -- the attained step: some old sink has room for one more branch point
  pub exact_room : (c : ℕ) (gap : ℕ → ℕ) (s : ℕ) → 0 < c → KraftGaps c (s ∷ S) gap → (x : ℕ) × (count x S ≢ 0) × (suc (d x) * c ≤ gap x)
  exact_room c gap s c1 κ = go (roomy d (λ y. gap y / c) S)
    where
      go : ((y : ℕ) → count y S ≢ 0 → gap y / c ≤ d y) ⊎ ((x : ℕ) × (count x S ≢ 0) × (suc (d x) ≤ gap x / c)) → (x : ℕ) × (count x S ≢ 0) × (suc (d x) * c ≤ gap x)
      go (inl h) =
          let e : ℕ → ℕ = λ y. gap y / c in
          let M : ℕ = κ.m + F in
          let a : power_sum (s ∷ S) M e ≤ 2 ^ M = power_sum_le (s ∷ S) M κ.m e (λ y q. omega (arith, κ.at_most y q)) κ.at_most κ.sum-le in
          let b : power_sum S M d ≤ power_sum S M e = power_sum_mono S M e d h in
          let f : power_sum S M d ≡ 2 ^ M = exact_at M (λ y q. omega (arith, deep y q)) in
          absurd (omega (arith, pow_pos (M - e s)))
      go (inr r) = (r.0, r.1, (le-div_iff_mul-le c1).0 r.2)

-- the depth of a vertex of a tree
abbrev pub depth_in : ℕ → (ℕ → ℕ) → ℕ → ℕ
depth_in F p v = hops p F (p v)

module _ {N : ℕ} {S : List ℕ} {k F : ℕ} {p : ℕ → ℕ} (t : PartTree N S k F p) where
  deep : AtMost S F (depth_in F p)
  deep s q = hops_le p F (p s)

  pub kraft_at : (m : ℕ) → AtMost S m (depth_in F p) → power_sum S m (depth_in F p) ≡ 2 ^ m
  kraft_at = exact_at S (depth_in F p) F deep (kraft_tree t)

  -- the rival bound: a tree whose slacks are all at least σ
  pub rival : (c : ℕ) (gap : ℕ → ℕ) → 0 < c → ((s : ℕ) → count s S ≢ 0 → depth_in F p s * c ≤ gap s)
      → (m : ℕ) → AtMost S m (λ s. gap s / c) → power_sum S m (λ s. gap s / c) ≤ 2 ^ m
  rival = exact_rival S (depth_in F p) F deep (kraft_tree t)

  pub room : (c : ℕ) (gap : ℕ → ℕ) (s : ℕ) → 0 < c → KraftGaps c (s ∷ S) gap → (x : ℕ) × (count x S ≢ 0) × (suc (depth_in F p x) * c ≤ gap x)
  room = exact_room S (depth_in F p) F deep (kraft_tree t)

-- Where each old sink has room for its branch points, and x for one more, and the new sink's own slack is no less than that of x,
-- the tree with the edge to x split has room for all of its sinks
module _ {N : ℕ} {S : List ℕ} {k F : ℕ} {p p' : ℕ → ℕ} {s x : ℕ} (t : PartTree N S k F p) (c : Split N k s x p p')
    (sx : count x S ≢ 0) (s1 : 1 ≤ s) (sN : s ≤ N) (fresh : count s S ≡ 0) where
  pub split_room : (q : ℕ) (gap : ℕ → ℕ) → ((y : ℕ) → count y S ≢ 0 → depth_in F p y * q ≤ gap y) → suc (depth_in F p x) * q ≤ gap x → gap x ≤ gap s
      → (y : ℕ) → count y (s ∷ S) ≢ 0 → depth_in (suc (suc F)) p' y * q ≤ gap y
  split_room q gap old rx le y m = go (equal? y s) (equal? y x)
    where
      hx : count x S + count x (down N k) ≢ 0
      hx = omega arith

      go : (y ≡ s) ⊎ (y ≢ s) → (y ≡ x) ⊎ (y ≢ x) → depth_in (suc (suc F)) p' y * q ≤ gap y
      go (inl e) d = rw (e, depth_new t c hx s1 sN fresh sx) (le_trans rx le)
      go (inr d) (inl e) = rw (e, depth_low t c hx s1 sN fresh sx) rx
      go (inr d) (inr d') = let h : count y S ≢ 0 = omega (arith, delta_ne y s d) in rw (depth_other t c hx s1 sN fresh sx y h d') (old y h)
