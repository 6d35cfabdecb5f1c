-- The forest while vertices are joined, two of least total weight at a time: what holds of it, and that a join keeps it. The sinks are 1 .. N, the joined
-- vertices N + 1 .. N + k; what has no parent yet has the parent 0. The choice among equal weights does not matter. Assumes nothing.
use mathlib.Core.Path.{◌≡◌, refl, sym, ap, ap₂, ◌∙◌, subst}
use mathlib.Core.Logic.{◌≢◌, ◌⊎◌, inl, inr}
use mathlib.Core.List.{List, [], ◌∷◌}
use Prim.Native.Nat.{ℕ, zero, suc, ◌+◌, ◌-◌, ◌*◌, ◌^◌, ◌≤◌, zero-le}
use native.Mathlib.Nat.{zero-mul, mul-zero, le_refl, le_of_eq}
use native.Mathlib.Decide.{dec_le}
use native.Mathlib.Omega.{arith}
use lib.ListN.{length}
use Rattle.tree.specs.Lists.{sum_over, delta, count, down}
use Rattle.tree.specs.Tree.{ancestor}
use Rattle.tree.proofs.Laws.Lists.Sums.{delta_self, delta_ne, delta_eq, equal?, ones_length, sum_over_cong, down_length, down_in, down_low, down_once, down_out}
use Rattle.tree.proofs.Laws.Trees.Walks.{ancestor_top}
use Rattle.tree.proofs.Laws.Kraft.GapSums.{power_sum, AtMost}
use Rattle.weighted_tree.proofs.Laws.Exchange.{cost, Under, merge}

-- a list without one x
abbrev keep : ℕ → ℕ → List ℕ → List ℕ → List ℕ
keep zero y l r = y ∷ r
keep (suc k) y l r = l

abbrev without : ℕ → List ℕ → List ℕ
without x [] = []
without x (y ∷ l) = keep (delta x y) y l (without x l)

without_sum : (x : ℕ) (l : List ℕ) (f : ℕ → ℕ) → count x l ≢ 0 → sum_over l f ≡ f x + sum_over (without x l) f
without_sum x [] f h = absurd (h refl)
without_sum x (y ∷ l) f h = go (without_sum x l f) (equal? x y)
  where
    go : (count x l ≢ 0 → sum_over l f ≡ f x + sum_over (without x l) f) → (x ≡ y) ⊎ (x ≢ y) → f y + sum_over l f ≡ f x + sum_over (keep (delta x y) y l (without x l)) f
    go ih (inl e) = rw (← e) (rw (delta_self x) refl)
    go ih (inr d) = rw (delta_ne x y d) (omega (arith, ih (omega (arith, delta_ne x y d))))

sum_const : (l : List ℕ) (c : ℕ) → sum_over l (λ x. c) ≡ c * length l
sum_const [] c = sym (mul-zero c)
sum_const (x ∷ l) c = omega (arith, sum_const l c)

sum_two : (l : List ℕ) (f g : ℕ → ℕ) (x y : ℕ) → x ≢ y → ((z : ℕ) → count z l ≢ 0 → z ≢ x → z ≢ y → g z ≡ f z)
    → sum_over l g + count x l * f x + count y l * f y ≡ sum_over l f + count x l * g x + count y l * g y
sum_two [] f g x y n h = omega arith
sum_two (z ∷ l) f g x y n h = go (sum_two l f g x y n (λ v q. h v (omega arith))) (equal? x z) (equal? y z)
  where
    go : sum_over l g + count x l * f x + count y l * f y ≡ sum_over l f + count x l * g x + count y l * g y → (x ≡ z) ⊎ (x ≢ z) → (y ≡ z) ⊎ (y ≢ z)
        → g z + sum_over l g + (delta x z + count x l) * f x + (delta y z + count y l) * f y ≡ f z + sum_over l f + (delta x z + count x l) * g x + (delta y z + count y l) * g y
    go ih (inl e) (inl d) = absurd (n (e ∙ sym d))
    go ih (inl e) (inr d) = rw (delta_ne y z d) (rw (← e) (rw (delta_self x) (omega arith)))
    go ih (inr d) (inl e) = rw (delta_ne x z d) (rw (← e) (rw (delta_self y) (omega arith)))
    go ih (inr d) (inr e) = rw (delta_ne x z d, delta_ne y z e) (omega (arith, h z (omega (arith, delta_self z)) (λ q. d (sym q)) (λ q. e (sym q))))

-- the sum over all the vertices but the root
abbrev pub all : ℕ → ℕ → (ℕ → ℕ) → ℕ
all N k f = sum_over (down 0 N) f + sum_over (down N k) f

vertex : (N k v : ℕ) → 1 ≤ v → v ≤ N + k → count v (down 0 N) + count v (down N k) ≡ 1
vertex N k v h g = go (dec_le v N)
  where
    go : Dec (v ≤ N) → count v (down 0 N) + count v (down N k) ≡ 1
    go (yes l) = omega (arith, down_once 0 N v h (omega arith), down_low N k v l)
    go (no l) = omega (arith, down_out 0 N v (omega arith), down_once N k v (omega arith) g)

all_two : (N k : ℕ) (f g : ℕ → ℕ) (x y : ℕ) → x ≢ y → 1 ≤ x → x ≤ N + k → 1 ≤ y → y ≤ N + k
    → ((z : ℕ) → 1 ≤ z → z ≤ N + k → z ≢ x → z ≢ y → g z ≡ f z) → all N k g + f x + f y ≡ all N k f + g x + g y
all_two N k f g x y n x1 xN y1 yN h =
    omega (
      arith,
      sum_two (down 0 N) f g x y n (λ z q. h z (omega (arith, down_in 0 N z q)) (omega (arith, down_in 0 N z q))),
      sum_two (down N k) f g x y n (λ z q. h z (omega (arith, down_in N k z q)) (omega (arith, down_in N k z q))),
      ap (λ z. z * f x) (vertex N k x x1 xN),
      ap (λ z. z * g x) (vertex N k x x1 xN),
      ap (λ z. z * f y) (vertex N k y y1 yN),
      ap (λ z. z * g y) (vertex N k y y1 yN),
    )

-- A: the vertices that have no parent yet; w: the weight of all the sinks below. What the branch points weigh so far is within what any depths
-- that keep Kraft's inequality cost, by as much as some such depths of A cost
pub record Forest (N k : ℕ) (A : List ℕ) (w p : ℕ → ℕ) : Type 0 where
  pub top : p 0 ≡ 0
  pub size : length A + k ≡ N
  pub range : (v : ℕ) → count v A ≢ 0 → (1 ≤ v) × (v ≤ N + k)
  pub alive : (v : ℕ) → 1 ≤ v → v ≤ N + k → count v A ≡ delta 0 (p v)
  pub inside : (v : ℕ) → v ≤ N + k → p v ≤ N + k
  pub children_are : (u : ℕ) → all N k (λ x. delta u (p x)) ≡ delta u 0 * length A + 2 * count u (down N k)
  pub load : (u : ℕ) → u ≢ 0 → all N k (λ x. delta u (p x) * w x) ≡ count u (down N k) * w u
  pub reach : (v : ℕ) → v ≤ N + k → ancestor p (suc k) v ≡ 0
  pub total : sum_over A w ≡ sum_over (down 0 N) w
  pub lower : (m : ℕ) (d : ℕ → ℕ) → AtMost (down 0 N) m d → power_sum (down 0 N) m d ≤ 2 ^ m → Under A w (sum_over (down N k) w) (cost (down 0 N) w d)

-- x and y have no parent, and no other such vertex weighs less
pub record Pick (N k : ℕ) (w p : ℕ → ℕ) (x y : ℕ) : Type 0 where
  pub apart : x ≢ y
  pub x_in : (1 ≤ x) × (x ≤ N + k)
  pub y_in : (1 ≤ y) × (y ≤ N + k)
  pub x_free : p x ≡ 0
  pub y_free : p y ≡ 0
  pub order : w x ≤ w y
  pub least : (z : ℕ) → 1 ≤ z → z ≤ N + k → p z ≡ 0 → z ≢ x → z ≢ y → w y ≤ w z

-- they are joined under the branch point N + k + 1
pub record JoinStep (N k x y : ℕ) (w p w' p' : ℕ → ℕ) : Type 0 where
  pub weight : w' (N + suc k) ≡ w x + w y
  pub weight_old : (z : ℕ) → z ≢ N + suc k → w' z ≡ w z
  pub px : p' x ≡ N + suc k
  pub py : p' y ≡ N + suc k
  pub pb : p' (N + suc k) ≡ 0
  pub old : (z : ℕ) → z ≢ x → z ≢ y → z ≢ N + suc k → p' z ≡ p z

-- no branch points yet
pub forest_start : (N : ℕ) (w p : ℕ → ℕ) → ((v : ℕ) → v ≤ N → p v ≡ 0) → Forest N 0 (down 0 N) w p
forest_start N w p h = record {
  top = h 0 zero-le;
  size = omega (arith, down_length 0 N);
  range = λ v q. omega (arith, down_in 0 N v q);
  alive = λ v a b. omega (arith, down_once 0 N v a (omega arith), ap (delta 0) (h v (omega arith)));
  inside = λ v q. omega (arith, h v (omega arith));
  children_are = λ u. omega (arith, sum_over_cong (down 0 N) (λ x. delta u (p x)) (λ x. delta u 0) (λ x q. ap (delta u) (low x q)), sum_const (down 0 N) (delta u 0));
  load = λ u n. omega (arith, sum_over_cong (down 0 N) (λ x. delta u (p x) * w x) (λ x. 0) (λ x q. ap (λ z. delta u z * w x) (low x q) ∙ (rw (delta_ne u 0 n) (zero-mul (w x)))), sum_const (down 0 N) 0);
  reach = λ v q. h v (omega arith);
  total = refl;
  lower = λ m d u κ. record { m = m; d = d; upto = u; kraft = κ; cheap = omega arith };
}
  where
    low : (x : ℕ) → count x (down 0 N) ≢ 0 → p x ≡ 0
    low x q = h x (omega (arith, down_in 0 N x q))

module _ (N k : ℕ) (A : List ℕ) (w p : ℕ → ℕ) (x y : ℕ) (w' p' : ℕ → ℕ) (F : Forest N k A w p) (c : Pick N k w p x y) (j : JoinStep N k x y w p w' p') where
  pub rest : List ℕ
  rest = without y (without x A)

  one : (v : ℕ) → 1 ≤ v → v ≤ N + k → p v ≡ 0 → count v A ≡ 1
  one v h g e = F.alive v h g ∙ ap (delta 0) e

  taken : (f : ℕ → ℕ) → sum_over A f ≡ f x + f y + sum_over rest f
  unfolding rest
  taken f =
      let a : (g : ℕ → ℕ) → sum_over A g ≡ g x + sum_over (without x A) g = λ g. without_sum x A g (omega (arith, one x c.x_in.0 c.x_in.1 c.x_free)) in
      omega (arith, a f, without_sum y (without x A) f (omega (arith, a (delta y), one y c.y_in.0 c.y_in.1 c.y_free, delta_ne y x (λ e. c.apart (sym e)))))

  out_x : count x rest ≡ 0
  out_x = omega (arith, taken (delta x), delta_self x, one x c.x_in.0 c.x_in.1 c.x_free)

  out_y : count y rest ≡ 0
  out_y = omega (arith, taken (delta y), delta_self y, one y c.y_in.0 c.y_in.1 c.y_free)

  in_rest : (z : ℕ) → count z rest ≢ 0 → (1 ≤ z) × (z ≤ N + k) × (p z ≡ 0) × (z ≢ x) × (z ≢ y)
  in_rest z q =
      let m : count z A ≢ 0 = omega (arith, taken (delta z)) in
      let r : (1 ≤ z) × (z ≤ N + k) = F.range z m in
      (r.0, r.1, sym (delta_eq 0 (p z) (omega (arith, F.alive z r.0 r.1))), (λ e. q (ap (λ v. count v rest) e ∙ out_x)), (λ e. q (ap (λ v. count v rest) e ∙ out_y)))

  out_b : count (N + suc k) rest ≡ 0
  out_b = go (equal? (count (N + suc k) rest) 0)
    where
      go : (count (N + suc k) rest ≡ 0) ⊎ (count (N + suc k) rest ≢ 0) → count (N + suc k) rest ≡ 0
      go (inl e) = e
      go (inr q) = omega (arith, (in_rest (N + suc k) q).1)

  delta_one : (u v : ℕ) → delta u v ≤ 1
  delta_one u v = go (equal? u v)
    where
      go : (u ≡ v) ⊎ (u ≢ v) → delta u v ≤ 1
      go (inl e) = rw e (le_of_eq (delta_self v))
      go (inr d) = omega (arith, delta_ne u v d)

  once : (z : ℕ) → count z (x ∷ y ∷ rest) ≤ 1
  once z = go (equal? (count z A) 0)
    where
      go : (count z A ≡ 0) ⊎ (count z A ≢ 0) → count z (x ∷ y ∷ rest) ≤ 1
      go (inl e) = omega (arith, taken (delta z))
      go (inr q) = let r : (1 ≤ z) × (z ≤ N + k) = F.range z q in omega (arith, taken (delta z), F.alive z r.0 r.1, delta_one 0 (p z))

  top' : p' 0 ≡ 0
  top' = j.old 0 (omega (arith, c.x_in)) (omega (arith, c.y_in)) (omega arith) ∙ F.top

  size' : length A ≡ 2 + length rest
  size' = omega (arith, ones_length A, ones_length rest, taken (λ v. 1))

  alive' : (v : ℕ) → 1 ≤ v → v ≤ N + suc k → count v ((N + suc k) ∷ rest) ≡ delta 0 (p' v)
  alive' v v1 vN = go (equal? v (N + suc k)) (equal? v x) (equal? v y)
    where
      gone : (z : ℕ) → z ≤ N + k → count z rest ≡ 0 → p' z ≡ N + suc k → count z ((N + suc k) ∷ rest) ≡ delta 0 (p' z)
      gone z l q e = omega (arith, ap (delta 0) e, delta_ne 0 (N + suc k) (omega arith), delta_ne z (N + suc k) (omega arith))

      go : (v ≡ N + suc k) ⊎ (v ≢ N + suc k) → (v ≡ x) ⊎ (v ≢ x) → (v ≡ y) ⊎ (v ≢ y) → count v ((N + suc k) ∷ rest) ≡ delta 0 (p' v)
      go (inl e) dx dy = rw e (omega (arith, delta_self (N + suc k), out_b, ap (delta 0) j.pb))
      go (inr d) (inl e) dy = rw e (gone x c.x_in.1 out_x j.px)
      go (inr d) (inr dx) (inl e) = rw e (gone y c.y_in.1 out_y j.py)
      go (inr d) (inr dx) (inr dy) = omega (arith, delta_ne v (N + suc k) d, taken (delta v), delta_ne v x dx, delta_ne v y dy, F.alive v v1 (omega arith), ap (delta 0) (j.old v dx dy d))

  inside' : (v : ℕ) → v ≤ N + suc k → p' v ≤ N + suc k
  inside' v h = go (equal? v (N + suc k)) (equal? v x) (equal? v y)
    where
      go : (v ≡ N + suc k) ⊎ (v ≢ N + suc k) → (v ≡ x) ⊎ (v ≢ x) → (v ≡ y) ⊎ (v ≢ y) → p' v ≤ N + suc k
      go (inl e) dx dy = rw (e, j.pb) zero-le
      go (inr d) (inl e) dy = rw (e, j.px) (le_refl (N + suc k))
      go (inr d) (inr dx) (inl e) = rw (e, j.py) (le_refl (N + suc k))
      go (inr d) (inr dx) (inr dy) = omega (arith, j.old v dx dy d, F.inside v (omega arith))

  children_are' : (u : ℕ) → all N (suc k) (λ v. delta u (p' v)) ≡ delta u 0 * suc (length rest) + 2 * count u (down N (suc k))
  children_are' u =
      omega (
        arith,
        F.children_are u,
        ap (λ z. delta u 0 * z) size',
        ap (delta u) j.px,
        ap (delta u) j.py,
        ap (delta u) j.pb,
        ap (delta u) c.x_free,
        ap (delta u) c.y_free,
        all_two N k (λ v. delta u (p v)) (λ v. delta u (p' v)) x y c.apart c.x_in.0 c.x_in.1 c.y_in.0 c.y_in.1 (λ z h g dx dy. ap (delta u) (j.old z dx dy (omega arith))),
      )

  load' : (u : ℕ) → u ≢ 0 → all N (suc k) (λ v. delta u (p' v) * w' v) ≡ count u (down N (suc k)) * w' u
  load' u n = go (equal? u (N + suc k))
    where
      f : ℕ → ℕ
      f v = delta u (p v) * w v

      g : ℕ → ℕ
      g v = delta u (p' v) * w' v

      moved : all N k g + f x + f y ≡ all N k f + g x + g y
      moved = all_two N k f g x y c.apart c.x_in.0 c.x_in.1 c.y_in.0 c.y_in.1 (λ z h l dx dy. ap₂ (λ s t. delta u s * t) (j.old z dx dy (omega arith)) (j.weight_old z (omega arith)))

      none : (v : ℕ) → p v ≡ 0 → f v ≡ 0
      none v e = ap (λ z. delta u z * w v) e ∙ (rw (delta_ne u 0 n) (zero-mul (w v)))

      gb : g (N + suc k) ≡ 0
      gb = ap (λ z. delta u z * w' (N + suc k)) j.pb ∙ (rw (delta_ne u 0 n) (zero-mul (w' (N + suc k))))

      under : (v : ℕ) → v ≤ N + k → p' v ≡ N + suc k → g v ≡ delta u (N + suc k) * w v
      under v l e = ap₂ (λ s t. delta u s * t) e (j.weight_old v (omega arith))

      sums : all N k g ≡ count u (down N k) * w u + delta u (N + suc k) * w x + delta u (N + suc k) * w y
      sums = omega (arith, moved, none x c.x_free, none y c.y_free, under x c.x_in.1 j.px, under y c.y_in.1 j.py, F.load u n)

      go : (u ≡ N + suc k) ⊎ (u ≢ N + suc k) → sum_over (down 0 N) g + (g (N + suc k) + sum_over (down N k) g) ≡ (delta u (N + suc k) + count u (down N k)) * w' u
      go (inl e) =
          let s1 : delta u (N + suc k) ≡ 1 = rw e (delta_self (N + suc k)) in
          let t0 : count u (down N k) ≡ 0 = down_out N k u (omega arith) in
          omega (arith, sums, gb, ap (λ z. z * w x) s1, ap (λ z. z * w y) s1, ap (λ z. z * w u) t0, ap (λ z. z * w' u) s1, ap (λ z. z * w' u) t0, ap w' e, j.weight)
      go (inr d) =
          let s0 : delta u (N + suc k) ≡ 0 = delta_ne u (N + suc k) d in
          omega (arith, sums, gb, ap (λ z. z * w x) s0, ap (λ z. z * w y) s0, ap (λ z. z * w' u) s0, ap (λ z. count u (down N k) * z) (j.weight_old u d))

  past : (i v : ℕ) → v ≤ N + k → ancestor p i v ≡ 0 → ancestor p' (suc i) v ≡ 0
  past zero v h r = ap p' r ∙ top'
  past (suc i) v h r = go (past i (p v) (F.inside v h) r) (equal? v x) (equal? v y)
    where
      high : ancestor p' (suc i) (N + suc k) ≡ 0
      high = rw j.pb (ancestor_top p' i top')

      go : ancestor p' (suc i) (p v) ≡ 0 → (v ≡ x) ⊎ (v ≢ x) → (v ≡ y) ⊎ (v ≢ y) → ancestor p' (suc i) (p' v) ≡ 0
      go ih (inl e) dy = subst (λ z. ancestor p' (suc i) z ≡ 0) (sym (ap p' e ∙ j.px)) high
      go ih (inr dx) (inl e) = subst (λ z. ancestor p' (suc i) z ≡ 0) (sym (ap p' e ∙ j.py)) high
      go ih (inr dx) (inr dy) = subst (λ z. ancestor p' (suc i) z ≡ 0) (sym (j.old v dx dy (omega arith))) ih

  reach' : (v : ℕ) → v ≤ N + suc k → ancestor p' (suc (suc k)) v ≡ 0
  reach' v h = go (equal? v (N + suc k))
    where
      go : (v ≡ N + suc k) ⊎ (v ≢ N + suc k) → ancestor p' (suc (suc k)) v ≡ 0
      go (inl e) = rw (e, j.pb) (ancestor_top p' (suc k) top')
      go (inr d) = past (suc k) v (omega arith) (F.reach v (omega arith))

  lower' : (m : ℕ) (d : ℕ → ℕ) → AtMost (down 0 N) m d → power_sum (down 0 N) m d ≤ 2 ^ m → Under ((N + suc k) ∷ rest) w' (sum_over (down N (suc k)) w') (cost (down 0 N) w' d)
  lower' m d u κ = last (F.lower m d u κ)
    where
      last : Under A w (sum_over (down N k) w) (cost (down 0 N) w d) → Under ((N + suc k) ∷ rest) w' (sum_over (down N (suc k)) w') (cost (down 0 N) w' d)
      last U = done (merge x y (N + suc k) rest w w' once out_b c.order low j.weight (λ z q. j.weight_old z (omega (arith, (in_rest z q).1))) U.m U.d
          (λ s q. U.upto s (omega (arith, taken (delta s)))) (omega (arith, taken (λ s. 2 ^ (U.m - U.d s)), U.kraft)))
        where
          low : (z : ℕ) → count z rest ≢ 0 → w y ≤ w z
          low z q = let r : (1 ≤ z) × (z ≤ N + k) × (p z ≡ 0) × (z ≢ x) × (z ≢ y) = in_rest z q in c.least z r.0 r.1 r.2 r.3 r.4

          done : Under ((N + suc k) ∷ rest) w' (w x + w y) (cost (x ∷ y ∷ rest) w U.d) → Under ((N + suc k) ∷ rest) w' (sum_over (down N (suc k)) w') (cost (down 0 N) w' d)
          done G = record {
            m = G.m;
            d = G.d;
            upto = G.upto;
            kraft = G.kraft;
            cheap = omega (
              arith,
              G.cheap,
              U.cheap,
              taken (λ s. w s * U.d s),
              j.weight,
              sum_over_cong (down N k) w' w (λ s q. j.weight_old s (omega (arith, down_in N k s q))),
              sum_over_cong (down 0 N) (λ s. w' s * d s) (λ s. w s * d s) (λ s q. ap (λ z. z * d s) (j.weight_old s (omega (arith, down_in 0 N s q)))),
            );
          }

  -- no joint weight exceeds the weight of all the sinks
  pub joint_le : w x + w y ≤ sum_over (down 0 N) w
  joint_le = omega (arith, F.total, taken w)

  pub forest_join : Forest N (suc k) ((N + suc k) ∷ rest) w' p'
  forest_join = record {
    top = top';
    size = omega (arith, F.size, size');
    range = λ v q. ranged v q (equal? v (N + suc k));
    alive = alive';
    inside = inside';
    children_are = children_are';
    load = load';
    reach = reach';
    total = omega (arith, F.total, taken w, j.weight, sum_over_cong rest w' w (λ z q. j.weight_old z (omega (arith, (in_rest z q).1))), sum_over_cong (down 0 N) w' w (λ z q. j.weight_old z (omega (arith, down_in 0 N z q))));
    lower = lower';
  }
    where
      ranged : (v : ℕ) → count v ((N + suc k) ∷ rest) ≢ 0 → (v ≡ N + suc k) ⊎ (v ≢ N + suc k) → (1 ≤ v) × (v ≤ N + suc k)
      ranged v q (inl e) = omega arith
      ranged v q (inr d) = omega (arith, in_rest v (omega (arith, delta_ne v (N + suc k) d)))
