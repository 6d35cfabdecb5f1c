-- Maps f of positions and g of times under which planning compares alike: |dx| and |dy| become k times as large, medians go to medians, times keep their order, and what
-- is taken from a time becomes k times as much. Assumes nothing.
use Prim.Native.Nat.{ℕ, ◌+◌, ◌*◌, ◌≤◌}
use mathlib.Core.Path.{◌≡◌, refl, ap, ◌∙◌}
use mathlib.Core.Bool.{Bool, true, false, cond}
use mathlib.Core.List.{List, [], ◌∷◌, map}
use native.Mathlib.Nat.{add-mul, mul-lt-mul_of_pos_right, mul-le-mul_right}
use native.Mathlib.Omega.{arith}
use borrow.Author.Tests.{ltb-true, ltb-false}
use lib.Dec.{ltb}
use lib.IntN.{ℤ, pos, ◌-ℤ◌, ◌*ℤ◌}
use Rattle.quantities.specs.declared.metal_pair.MetalPair.{MetalPair}
use Rattle.quantities.specs.declared.point.Point.{Point}
use Rattle.quantities.specs.Delay.{delay}
use Rattle.quantities.specs.Distance.{span, distance}
use Rattle.quantities.specs.Median.{median_point}
use Rattle.quantities.specs.MinMax.{min_ℤ}
use Rattle.quantities.specs.Inner.Linear.{up, dn, whole, -is, *is}
use Rattle.quantities.proofs.Laws.Delay.{delay_scaled}
use Rattle.quantities.proofs.Laws.Distance.{span_times, distance_scaled}
use Rattle.quantities.proofs.Laws.Rising.{Rising, rising_lt, rising_min, rising_median, rising_times}
use Rattle.tree.specs.Lists.{least_from}
use Rattle.tree.specs.Planning.{ranks, nearer}
use Rattle.invariance.specs.Times.{times_point}

pub record Similar (k : ℕ) (f : Point → Point) (g : ℤ → ℤ) : Type 0 where
  pub positive : 1 ≤ k
  pub across : (p q : Point) → span (f p).x (f q).x ≡ span p.x q.x * k
  pub upward : (p q : Point) → span (f p).y (f q).y ≡ span p.y q.y * k
  pub medians : (p q r : Point) → median_point (f p) (f q) (f r) ≡ f (median_point p q r)
  pub rising : Rising g
  pub less : (a : ℤ) (n : ℕ) → g (a -ℤ pos n) ≡ g a -ℤ pos (n * k)

-- ---- times: the least, and which of two worst slacks ranks first

module _ {g : ℤ → ℤ} (R : Rising g) where
  pub least_rises : (x : ℤ) (l : List ℤ) → least_from (g x) (map g l) ≡ g (least_from x l)
  least_rises x [] = refl
  least_rises x (y ∷ l) = ap (λ z. least_from z (map g l)) (rising_min R x y) ∙ least_rises (min_ℤ x y) l

  pub same_ranks : (a b : ℤ) (t : Bool) → ranks (g a) (g b) t ≡ ranks a b t
  same_ranks a b t = λ i. cond (rising_lt R b a i) true (cond (rising_lt R a b i) false t)

-- ---- lengths: which of two is nearer

module _ (k : ℕ) (h : 1 ≤ k) where
  same_ltb : (a b : ℕ) → ltb (a * k) (b * k) ≡ ltb a b
  same_ltb a b = go (ltb (a * k) (b * k)) (ltb a b) refl refl
    where
      go : (s t : Bool) → ltb (a * k) (b * k) ≡ s → ltb a b ≡ t → s ≡ t
      go true true p q = refl
      go false false p q = refl
      go true false p q = absurd (omega (arith, ltb-true (a * k) (b * k) p, mul-le-mul_right k (ltb-false a b q)))
      go false true p q = absurd (omega (arith, ltb-false (a * k) (b * k) p, mul-lt-mul_of_pos_right {k = k} (ltb-true a b q) h))

  pub same_nearer : (a b : ℕ) (t : Bool) → nearer (a * k) (b * k) t ≡ nearer a b t
  same_nearer a b t = λ i. cond (same_ltb a b i) true (cond (same_ltb b a i) false t)

-- ---- distances and delays

module _ {k : ℕ} {f : Point → Point} {g : ℤ → ℤ} (S : Similar k f g) where
  pub distances : (p q : Point) → distance (f p) (f q) ≡ distance p q * k
  distances p q = distance_scaled k p q (f p) (f q) (S.across p q) (S.upward p q)

  pub delays : (w : MetalPair) (p q : Point) → delay w (f p) (f q) ≡ delay w p q * k
  delays w p q = delay_scaled w k p q (f p) (f q) (S.across p q) (S.upward p q)

-- ---- multiplying all by k

pub similar_times : (k : ℕ) → 1 ≤ k → Similar k (times_point k) (λ a. a *ℤ pos k)
unfolding median_point
similar_times k h = record {
  positive = h;
  across = λ p q. span_times k h p.x q.x;
  upward = λ p q. span_times k h p.y q.y;
  medians = λ p q r. λ i. record { x = rising_median (rising_times k h) p.x q.x r.x i; y = rising_median (rising_times k h) p.y q.y r.y i };
  rising = rising_times k h;
  less = λ a n. omega (arith, whole, *is (a -ℤ pos n) k, *is a k, ap (λ m. m * k) (-is a (pos n)), -is (a *ℤ pos k) (pos (n * k)), add-mul (up (a -ℤ pos n)) (dn a + n) k, add-mul (dn a) n k, add-mul (up a) (dn (a -ℤ pos n)) k);
}
