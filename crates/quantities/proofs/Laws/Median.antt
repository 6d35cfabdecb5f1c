-- The median of three. Assumes nothing.
use mathlib.Core.Path.{◌≡◌, sym, ◌∙◌}
use mathlib.Core.Logic.{◌⊎◌, inl, inr, ⊎_elim}
use Prim.Native.Nat.{◌+◌, min, max}
use native.Mathlib.Omega.{arith}
use lib.IntN.{ℤ}
use lib.Signed.{◌≤ℤ◌}
use Rattle.quantities.specs.declared.point.Point.{Point}
use Rattle.quantities.specs.MinMax.{min_ℤ, max_ℤ}
use Rattle.quantities.specs.Distance.{span, distance}
use Rattle.quantities.specs.Median.{median, median_point}
use Rattle.quantities.specs.Box.{InBox}
use Rattle.quantities.specs.Inner.Linear.{up, dn, whole}
use Rattle.quantities.proofs.Laws.MinMax.{min_is, max_is, total}
use Rattle.quantities.proofs.Laws.Distance.{span_le, span_ge}

-- m is the median of a, b and c, by the parts
pub record IsMedian (a b c m : ℤ) : Type 0 where
  pub lesser : ℤ
  pub greater : ℤ
  pub capped : ℤ
  pub lesser_is : up lesser + (dn a + dn b) ≡ min (up a + dn b) (up b + dn a) + dn lesser
  pub greater_is : up greater + (dn a + dn b) ≡ max (up a + dn b) (up b + dn a) + dn greater
  pub capped_is : up capped + (dn greater + dn c) ≡ min (up greater + dn c) (up c + dn greater) + dn capped
  pub median_is : up m + (dn lesser + dn capped) ≡ max (up lesser + dn capped) (up capped + dn lesser) + dn m

pub median_is : (a b c : ℤ) → IsMedian a b c (median a b c)
unfolding median
median_is a b c = record {
  lesser = min_ℤ a b;
  greater = max_ℤ a b;
  capped = min_ℤ (max_ℤ a b) c;
  lesser_is = min_is a b;
  greater_is = max_is a b;
  capped_is = min_is (max_ℤ a b) c;
  median_is = max_is (min_ℤ a b) (min_ℤ (max_ℤ a b) c);
}

-- the median lies between the first two
pub median_between : (a b c : ℤ) → ((a ≤ℤ median a b c) × (median a b c ≤ℤ b)) ⊎ ((b ≤ℤ median a b c) × (median a b c ≤ℤ a))
median_between a b c =
    ⊎_elim
    (λ h. inl (omega (arith, whole, median_is a b c)))
    (λ h. inr (omega (arith, whole, median_is a b c)))
    (total a b)

-- the median lies in every range that the three lie in
pub median_in_range : (low high a b c : ℤ) → (low ≤ℤ a) × (a ≤ℤ high) → (low ≤ℤ b) × (b ≤ℤ high) → (low ≤ℤ c) × (c ≤ℤ high) → (low ≤ℤ median a b c) × (median a b c ≤ℤ high)
median_in_range low high a b c f g h = omega (arith, whole, median_is a b c)

-- |a - m| + |m - b| = |a - b| for the median m of a, b and a third
pub span_through_median : (a b c : ℤ) → span a (median a b c) + span (median a b c) b ≡ span a b
span_through_median a b c =
    ⊎_elim
    (λ h. let k : a ≤ℤ b = omega (arith, whole) in omega (arith, span_le h.0, span_le h.1, span_le k))
    (λ h. let k : b ≤ℤ a = omega (arith, whole) in omega (arith, span_ge h.0, span_ge h.1, span_ge k))
    (median_between a b c)

pub distance_through_median : (p q r : Point) → distance p (median_point p q r) + distance (median_point p q r) q ≡ distance p q
unfolding distance median_point
distance_through_median p q r = omega (arith, span_through_median p.x q.x r.x, span_through_median p.y q.y r.y)

-- the median lies in every box that the three lie in
pub median_in_box : (low high p q r : Point) → InBox low high p → InBox low high q → InBox low high r → InBox low high (median_point p q r)
unfolding median_point
median_in_box low high p q r f g h = record {
  x = median_in_range low.x high.x p.x q.x r.x f.x g.x h.x;
  y = median_in_range low.y high.y p.y q.y r.y f.y g.y h.y;
}

-- the order of the last two does not matter: in each order of the three both medians are the middle one
median_swap : (a b c : ℤ) → median a b c ≡ median a c b
median_swap a b c = go (total a b) (total b c) (total a c)
  where
    same : (m : ℤ) → median a b c ≡ m → median a c b ≡ m → median a b c ≡ median a c b
    same m e f = e ∙ sym f

    go : (a ≤ℤ b) ⊎ (b ≤ℤ a) → (b ≤ℤ c) ⊎ (c ≤ℤ b) → (a ≤ℤ c) ⊎ (c ≤ℤ a) → median a b c ≡ median a c b
    go (inl p) (inl q) r = same b (omega (arith, whole, median_is a b c)) (omega (arith, whole, median_is a c b))
    go (inl p) (inr q) (inl r) = same c (omega (arith, whole, median_is a b c)) (omega (arith, whole, median_is a c b))
    go (inl p) (inr q) (inr r) = same a (omega (arith, whole, median_is a b c)) (omega (arith, whole, median_is a c b))
    go (inr p) (inl q) (inl r) = same a (omega (arith, whole, median_is a b c)) (omega (arith, whole, median_is a c b))
    go (inr p) (inl q) (inr r) = same c (omega (arith, whole, median_is a b c)) (omega (arith, whole, median_is a c b))
    go (inr p) (inr q) r = same b (omega (arith, whole, median_is a b c)) (omega (arith, whole, median_is a c b))

pub median_point_swap : (p q r : Point) → median_point p q r ≡ median_point p r q
unfolding median_point
median_point_swap p q r = λ i. record { x = median_swap p.x q.x r.x i; y = median_swap p.y q.y r.y i }
