-- Huffman's step on lists: depths that keep Kraft's inequality, for a list whose two least weights are x and y, give depths for the list
-- with x and y replaced by one of their joint weight, that still keep it and cost less by that weight. Assumes nothing.
use mathlib.Core.Path.{◌≡◌, refl, ap, ◌∙◌}
use mathlib.Core.Logic.{◌≢◌, ◌⊎◌, inl, inr}
use mathlib.Core.List.{List, [], ◌∷◌}
use Prim.Native.Nat.{ℕ, zero, suc, ◌+◌, ◌-◌, ◌*◌, ◌^◌, ◌≤◌, ◌<◌, min}
use native.Mathlib.Nat.{le_trans, mul-le-mul_left, pow-succ', eq-or-lt_of_le}
use native.Mathlib.Decide.{dec_le}
use native.Mathlib.Omega.{arith}
use lib.Pow.{pow_pos}
use Rattle.tree.specs.Lists.{sum_over, delta, count}
use Rattle.tree.proofs.Laws.Lists.Sums.{delta_self, delta_ne, delta_eq, equal?, sum_over_cong, sum_over_mono, sum_over_find, sum_over_change}
use Rattle.tree.proofs.Laws.Kraft.GapSums.{power_sum, AtMost}

-- a where the number is not 0, else b
abbrev if_any : ℕ → ℕ → ℕ → ℕ
if_any zero a b = b
if_any (suc k) a b = a

-- f, but a at z
abbrev at : (ℕ → ℕ) → ℕ → ℕ → ℕ → ℕ
at f z a s = if_any (delta s z) a (f s)

at_same : (f : ℕ → ℕ) (z a : ℕ) → at f z a z ≡ a
at_same f z a = ap (λ k. if_any k a (f z)) (delta_self z)

at_other : (f : ℕ → ℕ) (z a s : ℕ) → s ≢ z → at f z a s ≡ f s
at_other f z a s h = ap (λ k. if_any k a (f s)) (delta_ne s z h)

-- the cost of depths, and how many are M
abbrev pub cost : List ℕ → (ℕ → ℕ) → (ℕ → ℕ) → ℕ
cost A w d = sum_over A (λ s. w s * d s)

abbrev deep : List ℕ → ℕ → (ℕ → ℕ) → ℕ
deep A M d = sum_over A (λ s. delta (d s) M)

-- a sum after one value is set anew
change_at : (R : List ℕ) (d : ℕ → ℕ) (z a : ℕ) (F : ℕ → ℕ → ℕ) → count z R ≡ 1
    → sum_over R (λ s. F s (at d z a s)) + F z (d z) ≡ sum_over R (λ s. F s (d s)) + F z a
change_at R d z a F h =
    omega (arith, sum_over_change R (λ s. F s (d s)) (λ s. F s (at d z a s)) z (λ y q n. ap (F y) (at_other d z a y n)), ap (λ k. k * F z (d z)) h, ap (λ k. k * F z (at d z a z)) h, ap (F z) (at_same d z a))

rearrange : (a M x z : ℕ) → a ≤ M → x ≤ z → z * a + x * M ≤ z * M + x * a
rearrange a M x z h g = go (M - a) (z - x) (omega arith) (omega arith)
  where
    go : (k l : ℕ) → M ≡ a + k → z ≡ x + l → z * a + x * M ≤ z * M + x * a
    go k l e f = rw (e, f) (omega arith)

-- one outside the list, of weight v and depth a, changes places with one of depth M
pub record Moved (R : List ℕ) (w d : ℕ → ℕ) (M v a : ℕ) : Type 0 where
  pub e : ℕ → ℕ
  pub upto : AtMost R M e
  pub cost_le : cost R w e + v * M ≤ cost R w d + v * a
  pub mass_eq : power_sum R M e + 1 ≡ power_sum R M d + 2 ^ (M - a)
  pub deep_eq : deep R M e + 1 ≡ deep R M d + delta a M

module _ (R : List ℕ) (w d : ℕ → ℕ) (M v a : ℕ) (once : (z : ℕ) → count z R ≤ 1) (up : AtMost R M d) (le : a ≤ M) (least : (z : ℕ) → count z R ≢ 0 → v ≤ w z) where
  displace : deep R M d + delta a M ≢ 0 → Moved R w d M v a
  displace h = go (equal? a M)
    where
      zero_pow : (x : ℕ) → x ≡ M → 2 ^ (M - x) ≡ 1
      zero_pow x e = let z : M - x ≡ 0 = omega arith in ap (◌^◌ 2) z

      far : (z : ℕ) × (count z R ≢ 0) × (delta (d z) M ≢ 0) → Moved R w d M v a
      far r =
          let z : ℕ = r.0 in
          let dz : d z ≡ M = delta_eq (d z) M r.2 in
          let one : count z R ≡ 1 = omega (arith, once z, r.1) in
          record {
            e = at d z a;
            upto = λ s q. bound z s q (equal? s z);
            cost_le = omega (arith, change_at R d z a (λ s k. w s * k) one, ap (λ k. w z * k) dz, rearrange a M v (w z) le (least z r.1));
            mass_eq = omega (arith, change_at R d z a (λ s k. 2 ^ (M - k)) one, zero_pow (d z) dz);
            deep_eq = omega (arith, change_at R d z a (λ s k. delta k M) one, ap (λ k. delta k M) dz, delta_self M);
          }
        where
          bound : (z s : ℕ) → count s R ≢ 0 → (s ≡ z) ⊎ (s ≢ z) → at d z a s ≤ M
          bound z s q (inl e) = rw (e, at_same d z a) le
          bound z s q (inr n) = rw (at_other d z a s n) (up s q)

      go : (a ≡ M) ⊎ (a ≢ M) → Moved R w d M v a
      go (inl e) = record { e = d; upto = up; cost_le = omega (arith, ap (λ k. v * k) e); mass_eq = omega (arith, zero_pow a e); deep_eq = omega (arith, ap (λ k. delta k M) e, delta_self M) }
      go (inr n) = far (sum_over_find R (λ s. delta (d s) M) (omega (arith, delta_ne a M n)))

-- the depths cut at m: of those one deeper, each counts double
halve_one : (m a : ℕ) → a ≤ suc m → 2 ^ (suc m - a) + delta a (suc m) ≡ 2 * 2 ^ (m - min a m)
halve_one m a h = go (eq-or-lt_of_le h)
  where
    go : (a ≡ suc m) ⊎ (a < suc m) → 2 ^ (suc m - a) + delta a (suc m) ≡ 2 * 2 ^ (m - min a m)
    go (inl e) =
        let p : suc m - a ≡ 0 = omega arith in
        let q : m - min a m ≡ 0 = omega arith in
        omega (arith, ap (◌^◌ 2) p, ap (◌^◌ 2) q, ap (λ k. delta k (suc m)) e, delta_self (suc m))
    go (inr l) =
        let p : suc m - a ≡ suc (m - a) = omega arith in
        let q : m - min a m ≡ m - a = omega arith in
        omega (arith, ap (◌^◌ 2) p, ap (◌^◌ 2) q, pow-succ' 2 (m - a), delta_ne a (suc m) (omega arith))

halves : (A : List ℕ) (m : ℕ) (d : ℕ → ℕ) → AtMost A (suc m) d → power_sum A (suc m) d + deep A (suc m) d ≡ 2 * power_sum A m (λ s. min (d s) m)
halves [] m d h = refl
halves (y ∷ A) m d h = omega (arith, halve_one m (d y) (h y (omega (arith, delta_self y))), halves A m d (λ s q. h s (omega arith)))

-- depths that keep Kraft's inequality, and with C cost no more than B
pub record Under (A : List ℕ) (w : ℕ → ℕ) (C B : ℕ) : Type 0 where
  pub m : ℕ
  pub d : ℕ → ℕ
  pub upto : AtMost A m d
  pub kraft : power_sum A m d ≤ 2 ^ m
  pub cheap : C + cost A w d ≤ B

module _ (x y b : ℕ) (R : List ℕ) (w w' : ℕ → ℕ) (once : (z : ℕ) → count z (x ∷ y ∷ R) ≤ 1) (fresh : count b R ≡ 0)
    (xy : w x ≤ w y) (least : (z : ℕ) → count z R ≢ 0 → w y ≤ w z) (joint : w' b ≡ w x + w y) (old : (z : ℕ) → count z R ≢ 0 → w' z ≡ w z) where
  apart : (s : ℕ) → count s R ≢ 0 → s ≢ b
  apart s q e = q (ap (λ k. count k R) e ∙ fresh)

  -- x and y at depth m + 1 are joined one higher
  raise : (m : ℕ) (f : ℕ → ℕ) (B : ℕ) → AtMost R (suc m) f → power_sum R (suc m) f + 2 ≤ 2 ^ suc m → cost R w f + w x * suc m + w y * suc m ≤ B → Under (b ∷ R) w' (w x + w y) B
  raise m f B u kr le = record {
    m = suc m;
    d = e;
    upto = λ s q. top s q (equal? s b);
    kraft = omega (arith, same_e (λ s k. 2 ^ (suc m - k)), ap (λ k. 2 ^ (suc m - k)) eb, ap (◌^◌ 2) lift);
    cheap = omega (arith, sum_over_cong R (λ s. w' s * e s) (λ s. w s * e s) (λ s q. ap (λ k. k * e s) (old s q)), same_e (λ s k. w s * k), ap (λ k. w' b * k) eb, ap (λ k. k * m) joint);
  }
    where
      e : ℕ → ℕ
      e = at f b m

      eb : e b ≡ m
      eb = at_same f b m

      lift : suc m - m ≡ 1
      lift = omega arith

      same_e : (F : ℕ → ℕ → ℕ) → sum_over R (λ s. F s (e s)) ≡ sum_over R (λ s. F s (f s))
      same_e F = sum_over_cong R (λ s. F s (e s)) (λ s. F s (f s)) (λ s q. ap (F s) (at_other f b m s (apart s q)))

      top : (s : ℕ) → count s (b ∷ R) ≢ 0 → (s ≡ b) ⊎ (s ≢ b) → e s ≤ suc m
      top s q (inl g) = rw (g, at_same f b m) (omega arith)
      top s q (inr n) = rw (at_other f b m s n) (u s (omega (arith, delta_ne s b n)))

  low : (z : ℕ) → count z (y ∷ R) ≢ 0 → w x ≤ w z
  low z q = go (equal? z y)
    where
      go : (z ≡ y) ⊎ (z ≢ y) → w x ≤ w z
      go (inl e) = rw e xy
      go (inr n) = le_trans xy (least z (omega (arith, delta_ne z y n)))

  -- two of depth m + 1: x and y are given their places
  pair : (m : ℕ) (d : ℕ → ℕ) → AtMost (x ∷ y ∷ R) (suc m) d → power_sum (x ∷ y ∷ R) (suc m) d ≤ 2 ^ suc m → 2 ≤ deep (x ∷ y ∷ R) (suc m) d
      → Under (b ∷ R) w' (w x + w y) (cost (x ∷ y ∷ R) w d)
  pair m d up kr two =
      let one : Moved (y ∷ R) w d (suc m) (w x) (d x) = displace (y ∷ R) w d (suc m) (w x) (d x) (λ z. omega (arith, once z)) (λ s q. up s (omega arith)) (up x (omega (arith, delta_self x))) low (omega arith) in
      let c : ℕ → ℕ = one.e in
      let sec : Moved R w c (suc m) (w y) (c y) = displace R w c (suc m) (w y) (c y) (λ z. omega (arith, once z)) (λ s q. one.upto s (omega arith)) (one.upto y (omega (arith, delta_self y))) least (omega (arith, one.deep_eq)) in
      raise m sec.e _ sec.upto (omega (arith, one.mass_eq, sec.mass_eq)) (omega (arith, one.cost_le, sec.cost_le))

  pub merge : (m : ℕ) (d : ℕ → ℕ) → AtMost (x ∷ y ∷ R) m d → power_sum (x ∷ y ∷ R) m d ≤ 2 ^ m → Under (b ∷ R) w' (w x + w y) (cost (x ∷ y ∷ R) w d)
  merge zero d up kr = absurd (omega (arith, pow_pos (0 - d x), pow_pos (0 - d y)))
  merge (suc m) d up kr = go (merge m (λ s. min (d s) m)) (dec_le 2 (deep (x ∷ y ∷ R) (suc m) d))
    where
      go : (AtMost (x ∷ y ∷ R) m (λ s. min (d s) m) → power_sum (x ∷ y ∷ R) m (λ s. min (d s) m) ≤ 2 ^ m → Under (b ∷ R) w' (w x + w y) (cost (x ∷ y ∷ R) w (λ s. min (d s) m)))
          → Dec (2 ≤ deep (x ∷ y ∷ R) (suc m) d) → Under (b ∷ R) w' (w x + w y) (cost (x ∷ y ∷ R) w d)
      go ih (yes h) = pair m d up kr h
      go ih (no h) =
          let u : Under (b ∷ R) w' (w x + w y) (cost (x ∷ y ∷ R) w (λ s. min (d s) m)) = ih (λ s q. omega arith) (omega (arith, halves (x ∷ y ∷ R) m d up, pow-succ' 2 m)) in
          let c : cost (x ∷ y ∷ R) w (λ s. min (d s) m) ≤ cost (x ∷ y ∷ R) w d = sum_over_mono (x ∷ y ∷ R) (λ s. w s * min (d s) m) (λ s. w s * d s) (λ s q. mul-le-mul_left (w s) (omega arith)) in
          record { m = u.m; d = u.d; upto = u.upto; kraft = u.kraft; cheap = le_trans u.cheap c }
