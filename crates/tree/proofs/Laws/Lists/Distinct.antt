-- Different numbers from 1 to m are at most m, and where each of these is among them at least m: as a list, and as the values at the places 0 to e - 1. Assumes nothing.
use Prim.Native.Nat.{ℕ, zero, suc, ◌+◌, ◌*◌, ◌≤◌, ◌<◌}
use mathlib.Core.Path.{◌≡◌, refl, sym, ap, ◌∙◌}
use mathlib.Core.Logic.{◌≢◌, ◌⊎◌, inl, inr}
use mathlib.Core.List.{List, ◌++◌, map}
use native.Mathlib.Omega.{arith}
use lib.ListN.{length}
use Rattle.tree.specs.Lists.{sum_over, delta, count, range}
use Rattle.tree.proofs.Laws.Lists.Sums.{sum_ones, ones_length, delta_self, delta_ne, equal?, sum_split, sum_mono, sum_over-append, regroup_by}
use Rattle.tree.proofs.Laws.Lists.Tables.{table_length}

pub few : (l : List ℕ) (m : ℕ) → ((x : ℕ) → count x l ≢ 0 → (1 ≤ x) × (x ≤ m)) → ((x : ℕ) → count x l ≤ 1) → sum_over l (λ x. 1) ≤ m
few l m low once =
    let f : ℕ → ℕ = λ u. sum_over l (λ x. delta u x) * 1 in
    omega (
      arith,
      regroup_by l (λ x. x) (1 + m) (λ u. 1) (λ x q. omega (arith, low x q)),
      sum_split 0 1 m f,
      sum_mono 1 m f (λ u. 1) (λ u p q. omega (arith, once u)),
      sum_ones 1 m,
      none (equal? (count 0 l) 0),
    )
  where
    none : (count 0 l ≡ 0) ⊎ (count 0 l ≢ 0) → count 0 l ≡ 0
    none (inl e) = e
    none (inr d) = absurd (omega (arith, low 0 d))

many : (l : List ℕ) (m : ℕ) → ((x : ℕ) → count x l ≢ 0 → x ≤ m) → ((x : ℕ) → 1 ≤ x → x ≤ m → count x l ≢ 0) → m ≤ sum_over l (λ x. 1)
many l m low all =
    let f : ℕ → ℕ = λ u. sum_over l (λ x. delta u x) * 1 in
    omega (
      arith,
      regroup_by l (λ x. x) (1 + m) (λ u. 1) (λ x q. omega (arith, low x q)),
      sum_split 0 1 m f,
      sum_mono 1 m (λ u. 1) f (λ u p q. omega (arith, all u p (omega arith))),
      sum_ones 1 m,
    )

-- ---- the values at places

table_none : (f : ℕ → ℕ) (a e x : ℕ) → ((j : ℕ) → a ≤ j → j < a + e → f j ≢ x) → count x (map f (range a e)) ≡ 0
table_none f a zero x h = refl
table_none f a (suc e) x h =
    omega (arith, delta_ne x (f a) (λ q. h a (omega arith) (omega arith) (sym q)), table_none f (suc a) e x (λ j p q. h j (omega arith) (omega arith)))

table_place : (f : ℕ → ℕ) (a e x : ℕ) → count x (map f (range a e)) ≢ 0 → (j : ℕ) × (a ≤ j) × (j < a + e) × (f j ≡ x)
table_place f a zero x h = absurd (h refl)
table_place f a (suc e) x h = go (equal? x (f a)) (table_place f (suc a) e x)
  where
    go : (x ≡ f a) ⊎ (x ≢ f a) → (count x (map f (range (suc a) e)) ≢ 0 → (j : ℕ) × (suc a ≤ j) × (j < suc a + e) × (f j ≡ x)) → (j : ℕ) × (a ≤ j) × (j < a + suc e) × (f j ≡ x)
    go (inl q) ih = (a, omega arith, omega arith, sym q)
    go (inr d) ih = let r = ih (omega (arith, delta_ne x (f a) d)) in (r.0, omega (arith, r.1), omega (arith, r.2), r.3)

table_in : (f : ℕ → ℕ) (a e j : ℕ) → a ≤ j → j < a + e → count (f j) (map f (range a e)) ≢ 0
table_in f a zero j p q = absurd (omega arith)
table_in f a (suc e) j p q = go (equal? j a) (table_in f (suc a) e j)
  where
    go : (j ≡ a) ⊎ (j ≢ a) → (suc a ≤ j → j < suc a + e → count (f j) (map f (range (suc a) e)) ≢ 0) → delta (f j) (f a) + count (f j) (map f (range (suc a) e)) ≢ 0
    go (inl i) ih = omega (arith, ap (λ k. delta (f j) (f k)) i, delta_self (f j))
    go (inr d) ih = omega (arith, ih (omega arith) (omega arith))

table_once : (f : ℕ → ℕ) (a e x : ℕ) → ((h j : ℕ) → a ≤ h → h < a + e → a ≤ j → j < a + e → f h ≡ f j → h ≡ j) → count x (map f (range a e)) ≤ 1
table_once f a zero x once = omega arith
table_once f a (suc e) x once = go (equal? x (f a)) (table_once f (suc a) e x (λ h j p q r s. once h j (omega arith) (omega arith) (omega arith) (omega arith)))
  where
    go : (x ≡ f a) ⊎ (x ≢ f a) → count x (map f (range (suc a) e)) ≤ 1 → delta x (f a) + count x (map f (range (suc a) e)) ≤ 1
    go (inl i) ih =
        omega (
          arith,
          ap (delta x) (sym i),
          delta_self x,
          table_none f (suc a) e x (λ j p q z. omega (arith, once j a (omega arith) (omega arith) (omega arith) (omega arith) (z ∙ i))),
        )
    go (inr d) ih = omega (arith, delta_ne x (f a) d)

module _ (f : ℕ → ℕ) (e m : ℕ) (inside : (j : ℕ) → j < e → (1 ≤ f j) × (f j ≤ m)) where
  l : List ℕ
  l = map f (range 0 e)

  in_l : (x : ℕ) → count x l ≢ 0 → (1 ≤ x) × (x ≤ m)
  unfolding l
  in_l x h = let r = table_place f 0 e x h in let i = inside r.0 (omega (arith, r.2)) in omega (arith, r.3)

  -- where every number stands at some place
  pub places_many : ((x : ℕ) → 1 ≤ x → x ≤ m → (j : ℕ) × (j < e) × (f j ≡ x)) → m ≤ e
  unfolding l
  places_many all = omega (arith, many l m (λ x h. (in_l x h).1) every, ones_length l, table_length f 0 e)
    where
      every : (x : ℕ) → 1 ≤ x → x ≤ m → count x (map f (range 0 e)) ≢ 0
      every x p q =
          let r = all x p q in
          let c = table_in f 0 e r.0 (omega arith) (omega (arith, r.1)) in
          omega (arith, ap (λ z. count z (map f (range 0 e))) r.2)

  -- where none stands twice there is room for them and for others that stand nowhere
  pub places_few : ((h j : ℕ) → h < e → j < e → f h ≡ f j → h ≡ j)
      → (others : List ℕ) → ((x : ℕ) → count x others ≤ 1) → ((x : ℕ) → count x others ≢ 0 → (1 ≤ x) × (x ≤ m) × ((j : ℕ) → j < e → f j ≢ x)) → length others + e ≤ m
  unfolding l
  places_few once others once' other =
      omega (
        arith,
        few (others ++ l) m low single,
        sum_over-append others l (λ x. 1),
        ones_length others,
        ones_length l,
        table_length f 0 e,
      )
    where
      low : (x : ℕ) → count x (others ++ l) ≢ 0 → (1 ≤ x) × (x ≤ m)
      low x h = go (equal? (count x others) 0)
        where
          go : (count x others ≡ 0) ⊎ (count x others ≢ 0) → (1 ≤ x) × (x ≤ m)
          go (inl z) = in_l x (omega (arith, sum_over-append others l (delta x)))
          go (inr z) = let r = other x z in (r.0, r.1)

      single : (x : ℕ) → count x (others ++ l) ≤ 1
      single x = go (equal? (count x others) 0)
        where
          go : (count x others ≡ 0) ⊎ (count x others ≢ 0) → count x (others ++ l) ≤ 1
          go (inl z) = omega (arith, sum_over-append others l (delta x), table_once f 0 e x (λ h j p q r s. once h j (omega arith) (omega arith)))
          go (inr z) = omega (arith, sum_over-append others l (delta x), once' x, table_none f 0 e x (λ j p q. (other x z).2 j (omega arith)))

-- one place more, with another number
pub once_more : (f : ℕ → ℕ) (e : ℕ) → ((h j : ℕ) → h < e → j < e → f h ≡ f j → h ≡ j) → ((j : ℕ) → j < e → f j ≢ f e) → (h j : ℕ) → h < e + 1 → j < e + 1 → f h ≡ f j → h ≡ j
once_more f e once new h j p q z = go (equal? h e) (equal? j e)
  where
    go : (h ≡ e) ⊎ (h ≢ e) → (j ≡ e) ⊎ (j ≢ e) → h ≡ j
    go (inl a) (inl b) = omega arith
    go (inl a) (inr d) = absurd (new j (omega arith) (sym z ∙ ap f a))
    go (inr c) (inl b) = absurd (new h (omega arith) (z ∙ ap f b))
    go (inr c) (inr d) = once h j (omega arith) (omega arith) z
