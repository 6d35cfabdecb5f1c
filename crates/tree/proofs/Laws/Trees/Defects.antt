-- What the judge's searches find: where nothing, the numbers of children that are due; else the lowest vertex. Assumes nothing.
use Prim.Native.Nat.{ℕ, zero, suc, ◌+◌, ◌*◌, ◌-◌, ◌≤◌, ◌<◌}
use mathlib.Core.Path.{◌≡◌, refl, sym, ap, ◌∙◌, subst}
use mathlib.Core.Bool.{Bool, true, false, cond, not}
use mathlib.Core.Logic.{◌≢◌, ◌⊎◌, inl, inr}
use mathlib.Core.List.{List, [], ◌∷◌}
use Rattle.std.specs.Prelude.{None, Some}
use native.Mathlib.Omega.{arith}
use lib.ListN.{length, get_or}
use lib.Dec.{T, eqb, eqb→eq, eqb_refl}
use Rattle.tree.proofs.Laws.Lists.Sums.{sum, sum_cong, sum_split, sum_scale, sum_ones, sum_member, sum_places, regroup, equal?, delta_self, delta_ne}
use Rattle.tree.specs.Defects.{due_children, wrong_children, unreached}
use Rattle.tree.specs.Lists.{delta, count, range, first_with}
use Rattle.tree.specs.Net.{branch_numbers}
use Rattle.tree.specs.Tree.{parent_of, ancestor}

-- ---- the first that passes

pub first_none : (test : ℕ → Bool) (l : List ℕ) → first_with test l ≡ None → (v : ℕ) → count v l ≢ 0 → test v ≡ false
first_none test [] e v m = absurd (m refl)
first_none test (x ∷ l) e v m = go (test x) refl e (equal? v x) (λ q. first_none test l q v)
  where
    go : (t : Bool) → test x ≡ t → cond t (Some x) (first_with test l) ≡ None → (v ≡ x) ⊎ (v ≢ x) → (first_with test l ≡ None → count v l ≢ 0 → test v ≡ false) → test v ≡ false
    go true h q s ih = let z : ◌≡◌ {A = ℕ} 0 1 = cc in absurd (omega arith)
    go false h q (inl s) ih = ap test s ∙ h
    go false h q (inr d) ih = ih q (omega (arith, delta_ne v x d))

pub none_first : (test : ℕ → Bool) (l : List ℕ) → ((v : ℕ) → count v l ≢ 0 → test v ≡ false) → first_with test l ≡ None
none_first test [] h = refl
none_first test (x ∷ l) h = go (test x) (h x (omega (arith, delta_self x))) (none_first test l (λ v m. h v (omega arith)))
  where
    go : (t : Bool) → t ≡ false → first_with test l ≡ None → cond t (Some x) (first_with test l) ≡ None
    go true e ih = let z : ◌≡◌ {A = ℕ} 0 1 = cc in absurd (omega arith)
    go false e ih = ih

-- over a range, the lowest
pub record Lowest (test : ℕ → Bool) (a n v : ℕ) : Type 0 where
  pub from : a ≤ v
  pub below : v < a + n
  pub passes : test v ≡ true
  pub none_below : (u : ℕ) → a ≤ u → u < v → test u ≡ false

first_some : (test : ℕ → Bool) (a n v : ℕ) → first_with test (range a n) ≡ Some v → Lowest test a n v
first_some test a zero v e = let z : ◌≡◌ {A = ℕ} 0 1 = cc in absurd (omega arith)
first_some test a (suc n) v e = go (test a) refl e (first_some test (suc a) n v)
  where
    go : (t : Bool) → test a ≡ t → cond t (Some a) (first_with test (range (suc a) n)) ≡ Some v → (first_with test (range (suc a) n) ≡ Some v → Lowest test (suc a) n v) → Lowest test a (suc n) v
    go true h q ih = let e : a ≡ v = cc in record { from = omega arith; below = omega arith; passes = ap test (sym e) ∙ h; none_below = λ u l k. absurd (omega arith) }
    go false h q ih = let r : Lowest test (suc a) n v = ih q in record { from = omega (arith, r.from); below = omega (arith, r.below); passes = r.passes; none_below = λ u l k. low r u l k (equal? u a) }
      where
        low : Lowest test (suc a) n v → (u : ℕ) → a ≤ u → u < v → (u ≡ a) ⊎ (u ≢ a) → test u ≡ false
        low r u l k (inl s) = ap test s ∙ h
        low r u l k (inr d) = r.none_below u (omega arith) k

-- ---- tests of equality

pub differs_no : (a b : ℕ) → not (eqb a b) ≡ false → a ≡ b
differs_no a b e = by (eqb a b) e (λ t. eqb→eq a b t)
  where
    by : (t : Bool) → not t ≡ false → (T t → a ≡ b) → a ≡ b
    by true e f = f tt
    by false e f = let z : ◌≡◌ {A = ℕ} 0 1 = cc in absurd (omega arith)

pub no_differs : (a b : ℕ) → a ≡ b → not (eqb a b) ≡ false
no_differs a b e = by (eqb a b) (subst (λ z. T (eqb a z)) e (eqb_refl a))
  where
    by : (t : Bool) → T t → not t ≡ false
    by true e = refl
    by false e = absurd e

-- ---- the numbers of a range, and of children

pub range_in : (a n v : ℕ) → count v (range a n) ≢ 0 → (a ≤ v) × (v < a + n)
range_in a zero v m = absurd (m refl)
range_in a (suc n) v m = go (range_in (suc a) n v) (equal? v a)
  where
    go : (count v (range (suc a) n) ≢ 0 → (suc a ≤ v) × (v < suc a + n)) → (v ≡ a) ⊎ (v ≢ a) → (a ≤ v) × (v < a + suc n)
    go rest (inl e) = omega arith
    go rest (inr d) = let r : (suc a ≤ v) × (v < suc a + n) = rest (omega (arith, delta_ne v a d)) in omega arith

pub in_range : (a n v : ℕ) → a ≤ v → v < a + n → count v (range a n) ≢ 0
in_range a zero v h l = absurd (omega arith)
in_range a (suc n) v h l = go (in_range (suc a) n v) (equal? v a)
  where
    go : (suc a ≤ v → v < suc a + n → count v (range (suc a) n) ≢ 0) → (v ≡ a) ⊎ (v ≢ a) → delta v a + count v (range (suc a) n) ≢ 0
    go rest (inl e) = omega (arith, ap (λ z. delta z a) e, delta_self a)
    go rest (inr d) = omega (arith, rest (omega arith) (omega arith))

-- what reading the listing has made sure of: 2n - 1 parents, each below 2n and none a sink
pub record Read (n : ℕ) (P : List ℕ) : Type 0 where
  pub some_sink : 1 ≤ n
  pub size : suc (length P) ≡ 2 * n
  pub inside : (i : ℕ) → i < length P → get_or P i 0 < 2 * n
  pub no_sink_lem : (i : ℕ) → i < length P → (get_or P i 0 ≡ 0) ⊎ (n < get_or P i 0)

-- the numbers of children where none is wrong
module _ (n : ℕ) (P : List ℕ) (w : wrong_children n P ≡ None) where
  counts : (v : ℕ) → count v (0 ∷ branch_numbers n) ≢ 0 → not (eqb (count v P) (due_children v)) ≡ false
  counts = first_none (λ v. not (eqb (count v P) (due_children v))) (0 ∷ branch_numbers n) w

  pub root_one : count 0 P ≡ 1
  root_one = differs_no (count 0 P) 1 (counts 0 (omega (arith, delta_self 0)))

  pub branch_two : (b : ℕ) → n < b → b < 2 * n → count b P ≡ 2
  branch_two zero l h = absurd (omega arith)
  branch_two (suc b) l h = differs_no (count (suc b) P) 2 (counts (suc b) (omega (arith, in_range (suc n) (n - 1) (suc b) l (omega arith))))

  -- then none is left for the sinks
  pub sink_none : suc (length P) ≡ 2 * n → ((i : ℕ) → i < length P → get_or P i 0 < 2 * n) → (s : ℕ) → 1 ≤ s → s ≤ n → count s P ≡ 0
  sink_none size inside s s1 sn =
      let f : ℕ → ℕ = λ u. count u P * 1 in
      let e : 2 * n ≡ 1 + (n + (n - 1)) = omega arith in
      omega (
        arith,
        regroup P (2 * n) (λ u. 1) inside,
        sum_places 0 P (λ u. 1) (λ u. 1) (λ i h. refl),
        sum_ones 0 (length P),
        ap (λ k. sum 0 k f) e,
        sum_split 0 1 (n + (n - 1)) f,
        sum_split 1 n (n - 1) f,
        sum_cong (1 + n) (n - 1) f (λ u. 2 * 1) (λ u p q. omega (arith, branch_two u (omega arith) (omega arith))),
        sum_scale (1 + n) (n - 1) 2 (λ u. 1),
        sum_ones (1 + n) (n - 1),
        sum_member 1 n f s s1 (omega arith),
        root_one,
      )

-- ---- what is found is the lowest

pub unreached_lowest : (n : ℕ) (P : List ℕ) (v : ℕ) → unreached n P ≡ Some v → Lowest (λ v. not (eqb (ancestor (parent_of P) (2 * n - 1) v) 0)) 1 (2 * n - 1) v
unreached_lowest n P v e = first_some (λ v. not (eqb (ancestor (parent_of P) (2 * n - 1) v) 0)) 1 (2 * n - 1) v e

-- the root first
pub wrong_lowest : (n : ℕ) (P : List ℕ) (v : ℕ) → wrong_children n P ≡ Some v
    → ((v ≡ 0) × (count 0 P ≢ 1)) ⊎ ((count 0 P ≡ 1) × Lowest (λ v. not (eqb (count v P) (due_children v))) (suc n) (n - 1) v)
wrong_lowest n P v e = go (eqb (count 0 P) 1) (λ t. eqb→eq (count 0 P) 1 t) (λ q. subst (λ i. T (eqb i 1)) (sym q) (eqb_refl 1)) e
  where
    test : ℕ → Bool
    test v = not (eqb (count v P) (due_children v))

    go : (t : Bool) → (T t → count 0 P ≡ 1) → (count 0 P ≡ 1 → T t) → cond (not t) (Some 0) (first_with (λ v. not (eqb (count v P) (due_children v))) (branch_numbers n)) ≡ Some v
        → ((v ≡ 0) × (count 0 P ≢ 1)) ⊎ ((count 0 P ≡ 1) × Lowest (λ v. not (eqb (count v P) (due_children v))) (suc n) (n - 1) v)
    go true f g q = inr (f tt, first_some (λ v. not (eqb (count v P) (due_children v))) (suc n) (n - 1) v q)
    go false f g q = inl ((let z : 0 ≡ v = cc in sym z), g)
