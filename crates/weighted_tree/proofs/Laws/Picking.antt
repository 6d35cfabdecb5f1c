-- The first two of the free vertices, ordered by total weight and number, are two of the least total weight. Assumes nothing.
use mathlib.Core.Path.{◌≡◌, refl, sym, ap, ◌∙◌, subst}
use mathlib.Core.Bool.{Bool, true, false, cond}
use mathlib.Core.Logic.{◌≢◌, ◌⊎◌, inl, inr}
use mathlib.Core.List.{List, [], ◌∷◌}
use Prim.Native.Nat.{ℕ, zero, suc, ◌+◌, ◌*◌, ◌≤◌, ◌<◌, zero-le}
use native.Mathlib.Decide.{dec_le}
use native.Mathlib.Omega.{arith}
use borrow.Author.Tests.{ltb-true, ltb-false}
use lib.ListN.{length, get_or}
use lib.Dec.{ltb}
use lib.IntN.{pos}
use lib.Signed.{◌≤ℤ◌}
use Rattle.quantities.specs.Inner.Linear.{whole}
use Rattle.tree.specs.Lists.{delta, count, range}
use Rattle.tree.specs.Tree.{parent_of}
use Rattle.tree.specs.Weights.{weight_of}
use Rattle.tree.proofs.Laws.Lists.Sums.{equal?, delta_self, delta_ne, delta_eq, ones_length, down_low, down_out, down_once}
use Rattle.tree.proofs.Laws.Trees.LegalTrees.{bag}
use Rattle.tree.proofs.Laws.Planning.BeforeSettling.{Rising, sort_count, sort_length, sort_rising}
use Rattle.tree.proofs.Laws.Settling.SlackKept.{range_count, times_child}
use Rattle.weighted_tree.specs.Joining.{lighter, free, Joining, waiting}
use Rattle.weighted_tree.proofs.Laws.Forests.{Forest, Pick}

-- ---- the free vertices

-- they are the active ones of the forest
module _ (N k : ℕ) (A P : List ℕ) (w : ℕ → ℕ) (F : Forest N k A w (parent_of P)) where
  free_count : (v : ℕ) → count v (free (N + k) P) ≡ count v A
  free_count v = times_child (parent_of P) 0 (range 1 (N + k)) v ∙ go v (dec_le v (N + k))
    where
      out : (v : ℕ) → (v ≢ 0 → N + k < v) → count v A ≡ 0
      out v h = by (equal? (count v A) 0)
        where
          by : (count v A ≡ 0) ⊎ (count v A ≢ 0) → count v A ≡ 0
          by (inl e) = e
          by (inr d) = absurd (omega (arith, F.range v d, h (omega (arith, F.range v d))))

      go : (v : ℕ) → Dec (v ≤ N + k) → count v (range 1 (N + k)) * delta 0 (parent_of P v) ≡ count v A
      go zero d = rw (range_count (N + k) 0 ∙ down_low 0 (N + k) 0 zero-le) (omega (arith, out 0 (λ n. absurd (n refl))))
      go (suc v) (yes l) = rw (range_count (N + k) (suc v) ∙ down_once 0 (N + k) (suc v) (omega arith) (omega arith)) (omega (arith, F.alive (suc v) (omega arith) l))
      go (suc v) (no l) = rw (range_count (N + k) (suc v) ∙ down_out 0 (N + k) (suc v) (omega arith)) (omega (arith, out (suc v) (λ n. omega arith)))

  below : (v : ℕ) → count v A ≢ 0 → v < suc (N + k)
  below v q = omega (arith, F.range v q)

  free_length : length (free (N + k) P) ≡ length A
  free_length =
      sym (ones_length (free (N + k) P))
      ∙ bag (suc (N + k)) (free (N + k) P) A (λ x. 1) (λ v q. below v (omega (arith, free_count v))) below (λ v l. free_count v)
      ∙ ones_length A

-- ---- the order

lighter_says : (W : List ℕ) (x y : ℕ) (u : Bool) → lighter W x y ≡ u → cond u (pos (weight_of W x) ≤ℤ pos (weight_of W y)) (pos (weight_of W y) ≤ℤ pos (weight_of W x))
lighter_says W x y u e = go (ltb (weight_of W x) (weight_of W y)) refl (ltb (weight_of W y) (weight_of W x)) refl u e
  where
    a : ℕ
    a = weight_of W x

    b : ℕ
    b = weight_of W y

    le : (u : Bool) → a ≡ b → cond u (pos a ≤ℤ pos b) (pos b ≤ℤ pos a)
    le true e = omega (arith, whole)
    le false e = omega (arith, whole)

    go : (s : Bool) → ltb a b ≡ s → (t : Bool) → ltb b a ≡ t → (u : Bool) → cond s true (cond t false (ltb x y)) ≡ u → cond u (pos a ≤ℤ pos b) (pos b ≤ℤ pos a)
    go true p t q u r = subst (λ (u : Bool). cond u (pos a ≤ℤ pos b) (pos b ≤ℤ pos a)) r (let h : pos a ≤ℤ pos b = omega (arith, whole, ltb-true a b p) in h)
    go false p true q u r = subst (λ (u : Bool). cond u (pos a ≤ℤ pos b) (pos b ≤ℤ pos a)) r (let h : pos b ≤ℤ pos a = omega (arith, whole, ltb-true b a q) in h)
    go false p false q u r = le u (omega (arith, ltb-false a b p, ltb-false b a q))

-- ---- the first two

module _ (N k : ℕ) (A : List ℕ) (J : Joining) (F : Forest N k A (weight_of J.totals) (parent_of J.parents)) (more : suc k < N) where
  abbrev W : ℕ → ℕ
  W = weight_of J.totals

  abbrev p : ℕ → ℕ
  p = parent_of J.parents

  active : (v : ℕ) → count v A ≢ 0 → (1 ≤ v) × (v ≤ N + k) × (p v ≡ 0) × (count v A ≡ 1)
  active v q =
      let r : (1 ≤ v) × (v ≤ N + k) = F.range v q in
      let e : 0 ≡ p v = delta_eq 0 (p v) (omega (arith, F.alive v r.0 r.1)) in
      (r.0, r.1, sym e, F.alive v r.0 r.1 ∙ ap (delta 0) (sym e))

  first_two : (l : List ℕ) → ((v : ℕ) → count v l ≡ count v A) → length l ≡ length A → Rising (λ v. pos (W v)) l → Pick N k W p (get_or l 0 0) (get_or l 1 0)
  first_two [] e n r = absurd (omega (arith, F.size))
  first_two (x ∷ []) e n r = absurd (omega (arith, F.size))
  first_two (x ∷ (y ∷ l)) e n r = record {
    apart = λ q. absurd (omega (arith, e x, ax.3, delta_self x, ap (delta x) q));
    x_in = (ax.0, ax.1);
    y_in = (ay.0, ay.1);
    x_free = ax.2;
    y_free = ay.2;
    order = omega (arith, whole, r.0 y (omega (arith, delta_self y)));
    least = λ z a b f nx ny. omega (arith, whole, r.1.0 z (omega (arith, e z, F.alive z a b, ap (delta 0) f, delta_ne z x nx, delta_ne z y ny)));
  }
    where
      ax : (1 ≤ x) × (x ≤ N + k) × (p x ≡ 0) × (count x A ≡ 1)
      ax = active x (omega (arith, e x, delta_self x))

      ay : (1 ≤ y) × (y ≤ N + k) × (p y ≡ 0) × (count y A ≡ 1)
      ay = active y (omega (arith, e y, delta_self y))

  pub pick : Pick N k W p (get_or (waiting (N + k) J) 0 0) (get_or (waiting (N + k) J) 1 0)
  pick = first_two (waiting (N + k) J)
      (λ v. sort_count (lighter J.totals) (free (N + k) J.parents) v ∙ free_count N k A J.parents W F v)
      (sort_length (lighter J.totals) (free (N + k) J.parents) ∙ free_length N k A J.parents W F)
      (sort_rising (λ v. pos (W v)) (lighter J.totals) (lighter_says J.totals) (free (N + k) J.parents))
