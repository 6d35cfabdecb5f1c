-- The planned tree before settling, under any tie rule: the order rises, the choice is a best edge, and every insertion keeps what holds of the tree so far. Assumes nothing.
use Prim.Native.Nat.{ℕ, zero, suc, ◌+◌, ◌*◌, ◌-◌, ◌≤◌, ◌<◌, zero-le}
use mathlib.Core.Path.{◌≡◌, refl, sym, ap, ◌∙◌, subst}
use mathlib.Core.Bool.{Bool, true, false, cond}
use mathlib.Core.Logic.{◌≢◌, ◌⊎◌, inl, inr, ⊎_elim}
use mathlib.Core.List.{List, [], ◌∷◌, ◌++◌, map}
use native.Mathlib.Nat.{zero-add}
use native.Mathlib.Omega.{arith}
use lib.ListN.{length, take, drop, replicate, length-set, length-replicate, length-take}
use lib.Dec.{ltb}
use lib.IntN.{ℤ, pos, ◌-ℤ◌}
use lib.Signed.{◌≤ℤ◌, lt_z, ≤ℤ_refl}
use Rattle.quantities.proofs.Laws.MinMax.{min_is, total}
use Rattle.quantities.specs.Inner.Linear.{whole}
use Rattle.quantities.specs.MinMax.{min_ℤ}
use Rattle.tree.proofs.Laws.Trees.Growing.{split_tree, PartTree}
use Rattle.tree.proofs.Laws.Planning.KeepsBest.{Least, ≤ℤ_trans, Grown, start, after, grow, splits, fuel}
use Rattle.tree.proofs.Laws.Trees.LegalTrees.{sum_down, hangs}
use Rattle.tree.proofs.Laws.Measures.VertexDelays.{tree_more, dep_more, unsettled_is}
use Rattle.tree.proofs.Laws.Lists.Tables.{range_length}
use Rattle.tree.proofs.Laws.Lists.Sums.{sum, sum_over-append, equal?, delta_self, delta_ne, down_in, down_once}
use Rattle.tree.specs.Lists.{sum_over, delta, count, down, range, least_from, least}
use Rattle.tree.specs.Measures.{slack}
use Rattle.tree.specs.Net.{Net, size, sink_numbers, own_slack}
use Rattle.tree.specs.Planning.{split, earlier, insert, sort, order, unsettled, worst_after, TieRule, ranks, best, best_of, chosen, insert_all, parents_after, plan_parents}
use Rattle.tree.specs.Tree.{parent_of}

-- ---- the least over a list of sinks

pub min_one : (a b : ℤ) → (min_ℤ a b ≡ a) ⊎ (min_ℤ a b ≡ b)
min_one a b = ⊎_elim (λ h. inl (omega (arith, whole, min_is a b))) (λ h. inr (omega (arith, whole, min_is a b))) (total a b)

pub record From (f : ℕ → ℤ) (x : ℤ) (l : List ℕ) (w : ℤ) : Type 0 where
  pub first : w ≤ℤ x
  pub rest : (y : ℕ) → count y l ≢ 0 → w ≤ℤ f y
  pub one : (w ≡ x) ⊎ ((y : ℕ) × (count y l ≢ 0) × (f y ≡ w))

from_more : (f : ℕ → ℤ) (x : ℤ) (z : ℕ) (l : List ℕ) (w : ℤ) → From f (min_ℤ x (f z)) l w → From f x (z ∷ l) w
from_more f x z l w r = record { first = fst; rest = λ y m. rst y m (equal? y z); one = which r.one }
  where
    fst : w ≤ℤ x
    fst = let h : w ≤ℤ min_ℤ x (f z) = r.first in omega (arith, whole, min_is x (f z))

    rst : (y : ℕ) → delta y z + count y l ≢ 0 → (y ≡ z) ⊎ (y ≢ z) → w ≤ℤ f y
    rst y m (inl e) = let h : w ≤ℤ min_ℤ x (f z) = r.first in rw e (omega (arith, whole, min_is x (f z)))
    rst y m (inr d) = r.rest y (omega (arith, delta_ne y z d))

    which : (w ≡ min_ℤ x (f z)) ⊎ ((y : ℕ) × (count y l ≢ 0) × (f y ≡ w)) → (w ≡ x) ⊎ ((y : ℕ) × (delta y z + count y l ≢ 0) × (f y ≡ w))
    which (inl e) = ⊎_elim (λ q. inl (e ∙ q)) (λ q. inr (z, omega (arith, delta_self z), sym (e ∙ q))) (min_one x (f z))
    which (inr q) = inr (q.0, omega (arith, q.1), q.2)

from_law : (f : ℕ → ℤ) (x : ℤ) (l : List ℕ) → From f x l (least_from x (map f l))
from_law f x [] = record { first = ≤ℤ_refl x; rest = λ y m. absurd (m refl); one = inl refl }
from_law f x (z ∷ l) = from_more f x z l (least_from (min_ℤ x (f z)) (map f l)) (from_law f (min_ℤ x (f z)) l)

pub least_law : (f : ℕ → ℤ) (x : ℕ) (l : List ℕ) → Least (x ∷ l) f (least (map f (x ∷ l)))
least_law f x l = go r.one
  where
    w : ℤ
    w = least_from (f x) (map f l)

    r : From f (f x) l w
    r = from_law f (f x) l

    below : (y : ℕ) → delta y x + count y l ≢ 0 → (y ≡ x) ⊎ (y ≢ x) → w ≤ℤ f y
    below y m (inl e) = rw e r.first
    below y m (inr d) = r.rest y (omega (arith, delta_ne y x d))

    go : (w ≡ f x) ⊎ ((y : ℕ) × (count y l ≢ 0) × (f y ≡ w)) → Least (x ∷ l) f w
    go (inl e) = record { below = λ y m. below y m (equal? y x); at = x; in_list = omega (arith, delta_self x); is = sym e }
    go (inr q) = record { below = λ y m. below y m (equal? y x); at = q.0; in_list = omega (arith, q.1); is = q.2 }

least_cong : (S : List ℕ) (f g : ℕ → ℤ) (w : ℤ) → ((y : ℕ) → count y S ≢ 0 → f y ≡ g y) → Least S f w → Least S g w
least_cong S f g w e l = record {
  below = λ y m. subst (λ z. w ≤ℤ z) (e y m) (l.below y m);
  at = l.at;
  in_list = l.in_list;
  is = sym (e l.at l.in_list) ∙ l.is;
}

-- ---- the chosen edge attains the largest worst slack, whatever the tie rule

pub record Top (f : ℕ → ℤ) (v : ℕ) (l : List ℕ) (r : ℕ) : Type 0 where
  pub first : f v ≤ℤ f r
  pub rest : (u : ℕ) → count u l ≢ 0 → f u ≤ℤ f r
  pub one : (r ≡ v) ⊎ (count r l ≢ 0)

-- what the comparison says of the two
ranks_says : (a b : ℤ) (t u : Bool) → ranks a b t ≡ u → cond u (b ≤ℤ a) (a ≤ℤ b)
ranks_says a b t true e = go (lt_z b a) (lt_z a b) refl refl e
  where
    go : (p q : Bool) → lt_z b a ≡ p → lt_z a b ≡ q → cond p true (cond q false t) ≡ true → b ≤ℤ a
    go true q x y e = omega (arith, whole)
    go false true x y e = let z : ◌≡◌ {A = ℕ} 0 1 = cc in absurd (omega arith)
    go false false x y e = omega (arith, whole)
ranks_says a b t false e = go (lt_z b a) (lt_z a b) refl refl e
  where
    go : (p q : Bool) → lt_z b a ≡ p → lt_z a b ≡ q → cond p true (cond q false t) ≡ false → a ≤ℤ b
    go true q x y e = let z : ◌≡◌ {A = ℕ} 0 1 = cc in absurd (omega arith)
    go false q x y e = omega (arith, whole)

best_law : (f : ℕ → ℤ) (tie : ℕ → ℕ → Bool) (v : ℕ) (l : List ℕ) → Top f v l (best f tie v (f v) l)
best_law f tie v [] = record { first = ≤ℤ_refl (f v); rest = λ u m. absurd (m refl); one = inl refl }
best_law f tie v (u ∷ l) = go (ranks (f u) (f v) (tie u v)) refl (best_law f tie u l) (best_law f tie v l)
  where
    go : (t : Bool) → ranks (f u) (f v) (tie u v) ≡ t → Top f u l (best f tie u (f u) l) → Top f v l (best f tie v (f v) l)
        → Top f v (u ∷ l) (elim t [ true ↦ best f tie u (f u) l | false ↦ best f tie v (f v) l ])
    go true e a b = record { first = ≤ℤ_trans (f v) (f u) _ h a.first; rest = λ y m. rest y m (equal? y u); one = inr (one a.one) }
      where
        h : f v ≤ℤ f u
        h = ranks_says (f u) (f v) (tie u v) true e

        r : ℕ
        r = best f tie u (f u) l

        rest : (y : ℕ) → delta y u + count y l ≢ 0 → (y ≡ u) ⊎ (y ≢ u) → f y ≤ℤ f r
        rest y m (inl q) = rw q a.first
        rest y m (inr d) = a.rest y (omega (arith, delta_ne y u d))

        one : (r ≡ u) ⊎ (count r l ≢ 0) → delta r u + count r l ≢ 0
        one (inl q) = omega (arith, delta_self u, ap (λ z. delta z u) q)
        one (inr m) = omega arith
    go false e a b = record { first = b.first; rest = λ y m. rest y m (equal? y u); one = ⊎_elim (λ q. inl q) (λ m. inr (omega arith)) b.one }
      where
        h : f u ≤ℤ f v
        h = ranks_says (f u) (f v) (tie u v) false e

        r : ℕ
        r = best f tie v (f v) l

        rest : (y : ℕ) → delta y u + count y l ≢ 0 → (y ≡ u) ⊎ (y ≢ u) → f y ≤ℤ f r
        rest y m (inl q) = rw q (≤ℤ_trans (f u) (f v) (f r) h b.first)
        rest y m (inr d) = b.rest y (omega (arith, delta_ne y u d))

pub best_member : (f : ℕ → ℤ) (tie : ℕ → ℕ → Bool) (v : ℕ) (l : List ℕ) → count (best_of f tie (v ∷ l)) (v ∷ l) ≢ 0
best_member f tie v l = go (best_law f tie v l).one
  where
    r : ℕ
    r = best f tie v (f v) l

    go : (r ≡ v) ⊎ (count r l ≢ 0) → delta r v + count r l ≢ 0
    go (inl q) = omega (arith, delta_self v, ap (λ z. delta z v) q)
    go (inr m) = omega arith

pub best_largest : (f : ℕ → ℤ) (tie : ℕ → ℕ → Bool) (v : ℕ) (l : List ℕ) (u : ℕ) → count u (v ∷ l) ≢ 0 → f u ≤ℤ f (best_of f tie (v ∷ l))
best_largest f tie v l u m = go (equal? u v)
  where
    go : (u ≡ v) ⊎ (u ≢ v) → f u ≤ℤ f (best_of f tie (v ∷ l))
    go (inl e) = rw e (best_law f tie v l).first
    go (inr d) = (best_law f tie v l).rest u (omega (arith, delta_ne u v d))

-- ---- the order

-- x is before y in the order only if its own slack is no larger
earlier_says : (N : Net) (x y : ℕ) (u : Bool) → earlier N x y ≡ u → cond u (own_slack N x ≤ℤ own_slack N y) (own_slack N y ≤ℤ own_slack N x)
earlier_says N x y u e = ranks_says (own_slack N y) (own_slack N x) (ltb x y) u e

pub insert_count : (before : ℕ → ℕ → Bool) (x : ℕ) (l : List ℕ) (y : ℕ) → count y (insert before x l) ≡ delta y x + count y l
insert_count before x [] y = refl
insert_count before x (z ∷ l) y = go (before x z) (insert_count before x l y)
  where
    go : (t : Bool) → count y (insert before x l) ≡ delta y x + count y l → count y (elim t [ true ↦ x ∷ (z ∷ l) | false ↦ z ∷ insert before x l ]) ≡ delta y x + (delta y z + count y l)
    go true ih = refl
    go false ih = omega arith

pub sort_count : (before : ℕ → ℕ → Bool) (l : List ℕ) (y : ℕ) → count y (sort before l) ≡ count y l
sort_count before [] y = refl
sort_count before (x ∷ l) y = omega (arith, insert_count before x (sort before l) y, sort_count before l y)

-- each has an own slack no larger than those after it
abbrev pub Rising : (ℕ → ℤ) → List ℕ → Type 0
Rising o [] = Unit {0}
Rising o (x ∷ l) = ((y : ℕ) → count y l ≢ 0 → o x ≤ℤ o y) × Rising o l

module _ (o : ℕ → ℤ) (before : ℕ → ℕ → Bool) (says : (x y : ℕ) (u : Bool) → before x y ≡ u → cond u (o x ≤ℤ o y) (o y ≤ℤ o x)) where
  insert_rising : (x : ℕ) (l : List ℕ) → Rising o l → Rising o (insert before x l)
  insert_rising x [] r = ((λ y m. absurd (m refl)), tt)
  insert_rising x (z ∷ l) r = go (before x z) refl (insert_rising x l r.1)
    where
      go : (t : Bool) → before x z ≡ t → Rising o (insert before x l) → Rising o (elim t [ true ↦ x ∷ (z ∷ l) | false ↦ z ∷ insert before x l ])
      go true e ih = ((λ y m. le y m (equal? y z)), r)
        where
          h : o x ≤ℤ o z
          h = says x z true e

          le : (y : ℕ) → delta y z + count y l ≢ 0 → (y ≡ z) ⊎ (y ≢ z) → o x ≤ℤ o y
          le y m (inl q) = rw q h
          le y m (inr d) = ≤ℤ_trans (o x) (o z) (o y) h (r.0 y (omega (arith, delta_ne y z d)))
      go false e ih = ((λ y m. le y m (equal? y x)), ih)
        where
          h : o z ≤ℤ o x
          h = says x z false e

          le : (y : ℕ) → count y (insert before x l) ≢ 0 → (y ≡ x) ⊎ (y ≢ x) → o z ≤ℤ o y
          le y m (inl q) = rw q h
          le y m (inr d) = r.0 y (omega (arith, insert_count before x l y, delta_ne y x d))

  pub sort_rising : (l : List ℕ) → Rising o (sort before l)
  sort_rising [] = tt
  sort_rising (x ∷ l) = insert_rising x (sort before l) (sort_rising l)

insert_length : (before : ℕ → ℕ → Bool) (x : ℕ) (l : List ℕ) → length (insert before x l) ≡ suc (length l)
insert_length before x [] = refl
insert_length before x (z ∷ l) = go (before x z) (insert_length before x l)
  where
    go : (t : Bool) → length (insert before x l) ≡ suc (length l) → length {A = ℕ} (elim t [ true ↦ x ∷ (z ∷ l) | false ↦ z ∷ insert before x l ]) ≡ suc (suc (length l))
    go true ih = refl
    go false ih = ap suc ih

pub sort_length : (before : ℕ → ℕ → Bool) (l : List ℕ) → length (sort before l) ≡ length l
sort_length before [] = refl
sort_length before (x ∷ l) = insert_length before x (sort before l) ∙ ap suc (sort_length before l)

pub sum_over_range : (a n : ℕ) (f : ℕ → ℕ) → sum_over (range a n) f ≡ sum a n f
sum_over_range a zero f = refl
sum_over_range a (suc n) f = ap (λ z. f a + z) (sum_over_range (suc a) n f)

-- each sink stands once in the order, and nothing else
pub order_count : (N : Net) (y : ℕ) → count y (order N) ≡ count y (down 0 (size N))
order_count N y = sort_count (earlier N) (sink_numbers (size N)) y ∙ sum_over_range 1 (size N) (delta y) ∙ sum_down 0 (size N) (delta y)

pub order_length : (N : Net) → length (order N) ≡ size N
order_length N = sort_length (earlier N) (sink_numbers (size N)) ∙ range_length 1 (size N)

pub order_rising : (N : Net) → Rising (own_slack N) (order N)
order_rising N = sort_rising (own_slack N) (earlier N) (λ x y u e. earlier_says N x y u e) (sink_numbers (size N))

-- ---- the loop

take_count : (y j : ℕ) (l : List ℕ) → count y (take j l) ≤ count y l
take_count y zero l = zero-le
take_count y (suc j) [] = zero-le
take_count y (suc j) (x ∷ l) = omega (arith, take_count y j l)

take_rising : (o : ℕ → ℤ) (j : ℕ) (l : List ℕ) → Rising o l → Rising o (take j l)
take_rising o zero l r = tt
take_rising o (suc j) [] r = tt
take_rising o (suc j) (x ∷ l) r = ((λ y m. r.0 y (omega (arith, take_count y j l))), take_rising o j l r.1)

pub take_all : (l : List ℕ) → take (length l) l ≡ l
take_all [] = refl
take_all (x ∷ l) = ap (λ r. x ∷ r) (take_all l)

pub count-append : (y : ℕ) (l r : List ℕ) → count y (l ++ r) ≡ count y l + count y r
count-append y l r = sum_over-append l r (delta y)

split_length : (P : List ℕ) (n k s x : ℕ) → length (split P n k s x) ≡ length P
split_length P n k s x = simp length-set

module _ (tie : TieRule) (N : Net) (c1 : 0 < N.branch) where
  module _ {z : ℕ} {S : List ℕ} {k : ℕ} {P : List ℕ} (g : Grown (size N) N.branch (own_slack N) (z ∷ S) k P) (s : ℕ)
      (s1 : 1 ≤ s) (sN : s ≤ size N) (fresh : count s (z ∷ S) ≡ 0) (kN : suc k < size N) (rising : (y : ℕ) → count y (z ∷ S) ≢ 0 → own_slack N y ≤ℤ own_slack N s) where
    -- the worst slack that the choice looks at is the least that the theorem speaks of
    pub after_is : (x : ℕ) → count x (z ∷ S) + count x (down (size N) k) ≢ 0
        → Least (s ∷ (z ∷ S)) (after (size N) N.branch (own_slack N) k P s x) (worst_after N (z ∷ S) k P s x)
    after_is x hx = least_cong (s ∷ (z ∷ S)) (slack N (unsettled N Q)) (after (size N) N.branch (own_slack N) k P s x) _ same_slack (least_law (slack N (unsettled N Q)) s (z ∷ S))
      where
        Q : List ℕ
        Q = split P (size N) k s x

        t : PartTree (size N) (s ∷ (z ∷ S)) (suc k) (2 * suc k + 1) (parent_of Q)
        t = rw (fuel g c1 s s1 sN fresh kN rising) (split_tree g.tree (splits g c1 s s1 sN fresh kN rising x hx) hx s1 sN fresh)

        more : 2 * suc k + 1 ≤ length Q
        more = omega (arith, split_length P (size N) k s x, g.size)

        same_slack : (y : ℕ) → count y (s ∷ (z ∷ S)) ≢ 0 → slack N (unsettled N Q) y ≡ after (size N) N.branch (own_slack N) k P s x y
        same_slack y m = unsettled_is N Q (tree_more t (length Q) more) y m ∙ ap (λ j. own_slack N y -ℤ pos (j * N.branch)) (dep_more t (length Q) more y m)

    pub step : Grown (size N) N.branch (own_slack N) (s ∷ (z ∷ S)) (suc k) (split P (size N) k s (chosen tie N (z ∷ S) k P s))
    step = grow g c1 s s1 sN fresh kN rising f v hv after_is (λ x hx. best_largest f (tie N P s) z (S ++ down (size N) k) x (omega (arith, count-append x S (down (size N) k))))
      where
        f : ℕ → ℤ
        f = worst_after N (z ∷ S) k P s

        v : ℕ
        v = chosen tie N (z ∷ S) k P s

        hv : count v (z ∷ S) + count v (down (size N) k) ≢ 0
        hv = omega (arith, best_member f (tie N P s) z (S ++ down (size N) k), count-append v S (down (size N) k))

  -- what a run of the loop ends with: k branch points, and the sinks in the order of insertion, the last first; each stands as often as t says
  pub record Done (k : ℕ) (t : ℕ → ℕ) (P : List ℕ) : Type 0 where
    pub sinks : List ℕ
    pub grown : Grown (size N) N.branch (own_slack N) sinks k P
    pub all : (y : ℕ) → count y sinks ≡ t y

  pub loop : (todo : List ℕ) (z : ℕ) (S : List ℕ) (k : ℕ) (P : List ℕ) → Grown (size N) N.branch (own_slack N) (z ∷ S) k P
      → length todo + k < size N → ((y : ℕ) → count y (z ∷ S) + count y todo ≤ count y (down 0 (size N)))
      → ((x y : ℕ) → count x (z ∷ S) ≢ 0 → count y todo ≢ 0 → own_slack N x ≤ℤ own_slack N y) → Rising (own_slack N) todo
      → Done (length todo + k) (λ y. count y (z ∷ S) + count y todo) (insert_all tie N todo (z ∷ S) k P)
  loop [] z S k P g e all mixed rise = record { sinks = z ∷ S; grown = rw zero-add g; all = λ y. omega arith }
  loop (s ∷ todo) z S k P g e all mixed rise =
      let r : Done (length todo + suc k) (λ y. count y (s ∷ (z ∷ S)) + count y todo) (insert_all tie N todo (s ∷ (z ∷ S)) (suc k) (split P (size N) k s (chosen tie N (z ∷ S) k P s))) =
      loop todo s (z ∷ S) (suc k) (split P (size N) k s (chosen tie N (z ∷ S) k P s))
      (step g s s1 sN fresh (omega arith) (λ y m. mixed y s m here)) (omega arith) (λ y. omega (arith, all y)) (λ x y mx my. mix x y mx my (equal? x s)) rise.1 in
      let q : suc (length todo) + k ≡ length todo + suc k = omega arith in
      record { sinks = r.sinks; grown = rw q r.grown; all = λ y. omega (arith, r.all y) }
    where
      here : delta s s + count s todo ≢ 0
      here = omega (arith, delta_self s)

      in_range : (1 ≤ s) × (s ≤ size N)
      in_range = omega (arith, down_in 0 (size N) s (omega (arith, all s, delta_self s)))

      s1 : 1 ≤ s
      s1 = in_range.0

      sN : s ≤ size N
      sN = in_range.1

      fresh : count s (z ∷ S) ≡ 0
      fresh = omega (arith, all s, delta_self s, down_once 0 (size N) s s1 (omega (arith, sN)))

      mix : (x y : ℕ) → count x (s ∷ (z ∷ S)) ≢ 0 → count y todo ≢ 0 → (x ≡ s) ⊎ (x ≢ s) → own_slack N x ≤ℤ own_slack N y
      mix x y mx my (inl q) = rw q (rise.0 y my)
      mix x y mx my (inr d) = mixed x y (omega (arith, delta_ne x s d)) (omega arith)

  -- the first j sinks after the first one are in
  pub after_insertions : (j : ℕ) → j < size N → Done j (λ y. count y (take (suc j) (order N))) (parents_after tie N j)
  after_insertions j jn = go (order N) (order_length N) (order_count N) (order_rising N)
    where
      P : List ℕ
      P = replicate (2 * size N - 1) 0

      go : (l : List ℕ) → length l ≡ size N → ((y : ℕ) → count y l ≡ count y (down 0 (size N))) → Rising (own_slack N) l
          → Done j (λ y. count y (take (suc j) l)) (insert_all tie N (take j (drop 1 l)) (take 1 l) 0 P)
      go [] e all rise = absurd (omega arith)
      go (s ∷ l) e all rise =
          let r : Done (length (take j l) + 0) (λ y. count y (s ∷ []) + count y (take j l)) (insert_all tie N (take j l) (s ∷ []) 0 P) =
          loop (take j l) s [] 0 P
          (start (size N) N.branch s (own_slack N) P (omega (arith, length-replicate (2 * size N - 1) zero)) in_range.0 in_range.1 (hangs (2 * size N - 1) s))
          (omega (arith, length-take j l)) (λ y. omega (arith, all y, take_count y j l)) (λ x y mx my. first x y mx (omega (arith, take_count y j l)) (equal? x s)) (take_rising (own_slack N) j l rise.1) in
          let q : j ≡ length (take j l) + 0 = omega (arith, length-take j l) in
          record { sinks = r.sinks; grown = subst (λ i. Grown (size N) N.branch (own_slack N) r.sinks i (insert_all tie N (take j l) (s ∷ []) 0 P)) (sym q) r.grown; all = λ y. omega (arith, r.all y) }
        where
          in_range : (1 ≤ s) × (s ≤ size N)
          in_range = omega (arith, down_in 0 (size N) s (omega (arith, all s, delta_self s)))

          first : (x y : ℕ) → delta x s + 0 ≢ 0 → count y l ≢ 0 → (x ≡ s) ⊎ (x ≢ s) → own_slack N x ≤ℤ own_slack N y
          first x y mx my (inl q) = rw q (rise.0 y my)
          first x y mx my (inr d) = absurd (omega (arith, delta_ne x s d))

  -- the planned parents, before settling and after
  pub planned : 1 ≤ size N → Done (size N - 1) (λ y. count y (down 0 (size N))) (plan_parents tie N)
  planned n1 =
      let r : Done (size N - 1) (λ y. count y (take (suc (size N - 1)) (order N))) (parents_after tie N (size N - 1)) = after_insertions (size N - 1) (omega arith) in
      let e : suc (size N - 1) ≡ length (order N) = omega (arith, order_length N) in
      record { sinks = r.sinks; grown = r.grown; all = λ y. r.all y ∙ ap (λ j. count y (take j (order N))) e ∙ ap (count y) (take_all (order N)) ∙ order_count N y }
