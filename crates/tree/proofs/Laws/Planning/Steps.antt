-- Insertion step by step, as a program goes: the sinks that are in after j insertions, the parents then, and what holds of the tree so far. Assumes nothing.
use mathlib.Core.Path.{◌≡◌, refl, sym, ap, ◌∙◌, subst}
use mathlib.Core.Logic.{◌≢◌, ◌⊎◌, inl, inr}
use mathlib.Core.List.{List, [], ◌∷◌, ◌++◌}
use Prim.Native.Nat.{ℕ, zero, suc, ◌+◌, ◌-◌, ◌*◌, ◌≤◌, ◌<◌}
use native.Mathlib.Nat.{zero-add}
use native.Mathlib.Omega.{arith}
use lib.ListN.{length, get_or, take, drop, replicate, length-replicate, length-drop}
use lib.Seq.{drop-cons, take-suc, get_or-drop, length-take-le}
use lib.IntN.{ℤ}
use lib.Signed.{◌≤ℤ◌}
use Rattle.tree.specs.Lists.{count}
use Rattle.tree.specs.Net.{Net, size, own_slack}
use Rattle.tree.specs.Planning.{TieRule, order, split, chosen, insert_all, parents_after}
use Rattle.tree.specs.SmallestSlack.{next_sink}
use Rattle.tree.proofs.Laws.Lists.Sums.{delta_self, delta_ne, equal?, down_in, down_once}
use Rattle.tree.proofs.Laws.Trees.LegalTrees.{somewhere, hangs}
use Rattle.tree.proofs.Laws.Planning.KeepsBest.{Grown, start}
use Rattle.tree.proofs.Laws.Planning.BeforeSettling.{Rising, step, order_count, order_length, order_rising}

-- ---- the first i of a list, the newest first

abbrev pub newest_first : List ℕ → ℕ → List ℕ
newest_first l zero = []
newest_first l (suc i) = get_or l i 0 ∷ newest_first l i

pub newest_count : (l : List ℕ) (u i : ℕ) → i ≤ length l → count u (newest_first l i) + count u (drop i l) ≡ count u l
newest_count l u zero h = zero-add (count u l)
newest_count l u (suc i) h = omega (arith, newest_count l u i (omega arith), ap (count u) (drop-cons l i 0 h))

-- where each stands once, the next is not among the first
newest_fresh : (l : List ℕ) (i : ℕ) → i < length l → count (get_or l i 0) l ≤ 1 → count (get_or l i 0) (newest_first l i) ≡ 0
newest_fresh l i h once = let u : ℕ = get_or l i 0 in omega (arith, newest_count l u i (omega arith), ap (count u) (drop-cons l i 0 h), delta_self u)

-- what holds of each of the first places holds of each of the first elements
pub newest_each : (l : List ℕ) (P : ℕ → Type 0) (j : ℕ) → ((i : ℕ) → i < j → P (get_or l i 0)) → (y : ℕ) → count y (newest_first l j) ≢ 0 → P y
newest_each l P zero h y m = absurd (m refl)
newest_each l P (suc j) h y m = go (newest_each l P j (λ i q. h i (omega arith)) y) (equal? y (get_or l j 0))
  where
    go : (count y (newest_first l j) ≢ 0 → P y) → (y ≡ get_or l j 0) ⊎ (y ≢ get_or l j 0) → P y
    go ih (inl e) = subst P (sym e) (h j (omega arith))
    go ih (inr d) = ih (omega (arith, delta_ne y (get_or l j 0) d))

pub newest_member : (l : List ℕ) (j i : ℕ) → i < j → count (get_or l i 0) (newest_first l j) ≢ 0
newest_member l zero i h = absurd (omega arith)
newest_member l (suc j) i h = go (λ q. newest_member l j i q) (equal? i j)
  where
    go : (i < j → count (get_or l i 0) (newest_first l j) ≢ 0) → (i ≡ j) ⊎ (i ≢ j) → count (get_or l i 0) (newest_first l (suc j)) ≢ 0
    go ih (inl e) = subst (λ (z : ℕ). count (get_or l z 0) (newest_first l (suc j)) ≢ 0) (sym e) (omega (arith, delta_self (get_or l j 0)))
    go ih (inr d) = omega (arith, ih (omega arith))

rising_at : (o : ℕ → ℤ) (l : List ℕ) → Rising o l → (i j : ℕ) → i < j → j < length l → o (get_or l i 0) ≤ℤ o (get_or l j 0)
rising_at o [] r i j h k = absurd (omega arith)
rising_at o (x ∷ l) r i zero h k = absurd (omega arith)
rising_at o (x ∷ l) r zero (suc j) h k = r.0 (get_or l j 0) (somewhere l j (omega arith))
rising_at o (x ∷ l) r (suc i) (suc j) h k = rising_at o l r.1 i j (omega arith) (omega arith)

-- ---- one insertion more

-- the sinks that are in after a list of them has gone in, where S were in before
abbrev onto : List ℕ → List ℕ → List ℕ
onto [] S = S
onto (s ∷ l) S = onto l (s ∷ S)

onto_last : (l : List ℕ) (s : ℕ) (S : List ℕ) → onto (l ++ (s ∷ [])) S ≡ s ∷ onto l S
onto_last [] s S = refl
onto_last (x ∷ l) s S = onto_last l s (x ∷ S)

insert_last : (tie : TieRule) (N : Net) (l : List ℕ) (s : ℕ) (S : List ℕ) (k : ℕ) (P : List ℕ)
    → insert_all tie N (l ++ (s ∷ [])) S k P
    ≡ split (insert_all tie N l S k P) (size N) (length l + k) s (chosen tie N (onto l S) (length l + k) (insert_all tie N l S k P) s)
insert_last tie N [] s S k P = ap (λ j. split P (size N) j s (chosen tie N S j P s)) (sym (zero-add k))
insert_last tie N (x ∷ l) s S k P =
    let Q : List ℕ = split P (size N) k x (chosen tie N S k P x) in
    let e : length l + suc k ≡ suc (length l) + k = omega arith in
    insert_last tie N l s (x ∷ S) (suc k) Q
    ∙ ap (λ j. split (insert_all tie N l (x ∷ S) (suc k) Q) (size N) j s (chosen tie N (onto l (x ∷ S)) j (insert_all tie N l (x ∷ S) (suc k) Q) s)) e

-- the sinks that are in after j insertions are the first j + 1 of the order
onto_newest : (l : List ℕ) (j : ℕ) → j < length l → onto (take j (drop 1 l)) (take 1 l) ≡ newest_first l (suc j)
onto_newest [] j h = absurd (omega arith)
onto_newest (x ∷ l) zero h = refl
onto_newest (x ∷ l) (suc j) h =
    ap (λ r. onto r (x ∷ [])) (take-suc l j 0 (omega arith))
    ∙ onto_last (take j l) (get_or l j 0) (x ∷ [])
    ∙ ap (λ r. get_or l j 0 ∷ r) (onto_newest (x ∷ l) j (omega arith))

-- the sinks that are in after j insertions
abbrev pub inserted : Net → ℕ → List ℕ
inserted N j = newest_first (order N) (suc j)

module _ (tie : TieRule) (N : Net) where
  pub parents_next : (j : ℕ) → suc j < size N
      → parents_after tie N (suc j) ≡ split (parents_after tie N j) (size N) j (next_sink N j) (chosen tie N (inserted N j) j (parents_after tie N j) (next_sink N j))
  parents_next j h =
      let l : List ℕ = drop 1 (order N) in
      let S : List ℕ = take 1 (order N) in
      let R : List ℕ = replicate (2 * size N - 1) 0 in
      let long : j < length l = omega (arith, length-drop 1 (order N), order_length N) in
      let at : get_or l j 0 ≡ next_sink N j = get_or-drop 1 (order N) j 0 ∙ ap (λ i. get_or (order N) i 0) (omega arith) in
      let k : length (take j l) + 0 ≡ j = omega (arith, length-take-le j l (omega arith)) in
      ap (λ t. insert_all tie N t S 0 R) (take-suc l j 0 long)
      ∙ insert_last tie N (take j l) (get_or l j 0) S 0 R
      ∙ (λ i. split (parents_after tie N j) (size N) (k i) (at i) (chosen tie N (onto_newest (order N) j (omega (arith, order_length N)) i) (k i) (parents_after tie N j) (at i)))

module _ (N : Net) where
  -- each sink of the order is a sink, and stands once
  pub order_in : (i : ℕ) → i < size N → (1 ≤ get_or (order N) i 0) × (get_or (order N) i 0 ≤ size N)
  order_in i h =
      let s : ℕ = get_or (order N) i 0 in
      omega (arith, down_in 0 (size N) s (omega (arith, somewhere (order N) i (omega (arith, order_length N)), order_count N s)))

  order_once : (i : ℕ) → i < size N → count (get_or (order N) i 0) (order N) ≤ 1
  order_once i h = let s : ℕ = get_or (order N) i 0 in omega (arith, order_count N s, down_once 0 (size N) s (order_in i h).0 (omega (arith, (order_in i h).1)))

  pub next_fresh : (j : ℕ) → suc j < size N → count (next_sink N j) (inserted N j) ≡ 0
  next_fresh j h = newest_fresh (order N) (suc j) (omega (arith, order_length N)) (order_once (suc j) h)

  pub inserted_rising : (j : ℕ) → suc j < size N → (y : ℕ) → count y (inserted N j) ≢ 0 → own_slack N y ≤ℤ own_slack N (next_sink N j)
  inserted_rising j h =
      newest_each (order N) (λ y. own_slack N y ≤ℤ own_slack N (get_or (order N) (suc j) 0)) (suc j) (λ i q. rising_at (own_slack N) (order N) (order_rising N) i (suc j) (omega arith) (omega (arith, order_length N)))

  pub inserted_in : (j : ℕ) → j < size N → (y : ℕ) → count y (inserted N j) ≢ 0 → (1 ≤ y) × (y ≤ size N)
  inserted_in j h = newest_each (order N) (λ y. (1 ≤ y) × (y ≤ size N)) (suc j) (λ i q. order_in i (omega arith))

  module _ (tie : TieRule) (c1 : 0 < N.branch) where
    pub grown_at : (j : ℕ) → j < size N → Grown (size N) N.branch (own_slack N) (inserted N j) j (parents_after tie N j)
    grown_at zero h =
        start (size N) N.branch (get_or (order N) 0 0) (own_slack N) (replicate (2 * size N - 1) 0) (omega (arith, length-replicate (2 * size N - 1) zero)) (order_in 0 h).0 (order_in 0 h).1 (hangs (2 * size N - 1) (get_or (order N) 0 0))
    grown_at (suc j) h =
        subst (Grown (size N) N.branch (own_slack N) (inserted N (suc j)) (suc j)) (sym (parents_next tie N j h))
        (step tie N c1 (grown_at j (omega arith)) (next_sink N j) (order_in (suc j) h).0 (order_in (suc j) h).1 (next_fresh j h) h (inserted_rising j h))
