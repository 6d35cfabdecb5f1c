-- The children of each vertex, counted parent by parent. Assumes nothing.
use Prim.Native.Nat.{ℕ, zero, suc, ◌+◌, ◌*◌, ◌-◌, ◌≤◌, ◌<◌, zero-le}
use mathlib.Core.Path.{◌≡◌, sym, ap, ◌∙◌}
use mathlib.Core.Logic.{◌≢◌, ◌⊎◌, inl, inr}
use mathlib.Core.List.{List, [], ◌∷◌, map}
use mathlib.Core.Bool.{not}
use Rattle.std.specs.Prelude.{Some}
use native.Mathlib.Omega.{arith}
use borrow.Author.Tests.{eq-eqb, ne_eqb}
use lib.Dec.{eqb}
use lib.ListN.{length, get_or, set}
use lib.Seq.{get_or-set_same, get_or-set_other}
use Rattle.tree.specs.Lists.{delta, count, range, first_with}
use Rattle.tree.specs.Net.{branch_numbers}
use Rattle.tree.specs.Defects.{due_children, wrong_children}
use Rattle.tree.proofs.Laws.Lists.Sums.{delta_self, delta_ne, equal?}
use Rattle.tree.proofs.Laws.Lists.Tables.{table_length}
use Rattle.tree.proofs.Laws.Lists.Searching.{search_same}

delta_le : (x y : ℕ) → delta x y ≤ 1
delta_le zero zero = omega arith
delta_le zero (suc y) = omega arith
delta_le (suc x) zero = omega arith
delta_le (suc x) (suc y) = delta_le x y

count-le : (u : ℕ) (l : List ℕ) → count u l ≤ length l
count-le u [] = zero-le
count-le u (x ∷ l) = omega (arith, delta_le u x, count-le u l)

-- one more place at the end of a table
count_more : (f : ℕ → ℕ) (u a m : ℕ) → count u (map f (range a (suc m))) ≡ count u (map f (range a m)) + delta u (f (a + m))
count_more f u a zero = let e : a + 0 ≡ a = omega arith in omega (arith, ap (λ i. delta u (f i)) e)
count_more f u a (suc m) = let e : suc a + m ≡ a + suc m = omega arith in omega (arith, count_more f u (suc a) m, ap (λ i. delta u (f i)) e)

-- the parents of the vertices 1 to v - 1
abbrev pub parents_to : List ℕ → ℕ → List ℕ
parents_to ps v = map (λ w. get_or ps w 0) (range 1 (v - 1))

-- a count of each vertex below m
abbrev pub Counted : List ℕ → ℕ → List ℕ → ℕ → Type 0
Counted ps m cs v = (u : ℕ) → u < m → get_or cs u 0 ≡ count u (parents_to ps v)

module _ (ps : List ℕ) (m : ℕ) (cs : List ℕ) (v : ℕ) (counted : Counted ps m cs v) where
  pub counted_le : (u : ℕ) → u < m → get_or cs u 0 ≤ v - 1
  counted_le u h = omega (arith, counted u h, count-le u (parents_to ps v), table_length (λ w. get_or ps w 0) 1 (v - 1))

  parents_more : 1 ≤ v → (u : ℕ) → count u (parents_to ps (v + 1)) ≡ count u (parents_to ps v) + delta u (get_or ps v 0)
  parents_more h u =
      let more : v + 1 - 1 ≡ suc (v - 1) = omega arith in
      let last : 1 + (v - 1) ≡ v = omega arith in
      ap (λ k. count u (map (λ w. get_or ps w 0) (range 1 k))) more
      ∙ count_more (λ w. get_or ps w 0) u 1 (v - 1)
      ∙ ap (λ w. count u (parents_to ps v) + delta u (get_or ps w 0)) last

  -- vertex v is one more child of its parent
  pub counted_more : 1 ≤ v → m ≤ length cs → get_or ps v 0 < m → Counted ps m (set cs (get_or ps v 0) (get_or cs (get_or ps v 0) 0 + 1)) (v + 1)
  counted_more h l q u k = go (equal? u (get_or ps v 0))
    where
      p : ℕ
      p = get_or ps v 0

      go : (u ≡ p) ⊎ (u ≢ p) → get_or (set cs p (get_or cs p 0 + 1)) u 0 ≡ count u (parents_to ps (v + 1))
      go (inl e) =
          ap (λ w. get_or (set cs p (get_or cs p 0 + 1)) w 0) e
          ∙ get_or-set_same cs p (get_or cs p 0 + 1) 0 (omega arith)
          ∙ omega (arith, counted p q, parents_more h p, delta_self p)
          ∙ ap (λ w. count w (parents_to ps (v + 1))) (sym e)
      go (inr d) = get_or-set_other cs p u (get_or cs p 0 + 1) 0 d ∙ omega (arith, counted u k, parents_more h u, delta_ne u p d)

-- ---- the first vertex with a wrong number of children, by the counts

module _ (n : ℕ) (P cs : List ℕ) (some_sink : 1 ≤ n) (counts : (u : ℕ) → u < 2 * n → get_or cs u 0 ≡ count u P) where
  pub root_wrong : get_or cs 0 0 ≢ 1 → wrong_children n P ≡ Some 0
  root_wrong h = rw (ne_eqb (count 0 P) 1 (λ e. h (counts 0 (omega arith) ∙ e)))

  pub root_right : get_or cs 0 0 ≡ 1 → wrong_children n P ≡ first_with (λ b. not (eqb (get_or cs b 0) 2)) (branch_numbers n)
  root_right h =
      rw (eq-eqb (count 0 P) 1 (sym (counts 0 (omega arith)) ∙ h))
      (search_same (λ v. not (eqb (count v P) (due_children v))) (λ b. not (eqb (get_or cs b 0) 2)) (suc n) (n - 1) same)
    where
      same : (v : ℕ) → suc n ≤ v → v < suc n + (n - 1) → not (eqb (count v P) (due_children v)) ≡ not (eqb (get_or cs v 0) 2)
      same zero h l = absurd (omega arith)
      same (suc v) h l = ap (λ k. not (eqb k 2)) (sym (counts (suc v) (omega arith)))
