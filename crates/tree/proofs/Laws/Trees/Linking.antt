-- The children of each vertex in two arrays, stored from the highest vertex down; and what two children for each branch point and one for the root give. Assumes nothing.
use Prim.Native.Nat.{ℕ, suc, ◌+◌, ◌*◌, ◌-◌, ◌≤◌, ◌<◌}
use mathlib.Core.Path.{◌≡◌, refl, sym, ap, ◌∙◌, subst}
use mathlib.Core.Bool.{cond}
use mathlib.Core.Logic.{◌≢◌, ◌⊎◌, inl, inr}
use mathlib.Core.List.{List, [], ◌∷◌}
use native.Mathlib.Omega.{arith}
use native.Mathlib.Decide.{dec_le}
use borrow.Author.Tests.{eq-eqb, ne_eqb}
use lib.Dec.{eqb}
use lib.ListN.{length, get_or, set}
use lib.Seq.{get_or-set_same, get_or-set_other}
use Rattle.tree.specs.Lists.{delta, count, range}
use Rattle.tree.specs.Settling.{children_in}
use Rattle.tree.specs.Inner.Arrays.{parents_of, UnderRoot}
use Rattle.tree.specs.Inner.Descent.{children_from, Stand, Linked}
use Rattle.tree.proofs.Laws.Lists.Sums.{delta_self, delta_ne, equal?, count_with, sum_over-map}
use Rattle.tree.proofs.Laws.Arrays.NetAndTree.{parents_length, parents_at}
use Rattle.tree.proofs.Laws.Trees.LegalTrees.{down_le}
use Rattle.tree.proofs.Laws.Settling.SlackKept.{range_count, children_count, children_are, children_all, of_two}
use Rattle.tree.proofs.Laws.Lists.Searching.{range_first}
use Rattle.tree.proofs.Laws.Trees.Defects.{range_in, in_range, root_one, branch_two, sink_none}

-- ---- one vertex more is stored: what stood first stands second

module _ (first second : List ℕ) (p v : ℕ) (f_room : p < length first) (s_room : p < length second) where
  abbrev first' : List ℕ
  first' = set first p v

  abbrev second' : List ℕ
  second' = set second p (get_or first p 0)

  stand_more : (l : List ℕ) → Stand first second p l → Stand first' second' p (v ∷ l)
  stand_more [] h = get_or-set_same first p v 0 f_room
  stand_more (x ∷ []) h = (get_or-set_same first p v 0 f_room, get_or-set_same second p (get_or first p 0) 0 s_room ∙ h)
  stand_more (x ∷ (y ∷ l)) h = (get_or-set_same first p v 0 f_room, get_or-set_same second p (get_or first p 0) 0 s_room ∙ h.0)

  stand_other : (b : ℕ) → b ≢ p → (l : List ℕ) → Stand first second b l → Stand first' second' b l
  stand_other b d [] h = tt
  stand_other b d (x ∷ []) h = get_or-set_other first p b v 0 d ∙ h
  stand_other b d (x ∷ (y ∷ l)) h = (get_or-set_other first p b v 0 d ∙ h.0, get_or-set_other second p b (get_or first p 0) 0 d ∙ h.1)

pub linked_more : (n : ℕ) (ps first second : List ℕ) (v : ℕ) → 1 < v → v ≤ 2 * n → get_or ps (v - 1) 0 < length first → get_or ps (v - 1) 0 < length second
    → ((b : ℕ) → b < 2 * n → Stand first second b (children_from n ps v b))
    → (b : ℕ) → b < 2 * n → Stand (set first (get_or ps (v - 1) 0) (v - 1)) (set second (get_or ps (v - 1) 0) (get_or first (get_or ps (v - 1) 0) 0)) b (children_from n ps (v - 1) b)
linked_more n ps first second v v1 vn fr sr h b bn = go (equal? b p)
  where
    u : ℕ
    u = v - 1

    p : ℕ
    p = get_or ps (v - 1) 0

    e : u + 1 ≡ v
    e = omega arith

    step : children_from n ps u b ≡ cond (eqb (get_or ps u 0) b) (u ∷ children_from n ps v b) (children_from n ps v b)
    step =
        ap (children_in (λ w. get_or ps w 0) b) (range_first u (2 * n) (omega arith))
        ∙ ap (λ w. cond (eqb (get_or ps u 0) b) (u ∷ children_from n ps w b) (children_from n ps w b)) e

    go : (b ≡ p) ⊎ (b ≢ p) → Stand (set first p u) (set second p (get_or first p 0)) b (children_from n ps u b)
    go (inl q) =
        let i : children_from n ps u b ≡ u ∷ children_from n ps v b = step ∙ ap (λ t. cond t (u ∷ children_from n ps v b) (children_from n ps v b)) (eq-eqb p b (sym q)) in
        subst (Stand (set first p u) (set second p (get_or first p 0)) b) (sym i)
        (subst (λ z. Stand (set first p u) (set second p (get_or first p 0)) z (u ∷ children_from n ps v z)) (sym q)
        (stand_more first second p u fr sr (children_from n ps v p) (h p (omega arith))))
    go (inr d) =
        let i : children_from n ps u b ≡ children_from n ps v b = step ∙ ap (λ t. cond t (u ∷ children_from n ps v b) (children_from n ps v b)) (ne_eqb p b (λ z. d (sym z))) in
        subst (Stand (set first p u) (set second p (get_or first p 0)) b) (sym i) (stand_other first second p u fr sr b d (children_from n ps v b) (h b bn))

pub linked_none : (n : ℕ) (ps first second : List ℕ) (b : ℕ) → Stand first second b (children_from n ps (2 * n) b)
linked_none n ps first second b =
    let e : 2 * n - 2 * n ≡ 0 = omega arith in
    subst (λ k. Stand first second b (children_in (λ u. get_or ps u 0) b (range (2 * n) k))) (sym e) tt

-- ---- what stands is the first two of the list

stand_first : (first second : List ℕ) (b : ℕ) (l : List ℕ) → Stand first second b l → 0 < length l → get_or first b 0 ≡ get_or l 0 0
stand_first first second b [] h q = absurd (omega arith)
stand_first first second b (x ∷ []) h q = h
stand_first first second b (x ∷ (y ∷ l)) h q = h.0

stand_second : (first second : List ℕ) (b : ℕ) (l : List ℕ) → Stand first second b l → 1 < length l → get_or second b 0 ≡ get_or l 1 0
stand_second first second b [] h q = absurd (omega arith)
stand_second first second b (x ∷ []) h q = absurd (omega arith)
stand_second first second b (x ∷ (y ∷ l)) h q = h.1

of_one : (l : List ℕ) (x : ℕ) → length l ≡ 1 → count x l ≢ 0 → x ≡ get_or l 0 0
of_one [] x e m = absurd (omega arith)
of_one (a ∷ []) x e m = go (equal? x a)
  where
    go : (x ≡ a) ⊎ (x ≢ a) → x ≡ a
    go (inl q) = q
    go (inr d) = absurd (omega (arith, delta_ne x a d))
of_one (a ∷ (b ∷ l)) x e m = absurd (omega arith)

of_none : (l : List ℕ) (x : ℕ) → length l ≡ 0 → count x l ≡ 0
of_none [] x e = refl
of_none (a ∷ l) x e = absurd (omega arith)

two_apart : (l : List ℕ) → 1 < length l → ((x : ℕ) → count x l ≤ 1) → get_or l 0 0 ≢ get_or l 1 0
two_apart [] q once e = omega arith
two_apart (x ∷ []) q once e = omega arith
two_apart (x ∷ (y ∷ l)) q once e = omega (arith, once x, delta_self x, ap (delta x) e)

-- ---- the children of each vertex, where the root has one, each branch point two and a sink none

pub record Children (n : ℕ) (ps first second : List ℕ) : Type 0 where
  pub root : UnderRoot n (get_or first 0 0) × (get_or ps (get_or first 0 0) 0 ≡ 0)
  pub left : (b : ℕ) → n < b → b < 2 * n → UnderRoot n (get_or first b 0) × (get_or ps (get_or first b 0) 0 ≡ b)
  pub right : (b : ℕ) → n < b → b < 2 * n → UnderRoot n (get_or second b 0) × (get_or ps (get_or second b 0) 0 ≡ b)
  pub apart : (b : ℕ) → n < b → b < 2 * n → get_or first b 0 ≢ get_or second b 0
  pub root_all : (v : ℕ) → UnderRoot n v → get_or ps v 0 ≡ 0 → v ≡ get_or first 0 0
  pub no_sink_lem : (v : ℕ) → UnderRoot n v → 1 ≤ get_or ps v 0 → n < get_or ps v 0
  pub all : (v : ℕ) → UnderRoot n v → n < get_or ps v 0 → (v ≡ get_or first (get_or ps v 0) 0) ⊎ (v ≡ get_or second (get_or ps v 0) 0)

module _ {n : ℕ} {ps first second : List ℕ} (L : Linked n ps first second) where
  abbrev P : List ℕ
  P = parents_of n ps

  abbrev IsChild : ℕ → ℕ → Type 0
  IsChild b v = UnderRoot n v × (get_or ps v 0 ≡ b)

  kids : ℕ → List ℕ
  kids b = children_from n ps 1 b

  kids_length : (b : ℕ) → length (kids b) ≡ count b P
  unfolding kids
  kids_length b = children_count (λ u. get_or ps u 0) b (range 1 (2 * n - 1)) ∙ sym (sum_over-map (λ u. get_or ps u 0) (range 1 (2 * n - 1)) (delta b))

  inside : (i : ℕ) → i < length P → get_or P i 0 < 2 * n
  inside i h =
      let l : i < 2 * n - 1 = omega (arith, parents_length n ps) in
      omega (arith, parents_at n ps (suc i) (omega arith) (omega arith), L.parents_in_lem.inside (suc i) (omega arith) (omega arith))

  size : suc (length P) ≡ 2 * n
  size = omega (arith, parents_length n ps, L.parents_in_lem.some)

  child : (b i : ℕ) → i < count b P → UnderRoot n (get_or (kids b) i 0) × (get_or ps (get_or (kids b) i 0) 0 ≡ b)
  unfolding kids
  child b i h =
      let r = children_are (λ u. get_or ps u 0) b (range 1 (2 * n - 1)) i (omega (arith, kids_length b)) in
      let w = range_in 1 (2 * n - 1) (get_or (children_from n ps 1 b) i 0) r.1 in
      ((omega arith, omega arith), r.0)

  in_kids : (v : ℕ) → UnderRoot n v → count v (kids (get_or ps v 0)) ≢ 0
  unfolding kids
  in_kids v h = children_all (λ u. get_or ps u 0) (get_or ps v 0) (range 1 (2 * n - 1)) v (in_range 1 (2 * n - 1) v h.0 (omega arith)) refl

  kids_once : (b x : ℕ) → count x (kids b) ≤ 1
  unfolding kids
  kids_once b x = omega (arith, count_with (λ v. eqb (get_or ps v 0) b) (range 1 (2 * n - 1)) x, range_count (2 * n - 1) x, down_le 0 (2 * n - 1) x)

  root_1 : count 0 P ≡ 1
  root_1 = root_one n P L.counts

  branch_2 : (b : ℕ) → n < b → b < 2 * n → count b P ≡ 2
  branch_2 = branch_two n P L.counts

  sink_0 : (s : ℕ) → 1 ≤ s → s ≤ n → count s P ≡ 0
  sink_0 = sink_none n P L.counts size inside

  stands : (b : ℕ) → b < 2 * n → Stand first second b (kids b)
  unfolding kids
  stands = L.children_at

  first_is : (b : ℕ) → b < 2 * n → 0 < count b P → get_or first b 0 ≡ get_or (kids b) 0 0
  first_is b h q = stand_first first second b (kids b) (stands b h) (omega (arith, kids_length b))

  second_is : (b : ℕ) → b < 2 * n → 1 < count b P → get_or second b 0 ≡ get_or (kids b) 1 0
  second_is b h q = stand_second first second b (kids b) (stands b h) (omega (arith, kids_length b))

  pub children_of : Children n ps first second
  children_of = record {
    root = subst (IsChild 0) (sym first_0) (child 0 0 (omega (arith, root_1)));
    left = λ b l h. subst (IsChild b) (sym (first_is b h (omega (arith, branch_2 b l h)))) (child b 0 (omega (arith, branch_2 b l h)));
    right = λ b l h. subst (IsChild b) (sym (second_is b h (omega (arith, branch_2 b l h)))) (child b 1 (omega (arith, branch_2 b l h)));
    apart = λ b l h e. two_apart (kids b) (omega (arith, kids_length b, branch_2 b l h)) (kids_once b)
        (sym (first_is b h (omega (arith, branch_2 b l h))) ∙ e ∙ second_is b h (omega (arith, branch_2 b l h)));
    root_all = λ v h e. of_one (kids 0) v (omega (arith, kids_length 0, root_1)) (subst (λ b. count v (kids b) ≢ 0) e (in_kids v h)) ∙ sym first_0;
    no_sink_lem = λ v h q. above v h q (dec_le (get_or ps v 0) n);
    all = all;
  }
    where
      first_0 : get_or first 0 0 ≡ get_or (kids 0) 0 0
      first_0 = first_is 0 (omega (arith, L.parents_in_lem.some)) (omega (arith, root_1))

      above : (v : ℕ) → UnderRoot n v → 1 ≤ get_or ps v 0 → Dec (get_or ps v 0 ≤ n) → n < get_or ps v 0
      above v h q (yes l) =
          let b : ℕ = get_or ps v 0 in
          absurd (in_kids v h (of_none (kids b) v (omega (arith, kids_length b, sink_0 b q l))))
      above v h q (no l) = omega arith

      all : (v : ℕ) → UnderRoot n v → n < get_or ps v 0 → (v ≡ get_or first (get_or ps v 0) 0) ⊎ (v ≡ get_or second (get_or ps v 0) 0)
      all v h l = go (of_two (kids b) v (omega (arith, kids_length b, branch_2 b l bn)) (in_kids v h))
        where
          b : ℕ
          b = get_or ps v 0

          bn : b < 2 * n
          bn = L.parents_in_lem.inside v h.0 h.1

          go : (v ≡ get_or (kids b) 0 0) ⊎ (v ≡ get_or (kids b) 1 0) → (v ≡ get_or first b 0) ⊎ (v ≡ get_or second b 0)
          go (inl e) = inl (e ∙ sym (first_is b bn (omega (arith, branch_2 b l bn))))
          go (inr e) = inr (e ∙ sym (second_is b bn (omega (arith, branch_2 b l bn))))
