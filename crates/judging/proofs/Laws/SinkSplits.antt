-- One sink more beside a sink that has the most room: the worst slack stays the largest that meets Kraft's condition, whichever tree the depths come from. Assumes nothing.
use Prim.Native.Nat.{ℕ, suc, ◌+◌, ◌*◌, ◌-◌, ◌^◌, ◌≤◌, ◌<◌}
use mathlib.Core.Path.{◌≡◌, refl, sym, ap, ◌∙◌, subst}
use mathlib.Core.Logic.{◌≢◌, ◌⊎◌, inl, inr}
use mathlib.Core.List.{List, [], ◌∷◌, map}
use native.Mathlib.Nat.{zero-mul, pow-succ', suc-sub-suc}
use native.Mathlib.Omega.{arith}
use lib.ListN.{length, get_or, set, length-set}
use lib.Seq.{get_or-set_same, get_or-set_other}
use lib.IntN.{ℤ, pos, ◌+ℤ◌, ◌-ℤ◌}
use lib.Signed.{◌≤ℤ◌, ◌<ℤ◌, ≤ℤ_refl}
use Rattle.quantities.specs.Inner.Linear.{whole, +is, -is}
use Rattle.quantities.specs.Ranges.{Within}
use Rattle.quantities.specs.Inner.Reach.{time_reach}
use Rattle.quantities.proofs.Laws.MinMax.{min_is}
use Rattle.tree.specs.Lists.{sum_over, delta, count}
use Rattle.tree.specs.Net.{Net, size, own_slack}
use Rattle.tree.specs.Kraft.{Kraft}
use Rattle.tree.specs.Inner.DerivedLimits.{kept_slack_limit}
use Rattle.tree.specs.Limits.{InRange}
use Rattle.judging.specs.Inner.SinkSplits.{Kept, LargestAt, absent_limit, absent, worst_if_split}
use Rattle.tree.proofs.Laws.Lists.Sums.{delta_self, delta_ne, equal?, sum_over_scale, sum_over_change}
use Rattle.tree.proofs.Laws.Lists.Gaps.{gap, fits, fits_back}
use Rattle.tree.proofs.Laws.Kraft.Maximum.{maximum_single}
use Rattle.tree.proofs.Laws.Kraft.GapSums.{AtMost, power_sum, exact_rival, exact_room}
use Rattle.tree.proofs.Laws.Trees.LegalTrees.{bag}
use Rattle.tree.proofs.Laws.Kraft.Rivals.{KraftOver, enough, kraft_over_less}
use Rattle.tree.proofs.Laws.Planning.AnyTieRule.{kraft_over, over_kraft, kraft_over_bag}
use Rattle.tree.proofs.Laws.Measures.InReach.{kept_within}

-- ---- depths: v and the new sink s have one branch point more above them than v had

abbrev deeper : (ℕ → ℕ) → ℕ → ℕ → ℕ → ℕ
deeper d v s y = elim (equal? y s) [ inl e ↦ suc (d v) | inr f ↦ elim (equal? y v) [ inl e ↦ suc (d v) | inr g ↦ d y ] ]

module _ (d : ℕ → ℕ) (v s : ℕ) where
  deeper_new : deeper d v s s ≡ suc (d v)
  deeper_new = go (equal? s s)
    where
      go : (t : (s ≡ s) ⊎ (s ≢ s)) → elim t [ inl e ↦ suc (d v) | inr f ↦ elim (equal? s v) [ inl e ↦ suc (d v) | inr g ↦ d s ] ] ≡ suc (d v)
      go (inl e) = refl
      go (inr f) = absurd (f refl)

  deeper_low : deeper d v s v ≡ suc (d v)
  deeper_low = go (equal? v s) (equal? v v)
    where
      go : (t : (v ≡ s) ⊎ (v ≢ s)) (r : (v ≡ v) ⊎ (v ≢ v)) → elim t [ inl e ↦ suc (d v) | inr f ↦ elim r [ inl e ↦ suc (d v) | inr g ↦ d v ] ] ≡ suc (d v)
      go (inl e) r = refl
      go (inr f) (inl e) = refl
      go (inr f) (inr g) = absurd (g refl)

  deeper_other : (y : ℕ) → y ≢ s → y ≢ v → deeper d v s y ≡ d y
  deeper_other y ys yv = go (equal? y s) (equal? y v)
    where
      go : (t : (y ≡ s) ⊎ (y ≢ s)) (r : (y ≡ v) ⊎ (y ≢ v)) → elim t [ inl e ↦ suc (d v) | inr f ↦ elim r [ inl e ↦ suc (d v) | inr g ↦ d y ] ] ≡ d y
      go (inl e) r = absurd (ys e)
      go (inr f) (inl e) = absurd (yv e)
      go (inr f) (inr g) = refl

  -- the sum stays exactly 1
  exact_split : (S : List ℕ) (F : ℕ) → AtMost S F d → power_sum S F d ≡ 2 ^ F → count v S ≡ 1 → count s S ≡ 0 → power_sum (s ∷ S) (suc F) (deeper d v s) ≡ 2 ^ suc F
  exact_split S F deep exact once fresh =
      let f : ℕ → ℕ = λ y. 2 * 2 ^ (F - d y) in
      let g : ℕ → ℕ = λ y. 2 ^ (suc F - deeper d v s y) in
      let same : (y : ℕ) → count y S ≢ 0 → y ≢ v → g y ≡ f y = λ y q yv. other y q yv in
      let change : sum_over S g + count v S * f v ≡ sum_over S f + count v S * g v = sum_over_change S f g v same in
      let change_1 : sum_over S g + 1 * f v ≡ sum_over S f + 1 * g v = rw once at change in
      let half : g v ≡ 2 ^ (F - d v) = ap (λ (i : ℕ). 2 ^ (suc F - i)) deeper_low ∙ ap (λ (i : ℕ). 2 ^ i) (suc-sub-suc F (d v)) in
      let new : g s ≡ 2 ^ (F - d v) = ap (λ (i : ℕ). 2 ^ (suc F - i)) deeper_new ∙ ap (λ (i : ℕ). 2 ^ i) (suc-sub-suc F (d v)) in
      omega (arith, change_1, half, new, sum_over_scale S 2 (λ y. 2 ^ (F - d y)), exact, pow-succ' 2 F)
    where
      other : (y : ℕ) → count y S ≢ 0 → y ≢ v → 2 ^ (suc F - deeper d v s y) ≡ 2 * 2 ^ (F - d y)
      other y q yv =
          let ys : y ≢ s = λ e. q (ap (λ (u : ℕ). count u S) e ∙ fresh) in
          let e : suc F - d y ≡ suc (F - d y) = omega (arith, deep y q) in
          ap (λ (i : ℕ). 2 ^ (suc F - i)) (deeper_other y ys yv) ∙ ap (λ (i : ℕ). 2 ^ i) e ∙ pow-succ' 2 (F - d y)

-- ---- Kraft's condition on the sinks that are in

module _ (c : ℕ) (o : ℕ → ℤ) (σ : ℤ) where
  -- the order of the sinks is nothing to it
  pub kraft_bag : (l r : List ℕ) (v : ℕ) → ((x : ℕ) → count x l ≡ count x r) → ((x : ℕ) → count x l ≢ 0 → x < v) → Kraft c (map o l) σ → Kraft c (map o r) σ
  kraft_bag l r v e lv κ = over_kraft c o σ r (kraft_over_bag c o σ l r v e lv (kraft_over c o σ l κ))

  kraft_less : (S : List ℕ) (s : ℕ) → Kraft c (map o (s ∷ S)) σ → Kraft c (map o S) σ
  kraft_less S s κ = over_kraft c o σ S (kraft_over_less c S o s σ (kraft_over c o σ (s ∷ S) κ))

  module _ (S : List ℕ) (d : ℕ → ℕ) (F : ℕ) (deep : AtMost S F d) (exact : power_sum S F d ≡ 2 ^ F) (c1 : 0 < c) where
    -- what is no more than each slack meets it
    slacks_kraft : ((y : ℕ) → count y S ≢ 0 → σ ≤ℤ (o y -ℤ pos (d y * c))) → Kraft c (map o S) σ
    slacks_kraft h =
        over_kraft c o σ S
        (record {
          low = λ y q. (fits σ (o y) (d y * c) (h y q)).0;
          kraft = enough c S (λ y. gap σ (o y)) (exact_rival S d F deep exact c (λ y. gap σ (o y)) c1 (λ y q. (fits σ (o y) (d y * c) (h y q)).1));
        })

    -- what meets it with one sink more is no more than the slack that a split leaves some old sink
    slack_room : (s : ℕ) → Kraft c (map o (s ∷ S)) σ → (x : ℕ) × (count x S ≢ 0) × (σ ≤ℤ (o x -ℤ pos (suc (d x) * c)))
    slack_room s κ =
        let k : KraftOver c (s ∷ S) o σ = kraft_over c o σ (s ∷ S) κ in
        let r : (x : ℕ) × (count x S ≢ 0) × (suc (d x) * c ≤ gap σ (o x)) = exact_room S d F deep exact c (λ y. gap σ (o y)) s c1 k.kraft in
        (r.0, r.1, fits_back σ (o r.0) (suc (d r.0) * c) (k.low r.0 (omega (arith, r.1))) r.2)

-- ---- ranges

absent_low : (z : ℤ) → Within kept_slack_limit z → absent <ℤ z
absent_low z w = omega (arith, whole)

-- a number that is kept, or `absent`
pub place_reach : (z : ℤ) → Within absent_limit z → Within time_reach z
place_reach z w = omega (arith, whole)

-- ---- what is kept

-- the first sink
pub kept_first : (N : Net) (x : ℕ) (slacks : List ℤ) → x < length slacks → ((u : ℕ) → 1 ≤ u → u ≤ size N → get_or slacks u (pos 0) ≡ absent)
    → Kept N (x ∷ []) (set slacks x (own_slack N x)) (own_slack N x)
kept_first N x slacks long empty = record {
  depths = λ y. 0;
  shallow = λ y m. omega arith;
  exact = refl;
  slacks_are = λ y m. at y m ∙ omega (arith, whole, zero-mul N.branch, -is (own_slack N y) (pos (0 * N.branch)), ap (own_slack N) (only y m));
  others_absent = λ y y1 yN z. get_or-set_other slacks x y (own_slack N x) (pos 0) (λ e. omega (arith, z, ap (λ (u : ℕ). delta u x) e, delta_self x)) ∙ empty y y1 yN;
  below = λ y m. subst (λ (z : ℤ). own_slack N x ≤ℤ z) (sym (at y m)) (≤ℤ_refl (own_slack N x));
  largest = (maximum_single N.branch (own_slack N x)).largest;
}
  where
    only : (y : ℕ) → count y (x ∷ []) ≢ 0 → y ≡ x
    only y m = go (equal? y x)
      where
        go : (y ≡ x) ⊎ (y ≢ x) → y ≡ x
        go (inl e) = e
        go (inr d) = absurd (omega (arith, m, delta_ne y x d))

    at : (y : ℕ) → count y (x ∷ []) ≢ 0 → get_or (set slacks x (own_slack N x)) y (pos 0) ≡ own_slack N x
    at y m = ap (λ (u : ℕ). get_or (set slacks x (own_slack N x)) u (pos 0)) (only y m) ∙ get_or-set_same slacks x (own_slack N x) (pos 0) long

-- the order of the sinks is nothing to it
pub kept_bag : (N : Net) (l r : List ℕ) {slacks : List ℤ} {worst : ℤ} → length l ≡ length r → ((y : ℕ) → count y l ≡ count y r) → ((y : ℕ) → count y l ≢ 0 → y ≤ size N)
    → Kept N l slacks worst → Kept N r slacks worst
kept_bag N l r len e inside K = record {
  depths = K.depths;
  shallow = λ y m. omega (arith, K.shallow y (omega (arith, e y)), len);
  exact =
      subst (λ (F : ℕ). power_sum r F K.depths ≡ 2 ^ F) len
      (sym (bag (suc (size N)) l r (λ y. 2 ^ (length l - K.depths y)) (λ y m. omega (arith, inside y m)) (λ y m. omega (arith, inside y (omega (arith, e y)))) (λ y m. e y)) ∙ K.exact);
  slacks_are = λ y m. K.slacks_are y (omega (arith, e y));
  others_absent = λ y y1 yN z. K.others_absent y y1 yN (omega (arith, e y));
  below = λ y m. K.below y (omega (arith, e y));
  largest = λ σ κ. K.largest σ (kraft_bag N.branch (own_slack N) σ r l (suc (size N)) (λ y. sym (e y)) (λ y m. omega (arith, inside y (omega (arith, e y)))) κ);
}

module _ (N : Net) (R : InRange N) {S : List ℕ} {slacks : List ℤ} {worst : ℤ} (K : Kept N S slacks worst)
    (few : length S ≤ size N) (inside : (y : ℕ) → count y S ≢ 0 → (1 ≤ y) × (y ≤ size N)) where
  abbrev c : ℕ
  c = N.branch

  abbrev d : ℕ → ℕ
  d = K.depths

  deep : AtMost S (length S) d
  deep y m = omega (arith, K.shallow y m)

  slack_in_lem : (y : ℕ) → count y S ≢ 0 → Within kept_slack_limit (get_or slacks y (pos 0)) × (absent <ℤ get_or slacks y (pos 0))
  slack_in_lem y m =
      let w = kept_within N R y (d y) (inside y m).0 (inside y m).1 (omega (arith, K.shallow y m, few, R.sinks)) in
      subst (λ (z : ℤ). Within kept_slack_limit z × (absent <ℤ z)) (sym (K.slacks_are y m)) (w, absent_low _ w)

  -- what stands at a place, the slack of a sink that is in or `absent`
  pub slack_place : (u : ℕ) → 1 ≤ u → u ≤ size N → Within absent_limit (get_or slacks u (pos 0))
  slack_place u u1 uN = go (equal? (count u S) 0)
    where
      go : (count u S ≡ 0) ⊎ (count u S ≢ 0) → Within absent_limit (get_or slacks u (pos 0))
      go (inl z) = let e : get_or slacks u (pos 0) ≡ absent = K.others_absent u u1 uN z in omega (arith, whole)
      go (inr m) = let w = (slack_in_lem u m).0 in omega (arith, whole)

  -- the worst slack meets Kraft's condition itself
  pub worst_meets : Kraft c (map (own_slack N) S) worst
  worst_meets = slacks_kraft c (own_slack N) worst S d (length S) deep K.exact R.branch.0 (λ y m. subst (λ (z : ℤ). worst ≤ℤ z) (K.slacks_are y m) (K.below y m))

  absent_below : absent ≤ℤ worst
  absent_below =
      K.largest absent
      (slacks_kraft c (own_slack N) absent S d (length S) deep K.exact R.branch.0
      (λ y m. subst (λ (z : ℤ). absent ≤ℤ z) (K.slacks_are y m) (let h : absent <ℤ get_or slacks y (pos 0) = (slack_in_lem y m).1 in omega (arith, whole))))

  -- v is a sink whose split leaves the largest worst slack, and z is one that is in
  module _ (z : ℕ) (zS : count z S ≢ 0) {v : ℕ} (best : LargestAt (worst_if_split worst (pos N.branch) slacks) (size N) v) where
    abbrev lowered : ℤ
    lowered = get_or slacks v (pos 0) -ℤ pos c

    pub roomiest_in : count v S ≢ 0
    roomiest_in e =
        let top : worst_if_split worst (pos c) slacks z ≤ℤ worst_if_split worst (pos c) slacks v = best.largest z (inside z zS).0 (inside z zS).1 in
        let over : absent <ℤ get_or slacks z (pos 0) = (slack_in_lem z zS).1 in
        let low : absent ≤ℤ worst = absent_below in
        let mine : get_or slacks v (pos 0) ≡ absent = K.others_absent v best.from best.to e in
        omega (arith, whole, R.branch.0, -is (get_or slacks z (pos 0)) (pos c), -is (get_or slacks v (pos 0)) (pos c), min_is worst (get_or slacks z (pos 0) -ℤ pos c), min_is worst lowered)

    -- the next sink goes in beside v
    module _ (s : ℕ) (sN : s ≤ size N) (fresh : count s S ≡ 0) (once : count v S ≡ 1) (rising : own_slack N v ≤ℤ own_slack N s) (long : size N < length slacks) where
      abbrev new : ℤ
      new = own_slack N s -ℤ own_slack N v +ℤ lowered

      abbrev after : List ℤ
      after = set (set slacks v lowered) s new

      apart : (y : ℕ) → count y S ≢ 0 → y ≢ s
      apart y m e = m (ap (λ (u : ℕ). count u S) e ∙ fresh)

      at_new : get_or after s (pos 0) ≡ new
      at_new = get_or-set_same (set slacks v lowered) s new (pos 0) (omega (arith, length-set slacks v lowered))

      at_low : get_or after v (pos 0) ≡ lowered
      at_low = get_or-set_other (set slacks v lowered) s v new (pos 0) (apart v roomiest_in) ∙ get_or-set_same slacks v lowered (pos 0) (omega (arith, best.to))

      at_other : (y : ℕ) → y ≢ s → y ≢ v → get_or after y (pos 0) ≡ get_or slacks y (pos 0)
      at_other y ys yv = get_or-set_other (set slacks v lowered) s y new (pos 0) ys ∙ get_or-set_other slacks v y lowered (pos 0) yv

      -- with one branch point more
      one_more : (y : ℕ) → count y S ≢ 0 → get_or slacks y (pos 0) -ℤ pos c ≡ own_slack N y -ℤ pos (suc (d y) * c)
      one_more y m =
          let q : suc (d y) * c ≡ d y * c + c = omega arith in
          omega (arith, whole, K.slacks_are y m, -is (get_or slacks y (pos 0)) (pos c), -is (own_slack N y) (pos (d y * c)), -is (own_slack N y) (pos (suc (d y) * c)))

      new_is : new ≡ own_slack N s -ℤ pos (suc (d v) * c)
      new_is = omega (arith, whole, one_more v roomiest_in, +is (own_slack N s -ℤ own_slack N v) lowered, -is (own_slack N s) (own_slack N v), -is (own_slack N v) (pos (suc (d v) * c)), -is (own_slack N s) (pos (suc (d v) * c)))

      pub kept_split : Kept N (s ∷ S) after (worst_if_split worst (pos c) slacks v)
      kept_split = record {
        depths = deeper d v s;
        shallow = λ y m. shallow y m (equal? y s) (equal? y v);
        exact = exact_split d v s S (length S) deep K.exact once fresh;
        slacks_are = λ y m. slack_at_lem y m (equal? y s) (equal? y v);
        others_absent = others;
        below = λ y m. below y m (equal? y s) (equal? y v);
        largest = largest;
      }
        where
          old : (y : ℕ) → count y (s ∷ S) ≢ 0 → y ≢ s → count y S ≢ 0
          old y m ys = omega (arith, m, delta_ne y s ys)

          shallow : (y : ℕ) → count y (s ∷ S) ≢ 0 → (y ≡ s) ⊎ (y ≢ s) → (y ≡ v) ⊎ (y ≢ v) → deeper d v s y < suc (length S)
          shallow y m (inl e) r = omega (arith, ap (deeper d v s) e, deeper_new d v s, K.shallow v roomiest_in)
          shallow y m (inr ys) (inl e) = omega (arith, ap (deeper d v s) e, deeper_low d v s, K.shallow v roomiest_in)
          shallow y m (inr ys) (inr yv) = omega (arith, deeper_other d v s y ys yv, K.shallow y (old y m ys))

          slack_at_lem : (y : ℕ) → count y (s ∷ S) ≢ 0 → (y ≡ s) ⊎ (y ≢ s) → (y ≡ v) ⊎ (y ≢ v) → get_or after y (pos 0) ≡ own_slack N y -ℤ pos (deeper d v s y * c)
          slack_at_lem y m (inl e) r = subst (λ (u : ℕ). get_or after u (pos 0) ≡ own_slack N u -ℤ pos (deeper d v s u * c)) (sym e) (at_new ∙ new_is ∙ ap (λ (i : ℕ). own_slack N s -ℤ pos (i * c)) (sym (deeper_new d v s)))
          slack_at_lem y m (inr ys) (inl e) =
              subst (λ (u : ℕ). get_or after u (pos 0) ≡ own_slack N u -ℤ pos (deeper d v s u * c)) (sym e)
              (at_low ∙ one_more v roomiest_in ∙ ap (λ (i : ℕ). own_slack N v -ℤ pos (i * c)) (sym (deeper_low d v s)))
          slack_at_lem y m (inr ys) (inr yv) = at_other y ys yv ∙ K.slacks_are y (old y m ys) ∙ ap (λ (i : ℕ). own_slack N y -ℤ pos (i * c)) (sym (deeper_other d v s y ys yv))

          others : (y : ℕ) → 1 ≤ y → y ≤ size N → count y (s ∷ S) ≡ 0 → get_or after y (pos 0) ≡ absent
          others y y1 yN e =
              let ys : y ≢ s = λ q. omega (arith, e, ap (λ (u : ℕ). delta u s) q, delta_self s) in
              let yv : y ≢ v = λ q. omega (arith, e, ap (λ (u : ℕ). count u S) q, roomiest_in) in
              at_other y ys yv ∙ K.others_absent y y1 yN (omega (arith, e))

          below : (y : ℕ) → count y (s ∷ S) ≢ 0 → (y ≡ s) ⊎ (y ≢ s) → (y ≡ v) ⊎ (y ≢ v) → worst_if_split worst (pos c) slacks v ≤ℤ get_or after y (pos 0)
          below y m (inl e) r =
              subst (λ (u : ℕ). worst_if_split worst (pos c) slacks v ≤ℤ get_or after u (pos 0)) (sym e)
              (omega (arith, whole, at_new, min_is worst lowered, +is (own_slack N s -ℤ own_slack N v) lowered, -is (own_slack N s) (own_slack N v)))
          below y m (inr ys) (inl e) = subst (λ (u : ℕ). worst_if_split worst (pos c) slacks v ≤ℤ get_or after u (pos 0)) (sym e) (omega (arith, whole, at_low, min_is worst lowered))
          below y m (inr ys) (inr yv) = let h : worst ≤ℤ get_or slacks y (pos 0) = K.below y (old y m ys) in omega (arith, whole, at_other y ys yv, min_is worst lowered)

          largest : (σ : ℤ) → Kraft c (map (own_slack N) (s ∷ S)) σ → σ ≤ℤ worst_if_split worst (pos c) slacks v
          largest σ κ =
              let r : (x : ℕ) × (count x S ≢ 0) × (σ ≤ℤ (own_slack N x -ℤ pos (suc (d x) * c))) = slack_room c (own_slack N) σ S d (length S) deep K.exact R.branch.0 s κ in
              let x : ℕ = r.0 in
              let room : σ ≤ℤ (own_slack N x -ℤ pos (suc (d x) * c)) = r.2 in
              let w : σ ≤ℤ worst = K.largest σ (kraft_less c (own_slack N) σ S s κ) in
              let top : worst_if_split worst (pos c) slacks x ≤ℤ worst_if_split worst (pos c) slacks v = best.largest x (inside x r.1).0 (inside x r.1).1 in
              omega (arith, whole, one_more x r.1, min_is worst (get_or slacks x (pos 0) -ℤ pos c), min_is worst lowered)
