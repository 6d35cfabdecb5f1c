-- What is kept for the sinks that wait, after the edge to a new sink s was offered to each. Assumes nothing.
use Prim.Native.Nat.{ℕ, ◌+◌, ◌≤◌, ◌<◌}
use mathlib.Core.Path.{◌≡◌, refl, sym, ap, ◌∙◌, subst}
use mathlib.Core.Logic.{◌≢◌, ◌⊎◌, inl, inr}
use mathlib.Core.List.{List}
use native.Mathlib.Omega.{arith}
use native.Mathlib.Nat.{le_refl}
use lib.ListN.{length, get_or}
use lib.IntN.{ℤ}
use Rattle.tree.proofs.Laws.Lists.Sums.{equal?}
use Rattle.short_tree.specs.Inner.Searching.{Leads, Bound}
use Rattle.short_tree.specs.Inner.Arrays.{added_at, Waits, Inside, Others, Kept, AllKept, SameZeros, SameBut}
use Rattle.short_tree.proofs.Laws.Choosing.{leads_trans, leads_same}
use Rattle.short_tree.proofs.Laws.EdgeSearch.{bound_among}
use Rattle.short_tree.proofs.Laws.SinkSearch.{inside_map, inside_back}

-- ---- one sink

module _ (f : ℕ → ℕ) (last s : ℕ) (kept : List ℕ) (v cost : ℕ) (B : Bound f (Others last s kept) v cost) where
  -- the edge to s does not go before what is kept
  offer_stays : Leads cost v (f s) s → Bound f (Inside last kept) v cost
  offer_stays L = record { member = B.member.0; leads = λ u i. leads u i (equal? u s) }
    where
      leads : (u : ℕ) → Inside last kept u → (u ≡ s) ⊎ (u ≢ s) → Leads cost v (f u) u
      leads u i (inl e) = subst (λ z. Leads cost v (f z) z) (sym e) L
      leads u i (inr d) = B.leads u (i, d)

  -- it does
  offer_taken : Inside last kept s → Leads (f s) s cost v → Bound f (Inside last kept) s (f s)
  offer_taken i L = record { member = i; leads = λ u j. leads u j (equal? u s) }
    where
      leads : (u : ℕ) → Inside last kept u → (u ≡ s) ⊎ (u ≢ s) → Leads (f s) s (f u) u
      leads u j (inl e) = record { less = omega (arith, ap f e); tied = λ z. omega arith }
      leads u j (inr d) = leads_trans (f s) s L (B.leads u (j, d))

-- the same in the arrays: the new edge to s, which costs `added`, and what was kept for t
module _ (parents : List ℕ) (xs ys : List ℤ) (kept costs : List ℕ) (s t lower added old : ℕ) (lower_is : lower ≡ s) (added_is : added ≡ added_at parents xs ys t s) (old_is : old ≡ get_or costs t 0) where
  pub offered_stays : Leads old (get_or kept t 0) added lower → (last : ℕ) → Kept (Others last s kept) parents xs ys kept costs t → Kept (Inside last kept) parents xs ys kept costs t
  offered_stays L last B = offer_stays (added_at parents xs ys t) last s kept (get_or kept t 0) (get_or costs t 0) B (leads_same (get_or costs t 0) (get_or kept t 0) (added_at parents xs ys t s) s old_is refl added_is lower_is L)

  pub offered_taken : Leads added lower old (get_or kept t 0) → (kept' costs' : List ℕ) → get_or kept' t 0 ≡ s → get_or costs' t 0 ≡ added → (last : ℕ) → Kept (Others last s kept) parents xs ys kept costs t → Inside last kept s
      → Kept (Inside last kept) parents xs ys kept' costs' t
  offered_taken L kept' costs' k c last B i =
      subst (λ z. Bound (added_at parents xs ys t) (Inside last kept) z (get_or costs' t 0)) (sym k)
      (subst (Bound (added_at parents xs ys t) (Inside last kept) s) (sym (c ∙ added_is))
      (offer_taken (added_at parents xs ys t) last s kept (get_or kept t 0) (get_or costs t 0) B i (leads_same (added_at parents xs ys t s) s (get_or costs t 0) (get_or kept t 0) added_is lower_is old_is refl L)))

-- ---- sink by sink: those before t are done, and the others are as they were

pub record Turn (n last : ℕ) (parents : List ℕ) (xs ys : List ℤ) (kept₀ costs₀ : List ℕ) (t : ℕ) (kept costs : List ℕ) : Type 0 where
  pub kept_long : length kept ≡ length kept₀
  pub costs_long : length costs ≡ length costs₀
  pub same : SameZeros kept₀ kept
  pub done : (u : ℕ) → 1 ≤ u → u < t → get_or kept₀ u 0 ≢ 0 → Kept (Inside last kept₀) parents xs ys kept costs u
  pub kept_todo : (u : ℕ) → t ≤ u → get_or kept u 0 ≡ get_or kept₀ u 0
  pub costs_todo : (u : ℕ) → t ≤ u → get_or costs u 0 ≡ get_or costs₀ u 0

module _ (n last s : ℕ) (parents : List ℕ) (xs ys : List ℤ) (kept₀ costs₀ : List ℕ) where
  pub turn_start : Turn n last parents xs ys kept₀ costs₀ 1 kept₀ costs₀
  turn_start = record { kept_long = refl; costs_long = refl; same = λ u. ((λ e. e), λ e. e); done = λ u a z w. absurd (omega arith); kept_todo = λ u h. refl; costs_todo = λ u h. refl }

  module _ (t : ℕ) (kept costs : List ℕ) (I : Turn n last parents xs ys kept₀ costs₀ t kept costs) where
    -- what is kept for t, over the edges as the array has them by now
    pub turn_kept : Kept (Others last s kept₀) parents xs ys kept₀ costs₀ t → Kept (Others last s kept) parents xs ys kept costs t
    turn_kept B =
        subst (λ z. Bound (added_at parents xs ys t) (Others last s kept) z (get_or costs t 0)) (sym (I.kept_todo t (le_refl t)))
        (subst (Bound (added_at parents xs ys t) (Others last s kept) (get_or kept₀ t 0)) (sym (I.costs_todo t (le_refl t)))
        (bound_among (added_at parents xs ys t) (Others last s kept₀) (Others last s kept) (get_or kept₀ t 0) (get_or costs₀ t 0) (inside_map last kept₀ kept I.same _ B.member.0, B.member.1)
        (λ u q. (inside_back last kept₀ kept I.same u q.0, q.1)) B))

    turn_more : (kept' costs' : List ℕ) → length kept' ≡ length kept → length costs' ≡ length costs → SameBut t kept kept' → SameBut t costs costs' → SameZeros kept kept'
        → (get_or kept t 0 ≢ 0 → Kept (Inside last kept) parents xs ys kept' costs' t) → Turn n last parents xs ys kept₀ costs₀ (t + 1) kept' costs'
    turn_more kept' costs' kl cl k c z new = record {
      kept_long = kl ∙ I.kept_long;
      costs_long = cl ∙ I.costs_long;
      same = λ u. ((λ e. (z u).0 ((I.same u).0 e)), λ e. (I.same u).1 ((z u).1 e));
      done = λ u a l w. before u a l w (equal? u t);
      kept_todo = λ u h. k u (omega arith) ∙ I.kept_todo u (omega arith);
      costs_todo = λ u h. c u (omega arith) ∙ I.costs_todo u (omega arith);
    }
      where
        at_t : get_or kept₀ t 0 ≢ 0 → Kept (Inside last kept₀) parents xs ys kept' costs' t
        at_t w =
            let B : Kept (Inside last kept) parents xs ys kept' costs' t = new (λ e. w ((I.same t).1 e)) in
            bound_among (added_at parents xs ys t) (Inside last kept) (Inside last kept₀) (get_or kept' t 0) (get_or costs' t 0) (inside_back last kept₀ kept I.same _ B.member) (inside_map last kept₀ kept I.same) B

        before : (u : ℕ) → 1 ≤ u → u < t + 1 → get_or kept₀ u 0 ≢ 0 → (u ≡ t) ⊎ (u ≢ t) → Kept (Inside last kept₀) parents xs ys kept' costs' u
        before u a l w (inl q) = subst (Kept (Inside last kept₀) parents xs ys kept' costs') (sym q) (at_t (λ e. w (ap (λ i. get_or kept₀ i 0) q ∙ e)))
        before u a l w (inr d) =
            subst (λ i. Bound (added_at parents xs ys u) (Inside last kept₀) i (get_or costs' u 0)) (sym (k u d))
            (subst (Bound (added_at parents xs ys u) (Inside last kept₀) (get_or kept u 0)) (sym (c u d)) (I.done u a (omega arith) w))

    -- the offer is made to t, if it waits
    pub turn_next : ((u : ℕ) → Waits n kept₀ u → Kept (Others last s kept₀) parents xs ys kept₀ costs₀ u) → 1 ≤ t → t ≤ n → (kept' costs' : List ℕ) → length kept' ≡ length kept → length costs' ≡ length costs → SameBut t kept kept' → SameBut t costs costs' → SameZeros kept kept'
        → (get_or kept t 0 ≢ 0 → Kept (Others last s kept) parents xs ys kept costs t → Kept (Inside last kept) parents xs ys kept' costs' t) → Turn n last parents xs ys kept₀ costs₀ (t + 1) kept' costs'
    turn_next all t1 tn kept' costs' kl cl k c z new = turn_more kept' costs' kl cl k c z (λ w. new w (turn_kept (all t (t1, tn, λ e. w (I.kept_todo t (le_refl t) ∙ e)))))

    pub turn_end : t ≡ n + 1 → AllKept n last parents xs ys kept costs
    turn_end e u w =
        let B : Kept (Inside last kept₀) parents xs ys kept costs u = I.done u w.0 (omega (arith, w.1)) (λ z. w.2 ((I.same u).0 z)) in
        bound_among (added_at parents xs ys u) (Inside last kept₀) (Inside last kept) (get_or kept u 0) (get_or costs u 0) (inside_map last kept₀ kept I.same _ B.member) (inside_back last kept₀ kept I.same) B
