-- The search for the sink that goes first, and for the one that goes in next. Assumes nothing.
use Prim.Native.Nat.{ℕ, ◌+◌, ◌≤◌, ◌<◌}
use mathlib.Core.Path.{◌≡◌, refl, sym, ap, ◌∙◌, subst}
use mathlib.Core.Bool.{Bool, true, false, cond}
use mathlib.Core.Logic.{◌≢◌, ◌⊎◌, inl, inr}
use mathlib.Core.List.{List}
use native.Mathlib.Omega.{arith}
use borrow.Author.Tests.{ltb-true, ltb-false, leb-true, leb-false}
use lib.Dec.{ltb}
use lib.ListN.{get_or}
use lib.IntN.{ℤ}
use Rattle.std.specs.Prelude.{Option, None, Some}
use Rattle.std.specs.Option.{unwrap_or}
use Rattle.tree.proofs.Laws.Lists.Sums.{equal?}
use Rattle.short_tree.specs.Inner.Searching.{Ahead, First, Bound}
use Rattle.short_tree.specs.Inner.Arrays.{added_at, Waits, Inside, Cheapest, Kept, AllKept, SameZeros, SameBut, Looked, behind, Chosen}
use Rattle.short_tree.proofs.Laws.Choosing.{ahead_self, ahead_trans, first_map}
use Rattle.short_tree.proofs.Laws.EdgeSearch.{bound_among}

-- those before s that pass
abbrev pub Before : (ℕ → Type 0) → ℕ → ℕ → Type 0
Before In s u = (1 ≤ u) × (u < s) × In u

module _ (f : ℕ → ℕ) (In : ℕ → Type 0) (s : ℕ) where
  -- s does not pass
  pub first_skip : {r : ℕ} → (In s → ⊥) → First f (Before In s) r → First f (Before In (s + 1)) r
  first_skip {r} out a = first_map f (Before In s) (Before In (s + 1)) f (λ u q. (q.0, omega arith, q.2)) back (λ u q. refl) a
    where
      back : (u : ℕ) → Before In (s + 1) u → Before In s u
      back u q = go (equal? u s)
        where
          go : (u ≡ s) ⊎ (u ≢ s) → Before In s u
          go (inl e) = absurd (out (subst In e q.2))
          go (inr d) = (q.0, omega arith, q.2)

  -- s is less than all before
  pub first_less : 1 ≤ s → In s → {r : ℕ} → First f (Before In s) r → f s < f r → First f (Before In (s + 1)) s
  first_less s1 i {r} a l = record { member = (s1, omega arith, i); ahead = λ u q. go u q (equal? u s) }
    where
      go : (u : ℕ) → Before In (s + 1) u → (u ≡ s) ⊎ (u ≢ s) → Ahead f s u
      go u q (inl e) = subst (Ahead f s) (sym e) (ahead_self f s)
      go u q (inr d) = ahead_trans f {u = r} (record { less = omega arith; tied = λ e. absurd (omega arith) }) (a.ahead u (q.0, omega arith, q.2))

  -- s is no less
  pub first_stay : {r : ℕ} → First f (Before In s) r → f r ≤ f s → First f (Before In (s + 1)) r
  first_stay {r} a l = record { member = (a.member.0, omega (arith, a.member.1), a.member.2); ahead = λ u q. go u q (equal? u s) }
    where
      go : (u : ℕ) → Before In (s + 1) u → (u ≡ s) ⊎ (u ≢ s) → Ahead f r u
      go u q (inl e) = subst (Ahead f r) (sym e) (record { less = l; tied = λ h. omega (arith, a.member.1) })
      go u q (inr d) = a.ahead u (q.0, omega arith, q.2)

  -- s is the first that passes
  pub first_only : 1 ≤ s → In s → ((u : ℕ) → 1 ≤ u → u < s → In u → ⊥) → First f (Before In (s + 1)) s
  first_only s1 i none = record { member = (s1, omega arith, i); ahead = λ u q. go u q (equal? u s) }
    where
      go : (u : ℕ) → Before In (s + 1) u → (u ≡ s) ⊎ (u ≢ s) → Ahead f s u
      go u q (inl e) = subst (Ahead f s) (sym e) (ahead_self f s)
      go u q (inr d) = absurd (none u q.0 (omega arith) q.2)

-- ---- the nearest: all of 1 to n pass

abbrev pub Any : ℕ → Type 0
Any u = Unit {0}

pub near_start : (f : ℕ → ℕ) → First f (Before Any 2) 1
near_start f = first_only f Any 1 (omega arith) tt (λ u a b i. absurd (omega arith))

pub near_more : (f : ℕ → ℕ) (s best : ℕ) → 1 ≤ s → First f (Before Any s) best → First f (Before Any (s + 1)) (cond (ltb (f s) (f best)) s best)
near_more f s best s1 a = go (ltb (f s) (f best)) refl
  where
    go : (t : Bool) → ltb (f s) (f best) ≡ t → First f (Before Any (s + 1)) (cond t s best)
    go true e = first_less f Any s s1 tt a (ltb-true (f s) (f best) e)
    go false e = first_stay f Any s a (ltb-false (f s) (f best) e)

pub near_end : (f : ℕ → ℕ) (n s best : ℕ) → s ≡ n + 1 → First f (Before Any s) best → First f (λ u. (1 ≤ u) × (u ≤ n)) best
near_end f n s best e a = first_map f (Before Any s) (λ u. (1 ≤ u) × (u ≤ n)) f (λ u q. (q.0, omega arith)) (λ u q. (q.0, omega arith, tt)) (λ u q. refl) a

-- ---- the next: what is kept decides, and only the best so far adds just that

-- what one place changes
module _ (s : ℕ) (kept kept' : List ℕ) (same : SameBut s kept kept') where
  pub zeros_but : (get_or kept s 0 ≡ 0 → get_or kept' s 0 ≡ 0) → (get_or kept s 0 ≢ 0 → get_or kept' s 0 ≢ 0) → SameZeros kept kept'
  zeros_but a b u = go (equal? u s)
    where
      at_s : (get_or kept s 0 ≡ 0) ⊎ (get_or kept s 0 ≢ 0) → (get_or kept s 0 ≡ 0 → get_or kept' s 0 ≡ 0) × (get_or kept' s 0 ≡ 0 → get_or kept s 0 ≡ 0)
      at_s (inl e) = (a, λ z. e)
      at_s (inr d) = (a, λ z. absurd (b d z))

      go : (u ≡ s) ⊎ (u ≢ s) → (get_or kept u 0 ≡ 0 → get_or kept' u 0 ≡ 0) × (get_or kept' u 0 ≡ 0 → get_or kept u 0 ≡ 0)
      go (inl e) = subst (λ (z : ℕ). (get_or kept z 0 ≡ 0 → get_or kept' z 0 ≡ 0) × (get_or kept' z 0 ≡ 0 → get_or kept z 0 ≡ 0)) (sym e) (at_s (equal? (get_or kept s 0) 0))
      go (inr d) = ((λ z. same u d ∙ z), λ z. sym (same u d) ∙ z)

pub inside_map : (last : ℕ) (kept kept' : List ℕ) → SameZeros kept kept' → (u : ℕ) → Inside last kept u → Inside last kept' u
inside_map last kept kept' same u i = (i.0, i.1, (same u).0 i.2)

pub inside_back : (last : ℕ) (kept kept' : List ℕ) → SameZeros kept kept' → (u : ℕ) → Inside last kept' u → Inside last kept u
inside_back last kept kept' same u i = (i.0, i.1, (same u).1 i.2)

module _ (parents : List ℕ) (xs ys : List ℤ) where
  -- s adds no more than what is kept: so its cheapest edge is
  pub kept_cheapest : (last : ℕ) (kept costs : List ℕ) (s : ℕ) → Kept (Inside last kept) parents xs ys kept costs s → added_at parents xs ys s (get_or kept s 0) ≤ get_or costs s 0
      → Cheapest (Inside last kept) parents xs ys s (get_or kept s 0) (get_or costs s 0)
  kept_cheapest last kept costs s B h = record { bound = B; cost_is = omega (arith, (B.leads (get_or kept s 0) B.member).less) }

  -- the cheapest edge is stored
  pub stored_cheapest : (In : ℕ → Type 0) (kept costs : List ℕ) (s lower cost : ℕ) → get_or kept s 0 ≡ lower → get_or costs s 0 ≡ cost → Cheapest In parents xs ys s lower cost → Cheapest In parents xs ys s (get_or kept s 0) (get_or costs s 0)
  stored_cheapest In kept costs s lower cost k c C = subst (λ z. Cheapest In parents xs ys s z (get_or costs s 0)) (sym k) (subst (Cheapest In parents xs ys s lower) (sym c) C)

  -- ---- the best so far: none, or one of the sinks before s

  pub looked_start : (kept costs : List ℕ) → Looked parents xs ys kept costs 1 None
  looked_start kept costs = λ u a b. absurd (omega arith)

  module _ (kept costs : List ℕ) (s : ℕ) (s1 : 1 ≤ s) where
    below : ((u : ℕ) → 1 ≤ u → u < s → get_or kept u 0 ≡ 0) → get_or kept s 0 ≡ 0 → (u : ℕ) → 1 ≤ u → u < s + 1 → (u ≡ s) ⊎ (u ≢ s) → get_or kept u 0 ≡ 0
    below F e u a b (inl q) = ap (λ i. get_or kept i 0) q ∙ e
    below F e u a b (inr d) = F u a (omega arith)

    -- s is in
    pub looked_skip : (best : Option ℕ) → get_or kept s 0 ≡ 0 → Looked parents xs ys kept costs s best → Looked parents xs ys kept costs (s + 1) best
    looked_skip None e F = λ u a b. below F e u a b (equal? u s)
    looked_skip (Some best) e F = record { first = first_skip (λ u. get_or costs u 0) (λ u. get_or kept u 0 ≢ 0) s (λ h. h e) F.first; exact = F.exact }

    -- s goes behind the best
    pub looked_stay : (best : Option ℕ) → behind costs s best ≡ true → Looked parents xs ys kept costs s best → Looked parents xs ys kept costs (s + 1) best
    looked_stay None e F = absurd (cc)
    looked_stay (Some best) e F = record { first = first_stay (λ u. get_or costs u 0) (λ u. get_or kept u 0 ≢ 0) s F.first (leb-true (get_or costs best 0) (get_or costs s 0) e); exact = F.exact }

    -- s goes before it, or is the first that waits
    pub looked_take : (best : Option ℕ) → behind costs s best ≡ false → get_or kept s 0 ≢ 0 → get_or costs s 0 ≡ added_at parents xs ys s (get_or kept s 0) → Looked parents xs ys kept costs s best → Looked parents xs ys kept costs (s + 1) (Some s)
    looked_take None e w x F = record { first = first_only (λ u. get_or costs u 0) (λ u. get_or kept u 0 ≢ 0) s s1 w (λ u a b h. h (F u a b)); exact = x }
    looked_take (Some best) e w x F = record { first = first_less (λ u. get_or costs u 0) (λ u. get_or kept u 0 ≢ 0) s s1 w F.first (leb-false (get_or costs best 0) (get_or costs s 0) e); exact = x }

  -- the cheapest edge of s is found: nothing changes for the sinks before it
  pub looked_other : (kept costs kept' costs' : List ℕ) (s : ℕ) (best : Option ℕ) → SameBut s kept kept' → SameBut s costs costs' → Looked parents xs ys kept costs s best → Looked parents xs ys kept' costs' s best
  looked_other kept costs kept' costs' s None k c F = λ u a b. k u (omega arith) ∙ F u a b
  looked_other kept costs kept' costs' s (Some best) k c F = record { first = first; exact = exact }
    where
      first : First (λ u. get_or costs' u 0) (λ u. (1 ≤ u) × (u < s) × (get_or kept' u 0 ≢ 0)) best
      first = first_map (λ u. get_or costs u 0) (λ u. (1 ≤ u) × (u < s) × (get_or kept u 0 ≢ 0)) (λ u. (1 ≤ u) × (u < s) × (get_or kept' u 0 ≢ 0)) (λ u. get_or costs' u 0)
          (λ u q. (q.0, q.1, λ e. q.2 (sym (k u (omega arith)) ∙ e))) (λ u q. (q.0, q.1, λ e. q.2 (k u (omega arith) ∙ e))) (λ u q. c u (omega arith)) F.first

      exact : get_or costs' best 0 ≡ added_at parents xs ys best (get_or kept' best 0)
      exact = let l : best < s = F.first.member.1 in c best (omega arith) ∙ F.exact ∙ ap (added_at parents xs ys best) (sym (k best (omega arith)))

  -- sink w waits, so there is a best
  pub looked_end : (n : ℕ) (kept costs : List ℕ) (s w : ℕ) (best : Option ℕ) → s ≡ n + 1 → Waits n kept w → Looked parents xs ys kept costs s best → Chosen n parents xs ys kept costs (unwrap_or best 0)
  looked_end n kept costs s w None e wait F = absurd (wait.2 (F w wait.0 (omega (arith, wait.1))))
  looked_end n kept costs s w (Some best) e wait F = record {
    first = first_map (λ u. get_or costs u 0) (Before (λ u. get_or kept u 0 ≢ 0) s) (Waits n kept) (λ u. get_or costs u 0) (λ u q. (q.0, omega arith, q.2)) (λ u q. (q.0, omega arith, q.2)) (λ u q. refl) F.first;
    exact = F.exact;
  }

  -- what is kept, after the cheapest edge of s was found
  module _ (n last : ℕ) (kept costs kept' costs' : List ℕ) (s : ℕ) (k : SameBut s kept kept') (c : SameBut s costs costs') (C : Cheapest (Inside last kept) parents xs ys s (get_or kept' s 0) (get_or costs' s 0)) where
    pub found_zeros : get_or kept s 0 ≢ 0 → SameZeros kept kept'
    found_zeros w = zeros_but s kept kept' k (λ e. absurd (w e)) (λ d. omega (arith, C.bound.member.0))

    pub found_kept : get_or kept s 0 ≢ 0 → AllKept n last parents xs ys kept costs → AllKept n last parents xs ys kept' costs'
    found_kept w all u wait = go (equal? u s)
      where
        same : SameZeros kept kept'
        same = found_zeros w

        moved : (t v cost : ℕ) → Bound (added_at parents xs ys t) (Inside last kept) v cost → Bound (added_at parents xs ys t) (Inside last kept') v cost
        moved t v cost B = bound_among (added_at parents xs ys t) (Inside last kept) (Inside last kept') v cost (inside_map last kept kept' same v B.member) (inside_back last kept kept' same) B

        go : (u ≡ s) ⊎ (u ≢ s) → Kept (Inside last kept') parents xs ys kept' costs' u
        go (inl e) = subst (Kept (Inside last kept') parents xs ys kept' costs') (sym e) (moved s (get_or kept' s 0) (get_or costs' s 0) C.bound)
        go (inr d) =
            subst (λ z. Bound (added_at parents xs ys u) (Inside last kept') z (get_or costs' u 0)) (sym (k u d))
            (subst (Bound (added_at parents xs ys u) (Inside last kept') (get_or kept u 0)) (sym (c u d)) (moved u (get_or kept u 0) (get_or costs u 0) (all u (wait.0, wait.1, λ e. wait.2 ((same u).0 e)))))
