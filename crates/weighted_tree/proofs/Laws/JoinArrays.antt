-- What the arrays hold from join to join: none made, one more, all. Assumes nothing.
use Prim.Native.Nat.{ℕ, zero, suc, ◌+◌, ◌*◌, ◌-◌, ◌≤◌, ◌<◌}
use mathlib.Core.Path.{◌≡◌, refl, sym, ap, ap₂, ◌∙◌, subst}
use mathlib.Core.Logic.{◌≢◌, ◌⊎◌, inl, inr}
use mathlib.Core.List.{List, map}
use native.Mathlib.Omega.{arith}
use lib.ListN.{length, get_or, set, take, replicate, length-set, length-append, length-replicate}
use lib.Seq.{ext_get_or, get_or-set_same, get_or-set_other, get_or-take}
use lib.IntN.{ℤ, pos}
use Rattle.quantities.specs.Inner.Linear.{whole, up}
use Rattle.tree.specs.Lists.{count, range}
use Rattle.tree.specs.Tree.{parent_of}
use Rattle.tree.specs.Weights.{weight_of}
use Rattle.tree.specs.Planning.{sort, put}
use Rattle.tree.specs.Limits.{sink_limit, weight_limit, WeightsInRange}
use Rattle.tree.specs.Inner.Arrays.{parents_of, weights_of, HoldsWeights}
use Rattle.tree.specs.Inner.Insertion.{earlier_by}
use Rattle.tree.proofs.Laws.Lists.Sums.{equal?, down_in, down_once}
use Rattle.tree.proofs.Laws.Lists.Tables.{table_length, table_at, range_length}
use Rattle.tree.proofs.Laws.Trees.LegalTrees.{somewhere, down_le, put_same, put_other, hangs}
use Rattle.tree.proofs.Laws.Arrays.NetAndTree.{parents_length, parents_at}
use Rattle.tree.proofs.Laws.Arrays.ParentStores.{parents_put}
use Rattle.tree.proofs.Laws.Measures.MeasuredArrays.{pos_up}
use Rattle.tree.proofs.Laws.Settling.SlackKept.{range_count}
use Rattle.tree.proofs.Laws.Planning.Earlier.{says}
use Rattle.tree.proofs.Laws.Planning.BeforeSettling.{sort_count, sort_length}
use Rattle.tree.proofs.Laws.Planning.OneOrder.{LowerOwn, Sorted, sort_sorted}
use Rattle.weighted_tree.specs.Joining.{Joining, waiting, join_two, join_next, unjoined, joined_after, joined_parents}
use Rattle.weighted_tree.specs.Inner.Arrays.{Takes, Lower, Queues, Joined}
use Rattle.weighted_tree.proofs.Laws.FirstTwo.{before, sorted_at, place_of, first_two}
use Rattle.weighted_tree.proofs.Laws.Queues.{Stored, taken_more, apart, x_free, y_free, x_first, y_next, joined_queues}
use Rattle.weighted_tree.proofs.Laws.Joins.{start_weight}
use Rattle.weighted_tree.proofs.Laws.Fits.{totals_fit}

-- ---- one join

module _ (n k i : ℕ) (J : Joining) (ws : List ℤ) (os ps : List ℕ) (held : Joined n k i J ws os ps) (more : suc k < n) where
  abbrev key_at : ℕ → ℤ
  key_at v = get_or ws v (pos 0)

  abbrev sink_of : ℕ → ℕ
  sink_of q = get_or os q 0

  module _ (x i₁ j₁ : ℕ) (one : Takes n k key_at sink_of i (2 * k - i) x i₁ j₁) where
    -- the queues are not empty when one is taken
    pub more_wait : (i₁ ≤ n) × (j₁ ≤ k) × (i₁ + j₁ < n + k)
    more_wait =
        omega (
          arith,
          held.queues.two_each,
          taken_more n k (weight_of J.totals) sink_of held.queues.lines key_at held.weights_are i (2 * k - i) x i₁ j₁ one held.queues.sinks_taken held.queues.branches_taken,
        )

    module _ (y i₂ j₂ : ℕ) (two : Takes n k key_at sink_of i₁ j₁ y i₂ j₂) where
      abbrev W : ℕ → ℕ
      W = weight_of J.totals

      abbrev p : ℕ → ℕ
      p = parent_of J.parents

      ne : y ≢ x
      ne = apart n k i (2 * k - i) W p sink_of held.queues key_at held.weights_are x i₁ j₁ one y i₂ j₂ two

      xf : (1 ≤ x) × (x ≤ n + k) × (p x ≡ 0)
      xf = x_free n k i (2 * k - i) W p sink_of held.queues key_at held.weights_are x i₁ j₁ one y i₂ j₂ two

      yf : (1 ≤ y) × (y ≤ n + k) × (p y ≡ 0)
      yf = y_free n k i (2 * k - i) W p sink_of held.queues key_at held.weights_are x i₁ j₁ one y i₂ j₂ two

      -- the two are vertices
      pub next_in : (1 ≤ x) × (x < 2 * n) × (1 ≤ y) × (y < 2 * n)
      next_in = omega (arith, xf.0, xf.1, yf.0, yf.1)

      picked : (get_or (waiting (n + k) J) 0 0 ≡ x) × (get_or (waiting (n + k) J) 1 0 ≡ y)
      picked =
          first_two (n + k) J x y xf yf ne
          (x_first n k i (2 * k - i) W p sink_of held.queues key_at held.weights_are x i₁ j₁ one y i₂ j₂ two)
          (y_next n k i (2 * k - i) W p sink_of held.queues key_at held.weights_are x i₁ j₁ one y i₂ j₂ two)

      -- their total weight
      pub next_total : (key_at x ≡ pos (W x)) × (key_at y ≡ pos (W y))
      next_total = (held.weights_are x xf.0 xf.1, held.weights_are y yf.0 yf.1)

      pub next_fits : (w : List ℕ) → J ≡ joined_after n w k → WeightsInRange n w → n ≤ sink_limit → W x + W y ≤ sink_limit * weight_limit
      next_fits w e r few =
          let t : weight_of J.totals (get_or (waiting (n + k) J) 0 0) + weight_of J.totals (get_or (waiting (n + k) J) 1 0) ≤ sink_limit * weight_limit
          = subst (λ (K : Joining). weight_of K.totals (get_or (waiting (n + k) K) 0 0) + weight_of K.totals (get_or (waiting (n + k) K) 1 0) ≤ sink_limit * weight_limit) (sym e) (totals_fit n w k r few more) in
          omega (arith, ap W picked.0, ap W picked.1)

      -- the stores
      module _ (pl : 2 * n ≤ length ps) (wl : 2 * n ≤ length ws) where
        abbrev J' : Joining
        J' = join_two J (n + suc k) x y

        parents_long : suc (length J.parents) ≡ 2 * n
        parents_long = omega (arith, ap (λ (P : List ℕ). length P) held.parents_are, parents_length n ps)

        stored : Stored (n + suc k) x y W p (weight_of J'.totals) (parent_of J'.parents)
        stored = record {
          total = put_same J.totals b (W x + W y) (omega arith) (omega (arith, held.totals_long));
          totals = λ v d. put_other J.totals b (W x + W y) v (omega arith) d;
          x_under = put_other (put J.parents x b) y b x yf.0 (λ e. ne (sym e)) ∙ put_same J.parents x b xf.0 (omega (arith, parents_long, xf.1));
          y_under = put_same (put J.parents x b) y b yf.0 (omega (arith, length-set J.parents (x - 1) b, parents_long, yf.1));
          others = λ v dx dy. put_other (put J.parents x b) y b v yf.0 dy ∙ put_other J.parents x b v xf.0 dx;
        }
          where
            b : ℕ
            b = n + suc k

        module _ (b : ℕ) (eb : b ≡ n + suc k) (z : ℤ) (ez : z ≡ pos (W x + W y)) where
          weight_at : (v : ℕ) → 1 ≤ v → v ≤ n + suc k → (v ≡ n + suc k) ⊎ (v ≢ n + suc k) → get_or (set ws b z) v (pos 0) ≡ pos (weight_of J'.totals v)
          weight_at v h l (inl e) =
              ap (λ (u : ℕ). get_or (set ws b z) u (pos 0)) (e ∙ sym eb) ∙ get_or-set_same ws b z (pos 0) (omega arith) ∙ ez
              ∙ ap pos (sym (ap (weight_of J'.totals) e ∙ stored.total))
          weight_at v h l (inr d) =
              get_or-set_other ws b v z (pos 0) (λ e. d (e ∙ eb)) ∙ held.weights_are v h (omega arith) ∙ ap pos (sym (stored.totals v d))

          parents_now : parents_of n (set (set ps x b) y b) ≡ J'.parents
          parents_now =
              parents_put n (set ps x b) y b (omega (arith, length-set ps x b)) yf.0 next_in.3
              ∙ ap (λ (P : List ℕ). put P y b) (parents_put n ps x b pl xf.0 next_in.1 ∙ ap (λ (P : List ℕ). put P x b) held.parents_are)
              ∙ ap (λ (u : ℕ). put (put J.parents x u) y u) eb

          queues_now : Queues n (suc k) i₂ (2 * suc k - i₂) (weight_of J'.totals) (parent_of J'.parents) sink_of
          queues_now =
              let q : Queues n (suc k) i₂ j₂ (weight_of J'.totals) (parent_of J'.parents) sink_of =
              joined_queues n k i (2 * k - i) W p sink_of held.queues key_at held.weights_are x i₁ j₁ one y i₂ j₂ two (weight_of J'.totals) (parent_of J'.parents) stored more in
              let e : j₂ ≡ 2 * suc k - i₂ = omega (arith, q.two_each) in
              subst (λ (j : ℕ). Queues n (suc k) i₂ j (weight_of J'.totals) (parent_of J'.parents) sink_of) e q

          pub next_joined : Joined n (suc k) i₂ (join_next n k J) (set ws b z) os (set (set ps x b) y b)
          next_joined =
              subst (λ (K : Joining). Joined n (suc k) i₂ K (set ws b z) os (set (set ps x b) y b)) (ap₂ (join_two J (n + suc k)) (sym picked.0) (sym picked.1))
              record {
                totals_long = ap suc (length-set J.totals (n + suc k - 1) (W x + W y)) ∙ held.totals_long;
                weights_are = λ v h l. weight_at v h l (equal? v (n + suc k));
                parents_are = parents_now;
                queues = queues_now;
              }

-- ---- the start

module _ (n : ℕ) (ws : List ℤ) (os ps : List ℕ) (some : 1 ≤ n) (held : HoldsWeights n ws) (ol : n ≤ length os)
    (sorted : take n os ≡ sort (earlier_by ws) (range 1 n)) (cleared : (v : ℕ) → v < 2 * n → get_or ps v 0 ≡ 0) where
  w : List ℕ
  w = weights_of n ws

  own : List ℕ
  own = map (weight_of w) (range 1 n)

  own_long : length own ≡ n
  unfolding own
  own_long = table_length (weight_of w) 1 n

  weight_is : (s : ℕ) → 1 ≤ s → s ≤ n → get_or ws s (pos 0) ≡ pos (weight_of w s)
  unfolding w
  weight_is zero h l = absurd (omega arith)
  weight_is (suc m) h l =
      let e : 1 + m ≡ suc m = omega arith in
      let t : weight_of (weights_of n ws) (suc m) ≡ up (get_or ws (suc m) (pos 0)) = table_at (λ (s : ℕ). up (get_or ws s (pos 0))) 0 1 n m (omega arith) ∙ ap (λ (s : ℕ). up (get_or ws s (pos 0))) e in
      pos_up (get_or ws (suc m) (pos 0)) (omega (arith, (held.in_range.each (suc m) h l).0)) ∙ ap pos (sym t)

  key_is : (s : ℕ) → 1 ≤ s → s ≤ n → get_or ws s (pos 0) ≡ pos (weight_of (unjoined n w).totals s)
  key_is s h l = weight_is s h l ∙ ap pos (sym (start_weight n w s h l))

  -- the sinks in `order`
  line : List ℕ
  line = sort (earlier_by ws) (range 1 n)

  line_long : length line ≡ n
  unfolding line
  line_long = sort_length (earlier_by ws) (range 1 n) ∙ range_length 1 n

  line_once : (y : ℕ) → count y (range 1 n) ≤ 1
  line_once y = omega (arith, range_count n y, down_le 0 n y)

  abbrev o : ℕ → ℤ
  o v = get_or ws v (pos 0)

  line_sorted : Sorted o line
  unfolding line
  line_sorted = sort_sorted o (earlier_by ws) (λ x y d t e. before o x y d t (says o x y t e)) (range 1 n) line_once

  order_at : (q : ℕ) → q < n → get_or os q 0 ≡ get_or line q 0
  unfolding line
  order_at q h = sym (get_or-take n os q 0 h) ∙ ap (λ (l : List ℕ). get_or l q 0) sorted

  line_count : (y : ℕ) → count y line ≡ count y (range 1 n)
  unfolding line
  line_count y = sort_count (earlier_by ws) (range 1 n) y

  line_sinks : (q : ℕ) → q < n → (1 ≤ get_or os q 0) × (get_or os q 0 ≤ n)
  line_sinks q h =
      let c : count (get_or line q 0) line ≢ 0 = somewhere line q (omega (arith, line_long)) in
      let d : (0 < get_or line q 0) × (get_or line q 0 ≤ 0 + n) = down_in 0 n (get_or line q 0) (omega (arith, line_count (get_or line q 0), range_count n (get_or line q 0))) in
      omega (arith, order_at q h)

  start_queues : Queues n 0 0 (2 * 0 - 0) (weight_of (unjoined n w).totals) (parent_of (unjoined n w).parents) (λ (q : ℕ). get_or os q 0)
  start_queues = record {
    lines = record { sinks = line_sinks; sinks_rise = rise; branches_rise = λ b c h g l. absurd (omega arith) };
    sinks_taken = omega arith;
    branches_taken = omega arith;
    two_each = refl;
    free = λ u h. hangs (2 * n - 1) u;
    all = λ u a b f. inl (waits u a (omega arith));
    unborn = λ u l. hangs (2 * n - 1) u;
    light = λ b u h l g. absurd (omega arith);
  }
    where
      rise : (q r : ℕ) → q < r → r < n → Lower (weight_of (unjoined n w).totals) (get_or os q 0) (get_or os r 0)
      rise q r h g =
          let l : LowerOwn o (get_or line q 0) (get_or line r 0) = sorted_at o line line_sorted q r h (omega (arith, line_long)) in
          let m : LowerOwn o (get_or os q 0) (get_or os r 0) = subst (λ (u : ℕ). LowerOwn o u (get_or os r 0)) (sym (order_at q (omega arith))) (subst (LowerOwn o (get_or line q 0)) (sym (order_at r g)) l) in
          let a = key_is (get_or os q 0) (line_sinks q (omega arith)).0 (line_sinks q (omega arith)).1 in
          let b = key_is (get_or os r 0) (line_sinks r g).0 (line_sinks r g).1 in
          (omega (arith, whole, m.le, a, b), λ e. m.tie (a ∙ ap pos e ∙ sym b))

      waits : (u : ℕ) → 1 ≤ u → u ≤ n → (q : ℕ) × (0 ≤ q) × (q < n) × (get_or os q 0 ≡ u)
      waits u h l =
          let r = place_of line u (omega (arith, line_count u, range_count n u, down_once 0 n u h (omega arith))) in
          let s : r.0 < n = omega (arith, r.1, line_long) in
          (r.0, omega arith, s, order_at r.0 s ∙ r.2)

  pub start_joined : Joined n 0 0 (joined_after n (weights_of n ws) 0) ws os ps
  unfolding w own
  start_joined = record {
    totals_long = omega (arith, length-append own (replicate (n - 1) 0), own_long, length-replicate (n - 1) zero);
    weights_are = λ v h l. key_is v h (omega arith);
    parents_are = ext_get_or 0 (parents_of n ps) (replicate (2 * n - 1) 0) (parents_length n ps ∙ sym (length-replicate (2 * n - 1) zero)) at;
    queues = start_queues;
  }
    where
      at : (m : ℕ) → m < length (parents_of n ps) → get_or (parents_of n ps) m 0 ≡ get_or (replicate (2 * n - 1) 0) m 0
      at m h =
          let l : suc m < 2 * n = omega (arith, parents_length n ps) in
          parents_at n ps (suc m) (omega arith) l ∙ cleared (suc m) l ∙ sym (hangs (2 * n - 1) (suc m))

-- ---- the end

pub end_joined : (n k i : ℕ) (w : List ℕ) (ws : List ℤ) (os ps : List ℕ) → k ≡ n - 1 → Joined n k i (joined_after n w k) ws os ps → parents_of n ps ≡ joined_parents n w
unfolding joined_parents
end_joined n k i w ws os ps e h = h.parents_are ∙ ap (λ (m : ℕ). (joined_after n w m).parents) e
