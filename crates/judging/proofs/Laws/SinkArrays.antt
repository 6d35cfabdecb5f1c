-- The arrays from which the Kraft maximum is found, from the first sink to the last. Assumes nothing.
use Prim.Native.Nat.{ℕ, suc, ◌+◌, ◌≤◌, ◌<◌}
use mathlib.Core.Path.{◌≡◌, sym, ap, ◌∙◌, subst}
use mathlib.Core.Logic.{◌≢◌}
use mathlib.Core.List.{List, [], ◌∷◌}
use native.Mathlib.Omega.{arith}
use lib.ListN.{length, get_or, set, take, drop, take-append-drop}
use lib.Seq.{take-suc, length-take-le}
use lib.IntN.{ℤ, pos, ◌+ℤ◌, ◌-ℤ◌}
use Rattle.quantities.specs.Ranges.{Within}
use Rattle.tree.specs.declared.view.NetView.{NetView}
use Rattle.tree.specs.Lists.{count, down, range}
use Rattle.tree.specs.Net.{Net, size, own_slack, own_slacks}
use Rattle.tree.specs.Kraft.{IsKraftMaximum}
use Rattle.tree.specs.Planning.{order}
use Rattle.tree.specs.Limits.{sink_limit}
use Rattle.tree.specs.Inner.Views.{viewed_net}
use Rattle.tree.specs.SmallestSlack.{sinks_in, next_sink}
use Rattle.tree.proofs.Laws.Arrays.ReadyNet.{few_sinks, line_at, line_in_lem}
use Rattle.judging.specs.Inner.SinkSplits.{SinksReady, Kept, LargestAt, absent_limit, absent, worst_if_split}
use Rattle.tree.proofs.Laws.Lists.Sums.{down_in, down_once}
use Rattle.tree.proofs.Laws.Trees.LegalTrees.{somewhere}
use Rattle.tree.proofs.Laws.Planning.BeforeSettling.{count-append, order_count, order_length, take_all}
use Rattle.tree.proofs.Laws.Settling.SlackKept.{range_count}
use Rattle.tree.proofs.Laws.Planning.Steps.{newest_count, inserted, order_in, next_fresh, inserted_rising}
use Rattle.tree.proofs.Laws.Arrays.NetAndTree.{size_is}
use Rattle.tree.proofs.Laws.Measures.MeasuredArrays.{branch_is}
use Rattle.judging.proofs.Laws.SinkSplits.{kraft_bag, kept_first, kept_bag, slack_place, worst_meets, roomiest_in, kept_split}

-- ---- the sinks that are in after k splits

module _ (N : Net) (k : ℕ) (kN : k < size N) where
  -- they are the first of the order
  inserted_count : (y : ℕ) → count y (inserted N k) ≡ count y (sinks_in N k)
  inserted_count y =
      omega (arith, newest_count (order N) y (suc k) (omega (arith, order_length N)), count-append y (sinks_in N k) (drop (suc k) (order N)), ap (count y) (take-append-drop (suc k) (order N)))

  in_length : length (sinks_in N k) ≡ suc k
  in_length = length-take-le (suc k) (order N) (omega (arith, order_length N))

  in_order : (y : ℕ) → count y (sinks_in N k) ≤ count y (down 0 (size N))
  in_order y = omega (arith, count-append y (sinks_in N k) (drop (suc k) (order N)), ap (count y) (take-append-drop (suc k) (order N)), order_count N y)

  in_inside : (y : ℕ) → count y (sinks_in N k) ≢ 0 → (1 ≤ y) × (y ≤ size N)
  in_inside y m = omega (arith, down_in 0 (size N) y (omega (arith, m, in_order y)))

  in_once : (y : ℕ) → count y (sinks_in N k) ≢ 0 → count y (sinks_in N k) ≡ 1
  in_once y m = omega (arith, m, in_order y, down_once 0 (size N) y (in_inside y m).0 (omega (arith, (in_inside y m).1)))

  one_in : count (get_or (sinks_in N k) 0 0) (sinks_in N k) ≢ 0
  one_in = somewhere (sinks_in N k) 0 (omega (arith, in_length))

-- the last split: all are in
all_in : (N : Net) (k : ℕ) → size N ≡ suc k → (y : ℕ) → count y (sinks_in N k) ≡ count y (range 1 (size N))
all_in N k e y = ap (λ (i : ℕ). count y (take i (order N))) (sym e ∙ sym (order_length N)) ∙ ap (count y) (take_all (order N)) ∙ order_count N y ∙ sym (range_count (size N) y)

-- ---- the arrays of a net

module _ {N : Net} {branch : ℤ} {n : ℕ} {own : List ℤ} {sinks : List ℕ} (A : SinksReady N branch n own sinks) where
  pub some_sink : (1 ≤ n) × (n ≤ sink_limit)
  some_sink = few_sinks A.ready

  sink_is : (i : ℕ) → i < n → get_or sinks i 0 ≡ get_or (order N) i 0
  sink_is i q = line_at A.lined i q

  pub sink_in : (i : ℕ) → i < n → (1 ≤ get_or sinks i 0) × (get_or sinks i 0 ≤ n)
  sink_in i q = line_in_lem A.lined A.ready.size_is i q

  -- the first sink
  pub first_kept : (slacks : List ℤ) (a : ℤ) → n < length slacks → ((u : ℕ) → 1 ≤ u → u ≤ n → get_or slacks u (pos 0) ≡ absent) → a ≡ get_or own (get_or sinks 0 0) (pos 0)
      → Kept N (sinks_in N 0) (set slacks (get_or sinks 0 0) a) a
  first_kept slacks a long empty e =
      let x : ℕ = get_or (order N) 0 0 in
      let x_is : get_or sinks 0 0 ≡ x = sink_is 0 some_sink.0 in
      let a_is : a ≡ own_slack N x = e ∙ A.ready.own_is (get_or sinks 0 0) (sink_in 0 some_sink.0).0 (sink_in 0 some_sink.0).1 ∙ ap (own_slack N) x_is in
      subst (λ (S : List ℕ). Kept N S (set slacks (get_or sinks 0 0) a) a) (sym (take-suc (order N) 0 0 (omega (arith, order_length N, A.ready.in_range.sinks))))
      (subst (λ (z : ℕ). Kept N (x ∷ []) (set slacks z a) a) (sym x_is)
      (subst (λ (w : ℤ). Kept N (x ∷ []) (set slacks x w) w) (sym a_is) (kept_first N x slacks (omega (arith, x_is, sink_in 0 some_sink.0)) (λ u u1 uN. empty u u1 (omega (arith, A.ready.size_is))))))

  module _ (k : ℕ) {slacks : List ℤ} {worst : ℤ} (K : Kept N (sinks_in N k) slacks worst) (kn : k < n) where
    kN : k < size N
    kN = omega (arith, A.ready.size_is)

    few : length (sinks_in N k) ≤ size N
    few = omega (arith, in_length N k kN, kN)

    -- what stands at a place
    pub place_within : (u : ℕ) → 1 ≤ u → u ≤ n → Within absent_limit (get_or slacks u (pos 0))
    place_within u u1 un = slack_place N A.ready.in_range K few (in_inside N k kN) u u1 (omega (arith, A.ready.size_is))

    -- the end: all are in
    pub worst_maximum : n ≡ suc k → IsKraftMaximum N.branch (own_slacks N) worst
    worst_maximum e = record {
      meets = kraft_bag N.branch (own_slack N) worst (sinks_in N k) (range 1 (size N)) (suc (size N)) same below (worst_meets N A.ready.in_range K few (in_inside N k kN));
      largest = λ r κ. K.largest r (kraft_bag N.branch (own_slack N) r (range 1 (size N)) (sinks_in N k) (suc (size N)) (λ y. sym (same y)) (λ y m. below y (omega (arith, m, same y))) κ);
    }
      where
        same : (y : ℕ) → count y (sinks_in N k) ≡ count y (range 1 (size N))
        same = all_in N k (A.ready.size_is ∙ e)

        below : (y : ℕ) → count y (sinks_in N k) ≢ 0 → y < suc (size N)
        below y m = omega (arith, in_inside N k kN y m)

    -- one sink more, beside the sink v that the search finds
    module _ (more : suc k < n) {v : ℕ} (best : LargestAt (worst_if_split worst branch slacks) n v) where
      more_n : suc k < size N
      more_n = omega (arith, A.ready.size_is)

      best_in : LargestAt (worst_if_split worst (pos N.branch) slacks) (size N) v
      best_in = subst (λ (m : ℕ). LargestAt (worst_if_split worst (pos N.branch) slacks) m v) (sym A.ready.size_is) (subst (λ (c : ℤ). LargestAt (worst_if_split worst c slacks) n v) A.ready.branch_is best)

      v_in : count v (sinks_in N k) ≢ 0
      v_in = roomiest_in N A.ready.in_range K few (in_inside N k kN) (get_or (sinks_in N k) 0 0) (one_in N k kN) best_in

      abbrev next : ℕ
      next = next_sink N k

      abbrev lowered : ℤ
      lowered = get_or slacks v (pos 0) -ℤ pos N.branch

      beside : n < length slacks → Kept N (next ∷ sinks_in N k) (set (set slacks v lowered) next (own_slack N next -ℤ own_slack N v +ℤ lowered)) (worst_if_split worst (pos N.branch) slacks v)
      beside long =
          kept_split N A.ready.in_range K few (in_inside N k kN) (get_or (sinks_in N k) 0 0) (one_in N k kN) best_in next (order_in N (suc k) more_n).1
          (omega (arith, inserted_count N k kN next, next_fresh N k more_n)) (in_once N k kN v v_in) (inserted_rising N k more_n v (omega (arith, inserted_count N k kN v, v_in))) (omega (arith, A.ready.size_is))

      counts : (y : ℕ) → count y (next ∷ sinks_in N k) ≡ count y (sinks_in N (suc k))
      counts y = omega (arith, count-append y (sinks_in N k) (next ∷ []), ap (count y) (take-suc (order N) (suc k) 0 (omega (arith, order_length N, more_n))))

      pub next_kept : (slacks' : List ℤ) (w : ℤ) (s : ℕ) → n < length slacks → s ≡ get_or sinks (k + 1) 0
          → slacks' ≡ set (set slacks v (get_or slacks v (pos 0) -ℤ branch)) s (get_or own s (pos 0) -ℤ get_or own v (pos 0) +ℤ (get_or slacks v (pos 0) -ℤ branch))
          → w ≡ worst_if_split worst branch slacks v → Kept N (sinks_in N (suc k)) slacks' w
      next_kept slacks' w s long s_is slacks_is w_is =
          kept_bag N (next ∷ sinks_in N k) (sinks_in N (suc k)) (omega (arith, in_length N k kN, in_length N (suc k) more_n)) counts (λ y m. (in_inside N (suc k) more_n y (omega (arith, m, counts y))).1)
          (subst (λ (l : List ℤ). Kept N (next ∷ sinks_in N k) l w) (sym stored)
          (subst (Kept N (next ∷ sinks_in N k) (set (set slacks v lowered) next (own_slack N next -ℤ own_slack N v +ℤ lowered))) (sym (w_is ∙ (λ i. worst_if_split worst (A.ready.branch_is i) slacks v))) (beside long)))
        where
          s_next : s ≡ next
          s_next = s_is ∙ ap (λ (i : ℕ). get_or sinks i 0) (omega arith) ∙ sink_is (suc k) more

          own_next : get_or own s (pos 0) ≡ own_slack N next
          own_next = A.ready.own_is s (omega (arith, s_next, order_in N (suc k) more_n)) (omega (arith, s_next, order_in N (suc k) more_n, A.ready.size_is)) ∙ ap (own_slack N) s_next

          stored : slacks' ≡ set (set slacks v lowered) next (own_slack N next -ℤ own_slack N v +ℤ lowered)
          stored = slacks_is ∙ (λ i. set (set slacks v (get_or slacks v (pos 0) -ℤ A.ready.branch_is i)) (s_next i) (own_next i -ℤ A.ready.own_is v best.from best.to i +ℤ (get_or slacks v (pos 0) -ℤ A.ready.branch_is i)))

-- ---- the arrays of a net that is lent

module _ (v : NetView) where
  pub some_viewed : (1 ≤ v.n) × (v.n ≤ sink_limit)
  some_viewed = omega (arith, v.held.in_range.sinks, size_is v.header v.n v.xs.now v.ys.now v.required.now)

  pub viewed_size : size (viewed_net v) ≡ v.n
  viewed_size = size_is v.header v.n v.xs.now v.ys.now v.required.now

  pub sorted : (own : List ℤ) (sinks : List ℕ) → v.n < length own → ((s : ℕ) → 1 ≤ s → s ≤ v.n → get_or own s (pos 0) ≡ own_slack (viewed_net v) s) → v.n ≤ length sinks
      → take v.n sinks ≡ order (viewed_net v) → SinksReady (viewed_net v) v.header.branch.0 v.n own sinks
  sorted own sinks ol oi sl so =
      record {
        ready = record { in_range = v.held.in_range; size_is = viewed_size; branch_is = branch_is v.header v.n v.xs.now v.ys.now v.required.now v.held; own_long = ol; own_is = oi };
        lined = record { long = sl; sinks_are = so };
      }
