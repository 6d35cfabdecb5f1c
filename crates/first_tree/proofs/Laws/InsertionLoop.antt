-- The loop of insertion over the arrays that the program keeps: the first sink, one more, and the last. Assumes nothing.
use Prim.Native.Nat.{ℕ, suc, ◌+◌, ◌*◌, ◌-◌, ◌≤◌, ◌<◌}
use mathlib.Core.Path.{◌≡◌, refl, sym, ap, ◌∙◌, subst}
use mathlib.Core.Bool.{Bool, true, false, cond}
use mathlib.Core.Logic.{◌≢◌, ◌⊎◌, inl, inr}
use mathlib.Core.List.{List, [], ◌∷◌, ◌++◌}
use native.Mathlib.Decide.{dec_le}
use native.Mathlib.Nat.{zero-mul}
use native.Mathlib.Omega.{arith}
use borrow.Author.Tests.{ltb-true, ltb-false}
use lib.ListN.{length, get_or, set, drop, replicate, length-set, length-replicate, get_or-replicate, get_or-eq_default}
use lib.Seq.{ext_get_or, get_or-set_same, get_or-set_other, drop-length}
use lib.Dec.{ltb}
use lib.IntN.{ℤ, pos}
use lib.Signed.{◌≤ℤ◌, ≤ℤ_refl}
use Rattle.quantities.specs.declared.point.Point.{Point}
use Rattle.quantities.specs.Distance.{distance}
use Rattle.quantities.specs.Inner.Linear.{whole, -is}
use Rattle.quantities.specs.Ranges.{Within}
use Rattle.quantities.specs.Inner.Reach.{time_reach}
use Rattle.tree.specs.Lists.{delta, count, down, range}
use Rattle.tree.specs.Net.{Net, size, sink_at, own_slack}
use Rattle.tree.specs.Tree.{parent_of}
use Rattle.tree.specs.Measures.{slack}
use Rattle.tree.specs.Planning.{order, unsettled, split, far, tie_rule, worst_after, chosen, parents_after, plan_parents}
use Rattle.tree.specs.Settling.{plan_by}
use Rattle.tree.specs.Inner.Arrays.{point_at, parents_of, LeavesUp, UnderRoot, Chained}
use Rattle.tree.specs.SmallestSlack.{Gathered, InTree, tree_after, score_of, next_sink}
use Rattle.tree.specs.Inner.Insertion.{Ready, Lined, Placed, Inserted, Leveled, SplitsNext}
use Rattle.first_tree.specs.Inner.Choice.{far_at, BestEnd, SinkEnd, AnyEnd, NoneRoomier}
use Rattle.tree.proofs.Laws.Lists.Sums.{delta_self, delta_ne, equal?, down_in, down_low, down_once}
use Rattle.tree.proofs.Laws.Arrays.NetAndTree.{parents_length, parents_at}
use Rattle.tree.proofs.Laws.Gathering.GatheredNumbers.{gathered_if, gathered_least, gathered_sink, gathered_score, gathered_within}
use Rattle.tree.proofs.Laws.Trees.Growing.{Inner, parent_inner, hops_up}
use Rattle.tree.proofs.Laws.Planning.KeepsBest.{Least}
use Rattle.tree.proofs.Laws.Kraft.GapSums.{depth_in}
use Rattle.tree.proofs.Laws.Measures.VertexDelays.{place_sink, place_unsettled}
use Rattle.tree.proofs.Laws.Arrays.ReadyNet.{few_sinks, line_at}
use Rattle.tree.proofs.Laws.Arrays.ParentStores.{parents_split}
use Rattle.tree.proofs.Laws.Planning.BeforeSettling.{count-append, order_count, order_length}
use Rattle.tree.proofs.Laws.Planning.SinkEdge.{meet_self}
use Rattle.tree.proofs.Laws.Planning.Ties.{NearerOrLower, best_unique}
use Rattle.tree.proofs.Laws.Settling.SlackKept.{range_count, settling}
use Rattle.tree.proofs.Laws.Planning.AnyTieRule.{plan_legal}
use Rattle.tree.proofs.Laws.Planning.TreeAfter.{t, to_vertex, from_vertex, vertex_in, slack_is, path_length, worst_least, enlarged, parent_is}
use Rattle.tree.proofs.Laws.Trees.Upward.{SplitAt, grown_up, put_in, put_in_lem, chained_put}
use Rattle.tree.proofs.Laws.Trees.Walks.{hops, hops_zero}
use Rattle.tree.proofs.Laws.Planning.WorstAfter.{LeastBelow, least_one, before}
use Rattle.tree.proofs.Laws.Planning.Steps.{newest_first, newest_count, newest_each, newest_member, inserted, parents_next, order_in, next_fresh, inserted_in}

-- ---- the first sink

module _ (N : Net) (n1 : 1 ≤ size N) where
  parents_start : (ps : List ℕ) → ((v : ℕ) → v < 2 * size N → get_or ps v 0 ≡ 0) → parents_of (size N) ps ≡ parents_after tie_rule N 0
  parents_start ps z =
      ext_get_or 0 (parents_of (size N) ps) (replicate (2 * size N - 1) 0) (parents_length (size N) ps ∙ sym (length-replicate (2 * size N - 1) 0))
      (λ i q. let h : suc i < 2 * size N = omega (arith, parents_length (size N) ps) in parents_at (size N) ps (suc i) (omega arith) h ∙ z (suc i) h ∙ sym (get_or-replicate (2 * size N - 1) i 0 0 (omega arith)))

pub insert_first : {N : Net} {c : ℤ} {n : ℕ} {own : List ℤ} {sinks : List ℕ} → Ready N c n own → Lined N n sinks → (ps us : List ℕ) → ((v : ℕ) → v < 2 * n → get_or ps v 0 ≡ 0) → get_or us 0 0 ≡ get_or sinks 0 0 → Inserted N 0 ps us
insert_first {N} {c} {n} {own} {sinks} R L ps us z u = record {
  parents_are = parents_start N R.in_range.sinks.0 ps (λ v l. z v (omega (arith, R.size_is)));
  leaves_up = record {
    inside = λ i l. let e : 0 ≡ i = omega arith in subst (λ (j : ℕ). InTree N 0 (get_or us j 0)) e (from (get_or us 0 0) u₀);
    all = λ v h. (0, omega arith, u₀ ∙ sym (to v h));
    once = λ h i hl il e. omega arith;
    before = λ h i hl il e. let a : 0 ≡ h = omega arith in let b : 0 ≡ i = omega arith in
        absurd (omega (arith, ap (λ (j : ℕ). get_or ps (get_or us j 0) 0) a, ap (λ (j : ℕ). get_or us j 0) b, e, z (get_or us 0 0) (omega (arith, x_in, u₀, R.size_is)), x_in, u₀));
  };
}
  where
    x : ℕ
    x = get_or (order N) 0 0

    c1 : 0 < N.branch
    c1 = R.in_range.branch.0

    u₀ : get_or us 0 0 ≡ get_or (order N) 0 0
    u₀ = u ∙ line_at L 0 (few_sinks R).0

    x_in : (1 ≤ get_or (order N) 0 0) × (get_or (order N) 0 0 ≤ size N)
    x_in = order_in N 0 R.in_range.sinks.0

    from : (v : ℕ) → v ≡ get_or (order N) 0 0 → InTree N 0 v
    from v e = from_vertex N c1 0 R.in_range.sinks.0 v (omega (arith, ap (λ (w : ℕ). delta w (get_or (order N) 0 0)) e, delta_self (get_or (order N) 0 0)))

    to : (v : ℕ) → InTree N 0 v → v ≡ get_or (order N) 0 0
    to v h = go (equal? v (get_or (order N) 0 0))
      where
        go : (v ≡ get_or (order N) 0 0) ⊎ (v ≢ get_or (order N) 0 0) → v ≡ get_or (order N) 0 0
        go (inl e) = e
        go (inr d) = absurd (omega (arith, to_vertex N c1 0 R.in_range.sinks.0 v h, delta_ne v (get_or (order N) 0 0) d))

pub chain_first : (below : List ℕ) {below' : List ℕ} (first : ℕ) → 1 ≤ first → first < length below → below' ≡ set (set below 0 first) first 0 → Chained 1 (first ∷ []) below'
chain_first below {below'} first f1 l e = record {
  size = refl;
  first = ap (λ (z : List ℕ). get_or z first 0) e ∙ get_or-set_same (set below 0 first) first 0 0 (omega (arith, length-set below 0 first));
  next = λ i q. let z : 0 ≡ i = omega arith in subst (λ (h : ℕ). get_or below' (get_or (first ∷ []) (suc h) 0) 0 ≡ get_or (first ∷ []) h 0) z
      (ap (λ (z : List ℕ). get_or z 0 0) e ∙ get_or-set_other (set below 0 first) first 0 0 0 (omega arith) ∙ get_or-set_same below 0 first 0 (omega arith));
}

-- its level and its number
module _ {N : Net} {c : ℤ} {n : ℕ} {own : List ℤ} {sinks : List ℕ} (R : Ready N c n own) (L : Lined N n sinks) (levels : List ℕ) (slacks : List ℤ) {ls : List ℕ} {ss : List ℤ} {first : ℕ} (first_is : first ≡ get_or sinks 0 0)
    (long_l : first < length levels) (long_s : first < length slacks) (ls_is : ls ≡ set (set levels 0 0) first 1)
    (ss_is : ss ≡ set (set slacks 0 (get_or own first (pos 0))) first (get_or own first (pos 0))) where
  o1 : 0 < N.branch
  o1 = R.in_range.branch.0

  oN : 0 < size N
  oN = R.in_range.sinks.0

  abbrev p₀ : ℕ → ℕ
  p₀ = parent_of (parents_after tie_rule N 0)

  x_is : first ≡ get_or (order N) 0 0
  x_is = first_is ∙ line_at L 0 (few_sinks R).0

  x_in : (1 ≤ first) × (first ≤ size N)
  x_in = omega (arith, x_is, order_in N 0 oN)

  only_x : (v : ℕ) → count v (inserted N 0) + count v (down (size N) 0) ≢ 0 → v ≡ first
  only_x v h = go (equal? v (get_or (order N) 0 0))
    where
      go : (v ≡ get_or (order N) 0 0) ⊎ (v ≢ get_or (order N) 0 0) → v ≡ first
      go (inl e) = e ∙ sym x_is
      go (inr d) = absurd (omega (arith, delta_ne v (get_or (order N) 0 0) d))

  x_old : count first (inserted N 0) ≢ 0
  x_old = omega (arith, ap (λ (z : ℕ). delta z (get_or (order N) 0 0)) x_is, delta_self (get_or (order N) 0 0))

  hangs : p₀ first ≡ 0
  hangs = go (parent_inner (t N o1 0 oN) first (omega (arith, x_old)))
    where
      go : Inner (size N) 0 (p₀ first) → p₀ first ≡ 0
      go (inl e) = e
      go (inr i) = absurd (omega (arith, i))

  own_x : get_or own first (pos 0) ≡ before N 0 (parents_after tie_rule N 0) first
  own_x =
      let d : depth_in (2 * 0 + 1) p₀ first ≡ 0 = ap (hops p₀ (2 * 0 + 1)) hangs ∙ hops_zero p₀ (2 * 0 + 1) in
      let e : depth_in (2 * 0 + 1) p₀ first * N.branch ≡ 0 = rw d (zero-mul N.branch) in
      R.own_is first x_in.0 (omega (arith, x_in, R.size_is)) ∙ omega (arith, whole, -is (own_slack N first) (pos (depth_in (2 * 0 + 1) p₀ first * N.branch)))

  number_x : get_or ss first (pos 0) ≡ before N 0 (parents_after tie_rule N 0) first
  number_x = ap (λ (z : List ℤ). get_or z first (pos 0)) ss_is ∙ get_or-set_same (set slacks 0 (get_or own first (pos 0))) first (get_or own first (pos 0)) (pos 0) (omega (arith, length-set slacks 0 (get_or own first (pos 0)))) ∙ own_x

  number_root : get_or ss 0 (pos 0) ≡ before N 0 (parents_after tie_rule N 0) first
  number_root =
      ap (λ (z : List ℤ). get_or z 0 (pos 0)) ss_is ∙ get_or-set_other (set slacks 0 (get_or own first (pos 0))) first 0 (get_or own first (pos 0)) (pos 0) (omega (arith, x_in))
      ∙ get_or-set_same slacks 0 (get_or own first (pos 0)) (pos 0) (omega (arith, long_s)) ∙ own_x

  pub first_leveled : Leveled N 0 ls
  first_leveled = record {
    root = ap (λ (z : List ℕ). get_or z 0 0) ls_is ∙ get_or-set_other (set levels 0 0) first 0 1 0 (omega (arith, x_in)) ∙ get_or-set_same levels 0 0 0 (omega (arith, long_l));
    edges = λ v h. let m = to_vertex N o1 0 oN v h in
        ap (λ (z : ℕ). get_or ls z 0) (only_x v m) ∙ ap (λ (z : List ℕ). get_or z first 0) ls_is ∙ get_or-set_same (set levels 0 0) first 1 0 (omega (arith, length-set levels 0 0))
        ∙ sym (path_length N o1 0 oN v m ∙ ap (hops p₀ (2 * 0 + 1)) (only_x v m) ∙ one);
  }
    where
      one : hops p₀ (2 * 0 + 1) first ≡ 1
      one = omega (arith, hops_up p₀ (2 * 0 + 1) first (omega (arith, x_in)) ((t N o1 0 oN).reach first (omega (arith, x_old))), ap (hops p₀ (2 * 0 + 1)) hangs, hops_zero p₀ (2 * 0 + 1))

  pub first_gathered : Gathered N 0 ss
  first_gathered = gathered_if N o1 0 oN ss least (least_one (inserted N 0) f (get_or ss 0 (pos 0)) _ root (worst_least N o1 0 oN))
    where
      f : ℕ → ℤ
      f = before N 0 (parents_after tie_rule N 0)

      below : (w : ℤ) → w ≡ f first → (y : ℕ) → count y (inserted N 0) ≢ 0 → w ≤ℤ f y
      below w e y m = subst (λ (z : ℕ). w ≤ℤ f z) (sym (only_x y (omega arith))) (subst (λ (z : ℤ). w ≤ℤ z) e (≤ℤ_refl w))

      root : Least (inserted N 0) f (get_or ss 0 (pos 0))
      root = record { below = below (get_or ss 0 (pos 0)) number_root; at = first; in_list = x_old; is = sym number_root }

      at_x : LeastBelow p₀ (2 * 0 + 1) first (inserted N 0) f (get_or ss first (pos 0))
      at_x = record { below = λ y m h. below (get_or ss first (pos 0)) number_x y m; at = first; in_list = x_old; under = meet_self p₀ (2 * 0 + 1) first (omega (arith, x_in)) ((t N o1 0 oN).reach first (omega (arith, x_old))); is = sym number_x }

      least : (v : ℕ) → count v (inserted N 0) + count v (down (size N) 0) ≢ 0 → LeastBelow p₀ (2 * 0 + 1) v (inserted N 0) f (get_or ss v (pos 0))
      least v h = subst (λ (z : ℕ). LeastBelow p₀ (2 * 0 + 1) z (inserted N 0) f (get_or ss z (pos 0))) (sym (only_x v h)) at_x

-- ---- the next sink

module _ {N : Net} {n : ℕ} {xs ys : List ℤ} (e : size N ≡ n) (W : Placed N n xs ys) where
  far_is : (P : List ℕ) (s v : ℕ) → 1 ≤ s → s ≤ n → 1 ≤ v → far_at n xs ys s v ≡ far N P s v
  far_is P s v s1 sn v1 = go (ltb n v) refl
    where
      go : (b : Bool) → ltb n v ≡ b → distance (point_at xs ys (cond b 0 v)) (point_at xs ys s) ≡ far N P s v
      go true h = (λ i. distance (W.root_at i) (W.sinks_at s s1 sn i)) ∙ ap (λ (q : Point). distance q (sink_at N s)) (sym (place_unsettled N P v (omega (arith, ltb-true n v h, e))))
      go false h =
          let vn : v ≤ n = ltb-false n v h in
          (λ i. distance (W.sinks_at v v1 vn i) (W.sinks_at s s1 sn i)) ∙ ap (λ (q : Point). distance q (sink_at N s)) (sym (place_sink N (unsettled N P) v v1 (omega (arith, e))))

module _ {N : Net} {c : ℤ} {n : ℕ} {own xs ys : List ℤ} {sinks : List ℕ} (R : Ready N c n own) (L : Lined N n sinks) (W : Placed N n xs ys)
    {k : ℕ} {ps us : List ℕ} {slacks : List ℤ} (I : Inserted N k ps us) (G : Gathered N k slacks) (kn : suc k < n) where
  a1 : 0 < N.branch
  a1 = R.in_range.branch.0

  kS : suc k < size N
  kS = omega (arith, R.size_is)

  low : k < size N
  low = omega (arith, R.size_is)

  abbrev Q : List ℕ
  Q = parents_after tie_rule N k

  abbrev next : ℕ
  next = next_sink N k

  abbrev Old : ℕ → Type 0
  Old v = count v (inserted N k) + count v (down (size N) k) ≢ 0

  rank_old : (i : ℕ) → i < suc k → Old (get_or sinks i 0)
  rank_old i l =
      let e : get_or sinks i 0 ≡ get_or (order N) i 0 = line_at L i (omega arith) in
      subst Old (sym e) (omega (arith, newest_member (order N) (suc k) i l))

  -- the lower ends that the search goes through are the vertices of the tree
  end_old : (v : ℕ) → AnyEnd sinks (suc k) n k v → Old v
  end_old v (inl w) = subst Old w.2 (rank_old w.0 w.1)
  end_old v (inr r) = omega (arith, down_once (size N) k v (omega (arith, r.0, R.size_is)) (omega (arith, r.1, R.size_is)))

  in_end : (v : ℕ) → count v (inserted N k) ≢ 0 → SinkEnd sinks (suc k) v
  in_end = newest_each (order N) (SinkEnd sinks (suc k)) (suc k) (λ i l. (i, l, line_at L i (omega arith)))

  old_end : (v : ℕ) → Old v → AnyEnd sinks (suc k) n k v
  old_end v h = go (equal? (count v (inserted N k)) 0)
    where
      go : (count v (inserted N k) ≡ 0) ⊎ (count v (inserted N k) ≢ 0) → AnyEnd sinks (suc k) n k v
      go (inl e) = let d : (size N < v) × (v ≤ size N + k) = down_in (size N) k v (omega arith) in inr (omega (arith, d, R.size_is))
      go (inr d) = inl (in_end v d)

  pub end_within : (v : ℕ) → AnyEnd sinks (suc k) n k v → Within time_reach (get_or slacks v (pos 0))
  end_within v h = gathered_within N R.in_range k low G v (from_vertex N a1 k low v (end_old v h))

  -- the least slack under a branch point is that of a sink that is in
  pub none_roomier : NoneRoomier n k sinks slacks
  none_roomier b l h =
      let under = gathered_least N a1 k low G b (end_old b (inr (l, h))) in
      let w : SinkEnd sinks (suc k) under.at = in_end under.at under.in_list in
      let e : get_or slacks (get_or sinks w.0 0) (pos 0) ≡ get_or slacks b (pos 0) =
      ap (λ (u : ℕ). get_or slacks u (pos 0)) w.2 ∙ gathered_sink N a1 k low G under.at under.in_list ∙ slack_is N a1 k low under.at under.in_list ∙ under.is in
      (w.0, w.1, omega (arith, whole, e))

  score_is : (v : ℕ) → Old v → worst_after N (inserted N k) k Q next v ≡ score_of c slacks v
  score_is v h = enlarged N a1 k low kS v ∙ sym (gathered_score N a1 k low G kS v h) ∙ ap (λ (z : ℤ). score_of z slacks v) (sym R.branch_is)

  -- the lower end that the search finds is that of the chosen edge
  module _ {s v : ℕ} (s_is : s ≡ get_or sinks (k + 1) 0) (B : BestEnd (AnyEnd sinks (suc k) n k) (score_of c slacks) (far_at n xs ys s) v) where
    pub s_next : s ≡ next_sink N k
    s_next = s_is ∙ ap (λ (i : ℕ). get_or sinks i 0) (omega arith) ∙ line_at L (suc k) kn

    next_in : (1 ≤ next) × (next ≤ size N)
    next_in = order_in N (suc k) kS

    v_old : Old v
    v_old = end_old v B.inside

    far_same : (u : ℕ) → Old u → far_at n xs ys s u ≡ far N Q next u
    far_same u h = ap (λ (z : ℕ). far_at n xs ys z u) s_next ∙ far_is R.size_is W Q next u next_in.0 (omega (arith, next_in, R.size_is)) (vertex_in N a1 k low u h).0

    chosen_is : v ≡ chosen tie_rule N (inserted N k) k Q next
    unfolding tie_rule
    chosen_is =
        best_unique (far N Q next) (worst_after N (inserted N k) k Q next) (get_or (order N) k 0) (newest_first (order N) k ++ down (size N) k) v (listed v v_old)
        (λ u m. top u (unlisted u m)) (λ u m q. first u (unlisted u m) q)
      where
        z : ℕ
        z = get_or (order N) k 0

        rest : List ℕ
        rest = newest_first (order N) k

        listed : (u : ℕ) → Old u → count u (get_or (order N) k 0 ∷ (newest_first (order N) k ++ down (size N) k)) ≢ 0
        listed u h = omega (arith, count-append u (newest_first (order N) k) (down (size N) k))

        unlisted : (u : ℕ) → count u (get_or (order N) k 0 ∷ (newest_first (order N) k ++ down (size N) k)) ≢ 0 → Old u
        unlisted u h = omega (arith, count-append u (newest_first (order N) k) (down (size N) k))

        top : (u : ℕ) → Old u → worst_after N (inserted N k) k Q next u ≤ℤ worst_after N (inserted N k) k Q next v
        top u h = subst (λ (x : ℤ). x ≤ℤ worst_after N (inserted N k) k Q next v) (sym (score_is u h)) (subst (λ (x : ℤ). score_of c slacks u ≤ℤ x) (sym (score_is v v_old)) (B.largest u (old_end u h)))

        first : (u : ℕ) → Old u → worst_after N (inserted N k) k Q next u ≡ worst_after N (inserted N k) k Q next v → NearerOrLower (far N Q next) v u
        first u h q =
            let same : score_of c slacks u ≡ score_of c slacks v = sym (score_is u h) ∙ q ∙ score_is v v_old in
            let du : far_at n xs ys s u ≡ far N Q next u = far_same u h in
            let dv : far_at n xs ys s v ≡ far N Q next v = far_same v v_old in
            record { near = omega (arith, B.nearest u (old_end u h) same, du, dv); low = λ i. omega (arith, B.lowest u (old_end u h) same (du ∙ sym i ∙ sym dv)) }

    pub splits_next : SplitsNext N k v
    splits_next = (from_vertex N a1 k low v v_old, parents_next tie_rule N k kS ∙ ap (split Q (size N) k next) (sym chosen_is))

    pub end_place : (i : ℕ) × (i < 2 * k + 1) × (get_or us i 0 ≡ v)
    end_place = I.leaves_up.all v (from_vertex N a1 k low v v_old)

    -- one insertion more
    module _ (below : List ℕ) {ps' below' : List ℕ} {b : ℕ} (b_is : b ≡ n + k + 1) (long : 2 * n ≤ length ps) (room : 2 * n ≤ length below) (C : Chained (2 * k + 1) us below)
        (ps_is : ps' ≡ set (set (set ps b (get_or ps v 0)) v b) s b) (below_is : below' ≡ set (set (set below s (get_or below (get_or ps v 0) 0)) b s) (get_or ps v 0) b) where
      b_next : b ≡ size N + suc k
      b_next = omega (arith, R.size_is)

      v_in : (1 ≤ v) × (v < 2 * size N)
      v_in = vertex_in N a1 k low v v_old

      s_fresh : Old s → ⊥
      s_fresh h = omega (arith, ap (λ (z : ℕ). count z (inserted N k)) s_next, ap (λ (z : ℕ). count z (down (size N) k)) s_next, next_fresh N k kS, down_low (size N) k next next_in.1)

      b_fresh : Old b → ⊥
      b_fresh h = go (equal? (count b (inserted N k)) 0)
        where
          go : (count b (inserted N k) ≡ 0) ⊎ (count b (inserted N k) ≢ 0) → ⊥
          go (inl z) = omega (arith, down_in (size N) k b (omega arith), b_next)
          go (inr d) = omega (arith, inserted_in N k low b d, b_next)

      sb : s ≢ b
      sb q = omega (arith, s_next, next_in, b_next)

      vs : v ≢ s
      vs q = s_fresh (subst Old q v_old)

      vb : v ≢ b
      vb q = b_fresh (subst Old q v_old)

      b_long : b < length ps
      b_long = omega (arith, b_next, kS, R.size_is)

      s_long : s < length ps
      s_long = omega (arith, s_next, next_in, R.size_is)

      v_long : v < length ps
      v_long = omega (arith, v_in, R.size_is)

      parent_inner_at : (y : ℕ) → Old y → (get_or ps y 0 ≡ 0) ⊎ ((size N < get_or ps y 0) × (get_or ps y 0 ≤ size N + k))
      parent_inner_at y h = subst (Inner (size N) k) (parent_is N a1 k low I y h) (parent_inner (t N a1 k low) y h)

      s_bare : (y : ℕ) → Old y → get_or ps y 0 ≢ s
      s_bare y h q = go (parent_inner_at y h)
        where
          go : (get_or ps y 0 ≡ 0) ⊎ ((size N < get_or ps y 0) × (get_or ps y 0 ≤ size N + k)) → ⊥
          go (inl z) = omega (arith, s_next, next_in)
          go (inr z) = omega (arith, s_next, next_in)

      b_bare : (y : ℕ) → Old y → get_or ps y 0 ≢ b
      b_bare y h q = go (parent_inner_at y h)
        where
          go : (get_or ps y 0 ≡ 0) ⊎ ((size N < get_or ps y 0) × (get_or ps y 0 ≤ size N + k)) → ⊥
          go (inl z) = omega (arith, b_next)
          go (inr z) = omega (arith, b_next)

      abbrev ps₁ : List ℕ
      ps₁ = set ps b (get_or ps v 0)

      abbrev ps₂ : List ℕ
      ps₂ = set ps₁ v b

      at : (y : ℕ) → get_or ps' y 0 ≡ get_or (set ps₂ s b) y 0
      at y = ap (λ (l : List ℕ). get_or l y 0) ps_is

      split_at : SplitAt (InTree N k) ps ps' v s b
      split_at = record {
        low = at v ∙ get_or-set_other ps₂ s v b 0 vs ∙ get_or-set_same ps₁ v b 0 (omega (arith, length-set ps b (get_or ps v 0), v_long));
        new = at s ∙ get_or-set_same ps₂ s b 0 (omega (arith, length-set ps₁ v b, length-set ps b (get_or ps v 0), s_long));
        mid = at b ∙ get_or-set_other ps₂ s b b 0 (λ q. sb (sym q)) ∙ get_or-set_other ps₁ v b b 0 (λ q. vb (sym q)) ∙ get_or-set_same ps b (get_or ps v 0) 0 b_long;
        old = λ y h d. let o : Old y = to_vertex N a1 k low y h in
            at y ∙ get_or-set_other ps₂ s y b 0 (λ q. s_fresh (subst Old q o)) ∙ get_or-set_other ps₁ v y b 0 d ∙ get_or-set_other ps b y (get_or ps v 0) 0 (λ q. b_fresh (subst Old q o));
        s_fresh = λ h. s_fresh (to_vertex N a1 k low s h);
        b_fresh = λ h. b_fresh (to_vertex N a1 k low b h);
        apart = sb;
        s_bare = λ y h. s_bare y (to_vertex N a1 k low y h);
        b_bare = λ y h. b_bare y (to_vertex N a1 k low y h);
      }

      more : (u : ℕ) → InTree N k u → InTree N (suc k) u
      more u h = from_vertex N a1 (suc k) kS u (omega (arith, to_vertex N a1 k low u h))

      only : (u : ℕ) → InTree N (suc k) u → (u ≡ s) ⊎ ((u ≡ b) ⊎ InTree N k u)
      only u h = go (equal? u next) (equal? u (size N + suc k)) (to_vertex N a1 (suc k) kS u h)
        where
          go : (u ≡ next) ⊎ (u ≢ next) → (u ≡ size N + suc k) ⊎ (u ≢ size N + suc k) → count u (inserted N (suc k)) + count u (down (size N) (suc k)) ≢ 0 → (u ≡ s) ⊎ ((u ≡ b) ⊎ InTree N k u)
          go (inl q) x m = inl (q ∙ sym s_next)
          go (inr d) (inl q) m = inr (inl (q ∙ sym b_next))
          go (inr d) (inr f) m = inr (inr (from_vertex N a1 k low u (omega (arith, delta_ne u next d, delta_ne u (size N + suc k) f))))

      -- the place before the parent of v, or the last where that is the root
      abbrev Before_parent : ℕ → Type 0
      Before_parent j =
          (j < 2 * k + 1) × (get_or ps v 0 ≡ get_or us (suc j) 0) × ((y : ℕ) → y < 2 * k + 1 → get_or us y 0 ≡ v → y ≤ j) × ((y : ℕ) → y < 2 * k + 1 → get_or ps v 0 ≡ get_or us y 0 → j < y)

      positive : (y : ℕ) → y < 2 * k + 1 → get_or us y 0 ≢ 0
      positive y l e = omega (arith, vertex_in N a1 k low (get_or us y 0) (to_vertex N a1 k low (get_or us y 0) (I.leaves_up.inside y l)))

      spot : (j : ℕ) × Before_parent j
      spot = go (parent_inner_at v v_old)
        where
          go : (get_or ps v 0 ≡ 0) ⊎ ((size N < get_or ps v 0) × (get_or ps v 0 ≤ size N + k)) → (j : ℕ) × Before_parent j
          go (inl e) =
              let end : get_or us (suc (2 * k)) 0 ≡ 0 = get_or-eq_default us 0 (omega (arith, C.size)) in
              (2 * k, (omega arith, e ∙ sym end, (λ y l i. omega arith), λ y l i. absurd (positive y l (sym i ∙ e))))
          go (inr r) =
              let w : (i : ℕ) × (i < 2 * k + 1) × (get_or us i 0 ≡ get_or ps v 0) = I.leaves_up.all (get_or ps v 0) (from_vertex N a1 k low (get_or ps v 0) (omega (arith, down_once (size N) k (get_or ps v 0) r.0 r.1))) in
              let x : (i : ℕ) × (i < 2 * k + 1) × (get_or us i 0 ≡ v) = I.leaves_up.all v (from_vertex N a1 k low v v_old) in
              let first : (y : ℕ) → y < 2 * k + 1 → get_or us y 0 ≡ v → y < w.0 = λ y l i. I.leaves_up.before y w.0 l w.1 (ap (λ (z : ℕ). get_or ps z 0) i ∙ sym w.2) in
              let e : w.0 ≡ suc (w.0 - 1) = omega (arith, first x.0 x.1 x.2) in
              (w.0 - 1, (omega (arith, w.1), sym w.2 ∙ ap (λ (z : ℕ). get_or us z 0) e, (λ y l i. omega (arith, first y l i)), λ y l i. omega (arith, I.leaves_up.once y w.0 l w.1 (sym i ∙ sym w.2), e)))

      more_m : 2 * k + 1 + 2 ≡ 2 * suc k + 1
      more_m = omega arith

      insert_step : Inserted N (suc k) ps' (put_in us spot.0 s b)
      insert_step = record { parents_are = parents; leaves_up = up }
        where
          parents : parents_of (size N) ps' ≡ parents_after tie_rule N (suc k)
          parents =
              ap (parents_of (size N)) (ps_is ∙ (λ i. set (set (set ps (b_next i) (get_or ps v 0)) v (b_next i)) (s_next i) (b_next i)))
              ∙ parents_split (size N) ps k next v (omega (arith, R.size_is)) kS next_in.0 next_in.1 v_in.0 v_in.1
              ∙ (λ i. split (I.parents_are i) (size N) k next (chosen_is i))
              ∙ sym (parents_next tie_rule N k kS)

          up : LeavesUp (InTree N (suc k)) (2 * suc k + 1) ps' (put_in us spot.0 s b)
          up =
              subst (λ (i : ℕ). LeavesUp (InTree N (suc k)) i ps' (put_in us spot.0 s b)) more_m
              (grown_up spot.1.0 I.leaves_up (from_vertex N a1 k low v v_old) split_at (put_in_lem us spot.0 s b C.size spot.1.0) spot.1.2 spot.1.3 more
              (from_vertex N a1 (suc k) kS s (omega (arith, ap (λ (z : ℕ). delta z next) s_next, delta_self next)))
              (from_vertex N a1 (suc k) kS b (omega (arith, ap (λ (z : ℕ). delta z (size N + suc k)) b_next, delta_self (size N + suc k)))) only)

      chain_step : Chained (2 * suc k + 1) (put_in us spot.0 s b) below'
      chain_step =
          subst (λ (i : ℕ). Chained i (put_in us spot.0 s b) below') more_m
          (subst (Chained (2 * k + 1 + 2) (put_in us spot.0 s b)) (sym below_is)
          (chained_put us below spot.0 s b (get_or ps v 0) C spot.1.0 spot.1.1 (λ h i hl il e. I.leaves_up.once h i hl il e) positive
          (λ h l e. s_fresh (subst Old e (to_vertex N a1 k low (get_or us h 0) (I.leaves_up.inside h l)))) (λ h l e. b_fresh (subst Old e (to_vertex N a1 k low (get_or us h 0) (I.leaves_up.inside h l))))
          sb (omega (arith, s_next, next_in)) (omega (arith, b_next)) (omega (arith, s_next, next_in, R.size_is)) (omega (arith, b_next, kS, R.size_is)) parent_small))
        where
          parent_small : get_or ps v 0 < length below
          parent_small = go (parent_inner_at v v_old)
            where
              go : (get_or ps v 0 ≡ 0) ⊎ ((size N < get_or ps v 0) × (get_or ps v 0 ≤ size N + k)) → get_or ps v 0 < length below
              go (inl e) = omega (arith, kn)
              go (inr r) = omega (arith, r, low, R.size_is)

      pub next_order : (us' : List ℕ) × Inserted N (suc k) ps' us' × Chained (2 * suc k + 1) us' below'
      next_order = (put_in us spot.0 s b, insert_step, chain_step)

-- ---- the last sink

module _ {N : Net} {c : ℤ} {n : ℕ} {own : List ℤ} (R : Ready N c n own) {k : ℕ} {ps us : List ℕ} (I : Inserted N k ps us) (kn : n ≡ suc k) where
  z1 : 0 < N.branch
  z1 = R.in_range.branch.0

  last_in : k < size N
  last_in = omega (arith, R.size_is)

  k_is : k ≡ size N - 1
  k_is = omega (arith, R.size_is)

  all_in : (y : ℕ) → count y (range 1 (size N)) ≡ count y (inserted N k)
  all_in y =
      let e : suc k ≡ length (order N) = omega (arith, order_length N, R.size_is) in
      let none : count y (drop (suc k) (order N)) ≡ 0 = ap (λ (i : ℕ). count y (drop i (order N))) e ∙ ap (count y) (drop-length (order N)) in
      omega (arith, newest_count (order N) y (suc k) (omega arith), order_count N y, range_count (size N) y)

  in_all : (y : ℕ) → 1 ≤ y → y ≤ size N → count y (inserted N k) ≢ 0
  in_all y y1 yN = omega (arith, all_in y, range_count (size N) y, down_once 0 (size N) y y1 (omega arith))

  pub last_order : LeavesUp (UnderRoot n) (2 * n - 1) ps us
  last_order = record {
    inside = λ i l. let m : InTree N k (get_or us i 0) = U.inside i (omega arith) in omega (arith, vertex_in N z1 k last_in (get_or us i 0) (to_vertex N z1 k last_in (get_or us i 0) m), R.size_is);
    all = λ v h. let w : (i : ℕ) × (i < 2 * k + 1) × (get_or us i 0 ≡ v) = U.all v (from_vertex N z1 k last_in v (below v h (dec_le v (size N)))) in (w.0, omega (arith, w.1), w.2);
    once = λ h i hl il e. U.once h i (omega arith) (omega arith) e;
    before = λ h i hl il e. U.before h i (omega arith) (omega arith) e;
  }
    where
      U : LeavesUp (InTree N k) (2 * k + 1) ps us
      U = I.leaves_up

      below : (v : ℕ) → UnderRoot n v → Dec (v ≤ size N) → count v (inserted N k) + count v (down (size N) k) ≢ 0
      below v h (yes q) = omega (arith, in_all v h.0 q)
      below v h (no q) = omega (arith, down_once (size N) k v (omega arith) (omega (arith, h.1, R.size_is)))

  -- settling changes no slack
  slack_end : (y : ℕ) → 1 ≤ y → y ≤ size N → slack N (tree_after N k) y ≡ slack N (plan_by tie_rule N) y
  unfolding plan_by
  slack_end y y1 yN =
      ap (λ (j : ℕ). slack N (tree_after N j) y) k_is
      ∙ sym (settling N (plan_parents tie_rule N) (plan_legal N z1 R.in_range.sinks.0 tie_rule).shape y y1 yN)

  module _ {slacks : List ℤ} (G : Gathered N k slacks) where
    pub last_slacks : (s : ℕ) → 1 ≤ s → s ≤ n → get_or slacks s (pos 0) ≡ slack N (plan_by tie_rule N) s
    last_slacks s s1 sn = gathered_sink N z1 k last_in G s (in_all s s1 (omega (arith, R.size_is))) ∙ slack_end s s1 (omega (arith, R.size_is))
