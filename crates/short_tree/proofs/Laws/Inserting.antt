-- The arrays from insertion to insertion: what is chosen in them is what the procedure chooses, and after the split they hold the next tree. Assumes nothing.
use Prim.Native.Nat.{ℕ, suc, ◌+◌, ◌≤◌, ◌<◌}
use mathlib.Core.Path.{◌≡◌, sym, ap, ◌∙◌, subst}
use mathlib.Core.Logic.{◌≢◌, ◌⊎◌, inl, inr}
use mathlib.Core.List.{List}
use native.Mathlib.Omega.{arith}
use native.Mathlib.Decide.{dec_le}
use lib.ListN.{length, get_or, set, length-set}
use lib.Seq.{get_or-set_same, get_or-set_other}
use lib.IntN.{ℤ, pos}
use Rattle.quantities.specs.Distance.{distance}
use Rattle.quantities.specs.Median.{median_point}
use Rattle.tree.specs.Lists.{count, delta}
use Rattle.tree.specs.Net.{Net, size}
use Rattle.tree.specs.Tree.{place}
use Rattle.tree.specs.Planning.{split}
use Rattle.tree.specs.Inner.Arrays.{point_at, parents_of}
use Rattle.tree.proofs.Laws.Lists.Sums.{equal?, delta_ne, delta_self, down_in, down_once}
use Rattle.tree.proofs.Laws.Arrays.ParentStores.{parents_split}
use Rattle.short_tree.specs.ShortTree.{meeting, added, waiting, edges, edge_for, next_sink, inserted, after}
use Rattle.short_tree.specs.Inner.Searching.{Leads, First, Bound}
use Rattle.short_tree.specs.Inner.Arrays.{meeting_at, added_at, Reaches, Waits, Inside, Kept, AllKept, SameZeros, Chosen, Others, Pins, Tracks, Held}
use Rattle.short_tree.proofs.Laws.Choosing.{first_map, first_is}
use Rattle.short_tree.proofs.Laws.Medians.{lower_part, upper_part}
use Rattle.short_tree.proofs.Laws.Waiting.{place_old, place_new, some_waits}
use Rattle.short_tree.proofs.Laws.Wiring.{Grown}
use Rattle.short_tree.proofs.Laws.Choice.{edge_count, waits, waiting_in, edge_first, grown}
use Rattle.short_tree.proofs.Laws.Tracking.{tracks_reaches, meeting_is, added_is}

-- other edges are kept for the same sinks
pub held_kept : (N : Net) (n k : ℕ) (xs ys : List ℤ) (parents kept costs kept' costs' : List ℕ) → Held N n k xs ys parents kept costs → length kept' ≡ length kept → length costs' ≡ length costs
    → SameZeros kept kept' → AllKept n (n + k) parents xs ys kept' costs' → Held N n k xs ys parents kept' costs'
held_kept N n k xs ys parents kept costs kept' costs' H kl cl same all = record {
  room = record { xs_long = H.room.xs_long; ys_long = H.room.ys_long; parents_long = H.room.parents_long; kept_long = omega (arith, H.room.kept_long); costs_long = omega (arith, H.room.costs_long) };
  tracks = H.tracks;
  in_tree = λ s a b e. H.in_tree s a b ((same s).1 e);
  waits = λ s a b w. H.waits s a b (λ e. w ((same s).0 e));
  branches = λ v a b. (same v).0 (H.branches v a b);
  known = all;
}

-- ---- one insertion

module _ (N : Net) (n : ℕ) (p : Pins N n) (k : ℕ) (kN : suc k < n) (xs ys : List ℤ) (parents kept costs : List ℕ) (H : Held N n k xs ys parents kept costs) where
  G : Grown N k (after N k)
  G = grown N (omega (arith, p.some, p.size_is)) k (omega (arith, p.size_is))

  pub held_reaches : Reaches (n + k) parents xs ys
  held_reaches = tracks_reaches N n p k (omega arith) xs ys parents H.tracks (omega (arith, H.room.xs_long)) (omega (arith, H.room.ys_long)) (omega (arith, H.room.parents_long))

  -- the edges
  inside_edges : (u : ℕ) → Inside (n + k) kept u → count u (edges N k (after N k)) ≢ 0
  inside_edges u i = go (dec_le u n)
    where
      go : Dec (u ≤ n) → count u (edges N k (after N k)) ≢ 0
      go (yes h) = omega (arith, edge_count N k (after N k) u, H.in_tree u i.0 h i.2)
      go (no h) = omega (arith, edge_count N k (after N k) u, down_once (size N) k u (omega (arith, p.size_is)) (omega (arith, p.size_is)))

  edges_inside : (u : ℕ) → count u (edges N k (after N k)) ≢ 0 → Inside (n + k) kept u
  edges_inside u m = go (equal? (count u (after N k).sinks) 0)
    where
      go : (count u (after N k).sinks ≡ 0) ⊎ (count u (after N k).sinks ≢ 0) → Inside (n + k) kept u
      go (inl e) =
          let d : (size N < u) × (u ≤ size N + k) = down_in (size N) k u (omega (arith, edge_count N k (after N k) u)) in
          (omega arith, omega (arith, p.size_is), H.branches u (omega (arith, p.size_is)) (omega (arith, p.size_is)))
      go (inr d) = (l.0, omega (arith, p.size_is, l), in_it (equal? (get_or kept u 0) 0))
        where
          l : (1 ≤ u) × (u ≤ size N)
          l = G.tree.low u d

          in_it : (get_or kept u 0 ≡ 0) ⊎ (get_or kept u 0 ≢ 0) → get_or kept u 0 ≡ 0
          in_it (inl e) = e
          in_it (inr w) = absurd (d (H.waits u l.0 (omega (arith, p.size_is, l)) w))

  -- what a sink adds at an edge
  adds : (t u : ℕ) → t ≤ n → Inside (n + k) kept u → added_at parents xs ys t u ≡ added N (after N k).tree t u
  adds t u l i = added_is N n p k (omega arith) xs ys parents H.tracks t u (omega arith) i.0 i.1

  -- the sinks that wait
  to_waiting : (u : ℕ) → Waits n kept u → count u (waiting N (after N k)) ≢ 0
  to_waiting u w = waits N k (after N k) u w.0 (omega (arith, w.1, p.size_is)) (H.waits u w.0 w.1 w.2)

  from_waiting : (u : ℕ) → count u (waiting N (after N k)) ≢ 0 → Waits n kept u
  from_waiting u m =
      let r : (count u (after N k).sinks ≡ 0) × (1 ≤ u) × (u ≤ size N) = waiting_in N k (after N k) u m in
      (r.1, omega (arith, p.size_is), λ e. H.in_tree u r.1 (omega (arith, p.size_is)) e r.0)

  pub one_waits : (s : ℕ) × Waits n kept s
  one_waits =
      let r : (s : ℕ) × (count s (waiting N (after N k)) ≢ 0) = some_waits (size N) (after N k).sinks (λ s m. G.tree.low s m) (omega (arith, G.in_it, p.size_is)) in
      (r.0, from_waiting r.0 r.1)

  module _ (s : ℕ) (C : Chosen n parents xs ys kept costs s) where
    sw : Waits n kept s
    sw = C.first.member

    pub edge_in : Inside (n + k) kept (get_or kept s 0)
    edge_in = (H.known s sw).member

    -- the edge kept for s is its cheapest
    edge_is : get_or kept s 0 ≡ edge_for N k (after N k) s
    edge_is =
        first_is (added N (after N k).tree s) (edges N k (after N k))
        (first_map (added_at parents xs ys s) (Inside (n + k) kept) (λ u. count u (edges N k (after N k)) ≢ 0) (added N (after N k).tree s) inside_edges edges_inside
        (λ u m. sym (adds s u sw.1 (edges_inside u m))) first)
      where
        first : First (added_at parents xs ys s) (Inside (n + k) kept) (get_or kept s 0)
        first = record { member = edge_in; ahead = λ u i. subst (λ c. Leads c (get_or kept s 0) (added_at parents xs ys s u) u) C.exact ((H.known s sw).leads u i) }

    cost_is : get_or costs s 0 ≡ added N (after N k).tree s (edge_for N k (after N k) s)
    cost_is = C.exact ∙ adds s (get_or kept s 0) sw.1 edge_in ∙ ap (added N (after N k).tree s) edge_is

    -- and s goes in next: no other sink adds less than what is kept for it
    next_is : s ≡ next_sink N k (after N k)
    next_is = first_is (λ t. added N (after N k).tree t (edge_for N k (after N k) t)) (waiting N (after N k)) (record { member = to_waiting s sw; ahead = ahead })
      where
        ahead : (u : ℕ) → count u (waiting N (after N k)) ≢ 0 → Leads (added N (after N k).tree s (edge_for N k (after N k) s)) s (added N (after N k).tree u (edge_for N k (after N k) u)) u
        ahead u m =
            let w : Waits n kept u = from_waiting u m in
            let i : Inside (n + k) kept (edge_for N k (after N k) u) = edges_inside (edge_for N k (after N k) u) (edge_first N k (after N k) G u).member in
            let l : Leads (get_or costs s 0) s (get_or costs u 0) u = C.first.ahead u w in
            let low : get_or costs u 0 ≤ added N (after N k).tree u (edge_for N k (after N k) u) = omega (arith, ((H.known u w).leads (edge_for N k (after N k) u) i).less, adds u (edge_for N k (after N k) u) w.1 i) in
            record { less = omega (arith, l.less, cost_is); tied = λ e. l.tied (omega (arith, l.less, cost_is)) }

    state_is : inserted N k (after N k) s (get_or kept s 0) ≡ after N (suc k)
    state_is = ap (inserted N k (after N k) s) edge_is ∙ ap (λ z. inserted N k (after N k) z (edge_for N k (after N k) z)) next_is

    -- the new branch point is b
    module _ (b : ℕ) (b_is : b ≡ n + suc k) (xs' ys' : List ℤ) (parents' : List ℕ)
        (xs_is : xs' ≡ set xs b (meeting_at parents xs ys s (get_or kept s 0)).x) (ys_is : ys' ≡ set ys b (meeting_at parents xs ys s (get_or kept s 0)).y)
        (parents_is : parents' ≡ set (set (set parents b (get_or parents (get_or kept s 0) 0)) (get_or kept s 0) b) s b) where
      abbrev v : ℕ
      v = get_or kept s 0

      abbrev ps₁ : List ℕ
      ps₁ = set parents b (get_or parents v 0)

      abbrev ps₂ : List ℕ
      ps₂ = set ps₁ v b

      abbrev kept₁ : List ℕ
      kept₁ = set kept s 0

      s_low : s ≤ n
      s_low = sw.1

      same_point : (w : ℕ) → w ≢ b → point_at xs' ys' w ≡ point_at xs ys w
      same_point w d = λ i. record {
        x = (ap (λ l. get_or l w (pos 0)) xs_is ∙ get_or-set_other xs b w _ (pos 0) d) i;
        y = (ap (λ l. get_or l w (pos 0)) ys_is ∙ get_or-set_other ys b w _ (pos 0) d) i;
      }

      new_point : point_at xs' ys' b ≡ meeting_at parents xs ys s v
      new_point = λ i. record {
        x = (ap (λ l. get_or l b (pos 0)) xs_is ∙ get_or-set_same xs b _ (pos 0) (omega (arith, H.room.xs_long))) i;
        y = (ap (λ l. get_or l b (pos 0)) ys_is ∙ get_or-set_same ys b _ (pos 0) (omega (arith, H.room.ys_long))) i;
      }

      tracks_next : Tracks N n (suc k) xs' ys' parents'
      tracks_next = record { parents_are = parents_are; points_are = λ w h. points_are w h (equal? w b) }
        where
          made : length (after N k).tree.points ≡ k
          made = G.made

          parents_are : parents_of n parents' ≡ (after N (suc k)).tree.parents
          parents_are =
              ap (parents_of n) parents_is
              ∙ ap (λ c. parents_of n (set (set (set parents c (get_or parents v 0)) v c) s c)) b_is
              ∙ parents_split n parents k s v H.room.parents_long kN sw.0 sw.1 edge_in.0 (omega (arith, edge_in.1))
              ∙ ap (λ P. split P n k s v) H.tracks.parents_are
              ∙ ap (λ z. split (after N k).tree.parents z k s v) (sym p.size_is)
              ∙ ap (λ h. h.tree.parents) state_is

          points_are : (w : ℕ) → w ≤ n + suc k → (w ≡ b) ⊎ (w ≢ b) → point_at xs' ys' w ≡ place N (after N (suc k)).tree w
          points_are w h (inl e) =
              let q : size N + suc k ≡ w = omega (arith, p.size_is) in
              ap (point_at xs' ys') e ∙ new_point
              ∙ meeting_is N n p k (omega arith) xs ys parents H.tracks s v (omega (arith, s_low)) edge_in.0 edge_in.1
              ∙ sym (place_new N (after N k).tree.parents (inserted N k (after N k) s v).tree.parents (after N k).tree.points (meeting N (after N k).tree s v) k made)
              ∙ ap (place N (inserted N k (after N k) s v).tree) q
              ∙ ap (λ h. place N h.tree w) state_is
          points_are w h (inr d) =
              same_point w d ∙ H.tracks.points_are w (omega arith)
              ∙ sym (place_old N (after N k).tree.parents (inserted N k (after N k) s v).tree.parents (after N k).tree.points (meeting N (after N k).tree s v) k made w (omega (arith, p.size_is)))
              ∙ ap (λ h. place N h.tree w) state_is

      pub next_reaches : Reaches b parents' xs' ys'
      next_reaches = subst (λ c. Reaches c parents' xs' ys') (sym b_is) (tracks_reaches N n p (suc k) kN xs' ys' parents' tracks_next
          (omega (arith, H.room.xs_long, ap length xs_is ∙ length-set xs b _)) (omega (arith, H.room.ys_long, ap length ys_is ∙ length-set ys b _)) (omega (arith, H.room.parents_long, parents_long)))
        where
          parents_long : length parents' ≡ length parents
          parents_long = ap length parents_is ∙ length-set ps₂ s b ∙ length-set ps₁ v b ∙ length-set parents b (get_or parents v 0)

      -- ---- s is in

      kept₁_same : get_or kept₁ s 0 ≡ 0
      kept₁_same = get_or-set_same kept s 0 0 (omega (arith, s_low, H.room.kept_long))

      kept₁_other : (u : ℕ) → u ≢ s → get_or kept₁ u 0 ≡ get_or kept u 0
      kept₁_other u d = get_or-set_other kept s u 0 0 d

      not_s : (u : ℕ) → Inside (n + k) kept u → u ≢ s
      not_s u i e = sw.2 (ap (λ z. get_or kept z 0) (sym e) ∙ i.2)

      older : (u : ℕ) → Others b s kept₁ u → u ≢ b → Inside (n + k) kept u
      older u o d = (o.0.0, omega (arith, o.0.1), sym (kept₁_other u o.1) ∙ o.0.2)

      -- ---- what a sink adds at the edges: no less at the parts of the split one, the same at the others

      other_parent : (u : ℕ) → Inside (n + k) kept u → u ≢ v → get_or parents' u 0 ≡ get_or parents u 0
      other_parent u i d =
          ap (λ l. get_or l u 0) parents_is
          ∙ get_or-set_other ps₂ s u b 0 (not_s u i) ∙ get_or-set_other ps₁ v u b 0 d ∙ get_or-set_other parents b u (get_or parents v 0) 0 (omega (arith, i.1))

      lower_parent : get_or parents' v 0 ≡ b
      lower_parent =
          ap (λ l. get_or l v 0) parents_is
          ∙ get_or-set_other ps₂ s v b 0 (not_s v edge_in)
          ∙ get_or-set_same ps₁ v b 0 (omega (arith, edge_in.1, H.room.parents_long, length-set parents b (get_or parents v 0)))

      upper_parent : get_or parents' b 0 ≡ get_or parents v 0
      upper_parent =
          ap (λ l. get_or l b 0) parents_is
          ∙ get_or-set_other ps₂ s b b 0 (omega (arith, s_low)) ∙ get_or-set_other ps₁ v b b 0 (omega (arith, edge_in.1))
          ∙ get_or-set_same parents b (get_or parents v 0) 0 (omega (arith, H.room.parents_long))

      module _ (t : ℕ) (tn : t ≤ n) where
        stays : point_at xs' ys' t ≡ point_at xs ys t
        stays = same_point t (omega arith)

        upper_end : point_at xs' ys' (get_or parents v 0) ≡ point_at xs ys (get_or parents v 0)
        upper_end = same_point (get_or parents v 0) (omega (arith, held_reaches.inside v edge_in.0 edge_in.1))

        other_added : (u : ℕ) → Inside (n + k) kept u → u ≢ v → added_at parents' xs' ys' t u ≡ added_at parents xs ys t u
        other_added u i d =
            let low : get_or parents u 0 ≤ n + k = held_reaches.inside u i.0 i.1 in
            let a : point_at xs' ys' (get_or parents' u 0) ≡ point_at xs ys (get_or parents u 0) = ap (point_at xs' ys') (other_parent u i d) ∙ same_point (get_or parents u 0) (omega arith) in
            let c : point_at xs' ys' u ≡ point_at xs ys u = same_point u (omega (arith, i.1)) in
            λ i. distance (median_point (a i) (c i) (stays i)) (stays i)

        lower_added : added_at parents xs ys t v ≤ added_at parents' xs' ys' t v
        lower_added =
            let a : point_at xs' ys' (get_or parents' v 0) ≡ meeting_at parents xs ys s v = ap (point_at xs' ys') lower_parent ∙ new_point in
            let c : point_at xs' ys' v ≡ point_at xs ys v = same_point v (omega (arith, edge_in.1)) in
            let q : added_at parents' xs' ys' t v ≡ distance (median_point (meeting_at parents xs ys s v) (point_at xs ys v) (point_at xs ys t)) (point_at xs ys t) = λ i. distance (median_point (a i) (c i) (stays i)) (stays i) in
            omega (arith, q, lower_part (point_at xs ys (get_or parents v 0)) (point_at xs ys v) (point_at xs ys s) (point_at xs ys t))

        upper_added : added_at parents xs ys t v ≤ added_at parents' xs' ys' t b
        upper_added =
            let a : point_at xs' ys' (get_or parents' b 0) ≡ point_at xs ys (get_or parents v 0) = ap (point_at xs' ys') upper_parent ∙ upper_end in
            let q : added_at parents' xs' ys' t b ≡ distance (median_point (point_at xs ys (get_or parents v 0)) (meeting_at parents xs ys s v) (point_at xs ys t)) (point_at xs ys t) = λ i. distance (median_point (a i) (new_point i) (stays i)) (stays i) in
            omega (arith, q, upper_part (point_at xs ys (get_or parents v 0)) (point_at xs ys v) (point_at xs ys s) (point_at xs ys t))

      -- so what is kept for a sink stays below all edges but the one to s
      pub next_kept : (t : ℕ) → Waits n (set kept s 0) t → Kept (Others b s (set kept s 0)) parents' xs' ys' (set kept s 0) costs t
      next_kept t w = subst (λ e. Bound (added_at parents' xs' ys' t) (Others b s kept₁) e (get_or costs t 0)) (sym same) (record { member = member; leads = λ u o. leads u o (equal? u b) (equal? u v) })
        where
          other : t ≢ s
          other e = w.2 (ap (λ z. get_or kept₁ z 0) e ∙ kept₁_same)

          same : get_or kept₁ t 0 ≡ get_or kept t 0
          same = kept₁_other t other

          B : Bound (added_at parents xs ys t) (Inside (n + k) kept) (get_or kept t 0) (get_or costs t 0)
          B = H.known t (w.0, w.1, λ e. w.2 (same ∙ e))

          member : Others b s kept₁ (get_or kept t 0)
          member =
              let i : Inside (n + k) kept (get_or kept t 0) = B.member in
              ((i.0, omega (arith, i.1), kept₁_other (get_or kept t 0) (not_s (get_or kept t 0) i) ∙ i.2), not_s (get_or kept t 0) i)

          at_v : Leads (get_or costs t 0) (get_or kept t 0) (added_at parents xs ys t v) v
          at_v = B.leads v edge_in

          leads : (u : ℕ) → Others b s kept₁ u → (u ≡ b) ⊎ (u ≢ b) → (u ≡ v) ⊎ (u ≢ v) → Leads (get_or costs t 0) (get_or kept t 0) (added_at parents' xs' ys' t u) u
          leads u o (inl e) d = subst (λ z. Leads (get_or costs t 0) (get_or kept t 0) (added_at parents' xs' ys' t z) z) (sym e) (record { less = omega (arith, at_v.less, upper_added t w.1); tied = λ z. omega (arith, B.member.1) })
          leads u o (inr d) (inl e) = subst (λ z. Leads (get_or costs t 0) (get_or kept t 0) (added_at parents' xs' ys' t z) z) (sym e) (record {
            less = omega (arith, at_v.less, lower_added t w.1);
            tied = λ z. at_v.tied (omega (arith, at_v.less, lower_added t w.1));
          })
          leads u o (inr d) (inr d') =
              let i : Inside (n + k) kept u = older u o d in
              subst (λ z. Leads (get_or costs t 0) (get_or kept t 0) z u) (sym (other_added t w.1 u i d')) (B.leads u i)

      pub held_next : (kept' costs' : List ℕ) → length xs' ≡ length xs → length ys' ≡ length ys → length parents' ≡ length parents → length kept' ≡ length kept → length costs' ≡ length costs
          → SameZeros (set kept s 0) kept' → AllKept n b parents' xs' ys' kept' costs' → Held N n (suc k) xs' ys' parents' kept' costs'
      held_next kept' costs' xl yl pl kl cl same all = record {
        room = record {
          xs_long = omega (arith, H.room.xs_long);
          ys_long = omega (arith, H.room.ys_long);
          parents_long = omega (arith, H.room.parents_long);
          kept_long = omega (arith, H.room.kept_long);
          costs_long = omega (arith, H.room.costs_long);
        };
        tracks = tracks_next;
        in_tree = λ u a c e. in_it u a c ((same u).1 e) (equal? u s);
        waits = λ u a c w. out u a c (λ e. w ((same u).0 e)) (equal? u s);
        branches = λ u a c. (same u).0 (kept₁_other u (omega (arith, s_low)) ∙ H.branches u a c);
        known = subst (λ c. AllKept n c parents' xs' ys' kept' costs') b_is all;
      }
        where
          sinks_are : (u : ℕ) → count u (after N (suc k)).sinks ≡ delta u s + count u (after N k).sinks
          sinks_are u = ap (λ h. count u h.sinks) (sym state_is)

          in_it : (u : ℕ) → 1 ≤ u → u ≤ n → get_or kept₁ u 0 ≡ 0 → (u ≡ s) ⊎ (u ≢ s) → count u (after N (suc k)).sinks ≢ 0
          in_it u a c e (inl q) = omega (arith, sinks_are u, ap (λ z. delta z s) q, delta_self s)
          in_it u a c e (inr d) = omega (arith, sinks_are u, H.in_tree u a c (sym (kept₁_other u d) ∙ e))

          out : (u : ℕ) → 1 ≤ u → u ≤ n → get_or kept₁ u 0 ≢ 0 → (u ≡ s) ⊎ (u ≢ s) → count u (after N (suc k)).sinks ≡ 0
          out u a c w (inl q) = absurd (w (ap (λ z. get_or kept₁ z 0) q ∙ kept₁_same))
          out u a c w (inr d) = omega (arith, sinks_are u, delta_ne u s d, H.waits u a c (λ e. w (kept₁_other u d ∙ e)))
