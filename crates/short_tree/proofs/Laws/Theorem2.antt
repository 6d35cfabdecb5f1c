-- Theorem 2: the short tree is legal, its wire is at most that of every spanning tree, and it stays in the box of the pins. Assumes nothing.
use Prim.Native.Nat.{ℕ, zero, suc, ◌+◌, ◌-◌, ◌*◌, ◌≤◌, ◌<◌}
use mathlib.Core.Path.{◌≡◌, refl, sym, ap, ◌∙◌, subst}
use mathlib.Core.Logic.{◌≢◌, ◌⊎◌, inl, inr}
use mathlib.Core.List.{List, [], ◌∷◌, ◌++◌, map}
use native.Mathlib.Nat.{add-zero, mul-one}
use native.Mathlib.Omega.{arith}
use lib.ListN.{length, get_or}
use Rattle.quantities.specs.declared.point.Point.{Point}
use Rattle.quantities.specs.Box.{InBox}
use Rattle.quantities.proofs.Laws.Median.{median_in_box}
use Rattle.tree.specs.Lists.{sum_over, count, delta, range}
use Rattle.tree.specs.Net.{Net, size, sink_at}
use Rattle.tree.specs.Tree.{parent_of, parent, LegalTree, place}
use Rattle.tree.specs.Measures.{wire_length, edge_length}
use Rattle.tree.specs.SpanningTrees.{Link, link_at, Linked, here, from_one, from_other, Among, SpanningTree, link_wire, terminals}
use Rattle.tree.proofs.Laws.Lists.Sums.{sum, equal?, delta_ne, regroup_by, sum_cong, sum_split}
use Rattle.tree.proofs.Laws.Lists.Tables.{range_length}
use Rattle.tree.proofs.Laws.Trees.Defects.{range_in, in_range}
use Rattle.tree.proofs.Laws.Trees.Growing.{PartTree}
use Rattle.tree.proofs.Laws.Trees.LegalTrees.{sum_down, sinks_sum, tree_legal}
use Rattle.tree.proofs.Laws.Planning.BeforeSettling.{sum_over_range}
use Rattle.short_tree.specs.ShortTree.{Growing, meeting, edge_for, next_sink, after, short}
use Rattle.short_tree.specs.Theorem2.{Theorem2}
use Rattle.short_tree.proofs.Laws.Spanning.{Way, there, by, fore, rear, Spans}
use Rattle.short_tree.proofs.Laws.Waiting.{ones, sink_once, place_terminal, place_old, place_new}
use Rattle.short_tree.proofs.Laws.Wiring.{Grown, apart}
use Rattle.short_tree.proofs.Laws.Star.{terminal_low, low_terminal, star_spans}
use Rattle.short_tree.proofs.Laws.Choice.{nearest_sink, first_choice, grown}

-- ---- the links of a spanning tree, as Laws/Spanning has them

link_way : {L : List Link} {v : ℕ} → Linked L 0 v → Way (λ j. (link_at L j).one) (λ j. (link_at L j).other) (λ j. count j (range 0 (length L)) ≢ 0) (0 ∷ []) v
link_way here = there {v = 0} (omega arith)
link_way {L} (from_one i h w) = by i (link_at L i).one (in_range 0 (length L) i (omega arith) (omega arith)) (rear refl refl) (link_way w)
link_way {L} (from_other i h w) = by i (link_at L i).other (in_range 0 (length L) i (omega arith) (omega arith)) (fore refl refl) (link_way w)

module _ (n : ℕ) where
  links_span : (L : List Link) → SpanningTree (terminals n) L → Spans n (range 0 (length L)) (λ j. (link_at L j).one) (λ j. (link_at L j).other)
  links_span L t = record {
    ends = λ j m. let e : Among (terminals n) (link_at L j).one × Among (terminals n) (link_at L j).other = t.ends j (omega (arith, range_in 0 (length L) j m)) in (terminal_low n _ e.0, terminal_low n _ e.1);
    joined = λ v h. link_way (t.linked 0 v (low_terminal n 0 (omega arith)) (low_terminal n v h));
  }

link_sum : (N : Net) (L : List Link) (a : ℕ) (f : ℕ → ℕ) → ((i : ℕ) → i < length L → f (a + i) ≡ apart N (link_at L i).one (link_at L i).other) → sum_over (range a (length L)) f ≡ link_wire (sink_at N) L
link_sum N [] a f h = refl
link_sum N (e ∷ L) a f h = omega (arith, ap f (add-zero a), h 0 (omega arith), link_sum N L (suc a) f (λ i l. ap f (omega arith) ∙ h (suc i) (omega arith)))

-- ---- all sinks are in

few : (l : List ℕ) (f : ℕ → ℕ) → ((x : ℕ) → f x ≤ 1) → sum_over l f ≤ length l
few [] f h = omega arith
few (x ∷ l) f h = omega (arith, h x, few l f h)

fewer : (l : List ℕ) (f : ℕ → ℕ) → ((x : ℕ) → f x ≤ 1) → (x : ℕ) → count x l ≢ 0 → f x ≡ 0 → sum_over l f < length l
fewer [] f h x m e = absurd (m refl)
fewer (y ∷ l) f h x m e = go (fewer l f h x) (equal? x y)
  where
    go : (count x l ≢ 0 → f x ≡ 0 → sum_over l f < length l) → (x ≡ y) ⊎ (x ≢ y) → f y + sum_over l f < suc (length l)
    go ih (inl q) = omega (arith, ap f q, few l f h)
    go ih (inr d) = omega (arith, h y, ih (omega (arith, delta_ne x y d)) e)

-- n different numbers from 1 to n are all of them
pub all_numbers : (n : ℕ) (S : List ℕ) → ((s : ℕ) → count s S ≤ 1) → ((s : ℕ) → count s S ≢ 0 → (1 ≤ s) × (s ≤ n)) → length S ≡ n → (s : ℕ) → 1 ≤ s → s ≤ n → count s S ≡ 1
all_numbers n S once low full s a b = go (equal? (count s S) 0) (equal? (count 0 S) 0)
  where
    total : sum_over S (λ x. 1) ≡ sum 0 (suc n) (λ u. sum_over S (λ x. delta u x) * 1)
    total = regroup_by S (λ x. x) (suc n) (λ x. 1) (λ x m. omega (arith, low x m))

    plain : sum 1 n (λ u. sum_over S (λ x. delta u x) * 1) ≡ sum 1 n (λ u. count u S)
    plain = sum_cong 1 n (λ u. count u S * 1) (λ u. count u S) (λ i p q. mul-one (count i S))

    go : (count s S ≡ 0) ⊎ (count s S ≢ 0) → (count 0 S ≡ 0) ⊎ (count 0 S ≢ 0) → count s S ≡ 1
    go (inr d) z = omega (arith, once s)
    go (inl e) (inr z) = absurd (omega (arith, low 0 z))
    go (inl e) (inl z) = absurd (omega (arith, total, plain, ones S, full, sum_over_range 1 n (λ u. count u S), range_length 1 n, fewer (range 1 n) (λ u. count u S) once s (omega (arith, sink_once n s a b)) e))

-- ---- in the box

beyond : {A : Type 0} (P : A → Type 0) (l : List A) (d : A) → P d → ((i : ℕ) → i < length l → P (get_or l i d)) → (v : ℕ) → P (get_or l v d)
beyond P [] d p h v = p
beyond P (x ∷ l) d p h zero = h 0 (omega arith)
beyond P (x ∷ l) d p h (suc v) = beyond P l d p (λ i q. h (suc i) (omega arith)) v

module _ (N : Net) (n1 : 1 ≤ size N) where
  module _ (low high : Point) (pins : (t : ℕ) → t ≤ size N → InBox low high (sink_at N t)) where
    pub in_box : (k : ℕ) → k < size N → (v : ℕ) → InBox low high (place N (after N k).tree v)
    in_box zero h v = beyond (InBox low high) (N.root ∷ (map (λ s. s.point) N.sinks ++ [])) N.root (pins 0 (omega arith)) each v
      where
        ends : (l : List Point) → length (l ++ []) ≡ length l
        ends [] = refl
        ends (p ∷ l) = ap suc (ends l)

        each : (i : ℕ) → i < suc (length (map (λ s. s.point) N.sinks ++ [])) → InBox low high (place N (after N 0).tree i)
        each i l = subst (InBox low high) (sym (place_terminal N (after N 0).tree i m)) (pins i m)
          where
            m : i ≤ size N
            m = omega (arith, ends (map (λ s. s.point) N.sinks), lib.ListN.length-map N.sinks (λ s. s.point))
    in_box (suc k) h v = go (in_box k (omega arith)) (equal? v (size N + suc k))
      where
        s : ℕ
        s = next_sink N k (after N k)

        x : ℕ
        x = edge_for N k (after N k) s

        m : Point
        m = meeting N (after N k).tree s x

        made : length (after N k).tree.points ≡ k
        made = (grown N n1 k (omega arith)).made

        go : ((u : ℕ) → InBox low high (place N (after N k).tree u)) → (v ≡ size N + suc k) ⊎ (v ≢ size N + suc k) → InBox low high (place N (after N (suc k)).tree v)
        go at (inl e) = subst (InBox low high) (sym (ap (place N (after N (suc k)).tree) e ∙ place_new N (after N k).tree.parents (after N (suc k)).tree.parents (after N k).tree.points m k made))
            (median_in_box low high _ _ _ (at (parent (after N k).tree x)) (at x) (at s))
        go at (inr d) = subst (InBox low high) (sym (place_old N (after N k).tree.parents (after N (suc k)).tree.parents (after N k).tree.points m k made v d)) (at v)

  -- ---- the whole tree

  last : Growing
  last = after N (size N - 1)

  G : Grown N (size N - 1) last
  unfolding last
  G = grown N n1 (size N - 1) (omega arith)

  every : (s : ℕ) → 1 ≤ s → s ≤ size N → count s last.sinks ≡ 1
  every = all_numbers (size N) last.sinks G.tree.once G.tree.low (omega (arith, G.in_it))

  tree : PartTree (size N) last.sinks (size N - 1) (2 * size N - 1) (parent_of last.tree.parents)
  tree = let e : 2 * size N - 1 ≡ 2 * (size N - 1) + 1 = omega arith in rw e G.tree

  legal : LegalTree N last.tree
  legal = record { shape = tree_legal (size N) last.tree.parents last.sinks G.long every tree; placed = G.made }

  shortest : (L : List Link) → SpanningTree (terminals (size N)) L → wire_length N last.tree ≤ link_wire (sink_at N) L
  unfolding wire_length
  shortest L t =
      let h : ℕ → ℕ = edge_length N last.tree in
      let e : 2 * size N - 1 ≡ size N + (size N - 1) = omega arith in
      let w : sum_over (range 1 (2 * size N - 1)) h ≡ sum 1 (size N) h + sum (1 + size N) (size N - 1) h = sum_over_range 1 (2 * size N - 1) h ∙ ap (λ m. sum 1 m h) e ∙ sum_split 1 (size N) (size N - 1) h in
      omega (
        arith,
        w,
        sum_down 0 (size N) h,
        sum_down (size N) (size N - 1) h,
        sinks_sum (size N) last.tree.parents last.sinks G.long every tree h,
        (G.lower (λ j. (link_at L j).one) (λ j. (link_at L j).other) (range 0 (length L)) (links_span (size N) L t)).fits,
        link_sum N L 0 (λ j. apart N (link_at L j).one (link_at L j).other) (λ i l. ap (λ j. apart N (link_at L j).one (link_at L j).other) (omega arith)),
      )

  pub theorem2 : Theorem2 N
  unfolding short last
  theorem2 = record {
    start = nearest_sink N n1;
    choice = λ k h. first_choice N k (after N k) (grown N n1 k (omega arith)) h;
    legal = legal;
    shortest = shortest;
    spanned = star_spans (size N);
    boxed = λ low high pins v h. in_box low high pins (size N - 1) (omega arith) v;
  }
