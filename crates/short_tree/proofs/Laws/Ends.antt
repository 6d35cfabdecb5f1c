-- The arrays when the first sink is in, and when all are: then they hold the short tree. Assumes nothing.
use Prim.Native.Nat.{ℕ, zero, suc, ◌+◌, ◌-◌, ◌*◌, ◌≤◌, ◌<◌}
use mathlib.Core.Path.{◌≡◌, sym, ap, ap₂, ◌∙◌, subst}
use mathlib.Core.Logic.{◌≢◌, ◌⊎◌, inl, inr}
use mathlib.Core.List.{List, ◌++◌, map}
use native.Mathlib.Omega.{arith}
use lib.ListN.{length, get_or, length-map, replicate, length-replicate}
use lib.Seq.{get_or-append-add, ext_get_or}
use lib.IntN.{ℤ}
use Rattle.quantities.specs.Distance.{distance}
use Rattle.tree.specs.Lists.{count, delta}
use Rattle.tree.specs.Net.{Net, size, sink_at, sink_numbers, branch_numbers}
use Rattle.tree.specs.Tree.{place}
use Rattle.tree.specs.Inner.Arrays.{point_at, parents_of, tree_of}
use Rattle.tree.proofs.Laws.Lists.Sums.{equal?, delta_ne, delta_self}
use Rattle.tree.proofs.Laws.Trees.LegalTrees.{hangs}
use Rattle.tree.proofs.Laws.Lists.Tables.{table_length, table_at}
use Rattle.tree.proofs.Laws.Arrays.NetAndTree.{parents_length, parents_at}
use Rattle.short_tree.specs.ShortTree.{nearest, after, short}
use Rattle.short_tree.specs.Inner.Searching.{Leads, First, Bound}
use Rattle.short_tree.specs.Inner.Arrays.{added_at, Waits, Inside, Kept, Pins, Room, Tracks, Held}
use Rattle.short_tree.proofs.Laws.Choosing.{first_map, first_is}
use Rattle.short_tree.proofs.Laws.Waiting.{place_terminal, sink_once, sink_range}
use Rattle.short_tree.proofs.Laws.Choice.{grown}

-- ---- the first sink

module _ (N : Net) (n : ℕ) (p : Pins N n) (xs ys : List ℤ) (parents kept costs : List ℕ) (first : ℕ) (room : Room n xs ys parents kept costs)
    (stand : (v : ℕ) → v ≤ n → point_at xs ys v ≡ sink_at N v) (zeros : (v : ℕ) → v < 2 * n → get_or parents v 0 ≡ 0)
    (near : First (λ u. distance (point_at xs ys 0) (point_at xs ys u)) (λ u. (1 ≤ u) × (u ≤ n)) first) (in_it : get_or kept first 0 ≡ 0) (clear : (v : ℕ) → n < v → v < 2 * n → get_or kept v 0 ≡ 0)
    (rest : (s : ℕ) → 1 ≤ s → s ≤ n → s ≢ first → (get_or kept s 0 ≡ first) × (get_or costs s 0 ≡ added_at parents xs ys s first)) where
  first_nearest : first ≡ nearest N
  first_nearest =
      first_is (λ s. distance N.root (sink_at N s)) (sink_numbers (size N))
      (first_map (λ u. distance (point_at xs ys 0) (point_at xs ys u)) (λ u. (1 ≤ u) × (u ≤ n)) (λ u. count u (sink_numbers (size N)) ≢ 0) (λ s. distance N.root (sink_at N s))
      (λ u q. omega (arith, sink_once (size N) u q.0 (omega (arith, q.1, p.size_is)))) from (λ u m. sym (ap₂ distance (stand 0 (omega arith)) (stand u (from u m).1))) near)
    where
      from : (u : ℕ) → count u (sink_numbers (size N)) ≢ 0 → (1 ≤ u) × (u ≤ n)
      from u m = let r : (1 ≤ u) × (u ≤ size N) = sink_range (size N) u m in omega (arith, p.size_is)

  only_first : (u : ℕ) → 1 ≤ u → u ≤ n → get_or kept u 0 ≡ 0 → u ≡ first
  only_first u a b e = go (equal? u first)
    where
      go : (u ≡ first) ⊎ (u ≢ first) → u ≡ first
      go (inl q) = q
      go (inr d) = absurd (omega (arith, (rest u a b d).0, near.member))

  pub held_start : Held N n 0 xs ys parents kept costs
  held_start = record {
    room = room;
    tracks = record { parents_are = parents_are; points_are = λ v h. stand v (omega arith) ∙ sym (place_terminal N (after N 0).tree v (omega (arith, p.size_is))) };
    in_tree = λ s a b e. omega (arith, delta_self s, ap (delta s) (only_first s a b e ∙ first_nearest));
    waits = λ s a b w. omega (arith, delta_ne s (nearest N) (λ e. w (ap (λ z. get_or kept z 0) (e ∙ sym first_nearest) ∙ in_it)));
    branches = clear;
    known = known;
  }
    where
      parents_are : parents_of n parents ≡ replicate (2 * size N - 1) 0
      parents_are =
          ext_get_or 0 (parents_of n parents) (replicate (2 * size N - 1) 0) (omega (arith, parents_length n parents, length-replicate (2 * size N - 1) zero, p.size_is))
          (λ i q. parents_at n parents (suc i) (omega arith) (omega (arith, parents_length n parents)) ∙ zeros (suc i) (omega (arith, parents_length n parents)) ∙ sym (hangs (2 * size N - 1) (suc i)))

      known : (s : ℕ) → Waits n kept s → Kept (Inside (n + 0) kept) parents xs ys kept costs s
      known s w = subst (λ e. Bound (added_at parents xs ys s) (Inside (n + 0) kept) e (get_or costs s 0)) (sym r.0) (record { member = (near.member.0, omega (arith, near.member.1), in_it); leads = leads })
        where
          r : (get_or kept s 0 ≡ first) × (get_or costs s 0 ≡ added_at parents xs ys s first)
          r = rest s w.0 w.1 (λ e. w.2 (ap (λ z. get_or kept z 0) e ∙ in_it))

          leads : (u : ℕ) → Inside (n + 0) kept u → Leads (get_or costs s 0) first (added_at parents xs ys s u) u
          leads u i =
              let e : u ≡ first = only_first u i.0 (omega (arith, i.1)) i.2 in
              record { less = omega (arith, r.1, ap (added_at parents xs ys s) e); tied = λ z. omega arith }

-- ---- all are in

pub held_end : (N : Net) (n k : ℕ) → Pins N n → n ≡ suc k → (xs ys : List ℤ) (parents : List ℕ) → Tracks N n k xs ys parents → tree_of n parents xs ys ≡ short N
unfolding short
held_end N n k p e xs ys parents t = (λ i. record { parents = t.parents_are i; points = points i }) ∙ ap (λ j. (after N j).tree) last
  where
    last : k ≡ size N - 1
    last = omega (arith, p.size_is)

    made : length (after N k).tree.points ≡ k
    made = (grown N (omega (arith, p.some, p.size_is)) k (omega (arith, p.size_is))).made

    long : length (map (point_at xs ys) (branch_numbers n)) ≡ n - 1
    long = table_length (point_at xs ys) (suc n) (n - 1)

    branch : (i : ℕ) → place N (after N k).tree (suc (size N + i)) ≡ get_or (after N k).tree.points i N.root
    branch i =
        ap (λ j. get_or (map (λ s. s.point) N.sinks ++ (after N k).tree.points) (j + i) N.root) (sym (length-map N.sinks (λ s. s.point)))
        ∙ get_or-append-add (map (λ s. s.point) N.sinks) (after N k).tree.points i N.root

    points : map (point_at xs ys) (branch_numbers n) ≡ (after N k).tree.points
    points = ext_get_or N.root (map (point_at xs ys) (branch_numbers n)) (after N k).tree.points (omega (arith, long, made))
        (λ i q. table_at (point_at xs ys) N.root (suc n) (n - 1) i (omega (arith, long)) ∙ t.points_are (suc n + i) (omega (arith, long)) ∙ ap (place N (after N k).tree) (same i) ∙ branch i)
      where
        same : (i : ℕ) → suc n + i ≡ suc (size N + i)
        same i = omega (arith, p.size_is)
