-- The figures of the short tree are in the listing's ranges: no way from the root has more than n edges. Assumes nothing.
use Prim.Native.Nat.{ℕ, zero, suc, ◌+◌, ◌-◌, ◌*◌, ◌≤◌, ◌<◌, zero-le}
use mathlib.Core.Path.{◌≡◌, sym, ap, ◌∙◌, subst}
use mathlib.Core.Bool.{Bool, true, false}
use mathlib.Core.Logic.{◌≢◌, ◌⊎◌, inl, inr}
use mathlib.Core.List.{List, ◌∷◌}
use native.Mathlib.Nat.{le_refl, mul-le-mul}
use native.Mathlib.Omega.{arith}
use lib.Dec.{ltb}
use lib.ListN.{length}
use lib.IntN.{pos, ◌-ℤ◌}
use Rattle.quantities.specs.Inner.Linear.{whole, -is}
use Rattle.quantities.specs.Ranges.{Within, PointWithin}
use Rattle.tree.specs.Lists.{sum_over, count, down, range}
use Rattle.tree.specs.Net.{Net, size, required}
use Rattle.tree.specs.Tree.{Tree, parent, place}
use Rattle.tree.specs.Measures.{path_up, edge_delay, path_delay, one_if, depth, slack, worst_slack, wire_length}
use Rattle.tree.specs.Limits.{position_limit, branch_limit, wire_factor_limit, sink_limit, required_limit, slack_limit, wire_limit, InRange}
use Rattle.tree.proofs.Laws.Lists.Sums.{equal?, delta_ne}
use Rattle.tree.proofs.Laws.Trees.Walks.{hops, hops_stable, hops_le}
use Rattle.tree.proofs.Laws.Trees.Growing.{PartTree, Split, member, parent_inner, inner_reach, hops_suc, hops_up}
use Rattle.tree.proofs.Laws.Trees.AnySplit.{clear_x, depth_any}
use Rattle.tree.proofs.Laws.Planning.WorstAfter.{meet_once}
use Rattle.tree.proofs.Laws.Planning.KeepsBest.{Least}
use Rattle.tree.proofs.Laws.Planning.AnyTieRule.{worst_is_least, sinks_in_lem}
use Rattle.quantities.proofs.Laws.Delay.{delay_within}
use Rattle.tree.proofs.Laws.Measures.FiguresInRange.{boxed_within, legal_wire_range}
use Rattle.short_tree.specs.ShortTree.{edge_for, next_sink, after, short}
use Rattle.short_tree.proofs.Laws.Wiring.{InTree, Grown, splits}
use Rattle.short_tree.proofs.Laws.Choice.{edge_count, waiting_in, first_choice, grown}
use Rattle.short_tree.proofs.Laws.Theorem2.{in_box, all_numbers, theorem2}

-- ---- how deep the vertices are

module _ {n : ℕ} {S : List ℕ} {k F : ℕ} {p p' : ℕ → ℕ} {s x : ℕ} (t : PartTree n S k F p) (c : Split n k s x p p')
    (hx : count x S + count x (down n k) ≢ 0) (s1 : 1 ≤ s) (sn : s ≤ n) (fresh : count s S ≡ 0)
    (m : ℕ) (deep : (v : ℕ) → count v S + count v (down n k) ≢ 0 → hops p F v ≤ m) where
  up_x : hops p F (p x) < m
  up_x = omega (arith, deep x hx, hops_up p F x x0 (t.reach x hx))
    where
      x0 : x ≢ 0
      x0 = omega (arith, (member t c hx s1 sn fresh x hx).0)

  branch_deep : hops p' (suc (suc F)) (n + suc k) ≤ m
  branch_deep =
      let a : hops p' (suc (suc F)) (n + suc k) ≡ suc (hops p' (suc F) (p' (n + suc k))) = hops_suc p' (suc F) (n + suc k) (omega arith) in
      let b : hops p' (suc F) (p' (n + suc k)) ≡ hops p (suc F) (p x) = ap (hops p' (suc F)) c.mid ∙ (clear_x t c hx s1 sn fresh (suc F)).0 in
      let d : hops p (suc F) (p x) ≡ hops p F (p x) = hops_stable p F (p x) (inner_reach t (p x) (parent_inner t x hx)) in
      omega (arith, up_x)

  sink_deep : hops p' (suc (suc F)) s ≤ suc m
  sink_deep =
      let a : hops p' (suc (suc F)) s ≡ suc (hops p' (suc F) (p' s)) = hops_suc p' (suc F) s (omega arith) in
      let b : hops p' (suc F) (p' s) ≡ suc (hops p' F (p' (n + suc k))) = ap (hops p' (suc F)) c.new ∙ hops_suc p' F (n + suc k) (omega arith) in
      let d : hops p' F (p' (n + suc k)) ≡ hops p F (p x) = ap (hops p' F) c.mid ∙ (clear_x t c hx s1 sn fresh F).0 in
      omega (arith, up_x)

  split_deep : (v : ℕ) → count v (s ∷ S) + count v (down n (suc k)) ≢ 0 → hops p' (suc (suc F)) v ≤ suc m
  split_deep v h = go (equal? v s) (equal? v (n + suc k))
    where
      go : (v ≡ s) ⊎ (v ≢ s) → (v ≡ n + suc k) ⊎ (v ≢ n + suc k) → hops p' (suc (suc F)) v ≤ suc m
      go (inl e) d = rw e sink_deep
      go (inr d) (inl e) = rw e (omega (arith, branch_deep))
      go (inr d) (inr d') =
          let i : count v S + count v (down n k) ≢ 0 = omega (arith, delta_ne v s d, delta_ne v (n + suc k) d') in
          omega (arith, depth_any t c hx s1 sn fresh v i, meet_once t c hx s1 sn fresh F v, deep v i)

module _ (N : Net) (n1 : 1 ≤ size N) where
  pub deep : (k : ℕ) → k < size N → (v : ℕ) → InTree N k (after N k) v → hops (parent (after N k).tree) (2 * k + 1) v ≤ suc k
  deep zero h v i = hops_le (parent (after N 0).tree) 1 v
  deep (suc k) h v i = go (deep k (omega arith))
    where
      G : Grown N k (after N k)
      G = grown N n1 k (omega arith)

      s : ℕ
      s = next_sink N k (after N k)

      x : ℕ
      x = edge_for N k (after N k) s

      w : (count s (after N k).sinks ≡ 0) × (1 ≤ s) × (s ≤ size N)
      w = waiting_in N k (after N k) s (first_choice N k (after N k) G h).sink

      hx : InTree N k (after N k) x
      hx = omega (arith, edge_count N k (after N k) x, (first_choice N k (after N k) G h).edge)

      go : ((u : ℕ) → InTree N k (after N k) u → hops (parent (after N k).tree) (2 * k + 1) u ≤ suc k) → hops (parent (after N (suc k)).tree) (2 * suc k + 1) v ≤ suc (suc k)
      go ih =
          let e : 2 * suc k + 1 ≡ suc (suc (2 * k + 1)) = omega arith in
          rw e (split_deep G.tree (splits N k (after N k) G s x w.1 w.2 w.0 h hx) hx w.1 w.2 w.0 (suc k) ih v i)

-- ---- sums along a way

path_bound : (p : ℕ → ℕ) (k v : ℕ) (f : ℕ → ℕ) (m : ℕ) → ((u : ℕ) → f u ≤ m) → sum_over (path_up p k v) f ≤ hops p k v * m
path_bound p zero v f m h = zero-le
path_bound p (suc k) zero f m h = zero-le
path_bound p (suc k) (suc v) f m h = omega (arith, h (suc v), path_bound p k (p (suc v)) f m h)

one_if_le : (n u : ℕ) → one_if (ltb n u) ≤ 1
one_if_le n u = go (ltb n u)
  where
    go : (b : Bool) → one_if b ≤ 1
    go true = omega arith
    go false = omega arith

module _ (N : Net) (R : InRange N) where
  T : Tree
  T = (after N (size N - 1)).tree

  G : Grown N (size N - 1) (after N (size N - 1))
  G = grown N R.sinks.0 (size N - 1) (omega (arith, R.sinks))

  -- every vertex is in range
  all_within : (v : ℕ) → PointWithin position_limit (place N T v)
  unfolding T
  all_within v = boxed_within N R _ (λ low high pins. in_box N R.sinks.0 low high pins (size N - 1) (omega (arith, R.sinks)) v)

  pub short_within : (v : ℕ) → PointWithin position_limit (place N (short N) v)
  unfolding short T
  short_within = all_within

  -- L is in its range
  pub short_wire_range : wire_length N (short N) ≤ wire_limit
  short_wire_range = legal_wire_range N R (short N) (theorem2 N R.sinks.0).legal (λ v l. short_within v)

  -- W is in its range
  pub short_slack_range : Within slack_limit (worst_slack N (short N))
  unfolding short T
  short_slack_range =
      let l : Least (range 1 (size N)) (slack N T) (worst_slack N T) = worst_is_least N T R.sinks.0 in
      let s : ℕ = l.at in
      let h : (1 ≤ s) × (s ≤ size N) = sinks_in_lem N R.branch.0 R.sinks.0 s l.in_list in
      let e : length T.parents ≡ 2 * (size N - 1) + 1 = omega (arith, G.long, R.sinks) in
      let i : InTree N (size N - 1) (after N (size N - 1)) s = omega (arith, all_in s h.0 h.1) in
      let d : hops (parent T) (length T.parents) s ≤ sink_limit = subst (λ j. hops (parent T) j s ≤ sink_limit) (sym e) (omega (arith, deep N R.sinks.0 (size N - 1) (omega (arith, R.sinks)) s i, R.sinks)) in
      let far : path_delay N T s ≤ hops (parent T) (length T.parents) s * (wire_factor_limit * (4 * position_limit)) =
      path_bound (parent T) (length T.parents) s (edge_delay N T) (wire_factor_limit * (4 * position_limit)) (λ u. delay_within wire_factor_limit position_limit N.wire _ _ (R.wire.0.1, R.wire.1.1) (all_within (parent T u)) (all_within u)) in
      let far' : hops (parent T) (length T.parents) s * (wire_factor_limit * (4 * position_limit)) ≤ sink_limit * (wire_factor_limit * (4 * position_limit)) = mul-le-mul d (le_refl (wire_factor_limit * (4 * position_limit))) in
      let many : depth N T s ≤ hops (parent T) (length T.parents) s * 1 = path_bound (parent T) (length T.parents) s (λ u. one_if (ltb (size N) u)) 1 (one_if_le (size N)) in
      let few : depth N T s ≤ sink_limit = omega (arith, many, d) in
      let cost : N.branch * depth N T s ≤ branch_limit * sink_limit = mul-le-mul R.branch.1 few in
      let q : Within required_limit (required N s) = R.required s h.0 h.1 in
      let w : slack N T s ≡ worst_slack N T = l.is in
      omega (arith, whole, -is (required N s -ℤ pos (path_delay N T s)) (pos (N.branch * depth N T s)), -is (required N s) (pos (path_delay N T s)))
    where
      all_in : (s : ℕ) → 1 ≤ s → s ≤ size N → count s (after N (size N - 1)).sinks ≡ 1
      all_in = all_numbers (size N) (after N (size N - 1)).sinks G.tree.once G.tree.low (omega (arith, G.in_it, R.sinks))
