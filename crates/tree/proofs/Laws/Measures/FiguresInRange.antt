-- The figures of a settled tree, so of the planned one, are in the listing's ranges: settled points stay in the box of the root and the sinks. Assumes nothing.
use Prim.Native.Nat.{ℕ, zero, suc, ◌+◌, ◌*◌, ◌-◌, ◌≤◌, ◌<◌, zero-le}
use mathlib.Core.Path.{◌≡◌, sym, ap, ◌∙◌, subst}
use mathlib.Core.Logic.{◌≢◌}
use mathlib.Core.List.{List}
use native.Mathlib.Omega.{arith}
use native.Mathlib.Decide.{dec_le}
use lib.ListN.{length, get_or}
use lib.IntN.{ℤ, pos, neg_ℤ, ◌-ℤ◌}
use Rattle.quantities.specs.declared.point.Point.{Point}
use Rattle.quantities.specs.Inner.Linear.{whole}
use Rattle.quantities.specs.Ranges.{Within, PointWithin}
use Rattle.quantities.specs.Box.{InBox}
use Rattle.quantities.proofs.Laws.Distance.{distance_within}
use Rattle.quantities.proofs.Laws.Median.{median_in_box}
use Rattle.tree.specs.Lists.{sum_over, count, range}
use Rattle.tree.specs.Net.{Net, size, sink_at, own_slack}
use Rattle.tree.specs.Tree.{Tree, parent_of, parent, Legal, LegalTree, place}
use Rattle.tree.specs.Measures.{edge_length, slack, worst_slack, wire_length}
use Rattle.tree.specs.Planning.{TieRule, plan_parents}
use Rattle.tree.specs.Settling.{children, settled, settled_tree, plan_by}
use Rattle.tree.specs.Limits.{position_limit, need_limit, wire_limit, InRange}
use Rattle.tree.proofs.Laws.Lists.Sums.{sum_over_bound}
use Rattle.tree.proofs.Laws.Trees.Walks.{hops_le}
use Rattle.tree.proofs.Laws.Kraft.GapSums.{depth_in}
use Rattle.tree.proofs.Laws.Lists.Tables.{range_length}
use Rattle.tree.proofs.Laws.Planning.KeepsBest.{Least}
use Rattle.tree.proofs.Laws.Measures.InReach.{kept_within}
use Rattle.tree.proofs.Laws.Trees.Defects.{range_in}
use Rattle.tree.proofs.Laws.Settling.SlackKept.{settled_legal, settled_is, settled_sink, settled_branch, at_settled}
use Rattle.tree.proofs.Laws.Planning.AnyTieRule.{worst_is_least, sinks_in_lem, plan_legal}

-- ---- every settled point lies in the box of the root and the sinks, in any tree

module _ (N : Net) (P : List ℕ) (low high : Point) (stands : (v : ℕ) → v ≤ size N → InBox low high (sink_at N v)) where
  pub settled_in_box : (k v : ℕ) → InBox low high (settled N P k v)
  settled_in_box zero v = stands 0 zero-le
  settled_in_box (suc k) v = go (dec_le v (size N)) (λ c. settled_in_box k c)
    where
      go : Dec (v ≤ size N) → ((c : ℕ) → InBox low high (settled N P k c)) → InBox low high (settled N P (suc k) v)
      go (yes h) ih = subst (InBox low high) (sym (settled_sink N P k v h)) (stands v h)
      go (no h) ih =
          subst (InBox low high) (sym (settled_branch N P k v (omega arith)))
          (median_in_box low high N.root _ _ (stands 0 zero-le) (ih (get_or (children P v) 0 0)) (ih (get_or (children P v) 1 0)))

  pub place_in_box : Legal (size N) P → (v : ℕ) → v < 2 * size N → InBox low high (place N (settled_tree N P) v)
  place_in_box L zero h = stands 0 zero-le
  place_in_box L (suc v) h = subst (InBox low high) (sym (at_settled N P L (suc v) (omega arith) h)) (settled_in_box (2 * size N) (suc v))

-- ---- the range of the positions as a box

corner : ℤ → Point
corner z = record { x = z; y = z }

within_box : (k : ℕ) (p : Point) → PointWithin k p → InBox (corner (neg_ℤ (pos k))) (corner (pos k)) p
unfolding corner
within_box k p h = record { x = h.0; y = h.1 }

box_within : (k : ℕ) (p : Point) → InBox (corner (neg_ℤ (pos k))) (corner (pos k)) p → PointWithin k p
unfolding corner
box_within k p h = (h.x, h.y)

pub stands_within : (N : Net) → InRange N → (v : ℕ) → v ≤ size N → PointWithin position_limit (sink_at N v)
stands_within N R zero h = R.root
stands_within N R (suc v) h = R.points (suc v) (omega arith) h

-- what lies in every box that the root and the sinks lie in is in range
pub boxed_within : (N : Net) → InRange N → (p : Point) → ((low high : Point) → ((v : ℕ) → v ≤ size N → InBox low high (sink_at N v)) → InBox low high p) → PointWithin position_limit p
boxed_within N R p boxed = box_within position_limit p (boxed _ _ (λ u l. within_box position_limit _ (stands_within N R u l)))

-- the wire of any legal tree whose vertices are all in range
pub legal_wire_range : (N : Net) → InRange N → (T : Tree) → LegalTree N T → ((v : ℕ) → v < 2 * size N → PointWithin position_limit (place N T v)) → wire_length N T ≤ wire_limit
unfolding wire_length
legal_wire_range N R T L within =
    let b : sum_over (range 1 (2 * size N - 1)) (edge_length N T) ≤ length (range 1 (2 * size N - 1)) * (4 * position_limit) =
    sum_over_bound (range 1 (2 * size N - 1)) (edge_length N T) (4 * position_limit) each in
    omega (arith, R.sinks, ap (λ n. n * (4 * position_limit)) (range_length 1 (2 * size N - 1)))
  where
    below : (v : ℕ) → v < 2 * size N → parent T v < 2 * size N
    below zero l = l
    below (suc i) l = L.shape.inside i (omega (arith, L.shape.size))

    each : (x : ℕ) → count x (range 1 (2 * size N - 1)) ≢ 0 → edge_length N T x ≤ 4 * position_limit
    each x m =
        let h : (1 ≤ x) × (x < 1 + (2 * size N - 1)) = range_in 1 (2 * size N - 1) x m in
        distance_within position_limit _ _ (within (parent T x) (below x (omega (arith, R.sinks)))) (within x (omega (arith, R.sinks)))

-- ---- any settled tree

module _ (N : Net) (R : InRange N) (P : List ℕ) (L : Legal (size N) P) where
  pub settled_within : (v : ℕ) → v < 2 * size N → PointWithin position_limit (place N (settled_tree N P) v)
  settled_within v h = boxed_within N R _ (λ low high stands. place_in_box N P low high stands L v h)

  -- L is in its range
  pub settled_wire_range : wire_length N (settled_tree N P) ≤ wire_limit
  settled_wire_range = legal_wire_range N R (settled_tree N P) (settled_legal N P L) settled_within

  -- W is in the range of t, so in its own
  pub settled_slack_range : Within need_limit (worst_slack N (settled_tree N P))
  settled_slack_range =
      let l : Least (range 1 (size N)) (slack N (settled_tree N P)) (worst_slack N (settled_tree N P)) = worst_is_least N (settled_tree N P) R.sinks.0 in
      let s : ℕ = l.at in
      let h : (1 ≤ s) × (s ≤ size N) = sinks_in_lem N R.branch.0 R.sinks.0 s l.in_list in
      let d : ℕ = depth_in (length P) (parent_of P) s in
      let e : worst_slack N (settled_tree N P) ≡ own_slack N s -ℤ pos (d * N.branch) = sym l.is ∙ settled_is N P L s h.0 h.1 in
      let deep = hops_le (parent_of P) (length P) (parent_of P s) in
      let w = kept_within N R s d h.0 h.1 (omega (arith, L.size, R.sinks)) in
      omega (arith, whole)

-- ---- the planned tree

module _ (tie : TieRule) (N : Net) (R : InRange N) where
  legal : Legal (size N) (plan_parents tie N)
  unfolding plan_by
  legal = (plan_legal N R.branch.0 R.sinks.0 tie).shape

  pub plan_within : (v : ℕ) → v < 2 * size N → PointWithin position_limit (place N (plan_by tie N) v)
  unfolding plan_by
  plan_within = settled_within N R (plan_parents tie N) legal

  pub wire_range : wire_length N (plan_by tie N) ≤ wire_limit
  unfolding plan_by
  wire_range = settled_wire_range N R (plan_parents tie N) legal

  -- "The lowest t is always reachable"
  pub slack_range : Within need_limit (worst_slack N (plan_by tie N))
  unfolding plan_by
  slack_range = settled_slack_range N R (plan_parents tie N) legal
