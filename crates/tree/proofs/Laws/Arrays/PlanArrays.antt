-- What the planner's arrays hold from step to step: ready for insertion, planned, settled. Assumes nothing.
use Prim.Native.Nat.{ℕ, zero, suc, ◌*◌, ◌≤◌, ◌<◌}
use mathlib.Core.Path.{◌≡◌, refl, sym, ap, ◌∙◌, subst}
use mathlib.Core.List.{List}
use native.Mathlib.Omega.{arith}
use lib.ListN.{length, get_or}
use lib.IntN.{ℤ, pos}
use Rattle.quantities.specs.Ranges.{PointWithin}
use Rattle.tree.specs.declared.header.Header.{Header}
use Rattle.tree.specs.Net.{Sink, size, own_slack}
use Rattle.tree.specs.Tree.{Legal, place}
use Rattle.tree.specs.Measures.{wire_length}
use Rattle.tree.specs.Planning.{tie_rule, plan_parents}
use Rattle.tree.specs.Settling.{settled_tree, plan_by, plan}
use Rattle.tree.specs.Limits.{position_limit, sink_limit}
use Rattle.tree.specs.Inner.Arrays.{point_at, net_of, parents_of, tree_of, Parents, HoldsNet, HoldsTree}
use Rattle.tree.specs.Inner.Insertion.{Ready, Placed}
use Rattle.tree.proofs.Laws.Lists.Tables.{table_cong}
use Rattle.tree.proofs.Laws.Arrays.NetAndTree.{size_is, parents_at, sink_at_lem, place_at}
use Rattle.tree.proofs.Laws.Measures.MeasuredArrays.{branch_is}
use Rattle.tree.proofs.Laws.Planning.AnyTieRule.{plan_legal}
use Rattle.tree.proofs.Laws.Measures.FiguresInRange.{plan_within}

module _ (h : Header) (n : ℕ) (xs ys rs : List ℤ) (held : HoldsNet h n xs ys rs) where
  pub some_few : (1 ≤ n) × (n ≤ sink_limit)
  some_few = omega (arith, held.in_range.sinks, size_is h n xs ys rs)

  pub ready : (own : List ℤ) → n < length own → ((s : ℕ) → 1 ≤ s → s ≤ n → get_or own s (pos 0) ≡ own_slack (net_of h n xs ys rs) s) → Ready (net_of h n xs ys rs) h.branch.0 n own
  ready own ol oi = record { in_range = held.in_range; size_is = size_is h n xs ys rs; branch_is = branch_is h n xs ys rs held; own_long = ol; own_is = oi }

  pub placed : Placed (net_of h n xs ys rs) n xs ys
  placed = record { xs_long = held.points.xs_long; ys_long = held.points.ys_long; root_at = refl; sinks_at = λ s s1 sn. sym (sink_at_lem h n xs ys rs s sn) }

  plan_shape : Legal (size (net_of h n xs ys rs)) (plan_parents tie_rule (net_of h n xs ys rs))
  unfolding plan_by
  plan_shape = (plan_legal (net_of h n xs ys rs) held.in_range.branch.0 held.in_range.sinks.0 tie_rule).shape

  -- ---- the parents are the plan's

  module _ (ps : List ℕ) (long : 2 * n ≤ length ps) (planned : parents_of n ps ≡ plan_parents tie_rule (net_of h n xs ys rs)) where
    pub planned_legal : Legal n (parents_of n ps)
    planned_legal = subst (λ P. Legal n P) (sym planned) (subst (λ m. Legal m (plan_parents tie_rule (net_of h n xs ys rs))) (size_is h n xs ys rs) plan_shape)

    pub planned_parents : Parents n ps
    planned_parents = record { some = some_few.0; few = some_few.1; long = long; inside = inside }
      where
        inside : (v : ℕ) → 1 ≤ v → v < 2 * n → get_or ps v 0 < 2 * n
        inside zero g l = absurd (omega arith)
        inside (suc i) g l = omega (arith, planned_legal.inside i (omega (arith, planned_legal.size)), parents_at n ps (suc i) g l)

    -- ---- the branch points are settled, and the root and the sinks stand as before

    module _ (xs' ys' : List ℤ) (xs_long : 2 * n ≤ length xs') (ys_long : 2 * n ≤ length ys')
        (settled : tree_of n ps xs' ys' ≡ settled_tree (net_of h n xs ys rs) (parents_of n ps))
        (kept : (v : ℕ) → v ≤ n → point_at xs' ys' v ≡ point_at xs ys v) where
      planned_net : net_of h n xs' ys' rs ≡ net_of h n xs ys rs
      planned_net = λ i. record {
        root = kept 0 (omega arith) i;
        branch = (net_of h n xs ys rs).branch;
        wire = (net_of h n xs ys rs).wire;
        need = (net_of h n xs ys rs).need;
        sinks = table_cong (sink_of xs' ys') (sink_of xs ys) 1 n (λ s p q. ap (λ z. record { point = z; required = get_or rs s (pos 0) }) (kept s (omega arith))) i;
      }
        where
          sink_of : List ℤ → List ℤ → ℕ → Sink
          sink_of xs ys s = record { point = point_at xs ys s; required = get_or rs s (pos 0) }

      pub planned_tree : tree_of n ps xs' ys' ≡ plan (net_of h n xs ys rs)
      unfolding plan plan_by
      planned_tree = settled ∙ ap (settled_tree (net_of h n xs ys rs)) planned

      pub planned_holds : HoldsTree n ps xs' ys'
      unfolding plan
      planned_holds = record { parents_in_lem = planned_parents; points_in_lem = record { xs_long = xs_long; ys_long = ys_long; near = near } }
        where
          near : (v : ℕ) → v < 2 * n → PointWithin position_limit (point_at xs' ys' v)
          near v l =
              subst
              (PointWithin position_limit)
              (sym (λ i. place (planned_net i) (planned_tree i) v) ∙ place_at h n xs' ys' rs ps v l)
              (plan_within tie_rule (net_of h n xs ys rs) held.in_range v (omega (arith, size_is h n xs ys rs)))

      pub planned_wire : (w : ℕ) → w ≡ wire_length (net_of h n xs' ys' rs) (tree_of n ps xs' ys') → w ≡ wire_length (net_of h n xs ys rs) (plan (net_of h n xs ys rs))
      planned_wire w e = e ∙ (λ i. wire_length (planned_net i) (planned_tree i))
