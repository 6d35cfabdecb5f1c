-- Arrays that hold the shorter net and the shorter tree hold both in range, so that the tree can be measured and both can be written. Assumes nothing.
use Prim.Native.Nat.{ℕ, zero, suc, ◌-◌, ◌*◌, ◌≤◌, ◌<◌}
use mathlib.Core.Path.{◌≡◌, sym, ap, ◌∙◌, subst}
use mathlib.Core.List.{List}
use Rattle.std.specs.Prelude.{None}
use native.Mathlib.Omega.{arith}
use lib.ListN.{length, get_or}
use lib.IntN.{ℤ}
use Rattle.quantities.specs.declared.length.Length.{Length}
use Rattle.quantities.specs.declared.time.Time.{Time}
use Rattle.quantities.specs.Ranges.{PointWithin}
use Rattle.tree.specs.declared.header.Header.{Header}
use Rattle.tree.specs.Defects.{wrong_children, unreached}
use Rattle.tree.specs.Net.{Net, size}
use Rattle.tree.specs.Tree.{Tree, Legal, LegalTree, place}
use Rattle.tree.specs.Measures.{worst_slack, wire_length}
use Rattle.tree.specs.Limits.{position_limit, InRange, WeightsInRange}
use Rattle.tree.specs.Inner.Arrays.{point_at, net_of, tree_of, weights_of, parents_of, HoldsNet, HoldsWeights, HoldsTree}
use Rattle.tree.proofs.Laws.Lists.Tables.{table_length}
use Rattle.tree.proofs.Laws.Arrays.NetAndTree.{parents_at, place_at, size_is}
use Rattle.tree.proofs.Laws.Trees.NamedDefects.{legal_only}
use Rattle.formats.specs.ListingText.{ListingInRange}
use Rattle.formats.specs.Inner.ListingReader.{listing_held}
use Rattle.operations.proofs.Laws.Accepting.{legal_no_sink}
use Rattle.shorter_tree.specs.Deletion.{without, branch_of, pruned}
use Rattle.shorter_tree.specs.Inner.Arrays.{old, HoldsLegal, HoldsShorter, SlackInRange}
use Rattle.shorter_tree.proofs.Laws.ShorterLegal.{branch_point}
use Rattle.shorter_tree.proofs.Laws.Kept.{place_old, shorter_legal}
use Rattle.shorter_tree.proofs.Laws.HeldShorter.{old_below, shorter_size}
use Rattle.shorter_tree.proofs.Laws.ShorterInRange.{shorter_in_range, shorter_weighed, shorter_listed}

module _ (h : Header) (n s : ℕ) (ps : List ℕ) (xs ys rs ws : List ℤ) (held : HoldsLegal h n ps xs ys rs ws) (n2 : 2 ≤ n) (s1 : 1 ≤ s) (sn : s ≤ n) where
  abbrev N : Net
  N = net_of h n xs ys rs

  abbrev T : Tree
  T = tree_of n ps xs ys

  size_n : size N ≡ n
  size_n = size_is h n xs ys rs

  held_legal : LegalTree N T
  held_legal = record { shape = subst (λ m. Legal m (parents_of n ps)) (sym size_n) held.3; placed = omega (arith, table_length (point_at xs ys) (suc n) (n - 1), size_n) }

  size₂ : 2 ≤ size N
  size₂ = omega (arith, size_n)

  sink_in : s ≤ size N
  sink_in = omega (arith, size_n)

  module _ (ps' : List ℕ) (xs' ys' rs' ws' : List ℤ) (closed : HoldsShorter n s ps xs ys rs ws ps' xs' ys' rs' ws') where
    size_m : size (without N s) ≡ n - 1
    size_m = shorter_size h n s ps xs ys rs ws ps' xs' ys' rs' ws' closed

    pub shortened_legal : Legal (n - 1) (parents_of (n - 1) ps')
    shortened_legal =
        subst (λ m. Legal m (parents_of (n - 1) ps')) size_m (subst (Legal (size (without N s))) (sym (ap (λ t. t.parents) (closed.tree h))) (shorter_legal N T s held_legal size₂ s1 sink_in).shape)

    -- every vertex has its children and is reached
    pub shortened_whole : (wrong_children (n - 1) (parents_of (n - 1) ps') ≡ None) × (unreached (n - 1) (parents_of (n - 1) ps') ≡ None)
    shortened_whole =
        let L = shortened_legal in
        legal_only (n - 1) (parents_of (n - 1) ps') (record { some_sink = omega arith; size = L.size; inside = L.inside; no_sink_lem = legal_no_sink (n - 1) (parents_of (n - 1) ps') L }) L

    -- the listing, with the slack and the wire that are measured
    pub shortened_listed : (slack : Time) (wire : Length) → SlackInRange h n ps xs ys rs → slack.0 ≡ worst_slack (without N s) (pruned N T s) → wire.0 ≡ wire_length (without N s) (pruned N T s)
        → ListingInRange (n - 1) (listing_held slack wire (n - 1) ps' xs' ys')
    shortened_listed slack wire w e f =
        subst (λ m. ListingInRange m (listing_held slack wire (n - 1) ps' xs' ys')) size_m
        (subst (ListingInRange (size (without N s))) (λ i. record { slack = sym e i; wire = sym f i; tree = sym (closed.tree h) i })
        (shorter_listed N T s held_legal size₂ s1 sink_in held.0.in_range
        (λ v l. subst (PointWithin position_limit) (sym (place_at h n xs ys rs ps v (omega (arith, size_n)))) (held.2.points_in_lem.near v (omega (arith, size_n)))) w))

    module _ (same_p : length ps' ≡ length ps) (same_x : length xs' ≡ length xs) (same_y : length ys' ≡ length ys) where
      near : (v : ℕ) → v < 2 * (n - 1) → PointWithin position_limit (point_at xs' ys' v)
      near v l =
          let b : ℕ = branch_of T s in
          let e : point_at xs' ys' v ≡ point_at xs ys (old s b v) =
          sym (place_at h (n - 1) xs' ys' rs' ps' v l)
          ∙ (λ i. place (closed.net h i) (closed.tree h i) v)
          ∙ place_old N T s b s1 sink_in (branch_point (size N) T.parents held_legal.shape size₂ s s1 sink_in).0 v
          ∙ place_at h n xs ys rs ps (old s b v) (old_below n s b v (omega arith)) in
          subst (PointWithin position_limit) (sym e) (held.2.points_in_lem.near (old s b v) (old_below n s b v (omega arith)))

      pub shortened_net : length rs' ≡ length rs → HoldsNet h (n - 1) xs' ys' rs'
      shortened_net same_r = record {
        points = record { xs_long = omega (arith, held.2.points_in_lem.xs_long); ys_long = omega (arith, held.2.points_in_lem.ys_long); near = λ v l. near v (omega arith) };
        required_long = omega (arith, held.0.required_long);
        in_range = subst InRange (sym (closed.net h)) (shorter_in_range N s s1 sink_in size₂ held.0.in_range);
      }

      pub shortened_tree : HoldsTree (n - 1) ps' xs' ys'
      shortened_tree = record {
        parents_in_lem = record { some = omega arith; few = omega (arith, held.2.parents_in_lem.few); long = omega (arith, held.2.parents_in_lem.long); inside = inside };
        points_in_lem = record { xs_long = omega (arith, held.2.points_in_lem.xs_long); ys_long = omega (arith, held.2.points_in_lem.ys_long); near = near };
      }
        where
          inside : (v : ℕ) → 1 ≤ v → v < 2 * (n - 1) → get_or ps' v 0 < 2 * (n - 1)
          inside zero g l = absurd (omega arith)
          inside (suc i) g l = omega (arith, shortened_legal.inside i (omega (arith, shortened_legal.size)), parents_at (n - 1) ps' (suc i) g l)

    pub shortened_weights : length ws' ≡ length ws → HoldsWeights (n - 1) ws'
    shortened_weights same = record {
      long = omega (arith, held.1.long);
      in_range = subst (λ m. WeightsInRange m (weights_of (n - 1) ws')) size_m
          (subst (WeightsInRange (size (without N s))) (sym closed.weights) (shorter_weighed N s s1 sink_in size₂ (weights_of n ws) (subst (λ m. WeightsInRange m (weights_of n ws)) (sym size_n) held.1.in_range)));
    }
