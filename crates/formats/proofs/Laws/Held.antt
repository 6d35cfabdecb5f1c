-- The arrays hold what was read into them: a net in range, and a tree over it. Assumes nothing.
use Prim.Native.Nat.{ℕ, zero, suc, ◌+◌, ◌*◌, ◌-◌, ◌≤◌, ◌<◌}
use mathlib.Core.Path.{◌≡◌, sym, ap, ◌∙◌, subst}
use mathlib.Core.List.{List}
use native.Mathlib.Omega.{arith}
use native.Mathlib.Decide.{dec_le}
use lib.ListN.{length, get_or}
use lib.IntN.{ℤ, pos}
use Rattle.quantities.specs.Ranges.{PointWithin}
use Rattle.tree.specs.declared.header.Header.{Header}
use Rattle.tree.specs.Net.{Sink}
use Rattle.tree.specs.Limits.{position_limit, sink_limit, InRange, WeightsInRange}
use Rattle.tree.specs.Inner.Arrays.{point_at, net_of, weights_of, tree_of, HoldsNet, HoldsWeights, HoldsTree}
use Rattle.tree.proofs.Laws.Lists.Tables.{table_at, table_cong}
use Rattle.tree.proofs.Laws.Arrays.NetAndTree.{size_is, sink_at_lem, parents_at, parents_length}
use Rattle.tree.proofs.Laws.Arrays.PlanArrays.{some_few}
use Rattle.formats.specs.Outcome.{value}
use Rattle.formats.specs.Reading.Nets.{read_weighted, read_net}
use Rattle.formats.specs.ListingText.{ListingInRange}
use Rattle.formats.specs.Reading.Listings.{read_listing}
use Rattle.formats.proofs.Laws.Nets.NetTexts.{net_sound, weighted_sound}
use Rattle.formats.proofs.Laws.Listings.ListingTexts.{listing_sound}

module _ (h : Header) (n : ℕ) (xs ys rs : List ℤ) where
  pub read_net_holds : (text : List ℕ) → read_net text ≡ value (net_of h n xs ys rs) → n < length xs → n < length ys → n < length rs → HoldsNet h n xs ys rs
  read_net_holds text e p q r = record { points = record { xs_long = p; ys_long = q; near = near }; required_long = r; in_range = in_range }
    where
      in_range : InRange (net_of h n xs ys rs)
      in_range = (net_sound text (net_of h n xs ys rs) e).in_range

      near : (v : ℕ) → v < suc n → PointWithin position_limit (point_at xs ys v)
      near zero l = in_range.root
      near (suc i) l = subst (PointWithin position_limit) (sink_at_lem h n xs ys rs (suc i) (omega arith)) (in_range.points (suc i) (omega arith) (omega (arith, size_is h n xs ys rs)))

  pub read_weights_hold : (text : List ℕ) (ws : List ℤ) → read_weighted text ≡ value (record { net = net_of h n xs ys rs; weights = weights_of n ws }) → n < length ws → HoldsWeights n ws
  read_weights_hold text ws e p =
      let f = weighted_sound text (record { net = net_of h n xs ys rs; weights = weights_of n ws }) e in
      record { long = p; in_range = subst (λ w. WeightsInRange n w) f.1 (subst (λ (k : ℕ). WeightsInRange k f.0.weights) (size_is h n xs ys rs) f.0.weighed) }

  -- ---- the root and the sinks stand as before

  module _ (xs' ys' : List ℤ) (kept : (v : ℕ) → v ≤ n → point_at xs' ys' v ≡ point_at xs ys v) where
    pub kept_net : net_of h n xs' ys' rs ≡ net_of h n xs ys rs
    kept_net = λ i. record {
      root = kept 0 (omega arith) i;
      branch = (net_of h n xs ys rs).branch;
      wire = (net_of h n xs ys rs).wire;
      need = (net_of h n xs ys rs).need;
      sinks = table_cong (sink_of xs' ys') (sink_of xs ys) 1 n (λ s p q. ap (λ z. record { point = z; required = get_or rs s (pos 0) }) (kept s (omega arith))) i;
    }
      where
        sink_of : List ℤ → List ℤ → ℕ → Sink
        sink_of xs ys s = record { point = point_at xs ys s; required = get_or rs s (pos 0) }

    module _ (held : HoldsNet h n xs ys rs) (xs_long : 2 * n ≤ length xs') (ys_long : 2 * n ≤ length ys') where
      pub kept_holds : HoldsNet h n xs' ys' rs
      kept_holds = record {
        points = record { xs_long = omega (arith, few); ys_long = omega (arith, few); near = λ v l. subst (PointWithin position_limit) (sym (kept v (omega arith))) (held.points.near v l) };
        required_long = held.required_long;
        in_range = subst InRange (sym kept_net) held.in_range;
      }
        where
          few : (1 ≤ n) × (n ≤ sink_limit)
          few = some_few h n xs ys rs held

      -- a listing was read
      pub read_listing_holds : (ps : List ℕ) → 2 * n ≤ length ps → (slack : ℤ) (wire : ℕ) (text : List ℕ)
          → read_listing n text ≡ value (record { slack = slack; wire = wire; tree = tree_of n ps xs' ys' }) → HoldsTree n ps xs' ys'
      read_listing_holds ps long slack wire text e = record {
        parents_in_lem = record { some = in_range.sinks.0; few = in_range.sinks.1; long = long; inside = inside };
        points_in_lem = record { xs_long = xs_long; ys_long = ys_long; near = λ v l. near v l (dec_le v n) };
      }
        where
          in_range : ListingInRange n (record { slack = slack; wire = wire; tree = tree_of n ps xs' ys' })
          in_range = (listing_sound n text (record { slack = slack; wire = wire; tree = tree_of n ps xs' ys' }) e).0.in_range

          inside : (v : ℕ) → 1 ≤ v → v < 2 * n → get_or ps v 0 < 2 * n
          inside zero g l = absurd (omega arith)
          inside (suc i) g l = omega (arith, in_range.parents i (omega (arith, parents_length n ps)), parents_at n ps (suc i) g l)

          near : (v : ℕ) → v < 2 * n → Dec (v ≤ n) → PointWithin position_limit (point_at xs' ys' v)
          near v l (yes q) = kept_holds.points.near v (omega arith)
          near v l (no q) =
              let j : v - suc n < n - 1 = omega arith in
              let s : suc n + (v - suc n) ≡ v = omega arith in
              subst (PointWithin position_limit)
              (table_at (point_at xs' ys') (record { x = pos 0; y = pos 0 }) (suc n) (n - 1) (v - suc n) j ∙ ap (point_at xs' ys') s)
              (in_range.points (v - suc n) (omega (arith, in_range.points_all)))
