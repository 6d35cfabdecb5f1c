-- The short tree in the arrays of a net: it is held, it has no defects, and so it can be gone down and measured. Assumes nothing.
use Prim.Native.Nat.{ℕ, zero, suc, ◌*◌, ◌≤◌, ◌<◌}
use mathlib.Core.Path.{◌≡◌, sym, ap, ◌∙◌, subst}
use mathlib.Core.List.{List}
use native.Mathlib.Omega.{arith}
use lib.ListN.{length, get_or}
use lib.IntN.{ℤ}
use Rattle.std.specs.Prelude.{None}
use Rattle.quantities.specs.Ranges.{PointWithin}
use Rattle.tree.specs.declared.header.Header.{Header}
use Rattle.tree.specs.Tree.{Legal, place}
use Rattle.tree.specs.Defects.{wrong_children, unreached}
use Rattle.tree.specs.Limits.{position_limit}
use Rattle.tree.specs.Inner.Arrays.{point_at, net_of, parents_of, tree_of, HoldsNet, HoldsTree}
use Rattle.tree.proofs.Laws.Arrays.NetAndTree.{size_is, sink_at_lem, parents_at, place_at}
use Rattle.tree.proofs.Laws.Arrays.PlanArrays.{some_few}
use Rattle.tree.proofs.Laws.Measures.FiguresInRange.{stands_within}
use Rattle.tree.proofs.Laws.Trees.NamedDefects.{legal_only}
use Rattle.formats.proofs.Laws.Held.{kept_net}
use Rattle.operations.proofs.Laws.Accepting.{legal_no_sink}
use Rattle.short_tree.specs.ShortTree.{short}
use Rattle.short_tree.specs.Inner.Arrays.{HoldsPins}
use Rattle.short_tree.proofs.Laws.Theorem2.{theorem2}
use Rattle.short_tree.proofs.Laws.Ranges.{short_within}

module _ (h : Header) (n : ℕ) (xs ys rs : List ℤ) (held : HoldsNet h n xs ys rs) where
  pub holds_pins : HoldsPins (net_of h n xs ys rs) n xs ys
  holds_pins = record {
    pins = record {
      size_is = size_is h n xs ys rs;
      some = (some_few h n xs ys rs held).0;
      few = (some_few h n xs ys rs held).1;
      near = λ v l. stands_within (net_of h n xs ys rs) held.in_range v (omega (arith, size_is h n xs ys rs));
    };
    stand = λ v l. sym (sink_at_lem h n xs ys rs v l);
  }

  module _ (xs' ys' : List ℤ) (ps : List ℕ) (xl : 2 * n ≤ length xs') (yl : 2 * n ≤ length ys') (pl : 2 * n ≤ length ps)
      (tree : tree_of n ps xs' ys' ≡ short (net_of h n xs ys rs)) (kept : (v : ℕ) → v ≤ n → point_at xs' ys' v ≡ point_at xs ys v) where
    legal : Legal n (parents_of n ps)
    legal =
        subst (λ P. Legal n P) (sym (ap (λ T. T.parents) tree))
        (subst (λ m. Legal m (short (net_of h n xs ys rs)).parents) (size_is h n xs ys rs) (theorem2 (net_of h n xs ys rs) held.in_range.sinks.0).legal.shape)

    pub no_defects : (wrong_children n (parents_of n ps) ≡ None) × (unreached n (parents_of n ps) ≡ None)
    no_defects = legal_only n (parents_of n ps) (record { some_sink = (some_few h n xs ys rs held).0; size = legal.size; inside = legal.inside; no_sink_lem = legal_no_sink n (parents_of n ps) legal }) legal

    pub short_holds : HoldsTree n ps xs' ys'
    short_holds = record {
      parents_in_lem = record { some = (some_few h n xs ys rs held).0; few = (some_few h n xs ys rs held).1; long = pl; inside = inside };
      points_in_lem = record { xs_long = xl; ys_long = yl; near = near };
    }
      where
        inside : (v : ℕ) → 1 ≤ v → v < 2 * n → get_or ps v 0 < 2 * n
        inside zero g l = absurd (omega arith)
        inside (suc i) g l = omega (arith, legal.inside i (omega (arith, legal.size)), parents_at n ps (suc i) g l)

        near : (v : ℕ) → v < 2 * n → PointWithin position_limit (point_at xs' ys' v)
        near v l =
            subst (PointWithin position_limit) (sym (λ i. place (kept_net h n xs ys rs xs' ys' kept i) (tree i) v) ∙ place_at h n xs' ys' rs ps v l)
            (short_within (net_of h n xs ys rs) held.in_range v)
