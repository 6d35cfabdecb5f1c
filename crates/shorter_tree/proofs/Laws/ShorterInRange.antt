-- The shorter net is in the ranges of the format, and so is the listing of the shorter tree. Assumes nothing.
use Prim.Native.Nat.{ℕ, zero, suc, ◌+◌, ◌-◌, ◌*◌, ◌≤◌, ◌<◌}
use mathlib.Core.Path.{◌≡◌, sym, ap, ◌∙◌, subst}
use mathlib.Core.List.{List, map}
use native.Mathlib.Omega.{arith}
use native.Mathlib.Decide.{dec_le}
use lib.ListN.{get_or}
use lib.IntN.{ℤ, pos, ◌-ℤ◌}
use lib.Signed.{◌≤ℤ◌}
use Rattle.quantities.specs.Inner.Linear.{whole, -is}
use Rattle.quantities.specs.Distance.{distance}
use Rattle.quantities.specs.Ranges.{Within, PointWithin}
use Rattle.tree.specs.Lists.{range}
use Rattle.tree.specs.Net.{Net, size, sink_at, required}
use Rattle.tree.specs.Tree.{Tree, LegalTree, place}
use Rattle.tree.specs.Measures.{path_delay, depth, slack, worst_slack}
use Rattle.tree.specs.Limits.{position_limit, required_limit, weight_limit, slack_limit, InRange, WeightsInRange}
use Rattle.tree.specs.Weights.{weight_of}
use Rattle.tree.proofs.Laws.Measures.FiguresInRange.{stands_within}
use Rattle.tree.proofs.Laws.Measures.VertexDelays.{place_sink}
use Rattle.tree.proofs.Laws.Planning.AnyTieRule.{worst_is_least}
use Rattle.tree.proofs.Laws.Planning.KeepsBest.{Least}
use Rattle.tree.proofs.Laws.Settling.SlackKept.{place_node}
use Rattle.tree.proofs.Laws.Trees.Defects.{in_range}
use Rattle.formats.specs.Limits.{pin_limit}
use Rattle.formats.specs.NetText.{pin_distance}
use Rattle.formats.specs.ListingText.{ListingInRange}
use Rattle.formats.proofs.Laws.Lines.Elements.{All, all_at, all_of}
use Rattle.operations.specs.Answers.{stated}
use Rattle.operations.proofs.Laws.PlanListing.{stated_in_range}
use Rattle.shorter_tree.specs.Deletion.{without, weights_without, branch_of, pruned}
use Rattle.shorter_tree.specs.Inner.Arrays.{skip, old}
use Rattle.shorter_tree.proofs.Laws.Dropping.{skip_le, gone_at, gone_map, gone_length}
use Rattle.shorter_tree.proofs.Laws.ShorterLegal.{branch_point, old_in}
use Rattle.shorter_tree.proofs.Laws.Kept.{place_old, size_less, shorter_legal, worst_kept}

-- ---- the net

module _ (N : Net) (s : ℕ) (s1 : 1 ≤ s) (sn : s ≤ size N) where
  less : suc (size (without N s)) ≡ size N
  less = size_less N s s1 sn

  sink_less : (i : ℕ) → sink_at (without N s) (suc i) ≡ sink_at N (suc (skip (s - 1) i))
  sink_less i = ap (λ r. get_or r i N.root) (gone_map (λ s. s.point) N.sinks (s - 1)) ∙ gone_at (map (λ s. s.point) N.sinks) (s - 1) i N.root

  required_less : (i : ℕ) → required (without N s) (suc i) ≡ required N (suc (skip (s - 1) i))
  required_less i = ap (λ r. get_or r i (pos 0)) (gone_map (λ s. s.required) N.sinks (s - 1)) ∙ gone_at (map (λ s. s.required) N.sinks) (s - 1) i (pos 0)

  -- what holds of each sink of N holds of each that remains
  each : (P : ℕ → Type 0) (Q : ℕ → Type 0) → ((i : ℕ) → Q (suc (skip (s - 1) i)) → P (suc i)) → ((t : ℕ) → 1 ≤ t → t ≤ size N → Q t) → (t : ℕ) → 1 ≤ t → t ≤ size (without N s) → P t
  each P Q same all zero h l = absurd (omega arith)
  each P Q same all (suc i) h l = same i (all (suc (skip (s - 1) i)) (omega arith) (omega (arith, skip_le (s - 1) i, less)))

  pub shorter_near : ((t : ℕ) → 1 ≤ t → t ≤ size N → pin_distance N t ≤ pin_limit) → (t : ℕ) → 1 ≤ t → t ≤ size (without N s) → pin_distance (without N s) t ≤ pin_limit
  shorter_near = each (λ t. pin_distance (without N s) t ≤ pin_limit) (λ t. pin_distance N t ≤ pin_limit) (λ i h. subst (λ p. distance N.root p ≤ pin_limit) (sym (sink_less i)) h)

  module _ (n2 : 2 ≤ size N) where
    pub shorter_in_range : InRange N → InRange (without N s)
    shorter_in_range R = record {
      root = R.root;
      branch = R.branch;
      wire = R.wire;
      need = R.need;
      sinks = omega (arith, less, R.sinks);
      points = each (λ t. PointWithin position_limit (sink_at (without N s) t)) (λ t. PointWithin position_limit (sink_at N t)) (λ i h. subst (PointWithin position_limit) (sym (sink_less i)) h) R.points;
      required = each (λ t. Within required_limit (required (without N s) t)) (λ t. Within required_limit (required N t)) (λ i h. subst (Within required_limit) (sym (required_less i)) h) R.required;
    }

    pub shorter_weighed : (w : List ℕ) → WeightsInRange (size N) w → WeightsInRange (size (without N s)) (weights_without w s)
    shorter_weighed w R = record {
      size = omega (arith, less, gone_length w (s - 1) (omega (arith, R.size)), R.size);
      each = each (λ t. InWeights (weights_without w s) t) (λ t. InWeights w t) (λ i h. subst (λ (k : ℕ). (1 ≤ k) × (k ≤ weight_limit)) (sym (gone_at w (s - 1) i 0)) h) R.each;
    }
      where
        InWeights : List ℕ → ℕ → Type 0
        InWeights v t = (1 ≤ weight_of v t) × (weight_of v t ≤ weight_limit)

-- ---- the tree

-- no slack is above the required arrival
slack_low : (a : ℤ) (A B : ℕ) → (a -ℤ pos A -ℤ pos B) ≤ℤ a
slack_low a A B = omega (arith, whole, -is (a -ℤ pos A) (pos B), -is a (pos A))

-- the vertices of a tree whose listing is in range
pub listed_within : (N : Net) (T : Tree) → InRange N → ListingInRange (size N) (stated N T) → (v : ℕ) → v < 2 * size N → PointWithin position_limit (place N T v)
listed_within N T R G zero h = R.root
listed_within N T R G (suc v) h = go (dec_le (suc v) (size N))
  where
    points : All (PointWithin position_limit) T.points
    points = all_of (PointWithin position_limit) T.points _ G.points

    go : Dec (suc v ≤ size N) → PointWithin position_limit (place N T (suc v))
    go (yes q) = subst (PointWithin position_limit) (sym (place_sink N T (suc v) (omega arith) q)) (stands_within N R (suc v) q)
    go (no q) =
        let i : ℕ = v - size N in
        let e : suc v ≡ suc (size N + i) = omega arith in
        subst (PointWithin position_limit) (sym (ap (place N T) e ∙ place_node N T i)) (all_at (PointWithin position_limit) T.points points i _ (omega (arith, G.points_all)))

module _ (N : Net) (T : Tree) (s : ℕ) (legal : LegalTree N T) (n2 : 2 ≤ size N) (s1 : 1 ≤ s) (sn : s ≤ size N) (R : InRange N) where
  module _ (within : (v : ℕ) → v < 2 * size N → PointWithin position_limit (place N T v)) where
    -- "no point moves", so none leaves its range
    shorter_within : (x : ℕ) → x < 2 * size (without N s) → PointWithin position_limit (place (without N s) (pruned N T s) x)
    shorter_within x h =
        let nb = (branch_point (size N) T.parents legal.shape n2 s s1 sn).0 in
        subst (PointWithin position_limit) (sym (place_old N T s (branch_of T s) s1 sn nb x))
        (within (old s (branch_of T s) x) (old_in (size N) T.parents legal.shape n2 s s1 sn (size (without N s)) (size_less N s s1 sn) x h))

    -- the worst slack does not fall, and is at most a required arrival
    shorter_slack : Within slack_limit (worst_slack N T) → Within slack_limit (worst_slack (without N s) (pruned N T s))
    shorter_slack h =
        let N' : Net = without N s in
        let T' : Tree = pruned N T s in
        let m1 : 1 ≤ size N' = omega (arith, size_less N s s1 sn) in
        let W : Least (range 1 (size N')) (slack N' T') (worst_slack N' T') = worst_is_least N' T' m1 in
        let x : worst_slack N' T' ≤ℤ slack N' T' 1 = W.below 1 (in_range 1 (size N') 1 (omega arith) (omega arith)) in
        let y : slack N' T' 1 ≤ℤ required N' 1 = slack_low (required N' 1) (path_delay N' T' 1) (N.branch * depth N' T' 1) in
        let z : Within required_limit (required N' 1) = (shorter_in_range N s s1 sn n2 R).required 1 (omega arith) m1 in
        let k : worst_slack N T ≤ℤ worst_slack N' T' = worst_kept N T s legal n2 s1 sn in
        omega (arith, whole)

    pub shorter_listed : Within slack_limit (worst_slack N T) → ListingInRange (size (without N s)) (stated (without N s) (pruned N T s))
    shorter_listed h = stated_in_range (without N s) (shorter_in_range N s s1 sn n2 R) (pruned N T s) (shorter_legal N T s legal n2 s1 sn) shorter_within (shorter_slack h)
