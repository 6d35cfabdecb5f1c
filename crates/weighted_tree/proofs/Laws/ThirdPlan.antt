-- What request 7 promises of the third plan: from the least sum of weight × delay, the ranges of its tree, and what holds of every plan that ignores need. Assumes nothing.
use Prim.Native.Nat.{ℕ, zero, suc, ◌*◌}
use mathlib.Core.Path.{◌≡◌, refl, subst}
use mathlib.Core.Bool.{true, false}
use mathlib.Core.List.{List, map}
use lib.ListN.{get_or}
use lib.Dec.{leb}
use lib.IntN.{ℤ}
use lib.Signed.{◌≤ℤ◌}
use Rattle.quantities.specs.Median.{median_point}
use Rattle.tree.specs.Net.{Net, size, branch_numbers, sink_at}
use Rattle.tree.specs.Tree.{LegalTree}
use Rattle.tree.specs.Settling.{children, settled}
use Rattle.formats.specs.NetText.{InFormat}
use Rattle.formats.specs.ListingText.{Listing, ListingInFormat}
use Rattle.formats.proofs.Laws.Listings.ListingTexts.{listing_one_lem}
use Rattle.operations.specs.Demands.{with_need, Accepts}
use Rattle.operations.proofs.Laws.Demands.{demands}
use Rattle.operations.proofs.Laws.TreePlans.{Makes, tree_plan}
use Rattle.weighted_tree.specs.Joining.{joined_parents, weighted_tree}
use Rattle.weighted_tree.specs.WeightedDelay.{weighted_delay}
use Rattle.weighted_tree.specs.ThirdPlan.{ThirdPlan}
use Rattle.weighted_tree.proofs.Laws.LeastWeighted.{least_weighted}
use Rattle.weighted_tree.proofs.Laws.Ranges.{weighted_within, weighted_slack_range, weighted_wire_range, boxed}

-- settling does not look at need
settled_needless : (t : ℤ) (N : Net) (P : List ℕ) (k v : ℕ) → settled (with_need t N) P k v ≡ settled N P k v
settled_needless t N P zero v = refl
settled_needless t N P (suc k) v =
    λ i. elim (leb v (size N)) [
      | true ↦ sink_at N v
      | false ↦ median_point N.root (settled_needless t N P k (get_or (children P v) 0 0) i) (settled_needless t N P k (get_or (children P v) 1 0) i)
    ]

needless : (t : ℤ) (N : Net) (w : List ℕ) → weighted_tree (with_need t N) w ≡ weighted_tree N w
unfolding weighted_tree
needless t N w = λ i. record { parents = joined_parents (size N) w; points = map (λ v. settled_needless t N (joined_parents (size N) w) (2 * size N) v i) (branch_numbers (size N)) }

pub weighted_makes : Makes weighted_tree
weighted_makes = record {
  legal = λ N w R. (least_weighted N w R.sinks.0).legal;
  within = weighted_within;
  slack_in_lem = weighted_slack_range;
  needless = needless;
}

pub third_plan : ThirdPlan
third_plan = record {
  plan = tree_plan weighted_tree weighted_makes;
  tree = least_weighted;
  least = least;
  ranges = λ N w R. (weighted_slack_range N w R, weighted_wire_range N w R);
  boxed = boxed;
}
  where
    least : (net : List ℕ) (N : Net) (f : InFormat net N) (listing : List ℕ) (G : Listing) → ListingInFormat (size N) listing G → Accepts net listing
        → weighted_delay N f.weights (weighted_tree N f.weights) ≤ℤ weighted_delay N f.weights G.tree
    least net N f listing G F a =
        let H = ((demands.second net N f).accepted listing).0 a in
        let same : H.0 ≡ G = listing_one_lem (size N) listing H.0 G H.1.0 F in
        (least_weighted N f.weights f.in_range.sinks.0).least G.tree (subst (λ G. LegalTree N G.tree) same H.1.1.0)
