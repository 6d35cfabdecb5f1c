-- The third plan, of texts: what it answers for all bytes, and what 02's request 7 promises of it, in one statement.
use Rattle.std.specs.Prelude.{ℕ, ◌*◌, ◌≤◌, ◌<◌, List, ◌≤ℤ◌}
use Rattle.quantities.specs.declared.point.Point.{Point}
use Rattle.quantities.specs.Box.{InBox}
use Rattle.quantities.specs.Ranges.{Within}
use Rattle.tree.specs.Net.{Net, size, sink_at}
use Rattle.tree.specs.Tree.{place}
use Rattle.tree.specs.Measures.{worst_slack, wire_length}
use Rattle.tree.specs.Limits.{slack_limit, wire_limit, InRange}
use Rattle.formats.specs.Outcome.{Outcome}
use Rattle.formats.specs.NetText.{InFormat}
use Rattle.formats.specs.ListingText.{Listing, ListingInFormat}
use Rattle.operations.specs.Answers.{Written}
use Rattle.operations.specs.Demands.{Accepts}
use Rattle.operations.specs.TreePlans.{tree_plan_of, tree_plan_output, TreePlan}
use Rattle.weighted_tree.specs.Joining.{weighted_tree}
use Rattle.weighted_tree.specs.WeightedDelay.{weighted_delay, LeastWeighted}

-- plan_weighted, of the net's bytes and the length of the output; and the output after the call
abbrev pub weighted_of : List ℕ → ℕ → Outcome Written
weighted_of = tree_plan_of weighted_tree

abbrev pub weighted_output : List ℕ → List ℕ → List ℕ
weighted_output = tree_plan_output weighted_tree

pub record ThirdPlan : Type 0 where
  -- "it ignores need", so never gives 5; its listing passes judge with the same slack and wire; each refusal exactly for its fault; every byte of the output
  pub plan : TreePlan weighted_tree
  -- its tree is legal, and "The sum of weight × delay .. is at most that of every legal tree over the net at any integer points": for every net with a sink, in the format or not, and whatever weights
  pub tree : (N : Net) (w : List ℕ) → 1 ≤ size N → LeastWeighted N w
  -- the same against every listing that judge accepts, by the weights on the net's lines
  pub least : (net : List ℕ) (N : Net) (f : InFormat net N) (listing : List ℕ) (G : Listing) → ListingInFormat (size N) listing G → Accepts net listing
      → weighted_delay N f.weights (weighted_tree N f.weights) ≤ℤ weighted_delay N f.weights G.tree
  -- its slack and wire are in the ranges of W and L
  pub ranges : (N : Net) (w : List ℕ) → InRange N → Within slack_limit (worst_slack N (weighted_tree N w)) × (wire_length N (weighted_tree N w) ≤ wire_limit)
  -- every vertex lies in each box that the root and the sinks lie in
  pub boxed : (N : Net) (w : List ℕ) → 1 ≤ size N → (low high : Point) → ((t : ℕ) → t ≤ size N → InBox low high (sink_at N t)) → (v : ℕ) → v < 2 * size N → InBox low high (place N (weighted_tree N w) v)
