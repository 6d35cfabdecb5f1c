-- The second plan, of texts: what it answers for all bytes, and what 02's request 6 promises of it, in one statement.
use Rattle.std.specs.Prelude.{ℕ, ◌≤◌, ◌≡◌, List}
use Rattle.quantities.specs.Ranges.{Within}
use Rattle.tree.specs.Net.{Net, size, sink_at}
use Rattle.tree.specs.Measures.{worst_slack, wire_length}
use Rattle.tree.specs.Limits.{slack_limit, wire_limit, InRange}
use Rattle.tree.specs.SpanningTrees.{Link, SpanningTree, link_wire, terminals}
use Rattle.formats.specs.Outcome.{Outcome, value}
use Rattle.formats.specs.NetText.{InFormat}
use Rattle.operations.specs.Answers.{Written}
use Rattle.operations.specs.TreePlans.{ignoring_weights, tree_plan_of, tree_plan_output, TreePlan}
use Rattle.short_tree.specs.ShortTree.{short}
use Rattle.short_tree.specs.Theorem2.{Theorem2}

-- plan_short, of the net's bytes and the length of the output; and the output after the call
abbrev pub short_of : List ℕ → ℕ → Outcome Written
short_of = tree_plan_of (ignoring_weights short)

abbrev pub short_output : List ℕ → List ℕ → List ℕ
short_output = tree_plan_output (ignoring_weights short)

pub record SecondPlan : Type 0 where
  -- "It ignores need, so never gives 5"; "Its listing passes judge"; each refusal exactly for its fault; every byte of the output
  pub plan : TreePlan (ignoring_weights short)
  -- 02, request 7: "The first two plans ignore weights": texts of one net, whatever the weights on them, have the same answers and outputs
  pub weightless : (net other : List ℕ) (N : Net) → InFormat net N → InFormat other N → (room : ℕ) → short_of other room ≡ short_of net room
  pub same_output : (net other : List ℕ) (N : Net) → InFormat net N → InFormat other N → (out : List ℕ) → short_output other out ≡ short_output net out
  -- the choice, the tree and "(Theorem 2)", for every net, in the format or not
  pub tree : (N : Net) → 1 ≤ size N → Theorem2 N
  -- its slack and wire are in the ranges of W and L
  pub ranges : (N : Net) → InRange N → Within slack_limit (worst_slack N (short N)) × (wire_length N (short N) ≤ wire_limit)
  -- "and its wire is at most that of every spanning tree on the root and the sinks": the wire that is returned
  pub shortest : (net : List ℕ) (N : Net) → InFormat net N → (room : ℕ) (w : Written) → short_of net room ≡ value w → (L : List Link) → SpanningTree (terminals (size N)) L → w.wire ≤ link_wire (sink_at N) L
