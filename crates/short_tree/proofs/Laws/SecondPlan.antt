-- What request 6 promises of the second plan: from Theorem 2, the ranges of the short tree, and what holds of every plan that ignores need. Assumes nothing.
use Prim.Native.Nat.{ℕ, zero, suc, ◌≤◌, ◌-◌}
use mathlib.Core.Path.{◌≡◌, refl, sym, ap, ◌∙◌}
use mathlib.Core.List.{List}
use native.Mathlib.Omega.{arith}
use lib.ListN.{length}
use lib.IntN.{ℤ}
use Rattle.tree.specs.Net.{Net, size, sink_at}
use Rattle.tree.specs.SpanningTrees.{Link, SpanningTree, link_wire, terminals}
use Rattle.formats.specs.Outcome.{value}
use Rattle.formats.specs.NetText.{InFormat}
use Rattle.operations.specs.Answers.{Written, bytes_of, overwritten}
use Rattle.operations.specs.Demands.{with_need}
use Rattle.operations.specs.TreePlans.{ignoring_weights, tree_plan_output}
use Rattle.operations.proofs.Laws.TreePlans.{Makes, tree_plan, made_over}
use Rattle.short_tree.specs.ShortTree.{step, after, short}
use Rattle.short_tree.specs.SecondPlan.{short_of, short_output, SecondPlan}
use Rattle.short_tree.proofs.Laws.Theorem2.{theorem2}
use Rattle.short_tree.proofs.Laws.Ranges.{short_within, short_slack_range, short_wire_range}

-- the procedure does not look at need
after_needless : (t : ℤ) (N : Net) (k : ℕ) → after (with_need t N) k ≡ after N k
after_needless t N zero = refl
after_needless t N (suc k) = ap (step N k) (after_needless t N k)

short_needless : (t : ℤ) (N : Net) → short (with_need t N) ≡ short N
unfolding short
short_needless t N = ap (λ g. g.tree) (after_needless t N (size N - 1))

pub short_makes : Makes (ignoring_weights short)
short_makes = record {
  legal = λ N w R. (theorem2 N R.sinks.0).legal;
  within = λ N w R v l. short_within N R v;
  slack_in_lem = λ N w R. short_slack_range N R;
  needless = λ t N w. short_needless t N;
}

-- what a net's text is answered is the same whatever its weights
answer_same : (net other : List ℕ) (N : Net) → InFormat net N → InFormat other N → (room : ℕ) → short_of other room ≡ short_of net room
answer_same net other N F G room = made_over (ignoring_weights short) other N G room ∙ sym (made_over (ignoring_weights short) net N F room)

output_same : (net other : List ℕ) (N : Net) → InFormat net N → InFormat other N → (out : List ℕ) → short_output other out ≡ short_output net out
unfolding tree_plan_output
output_same net other N F G out = ap (λ o. overwritten (bytes_of o) out) (answer_same net other N F G (length out))

pub second_plan : SecondPlan
second_plan = record {
  plan = tree_plan (ignoring_weights short) short_makes;
  weightless = answer_same;
  same_output = output_same;
  tree = theorem2;
  ranges = λ N R. (short_slack_range N R, short_wire_range N R);
  shortest = shortest;
}
  where
    shortest : (net : List ℕ) (N : Net) → InFormat net N → (room : ℕ) (w : Written) → short_of net room ≡ value w → (L : List Link) → SpanningTree (terminals (size N)) L → w.wire ≤ link_wire (sink_at N) L
    shortest net N F room w z L t = omega (arith, ap (λ w. w.wire) (((tree_plan (ignoring_weights short) short_makes).nets net N F).returned room w z), (theorem2 N F.in_range.sinks.0).shortest L t)
