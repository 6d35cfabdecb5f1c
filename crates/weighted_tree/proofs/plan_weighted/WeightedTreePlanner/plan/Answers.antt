-- What the function of this name answers. No loop.
use Rattle.operations.specs.TreePlans.{tree_plan_of, tree_plan_output}
use Rattle.weighted_tree.proofs.plan_weighted.WeightedTreePlanner.plan.Goals as goal

pub returns-clause-output : goal.returns-clause-output
unfolding tree_plan_of tree_plan_output
returns-clause-output c = c.plan_weighted.ensures.output
