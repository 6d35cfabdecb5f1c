-- The output that the plan leaves, by its definition. No loop.
use Rattle.operations.specs.TreePlans.{tree_plan_of, tree_plan_output}
use Rattle.repeater_tree.proofs.repeater_tree_plan_weighted.Goals as goal

pub returns-clause-output : goal.returns-clause-output
unfolding tree_plan_of tree_plan_output
returns-clause-output c = c.plan_figures.ensures.output
