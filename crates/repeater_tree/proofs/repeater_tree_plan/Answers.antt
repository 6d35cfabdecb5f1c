-- The output that the plan leaves, by its definition. No loop.
use Rattle.operations.specs.Answers.{plan_output}
use Rattle.repeater_tree.proofs.repeater_tree_plan.Goals as goal

pub returns-clause-output : goal.returns-clause-output
unfolding plan_output
returns-clause-output c = c.plan_figures.ensures.output
