-- What the function of this name answers. No loop.
use Rattle.operations.specs.Answers.{plan_output}
use Rattle.first_plan.proofs.plan.FirstPlanPlanner.plan.Goals as goal

pub returns-clause-output : goal.returns-clause-output
unfolding plan_output
returns-clause-output c = c.plan.ensures.output
