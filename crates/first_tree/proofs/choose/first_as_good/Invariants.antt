-- None of the branch points below b scores as much (NoneAsGood).
use Rattle.first_tree.specs.Inner.Choice.{NoneAsGood}
use Rattle.first_tree.proofs.choose.first_as_good.Given as goal

abbrev pub invariant-loop-b : goal.invariant-loop-b
invariant-loop-b l = NoneAsGood l.scoring.branch.0 l.scoring.slacks.now l.best.score.0 l.n l.b
