-- The best of the sinks from place i on (RoomiestFrom).
use Rattle.tree.specs.SmallestSlack.{score_of}
use Rattle.first_tree.specs.Inner.Choice.{RoomiestFrom}
use Rattle.first_tree.proofs.choose.roomiest.Given as goal

abbrev pub invariant-loop-i : goal.invariant-loop-i
invariant-loop-i l = RoomiestFrom (score_of l.scoring.branch.0 l.scoring.slacks.now) l.sinks l.i l.m l.best
