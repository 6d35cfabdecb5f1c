-- The values below the place x have moved to their new numbers, those from x on stand as they did (Closing).
use Rattle.shorter_tree.proofs.Laws.Closing.{Closing}
use Rattle.shorter_tree.proofs.close_up.close_up.Given as goal

abbrev pub invariant-loop-x : goal.invariant-loop-x
invariant-loop-x g l = Closing (goal.F-post g l.f) l.s l.b l.x l.fn.values l.values
