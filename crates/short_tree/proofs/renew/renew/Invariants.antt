-- Sink by sink: for those before t what is kept is below all edges, the others are as they were.
use Rattle.short_tree.proofs.Laws.Renewing.{Turn}
use Rattle.short_tree.proofs.renew.renew.Given as goal

abbrev pub invariant-loop-t : goal.invariant-loop-t
invariant-loop-t l = Turn l.n l.tree.last l.tree.parents.now l.tree.xs.now l.tree.ys.now l.initial.kept l.initial.costs l.t l.kept l.costs
