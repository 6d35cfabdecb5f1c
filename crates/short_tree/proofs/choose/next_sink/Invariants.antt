-- Sink by sink: of those before s that wait, the best is the first by what is kept, and it adds there just that.
use Rattle.short_tree.specs.Inner.Arrays.{AllKept, SameZeros, Looked}
use Rattle.short_tree.proofs.choose.next_sink.Given as goal

abbrev pub invariant-loop-s : goal.invariant-loop-s
invariant-loop-s l = record {
  known : AllKept l.n l.tree.last l.tree.parents.now l.tree.xs.now l.tree.ys.now l.kept l.costs;
  looked : Looked l.tree.parents.now l.tree.xs.now l.tree.ys.now l.kept l.costs l.s l.best;
  zeros : SameZeros l.initial.kept l.kept;
}
