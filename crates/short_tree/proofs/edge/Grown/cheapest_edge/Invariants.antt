-- Vertex by vertex: of the edges seen, the best is the cheapest.
use Rattle.short_tree.specs.Inner.Arrays.{Seen, Cheapest}
use Rattle.short_tree.proofs.edge.Grown.cheapest_edge.Given as goal

abbrev pub invariant-loop-v : goal.invariant-loop-v
invariant-loop-v l = Cheapest (Seen l.kept l.from l.v) l.self.parents.now l.self.xs.now l.self.ys.now l.s l.best.lower l.best.added.0
