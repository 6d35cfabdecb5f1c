-- At the place of each vertex stand its children among those from v on (Stand).
use Rattle.std.proofs.Common.{ℕ, ◌*◌, ◌≤◌, ◌<◌}
use Rattle.tree.specs.Inner.Descent.{children_from, Stand}
use Rattle.tree.proofs.descend.link_children.Given as goal

abbrev pub invariant-loop-v : goal.invariant-loop-v
invariant-loop-v l = record {
  low : 1 ≤ l.v;
  linked : (b : ℕ) → b < 2 * l.n → Stand l.first l.second b (children_from l.n l.parents l.v b);
}
