-- For every net that the arrays hold they are those after k insertions.
use Rattle.tree.specs.Net.{Net}
use Rattle.short_tree.specs.Inner.Arrays.{HoldsPins, Held}
use Rattle.short_tree.proofs.grow.short.Given as goal

abbrev pub invariant-loop-k : goal.invariant-loop-k
invariant-loop-k l = (N : Net) → HoldsPins N l.n l.fn.xs l.fn.ys → Held N l.n l.k l.xs l.ys l.parents l.kept l.costs
