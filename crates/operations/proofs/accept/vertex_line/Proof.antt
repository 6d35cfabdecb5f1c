-- The line of a vertex in a listing is v + 3, or 0 for the root: by the test. No loop.
use Rattle.operations.proofs.Laws.Judging.{line_below}
use borrow.Author.Rules.{rules}
use Rattle.operations.proofs.accept.vertex_line.Statement.{statement}
use Rattle.operations.proofs.accept.vertex_line.Tie as tie

overflow_add-result : tie.Need-overflow_add-result
overflow_add-result c = search rules

returns-then-v-eq0 : tie.Need-returns-then-v-eq0
returns-then-v-eq0 c = search rules

returns-else-v-eq0 : tie.Need-returns-else-v-eq0
returns-else-v-eq0 c = line_below c.args.v c.if-v-eq0.false

pub vertex_line_spec : {M : Type 1} → statement M
vertex_line_spec = tie.close (tie.spec overflow_add-result returns-then-v-eq0 returns-else-v-eq0)
