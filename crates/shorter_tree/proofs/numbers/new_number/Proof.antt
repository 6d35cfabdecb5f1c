-- The new number of a vertex, by where it stands to the two that are gone. No loop.
use native.Mathlib.Omega.{arith}
use borrow.Author.Rules.{rules}
use Rattle.tree.proofs.Laws.Measures.VertexDelays.{one_if_yes, one_if_no}
use Rattle.shorter_tree.proofs.numbers.new_number.Statement.{statement}
use Rattle.shorter_tree.proofs.numbers.new_number.Tie as tie

returns-then-v-s : tie.Need-returns-then-v-s
returns-then-v-s c = let a = c.args in omega (arith, one_if_no a.s a.v (omega arith), one_if_no a.b a.v (omega arith))

overflow_sub-result : tie.Need-overflow_sub-result
overflow_sub-result c = search rules

returns-then-v-b : tie.Need-returns-then-v-b
returns-then-v-b c = let a = c.args in omega (arith, one_if_yes a.s a.v (omega arith), one_if_no a.b a.v (omega arith))

overflow_sub-result-2 : tie.Need-overflow_sub-result-2
overflow_sub-result-2 c = search rules

returns : tie.Need-returns
returns c = let a = c.args in omega (arith, one_if_yes a.s a.v (omega arith), one_if_yes a.b a.v (omega arith))

pub new_number_spec : {M : Type 1} → statement M
new_number_spec = tie.close (tie.spec returns-then-v-s overflow_sub-result returns-then-v-b overflow_sub-result-2 returns)
