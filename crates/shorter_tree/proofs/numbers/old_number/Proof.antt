-- The vertex that comes to a number, by where that stands to the two that are gone. No loop.
use native.Mathlib.Omega.{arith}
use borrow.Author.Rules.{rules}
use Rattle.shorter_tree.proofs.Laws.Numbers.{old_low, old_mid, old_high}
use Rattle.shorter_tree.proofs.numbers.old_number.Statement.{statement}
use Rattle.shorter_tree.proofs.numbers.old_number.Tie as tie

returns-then-x-s : tie.Need-returns-then-x-s
returns-then-x-s c = let a = c.args in omega (arith, old_low a.s a.b (omega arith) a.x (omega arith))

overflow_add-x : tie.Need-overflow_add-x
overflow_add-x c = search rules

overflow_add-result : tie.Need-overflow_add-result
overflow_add-result c = search rules

returns-then-x-b : tie.Need-returns-then-x-b
returns-then-x-b c = let a = c.args in omega (arith, old_mid a.s a.b (omega arith) a.x (omega arith) (omega arith))

overflow_add-result-2 : tie.Need-overflow_add-result-2
overflow_add-result-2 c = search rules

returns : tie.Need-returns
returns c = let a = c.args in omega (arith, old_high a.s a.b (omega arith) a.x (omega arith))

pub old_number_spec : {M : Type 1} → statement M
old_number_spec = tie.close (tie.spec returns-then-x-s overflow_add-x overflow_add-result returns-then-x-b overflow_add-result-2 returns)
