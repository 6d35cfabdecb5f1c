-- What hung on the branch point that is gone hangs on its parent. No loop.
use mathlib.Core.Path.{sym, ap, ◌∙◌}
use Rattle.shorter_tree.specs.Deletion.{above}
use Rattle.shorter_tree.proofs.Laws.ShorterPaths.{above_gone, above_other}
use Rattle.shorter_tree.proofs.numbers.above_gone.Statement.{statement}
use Rattle.shorter_tree.proofs.numbers.above_gone.Tie as tie

returns-then-u-b : tie.Need-returns-then-u-b
returns-then-u-b c = let a = c.args in sym (ap (above a.b a.a) c.if-u-b.true ∙ above_gone a.b a.a)

returns-else-u-b : tie.Need-returns-else-u-b
returns-else-u-b c = let a = c.args in sym (above_other a.b a.a a.u c.if-u-b.false)

pub above_gone_spec : {M : Type 1} → statement M
above_gone_spec = tie.close (tie.spec returns-then-u-b returns-else-u-b)
