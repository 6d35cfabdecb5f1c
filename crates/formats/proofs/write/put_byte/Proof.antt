-- One byte is put at its place, and what is put ends right after it: by the one store. No loop.
use borrow.Author.Rules.{rules}
use mathlib.Core.Path.{refl}
use Rattle.formats.proofs.Laws.Writing.{over_one}
use Rattle.formats.proofs.write.put_byte.Statement.{statement}
use Rattle.formats.proofs.write.put_byte.Tie as tie

bounds-out-at : tie.Need-bounds-out-at
bounds-out-at c = search rules

overflow_add-result : tie.Need-overflow_add-result
overflow_add-result c = search rules

shape_of-out : tie.Need-shape_of-out
shape_of-out c = search rules

returns : tie.Need-returns
returns c = (refl, over_one _ _ _ c.requires)

pub put_byte_spec : {M : Type 1} → statement M
put_byte_spec = tie.close (tie.spec bounds-out-at overflow_add-result shape_of-out returns)
