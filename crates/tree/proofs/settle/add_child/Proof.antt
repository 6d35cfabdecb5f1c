-- v becomes the first child of p where p has none yet, else the second: by the test. No loop.
use mathlib.Core.Path.{refl}
use borrow.Author.Rules.{rules}
use Rattle.tree.proofs.settle.add_child.Statement.{statement}
use Rattle.tree.proofs.settle.add_child.Tie as tie

overflow_mul-p : tie.Need-overflow_mul-p
overflow_mul-p c = search rules

offset_bounds-kids-p : tie.Need-offset_bounds-kids-p
offset_bounds-kids-p c = search rules

bounds-kids-p : tie.Need-bounds-kids-p
bounds-kids-p c = search rules

overflow_mul-kids : tie.Need-overflow_mul-kids
overflow_mul-kids c = search rules

offset_bounds-kids-p-then-kids-p-eq0 : tie.Need-offset_bounds-kids-p-then-kids-p-eq0
offset_bounds-kids-p-then-kids-p-eq0 c = search rules

bounds-kids-p-then-kids-p-eq0 : tie.Need-bounds-kids-p-then-kids-p-eq0
bounds-kids-p-then-kids-p-eq0 c = search rules

overflow_mul-kids-else-kids-p-eq0 : tie.Need-overflow_mul-kids-else-kids-p-eq0
overflow_mul-kids-else-kids-p-eq0 c = search rules

overflow_add-kids : tie.Need-overflow_add-kids
overflow_add-kids c = search rules

offset_bounds-kids-p-else-kids-p-eq0 : tie.Need-offset_bounds-kids-p-else-kids-p-eq0
offset_bounds-kids-p-else-kids-p-eq0 c = search rules

bounds-kids-p-else-kids-p-eq0 : tie.Need-bounds-kids-p-else-kids-p-eq0
bounds-kids-p-else-kids-p-eq0 c = search rules

shape_of-kids-then-kids-p-eq0 : tie.Need-shape_of-kids-then-kids-p-eq0
shape_of-kids-then-kids-p-eq0 c = search rules

returns-then-kids-p-eq0 : tie.Need-returns-then-kids-p-eq0
returns-then-kids-p-eq0 c = (λ e. refl, λ d. absurd (d c.if-kids-p-eq0.true))

shape_of-kids-else-kids-p-eq0 : tie.Need-shape_of-kids-else-kids-p-eq0
shape_of-kids-else-kids-p-eq0 c = search rules

returns-else-kids-p-eq0 : tie.Need-returns-else-kids-p-eq0
returns-else-kids-p-eq0 c = (λ e. absurd (c.if-kids-p-eq0.false e), λ d. refl)

pub add_child_spec : {M : Type 1} → statement M
add_child_spec =
    tie.close
    (tie.spec
    overflow_mul-p
    offset_bounds-kids-p
    bounds-kids-p
    overflow_mul-kids
    offset_bounds-kids-p-then-kids-p-eq0
    bounds-kids-p-then-kids-p-eq0
    overflow_mul-kids-else-kids-p-eq0
    overflow_add-kids
    offset_bounds-kids-p-else-kids-p-eq0
    bounds-kids-p-else-kids-p-eq0
    shape_of-kids-then-kids-p-eq0
    returns-then-kids-p-eq0
    shape_of-kids-else-kids-p-eq0
    returns-else-kids-p-eq0)
