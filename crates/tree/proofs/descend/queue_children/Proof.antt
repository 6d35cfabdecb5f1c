-- The children of a branch point go to the end of the queue, and a sink has none: the two stores are those of the contract. No loop.
use lib.ListN.{length-set}
use native.Mathlib.Omega.{arith}
use mathlib.Core.Path.{refl}
use borrow.Author.Rules.{rules}
use Rattle.tree.proofs.descend.queue_children.Statement.{statement}
use Rattle.tree.proofs.descend.queue_children.Tie as tie

returns-then-v-n : tie.Need-returns-then-v-n
returns-then-v-n c = (λ h. (refl, refl), λ h. absurd (omega (arith, c.if-v-n.true)))

offset_bounds-first-v : tie.Need-offset_bounds-first-v
offset_bounds-first-v c = omega (arith, c.requires c.if-v-n.false)

bounds-first-v : tie.Need-bounds-first-v
bounds-first-v c = omega (arith, c.requires c.if-v-n.false)

offset_bounds-queue-end : tie.Need-offset_bounds-queue-end
offset_bounds-queue-end c = omega (arith, c.requires c.if-v-n.false)

bounds-queue-end : tie.Need-bounds-queue-end
bounds-queue-end c = omega (arith, c.requires c.if-v-n.false)

offset_bounds-second-v : tie.Need-offset_bounds-second-v
offset_bounds-second-v c = omega (arith, c.requires c.if-v-n.false)

bounds-second-v : tie.Need-bounds-second-v
bounds-second-v c = omega (arith, c.requires c.if-v-n.false)

overflow_add-queue : tie.Need-overflow_add-queue
overflow_add-queue c = omega (arith, c.requires c.if-v-n.false)

offset_bounds-queue-end-2 : tie.Need-offset_bounds-queue-end-2
offset_bounds-queue-end-2 c = omega (arith, c.requires c.if-v-n.false)

bounds-queue-end-2 : tie.Need-bounds-queue-end-2
bounds-queue-end-2 c = simp length-set (c.requires c.if-v-n.false).2

overflow_add-result : tie.Need-overflow_add-result
overflow_add-result c = omega (arith, c.requires c.if-v-n.false)

shape_of-queue : tie.Need-shape_of-queue
shape_of-queue c = search rules

returns : tie.Need-returns
returns c = (λ h. absurd (omega (arith, c.if-v-n.false)), λ h. (refl, refl))

pub queue_children_spec : {M : Type 1} → statement M
queue_children_spec =
    tie.close
    (tie.spec
    returns-then-v-n
    offset_bounds-first-v
    bounds-first-v
    offset_bounds-queue-end
    bounds-queue-end
    offset_bounds-second-v
    bounds-second-v
    overflow_add-queue
    offset_bounds-queue-end-2
    bounds-queue-end-2
    overflow_add-result
    shape_of-queue
    returns)
