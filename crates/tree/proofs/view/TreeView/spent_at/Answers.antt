-- What is spent on the way to v: that of its parent and the cost of the edge between them, whose sum fits. No loop.
use Rattle.std.proofs.Common.{arith, ◌≡◌, ap₂, ◌∙◌, get_or, pos, ◌+ℤ◌}
use borrow.Author.Rules.{rules}
use Rattle.quantities.specs.Inner.Linear.{whole}
use Rattle.tree.proofs.view.TreeView.spent_at.Goals as goal

pub offset_bounds-spent-p : goal.offset_bounds-spent-p
offset_bounds-spent-p c =
    let t = c.args.self in
    omega (arith, t.held.parents_in_lem.inside c.args.v c.requires.2.0 c.requires.2.1, t.held.parents_in_lem.few)

pub bounds-spent-p : goal.bounds-spent-p
bounds-spent-p c =
    omega (arith, c.args.self.held.parents_in_lem.inside c.args.v c.requires.2.0 c.requires.2.1)

pub add-requires : goal.add-requires
add-requires c =
    let read : c.of.result.0 ≡ get_or c.args.spent.now (get_or c.args.self.parents.now c.args.v 0) (pos 0) = search rules in
    let r = c.cost_above-cost.ensures.range in
    omega (arith, whole, read, r, c.requires.3)

pub returns : goal.returns
returns c =
    let read : c.of.result.0 ≡ get_or c.args.spent.now (get_or c.args.self.parents.now c.args.v 0) (pos 0) = search rules in
    c.add.ensures ∙ ap₂ ◌+ℤ◌ read c.cost_above-cost.ensures.cost
