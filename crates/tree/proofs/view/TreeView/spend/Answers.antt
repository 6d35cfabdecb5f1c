-- Each vertex of the order comes after its parent, so what is spent on the way to the parent stands, and at the end all stand.
use Rattle.std.proofs.Common.{◌∙◌, ◌-◌, ◌*◌, ◌<◌, arith, length-take, length-set, get_or-take, pos}
use mir.Facts.{to_z-of_z}
use Rattle.quantities.specs.Inner.Linear.{fit}
use Rattle.tree.proofs.Laws.Measures.Spending.{spent_within, spent_more, spent_all}
use Rattle.tree.proofs.view.TreeView.spend.Goals as goal

pub spent_at-requires : goal.spent_at-requires
spent_at-requires c =
    let R = c.requires.1 in
    let w = c.loop-v in
    let i : w.v-index < 2 * c.args.self.n - 1 = omega (arith, length-take (2 * c.args.self.n - 1) c.args.queue.now) in
    rw get_or-take (
      c.requires.0,
      omega (arith, length-set c.args.spent.now 0 (pos 0)),
      R.inside w.v-index i,
      spent_within _ _ _ _ _ _ R w.v-index w.spent w.invariant i c.args.self.held c.requires.0,
    )

pub loop-v-preserved : goal.loop-v-preserved
loop-v-preserved c =
    let w = c.loop-v in
    let i : w.v-index < 2 * c.args.self.n - 1 = omega (arith, length-take (2 * c.args.self.n - 1) c.args.queue.now) in
    let stored = to_z-of_z (fit c.attoseconds.result c.attoseconds.type_inv) ∙ c.attoseconds.ensures ∙ c.spent_at.ensures in
    let at = get_or-take (2 * c.args.self.n - 1) c.args.queue.now w.v-index 0 i in
    rw at (spent_more _ _ _ _ _ _ c.requires.1 w.v-index w.spent w.invariant i _ (omega (arith, length-set c.args.spent.now 0 (pos 0))) (rw at at stored))

pub returns : goal.returns
returns c =
    let w = c.loop-v in
    spent_all _ _ _ _ _ _ c.requires.1 w.v-index w.spent (omega (arith, length-take (2 * c.args.self.n - 1) c.args.queue.now, c.requires.1.long)) w.invariant
