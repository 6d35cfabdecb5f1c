-- A tree's worst slack and wire: what is left of each required arrival is the sink's slack, and the measures are over those. No loop.
use Rattle.std.proofs.Common.{◌∙◌, arith}
use Rattle.tree.specs.Inner.Arrays.{net_of}
use Rattle.tree.specs.Inner.Views.{viewed_tree}
use Rattle.tree.proofs.Laws.Arrays.NetAndTree.{size_is}
use Rattle.tree.proofs.Laws.Measures.MeasuredArrays.{required_within, worst_is, wire_is}
use Rattle.tree.proofs.Laws.Measures.Spending.{costs_in_range, spent_fits, slack_is}
use Rattle.tree.proofs.view.TreeView.measure_tree.Goals as goal

pub spend-requires : goal.spend-requires
spend-requires c = (costs_in_range _ _ _ _ _ c.requires.0, c.requires.1, c.requires.2)

pub sink_slacks-requires : goal.sink_slacks-requires
sink_slacks-requires c =
    let t = c.args.self in
    let some = t.held.parents_in_lem.some in
    let d = c.spend in (
      c.requires.0.required_long,
      omega (arith, d.auto),
      λ v g l. (
        required_within _ _ _ _ _ c.requires.0 v g l,
        spent_fits c.args.header t.n t.parents.now t.xs.now t.ys.now t.held (costs_in_range _ _ _ _ _ c.requires.0) v _ (omega arith) (d.ensures v g (omega arith)),
      ),
    )

pub measure-requires : goal.measure-requires
measure-requires c = omega (arith, c.sink_slacks.auto, c.spend.auto, c.args.self.held.parents_in_lem.some)

pub returns : goal.returns
returns c =
    let t = c.args.self in
    let a = c.args in
    let N = net_of a.header t.n t.xs.now t.ys.now a.required.now in
    record {
      worst = c.measure.ensures.worst ∙ worst_is N (viewed_tree t) t.n c.sink_slacks.new.slacks (size_is a.header t.n t.xs.now t.ys.now a.required.now)
          (λ v g l. c.sink_slacks.ensures v g l ∙ slack_is a.header t.n t.parents.now t.xs.now t.ys.now t.held a.required.now v _ g l (c.spend.ensures v g (omega arith)));
      wire = c.measure.ensures.wire ∙ wire_is t.n t.parents.now t.xs.now t.ys.now t.held a.header a.required.now;
    }
