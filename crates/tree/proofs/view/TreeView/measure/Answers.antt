-- At the start vertex 1 is tallied, each step counts one vertex more, and at the end all are tallied.
use Rattle.std.proofs.Common.{arith, ap}
use Rattle.tree.specs.declared.measures.Measures.{Measures}
use Rattle.tree.specs.Inner.Measuring.{slack_at}
use Rattle.tree.specs.Inner.Views.{length_in}
use Rattle.tree.proofs.Laws.Measures.MeasuredArrays.{tally_begins, tally_steps, tally_small, tally_ends, length_limit_lem}
use Rattle.tree.proofs.view.TreeView.measure.Goals as goal

pub count_vertex-requires : goal.count_vertex-requires
count_vertex-requires c =
    let t = c.args.self in
    let so_far = c.loop-v.invariant in (
      c.requires,
      (omega (arith, so_far.begun), omega arith),
      tally_small (slack_at c.args.slacks.now) (length_in t) t.n c.loop-v.v _ _ so_far t.held.parents_in_lem.few (length_limit_lem t.n t.parents.now t.xs.now t.ys.now t.held),
    )

pub loop-v-init : goal.loop-v-init
loop-v-init c =
    let t = c.args.self in
    let e = c.first_vertex-so_far.ensures in
    tally_begins (slack_at c.args.slacks.now) (length_in t) t.n _ _ t.held.parents_in_lem.some (ap (λ (m : Measures). m.slack.0) e) (ap (λ (m : Measures). m.wire.0) e)

pub loop-v-preserved : goal.loop-v-preserved
loop-v-preserved c =
    let t = c.args.self in
    let v = c.loop-v in
    let e = c.count_vertex.ensures in
    tally_steps (slack_at c.args.slacks.now) (length_in t) t.n v.v _ _ v.invariant _ _ (omega arith) (ap (λ (m : Measures). m.slack.0) e) (ap (λ (m : Measures). m.wire.0) e)

pub returns : goal.returns
returns c =
    let t = c.args.self in
    let v = c.loop-v in
    let ends = tally_ends (slack_at c.args.slacks.now) (length_in t) t.n v.v _ _ v.invariant t.held.parents_in_lem.some (omega arith) in
    record { worst = ends.0; wire = ends.1 }
