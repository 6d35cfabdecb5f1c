-- The arrays hold the planned tree, and its worst slack and wire are returned: what each step gives is what the next one requires. No loop.
use Rattle.std.proofs.Common.{◌≡◌, ◌∙◌, ◌*◌, ◌≤◌, length, arith}
use Rattle.tree.specs.Net.{Net}
use Rattle.tree.specs.Planning.{tie_rule, plan_parents}
use Rattle.tree.specs.Settling.{plan_by, plan}
use Rattle.tree.specs.Inner.Arrays.{net_of, parents_of, HoldsTree}
use Rattle.tree.specs.Inner.Insertion.{Ready, Lined, Placed}
use Rattle.tree.proofs.Laws.Arrays.NetAndTree.{size_is}
use Rattle.tree.proofs.Laws.Arrays.PlanArrays.{some_few, ready, placed, planned_legal, planned_parents, planned_tree, planned_holds, planned_wire}
use Rattle.tree.proofs.Laws.Measures.MeasuredArrays.{worst_is, wire_is}
use Rattle.first_tree.proofs.plan.plan.Goals.{After-order_sinks, After-settle}
use Rattle.first_tree.proofs.plan.plan.Goals as goal

pub order_sinks-requires : goal.order_sinks-requires
order_sinks-requires c = let a = c.args in omega (arith, some_few a.h a.n a.xs.now a.ys.now a.required.now c.requires.holds_net)

-- the net, and that the arrays are ready for insertion
abbrev net : After-order_sinks → Net
net c = let a = c.args in net_of a.h a.n a.xs.now a.ys.now a.required.now

ready_now : (c : After-order_sinks) → Ready (net c) c.args.h.branch.0 c.args.n c.own_slacks.new.own × Lined (net c) c.args.n c.order_sinks.new.sinks × Placed (net c) c.args.n c.args.xs.now c.args.ys.now
ready_now c =
    let a = c.args in
    let held = c.requires.holds_net in (
      ready a.h a.n a.xs.now a.ys.now a.required.now held c.own_slacks.new.own (omega arith) c.own_slacks.ensures,
      record { long = omega arith; sinks_are = c.order_sinks.ensures (net c) (size_is a.h a.n a.xs.now a.ys.now a.required.now) c.own_slacks.ensures },
      placed a.h a.n a.xs.now a.ys.now a.required.now held,
    )

pub insert_all-requires-clause-ready : goal.insert_all-requires-clause-ready
insert_all-requires-clause-ready c = let r = (goal.at.insert_all-requires-clause-ready c).After-order_sinks in (net r, ready_now r)

pub settle-requires-clause-parents : goal.settle-requires-clause-parents
settle-requires-clause-parents c =
    let a = c.args in
    let s = (goal.at.settle-requires-clause-parents c).After-order_sinks in
    let r = ready_now s in
    let ps = c.insert_all.new.parents in
    let long : 2 * a.n ≤ length ps = omega arith in
    let held = c.requires.holds_net in
    let e = c.insert_all.ensures.tree (net s) r.0 r.1 r.2 in
    (planned_parents a.h a.n a.xs.now a.ys.now a.required.now held ps long e, planned_legal a.h a.n a.xs.now a.ys.now a.required.now held ps long e, c.insert_all.ensures.order)

-- the tree is settled, where the parents are the plan's
holds : (c : After-settle) → parents_of c.args.n c.insert_all.new.parents ≡ plan_parents tie_rule (net_of c.args.h c.args.n c.args.xs.now c.args.ys.now c.args.required.now)
    → HoldsTree c.args.n c.insert_all.new.parents c.settle.new.xs c.settle.new.ys
holds c e =
    let a = c.args in
    let ps = c.insert_all.new.parents in
    let t = c.settle in
    planned_holds a.h a.n a.xs.now a.ys.now a.required.now c.requires.holds_net ps (omega arith) e t.new.xs t.new.ys (omega arith) (omega arith) (t.ensures.tree a.h a.required.now) t.ensures.kept

pub invariant_of-measure : goal.invariant_of-measure
invariant_of-measure c =
    let s = (goal.at.invariant_of-measure c).After-order_sinks in
    let r = ready_now s in
    record { held = holds (goal.at.invariant_of-measure c).After-settle (c.insert_all.ensures.tree (net s) r.0 r.1 r.2) }

pub returns-clause-tree : goal.returns-clause-tree
returns-clause-tree c =
    let a = c.args in
    let s = (goal.at.returns-clause-tree c).After-order_sinks in
    let r = ready_now s in
    let t = c.settle in
    planned_tree a.h a.n a.xs.now a.ys.now a.required.now c.requires.holds_net c.insert_all.new.parents (omega arith) (c.insert_all.ensures.tree (net s) r.0 r.1 r.2) t.new.xs t.new.ys (omega arith) (omega arith) (t.ensures.tree a.h a.required.now) t.ensures.kept

pub returns-clause-worst : goal.returns-clause-worst
unfolding plan
returns-clause-worst c =
    let a = c.args in
    let s = (goal.at.returns-clause-worst c).After-order_sinks in
    let r = ready_now s in
    c.measure.ensures.worst ∙ worst_is (net s) (plan_by tie_rule (net s)) a.n c.insert_all.new.slacks (size_is a.h a.n a.xs.now a.ys.now a.required.now) (c.insert_all.ensures.slacks (net s) r.0 r.1 r.2)

pub returns-clause-wire : goal.returns-clause-wire
unfolding plan
returns-clause-wire c =
    let a = c.args in
    let s = (goal.at.returns-clause-wire c).After-order_sinks in
    let r = ready_now s in
    let ps = c.insert_all.new.parents in
    let e = c.insert_all.ensures.tree (net s) r.0 r.1 r.2 in
    let t = c.settle in
    planned_wire a.h a.n a.xs.now a.ys.now a.required.now c.requires.holds_net ps (omega arith) e t.new.xs t.new.ys (omega arith) (omega arith) (t.ensures.tree a.h a.required.now) t.ensures.kept _
    (c.measure.ensures.wire ∙ wire_is a.n ps t.new.xs t.new.ys (holds (goal.at.returns-clause-wire c).After-settle e) a.h a.required.now)
