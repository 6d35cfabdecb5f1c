-- The sinks are ordered and joined; by number the vertices go up the joined tree and down, so it is settled and measured. No loop.
use Rattle.std.proofs.Common.{◌*◌, ◌-◌, ◌≤◌, ◌++◌, length, drop, ◌∙◌, arith}
use Rattle.tree.specs.Measures.{worst_slack, wire_length}
use Rattle.tree.specs.Inner.Arrays.{weights_of}
use Rattle.tree.proofs.Laws.Arrays.PlanArrays.{some_few}
use Rattle.weighted_tree.proofs.Laws.Numbering.{turned, turned_long, numbers_up, numbers_down, made_tree, made_holds}
use Rattle.weighted_tree.proofs.make.make.Goals as goal

pub order_by-requires : goal.order_by-requires
order_by-requires c =
    let a = c.args in
    let f = some_few a.h a.n a.xs.now a.ys.now a.required.now c.requires.holds_net.0 in
    (f.0, f.1, c.requires.holds_net.1.long, omega (arith, c.requires.plan_room.order_long))

pub settle-requires-clause-parents : goal.settle-requires-clause-parents
settle-requires-clause-parents c =
    let a = c.args in
    let f = some_few a.h a.n a.xs.now a.ys.now a.required.now c.requires.holds_net.0 in
    let r = c.requires.plan_room in
    let j = c.join_all in
    let u = c.number_up in
    numbers_up a.n (weights_of a.n a.weights.now) f.0 f.1 j.new.parents (omega (arith, r.parents_long, j.auto.parents)) j.ensures u.new.order u.ensures

pub invariant_of-tree : goal.invariant_of-tree
invariant_of-tree c =
    let a = c.args in
    let f = some_few a.h a.n a.xs.now a.ys.now a.required.now c.requires.holds_net.0 in
    let r = c.requires.plan_room in
    let j = c.join_all in
    let m = c.settle in
    let held = made_holds a.n (weights_of a.n a.weights.now) f.0 f.1 j.new.parents (omega (arith, r.parents_long, j.auto.parents)) j.ensures a.h a.xs.now a.ys.now a.required.now m.new.xs m.new.ys c.requires.holds_net.0 (omega (arith, r.xs_long, m.auto.xs)) (omega (arith, r.ys_long, m.auto.ys)) (m.ensures.tree a.h a.required.now) m.ensures.kept in
    record { held = held.1 }

pub measure_tree-requires : goal.measure_tree-requires
measure_tree-requires c =
    let a = c.args in
    let f = some_few a.h a.n a.xs.now a.ys.now a.required.now c.requires.holds_net.0 in
    let r = c.requires.plan_room in
    let o = c.order_by in
    let j = c.join_all in
    let u = c.number_up in
    let m = c.settle in
    let turn = c.reverse in
    let held = made_holds a.n (weights_of a.n a.weights.now) f.0 f.1 j.new.parents (omega (arith, r.parents_long, j.auto.parents)) j.ensures a.h a.xs.now a.ys.now a.required.now m.new.xs m.new.ys c.requires.holds_net.0 (omega (arith, r.xs_long, m.auto.xs)) (omega (arith, r.ys_long, m.auto.ys)) (m.ensures.tree a.h a.required.now) m.ensures.kept in
    let long : 2 * a.n - 1 ≤ length u.new.order = omega (arith, r.order_long, o.auto.sinks, u.auto.order) in
    let down = numbers_down a.n (weights_of a.n a.weights.now) f.0 f.1 j.new.parents (omega (arith, r.parents_long, j.auto.parents)) j.ensures (turn.new.self ++ drop (2 * a.n - 1) u.new.order) (omega (arith, turned_long a.n u.new.order turn.new.self long turn.ensures.after, r.order_long, o.auto.sinks, u.auto.order)) (turned a.n u.new.order turn.new.self long turn.ensures.after u.ensures) in
    (held.0, down, r.slacks_long)

pub returns : goal.returns
returns c =
    let a = c.args in
    let f = some_few a.h a.n a.xs.now a.ys.now a.required.now c.requires.holds_net.0 in
    let r = c.requires.plan_room in
    let j = c.join_all in
    let m = c.settle in
    let t = c.measure_tree in
    let made = made_tree a.n (weights_of a.n a.weights.now) f.0 f.1 j.new.parents (omega (arith, r.parents_long, j.auto.parents)) j.ensures a.h a.xs.now a.ys.now a.required.now m.new.xs m.new.ys c.requires.holds_net.0 (omega (arith, r.xs_long, m.auto.xs)) (omega (arith, r.ys_long, m.auto.ys)) (m.ensures.tree a.h a.required.now) m.ensures.kept in
    record {
      tree = made.1;
      kept = m.ensures.kept;
      worst = t.ensures.worst ∙ (λ i. worst_slack (made.0 i) (made.1 i));
      wire = t.ensures.wire ∙ (λ i. wire_length (made.0 i) (made.1 i));
    }
