-- The arrays hold the short tree, which has no defects, so the way down reaches every vertex and the measures are those of the tree. No loop.
use Rattle.std.proofs.Common.{ℕ, ◌*◌, ◌≤◌, List, length, ◌≡◌, ◌∙◌, arith}
use Rattle.std.specs.Prelude.{ℤ, None}
use Rattle.tree.specs.declared.header.Header.{Header}
use Rattle.tree.specs.Defects.{wrong_children, unreached}
use Rattle.tree.specs.Measures.{worst_slack, wire_length}
use Rattle.tree.specs.Inner.Arrays.{point_at, net_of, parents_of, tree_of, HoldsNet, HoldsTree}
use Rattle.formats.proofs.Laws.Held.{kept_net, kept_holds}
use Rattle.short_tree.specs.ShortTree.{short}
use Rattle.short_tree.specs.Inner.Arrays.{Room}
use Rattle.short_tree.proofs.Laws.ShortArrays.{holds_pins, no_defects, short_holds}
use Rattle.short_tree.proofs.make.make.Goals as goal

-- the tree that was made: the arrays hold it, and it has no defects
made : (h : Header) (n : ℕ) (xs ys rs xs' ys' : List ℤ) {ps ps' kept costs : List ℕ} → HoldsNet h n xs ys rs → Room n xs ys ps kept costs → length xs' ≡ length xs → length ys' ≡ length ys → length ps' ≡ length ps
    → tree_of n ps' xs' ys' ≡ short (net_of h n xs ys rs) → ((v : ℕ) → v ≤ n → point_at xs' ys' v ≡ point_at xs ys v)
    → HoldsTree n ps' xs' ys' × (wrong_children n (parents_of n ps') ≡ None) × (unreached n (parents_of n ps') ≡ None)
made h n xs ys rs xs' ys' {ps} {ps'} held r x y p tree kept =
    let xl : 2 * n ≤ length xs' = omega (arith, r.xs_long) in
    let yl : 2 * n ≤ length ys' = omega (arith, r.ys_long) in
    let pl : 2 * n ≤ length ps' = omega (arith, r.parents_long) in
    let d : (wrong_children n (parents_of n ps') ≡ None) × (unreached n (parents_of n ps') ≡ None) = no_defects h n xs ys rs held xs' ys' ps' xl yl pl tree kept in
    (short_holds h n xs ys rs held xs' ys' ps' xl yl pl tree kept, d.0, d.1)

pub short-requires : goal.short-requires
short-requires c =
    let a = c.args in
    record {
      holds_pins = (net_of a.h a.n a.xs.now a.ys.now a.required.now, holds_pins a.h a.n a.xs.now a.ys.now a.required.now c.requires.holds_net);
      room = c.requires.plan_room.tree;
    }

pub lowest_unreached-requires-clause-parents : goal.lowest_unreached-requires-clause-parents
lowest_unreached-requires-clause-parents c =
    let a = c.args in
    let m = c.short in
    let tree = m.ensures.tree (net_of a.h a.n a.xs.now a.ys.now a.required.now) (holds_pins a.h a.n a.xs.now a.ys.now a.required.now c.requires.holds_net) in
    let t = made a.h a.n a.xs.now a.ys.now a.required.now m.new.xs m.new.ys c.requires.holds_net c.requires.plan_room.tree m.auto.xs m.auto.ys m.auto.parents tree m.ensures.kept in
    (t.0.parents_in_lem, t.1)

pub invariant_of-tree : goal.invariant_of-tree
invariant_of-tree c =
    let a = c.args in
    let m = c.short in
    let tree = m.ensures.tree (net_of a.h a.n a.xs.now a.ys.now a.required.now) (holds_pins a.h a.n a.xs.now a.ys.now a.required.now c.requires.holds_net) in
    record { held = (made a.h a.n a.xs.now a.ys.now a.required.now m.new.xs m.new.ys c.requires.holds_net c.requires.plan_room.tree m.auto.xs m.auto.ys m.auto.parents tree m.ensures.kept).0 }

pub measure_tree-requires : goal.measure_tree-requires
measure_tree-requires c =
    let a = c.args in
    let m = c.short in
    let u = c.lowest_unreached.ensures in
    let r = c.requires.plan_room in
    let tree = m.ensures.tree (net_of a.h a.n a.xs.now a.ys.now a.required.now) (holds_pins a.h a.n a.xs.now a.ys.now a.required.now c.requires.holds_net) in
    let t = made a.h a.n a.xs.now a.ys.now a.required.now m.new.xs m.new.ys c.requires.holds_net r.tree m.auto.xs m.auto.ys m.auto.parents tree m.ensures.kept in
    let net = kept_holds a.h a.n a.xs.now a.ys.now a.required.now m.new.xs m.new.ys m.ensures.kept c.requires.holds_net (omega (arith, r.tree.xs_long, m.auto)) (omega (arith, r.tree.ys_long, m.auto)) in
    (net, u.order (u.found ∙ t.2), r.slacks_long)

pub returns-clause-tree : goal.returns-clause-tree
returns-clause-tree c =
    let a = c.args in
    c.short.ensures.tree (net_of a.h a.n a.xs.now a.ys.now a.required.now) (holds_pins a.h a.n a.xs.now a.ys.now a.required.now c.requires.holds_net)

pub returns-clause-worst : goal.returns-clause-worst
returns-clause-worst c =
    let a = c.args in
    let m = c.short in
    let tree = m.ensures.tree (net_of a.h a.n a.xs.now a.ys.now a.required.now) (holds_pins a.h a.n a.xs.now a.ys.now a.required.now c.requires.holds_net) in
    let same = kept_net a.h a.n a.xs.now a.ys.now a.required.now m.new.xs m.new.ys m.ensures.kept in
    c.measure_tree.ensures.worst ∙ (λ i. worst_slack (same i) (tree i))

pub returns-clause-wire : goal.returns-clause-wire
returns-clause-wire c =
    let a = c.args in
    let m = c.short in
    let tree = m.ensures.tree (net_of a.h a.n a.xs.now a.ys.now a.required.now) (holds_pins a.h a.n a.xs.now a.ys.now a.required.now c.requires.holds_net) in
    let same = kept_net a.h a.n a.xs.now a.ys.now a.required.now m.new.xs m.new.ys m.ensures.kept in
    c.measure_tree.ensures.wire ∙ (λ i. wire_length (same i) (tree i))
