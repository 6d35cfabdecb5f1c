-- The arrays close up, the queue gets the vertices of the shorter tree, which is legal, and it is measured. No loop.
use Rattle.std.proofs.Common.{◌∙◌, arith}
use Rattle.tree.specs.Measures.{worst_slack, wire_length}
use Rattle.shorter_tree.proofs.Laws.Shortened.{shortened_whole, shortened_net, shortened_tree}
use Rattle.shorter_tree.proofs.shorten.shorten.Goals as goal

pub lowest_unreached-requires : goal.lowest_unreached-requires
lowest_unreached-requires c =
    let a = c.args in
    let room = c.requires.room in
    let k = c.close_up_all in
    record {
      parents = ((shortened_tree a.header a.n a.s a.parents.now a.xs.now a.ys.now a.required.now a.weights.now c.requires.held room.0 room.1 room.2 k.new.parents k.new.xs k.new.ys k.new.required k.new.weights k.ensures k.auto.parents k.auto.xs k.auto.ys).parents_in_lem, (shortened_whole a.header a.n a.s a.parents.now a.xs.now a.ys.now a.required.now a.weights.now c.requires.held room.0 room.1 room.2 k.new.parents k.new.xs k.new.ys k.new.required k.new.weights k.ensures).0);
      n_in_bounds = (omega (arith, room.3.0), omega (arith, room.3.1), omega (arith, room.3.2));
    }

pub invariant_of-tree : goal.invariant_of-tree
invariant_of-tree c =
    let a = c.args in
    let room = c.requires.room in
    let k = c.close_up_all in
    record {
      held = shortened_tree a.header a.n a.s a.parents.now a.xs.now a.ys.now a.required.now a.weights.now c.requires.held room.0 room.1 room.2 k.new.parents k.new.xs k.new.ys k.new.required k.new.weights k.ensures k.auto.parents k.auto.xs k.auto.ys;
    }

pub measure_tree-requires : goal.measure_tree-requires
measure_tree-requires c =
    let a = c.args in
    let room = c.requires.room in
    let k = c.close_up_all in
    let u = c.lowest_unreached in (
      shortened_net a.header a.n a.s a.parents.now a.xs.now a.ys.now a.required.now a.weights.now c.requires.held room.0 room.1 room.2 k.new.parents k.new.xs k.new.ys k.new.required k.new.weights k.ensures k.auto.parents k.auto.xs k.auto.ys k.auto.required,
      u.ensures.order (u.ensures.found ∙ (shortened_whole a.header a.n a.s a.parents.now a.xs.now a.ys.now a.required.now a.weights.now c.requires.held room.0 room.1 room.2 k.new.parents k.new.xs k.new.ys k.new.required k.new.weights k.ensures).1),
      omega (arith, room.3.3),
    )

pub returns : goal.returns
returns c =
    let h = c.args.header in
    let k = c.close_up_all in
    let m = c.measure_tree in
    record {
      shorter = k.ensures;
      worst = m.ensures.worst ∙ (λ i. worst_slack (k.ensures.net h i) (k.ensures.tree h i));
      wire = m.ensures.wire ∙ (λ i. wire_length (k.ensures.net h i) (k.ensures.tree h i));
    }
