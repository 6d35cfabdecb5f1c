-- What the calls make of the arrays is one insertion more; what they require comes from the one net that is given. No loop.
use Rattle.std.proofs.Common.{◌+◌, set, ap, ◌∙◌, arith}
use Rattle.std.proofs.Math.ListN.{length-set}
use Rattle.quantities.specs.declared.point.Point.{Point}
use Rattle.short_tree.proofs.Laws.Inserting.{held_kept, held_reaches, one_waits, next_reaches, next_kept, held_next}
use Rattle.short_tree.proofs.grow.insert_next.Goals as goal

pub invariant_of-tree : goal.invariant_of-tree
invariant_of-tree c =
    let a = c.args in
    let q = c.requires.0 in record {
      reaches = held_reaches q.0 a.n q.1.0 a.k c.requires.1 a.xs.now a.ys.now a.parents.now a.kept.now a.costs.now q.1.1;
    }

pub next_sink-s-requires-clause-in_bounds : goal.next_sink-s-requires-clause-in_bounds
next_sink-s-requires-clause-in_bounds c =
    let a = c.args in
    let q = c.requires.0 in
    let room = q.1.1.room in
    (omega (arith, room.kept_long, c.requires.1), omega arith, room.costs_long, one_waits q.0 a.n q.1.0 a.k c.requires.1 a.xs.now a.ys.now a.parents.now a.kept.now a.costs.now q.1.1)

pub invariant_of-grown : goal.invariant_of-grown
invariant_of-grown c =
    let a = c.args in
    let q = c.requires.0 in
    let f = c.next_sink-s in
    let j = c.join in
    let H = held_kept q.0 a.n a.k a.xs.now a.ys.now a.parents.now a.kept.now a.costs.now f.new.kept f.new.costs q.1.1 f.auto.kept f.auto.costs f.ensures.zeros f.ensures.kept in
    let x = j.ensures.x ∙ ap (λ (p : Point). set a.xs.now (a.n + a.k + 1) p.x) c.meeting-m.ensures in
    let y = j.ensures.y ∙ ap (λ (p : Point). set a.ys.now (a.n + a.k + 1) p.y) c.meeting-m.ensures in record {
      reaches = next_reaches q.0 a.n q.1.0 a.k c.requires.1 a.xs.now a.ys.now a.parents.now f.new.kept f.new.costs H f.result f.ensures.chosen
          (a.n + a.k + 1) (omega arith) j.new.xs j.new.ys j.new.parents x y j.ensures.parents;
    }

pub renew-requires-clause-by_index : goal.renew-requires-clause-by_index
renew-requires-clause-by_index c =
    let a = c.args in
    let q = c.requires.0 in
    let f = c.next_sink-s in
    let j = c.join in
    let H = held_kept q.0 a.n a.k a.xs.now a.ys.now a.parents.now a.kept.now a.costs.now f.new.kept f.new.costs q.1.1 f.auto.kept f.auto.costs f.ensures.zeros f.ensures.kept in
    let x = j.ensures.x ∙ ap (λ (p : Point). set a.xs.now (a.n + a.k + 1) p.x) c.meeting-m.ensures in
    let y = j.ensures.y ∙ ap (λ (p : Point). set a.ys.now (a.n + a.k + 1) p.y) c.meeting-m.ensures in
    next_kept q.0 a.n q.1.0 a.k c.requires.1 a.xs.now a.ys.now a.parents.now f.new.kept f.new.costs H f.result f.ensures.chosen
    (a.n + a.k + 1) (omega arith) j.new.xs j.new.ys j.new.parents x y j.ensures.parents

pub returns : goal.returns
returns c N P H₀ =
    let a = c.args in
    let f = c.next_sink-s in
    let j = c.join in
    let r = c.renew in
    let H = held_kept N a.n a.k a.xs.now a.ys.now a.parents.now a.kept.now a.costs.now f.new.kept f.new.costs H₀ f.auto.kept f.auto.costs f.ensures.zeros f.ensures.kept in
    let x = j.ensures.x ∙ ap (λ (p : Point). set a.xs.now (a.n + a.k + 1) p.x) c.meeting-m.ensures in
    let y = j.ensures.y ∙ ap (λ (p : Point). set a.ys.now (a.n + a.k + 1) p.y) c.meeting-m.ensures in
    held_next N a.n P a.k c.requires.1 a.xs.now a.ys.now a.parents.now f.new.kept f.new.costs H f.result f.ensures.chosen
    (a.n + a.k + 1) (omega arith) j.new.xs j.new.ys j.new.parents x y j.ensures.parents r.new.kept r.new.costs
    j.auto.xs j.auto.ys j.auto.parents (r.auto.kept ∙ length-set f.new.kept f.result 0) r.auto.costs r.ensures.zeros r.ensures.kept
