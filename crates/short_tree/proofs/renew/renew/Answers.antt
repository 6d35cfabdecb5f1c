-- The offer is made to t, if it waits; at the end all have had it.
use Rattle.std.proofs.Common.{◌+◌, arith}
use Rattle.short_tree.proofs.Laws.Renewing.{turn_next, turn_end}
use Rattle.short_tree.proofs.renew.renew.Goals as goal

pub loop-t-preserved : goal.loop-t-preserved
loop-t-preserved c =
    let a = c.args in
    let g = a.tree in
    let l = c.loop-t in
    let r = c.offer in
    turn_next a.n g.last a.s g.parents.now g.xs.now g.ys.now a.kept.now a.costs.now l.t l.kept l.costs l.invariant c.requires.by_index (omega arith) c.loop-t-test.true
    r.new.kept r.new.costs r.auto.kept r.auto.costs r.ensures.others.0 r.ensures.others.1 r.ensures.zeros r.ensures.kept

pub returns-2-clause-kept : goal.returns-2-clause-kept
returns-2-clause-kept c =
    let a = c.args in
    let g = a.tree in
    let l = c.loop-t in
    let r = c.offer in
    turn_end a.n g.last a.s g.parents.now g.xs.now g.ys.now a.kept.now a.costs.now (l.t + 1) r.new.kept r.new.costs
    (turn_next a.n g.last a.s g.parents.now g.xs.now g.ys.now a.kept.now a.costs.now l.t l.kept l.costs l.invariant c.requires.by_index (omega arith) c.loop-t-test.true
    r.new.kept r.new.costs r.auto.kept r.auto.costs r.ensures.others.0 r.ensures.others.1 r.ensures.zeros r.ensures.kept) (omega arith)
