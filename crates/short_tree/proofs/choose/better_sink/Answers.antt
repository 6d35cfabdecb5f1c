-- By the tests: once its cheapest edge is found, sink s is compared again. The sinks before it are as they were. No loop.
use Rattle.std.proofs.Common.{sym, ◌∙◌, arith}
use Rattle.short_tree.proofs.Laws.SinkSearch.{looked_stay, looked_take, looked_other, found_kept}
use Rattle.short_tree.proofs.choose.better_sink.Goals as goal

pub returns-then-is_behind-2-clause-kept : goal.returns-then-is_behind-2-clause-kept
returns-then-is_behind-2-clause-kept c =
    let a = c.args in
    let t = a.tree in
    let f = c.find_edge in
    found_kept t.parents.now t.xs.now t.ys.now a.n t.last a.kept.now a.costs.now f.new.kept f.new.costs a.s f.ensures.others.0 f.ensures.others.1 f.ensures.found c.if-kept-s-eq0.false c.requires.all_kept

pub returns-then-is_behind-2-clause-looked : goal.returns-then-is_behind-2-clause-looked
returns-then-is_behind-2-clause-looked c =
    let a = c.args in
    let t = a.tree in
    let f = c.find_edge in
    let before = looked_other t.parents.now t.xs.now t.ys.now a.kept.now a.costs.now f.new.kept f.new.costs a.s a.best f.ensures.others.0 f.ensures.others.1 c.requires.looked in
    looked_stay t.parents.now t.xs.now t.ys.now f.new.kept f.new.costs a.s c.requires.in_bounds.3 a.best (sym c.is_behind-2.ensures ∙ c.if-is_behind-2.true) before

pub returns-else-is_behind-2-clause-kept : goal.returns-else-is_behind-2-clause-kept
returns-else-is_behind-2-clause-kept c =
    let a = c.args in
    let t = a.tree in
    let f = c.find_edge in
    found_kept t.parents.now t.xs.now t.ys.now a.n t.last a.kept.now a.costs.now f.new.kept f.new.costs a.s f.ensures.others.0 f.ensures.others.1 f.ensures.found c.if-kept-s-eq0.false c.requires.all_kept

pub returns-else-is_behind-2-clause-looked : goal.returns-else-is_behind-2-clause-looked
returns-else-is_behind-2-clause-looked c =
    let a = c.args in
    let t = a.tree in
    let f = c.find_edge in
    let before = looked_other t.parents.now t.xs.now t.ys.now a.kept.now a.costs.now f.new.kept f.new.costs a.s a.best f.ensures.others.0 f.ensures.others.1 c.requires.looked in
    looked_take t.parents.now t.xs.now t.ys.now f.new.kept f.new.costs a.s c.requires.in_bounds.3 a.best (sym c.is_behind-2.ensures ∙ c.if-is_behind-2.false)
    (omega (arith, f.ensures.found.bound.member.0)) f.ensures.found.cost_is before
