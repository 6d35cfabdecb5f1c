-- A tree is refused by 9 or 10 as its searches find, else by its stated measures. No loop.
use Rattle.std.proofs.Common.{arith, sym, ◌∙◌}
use Rattle.tree.specs.Inner.Arrays.{net_of, parents_of}
use Rattle.tree.proofs.Laws.Arrays.NetAndTree.{size_is}
use Rattle.formats.specs.Inner.ListingReader.{listing_held}
use Rattle.operations.proofs.Laws.Judging.{wrong_vertex, lost_vertex, wrong_refused, lost_refused, legal_judged}
use Rattle.operations.proofs.accept.accept_tree.Goals as goal

pub vertex_line-requires : goal.vertex_line-requires
vertex_line-requires c =
    let t = c.args.tree in
    let p = t.held.parents_in_lem in
    omega (arith, wrong_vertex t.n (parents_of t.n t.parents.now) c.in-Some.v p.some (sym c.in-Some.ensures), p.few)

pub returns-in-Some : goal.returns-in-Some
returns-in-Some c =
    let a = c.args in
    let t = a.tree in
    wrong_refused (net_of a.header t.n t.xs.now t.ys.now a.required.now) (listing_held a.stated.slack a.stated.wire t.n t.parents.now t.xs.now t.ys.now) t.n (size_is a.header t.n t.xs.now t.ys.now a.required.now) c.in-Some.v c.vertex_line.result (sym c.in-Some.ensures)
    c.vertex_line.ensures

pub vertex_line-requires-in-Some-lowest_unreached : goal.vertex_line-requires-in-Some-lowest_unreached
vertex_line-requires-in-Some-lowest_unreached c =
    let t = c.args.tree in
    let p = t.held.parents_in_lem in
    omega (arith, lost_vertex t.n (parents_of t.n t.parents.now) c.in-Some-lowest_unreached.v p.some (sym c.in-Some-lowest_unreached.ensures.found), p.few)

pub returns-in-Some-lowest_unreached : goal.returns-in-Some-lowest_unreached
returns-in-Some-lowest_unreached c =
    let a = c.args in
    let t = a.tree in
    lost_refused (net_of a.header t.n t.xs.now t.ys.now a.required.now) (listing_held a.stated.slack a.stated.wire t.n t.parents.now t.xs.now t.ys.now) t.n (size_is a.header t.n t.xs.now t.ys.now a.required.now) (sym c.wrong_children.ensures ∙ c.in_default.is)
    c.in-Some-lowest_unreached.v c.vertex_line-in-Some-lowest_unreached.result (sym c.in-Some-lowest_unreached.ensures.found) c.vertex_line-in-Some-lowest_unreached.ensures

pub returns : goal.returns
returns c =
    let a = c.args in
    let t = a.tree in
    legal_judged (net_of a.header t.n t.xs.now t.ys.now a.required.now) (listing_held a.stated.slack a.stated.wire t.n t.parents.now t.xs.now t.ys.now) t.n (size_is a.header t.n t.xs.now t.ys.now a.required.now) (sym c.wrong_children.ensures ∙ c.in_default.is)
    (sym c.lowest_unreached.ensures.found ∙ c.in_default-lowest_unreached.is) _ c.accept_stated.ensures
