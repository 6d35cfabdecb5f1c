-- The kept edge is the cheapest where s adds no more there than was kept; else the scan's is stored. No loop.
use Rattle.std.proofs.Common.{set, refl, sym, ◌∙◌, arith}
use Rattle.std.proofs.Math.Seq.{get_or-set_same, get_or-set_other}
use borrow.Author.Tests.{ltb-false}
use Rattle.short_tree.specs.Inner.Arrays.{Inside}
use Rattle.short_tree.proofs.Laws.Edges.{less_length}
use Rattle.short_tree.proofs.Laws.SinkSearch.{kept_cheapest, stored_cheapest}
use Rattle.short_tree.proofs.choose.find_edge.Goals as goal

pub returns-then-lt : goal.returns-then-lt
returns-then-lt c =
    let a = c.args in
    let t = a.tree in
    let e = c.cheapest_edge-found in
    let kept-is = get_or-set_same a.kept.now a.s e.result.lower 0 (omega (arith, c.requires.in_bounds)) in
    let cost_is = get_or-set_same a.costs.now a.s c.nanometres.result 0 c.requires.in_bounds.2 ∙ c.nanometres.ensures in record {
      found = stored_cheapest t.parents.now t.xs.now t.ys.now (Inside t.last a.kept.now) (set a.kept.now a.s e.result.lower) (set a.costs.now a.s c.nanometres.result) a.s e.result.lower e.result.added.0 kept-is cost_is e.ensures;
      others = ((λ u d. get_or-set_other a.kept.now a.s u e.result.lower 0 d), (λ u d. get_or-set_other a.costs.now a.s u c.nanometres.result 0 d));
    }

pub returns-else-lt : goal.returns-else-lt
returns-else-lt c =
    let a = c.args in
    let t = a.tree in
    let e = c.edge_to in
    let low = ltb-false c.of.result.0 e.result.added.0 (sym (c.lt.ensures ∙ less_length c.of.result e.result.added) ∙ c.if-lt.false) in record {
      found = kept_cheapest t.parents.now t.xs.now t.ys.now t.last a.kept.now a.costs.now a.s c.requires.kept (omega (arith, low, e.ensures.added, c.of.ensures));
      others = ((λ u d. refl), (λ u d. refl));
    }
