-- The edge to s is kept where it goes before, and else what was kept is not after it either: by the test. No loop.
use Rattle.std.proofs.Common.{Bool, cond, get_or, set, ◌≡◌, refl, sym, ◌∙◌, subst, arith}
use Rattle.std.proofs.Math.Seq.{get_or-set_same, get_or-set_other}
use Rattle.std.specs.Ordering.{partial_lt}
use Rattle.short_tree.specs.declared.edge.Edge.{Edge}
use Rattle.short_tree.specs.contracts.edge.EdgePartialOrd.TheImpl.{partial_cmp-value}
use Rattle.short_tree.specs.Inner.Searching.{Leads}
use Rattle.short_tree.specs.Inner.Arrays.{SameBut}
use Rattle.short_tree.proofs.Laws.Choosing.{leads_if, leads_else}
use Rattle.short_tree.proofs.Laws.Edges.{before_says}
use Rattle.short_tree.proofs.Laws.Renewing.{offered_stays, offered_taken}
use Rattle.short_tree.proofs.Laws.SinkSearch.{zeros_but}
use Rattle.short_tree.proofs.renew.offer.Goals as goal

-- what the test says, with the number that is kept in the place of an edge
tested : (e old : Edge) {t : Bool} → t ≡ partial_lt partial_cmp-value.it e old → cond t (Leads e.added.0 e.lower old.added.0 old.lower) (Leads old.added.0 old.lower e.added.0 e.lower)
tested e old l = subst (λ (t : Bool). cond t (Leads e.added.0 e.lower old.added.0 old.lower) (Leads old.added.0 old.lower e.added.0 e.lower)) (sym l) (before_says e old)

pub returns-then-lt : goal.returns-then-lt
returns-then-lt c =
    let a = c.args in
    let g = a.tree in
    let e = c.edge_to-new in
    let L = leads_if {a = e.result.added.0} {v = e.result.lower} {b = c.of.result.0} {u = get_or a.kept.now a.t 0} c.lt.result c.if-lt.true (tested e.result (record { added = c.of.result; lower = get_or a.kept.now a.t 0 }) c.lt.ensures) in
    let kept-is = get_or-set_same a.kept.now a.t a.s 0 c.requires.t_in_bounds.0 in
    let cost_is = get_or-set_same a.costs.now a.t c.nanometres.result 0 c.requires.t_in_bounds.1 ∙ c.nanometres.ensures in
    let same : SameBut a.t a.kept.now (set a.kept.now a.t a.s) = λ u d. get_or-set_other a.kept.now a.t u a.s 0 d in record {
      kept = λ w B. offered_taken g.parents.now g.xs.now g.ys.now a.kept.now a.costs.now a.s a.t e.result.lower e.result.added.0 c.of.result.0 e.ensures.lower e.ensures.added
          c.of.ensures L (set a.kept.now a.t a.s) (set a.costs.now a.t c.nanometres.result) kept-is cost_is g.last B c.requires.tree.1;
      others = (same, (λ u d. get_or-set_other a.costs.now a.t u c.nanometres.result 0 d));
      zeros = zeros_but a.t a.kept.now (set a.kept.now a.t a.s) same (λ z. absurd (c.if-kept-t-eq0.false z)) (λ w. omega (arith, kept-is, c.requires.tree.1.0));
    }

pub returns-else-lt : goal.returns-else-lt
returns-else-lt c =
    let a = c.args in
    let g = a.tree in
    let e = c.edge_to-new in
    let L = leads_else {a = e.result.added.0} {v = e.result.lower} {b = c.of.result.0} {u = get_or a.kept.now a.t 0} c.lt.result c.if-lt.false (tested e.result (record { added = c.of.result; lower = get_or a.kept.now a.t 0 }) c.lt.ensures) in record {
      kept = λ w B. offered_stays g.parents.now g.xs.now g.ys.now a.kept.now a.costs.now a.s a.t e.result.lower e.result.added.0 c.of.result.0 e.ensures.lower e.ensures.added
          c.of.ensures L g.last B;
      others = ((λ u d. refl), (λ u d. refl));
      zeros = λ u. ((λ z. z), (λ z. z));
    }
