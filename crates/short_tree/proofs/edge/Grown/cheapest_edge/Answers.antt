-- A vertex that waits has no edge; of the best edge and the edge to v, the one that goes before is taken. At the end all are seen.
use Rattle.std.proofs.Common.{◌+◌, refl, sym, ◌∙◌, subst, arith}
use Rattle.short_tree.specs.declared.edge.Edge.{Edge}
use Rattle.short_tree.specs.Inner.Arrays.{Seen, Cheapest}
use Rattle.short_tree.proofs.Laws.EdgeSearch.{scan_skip, scan_better, scan_end}
use Rattle.short_tree.proofs.edge.Grown.cheapest_edge.Goals as goal
use Rattle.short_tree.proofs.edge.Grown.cheapest_edge.Goals.{then-kept-v-eq0, else-kept-v-eq0}

pub loop-v-preserved : goal.loop-v-preserved
loop-v-preserved c =
    let a = c.args in
    let t = a.self in
    let l = c.loop-v in
    elim c.if-kept-v-eq0.branch [
      | then-kept-v-eq0 w ↦ scan_better a.kept.now t.parents.now t.xs.now t.ys.now a.s a.from l.v l.best.lower l.best.added.0 l.invariant
          l.best w.edge_to.result c.if-kept-v-eq0.best (w.best-is ∙ w.min-best.ensures) refl refl (omega arith) w.if-kept-v-eq0.true w.edge_to.ensures.lower w.edge_to.ensures.added
      | else-kept-v-eq0 w ↦ subst (λ (e : Edge). Cheapest (Seen a.kept.now a.from (l.v + 1)) t.parents.now t.xs.now t.ys.now a.s e.lower e.added.0) (sym w.best-is)
          (scan_skip a.kept.now t.parents.now t.xs.now t.ys.now a.s a.from l.v l.best.lower l.best.added.0 l.invariant w.if-kept-v-eq0.false)
    ]

pub returns-after-kept-v-eq0 : goal.returns-after-kept-v-eq0
returns-after-kept-v-eq0 c =
    let a = c.args in
    let t = a.self in
    let l = c.loop-v in
    let e = c.if-kept-v-eq0.best in
    scan_end a.kept.now t.parents.now t.xs.now t.ys.now a.s a.from t.last (l.v + 1) e.lower e.added.0 (omega arith) c.requires.1
    (elim c.if-kept-v-eq0.branch [
      | then-kept-v-eq0 w ↦ scan_better a.kept.now t.parents.now t.xs.now t.ys.now a.s a.from l.v l.best.lower l.best.added.0 l.invariant
          l.best w.edge_to.result c.if-kept-v-eq0.best (w.best-is ∙ w.min-best.ensures) refl refl (omega arith) w.if-kept-v-eq0.true w.edge_to.ensures.lower w.edge_to.ensures.added
      | else-kept-v-eq0 w ↦ subst (λ (e : Edge). Cheapest (Seen a.kept.now a.from (l.v + 1)) t.parents.now t.xs.now t.ys.now a.s e.lower e.added.0) (sym w.best-is)
          (scan_skip a.kept.now t.parents.now t.xs.now t.ys.now a.s a.from l.v l.best.lower l.best.added.0 l.invariant w.if-kept-v-eq0.false)
    ])
