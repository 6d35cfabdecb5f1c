-- By the two distances from the root. No loop.
use Rattle.std.proofs.Common.{ℕ, Bool, List, cond, ltb, ◌≡◌, sym, ap, ap₂, ◌∙◌, subst, arith}
use Rattle.std.specs.Prelude.{ℤ}
use Rattle.quantities.specs.declared.point.Point.{Point}
use Rattle.quantities.specs.Distance.{distance}
use Rattle.quantities.specs.Ranges.{PointWithin}
use Rattle.quantities.specs.Inner.Reach.{coordinate_reach}
use Rattle.tree.specs.Inner.Arrays.{point_at}
use Rattle.tree.proofs.Laws.Measures.InReach.{point_reach}
use Rattle.short_tree.proofs.Laws.Edges.{less_length}
use Rattle.short_tree.proofs.choose.nearer.Goals as goal

pub distance-old-requires : goal.distance-old-requires
distance-old-requires c =
    let p = c.requires.1 in (
      subst (PointWithin coordinate_reach) (sym c.point-root.ensures) (point_reach _ (p.0.near 0 (omega arith))),
      subst (PointWithin coordinate_reach) (sym c.point.ensures) (point_reach _ (p.0.near c.args.best (omega arith))),
    )

pub distance-new-requires : goal.distance-new-requires
distance-new-requires c =
    let p = c.requires.1 in (
      subst (PointWithin coordinate_reach) (sym c.point-root.ensures) (point_reach _ (p.0.near 0 (omega arith))),
      subst (PointWithin coordinate_reach) (sym c.point-2.ensures) (point_reach _ (p.0.near c.args.s (omega arith))),
    )

-- the test, by the sinks' own distances
closer : (xs ys : List ℤ) (best s : ℕ) {root p q : Point} {old new : ℕ} {t : Bool} → root ≡ point_at xs ys 0 → p ≡ point_at xs ys best → q ≡ point_at xs ys s → old ≡ distance root p → new ≡ distance root q → t ≡ ltb new old
    → t ≡ ltb (distance (point_at xs ys 0) (point_at xs ys s)) (distance (point_at xs ys 0) (point_at xs ys best))
closer xs ys best s r p q o n t = t ∙ ap₂ ltb (n ∙ ap₂ distance r q) (o ∙ ap₂ distance r p)

pub returns-then-lt : goal.returns-then-lt
returns-then-lt c =
    let a = c.args in
    let e = closer a.xs.now a.ys.now a.best a.s c.point-root.ensures c.point.ensures c.point-2.ensures c.distance-old.ensures c.distance-new.ensures (c.lt.ensures ∙ less_length c.distance-new.result c.distance-old.result) in
    sym (ap (λ (t : Bool). cond t a.s a.best) (sym e ∙ c.if-lt.true))

pub returns-else-lt : goal.returns-else-lt
returns-else-lt c =
    let a = c.args in
    let e = closer a.xs.now a.ys.now a.best a.s c.point-root.ensures c.point.ensures c.point-2.ensures c.distance-old.ensures c.distance-new.ensures (c.lt.ensures ∙ less_length c.distance-new.result c.distance-old.result) in
    sym (ap (λ (t : Bool). cond t a.s a.best) (sym e ∙ c.if-lt.false))
