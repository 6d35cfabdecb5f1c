-- The distance of two points is the sum of the two spans, which fits for coordinates in reach. No loop.
use Rattle.std.proofs.Common.{w64, ap₂, ◌∙◌, arith}
use Rattle.std.specs.Prelude.{◌≡◌}
use mir.Val.{SFits}
use mir.Facts.{to_z-of_z}
use Rattle.quantities.specs.Inner.Reach.{coordinate_reach}
use Rattle.quantities.specs.Distance.{span, distance}
use Rattle.quantities.specs.Inner.Linear.{whole}
use Rattle.quantities.proofs.Laws.Distance.{span_within}
use Rattle.quantities.proofs.point.distance.Goals as goal

-- what the two calls gave, at the coordinates themselves
across : (c : goal.After-span-2) → c.span.result.0 ≡ span c.args.p.x c.args.q.x
across c =
    let a = c.args in
    let f : SFits w64 a.p.x = omega (arith, whole) in
    let g : SFits w64 a.q.x = omega (arith, whole) in
    c.span.ensures ∙ ap₂ span (to_z-of_z f) (to_z-of_z g)

along : (c : goal.After-span-2) → c.span-2.result.0 ≡ span c.args.p.y c.args.q.y
along c =
    let a = c.args in
    let f : SFits w64 a.p.y = omega (arith, whole) in
    let g : SFits w64 a.q.y = omega (arith, whole) in
    c.span-2.ensures ∙ ap₂ span (to_z-of_z f) (to_z-of_z g)

pub add-requires : goal.add-requires
add-requires c =
    let a = c.args in
    let p = c.requires.0 in
    let q = c.requires.1 in
    omega (
      arith,
      across c,
      along c,
      span_within coordinate_reach a.p.x a.q.x p.0 q.0,
      span_within coordinate_reach a.p.y a.q.y p.1 q.1,
    )

pub returns : goal.returns
unfolding distance
returns c = omega (arith, c.add.ensures, across c.before, along c.before)
