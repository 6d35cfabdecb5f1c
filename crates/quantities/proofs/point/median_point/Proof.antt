-- The median of three points: that of their x and that of their y, each number as it was read. No loop.
use mathlib.Core.Path.{◌∙◌}
use mir.Facts.{to_z-of_z}
use Rattle.quantities.specs.Median.{median, median_point}
use Rattle.quantities.specs.Inner.Linear.{fit}
use borrow.Author.Rules.{rules}
use Rattle.quantities.proofs.point.median_point.Statement.{statement}
use Rattle.quantities.proofs.point.median_point.Tie as tie

median-requires : tie.Need-median-requires
median-requires c κs = search rules

median-requires-2 : tie.Need-median-requires-2
median-requires-2 c κs = search rules

returns : tie.Need-returns
unfolding median_point
returns c =
    let k = c in
    let a = k.args in
    let px = to_z-of_z (fit a.p.x k.struct_told-1.given.0.1) in
    let qx = to_z-of_z (fit a.q.x k.struct_told-2-1.given.0.1) in
    let rx = to_z-of_z (fit a.r.x k.struct_told-3-1.given.0.1) in
    let py = to_z-of_z (fit a.p.y c.struct_told-4-1.given.1.0.1) in
    let qy = to_z-of_z (fit a.q.y c.struct_told-5-1.given.1.0.1) in
    let ry = to_z-of_z (fit a.r.y c.struct_told-6-1.given.1.0.1) in
    let x = to_z-of_z (fit k.median.result k.median.type_inv) ∙ k.median.ensures ∙ (λ i. median (px i) (qx i) (rx i)) in
    let y = to_z-of_z (fit c.median-2.result c.median-2.type_inv) ∙ c.median-2.ensures ∙ (λ i. median (py i) (qy i) (ry i)) in
    λ i. record { x = x i; y = y i }

pub median_point_spec : {M : Type 1} → statement M
median_point_spec = tie.close (tie.spec median-requires median-requires-2 returns)
