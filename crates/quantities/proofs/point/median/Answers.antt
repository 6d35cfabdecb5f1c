-- The middle one of three numbers, as the library's least and greatest give it. No loop.
use Rattle.std.proofs.Common.{ap₂, ◌∙◌, w64}
use Rattle.std.specs.Int.{int_min, int_max}
use mir.Val.{SFits}
use mir.Facts.{to_z-of_z}
use Rattle.quantities.specs.MinMax.{min_ℤ, max_ℤ}
use Rattle.quantities.specs.Median.{median}
use Rattle.quantities.proofs.Laws.MinMax.{least_of, greatest_of}
use Rattle.quantities.proofs.point.median.Goals as goal

pub returns : goal.returns
unfolding median
returns c =
    let a = c.args in
    let fa : SFits w64 a.a = c.ranges.a in
    let fb : SFits w64 a.b = c.ranges.b in
    let fc : SFits w64 a.c = c.ranges.c in
    let fl : SFits w64 c.min.result = record { sfits = c.min.type_inv } in
    let fm : SFits w64 c.max.result = record { sfits = c.max.type_inv } in
    let fn : SFits w64 c.min-2.result = record { sfits = c.min-2.type_inv } in
    let fr : SFits w64 c.max-2.result = record { sfits = c.max-2.type_inv } in
    let least = c.min.ensures.value ∙ ap₂ int_min (to_z-of_z fa) (to_z-of_z fb) ∙ least_of a.a a.b in
    let most = c.max.ensures.value ∙ ap₂ int_max (to_z-of_z fa) (to_z-of_z fb) ∙ greatest_of a.a a.b in
    let capped = c.min-2.ensures.value ∙ ap₂ int_min (to_z-of_z fm ∙ most) (to_z-of_z fc) ∙ least_of (max_ℤ a.a a.b) a.c in
    to_z-of_z fr ∙ c.max-2.ensures.value ∙ ap₂ int_max (to_z-of_z fl ∙ least) (to_z-of_z fn ∙ capped) ∙ greatest_of (min_ℤ a.a a.b) (min_ℤ (max_ℤ a.a a.b) a.c)
