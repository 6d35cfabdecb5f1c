-- The sum of the two directions' delays is the delay, and fits. No loop.
use Rattle.std.proofs.Common.{◌≡◌, ℕ, ◌*◌, ◌≤◌, ℤ, pos, ◌+ℤ◌, w64, to_z, of_z, ap, ap₂, ◌∙◌, arith}
use mir.Val.{SFits}
use mir.Facts.{to_z-of_z}
use Rattle.quantities.specs.declared.wire_factor.WireFactor.{WireFactor}
use Rattle.quantities.specs.Distance.{span}
use Rattle.quantities.specs.Delay.{length_delay, delay}
use Rattle.quantities.specs.Ranges.{Within, FactorWithin}
use Rattle.quantities.specs.Inner.Reach.{factor_reach, coordinate_reach, time_reach}
use Rattle.quantities.specs.Inner.Linear.{whole}
use Rattle.quantities.proofs.Laws.Distance.{span_within}
use Rattle.quantities.proofs.Laws.Delay.{along_within}
use Rattle.quantities.proofs.metal_pair.MetalPair.delay.Goals as goal

-- what a span is, at the coordinates themselves
module _ (a b : ℤ) (ra : Within coordinate_reach a) (rb : Within coordinate_reach b) (l : ℕ) (spans : l ≡ span (to_z w64 (of_z w64 a)) (to_z w64 (of_z w64 b))) where
  spanned : l ≡ span a b
  spanned =
      let f : SFits w64 a = omega (arith, whole) in
      let g : SFits w64 b = omega (arith, whole) in
      spans ∙ ap₂ span (to_z-of_z f) (to_z-of_z g)

  span_fits : l ≤ 2 * coordinate_reach
  span_fits = omega (arith, spanned, span_within coordinate_reach a b ra rb)

  -- and the delay along it
  along : (w : WireFactor) (d : ℤ) → d ≡ pos (length_delay w l) → d ≡ pos (length_delay w (span a b))
  along w d delays = delays ∙ ap (λ k. pos (length_delay w k)) spanned

  along_fits : (w : WireFactor) → FactorWithin factor_reach w → (d : ℤ) → d ≡ pos (length_delay w l) → Within time_reach d
  along_fits w rw d delays = omega (arith, whole, along w d delays, along_within w factor_reach coordinate_reach a b rw ra rb)

pub delay-across-requires : goal.delay-across-requires
delay-across-requires c =
    let a = c.args in
    let r = c.requires in
    (r.0.0, span_fits a.p.x a.q.x r.1.0 r.2.0 _ c.span.ensures)

pub delay-upward-requires : goal.delay-upward-requires
delay-upward-requires c =
    let a = c.args in
    let r = c.requires in
    (r.0.1, span_fits a.p.y a.q.y r.1.1 r.2.1 _ c.span-2.ensures)

pub add-requires : goal.add-requires
add-requires c =
    let a = c.args in
    let r = c.requires in (
      along_fits a.p.x a.q.x r.1.0 r.2.0 _ c.span.ensures a.self.horizontal r.0.0 _ c.delay-across.ensures,
      along_fits a.p.y a.q.y r.1.1 r.2.1 _ c.span-2.ensures a.self.vertical r.0.1 _ c.delay-upward.ensures,
    )

pub returns : goal.returns
unfolding delay
returns c =
    let a = c.args in
    let r = c.requires in
    c.add.ensures
    ∙ ap₂ ◌+ℤ◌ (along a.p.x a.q.x r.1.0 r.2.0 _ c.span.ensures a.self.horizontal _ c.delay-across.ensures) (along a.p.y a.q.y r.1.1 r.2.1 _ c.span-2.ensures a.self.vertical _ c.delay-upward.ensures)
