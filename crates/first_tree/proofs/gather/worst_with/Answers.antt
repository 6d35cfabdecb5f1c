-- The worst slack becomes the lesser of itself and what was handed up. No loop.
use Rattle.std.proofs.Common.{ap, ◌∙◌, set, get_or, pos, ℤ, rules}
use mir.Facts.{to_z-of_z}
use mir.Syntax.{w64}
use mir.Val.{SFits}
use Rattle.quantities.specs.MinMax.{min_ℤ}
use Rattle.quantities.specs.declared.time.Time.{Time}
use Rattle.quantities.proofs.Laws.Times.{least_of}
use Rattle.first_tree.proofs.gather.worst_with.Goals as goal

pub returns : goal.returns
returns c =
    let a = c.args in
    let read : SFits w64 (get_or a.slacks.now 0 (pos 0)) = search rules in
    let made : SFits w64 c.attoseconds.result = search rules in
    let e = to_z-of_z made ∙ c.attoseconds.ensures ∙ ap (λ (t : Time). t.0) c.min.ensures ∙ least_of _ _ ∙ ap (λ (z : ℤ). min_ℤ z a.least.0) (c.of.ensures ∙ to_z-of_z read) in
    λ i. set a.slacks.now 0 (e i)
