-- The measures that judge gives are in the ranges of a listing. Assumes nothing.
use Prim.Native.Nat.{ℕ, ◌≤◌}
use mathlib.Core.Path.{◌≡◌, sym, subst, ◌∙◌}
use mathlib.Core.List.{List, []}
use Rattle.quantities.specs.Ranges.{Within}
use Rattle.tree.specs.Net.{Net, size}
use Rattle.tree.specs.Limits.{slack_limit, wire_limit}
use Rattle.formats.specs.Outcome.{value}
use Rattle.formats.specs.NetText.{InFormat}
use Rattle.formats.specs.ListingText.{ListingInFormat}
use Rattle.formats.proofs.Laws.Lines.DueTexts.{never}
use Rattle.operations.specs.Answers.{Judgement, judge_of}
use Rattle.operations.specs.Demands.{Demand2}
use Rattle.operations.proofs.Laws.Demands.{demands}
use Rattle.operations.proofs.Laws.PlanListing.{plan_in_range}

abbrev pub MeasuresIn : Judgement → Type 0
MeasuresIn j = Within slack_limit j.slack × (j.wire ≤ wire_limit) × Within slack_limit j.best

module _ (net listing : List ℕ) (j : Judgement) (judged : judge_of net listing ≡ value j) where
  pub judged_in_range : MeasuresIn j
  judged_in_range =
      let read = (demands.first net listing []).judge_read (λ e h f. never j e (sym judged ∙ h)) in
      let N : Net = read.0 in
      let F : InFormat net N = read.1 in
      let second : Demand2 net N = demands.second net N F in
      let third = demands.third net N F in
      let found = (second.accepted listing).0 (j, judged) in
      let format : ListingInFormat (size N) listing found.0 = found.1.0 in
      let measured = second.measured listing found.0 format j judged in
      let states = found.1.1 in (
        subst (Within slack_limit) (states.1 ∙ sym measured.0) format.in_range.slack,
        subst (λ (w : ℕ). w ≤ wire_limit) (states.2 ∙ sym measured.1) format.in_range.wire,
        subst (Within slack_limit) (third.1.1.attained.1 ∙ sym (third.1.1.best listing j judged)) (plan_in_range N F.in_range).slack,
      )
