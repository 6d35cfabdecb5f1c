-- The measures that judge answers are in the ranges of a listing. Assumes nothing.
use Rattle.std.specs.Prelude.{ℕ, ◌≤◌, ◌≡◌, refl, List, Ok}
use Rattle.std.proofs.Common.{sym, subst, arith}
use Rattle.quantities.specs.Ranges.{Within}
use Rattle.tree.specs.Limits.{slack_limit, wire_limit}
use Rattle.formats.specs.Outcome.{Outcome, value, refused}
use Rattle.operations.specs.Answers.{Judgement, judge_of, judge_answer}
use Rattle.operations.specs.declared.answers.Judged.{Judged}
use Rattle.operations.proofs.Laws.Judgements.{judged_in_range}

abbrev InRange : Judged → Type 0
InRange j = Within slack_limit j.slack.0 × (j.wire.0 ≤ wire_limit) × Within slack_limit j.best.0

pub answer_in_range : (net listing : List ℕ) (j : Judged) → Ok j ≡ judge_answer (judge_of net listing) → InRange j
answer_in_range net listing j e = go (judge_of net listing) refl e
  where
    go : (o : Outcome Judgement) → judge_of net listing ≡ o → Ok j ≡ judge_answer o → InRange j
    go (refused x) h e = absurd (let z : ◌≡◌ {A = ℕ} 0 1 = cc in omega arith)
    go (value k) h e =
        let s : j ≡ record { slack = record { 0 = k.slack }; wire = record { 0 = k.wire }; best = record { 0 = k.best } } = cc in
        subst InRange (sym s) (judged_in_range net listing k h)
