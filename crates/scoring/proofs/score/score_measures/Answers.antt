-- The lesser of slack and cap is scored by the two weights, or 14 is told. No loop.
use Rattle.std.proofs.Common.{◌≡◌, Bool, ℤ, arith, sym, ap, subst, ◌∙◌}
use Rattle.std.specs.Prelude.{Ok}
use mir.Facts.{to_z-of_z}
use Rattle.quantities.specs.declared.time.Time.{Time}
use Rattle.quantities.specs.MinMax.{min_ℤ}
use Rattle.quantities.specs.Inner.Linear.{whole}
use Rattle.quantities.proofs.Laws.MinMax.{min_is}
use Rattle.quantities.proofs.Laws.Times.{least_of}
use Rattle.scoring.specs.Limits.{parts, FromZero}
use Rattle.scoring.specs.Binary64.{of1024ths}
use Rattle.scoring.specs.Exact.{score1024ths}
use Rattle.scoring.specs.Scores.{is_scored, score_answer}
use Rattle.scoring.specs.Inner.Weighing.{Scorable}
use Rattle.scoring.proofs.Laws.Scores.{scored_only, scored_no, scored_yes}
use Rattle.scoring.proofs.score.score_measures.Goals as goal

-- what the test tells
tested : {A B cap m A' B' cap' m' : ℤ} {r : Bool} → r ≡ is_scored A B cap m → A ≡ A' → B ≡ B' → cap ≡ cap' → m ≡ m' → r ≡ is_scored A' B' cap' m'
tested e f g h k = e ∙ (λ i. is_scored (f i) (g i) (h i) (k i))

pub returns-then-not-is_scored : goal.returns-then-not-is_scored
returns-then-not-is_scored c =
    let a = c.args in
    let least = ap (λ (z : Time). z.0) c.min-capped.ensures ∙ least_of a.measures.slack c.of.result ∙ ap (min_ℤ a.measures.slack.0) (c.of.ensures ∙ to_z-of_z c.ranges.cap) in
    let t = tested c.is_scored.ensures (to_z-of_z c.ranges.alpha_1024ths) (to_z-of_z c.ranges.beta_1024ths) (to_z-of_z c.ranges.cap) least in
    sym (ap score_answer (scored_no a.alpha_1024ths a.beta_1024ths a.cap (min_ℤ a.measures.slack.0 a.cap) a.measures.wire.0 (sym t ∙ c.if-not-is_scored.true)))

pub of-weights-requires : goal.of-weights-requires
of-weights-requires c =
    let a = c.args in
    let least = ap (λ (z : Time). z.0) c.min-capped.ensures ∙ least_of a.measures.slack c.of.result ∙ ap (min_ℤ a.measures.slack.0) (c.of.ensures ∙ to_z-of_z c.ranges.cap) in
    let t = tested c.is_scored.ensures (to_z-of_z c.ranges.alpha_1024ths) (to_z-of_z c.ranges.beta_1024ths) (to_z-of_z c.ranges.cap) least in
    let r = scored_only a.alpha_1024ths a.beta_1024ths a.cap (min_ℤ a.measures.slack.0 a.cap) (sym t ∙ c.if-not-is_scored.false) in
    (subst (FromZero parts) (sym (to_z-of_z c.ranges.alpha_1024ths)) r.0, subst (FromZero parts) (sym (to_z-of_z c.ranges.beta_1024ths)) r.1)

pub score-score-requires : goal.score-score-requires
score-score-requires c =
    let a = c.args in
    let least = ap (λ (z : Time). z.0) c.min-capped.ensures ∙ least_of a.measures.slack c.of.result ∙ ap (min_ℤ a.measures.slack.0) (c.of.ensures ∙ to_z-of_z c.ranges.cap) in
    let t = tested c.is_scored.ensures (to_z-of_z c.ranges.alpha_1024ths) (to_z-of_z c.ranges.beta_1024ths) (to_z-of_z c.ranges.cap) least in
    let r = scored_only a.alpha_1024ths a.beta_1024ths a.cap (min_ℤ a.measures.slack.0 a.cap) (sym t ∙ c.if-not-is_scored.false) in
    let m : Scorable (min_ℤ a.measures.slack.0 a.cap) = (r.3, omega (arith, whole, r.2, min_is a.measures.slack.0 a.cap)) in
    ((_, (_, c.of-weights.ensures)), subst Scorable (sym least) m, c.requires)

pub returns : goal.returns
returns c =
    let a = c.args in
    let least = ap (λ (z : Time). z.0) c.min-capped.ensures ∙ least_of a.measures.slack c.of.result ∙ ap (min_ℤ a.measures.slack.0) (c.of.ensures ∙ to_z-of_z c.ranges.cap) in
    let t = tested c.is_scored.ensures (to_z-of_z c.ranges.alpha_1024ths) (to_z-of_z c.ranges.beta_1024ths) (to_z-of_z c.ranges.cap) least in
    let made : c.score-score.result ≡ of1024ths (score1024ths a.alpha_1024ths a.beta_1024ths (min_ℤ a.measures.slack.0 a.cap) a.measures.wire.0) =
    c.score-score.ensures _ _ c.of-weights.ensures
    ∙ (λ i. of1024ths (score1024ths (to_z-of_z c.ranges.alpha_1024ths i) (to_z-of_z c.ranges.beta_1024ths i) (least i) a.measures.wire.0)) in
    ap Ok made ∙ sym (ap score_answer (scored_yes a.alpha_1024ths a.beta_1024ths a.cap (min_ℤ a.measures.slack.0 a.cap) a.measures.wire.0 (sym t ∙ c.if-not-is_scored.false)))
