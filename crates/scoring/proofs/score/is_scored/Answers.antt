-- The four tests are those of the definition, in its order. No loop.
use Rattle.std.proofs.Common.{sym, ap, ◌∙◌}
use mir.Facts.{to_z-of_z}
use Rattle.scoring.specs.Limits.{parts, cap_limit}
use Rattle.scoring.specs.Scores.{is_from_zero}
use Rattle.scoring.proofs.Laws.Scores.{no_alpha, no_beta, no_cap, by_slack, late_says}
use Rattle.scoring.proofs.score.is_scored.Goals as goal
use Rattle.scoring.proofs.score.is_scored.Goals.{then-is_from_zero, else-is_from_zero, then-is_from_zero-2, else-is_from_zero-2}

pub returns-then-is_from_zero-3 : goal.returns-then-is_from_zero-3
returns-then-is_from_zero-3 c =
    let a = c.args in
    let alpha = ap (is_from_zero parts) (sym (to_z-of_z c.ranges.alpha_1024ths)) ∙ sym c.is_from_zero.ensures in
    elim c.if-is_from_zero.branch [
      | then-is_from_zero w ↦
          elim c.if-is_from_zero-2.branch [
            | then-is_from_zero-2 v ↦
                let beta = ap (is_from_zero parts) (sym (to_z-of_z c.ranges.beta_1024ths)) ∙ sym w.is_from_zero-then-is_from_zero.ensures in
                let cap = ap (is_from_zero cap_limit) (sym (to_z-of_z c.ranges.cap)) ∙ sym v.is_from_zero-then-is_from_zero-2.ensures in
                c.ge.ensures ∙ late_says a.capped.0 c.of.result.0
                ∙ (rw c.of.ensures (by_slack a.alpha_1024ths a.beta_1024ths a.cap a.capped.0 (alpha ∙ w.if-is_from_zero.true) (beta ∙ sym w.value-is ∙ v.if-is_from_zero-2.true) (cap ∙ sym v.value-is ∙ c.if-is_from_zero-3.true)))
            | else-is_from_zero-2 v ↦ cc
          ]
      | else-is_from_zero w ↦ elim c.if-is_from_zero-2.branch [ then-is_from_zero-2 v ↦ cc | else-is_from_zero-2 v ↦ cc ]
    ]

pub returns-else-is_from_zero-3 : goal.returns-else-is_from_zero-3
returns-else-is_from_zero-3 c =
    let a = c.args in
    let alpha = ap (is_from_zero parts) (sym (to_z-of_z c.ranges.alpha_1024ths)) ∙ sym c.is_from_zero.ensures in
    c.if-is_from_zero-3.false
    ∙ elim c.if-is_from_zero.branch [
      | then-is_from_zero w ↦
          let beta = ap (is_from_zero parts) (sym (to_z-of_z c.ranges.beta_1024ths)) ∙ sym w.is_from_zero-then-is_from_zero.ensures in
          elim c.if-is_from_zero-2.branch [
            | then-is_from_zero-2 v ↦
                let cap = ap (is_from_zero cap_limit) (sym (to_z-of_z c.ranges.cap)) ∙ sym v.is_from_zero-then-is_from_zero-2.ensures in
                no_cap a.alpha_1024ths a.beta_1024ths a.cap a.capped.0 (alpha ∙ w.if-is_from_zero.true) (beta ∙ sym w.value-is ∙ v.if-is_from_zero-2.true) (cap ∙ sym v.value-is ∙ c.if-is_from_zero-3.false)
            | else-is_from_zero-2 v ↦ no_beta a.alpha_1024ths a.beta_1024ths a.cap a.capped.0 (alpha ∙ w.if-is_from_zero.true) (beta ∙ sym w.value-is ∙ v.if-is_from_zero-2.false)
          ]
      | else-is_from_zero w ↦ no_alpha a.alpha_1024ths a.beta_1024ths a.cap a.capped.0 (alpha ∙ w.if-is_from_zero.false)
    ]
