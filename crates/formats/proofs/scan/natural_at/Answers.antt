-- Digits spell a number or not: no digit, a 0 with a sign, a 0 before more digits, a 0 alone, or no 0 first, case by case. No loop.
use Rattle.std.proofs.Common.{sym, ◌∙◌}
use Rattle.std.proofs.lemmas.Bool.{false≢true}
use Rattle.formats.proofs.Laws.Numbers.Spelling.{run_within, by_none, by_sign, by_long, by_zero, by_plain, equal, unequal}
use Rattle.formats.proofs.scan.natural_at.Goals as goal
use Rattle.formats.proofs.scan.natural_at.Goals.{then-neg, else-neg, else-text-from-eq-ZERO-via-then-text-from-eq-ZERO+else-run-from-2, else-text-from-eq-ZERO-via-else-text-from-eq-ZERO}

pub returns-then-run-from : goal.returns-then-run-from
returns-then-run-from c = by_none _ _ _ _ c.digits_at-run.ensures c.if-run-from.true

pub bounds-text-from : goal.bounds-text-from
bounds-text-from c = run_within _ _ _ _ c.digits_at-run.ensures c.requires c.if-run-from.false

pub returns-then-run-from-2 : goal.returns-then-run-from-2
returns-then-run-from-2 c =
    elim c.if-neg.branch [
      | then-neg w ↦ by_sign _ _ _ _ c.digits_at-run.ensures c.if-run-from.false c.if-text-from-eq-ZERO.true w.if-neg.true
      | else-neg w ↦ by_long _ _ _ _ c.digits_at-run.ensures c.if-run-from.false c.if-text-from-eq-ZERO.true (unequal _ _ (sym w.value-is ∙ c.if-run-from-2.true))
    ]

pub returns : goal.returns
returns c =
    elim c.else-text-from-eq-ZERO.branch [
      | else-text-from-eq-ZERO-via-then-text-from-eq-ZERO+else-run-from-2 w ↦
          elim w.if-neg.branch [
            | then-neg u ↦ absurd (false≢true (sym w.if-run-from-2.false ∙ u.value-is ∙ u.if-neg.true))
            | else-neg u ↦ by_zero _ _ _ _ c.digits_at-run.ensures c.if-run-from.false w.if-text-from-eq-ZERO.true u.if-neg.false (equal _ _ (sym u.value-is ∙ w.if-run-from-2.false))
          ]
      | else-text-from-eq-ZERO-via-else-text-from-eq-ZERO w ↦ by_plain _ _ _ _ c.digits_at-run.ensures c.if-run-from.false w.if-text-from-eq-ZERO.false
    ]
