-- A number is read or misspelt: after a minus sign or without one, by the byte that stands there. No loop.
use Rattle.std.proofs.Common.{◌∙◌}
use Rattle.formats.proofs.Laws.Numbers.Spelling.{by_minus, by_digit, past_end}
use Rattle.formats.proofs.scan.number_at.Goals as goal
use Rattle.formats.proofs.scan.number_at.Goals.{else-at-text-via-then-at-text+else-text-at-eq-MINUS, else-at-text-via-else-at-text}

pub returns-then-text-at-eq-MINUS : goal.returns-then-text-at-eq-MINUS
returns-then-text-at-eq-MINUS c = c.natural_at.ensures ∙ by_minus c.args.text.now c.args.at c.if-text-at-eq-MINUS.true

pub returns-else-at-text : goal.returns-else-at-text
returns-else-at-text c =
    let s = c.args.text.now in
    let at = c.args.at in
    c.natural_at-else-at-text.ensures
    ∙ by_digit s at (elim c.else-at-text.branch [
      | else-at-text-via-then-at-text+else-text-at-eq-MINUS w ↦ w.if-text-at-eq-MINUS.false
      | else-at-text-via-else-at-text w ↦ past_end s at w.if-at-text.false
    ])
