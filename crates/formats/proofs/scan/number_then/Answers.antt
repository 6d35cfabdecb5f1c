-- A number with the stop byte after it is read, or not: no number, the end of the text, or another byte there. No loop.
use Rattle.std.proofs.Common.{◌∙◌}
use Rattle.formats.proofs.Laws.Numbers.Spelling.{then_wrong, then_short, then_unlike, then_like}
use Rattle.formats.proofs.scan.number_then.Goals as goal
use Rattle.formats.proofs.scan.number_then.Goals.{else-next-text-via-then-next-text+else-text-next, else-next-text-via-else-next-text}

pub returns-in_err-number : goal.returns-in_err-number
returns-in_err-number c = c.from_residual.ensures ∙ then_wrong c.args.text.now c.args.at c.args.stop c.in_err-number.ensures

pub returns-then-text-next : goal.returns-then-text-next
returns-then-text-next c = then_like _ _ _ c.in_ok-number.field-0 c.in_ok-number.ensures c.if-text-next.true

pub returns-else-next-text : goal.returns-else-next-text
returns-else-next-text c =
    elim c.else-next-text.branch [
      | else-next-text-via-then-next-text+else-text-next w ↦ then_unlike _ _ _ c.in_ok-number.field-0 c.in_ok-number.ensures w.if-text-next.false
      | else-next-text-via-else-next-text w ↦ then_short _ _ _ c.in_ok-number.field-0 c.in_ok-number.ensures w.if-next-text.false c.requires.1
    ]
