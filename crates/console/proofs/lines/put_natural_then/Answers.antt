-- The digits are put, and where they end the bytes after them.
use Rattle.formats.specs.Decimal.{show_nat}
use Rattle.formats.proofs.Laws.Writing.{puts_both}
use Rattle.console.proofs.lines.put_natural_then.Goals as goal

pub returns : goal.returns
returns c =
    let a = c.args in
    puts_both a.out.now a.at (show_nat a.n) a.stop.now c.requires _ _ c.put_natural-next.ensures _ _ c.put_bytes.ensures
