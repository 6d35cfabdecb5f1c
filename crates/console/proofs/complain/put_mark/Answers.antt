-- The colon and the line are put, nothing where no line is meant.
use Rattle.std.proofs.Common.{◌+◌, ◌^◌, ◌≤◌, ◌<◌, ◌++◌, ℕ, List, length, length-append, arith, sym, subst}
use Rattle.formats.specs.Bytes.{bytes}
use Rattle.formats.specs.Decimal.{show_nat}
use Rattle.formats.specs.Inner.Writing.{Puts}
use Rattle.formats.proofs.Laws.Writing.{over_nil, fits_next, puts_both}
use Rattle.console.specs.Words.{line_mark}
use Rattle.console.specs.Inner.Rooms.{mark_room}
use Rattle.console.proofs.Laws.Rooms.{natural_short, mark_is}
use Rattle.console.proofs.complain.put_mark.Goals as goal

room : (at line : ℕ) (out : List ℕ) → at + mark_room ≤ length out → line < 2 ^ 64 → at + length (bytes ":" ++ show_nat line) ≤ length out
room at line out r h = omega (arith, length-append (bytes ":") (show_nat line), natural_short line h)

pub returns-then-line-eq0 : goal.returns-then-line-eq0
returns-then-line-eq0 c =
    let a = c.args in
    subst (λ (l : ℕ). Puts a.out.now a.at (line_mark l) a.at a.out.now) (sym c.if-line-eq0.true) (omega arith, sym (over_nil _ _))

pub put_natural-requires : goal.put_natural-requires
put_natural-requires c =
    let a = c.args in
    fits_next _ _ (bytes ":") (show_nat a.line) (room a.at a.line a.out.now c.requires (omega (arith, c.ranges.line))) _ _ c.put_bytes-next.ensures

pub returns : goal.returns
returns c =
    let a = c.args in
    rw (mark_is a.line c.if-line-eq0.false) (puts_both _ _ (bytes ":") (show_nat a.line) (room a.at a.line a.out.now c.requires (omega (arith, c.ranges.line))) _ _ c.put_bytes-next.ensures _ _ c.put_natural.ensures)
