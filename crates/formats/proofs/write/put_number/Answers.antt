-- A number is put as it is spelt: a minus sign where it is negative, then the digits of its magnitude.
use Rattle.std.proofs.Common.{[], ◌∷◌, arith}
use mir.Facts.{to_z-of_z}
use Rattle.formats.proofs.Laws.Numbers.Decimal.{show_minus, show_plain}
use Rattle.formats.proofs.Laws.Writing.{fits_next, puts_both}
use Rattle.formats.proofs.write.put_number.Goals as goal

pub put_byte-next-requires : goal.put_byte-next-requires
put_byte-next-requires c =
    let minus = show_minus c.args.z (rw (to_z-of_z c.ranges.z) at c.if-z-lt0.true) in
    let room = rw minus at c.requires in
    omega arith

pub put_natural-requires : goal.put_natural-requires
put_natural-requires c =
    let minus = show_minus c.args.z (rw (to_z-of_z c.ranges.z) at c.if-z-lt0.true) in
    let size = rw (to_z-of_z c.ranges.z) at c.unsigned_abs-size.ensures.value in
    rw size (fits_next _ _ (45 ∷ []) _ (rw minus at c.requires) _ _ c.put_byte-next.ensures)

pub returns-then-z-lt0 : goal.returns-then-z-lt0
returns-then-z-lt0 c =
    let minus = show_minus c.args.z (rw (to_z-of_z c.ranges.z) at c.if-z-lt0.true) in
    let size = rw (to_z-of_z c.ranges.z) at c.unsigned_abs-size.ensures.value in
    let digits = rw size at c.put_natural.ensures in
    rw minus (puts_both _ _ (45 ∷ []) _ (rw minus at c.requires) _ _ c.put_byte-next.ensures _ _ digits)

pub put_natural-requires-2 : goal.put_natural-requires-2
put_natural-requires-2 c =
    let plain = show_plain c.args.z (rw (to_z-of_z c.ranges.z) at c.if-z-lt0.false) in
    let size = rw (to_z-of_z c.ranges.z) at c.unsigned_abs-size.ensures.value in
    rw size (rw plain at c.requires)

pub returns : goal.returns
returns c =
    let plain = show_plain c.args.z (rw (to_z-of_z c.ranges.z) at c.if-z-lt0.false) in
    let size = rw (to_z-of_z c.ranges.z) at c.unsigned_abs-size.ensures.value in
    rw plain (rw size at c.put_natural-2.ensures)
