-- A number and the stop byte are put: the byte where the number ends.
use Rattle.std.proofs.Common.{[], ◌∷◌, arith}
use mir.Facts.{to_z-of_z}
use Rattle.formats.specs.Decimal.{show}
use Rattle.formats.proofs.Laws.Writing.{fits_first, fits_next, puts_both}
use Rattle.formats.proofs.write.put_one_then.Goals as goal

pub put_number-next-requires : goal.put_number-next-requires
put_number-next-requires c =
    rw (to_z-of_z c.ranges.a) (fits_first _ _ (show c.args.a) (c.args.stop ∷ []) c.requires)

pub put_byte-requires : goal.put_byte-requires
put_byte-requires c =
    let first = rw (to_z-of_z c.ranges.a) at c.put_number-next.ensures in
    let next = fits_next _ _ (show c.args.a) (c.args.stop ∷ []) c.requires _ _ first in
    omega arith

pub returns : goal.returns
returns c =
    let first = rw (to_z-of_z c.ranges.a) at c.put_number-next.ensures in
    puts_both _ _ (show c.args.a) (c.args.stop ∷ []) c.requires _ _ first _ _ c.put_byte.ensures
