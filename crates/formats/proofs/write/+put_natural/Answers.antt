-- One digit alone, or the digits of n / 10 by the function itself and the last one after them.
use Rattle.std.proofs.Common.{[], ◌∷◌, ◌+◌, ◌/◌, ◌%◌, arith}
use Rattle.formats.specs.Decimal.{show_nat}
use Rattle.formats.proofs.Laws.Numbers.Decimal.{show_nat_small, show_nat_large}
use Rattle.formats.proofs.Laws.Writing.{fits_first, fits_next, puts_both}
use Rattle.formats.proofs.write.+put_natural.Goals as goal

pub put_byte-requires : goal.put_byte-requires
put_byte-requires t c =
    let room = rw (show_nat_small c.args.n c.if-n-lt10.true) at c.requires in
    omega arith

pub returns-then-n-lt10 : goal.returns-then-n-lt10
returns-then-n-lt10 t c = rw (show_nat_small c.args.n c.if-n-lt10.true) c.put_byte.ensures

pub put_natural-next-requires : goal.put_natural-next-requires
put_natural-next-requires t c =
    let n = c.args.n in
    let room = rw (show_nat_large n c.if-n-lt10.false) at c.requires in
    (omega arith, fits_first c.args.out.now _ (show_nat (n / 10)) ((48 + n % 10) ∷ []) room)

pub put_byte-requires-2 : goal.put_byte-requires-2
put_byte-requires-2 t c =
    let n = c.args.n in
    let room = rw (show_nat_large n c.if-n-lt10.false) at c.requires in
    let next = fits_next _ _ (show_nat (n / 10)) ((48 + n % 10) ∷ []) room _ _ c.put_natural-next.ensures in
    omega arith

pub returns : goal.returns
returns t c =
    let n = c.args.n in
    let large = c.if-n-lt10.false in
    let room = rw (show_nat_large n large) at c.requires in
    rw (show_nat_large n large) (puts_both _ _ (show_nat (n / 10)) ((48 + n % 10) ∷ []) room _ _ c.put_natural-next.ensures _ _ c.put_byte-2.ensures)
