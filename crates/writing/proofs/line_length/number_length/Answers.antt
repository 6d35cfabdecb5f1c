-- The length of a number: the digits of the magnitude, of which 64 bits have 20 at most, and one byte more for the sign.
use Rattle.std.proofs.Common.{◌≡◌, length, nat_abs, ap, arith}
use mir.Facts.{to_z-of_z}
use Rattle.formats.specs.Decimal.{show_nat}
use Rattle.formats.proofs.Laws.Numbers.Decimal.{show_nat-length, show_minus, show_plain}
use Rattle.writing.proofs.line_length.number_length.Goals as goal

pub overflow_add-result : goal.overflow_add-result
overflow_add-result c = omega (arith, c.natural_length-digits.ensures, show_nat-length c.unsigned_abs.result 20 (omega arith) (omega arith))

pub returns-then-z-lt0 : goal.returns-then-z-lt0
returns-then-z-lt0 c =
    let size = rw (to_z-of_z c.ranges.z) at c.unsigned_abs.ensures.value in
    let digits : c.natural_length-digits.result ≡ length (show_nat (nat_abs c.args.z)) = rw size at c.natural_length-digits.ensures in
    let minus = show_minus c.args.z (rw (to_z-of_z c.ranges.z) at c.if-z-lt0.true) in
    record {
      value = omega (arith, digits, ap length minus);
      few = omega (arith, c.natural_length-digits.ensures, show_nat-length c.unsigned_abs.result 20 (omega arith) (omega arith));
    }

pub returns-else-z-lt0 : goal.returns-else-z-lt0
returns-else-z-lt0 c =
    let size = rw (to_z-of_z c.ranges.z) at c.unsigned_abs.ensures.value in
    let digits : c.natural_length-digits.result ≡ length (show_nat (nat_abs c.args.z)) = rw size at c.natural_length-digits.ensures in
    let plain = show_plain c.args.z (rw (to_z-of_z c.ranges.z) at c.if-z-lt0.false) in
    record {
      value = omega (arith, digits, ap length plain);
      few = omega (arith, c.natural_length-digits.ensures, show_nat-length c.unsigned_abs.result 20 (omega arith) (omega arith));
    }
