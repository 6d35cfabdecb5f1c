-- How far two coordinates lie apart: their difference without its sign, which fits in reach. No loop.
use Rattle.std.proofs.Common.{arith}
use Rattle.std.specs.Prelude.{◌-ℤ◌}
use Rattle.quantities.specs.Inner.Linear.{whole, -is, rd, nat_abs_is}
use Rattle.quantities.proofs.Laws.Distance.{span_is}
use Rattle.quantities.proofs.point.span.Goals as goal

pub returns : goal.returns
returns c = let a = c.args in omega (arith, whole, c.of.ensures, c.abs_diff.ensures, -is (rd a.a) (rd a.b), nat_abs_is (rd a.a -ℤ rd a.b), span_is a.a a.b)
