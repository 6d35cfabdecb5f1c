-- The product of the factor and the length is the delay, and fits. No loop.
use native.Mathlib.Omega.{arith}
use native.Mathlib.Nat.{mul-le-mul}
use mathlib.Core.Path.{◌≡◌, ap, ◌∙◌}
use Prim.Native.Nat.{ℕ, ◌*◌, ◌≤◌}
use lib.IntN.{pos}
use mir.Facts.{to_z-of_z}
use Rattle.quantities.specs.Delay.{length_delay}
use Rattle.quantities.specs.Inner.Reach.{factor_reach, coordinate_reach}
use Rattle.quantities.specs.Inner.Linear.{whole}
use borrow.Author.Rules.{rules}
use Rattle.quantities.proofs.wire_factor.WireFactor.delay.Statement.{statement}
use Rattle.quantities.proofs.wire_factor.WireFactor.delay.Tie as tie

nanometres-requires : tie.Need-nanometres-requires
nanometres-requires c κs = search rules

-- the product is the delay
product_is : (c : tie.After-struct_known-1) → c.args.self.0 * c.nanometres.result ≡ length_delay c.args.self c.args.length.0
product_is c = ap (λ (n : ℕ). c.args.self.0 * n) c.nanometres.ensures

small : (c : tie.After-struct_known-1) → c.args.self.0 * c.nanometres.result ≤ factor_reach * (2 * coordinate_reach)
small c = let h = c.requires in omega (arith, product_is c, mul-le-mul {n₂ = factor_reach} {m₂ = 2 * coordinate_reach} h.0 h.1)

overflow_mul-product : tie.Need-overflow_mul-product
overflow_mul-product c = omega (arith, small c)

overflow_cast-product : tie.Need-overflow_cast-product
overflow_cast-product c = omega (arith, whole, small c)

of-requires : tie.Need-of-requires
of-requires c κs = search rules

returns : tie.Need-returns
returns c = c.of.ensures ∙ to_z-of_z (overflow_cast-product c.before) ∙ ap pos (product_is c.before)

pub delay_spec : {M : Type 1} → statement M
delay_spec = tie.close (tie.spec nanometres-requires overflow_mul-product overflow_cast-product of-requires returns)
