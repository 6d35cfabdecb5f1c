-- The two new vertices get their levels and numbers from those of v: the stores are those of the contract, and each number fits. No loop.
use Rattle.std.proofs.Common.{◌≤◌, ◌*◌, ◌∙◌, get_or, pos, ◌*ℤ◌, arith, rules}
use Rattle.std.specs.Prelude.{nat_abs}
use mir.Facts.{to_z-of_z}
use mir.Syntax.{w64}
use mir.Val.{SFits}
use Rattle.quantities.specs.Inner.Linear.{whole, mul-le, nat_abs_is}
use Rattle.quantities.specs.Inner.Reach.{term_reach, factor_reach}
use Rattle.first_tree.proofs.gather.hang_new.Goals as goal

pub sub-requires : goal.sub-requires
sub-requires c =
    let a = c.args in
    let p = c.requires.v_bound in
    let level = get_or a.levels.now a.v 0 in
    let read : SFits w64 (get_or a.own.now a.s (pos 0)) = search rules in
    let own = c.of-2.ensures ∙ to_z-of_z read in
    let m : nat_abs (a.branch.0 *ℤ pos level) ≤ term_reach * factor_reach = mul-le a.branch.0 (pos level) term_reach factor_reach (omega (arith, whole, nat_abs_is a.branch.0)) (omega arith) in
    omega (arith, whole, own, c.mul.ensures, nat_abs_is (a.branch.0 *ℤ pos level))
