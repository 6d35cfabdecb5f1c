-- Each constant is the same number as in specs/Limits, by computation. No loop.
use mathlib.Core.Path.{refl}
use Rattle.tree.proofs.limits.limits_agree.Statement.{statement}
use Rattle.tree.proofs.limits.limits_agree.Tie as tie

returns : tie.Need-returns
returns c = (refl, (refl, (refl, (refl, (refl, (refl, (refl, (refl, refl))))))))

pub limits_agree_spec : {M : Type 1} → statement M
limits_agree_spec = tie.close (tie.spec returns)
