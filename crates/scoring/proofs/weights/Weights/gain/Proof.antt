-- The product of alpha and the slack is exact. No loop.
use mathlib.Core.Path.{◌≡◌, sym, subst, ◌∙◌}
use lib.Dec.{T}
use lib.IntN.{◌*ℤ◌}
use lib.Ieee.{binary64, in_float, of_int, mul}
use mir.Facts.{to_z-of_z}
use Rattle.quantities.specs.Inner.Linear.{fit, rd}
use Rattle.scoring.specs.Exact.{gain}
use Rattle.scoring.specs.Inner.Weighing.{ExactProduct}
use Rattle.scoring.proofs.Laws.Weighing.{slack_castable, gain_made}
use borrow.Author.Rules.{rules}
use Rattle.scoring.proofs.weights.Weights.gain.Statement.{statement}
use Rattle.scoring.proofs.weights.Weights.gain.Tie as tie

attoseconds-m-requires : tie.Need-attoseconds-m-requires
attoseconds-m-requires c κs = search rules

-- the slack's number, as it is cast
cast-slack : (c : tie.After-attoseconds-m) → rd c.attoseconds-m.result ≡ c.args.slack.0
cast-slack c = to_z-of_z (fit c.attoseconds-m.result c.attoseconds-m.type_inv) ∙ c.attoseconds-m.ensures

int_to_float-m : tie.Need-int_to_float-m
int_to_float-m c = let s = c in subst (λ z. T (in_float binary64 z)) (sym (cast-slack c.before)) (slack_castable s.args.slack.0 s.requires.1)

returns : tie.Need-returns
returns c A B h =
    let s = c in
    let m = s.args.slack.0 in
    subst (λ z. ExactProduct (mul binary64 s.args.self.alpha (of_int binary64 z)) (gain A m) (A *ℤ m)) (sym (cast-slack c.before.before)) (gain_made s.args.self A B h m s.requires.1)

pub gain_spec : {M : Type 1} → statement M
gain_spec = tie.close (tie.spec attoseconds-m-requires int_to_float-m returns)
