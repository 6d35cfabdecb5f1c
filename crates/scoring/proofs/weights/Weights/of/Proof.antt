-- The quotients are A/1024 and B/1024, exactly. No loop.
use mathlib.Core.Path.{sym, subst, ◌∙◌}
use native.Mathlib.Omega.{arith}
use lib.Dec.{T}
use lib.IntN.{pos}
use lib.Ieee.{binary64, in_float, of_int, div}
use mir.Facts.{to_z-of_z}
use Rattle.scoring.specs.Limits.{parts}
use Rattle.scoring.proofs.Laws.Parts.{castable}
use Rattle.scoring.proofs.Laws.Weighing.{weight_castable, quotient_is}
use Rattle.scoring.proofs.weights.Weights.of.Statement.{statement}
use Rattle.scoring.proofs.weights.Weights.of.Tie as tie

int_to_float-one : tie.Need-int_to_float-one
int_to_float-one c = castable _ (omega arith)

int_to_float-a : tie.Need-int_to_float-a
int_to_float-a c = let s = c in subst (λ z. T (in_float binary64 z)) (sym (to_z-of_z s.ranges.alpha_1024ths)) (weight_castable s.args.alpha_1024ths s.requires.0)

int_to_float-b : tie.Need-int_to_float-b
int_to_float-b c = let s = c in subst (λ z. T (in_float binary64 z)) (sym (to_z-of_z s.ranges.beta_1024ths)) (weight_castable s.args.beta_1024ths s.requires.1)

returns : tie.Need-returns
returns c =
    let s = c in
    record {
      alpha = (λ i. div binary64 (of_int binary64 (to_z-of_z s.ranges.alpha_1024ths i)) (of_int binary64 (pos parts))) ∙ quotient_is s.args.alpha_1024ths s.requires.0;
      beta = (λ i. div binary64 (of_int binary64 (to_z-of_z s.ranges.beta_1024ths i)) (of_int binary64 (pos parts))) ∙ quotient_is s.args.beta_1024ths s.requires.1;
      alpha_range = s.requires.0;
      beta_range = s.requires.1;
    }

pub of_spec : {M : Type 1} → statement M
of_spec = tie.close (tie.spec int_to_float-one int_to_float-a int_to_float-b returns)
