-- The product of beta and the wire is exact. No loop.
use mathlib.Core.Path.{sym, subst}
use lib.Dec.{T}
use lib.IntN.{pos, ◌*ℤ◌}
use lib.Ieee.{binary64, in_float, of_int, mul}
use Rattle.scoring.specs.Exact.{loss}
use Rattle.scoring.specs.Inner.Weighing.{ExactProduct}
use Rattle.scoring.proofs.Laws.Weighing.{wire_castable, loss_made}
use borrow.Author.Rules.{rules}
use Rattle.scoring.proofs.weights.Weights.loss.Statement.{statement}
use Rattle.scoring.proofs.weights.Weights.loss.Tie as tie

nanometres-l-requires : tie.Need-nanometres-l-requires
nanometres-l-requires c κs = search rules

int_to_float-l : tie.Need-int_to_float-l
int_to_float-l c = let s = c in subst (λ l. T (in_float binary64 (pos l))) (sym c.nanometres-l.ensures) (wire_castable s.args.wire.0 s.requires.1)

returns : tie.Need-returns
returns c A B h =
    let s = c in
    let l = s.args.wire.0 in
    subst (λ k. ExactProduct (mul binary64 s.args.self.beta (of_int binary64 (pos k))) (loss B l) (B *ℤ pos l)) (sym c.nanometres-l.ensures) (loss_made s.args.self A B h l s.requires.1)

pub loss_spec : {M : Type 1} → statement M
loss_spec = tie.close (tie.spec nanometres-l-requires int_to_float-l returns)
