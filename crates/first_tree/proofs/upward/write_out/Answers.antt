-- One place more is written: the chain leads from the vertex at place i to the one before it.
use Rattle.std.proofs.Common.{◌≡◌, ℕ, suc, ◌-◌, get_or, ap, ◌∙◌, arith}
use Rattle.tree.proofs.Laws.Trees.Upward.{written_next}
use Rattle.first_tree.proofs.upward.write_out.Goals as goal

pub loop-i-preserved : goal.loop-i-preserved
loop-i-preserved c us C =
    let l = c.loop-i in
    let i : ℕ = l.i - 1 in
    let e : l.i ≡ suc i = omega arith in
    let w = l.invariant us C in
    written_next us c.args.below.now C i l.at l.upward (omega arith) (omega arith) (w.0 ∙ ap (λ (z : ℕ). get_or us z 0) e) (λ h x y. w.1 h (omega arith) y)
