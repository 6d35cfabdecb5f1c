-- What is read at the old number was not yet written, since no number rises (closing_more).
use Rattle.std.proofs.Common.{◌≡◌, ℕ, ◌<◌, length, get_or, ap, ◌∙◌, arith}
use Rattle.std.proofs.lemmas.List.{get_or_read}
use Rattle.shorter_tree.specs.Inner.Arrays.{old}
use Rattle.shorter_tree.proofs.Laws.Closing.{closing_more}
use Rattle.shorter_tree.proofs.close_up.close_up.Goals as goal

pub loop-x-preserved : goal.loop-x-preserved
loop-x-preserved g c =
    let a = c.args in
    let l = c.loop-x in
    let v = c.old_number-v in
    let e = c.index-values-v in
    let number : v.result ≡ old a.s a.b l.x = v.ensures in
    let h : v.result < length l.values = omega (arith, number, c.requires.numbers.4 l.x (omega arith)) in
    closing_more _ a.s a.b l.x a.values.now l.values e.result c.f.result (omega arith) (omega arith)
    (λ d. get_or_read l.values _ _ h e.is d ∙ ap (λ (i : ℕ). get_or l.values i d) number) c.f.ensures l.invariant
