use Rattle.std.proofs.Common.{inl, inr, ◌∙◌}
use Rattle.formats.proofs.Laws.Lines.Rows.{Stops, row_wrong, row_more, row_all}
use Rattle.formats.proofs.scan.row_at.Goals as goal
use Rattle.formats.proofs.scan.row_at.Goals.{then-k, else-k}

pub returns-in_err-number : goal.returns-in_err-number
returns-in_err-number g c =
    let stops : Stops g.row.K c.loop-k.k c.if-k.stop = elim c.if-k.branch [ then-k w ↦ inl (w.if-k.true, w.stop-is) | else-k w ↦ inr (w.if-k.false, w.stop-is) ] in
    c.from_residual.ensures ∙ row_wrong _ _ _ _ _ _ c.loop-k.invariant c.loop-k-test.true _ stops c.in_err-number.ensures

pub loop-k-preserved : goal.loop-k-preserved
loop-k-preserved g c =
    let stops : Stops g.row.K c.loop-k.k c.if-k.stop = elim c.if-k.branch [ then-k w ↦ inl (w.if-k.true, w.stop-is) | else-k w ↦ inr (w.if-k.false, w.stop-is) ] in
    row_more _ _ _ _ _ _ c.loop-k.invariant c.loop-k-test.true c.in_ok-number.field-0 _ stops c.in_ok-number.ensures

pub returns : goal.returns
returns g c = row_all _ _ _ _ _ _ c.loop-k.invariant c.loop-k-test.false
