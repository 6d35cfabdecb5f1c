-- Each number fits behind what is put, and goes there with a comma or, as the last, the end byte.
use Rattle.std.proofs.Common.{◌≡◌, ◌+◌, ◌++◌, length, get_or, pos, add-one, arith, append-nil}
use Rattle.formats.specs.Line.{row_text}
use Rattle.formats.specs.Inner.Writing.{one_then}
use Rattle.formats.proofs.Laws.Writing.{row_front, row_none, row_more, row_last, row_all, number_fits, number_put, writable_back}
use Rattle.formats.proofs.write.put_line.Goals as goal
use Rattle.formats.proofs.write.put_line.Goals.{then-k, else-k}

pub loop-k-init : goal.loop-k-init
loop-k-init g c = rw (row_none c.args.values, append-nil) c.put_bytes-next.ensures

pub put_one_then-next-requires : goal.put_one_then-next-requires
put_one_then-next-requires g c =
    let values = c.args.values in
    let k = c.loop-k.k in
    let more : row_front values (k + 1) ≡ row_front values k ++ one_then (get_or values k (pos 0)) c.if-k.stop =
    rw add-one (elim c.if-k.branch [ then-k w ↦ rw w.stop-is (row_more values k (omega arith)) | else-k w ↦ rw w.stop-is (row_last values k (omega arith)) ]) in
    let writable = c.requires.writable k (pos 0) (omega arith) in
    rw (writable_back _ writable) (number_fits _ _ _ values k _ more c.requires.room _ _ c.loop-k.invariant)

pub loop-k-preserved : goal.loop-k-preserved
loop-k-preserved g c =
    let values = c.args.values in
    let k = c.loop-k.k in
    let more : row_front values (k + 1) ≡ row_front values k ++ one_then (get_or values k (pos 0)) c.if-k.stop =
    rw add-one (elim c.if-k.branch [ then-k w ↦ rw w.stop-is (row_more values k (omega arith)) | else-k w ↦ rw w.stop-is (row_last values k (omega arith)) ]) in
    let writable = c.requires.writable k (pos 0) (omega arith) in
    number_put _ _ _ values k _ more c.requires.room _ _ c.loop-k.invariant _ _ (rw (writable_back _ writable) at c.put_one_then-next.ensures)

pub returns : goal.returns
returns g c =
    let values = c.args.values in
    let e : c.loop-k.k ≡ length values = omega arith in
    let row : row_front values c.loop-k.k ≡ row_text values = rw e (row_all values (omega arith)) in
    rw row at c.loop-k.invariant
