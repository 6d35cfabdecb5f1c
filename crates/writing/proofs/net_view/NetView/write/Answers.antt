-- The net is put: the head, and the sinks where it ends.
use Rattle.std.proofs.Common.{arith}
use Rattle.formats.proofs.Laws.Writing.{fits_first, fits_next, puts_both}
use Rattle.writing.proofs.Laws.Lines.{fits_as, put_as}
use Rattle.writing.proofs.Laws.NetParts.{seen_head, seen_sinks, seen_head_is, seen_head_in_range, seen_parts}
use Rattle.writing.proofs.net_view.NetView.write.Goals as goal

pub put_head-next-requires : goal.put_head-next-requires
put_head-next-requires c =
    let v = c.args.self in
    let room = fits_as 0 _ _ (seen_parts v) c.args.out.now (omega arith) in
    record {
      head_in_range = seen_head_in_range v;
      room = omega (arith, fits_as 0 _ _ (seen_head_is v) c.args.out.now (fits_first _ 0 (seen_head v) (seen_sinks v) room));
    }

pub put_sinks-requires : goal.put_sinks-requires
put_sinks-requires c =
    let v = c.args.self in
    let room = fits_as 0 _ _ (seen_parts v) c.args.out.now (omega arith) in
    let head = put_as 0 _ _ (seen_head_is v) _ _ _ c.put_head-next.ensures in
    fits_next _ 0 (seen_head v) (seen_sinks v) room _ _ head

pub returns : goal.returns
returns c =
    let v = c.args.self in
    let room = fits_as 0 _ _ (seen_parts v) c.args.out.now (omega arith) in
    let head = put_as 0 _ _ (seen_head_is v) _ _ _ c.put_head-next.ensures in
    put_as 0 _ _ (seen_parts v) _ _ _ (puts_both _ 0 (seen_head v) (seen_sinks v) room _ _ head _ _ c.put_sinks.ensures)
