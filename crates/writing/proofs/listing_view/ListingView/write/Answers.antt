-- The listing is put: head, leaves and nodes, each where the part before it ends.
use Rattle.std.proofs.Common.{◌++◌, arith}
use Rattle.formats.proofs.Laws.Writing.{fits_first, fits_next, puts_both}
use Rattle.writing.proofs.Laws.Lines.{fits_as, put_as}
use Rattle.writing.proofs.Laws.ListingLines.{head_part, leaves_part, nodes_part, seen_parts}
use Rattle.writing.proofs.listing_view.ListingView.write.Goals as goal

pub put_head-first-requires : goal.put_head-first-requires
put_head-first-requires c =
    let v = c.args.self in
    let room = fits_as 0 _ _ (seen_parts v) c.args.out.now (omega arith) in
    omega (arith, fits_first _ 0 (head_part v) (leaves_part v) (fits_first _ 0 (head_part v ++ leaves_part v) (nodes_part v) room))

pub put_leaves-second-requires : goal.put_leaves-second-requires
put_leaves-second-requires c =
    let v = c.args.self in
    let room = fits_as 0 _ _ (seen_parts v) c.args.out.now (omega arith) in
    fits_next _ 0 (head_part v) (leaves_part v) (fits_first _ 0 (head_part v ++ leaves_part v) (nodes_part v) room) _ _ c.put_head-first.ensures

pub put_nodes-requires : goal.put_nodes-requires
put_nodes-requires c =
    let v = c.args.self in
    let room = fits_as 0 _ _ (seen_parts v) c.args.out.now (omega arith) in
    let two = puts_both _ 0 (head_part v) (leaves_part v) (fits_first _ 0 (head_part v ++ leaves_part v) (nodes_part v) room) _ _ c.put_head-first.ensures _ _ c.put_leaves-second.ensures in
    fits_next _ 0 (head_part v ++ leaves_part v) (nodes_part v) room _ _ two

pub returns : goal.returns
returns c =
    let v = c.args.self in
    let room = fits_as 0 _ _ (seen_parts v) c.args.out.now (omega arith) in
    let two = puts_both _ 0 (head_part v) (leaves_part v) (fits_first _ 0 (head_part v ++ leaves_part v) (nodes_part v) room) _ _ c.put_head-first.ensures _ _ c.put_leaves-second.ensures in
    put_as 0 _ _ (seen_parts v) _ _ _ (puts_both _ 0 (head_part v ++ leaves_part v) (nodes_part v) room _ _ two _ _ c.put_nodes.ensures)
