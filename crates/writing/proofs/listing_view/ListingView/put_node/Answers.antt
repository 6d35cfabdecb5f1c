-- The line of branch point k is put: its four numbers fit, and the line of four numbers is the node's.
use Rattle.std.proofs.Common.{◌≤◌, arith, rules}
use Rattle.writing.proofs.Laws.Lines.{fits_as, put_as}
use Rattle.writing.proofs.Laws.ListingLines.{seen_small, node_writable, node_line}
use Rattle.writing.proofs.listing_view.ListingView.put_node.Goals as goal

pub overflow_cast-self : goal.overflow_cast-self
overflow_cast-self c =
    let some : 1 ≤ c.args.k = omega arith in
    record { sfits = omega (arith, seen_small c.args.self c.args.k some c.requires.inside.1) }

pub put_line-requires : goal.put_line-requires
put_line-requires c =
    let inside = c.requires.inside in
    let line = node_line c.args.self c.args.k inside.0 inside.1 in
    (search rules, (search rules, (node_writable c.args.self c.args.k inside.0 inside.1, fits_as _ _ _ line c.args.out.now c.requires.room)))

pub returns : goal.returns
returns c =
    put_as _ _ _ (node_line c.args.self c.args.k c.requires.inside.0 c.requires.inside.1) _ _ _ c.put_line.ensures
