-- The line of sink k is put: its two numbers fit, and the line of two numbers is the sink's.
use Rattle.std.proofs.Common.{◌*◌, ◌<◌, arith, rules}
use Rattle.writing.proofs.Laws.Lines.{fits_as, put_as}
use Rattle.writing.proofs.Laws.ListingLines.{seen_parents, seen_small, leaf_writable, leaf_line}
use Rattle.writing.proofs.listing_view.ListingView.put_leaf.Goals as goal

pub overflow_cast-self : goal.overflow_cast-self
overflow_cast-self c =
    let v = c.args.self in
    let inside : c.args.k < 2 * v.n = omega (arith, (seen_parents v).some) in
    record { sfits = omega (arith, seen_small v c.args.k c.requires.inside.0 inside) }

pub put_line-requires : goal.put_line-requires
put_line-requires c =
    let v = c.args.self in
    let inside : c.args.k < 2 * v.n = omega (arith, (seen_parents v).some) in
    let line = leaf_line v c.args.k c.requires.inside.0 inside in
    (search rules, (search rules, (leaf_writable v c.args.k c.requires.inside.0 inside, fits_as _ _ _ line c.args.out.now c.requires.room)))

pub returns : goal.returns
returns c =
    let v = c.args.self in
    let inside : c.args.k < 2 * v.n = omega (arith, (seen_parents v).some) in
    put_as _ _ _ (leaf_line v c.args.k c.requires.inside.0 inside) _ _ _ c.put_line.ensures
