-- The length of a leaf's line: the line of two numbers is the leaf's.
use Rattle.std.proofs.Common.{◌*◌, ◌<◌, length, ap, ◌∙◌, arith, rules}
use Rattle.writing.proofs.Laws.ListingLines.{seen_parents, seen_small, leaf_writable, leaf_line}
use Rattle.writing.proofs.listing_view.ListingView.leaf_length.Goals as goal

pub overflow_cast-self : goal.overflow_cast-self
overflow_cast-self c =
    let v = c.args.self in
    let inside : c.args.k < 2 * v.n = omega (arith, (seen_parents v).some) in
    record { sfits = omega (arith, seen_small v c.args.k c.requires.0 inside) }

pub line_length-requires : goal.line_length-requires
line_length-requires c =
    let v = c.args.self in
    let inside : c.args.k < 2 * v.n = omega (arith, (seen_parents v).some) in
    (search rules, (search rules, leaf_writable v c.args.k c.requires.0 inside))

pub returns : goal.returns
returns c =
    let v = c.args.self in
    let inside : c.args.k < 2 * v.n = omega (arith, (seen_parents v).some) in
    c.line_length.ensures.value ∙ ap length (leaf_line v c.args.k c.requires.0 inside)
