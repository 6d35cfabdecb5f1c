-- The length of a node's line: the line of four numbers is the node's.
use Rattle.std.proofs.Common.{◌≤◌, length, ap, ◌∙◌, arith, rules}
use Rattle.writing.proofs.Laws.ListingLines.{seen_small, node_writable, node_line}
use Rattle.writing.proofs.listing_view.ListingView.node_length.Goals as goal

pub overflow_cast-self : goal.overflow_cast-self
overflow_cast-self c =
    let some : 1 ≤ c.args.k = omega arith in
    record { sfits = omega (arith, seen_small c.args.self c.args.k some c.requires.1) }

pub line_length-requires : goal.line_length-requires
line_length-requires c =
    (search rules, (search rules, node_writable c.args.self c.args.k c.requires.0 c.requires.1))

pub returns : goal.returns
returns c = c.line_length.ensures.value ∙ ap length (node_line c.args.self c.args.k c.requires.0 c.requires.1)
