-- The length of the first five lines: the sum of five lines.
use Rattle.std.proofs.Common.{length, ap, ◌∙◌, arith}
use Rattle.writing.proofs.Laws.NetLines.{root_line_lem, branch_line_lem, wire_line_lem, need_line_lem, count_line_lem, head_parts}
use Rattle.writing.proofs.net_length.head_length.Goals as goal

pub returns : goal.returns
returns c =
    let h = c.args.header in
    let root = c.args.root in
    let n = c.args.n in
    omega (
      arith,
      c.line_length-first.ensures.value ∙ ap length (root_line_lem h root n c.requires),
      c.line_length-second.ensures.value ∙ ap length (branch_line_lem h root n c.requires _ c.attoseconds.ensures),
      c.line_length-third.ensures.value ∙ ap length (wire_line_lem h root n c.requires _ _ c.attoseconds_per_nanometre-horizontal.ensures c.attoseconds_per_nanometre-vertical.ensures),
      c.line_length-fourth.ensures.value ∙ ap length (need_line_lem h root n c.requires _ c.attoseconds-2.ensures),
      c.line_length-fifth.ensures.value ∙ ap length (count_line_lem h root n c.requires),
      head_parts h root n,
    )
