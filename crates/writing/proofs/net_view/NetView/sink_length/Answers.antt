-- The length of a sink's line: the line of four numbers is the sink's.
use Rattle.std.proofs.Common.{length, ap, ◌∙◌, rules}
use Rattle.writing.proofs.Laws.NetLines.{sink_writable, sink_line_lem}
use Rattle.writing.proofs.Laws.NetParts.{seen_sink}
use Rattle.writing.proofs.net_view.NetView.sink_length.Goals as goal

pub line_length-requires : goal.line_length-requires
line_length-requires c =
    let v = c.args.self in
    let sink = seen_sink v c.args.k c.requires.0 c.requires.1 in
    (search rules, (search rules, sink_writable v.xs.now v.ys.now v.required.now v.weights.now c.args.k sink))

pub returns : goal.returns
returns c =
    let v = c.args.self in
    let sink = seen_sink v c.args.k c.requires.0 c.requires.1 in
    c.line_length.ensures.value ∙ ap length (sink_line_lem v.xs.now v.ys.now v.required.now v.weights.now c.args.k sink)
