-- The line of sink k is put: its four numbers fit, and the line of four numbers is the sink's.
use Rattle.std.proofs.Common.{rules}
use Rattle.writing.proofs.Laws.Lines.{fits_as, put_as}
use Rattle.writing.proofs.Laws.NetLines.{sink_writable, sink_line_lem}
use Rattle.writing.proofs.Laws.NetParts.{seen_sink}
use Rattle.writing.proofs.net_view.NetView.put_sink.Goals as goal

pub put_line-requires : goal.put_line-requires
put_line-requires c =
    let v = c.args.self in
    let sink = seen_sink v c.args.k c.requires.inside.0 c.requires.inside.1 in
    let line = sink_line_lem v.xs.now v.ys.now v.required.now v.weights.now c.args.k sink in
    (search rules, (search rules, (sink_writable v.xs.now v.ys.now v.required.now v.weights.now c.args.k sink, fits_as _ _ _ line c.args.out.now c.requires.room)))

pub returns : goal.returns
returns c =
    let v = c.args.self in
    let sink = seen_sink v c.args.k c.requires.inside.0 c.requires.inside.1 in
    put_as _ _ _ (sink_line_lem v.xs.now v.ys.now v.required.now v.weights.now c.args.k sink) _ _ _ c.put_line.ensures
