-- The text of the net that a view lends. Definitions alone.
use Rattle.std.specs.Prelude.{ℕ, List}
use Rattle.writing.specs.declared.net_view.NetView.{NetView}
use Rattle.writing.specs.Inner.NetWriting.{net_held_text, sink_line}

abbrev pub net_seen_text : NetView → List ℕ
net_seen_text v = net_held_text v.header v.n v.xs.now v.ys.now v.required.now v.weights.now

-- the line of sink k
abbrev pub sink_seen_line : NetView → ℕ → List ℕ
sink_seen_line v k = sink_line v.xs.now v.ys.now v.required.now v.weights.now k
