-- Nets, trees and listings with their lengths and times multiplied by k: 02, request 5. Definitions alone.
use Rattle.std.specs.Prelude.{ℕ, ◌*◌, map, pos, ◌*ℤ◌}
use Rattle.quantities.specs.declared.point.Point.{Point}
use Rattle.tree.specs.Net.{Sink, Net}
use Rattle.tree.specs.Tree.{Tree}
use Rattle.formats.specs.ListingText.{Listing}
use Rattle.operations.specs.Answers.{Judgement}

-- the request's factor, nanometres in a micrometre
abbrev pub thousand : ℕ
thousand = 1_000

abbrev pub times_point : ℕ → Point → Point
times_point k p = record { x = p.x *ℤ pos k; y = p.y *ℤ pos k }

abbrev pub times_sink : ℕ → Sink → Sink
times_sink k s = record { point = times_point k s.point; required = s.required *ℤ pos k }

-- "every position, c, t and every a of the other multiplied by 1,000 [k], with h, v and n alike"
abbrev pub times_net : ℕ → Net → Net
times_net k N = record { root = times_point k N.root; branch = N.branch * k; wire = N.wire; need = N.need *ℤ pos k; sinks = map (times_sink k) N.sinks }

-- "the same parents, and .. branch positions 1,000 [k] times as large"
abbrev pub times_tree : ℕ → Tree → Tree
times_tree k T = record { parents = T.parents; points = map (times_point k) T.points }

-- and "slack, wire"
abbrev pub times_listing : ℕ → Listing → Listing
times_listing k G = record { slack = G.slack *ℤ pos k; wire = G.wire * k; tree = times_tree k G.tree }

-- what judge tells
abbrev pub times_judgement : ℕ → Judgement → Judgement
times_judgement k j = record { slack = j.slack *ℤ pos k; wire = j.wire * k; best = j.best *ℤ pos k }
