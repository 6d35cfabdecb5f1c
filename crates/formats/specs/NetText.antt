-- The net text: document 01, 'The net text', with the pin limit of 02's request 2, the two factors of its request 4 and the weights of its request 7. Its bytes, which texts are in the format, and the ranges on its lines. Definitions alone.
use Rattle.std.specs.Prelude.{ℕ, ◌≤◌, ◌≡◌, List, [], ◌∷◌, ◌++◌, length, ℤ, pos}
use Rattle.quantities.specs.declared.point.Point.{Point}
use Rattle.quantities.specs.Distance.{distance}
use Rattle.tree.specs.Net.{Net, Sink, size, sink_at}
use Rattle.tree.specs.Limits.{position_limit, wire_factor_limit, required_limit, weight_limit, InRange, WeightsInRange}
use Rattle.formats.specs.Limits.{net_length_limit, pin_limit}
use Rattle.formats.specs.Bytes.{bytes}
use Rattle.formats.specs.Line.{line_text}
use Rattle.formats.specs.Ranges.{around, up_to, at}
use Rattle.formats.specs.declared.ranges.Range.{Range}

-- ---- the bytes of a net

abbrev pub root_key : List ℕ
root_key = bytes "root="

abbrev pub branch_key : List ℕ
branch_key = bytes "branch="

abbrev pub wire_key : List ℕ
wire_key = bytes "wire="

abbrev pub need_key : List ℕ
need_key = bytes "need="

abbrev pub sinks_key : List ℕ
sinks_key = bytes "sinks="

abbrev pub sink_key : List ℕ
sink_key = bytes "sink="

-- a sink with its weight
pub record WeightedSink : Type 0 where
  pub sink : Sink
  pub weight : ℕ

-- 02, request 7: "Each sink line gains a fourth number, its weight": `sink=X,Y,a,w`
abbrev pub sink_text : WeightedSink → List ℕ
sink_text s = line_text sink_key (s.sink.point.x ∷ (s.sink.point.y ∷ (s.sink.required ∷ (pos s.weight ∷ []))))

abbrev pub sinks_text : List WeightedSink → List ℕ
sinks_text [] = []
sinks_text (s ∷ l) = sink_text s ++ sinks_text l

-- the sinks, each with its weight
abbrev pub weighted : List Sink → List ℕ → List WeightedSink
weighted [] w = []
weighted (s ∷ l) [] = []
weighted (s ∷ l) (a ∷ w) = record { sink = s; weight = a } ∷ weighted l w

-- "Lines in this order, each ended by the byte 10": `root=X,Y`, `branch=c`, `wire=h,v`, `need=t`, `sinks=n`, then a line `sink=X,Y,a,w` for each sink of N, of the weights w
unfoldable pub net_lines : ℕ → Net → List ℕ → List ℕ
net_lines n N w =
    line_text root_key (N.root.x ∷ (N.root.y ∷ []))
    ++ (line_text branch_key (pos N.branch ∷ [])
    ++ (line_text wire_key (pos N.wire.horizontal.0 ∷ (pos N.wire.vertical.0 ∷ []))
    ++ (line_text need_key (N.need ∷ [])
    ++ (line_text sinks_key (pos n ∷ [])
    ++ sinks_text (weighted N.sinks w)))))

-- "then n lines `sink=X,Y,a` for sinks 1 to n", each with its weight
abbrev pub net_text : Net → List ℕ → List ℕ
net_text N w = net_lines (size N) N w

-- how far sink v stands from the root, |dx| + |dy|, in nanometres
abbrev pub pin_distance : Net → ℕ → ℕ
pin_distance N v = distance N.root (sink_at N v)

-- "A net is in the format when it has exactly these lines, so spelled, in range and within its length."
-- 02, request 2: "Nets with such pins no longer count as nets in the format".
-- The weights stand beside the net N that the text is of.
pub record InFormat (s : List ℕ) (N : Net) : Type 0 where
  pub weights : List ℕ
  pub spelled : s ≡ net_text N weights
  pub in_range : InRange N
  pub weighed : WeightsInRange (size N) weights
  pub near : (v : ℕ) → 1 ≤ v → v ≤ size N → pin_distance N v ≤ pin_limit
  pub short : length s ≤ net_length_limit

-- ---- its lines: ranges, and the point that a line says

-- two numbers in one range
abbrev pub both : Range → List Range
both g = g ∷ (g ∷ [])

abbrev pub position_ranges : List Range
position_ranges = both (around position_limit)

-- a line's first two numbers are a point
abbrev pub point_of : List ℤ → Point
point_of zs = record { x = at zs 0; y = at zs 1 }

-- 02, request 4: "The net line becomes `wire=h,v`, each 1 to 10,000"
abbrev pub factor_ranges : List Range
factor_ranges = both (up_to wire_factor_limit)

-- 02, request 7: "its weight, 1 to 1,000"
abbrev pub sink_ranges : List Range
sink_ranges = around position_limit ∷ (around position_limit ∷ (around required_limit ∷ (up_to weight_limit ∷ [])))
