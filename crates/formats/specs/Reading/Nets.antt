-- How a net text is read: a step for each kind of line, and the refusal of 02's request 2. The net and the weights of its sinks are told apart. Definitions alone.
use Rattle.std.specs.Prelude.{ℕ, zero, suc, ◌+◌, true, false, List, [], ◌∷◌, map, length, ltb, ℤ, nat_abs}
use Rattle.quantities.specs.declared.metal_pair.MetalPair.{MetalPair}
use Rattle.quantities.specs.declared.point.Point.{Point}
use Rattle.quantities.specs.Distance.{distance}
use Rattle.quantities.specs.Inner.Linear.{up}
use Rattle.tree.specs.Net.{Net}
use Rattle.tree.specs.Limits.{branch_limit, need_limit, sink_limit}
use Rattle.formats.specs.Limits.{net_length_limit, pin_limit}
use Rattle.formats.specs.Outcome.{Outcome, value, refused, and_then}
use Rattle.formats.specs.Ranges.{around, up_to, at}
use Rattle.formats.specs.NetText.{root_key, branch_key, wire_key, need_key, sinks_key, sink_key, WeightedSink, position_ranges, point_of, factor_ranges, sink_ranges}
use Rattle.formats.specs.Reading.Lines.{Read, reading, due, due_number, due_natural, ended}
use Rattle.formats.specs.declared.refusal.Text.TheVariants.{InNet}
use Rattle.formats.specs.declared.refusal.Refusal.TheVariants.{TooLong, FarPin}

-- what a net says before its sinks
pub record Head : Type 0 where
  pub root : Point
  pub branch : ℕ
  pub wire : MetalPair
  pub need : ℤ
  pub count : ℕ

-- a line's two numbers are the factors h and v
abbrev pub metals_of : List ℤ → MetalPair
metals_of zs = record { horizontal = record { 0 = nat_abs (at zs 0) }; vertical = record { 0 = nat_abs (at zs 1) } }

-- one step for each kind of line
abbrev pub due_root : List ℕ → Outcome (Read Point)
due_root s = reading point_of (due InNet 1 root_key position_ranges s)

abbrev pub due_branch : List ℕ → Outcome (Read ℕ)
due_branch s = due_natural InNet 2 branch_key (up_to branch_limit) s

abbrev pub due_wire : List ℕ → Outcome (Read MetalPair)
due_wire s = reading metals_of (due InNet 3 wire_key factor_ranges s)

abbrev pub due_need : List ℕ → Outcome (Read ℤ)
due_need s = due_number InNet 4 need_key (around need_limit) s

abbrev pub due_count : List ℕ → Outcome (Read ℕ)
due_count s = due_natural InNet 5 sinks_key (up_to sink_limit) s

abbrev pub read_head : List ℕ → Outcome (Read Head)
read_head s =
    and_then (due_root s) λ root.
    and_then (due_branch root.rest) λ branch.
    and_then (due_wire branch.rest) λ wire.
    and_then (due_need wire.rest) λ need.
    and_then (due_count need.rest) λ count.
    value (record {
      got = record { root = root.got; branch = branch.got; wire = wire.got; need = need.got; count = count.got };
      rest = count.rest;
    })

abbrev pub sink_of : List ℤ → WeightedSink
sink_of zs = record { sink = record { point = point_of zs; required = at zs 2 }; weight = up (at zs 3) }

-- 02, request 2: "Turned away: 13, text 1, the sink's line"
abbrev pub near_only : Point → ℕ → Read WeightedSink → Outcome (Read WeightedSink)
near_only root l sink = elim (ltb pin_limit (distance root sink.got.sink.point)) [ true ↦ refused (FarPin l) | false ↦ value sink ]

-- the line of a sink, line l: "in each line 2, 3", and 13 "right after 3 on that line"
abbrev pub due_sink : Point → ℕ → List ℕ → Outcome (Read WeightedSink)
due_sink root l s = and_then (reading sink_of (due InNet l sink_key sink_ranges s)) (near_only root l)

-- k lines of sinks, from line l on
abbrev pub read_sinks : Point → ℕ → ℕ → List ℕ → Outcome (Read (List WeightedSink))
read_sinks root zero l s = value (record { got = []; rest = s })
read_sinks root (suc k) l s = and_then (due_sink root l s) λ sink. reading (λ sinks. sink.got ∷ sinks) (read_sinks root k (suc l) sink.rest)

-- the lines of the n sinks, and the text's end
abbrev pub read_rest : Point → ℕ → List ℕ → Outcome (List WeightedSink)
read_rest root n s = and_then (read_sinks root n 6 s) λ sinks. ended InNet (n + 6) sinks.got sinks.rest

-- a net, and the weights of its sinks
pub record WeightedNet : Type 0 where
  pub net : Net
  pub weights : List ℕ

abbrev pub net_with : Head → List WeightedSink → WeightedNet
net_with h sinks = record {
  net = record { root = h.root; branch = h.branch; wire = h.wire; need = h.need; sinks = map (λ s. s.sink) sinks };
  weights = map (λ s. s.weight) sinks;
}

abbrev pub read_net_lines : List ℕ → Outcome WeightedNet
read_net_lines s =
    and_then (read_head s) λ head.
    and_then (read_rest head.got.root head.got.count head.rest) λ sinks.
    value (net_with head.got sinks)

-- "length first; then line by line"
unfoldable pub read_weighted : List ℕ → Outcome WeightedNet
read_weighted s = elim (ltb net_length_limit (length s)) [ true ↦ refused (TooLong InNet) | false ↦ read_net_lines s ]

-- the net alone, for all that does not look at weights
unfoldable pub read_net : List ℕ → Outcome Net
read_net s = and_then (read_weighted s) λ M. value M.net
