-- The text of a net that arrays hold, in the parts that the writer puts. Definitions alone.
use Rattle.std.specs.Prelude.{ℕ, ◌≤◌, List, [], ◌∷◌, ◌++◌, ℤ, pos}
use Rattle.quantities.specs.declared.point.Point.{Point}
use Rattle.quantities.specs.Ranges.{Within, PointWithin}
use Rattle.tree.specs.declared.header.Header.{Header}
use Rattle.tree.specs.Inner.Arrays.{net_of, weights_of}
use Rattle.tree.specs.Limits.{position_limit, branch_limit, need_limit, sink_limit, FactorsInRange}
use Rattle.formats.specs.Line.{line_text}
use Rattle.formats.specs.NetText.{root_key, branch_key, wire_key, need_key, sinks_key, sink_text, net_text}
use Rattle.formats.specs.Inner.Readers.{sink_held}

-- the text of the net in the arrays, with its weights
abbrev pub net_held_text : Header → ℕ → List ℤ → List ℤ → List ℤ → List ℤ → List ℕ
net_held_text h n xs ys required weights = net_text (net_of h n xs ys required) (weights_of n weights)

-- ---- the head

-- its five lines
abbrev pub root_line : Point → List ℕ
root_line root = line_text root_key (root.x ∷ (root.y ∷ []))

abbrev pub branch_line : Header → List ℕ
branch_line h = line_text branch_key (h.branch.0 ∷ [])

abbrev pub wire_line : Header → List ℕ
wire_line h = line_text wire_key (pos h.wire.horizontal.0 ∷ (pos h.wire.vertical.0 ∷ []))

abbrev pub need_line : Header → List ℕ
need_line h = line_text need_key (h.need.0 ∷ [])

abbrev pub count_line : ℕ → List ℕ
count_line n = line_text sinks_key (pos n ∷ [])

abbrev pub net_head_text : Header → Point → ℕ → List ℕ
net_head_text h root n = (((root_line root ++ branch_line h) ++ wire_line h) ++ need_line h) ++ count_line n

pub record HeadInRange (h : Header) (root : Point) (n : ℕ) : Type 0 where
  pub root_in : PointWithin position_limit root
  pub branch : Within branch_limit h.branch.0
  pub wire : FactorsInRange h.wire
  pub need : Within need_limit h.need.0
  pub few : n ≤ sink_limit

-- ---- the sinks

-- the line of sink k
abbrev pub sink_line : List ℤ → List ℤ → List ℤ → List ℤ → ℕ → List ℕ
sink_line xs ys required weights k = sink_text (sink_held xs ys required weights k)
