-- Which texts tell of a sink too far from the root: 02, request 2, 'Pins across the die'. Definitions alone.
use Rattle.std.specs.Prelude.{ℕ, ◌+◌, ◌≤◌, ◌<◌, ◌≡◌, List, ◌++◌, length}
use Rattle.tree.specs.Net.{Net, size}
use Rattle.tree.specs.Limits.{sink_limit, InRange, WeightsInRange}
use Rattle.formats.specs.Limits.{net_length_limit, pin_limit}
use Rattle.formats.specs.NetText.{net_lines, pin_distance}

-- sink v is the first "more than" the pin limit "from the root"
pub record FirstFar (N : Net) (v : ℕ) : Type 0 where
  pub sink : (1 ≤ v) × (v ≤ size N)
  pub near : (u : ℕ) → 1 ≤ u → u < v → pin_distance N u ≤ pin_limit
  pub far : pin_limit < pin_distance N v

-- the text s tells of such a sink on line l: "right after 3 on that line", so the lines up to this one are due and in range; what follows it is not looked at
pub record FarPinAt (s : List ℕ) (l : ℕ) : Type 0 where
  -- what the lines up to l say; the sink on line l is its last
  pub net : Net
  pub weights : List ℕ
  -- what `sinks=` says
  pub count : ℕ
  pub rest : List ℕ
  pub spelled : s ≡ net_lines count net weights ++ rest
  pub in_range : InRange net
  pub weighed : WeightsInRange (size net) weights
  pub counted : (size net ≤ count) × (count ≤ sink_limit)
  pub first_far : FirstFar net (size net)
  -- "the sink's line"
  pub line_is : l ≡ size net + 5
  pub short : length s ≤ net_length_limit
