-- The ranges of document 01, 'The net text' and 'The tree listing', as 02's requests 4, 5 and 7 have them, each once. Definitions alone.
use Rattle.std.specs.Prelude.{ℕ, ◌≤◌, ◌≡◌, List, length}
use Rattle.quantities.specs.declared.metal_pair.MetalPair.{MetalPair}
use Rattle.quantities.specs.declared.wire_factor.WireFactor.{WireFactor}
use Rattle.quantities.specs.Ranges.{Within, PointWithin, FactorWithin}
use Rattle.tree.specs.Net.{Net, size, sink_at, required}
use Rattle.tree.specs.Weights.{weight_of}

-- 02, request 5: "Positions become -100,000,000 to 100,000,000 nanometres"
abbrev pub position_limit : ℕ
position_limit = 100_000_000

-- "with c 1 to 1,000,000,000"
abbrev pub branch_limit : ℕ
branch_limit = 1_000_000_000

-- 02, request 4: h and v, "each 1 to 10,000"; request 5: "h and v keep their numbers"
abbrev pub wire_factor_limit : ℕ
wire_factor_limit = 10_000

-- 01: "t -2,000,000,000,000 to 2,000,000,000,000"; request 5: "the ends of t, a and W 1,000 times as far out"
abbrev pub need_limit : ℕ
need_limit = 2_000_000_000_000_000

-- 01: "n 1 to 512"
abbrev pub sink_limit : ℕ
sink_limit = 512

-- 01: "a (required arrival) -1,000,000,000,000 to 1,000,000,000,000", "1,000 times as far out"
abbrev pub required_limit : ℕ
required_limit = 1_000_000_000_000_000

-- 01: "W -4,000,000,000,000 to 4,000,000,000,000", "1,000 times as far out"
abbrev pub slack_limit : ℕ
slack_limit = 4_000_000_000_000_000

-- request 5: "and L to 1,000,000,000,000"
abbrev pub wire_limit : ℕ
wire_limit = 1_000_000_000_000

-- 02, request 7: "its weight, 1 to 1,000"
abbrev pub weight_limit : ℕ
weight_limit = 1_000

abbrev pub FactorInRange : WireFactor → Type 0
FactorInRange f = (1 ≤ f.0) × FactorWithin wire_factor_limit f

abbrev pub FactorsInRange : MetalPair → Type 0
FactorsInRange w = FactorInRange w.horizontal × FactorInRange w.vertical

pub record InRange (N : Net) : Type 0 where
  pub root : PointWithin position_limit N.root
  pub branch : (1 ≤ N.branch) × (N.branch ≤ branch_limit)
  pub wire : FactorsInRange N.wire
  pub need : Within need_limit N.need
  pub sinks : (1 ≤ size N) × (size N ≤ sink_limit)
  pub points : (s : ℕ) → 1 ≤ s → s ≤ size N → PointWithin position_limit (sink_at N s)
  pub required : (s : ℕ) → 1 ≤ s → s ≤ size N → Within required_limit (required N s)

-- a weight for each of n sinks
pub record WeightsInRange (n : ℕ) (w : List ℕ) : Type 0 where
  pub size : length w ≡ n
  pub each : (s : ℕ) → 1 ≤ s → s ≤ n → (1 ≤ weight_of w s) × (weight_of w s ≤ weight_limit)
