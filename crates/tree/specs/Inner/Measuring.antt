-- The measures as the vertices are counted in, for the contracts of the measuring step. Definitions alone.
use Rattle.std.specs.Prelude.{ℕ, ◌+◌, ◌*◌, ◌-◌, ◌≤◌, cond, List, map, get_or, ltb, ℤ, pos}
use Rattle.quantities.specs.Delay.{delay}
use Rattle.quantities.specs.Inner.Linear.{up}
use Rattle.quantities.specs.MinMax.{min_ℤ}
use Rattle.quantities.specs.Ranges.{FactorsWithin}
use Rattle.tree.specs.declared.header.Header.{Header}
use Rattle.tree.specs.declared.measures.Measures.{Measures}
use Rattle.tree.specs.Lists.{sum_over, range, least}
use Rattle.tree.specs.Net.{sink_numbers}
use Rattle.tree.specs.Measures.{path_up, one_if}
use Rattle.tree.specs.Limits.{branch_limit, wire_factor_limit}
use Rattle.tree.specs.Inner.Arrays.{point_at, length_above}

-- the slack of sink s that an array holds
abbrev pub slack_at : List ℤ → ℕ → ℤ
slack_at slacks s = get_or slacks s (pos 0)

-- c, h and v are in their ranges
abbrev pub CostsInRange : Header → Type 0
CostsInRange h = FactorsWithin wire_factor_limit h.wire × (1 ≤ up h.branch.0) × (up h.branch.0 ≤ branch_limit)

-- what the edge whose lower end is v costs: its delay, and c where v is a branch point
abbrev pub cost_above : Header → ℕ → List ℕ → List ℤ → List ℤ → ℕ → ℕ
cost_above h n parents xs ys v = delay h.wire (point_at xs ys (get_or parents v 0)) (point_at xs ys v) + up h.branch.0 * one_if (ltb n v)

-- what is spent on the path to v, or on the last k edges of it
abbrev pub spent_on : Header → ℕ → List ℕ → List ℤ → List ℤ → ℕ → ℕ → ℕ
spent_on h n parents xs ys k v = sum_over (path_up (λ u. get_or parents u 0) k v) (cost_above h n parents xs ys)

-- vertex 1 alone, which is a sink
abbrev pub first_counted : List ℕ → List ℤ → List ℤ → List ℤ → Measures
first_counted parents xs ys slacks = record { slack = record { 0 = slack_at slacks 1 }; wire = record { 0 = length_above parents xs ys 1 } }

-- with vertex v, of n sinks: each vertex has an edge, and a sink has a slack
abbrev pub counted : ℕ → List ℕ → List ℤ → List ℤ → List ℤ → ℕ → Measures → Measures
counted n parents xs ys slacks v m = record {
  slack = record { 0 = cond (ltb n v) m.slack.0 (min_ℤ m.slack.0 (slack_at slacks v)) };
  wire = record { 0 = m.wire.0 + length_above parents xs ys v };
}

-- the least of the slacks, and the sum of the edges
abbrev pub least_slack : ℕ → List ℤ → ℤ
least_slack n slacks = least (map (slack_at slacks) (sink_numbers n))

abbrev pub edge_sum : ℕ → List ℕ → List ℤ → List ℤ → ℕ
edge_sum n parents xs ys = sum_over (range 1 (2 * n - 1)) (length_above parents xs ys)
