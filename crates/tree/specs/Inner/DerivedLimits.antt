-- What follows from the ranges of specs/Limits. Definitions alone.
use Rattle.std.specs.Prelude.{ℕ, ◌+◌, ◌*◌, ◌-◌}
use Rattle.tree.specs.Limits.{position_limit, branch_limit, wire_factor_limit, sink_limit, required_limit}

-- the most that a wire between two points in range can be long and can cost, the edges of a tree, what one edge costs with the branch
-- point at its lower end, and what a path costs

abbrev pub length_limit : ℕ
length_limit = 4 * position_limit

abbrev pub delay_limit : ℕ
delay_limit = wire_factor_limit * length_limit

abbrev pub edge_limit : ℕ
edge_limit = 2 * sink_limit - 1

abbrev pub cost_limit : ℕ
cost_limit = delay_limit + branch_limit

abbrev pub spend_limit : ℕ
spend_limit = edge_limit * cost_limit

-- how far from 0 an own slack can be, and a slack where no wire goes a way round

abbrev pub own_slack_limit : ℕ
own_slack_limit = required_limit + delay_limit

abbrev pub kept_slack_limit : ℕ
kept_slack_limit = own_slack_limit + edge_limit * branch_limit
