-- The sinks' switching weights: 02, request 7. They stand beside the net, so that no measure sees them and neither of the first two plans does. Definitions alone.
use Rattle.std.specs.Prelude.{ℕ, List}
use Rattle.tree.specs.Tree.{parent_of}

-- the weight of vertex v in a list with a place for each vertex from 1, as a list of parents has
abbrev pub weight_of : List ℕ → ℕ → ℕ
weight_of w v = parent_of w v
