-- Slack and wire: document 01, 'Measures'. Definitions alone.
use Rattle.std.specs.Prelude.{ℕ, zero, suc, ◌*◌, ◌-◌, Bool, cond, List, [], ◌∷◌, map, length, ltb, ℤ, pos, ◌-ℤ◌}
use Rattle.quantities.specs.Delay.{delay}
use Rattle.quantities.specs.Distance.{distance}
use Rattle.tree.specs.Lists.{sum_over, range, least}
use Rattle.tree.specs.Net.{Net, size, sink_numbers, required}
use Rattle.tree.specs.Tree.{Tree, parent, place}

-- the path from the root to v, by the lower ends of its edges: v, its parent, .., the root's child. k bounds its length
abbrev pub path_up : (ℕ → ℕ) → ℕ → ℕ → List ℕ
path_up p zero v = []
path_up p (suc k) zero = []
path_up p (suc k) (suc v) = suc v ∷ path_up p k (p (suc v))

abbrev pub path : Tree → ℕ → List ℕ
path T v = path_up (parent T) (length T.parents) v

-- the edge whose lower end is v: its length and its delay
abbrev pub edge_length : Net → Tree → ℕ → ℕ
edge_length N T v = distance (place N T (parent T v)) (place N T v)

abbrev pub edge_delay : Net → Tree → ℕ → ℕ
edge_delay N T v = delay N.wire (place N T (parent T v)) (place N T v)

-- "d × (sum of distances along its path)", edge by edge and by request 4's two factors: "delay along an edge is h × |dx| + v × |dy|, in own slack as in path slack"
abbrev pub path_delay : Net → Tree → ℕ → ℕ
path_delay N T v = sum_over (path T v) (edge_delay N T)

-- "branch points on its path": the vertices above n
abbrev pub one_if : Bool → ℕ
one_if b = cond b 1 0

abbrev pub depth : Net → Tree → ℕ → ℕ
depth N T v = sum_over (path T v) (λ u. one_if (ltb (size N) u))

-- "The slack of a sink = a - d × (sum of distances along its path) - c × (branch points on its path)."
abbrev pub slack : Net → Tree → ℕ → ℤ
slack N T s = required N s -ℤ pos (path_delay N T s) -ℤ pos (N.branch * depth N T s)

-- the least slack of the sinks S; "Worst slack is the least over the sinks."
abbrev pub worst_over : Net → Tree → List ℕ → ℤ
worst_over N T S = least (map (slack N T) S)

unfoldable pub worst_slack : Net → Tree → ℤ
worst_slack N T = worst_over N T (sink_numbers (size N))

-- "Wire is the sum of all 2n-1 edge distances."
unfoldable pub wire_length : Net → Tree → ℕ
wire_length N T = sum_over (range 1 (2 * size N - 1)) (edge_length N T)
