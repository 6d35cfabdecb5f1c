-- 02, request 4, 'Two metal directions', as a statement: what the factors h and v weigh and what they do not, and that with h = v the slacks are those of 01.
use Rattle.std.specs.Prelude.{ℕ, ◌+◌, ◌*◌, ◌≡◌, List, ℤ, pos, ◌-ℤ◌}
use Rattle.quantities.specs.declared.metal_pair.MetalPair.{MetalPair}
use Rattle.quantities.specs.declared.point.Point.{Point}
use Rattle.quantities.specs.Distance.{span, distance}
use Rattle.tree.specs.Lists.{sum_over}
use Rattle.tree.specs.Net.{Net, sink_at, required, own_slack}
use Rattle.tree.specs.Tree.{Tree, parent, place, LegalTree}
use Rattle.tree.specs.Measures.{path, edge_length, depth, slack, wire_length}
use Rattle.tree.specs.Planning.{tie_rule}
use Rattle.formats.specs.NetText.{pin_distance}

-- h × |dx| + v × |dy|
abbrev pub weighed : MetalPair → Point → Point → ℕ
weighed w p q = w.horizontal.0 * span p.x q.x + w.vertical.0 * span p.y q.y

-- a sink's slack where the delays along its path sum up to d
abbrev pub slack_by : Net → Tree → ℕ → ℕ → ℤ
slack_by N T s d = required N s -ℤ pos d -ℤ pos (N.branch * depth N T s)

-- the net under other factors
abbrev pub under : MetalPair → Net → Net
under w N = record { root = N.root; branch = N.branch; wire = w; need = N.need; sinks = N.sinks }

-- h = v = d
pub record OneFactor (N : Net) (d : ℕ) : Type 0 where
  pub horizontal : N.wire.horizontal.0 ≡ d
  pub vertical : N.wire.vertical.0 ≡ d

pub record TwoFactors : Type 0 where
  -- "delay along an edge is h × |dx| + v × |dy|, in own slack as in path slack"
  pub own_slack_lem : (N : Net) (s : ℕ) → own_slack N s ≡ required N s -ℤ pos (weighed N.wire N.root (sink_at N s))
  pub path_slack : (N : Net) (T : Tree) (s : ℕ) → slack N T s ≡ slack_by N T s (sum_over (path T s) (λ u. weighed N.wire (place N T (parent T u)) (place N T u)))
  -- "Wire length, nearness and the 40,000 limit stay plain": they are the same under all factors
  pub wire : (N : Net) (w : MetalPair) (T : Tree) → wire_length (under w N) T ≡ wire_length N T
  pub nearness : (N : Net) (w : MetalPair) (P : List ℕ) (s u v : ℕ) → tie_rule (under w N) P s u v ≡ tie_rule N P s u v
  pub pin_limit_lem : (N : Net) (w : MetalPair) (s : ℕ) → pin_distance (under w N) s ≡ pin_distance N s
  -- "the rivals too": the trees that are compared are the same under all factors
  pub rivals : (N : Net) (w : MetalPair) (T : Tree) → LegalTree N T → LegalTree (under w N) T
  -- with h = v they are 01's: "a - d × distance from the root" and "a - d × (sum of distances along its path) - c × (branch points on its path)"
  pub one_factor_own : (N : Net) (d s : ℕ) → OneFactor N d → own_slack N s ≡ required N s -ℤ pos (d * distance N.root (sink_at N s))
  pub one_factor_path : (N : Net) (T : Tree) (d s : ℕ) → OneFactor N d → slack N T s ≡ slack_by N T s (d * sum_over (path T s) (edge_length N T))
