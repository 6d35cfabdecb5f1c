-- The tree, and which trees are legal: document 01, 'Measures'. Definitions alone.
use Rattle.std.specs.Prelude.{ℕ, zero, suc, ◌*◌, ◌-◌, ◌≤◌, ◌<◌, ◌≡◌, List, ◌∷◌, ◌++◌, map, length, get_or}
use Rattle.quantities.specs.declared.point.Point.{Point}
use Rattle.tree.specs.Lists.{count}
use Rattle.tree.specs.Net.{Net, size}

-- "The tree that a listing gives has the parents on its `leaf` and `node` lines and the points on its `node` lines":
-- the parents of the vertices 1 to 2n-1, and the points of the branch points n+1 to 2n-1
pub record Tree : Type 0 where
  pub parents : List ℕ
  pub points : List Point

-- "Every vertex but the root has one parent." (The root is given as its own.)
abbrev pub parent_of : List ℕ → ℕ → ℕ
parent_of P zero = zero
parent_of P (suc v) = get_or P v 0

abbrev pub parent : Tree → ℕ → ℕ
parent T = parent_of T.parents

-- where k steps up from v lead
abbrev pub ancestor : (ℕ → ℕ) → ℕ → ℕ → ℕ
ancestor p zero v = v
ancestor p (suc k) v = ancestor p k (p v)

-- v is reached from the root: some number of steps up from v leads to it
abbrev pub Reached : List ℕ → ℕ → Type 0
Reached P v = (k : ℕ) × (ancestor (parent_of P) k v ≡ 0)

-- "A legal tree: the root has exactly one child, each branch point exactly two, sinks none, and every vertex is reached from the root."
pub record Legal (n : ℕ) (P : List ℕ) : Type 0 where
  pub size : suc (length P) ≡ 2 * n
  pub inside : (i : ℕ) → i < length P → get_or P i 0 < 2 * n
  pub root : count 0 P ≡ 1
  pub branch : (b : ℕ) → n < b → b < 2 * n → count b P ≡ 2
  pub sink : (s : ℕ) → 1 ≤ s → s ≤ n → count s P ≡ 0
  pub reach : (v : ℕ) → v < 2 * n → Reached P v

-- a legal tree over a net, "branch points at any integer points": one for each
pub record LegalTree (N : Net) (T : Tree) : Type 0 where
  pub shape : Legal (size N) T.parents
  pub placed : length T.points ≡ size N - 1

-- "The root and the sinks stand where the net puts them, branch points at any integer points."
abbrev pub place : Net → Tree → ℕ → Point
place N T v = get_or (N.root ∷ (map (λ s. s.point) N.sinks ++ T.points)) v N.root
