-- A net and a tree without one of its sinks: 02, request 9. Definitions alone.
use Rattle.std.specs.Prelude.{ℕ, zero, suc, ◌-◌, cond, List, [], ◌∷◌, map, eqb, ltb}
use Rattle.tree.specs.Net.{Net, size}
use Rattle.tree.specs.Tree.{Tree, parent}
use Rattle.tree.specs.Measures.{one_if}

-- a list without what stands at the place i, counted from 0
abbrev pub drop_at : {A : Type 0} → ℕ → List A → List A
drop_at i [] = []
drop_at zero (x ∷ l) = l
drop_at (suc i) (x ∷ l) = x ∷ drop_at i l

-- "The shorter net": that without sink s, which stands at the place s - 1. Root, c, the factors and need are as they were
abbrev pub without : Net → ℕ → Net
without N s = record { root = N.root; branch = N.branch; wire = N.wire; need = N.need; sinks = drop_at (s - 1) N.sinks }

-- its weights: those of the other sinks
abbrev pub weights_without : List ℕ → ℕ → List ℕ
weights_without w s = drop_at (s - 1) w

-- "its branch point goes too": the one that sink s hangs on
abbrev pub branch_of : Tree → ℕ → ℕ
branch_of T s = parent T s

-- "vertex numbers close up without holes in their old order": the new number of vertex v, where the sink s and the branch point b are gone
abbrev pub renumber : ℕ → ℕ → ℕ → ℕ
renumber s b v = v - one_if (ltb s v) - one_if (ltb b v)

-- "the sibling takes that place in the tree": what hung on b hangs on a, the parent of b
abbrev pub above : ℕ → ℕ → ℕ → ℕ
above b a u = cond (eqb u b) a u

-- the tree of n sinks without s and b: both parents go, and the point of b, the first branch point being n + 1; "no point moves"
abbrev pub pruned_at : ℕ → Tree → ℕ → ℕ → Tree
pruned_at n T s b = record {
  parents = map (λ u. renumber s b (above b (parent T b) u)) (drop_at (s - 1) (drop_at (b - 1) T.parents));
  points = drop_at (b - suc n) T.points;
}

-- the tree over the net N without sink s and its branch point
abbrev pub pruned : Net → Tree → ℕ → Tree
pruned N T s = pruned_at (size N) T s (branch_of T s)
