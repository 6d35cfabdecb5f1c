-- The tree by switching weights: document 02, request 7. Definitions alone.
use Rattle.std.specs.Prelude.{ℕ, zero, suc, ◌+◌, ◌*◌, ◌-◌, Bool, true, false, cond, List, ◌++◌, map, get_or, replicate, ltb}
use Rattle.tree.specs.Lists.{range}
use Rattle.tree.specs.Net.{Net, size, sink_numbers}
use Rattle.tree.specs.Tree.{Tree, parent_of}
use Rattle.tree.specs.Weights.{weight_of}
use Rattle.tree.specs.Planning.{sort, put}
use Rattle.tree.specs.Settling.{children_in, settled_tree}

-- by total weight, "ties to the lowest vertex numbers": u goes before v
abbrev pub lighter : List ℕ → ℕ → ℕ → Bool
lighter totals u v = cond (ltb (weight_of totals u) (weight_of totals v)) true (cond (ltb (weight_of totals v) (weight_of totals u)) false (ltb u v))

-- the total weight of each vertex, a joined one's being that of the two that it took, and its parent: 0 as long as it has none
pub record Joining : Type 0 where
  pub totals : List ℕ
  pub parents : List ℕ

-- of the vertices 1 to m those that have no parent yet, and these in the order in which they are joined
abbrev pub free : ℕ → List ℕ → List ℕ
free m P = children_in (parent_of P) 0 (range 1 m)

abbrev pub waiting : ℕ → Joining → List ℕ
waiting m J = sort (lighter J.totals) (free m J.parents)

-- the new branch point b takes x and y
abbrev pub join_two : Joining → ℕ → ℕ → ℕ → Joining
join_two J b x y = record {
  totals = put J.totals b (weight_of J.totals x + weight_of J.totals y);
  parents = put (put J.parents x b) y b;
}

-- "joins the two vertices of least total weight", "new ones numbered n+1 upward in order of joining": k were made before
abbrev pub join_next : ℕ → ℕ → Joining → Joining
join_next n k J = join_two J (n + suc k) (get_or (waiting (n + k) J) 0 0) (get_or (waiting (n + k) J) 1 0)

-- n sinks of the weights w, none joined
abbrev pub unjoined : ℕ → List ℕ → Joining
unjoined n w = record { totals = map (weight_of w) (sink_numbers n) ++ replicate (n - 1) 0; parents = replicate (2 * n - 1) 0 }

-- after k joins
abbrev pub joined_after : ℕ → List ℕ → ℕ → Joining
joined_after n w zero = unjoined n w
joined_after n w (suc k) = join_next n k (joined_after n w k)

-- ".. until one is left": n - 1 joins. The one that is left keeps the parent 0: it hangs on the root
unfoldable pub joined_parents : ℕ → List ℕ → List ℕ
joined_parents n w = (joined_after n w (n - 1)).parents

-- ".. then settles as in 01"
unfoldable pub weighted_tree : Net → List ℕ → Tree
weighted_tree N w = settled_tree N (joined_parents (size N) w)
