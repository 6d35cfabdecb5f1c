-- Settling, and the planned tree: document 01, 'Planning', step 4. Definitions alone.
use Rattle.std.specs.Prelude.{ℕ, zero, suc, ◌*◌, true, false, List, map, length, get_or, leb, eqb}
use Rattle.quantities.specs.declared.point.Point.{Point}
use Rattle.quantities.specs.Median.{median_point}
use Rattle.tree.specs.Lists.{range, all_with}
use Rattle.tree.specs.Net.{Net, size, branch_numbers, sink_at}
use Rattle.tree.specs.Tree.{Tree, parent_of}
use Rattle.tree.specs.Planning.{TieRule, tie_rule, plan_parents}

-- the vertices with parent b, the lowest first
abbrev pub children_in : (ℕ → ℕ) → ℕ → List ℕ → List ℕ
children_in p b l = all_with (λ v. eqb (p v) b) l

abbrev pub children : List ℕ → ℕ → List ℕ
children P b = children_in (parent_of P) b (range 1 (length P))

-- "from the leaves up, each branch point moves to the coordinate-wise median of the root and its two children's settled positions":
-- where v stands then; k bounds the height of v. A child may have a lower or a higher number
abbrev pub settled : Net → List ℕ → ℕ → ℕ → Point
settled N P zero v = N.root
settled N P (suc k) v =
    elim (leb v (size N)) [
      | true ↦ sink_at N v
      | false ↦ median_point N.root (settled N P k (get_or (children P v) 0 0)) (settled N P k (get_or (children P v) 1 0))
    ]

abbrev pub settled_tree : Net → List ℕ → Tree
settled_tree N P = record { parents = P; points = map (settled N P (2 * size N)) (branch_numbers (size N)) }

-- the planned tree, under any tie rule and under the house's
unfoldable pub plan_by : TieRule → Net → Tree
plan_by tie N = settled_tree N (plan_parents tie N)

unfoldable pub plan : Net → Tree
unfolding plan_by
plan N = plan_by tie_rule N
