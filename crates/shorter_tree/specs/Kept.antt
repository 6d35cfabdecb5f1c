-- What 02's request 9 says of the shorter net and tree. Definitions alone.
use Rattle.std.specs.Prelude.{ℕ, suc, ◌*◌, ◌≤◌, ◌<◌, ◌≡◌, ◌≢◌, List, ◌≤ℤ◌}
use Rattle.tree.specs.Net.{Net, size, required}
use Rattle.tree.specs.Tree.{Tree, parent, LegalTree, place}
use Rattle.tree.specs.Measures.{slack, worst_slack, wire_length}
use Rattle.tree.specs.Weights.{weight_of}
use Rattle.shorter_tree.specs.Deletion.{without, weights_without, renumber, branch_of, pruned}

-- the sink may be deleted
abbrev pub Deletable : Net → ℕ → Type 0
Deletable N s = (2 ≤ size N) × (1 ≤ s) × (s ≤ size N)

-- v is neither the sink nor its branch point
abbrev pub Remains : Tree → ℕ → ℕ → Type 0
Remains T s v = (v ≢ s) × (v ≢ branch_of T s)

-- its new number
abbrev pub new_number : Tree → ℕ → ℕ → ℕ
new_number T s v = renumber s (branch_of T s) v

-- t is another sink
abbrev pub OtherSink : Net → ℕ → ℕ → Type 0
OtherSink N s t = (1 ≤ t) × (t ≤ size N) × (t ≢ s)

pub record Kept (N : Net) (w : List ℕ) (T : Tree) (s : ℕ) : Type 0 where
  pub one_less : suc (size (without N s)) ≡ size N
  -- what stands before the sinks' lines but for their number
  pub same_head : ((without N s).root ≡ N.root) × ((without N s).branch ≡ N.branch) × ((without N s).wire ≡ N.wire) × ((without N s).need ≡ N.need)
  pub legal : LegalTree (without N s) (pruned N T s)
  -- "vertex numbers close up without holes in their old order"
  pub in_order : (u v : ℕ) → Remains T s u → Remains T s v → u < v → new_number T s u < new_number T s v
  pub no_holes : (x : ℕ) → x < 2 * size (without N s) → (v : ℕ) × (v < 2 * size N) × Remains T s v × (new_number T s v ≡ x)
  -- "its branch point goes too, the sibling takes that place in the tree"; every other vertex keeps its parent
  pub sibling : (v : ℕ) → Remains T s v → parent T v ≡ branch_of T s → parent (pruned N T s) (new_number T s v) ≡ new_number T s (parent T (branch_of T s))
  pub others : (v : ℕ) → Remains T s v → parent T v ≢ branch_of T s → parent (pruned N T s) (new_number T s v) ≡ new_number T s (parent T v)
  -- "no point moves"
  pub unmoved : (v : ℕ) → Remains T s v → place (without N s) (pruned N T s) (new_number T s v) ≡ place N T v
  pub same_required : (t : ℕ) → OtherSink N s t → required (without N s) (new_number T s t) ≡ required N t
  pub same_weight : (t : ℕ) → OtherSink N s t → weight_of (weights_without w s) (new_number T s t) ≡ weight_of w t
  -- "No remaining sink loses slack", so that the worst slack does not fall
  pub slack_kept : (t : ℕ) → OtherSink N s t → slack N T t ≤ℤ slack (without N s) (pruned N T s) (new_number T s t)
  pub worst_kept : worst_slack N T ≤ℤ worst_slack (without N s) (pruned N T s)
  -- "and wire doesn't grow"
  pub wire_kept : wire_length (without N s) (pruned N T s) ≤ wire_length N T
