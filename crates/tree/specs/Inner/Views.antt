-- What the views of a net and of a tree show. Definitions alone.
use Rattle.std.specs.Prelude.{ℕ, List, ℤ}
use Rattle.tree.specs.declared.header.Header.{Header}
use Rattle.tree.specs.declared.measures.Measures.{Measures}
use Rattle.tree.specs.declared.view.NetView.{NetView}
use Rattle.tree.specs.declared.view.TreeView.{TreeView}
use Rattle.tree.specs.Net.{Net}
use Rattle.tree.specs.Tree.{Tree}
use Rattle.tree.specs.Inner.Arrays.{length_above, net_of, tree_of}
use Rattle.tree.specs.Inner.Measuring.{cost_above, spent_on, first_counted, counted, edge_sum}

abbrev pub viewed_net : NetView → Net
viewed_net v = net_of v.header v.n v.xs.now v.ys.now v.required.now

abbrev pub viewed_tree : TreeView → Tree
viewed_tree t = tree_of t.n t.parents.now t.xs.now t.ys.now

-- the length and the cost of the edge whose lower end is v, and what is spent on the path to v
abbrev pub length_in : TreeView → ℕ → ℕ
length_in t v = length_above t.parents.now t.xs.now t.ys.now v

abbrev pub cost_in : Header → TreeView → ℕ → ℕ
cost_in h t v = cost_above h t.n t.parents.now t.xs.now t.ys.now v

abbrev pub spent_in : Header → TreeView → ℕ → ℕ → ℕ
spent_in h t k v = spent_on h t.n t.parents.now t.xs.now t.ys.now k v

-- the measures of vertex 1 alone, those with vertex v counted in, and the wire
abbrev pub first_in : TreeView → List ℤ → Measures
first_in t slacks = first_counted t.parents.now t.xs.now t.ys.now slacks

abbrev pub counted_in : TreeView → List ℤ → ℕ → Measures → Measures
counted_in t slacks v m = counted t.n t.parents.now t.xs.now t.ys.now slacks v m

abbrev pub wire_in : TreeView → ℕ
wire_in t = edge_sum t.n t.parents.now t.xs.now t.ys.now
