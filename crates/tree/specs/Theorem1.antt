-- Theorem 1 of document 000 in the words of document 01, 'Planning', and what 01 says of planning besides: one statement, with its hypotheses.
use Rattle.std.specs.Prelude.{ℕ, suc, ◌-◌, ◌^◌, ◌≤◌, ◌<◌, ◌≡◌, ◌↔◌, ◌≢◌, List, take, ℤ, ◌≤ℤ◌, ◌<ℤ◌}
use Rattle.tree.specs.Lists.{sum_over, count}
use Rattle.tree.specs.Net.{Net, size, own_slacks}
use Rattle.tree.specs.Tree.{Tree, Legal, LegalTree}
use Rattle.tree.specs.Measures.{depth, slack, worst_slack}
use Rattle.tree.specs.Kraft.{IsKraftMaximum, kraft_maximum}
use Rattle.tree.specs.Planning.{order, unsettled, tie_rule, parents_after}
use Rattle.tree.specs.Settling.{settled_tree, plan}

-- what is said of one net
pub record Theorem1For (N : Net) : Type 0 where
  -- exactly one number is the Kraft maximum, and the search finds it
  pub maximum : IsKraftMaximum N.branch (own_slacks N) (kraft_maximum N.branch (own_slacks N))
  pub only : (s : ℤ) → IsKraftMaximum N.branch (own_slacks N) s → s ≡ kraft_maximum N.branch (own_slacks N)
  -- "every legal tree, however joined and at whatever integer points, has a worst slack of at most the Kraft maximum, and one has exactly that": the planned tree
  pub bounded : (R : Tree) → LegalTree N R → worst_slack N R ≤ℤ kraft_maximum N.branch (own_slacks N)
  pub legal : LegalTree N (plan N)
  pub attained : worst_slack N (plan N) ≡ kraft_maximum N.branch (own_slacks N)
  -- "no legal tree has worst slack t or more" exactly where t is above it
  pub unreachable : (t : ℤ) → (kraft_maximum N.branch (own_slacks N) <ℤ t) ↔ ((R : Tree) → LegalTree N R → worst_slack N R <ℤ t)
  -- "After every insertion the sum of 2^-(branch points above the sink), over the sinks inserted, is exactly 1", for any m that is no smaller than each
  pub insertions : (j : ℕ) → j < size N → (m : ℕ) → ((s : ℕ) → count s (take (suc j) (order N)) ≢ 0 → depth N (unsettled N (parents_after tie_rule N j)) s ≤ m)
      → sum_over (take (suc j) (order N)) (λ s. 2 ^ (m - depth N (unsettled N (parents_after tie_rule N j)) s)) ≡ 2 ^ m
  -- Settling: "No sink's slack changes."
  pub settling : (P : List ℕ) → Legal (size N) P → (s : ℕ) → 1 ≤ s → s ≤ size N → slack N (settled_tree N P) s ≡ slack N (unsettled N P) s

-- "For every net in the format", and beyond its ranges: wherever c is at least 1 and there is a sink
abbrev pub Theorem1 : Type 0
Theorem1 = (N : Net) → 1 ≤ N.branch → 1 ≤ size N → Theorem1For N
