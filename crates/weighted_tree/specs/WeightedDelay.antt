-- The sum of weight × delay, and what 02's request 7 says of it, as a statement about any net and any weights (source document 003, lemma 5.5).
use Rattle.std.specs.Prelude.{ℕ, List, [], ◌∷◌, ℤ, pos, ◌+ℤ◌, ◌-ℤ◌, ◌*ℤ◌, ◌≤ℤ◌}
use Rattle.tree.specs.Net.{Net, size, sink_numbers, required}
use Rattle.tree.specs.Tree.{Tree, LegalTree}
use Rattle.tree.specs.Weights.{weight_of}
use Rattle.tree.specs.Measures.{slack}
use Rattle.weighted_tree.specs.Joining.{weighted_tree}

-- the sum of some whole numbers
abbrev pub sum_over_ℤ : List ℕ → (ℕ → ℤ) → ℤ
sum_over_ℤ [] f = pos 0
sum_over_ℤ (x ∷ l) f = f x +ℤ sum_over_ℤ l f

-- "delay being a minus slack"
abbrev pub sink_delay : Net → Tree → ℕ → ℤ
sink_delay N T s = required N s -ℤ slack N T s

-- "The sum of weight × delay"
unfoldable pub weighted_delay : Net → List ℕ → Tree → ℤ
weighted_delay N w T = sum_over_ℤ (sink_numbers (size N)) (λ s. pos (weight_of w s) *ℤ sink_delay N T s)

-- for every net with a sink and whatever weights
pub record LeastWeighted (N : Net) (w : List ℕ) : Type 0 where
  pub legal : LegalTree N (weighted_tree N w)
  -- "is at most that of every legal tree over the net at any integer points"
  pub least : (R : Tree) → LegalTree N R → weighted_delay N w (weighted_tree N w) ≤ℤ weighted_delay N w R
