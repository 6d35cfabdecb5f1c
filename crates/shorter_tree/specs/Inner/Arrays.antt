-- What the arrays hold as the numbers close up, and after it. Definitions alone.
use Rattle.std.specs.Prelude.{ℕ, zero, suc, ◌-◌, ◌≤◌, ◌<◌, ◌≡◌, List, get_or, ℤ}
use Rattle.quantities.specs.Ranges.{Within}
use Rattle.tree.specs.declared.header.Header.{Header}
use Rattle.tree.specs.Limits.{slack_limit}
use Rattle.tree.specs.Measures.{worst_slack}
use Rattle.tree.specs.Tree.{Legal}
use Rattle.tree.specs.Inner.Arrays.{net_of, tree_of, weights_of, parents_of, HoldsNet, HoldsWeights, HoldsTree}
use Rattle.shorter_tree.specs.Deletion.{without, weights_without, pruned}

-- ---- the numbers close up

-- the place that comes to j, where place i is gone
abbrev pub skip : ℕ → ℕ → ℕ
skip zero j = suc j
skip (suc i) zero = zero
skip (suc i) (suc j) = suc (skip i j)

-- the vertex that comes to the number x, where s and b are gone: `renumber s b` the other way
abbrev pub old : ℕ → ℕ → ℕ → ℕ
old s b x = skip b (skip s x)

-- up to the number m: each place holds f of what stood at its vertex's old number
abbrev pub Closed : {A : Type 0} → A → (A → A) → ℕ → ℕ → ℕ → List A → List A → Type 0
Closed d f s b m before after = (x : ℕ) → 1 ≤ x → x < m → get_or after x d ≡ f (get_or before (old s b x) d)

-- ---- what the arrays hold

-- a legal tree over a net in range, with its weights
abbrev pub HoldsLegal : Header → ℕ → List ℕ → List ℤ → List ℤ → List ℤ → List ℤ → Type 0
HoldsLegal h n ps xs ys rs ws = HoldsNet h n xs ys rs × HoldsWeights n ws × HoldsTree n ps xs ys × Legal n (parents_of n ps)

-- the arrays with a stroke hold the net, the weights and the tree without sink s
pub record HoldsShorter (n s : ℕ) (ps : List ℕ) (xs ys rs ws : List ℤ) (ps' : List ℕ) (xs' ys' rs' ws' : List ℤ) : Type 0 where
  pub net : (h : Header) → net_of h (n - 1) xs' ys' rs' ≡ without (net_of h n xs ys rs) s
  pub weights : weights_of (n - 1) ws' ≡ weights_without (weights_of n ws) s
  pub tree : (h : Header) → tree_of (n - 1) ps' xs' ys' ≡ pruned (net_of h n xs ys rs) (tree_of n ps xs ys) s

-- the slack of the tree in the arrays is in the range of a listing, as that of an accepted one is
abbrev pub SlackInRange : Header → ℕ → List ℕ → List ℤ → List ℤ → List ℤ → Type 0
SlackInRange h n ps xs ys rs = Within slack_limit (worst_slack (net_of h n xs ys rs) (tree_of n ps xs ys))
