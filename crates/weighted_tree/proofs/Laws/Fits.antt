-- The two vertices that are joined next, and that their total weight fits: no more than all sinks weigh. Assumes nothing.
use Prim.Native.Nat.{ℕ, suc, ◌+◌, ◌*◌, ◌≤◌, ◌<◌}
use mathlib.Core.Path.{ap}
use mathlib.Core.List.{List}
use native.Mathlib.Omega.{arith}
use lib.ListN.{length, get_or}
use Rattle.tree.specs.Lists.{sum_over, down}
use Rattle.tree.specs.Tree.{parent_of}
use Rattle.tree.specs.Weights.{weight_of}
use Rattle.tree.specs.Limits.{sink_limit, weight_limit, WeightsInRange}
use Rattle.tree.proofs.Laws.Lists.Sums.{sum_over_bound, down_length, down_in}
use Rattle.weighted_tree.specs.Joining.{Joining, waiting, joined_after}
use Rattle.weighted_tree.proofs.Laws.Forests.{Pick}
use Rattle.weighted_tree.proofs.Laws.Picking.{pick}
use Rattle.weighted_tree.proofs.Laws.Joins.{Held, held_after, held_joint}

module _ (n : ℕ) (w : List ℕ) (k : ℕ) where
  abbrev J : Joining
  J = joined_after n w k

  abbrev x : ℕ
  x = get_or (waiting (n + k) J) 0 0

  abbrev y : ℕ
  y = get_or (waiting (n + k) J) 1 0

  held : suc k < n → Held n w k J
  held more = held_after n w (omega arith) k (omega arith)

  -- two vertices from 1 to n + k that have no parent yet, and none of the others weighs less
  pub next_in : suc k < n → Pick n k (weight_of J.totals) (parent_of J.parents) x y
  next_in more = pick n k (held more).active J (held more).forest more

  pub totals_fit : WeightsInRange n w → n ≤ sink_limit → suc k < n → weight_of J.totals x + weight_of J.totals y ≤ sink_limit * weight_limit
  totals_fit R few more =
      let all : sum_over (down 0 n) (weight_of w) ≤ length (down 0 n) * weight_limit = sum_over_bound (down 0 n) (weight_of w) weight_limit (λ s q. let d : (0 < s) × (s ≤ 0 + n) = down_in 0 n s q in (R.each s (omega arith) (omega arith)).1) in
      omega (arith, held_joint n w k J (held more) x y more (next_in more), ap (λ m. m * weight_limit) (down_length 0 n))
