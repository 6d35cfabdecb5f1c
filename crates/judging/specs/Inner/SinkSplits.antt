-- What the arrays hold while the Kraft maximum is found: the sinks go in one after another, each beside a sink that is in. No tree is kept and no tie rule
-- is needed: the slacks of the sinks that are in are enough, whichever tree they come from. For the contracts of the inner functions. Definitions alone.
use Rattle.std.specs.Prelude.{ℕ, suc, ◌-◌, ◌*◌, ◌^◌, ◌≤◌, ◌<◌, ◌≡◌, ◌≢◌, List, map, length, get_or, ℤ, pos, neg_ℤ, ◌-ℤ◌, ◌≤ℤ◌}
use Rattle.quantities.specs.MinMax.{min_ℤ}
use Rattle.tree.specs.Lists.{sum_over, count}
use Rattle.tree.specs.Net.{Net, size, own_slack}
use Rattle.tree.specs.Kraft.{Kraft}
use Rattle.tree.specs.Inner.DerivedLimits.{kept_slack_limit}
use Rattle.tree.specs.Inner.Insertion.{Ready, Lined}

-- the arrays are those of the net N: own slacks by the sinks' numbers, and the sinks by rising own slack
pub record SinksReady (N : Net) (branch : ℤ) (n : ℕ) (own : List ℤ) (sinks : List ℕ) : Type 0 where
  pub ready : Ready N branch n own
  pub lined : Lined N n sinks

-- what stands for the slack of a sink that is not in: below every slack
abbrev pub absent_limit : ℕ
absent_limit = suc kept_slack_limit

abbrev pub absent : ℤ
absent = neg_ℤ (pos absent_limit)

-- The sinks S are in. Some tree has `depths` branch points above each; all that is asked of it is that "the sum of 2^-(branch points above the sink), over
-- the sinks inserted, is exactly 1". The array holds the slacks in it; `worst` is above none of them, and below no number that meets Kraft's condition.
pub record Kept (N : Net) (S : List ℕ) (slacks : List ℤ) (worst : ℤ) : Type 0 where
  pub depths : ℕ → ℕ
  pub shallow : (s : ℕ) → count s S ≢ 0 → depths s < length S
  pub exact : sum_over S (λ s. 2 ^ (length S - depths s)) ≡ 2 ^ length S
  pub slacks_are : (s : ℕ) → count s S ≢ 0 → get_or slacks s (pos 0) ≡ own_slack N s -ℤ pos (depths s * N.branch)
  pub others_absent : (u : ℕ) → 1 ≤ u → u ≤ size N → count u S ≡ 0 → get_or slacks u (pos 0) ≡ absent
  pub below : (s : ℕ) → count s S ≢ 0 → worst ≤ℤ get_or slacks s (pos 0)
  pub largest : (r : ℤ) → Kraft N.branch (map (own_slack N) S) r → r ≤ℤ worst

-- what the worst slack becomes if the edge above sink u is split
abbrev pub worst_if_split : ℤ → ℤ → List ℤ → ℕ → ℤ
worst_if_split worst branch slacks u = min_ℤ worst (get_or slacks u (pos 0) -ℤ branch)

-- of the numbers 1 to n, r is one whose f is the largest
pub record LargestAt (f : ℕ → ℤ) (n r : ℕ) : Type 0 where
  pub from : 1 ≤ r
  pub to : r ≤ n
  pub largest : (u : ℕ) → 1 ≤ u → u ≤ n → f u ≤ℤ f r
