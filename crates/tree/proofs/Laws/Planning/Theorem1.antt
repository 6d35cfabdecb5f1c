-- Theorem 1 as specs/Theorem1 states it. Assumes nothing.
use Prim.Native.Nat.{◌≤◌}
use mathlib.Core.Path.{◌≡◌, sym, subst}
use mathlib.Core.Logic.{◌↔◌}
use native.Mathlib.Omega.{arith}
use lib.IntN.{ℤ, pos, neg_ℤ}
use lib.Signed.{◌≤ℤ◌, ◌<ℤ◌}
use Rattle.quantities.specs.Inner.Linear.{whole}
use Rattle.tree.specs.Net.{Net, size, own_slacks}
use Rattle.tree.specs.Tree.{Tree, LegalTree}
use Rattle.tree.specs.Measures.{worst_slack}
use Rattle.tree.specs.Kraft.{kraft_maximum}
use Rattle.tree.specs.Planning.{tie_rule}
use Rattle.tree.specs.Settling.{plan, plan_by}
use Rattle.tree.specs.Limits.{need_limit, InRange}
use Rattle.tree.specs.Theorem1.{Theorem1For, Theorem1}
use Rattle.tree.proofs.Laws.Kraft.Maximum.{maximum_one}
use Rattle.tree.proofs.Laws.Settling.SlackKept.{settling}
use Rattle.tree.proofs.Laws.Planning.AnyTieRule.{maximum_of_net, plan_legal, plan_best, plan_computed, kraft_sum}
use Rattle.tree.proofs.Laws.Measures.FiguresInRange.{slack_range}

module _ (N : Net) (c1 : 1 ≤ N.branch) (n1 : 1 ≤ size N) where
  bounded : (R : Tree) → LegalTree N R → worst_slack N R ≤ℤ kraft_maximum N.branch (own_slacks N)
  bounded R L = subst (λ z. worst_slack N R ≤ℤ z) (sym (plan_computed N c1 n1 tie_rule)) (plan_best N c1 n1 tie_rule R L)

  attained : worst_slack N (plan N) ≡ kraft_maximum N.branch (own_slacks N)
  unfolding plan
  attained = sym (plan_computed N c1 n1 tie_rule)

  legal : LegalTree N (plan N)
  unfolding plan
  legal = plan_legal N c1 n1 tie_rule

  unreachable : (t : ℤ) → (kraft_maximum N.branch (own_slacks N) <ℤ t) ↔ ((R : Tree) → LegalTree N R → worst_slack N R <ℤ t)
  unreachable t = (
    (λ h R L. let k : worst_slack N R ≤ℤ kraft_maximum N.branch (own_slacks N) = bounded R L in omega (arith, whole)),
    λ h. subst (λ z. z <ℤ t) attained (h (plan N) legal),
  )

  of_net : Theorem1For N
  of_net = record {
    maximum = maximum_of_net N c1 n1;
    only = λ s h. maximum_one N.branch (own_slacks N) s (kraft_maximum N.branch (own_slacks N)) h (maximum_of_net N c1 n1);
    bounded = bounded;
    legal = legal;
    attained = attained;
    unreachable = unreachable;
    insertions = kraft_sum N c1 n1 tie_rule;
    settling = λ P L s p q. settling N P L s p q;
  }

pub theorem_1 : Theorem1
theorem_1 = of_net

-- "The lowest t is always reachable."
pub lowest_need_reached : (N : Net) → InRange N → (R : Tree) × (LegalTree N R × (neg_ℤ (pos need_limit) ≤ℤ worst_slack N R))
lowest_need_reached N R = (plan_by tie_rule N, (plan_legal N R.branch.0 R.sinks.0 tie_rule, (slack_range tie_rule N R).0))
