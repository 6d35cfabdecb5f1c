-- The net multiplied by k compares alike: its measures, best slack and plan are k times as large. Assumes nothing.
use Prim.Native.Nat.{ℕ, ◌*◌, ◌≤◌}
use mathlib.Core.Path.{refl, sym, ap, ◌∙◌}
use mathlib.Core.List.{List}
use native.Mathlib.Nat.{mul-pos}
use native.Mathlib.Omega.{arith}
use lib.IntN.{pos, ◌*ℤ◌}
use Rattle.tree.specs.Net.{Net, size}
use Rattle.tree.proofs.Laws.Planning.Theorem1.{theorem_1}
use Rattle.formats.specs.NetText.{InFormat}
use Rattle.invariance.specs.Times.{times_point, times_net}
use Rattle.invariance.specs.NothingLost.{Scales}
use Rattle.invariance.proofs.Laws.Similar.{similar_times}
use Rattle.invariance.proofs.Laws.Alike.{Alike, mapped_size, mapped_points, mapped_arrivals, same_worst, same_wire}
use Rattle.invariance.proofs.Laws.SamePlan.{same_plan, plan_worst}

module _ (k : ℕ) (k1 : 1 ≤ k) (N : Net) where
  pub times_alike : Alike k (times_point k) (λ a. a *ℤ pos k) N (times_net k N)
  times_alike = record {
    similar = similar_times k k1;
    root = refl;
    branch = refl;
    wire = refl;
    n_alike = mapped_size (times_point k) (λ a. a *ℤ pos k) N (times_net k N) refl refl;
    points = mapped_points (times_point k) (λ a. a *ℤ pos k) N (times_net k N) refl refl;
    arrivals = mapped_arrivals (times_point k) (λ a. a *ℤ pos k) N (times_net k N) refl refl;
  }

  module _ (c1 : 1 ≤ N.branch) (n1 : 1 ≤ size N) where
    more : 1 ≤ size (times_net k N)
    more = omega (arith, times_alike.n_alike)

    costs : 1 ≤ N.branch * k
    costs = mul-pos c1 k1

    pub scales : Scales k N
    scales = record {
      slack = λ T. same_worst times_alike T n1;
      wire = same_wire times_alike;
      best = sym (theorem_1 (times_net k N) costs more).attained ∙ plan_worst times_alike n1 ∙ ap (λ z. z *ℤ pos k) (theorem_1 N c1 n1).attained;
      planned = same_plan times_alike;
    }

-- of a net in the format
pub scales_in : (k : ℕ) → 1 ≤ k → (net : List ℕ) (N : Net) → InFormat net N → Scales k N
scales_in k k1 net N F = scales k k1 N F.in_range.branch.0 F.in_range.sinks.0
