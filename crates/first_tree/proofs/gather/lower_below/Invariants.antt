-- Those under v follow it along the chain, each after its parent: the walk comes to place i with all behind it done (Lowered).
use Rattle.std.proofs.Common.{◌≡◌, List, ℕ, ◌-◌, ◌≤◌, ◌<◌, get_or, ℤ}
use Rattle.tree.specs.Inner.Arrays.{Chained}
use Rattle.tree.specs.Inner.Regathering.{Deepens, Lowered}
use Rattle.tree.proofs.Laws.Trees.Upward.{prior}
use Rattle.first_tree.proofs.gather.lower_below.Given as goal

abbrev pub invariant-loop : goal.invariant-loop
invariant-loop l =
    (us : List ℕ) (j : ℕ) (D : ℕ → ℕ) (ls : List ℕ) (ss : List ℤ) → Chained l.m us l.below → j < l.m → get_or us j 0 ≡ l.v → Deepens l.parents us l.m j ls D
    → Lowered us l.m D l.branch.0 ls ss j l.initial.levels l.initial.slacks
    → (i : ℕ) × (i ≤ j) × (i ≤ l.m - l.counter) × (l.at ≡ prior us i) × Lowered us l.m D l.branch.0 ls ss i l.levels l.slacks
