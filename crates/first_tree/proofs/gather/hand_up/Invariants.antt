-- The least goes up the way: what is passed has the lesser, what is ahead is as it was (Raising); numbers never rise upward, so it may end early.
use Rattle.std.proofs.Common.{◌≡◌, List, ℕ, ◌-◌, ◌≤◌, length, get_or, ℤ, pos}
use Rattle.tree.specs.Lists.{count}
use Rattle.tree.specs.Inner.Regathering.{Falling, way_up}
use Rattle.tree.proofs.Laws.Gathering.HandingUp.{Raising}
use Rattle.first_tree.proofs.gather.hand_up.Given as goal

-- `at` and the vertices above it, `more` in all, are still ahead on the way from v
abbrev pub Ahead : List ℕ → ℕ → ℕ → ℤ → List ℤ → List ℤ → ℕ → ℕ → Type 0
Ahead parents left v least slacks₀ slacks at more =
    (length (way_up parents more at) ≡ more) × ((u : ℕ) → count u (way_up parents more at) ≤ count u (way_up parents left v))
    × (Falling (λ u. get_or slacks₀ u (pos 0)) (way_up parents left v) → ((u : ℕ) → count u (way_up parents left v) ≤ 1)
    → Raising (way_up parents left v) (way_up parents more at) least slacks₀ slacks)

abbrev pub invariant-loop : goal.invariant-loop
invariant-loop l = Ahead l.parents l.left l.v l.least.0 l.initial.slacks l.slacks l.at (l.left - l.counter)
