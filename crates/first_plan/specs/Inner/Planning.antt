-- The room that planning works in. Definitions alone.
use Rattle.std.specs.Prelude.{ℕ, ◌*◌, ◌≤◌, ◌<◌, List, length, ℤ}

abbrev pub HasPlanRoom : ℕ → List ℤ → List ℤ → List ℕ → List ℕ → List ℕ → Type 0
HasPlanRoom n own slacks room levels below = (n < length own) × (2 * n ≤ length slacks) × (4 * n ≤ length room) × (2 * n ≤ length levels) × (2 * n ≤ length below)
