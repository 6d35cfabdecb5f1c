-- What a search by a measure and a number finds, over any predicate. Definitions alone.
use Rattle.std.specs.Prelude.{ℕ, ◌≤◌, ◌≡◌}

-- (a, v) is not after (b, u): a is less, or the same and v is not higher
pub record Leads (a v b u : ℕ) : Type 0 where
  pub less : a ≤ b
  pub tied : a ≡ b → v ≤ u

-- r is u, or goes before it
abbrev pub Ahead : (ℕ → ℕ) → ℕ → ℕ → Type 0
Ahead f r u = Leads (f r) r (f u) u

-- r is one of those that are in, and goes before all the others
pub record First (f : ℕ → ℕ) (In : ℕ → Type 0) (r : ℕ) : Type 0 where
  pub member : In r
  pub ahead : (u : ℕ) → In u → Ahead f r u

-- v is one of those that are in, and (cost, v) is not after any of them
pub record Bound (f : ℕ → ℕ) (In : ℕ → Type 0) (v cost : ℕ) : Type 0 where
  pub member : In v
  pub leads : (u : ℕ) → In u → Leads cost v (f u) u
