-- How the numbers of the vertices change where an edge is split, for the contracts of the planner's inner functions. Definitions alone.
use Rattle.std.specs.Prelude.{ℕ, suc, ◌+◌, ◌≤◌, ◌<◌, ◌≡◌, Bool, ◌≢◌, ◌⊎◌, List, [], ◌∷◌, get_or, ltb, ℤ, pos, ◌-ℤ◌, ◌*ℤ◌, ◌≤ℤ◌}
use Rattle.quantities.specs.MinMax.{min_ℤ}
use Rattle.tree.specs.Lists.{count}
use Rattle.tree.specs.Measures.{path_up}

-- D says how many levels each vertex goes down: those at the places below j as many as their parents
pub record Deepens (parents upward : List ℕ) (m j : ℕ) (levels : List ℕ) (D : ℕ → ℕ) : Type 0 where
  pub few : (v : ℕ) → D v ≤ 1
  pub root : D 0 ≡ 0
  pub apart : (h i : ℕ) → h < m → i < m → get_or upward h 0 ≡ get_or upward i 0 → h ≡ i
  pub positive : (h : ℕ) → h < m → get_or upward h 0 ≢ 0
  pub parent : (h : ℕ) → h < j → (get_or parents (get_or upward h 0) 0 ≡ 0) ⊎ ((i : ℕ) × (h < i) × (i < m) × (get_or upward i 0 ≡ get_or parents (get_or upward h 0) 0))
  pub same : (h : ℕ) → h < j → D (get_or upward h 0) ≡ D (get_or parents (get_or upward h 0) 0)
  pub level : (h : ℕ) → h < j → get_or levels (get_or upward h 0) 0 ≡ suc (get_or levels (get_or parents (get_or upward h 0) 0) 0)

-- the vertex at place j goes down by one level, and with it all that are under it: none where it is a sink, and none behind it
pub record DeepensUnder (parents upward : List ℕ) (n m j : ℕ) (levels : List ℕ) (D : ℕ → ℕ) : Type 0 where
  pub deepens : Deepens parents upward m j levels D
  pub one : D (get_or upward j 0) ≡ 1
  pub behind : (h : ℕ) → j < h → h < m → D (get_or upward h 0) ≡ 0
  pub sink : get_or upward j 0 ≤ n → (h : ℕ) → h < j → D (get_or upward h 0) ≡ 0

-- the vertices at the places from i on have gone down by D, each level at the cost c; all else is as it was
pub record Lowered (upward : List ℕ) (m : ℕ) (D : ℕ → ℕ) (c : ℤ) (levels₀ : List ℕ) (slacks₀ : List ℤ) (i : ℕ) (levels : List ℕ) (slacks : List ℤ) : Type 0 where
  pub done : (h : ℕ) → i ≤ h → h < m
      → (get_or levels (get_or upward h 0) 0 ≡ get_or levels₀ (get_or upward h 0) 0 + D (get_or upward h 0))
      × (get_or slacks (get_or upward h 0) (pos 0) ≡ get_or slacks₀ (get_or upward h 0) (pos 0) -ℤ c *ℤ pos (D (get_or upward h 0)))
  pub left : (h : ℕ) → h < i → h < m → (get_or levels (get_or upward h 0) 0 ≡ get_or levels₀ (get_or upward h 0) 0) × (get_or slacks (get_or upward h 0) (pos 0) ≡ get_or slacks₀ (get_or upward h 0) (pos 0))
  pub other : (v : ℕ) → ((h : ℕ) → h < m → get_or upward h 0 ≢ v) → (get_or levels v 0 ≡ get_or levels₀ v 0) × (get_or slacks v (pos 0) ≡ get_or slacks₀ v (pos 0))

-- u is one level deeper than its number says, since its parent has gone down
abbrev pub is_behind : List ℕ → List ℕ → ℕ → Bool
is_behind parents levels u = ltb (get_or levels u 0) (get_or levels (get_or parents u 0) 0 + 1)

-- the vertices on the way up from v, `left` of them at most
abbrev pub way_up : List ℕ → ℕ → ℕ → List ℕ
way_up parents left v = path_up (λ u. get_or parents u 0) left v

-- no number is above one that stands before it
abbrev pub Falling : (ℕ → ℤ) → List ℕ → Type 0
Falling f [] = Unit {0}
Falling f (x ∷ l) = ((y : ℕ) → count y l ≢ 0 → f y ≤ℤ f x) × Falling f l

-- the numbers of the vertices on a way, where w has been handed up along it
pub record Raised (way : List ℕ) (w : ℤ) (slacks₀ slacks : List ℤ) : Type 0 where
  pub on : (v : ℕ) → count v way ≢ 0 → get_or slacks v (pos 0) ≡ min_ℤ (get_or slacks₀ v (pos 0)) w
  pub off : (v : ℕ) → count v way ≡ 0 → get_or slacks v (pos 0) ≡ get_or slacks₀ v (pos 0)
