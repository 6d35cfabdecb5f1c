-- What the arrays hold while a queue goes down a tree from the root, for the contracts of its functions. Definitions alone.
use Rattle.std.specs.Prelude.{ℕ, ◌*◌, ◌-◌, ◌≤◌, ◌<◌, ◌≡◌, ◌≢◌, ◌⊎◌, List, [], ◌∷◌, get_or, None}
use Rattle.tree.specs.Lists.{range}
use Rattle.tree.specs.Settling.{children_in}
use Rattle.tree.specs.Defects.{wrong_children}
use Rattle.tree.specs.Inner.Arrays.{parents_of, Parents, UnderRoot}

-- the children of b among the vertices from v on, the lowest first
abbrev pub children_from : ℕ → List ℕ → ℕ → ℕ → List ℕ
children_from n parents v b = children_in (λ u. get_or parents u 0) b (range v (2 * n - v))

-- the first two of a list stand at the place b of two arrays, as far as there are two
abbrev pub Stand : List ℕ → List ℕ → ℕ → List ℕ → Type 0
Stand first second b [] = Unit {0}
Stand first second b (x ∷ []) = get_or first b 0 ≡ x
Stand first second b (x ∷ (y ∷ l)) = (get_or first b 0 ≡ x) × (get_or second b 0 ≡ y)

-- a tree with the right numbers of children, reached from the root or not, and the children of each vertex
pub record Linked (n : ℕ) (parents first second : List ℕ) : Type 0 where
  pub parents_in_lem : Parents n parents
  pub counts : wrong_children n (parents_of n parents) ≡ None
  pub children_at : (b : ℕ) → b < 2 * n → Stand first second b (children_from n parents 1 b)

-- v stands in the queue, which ends before `end`
abbrev pub Queued : List ℕ → ℕ → ℕ → Type 0
Queued queue end v = (j : ℕ) × (j < end) × (get_or queue j 0 ≡ v)

-- The queue ends before `end`: no vertex twice, each after its parent. The root's child and the children of the first i are in it, and no others.
pub record Descended (n : ℕ) (parents queue : List ℕ) (i end : ℕ) : Type 0 where
  pub begun : i ≤ end
  pub inside : (j : ℕ) → j < end → UnderRoot n (get_or queue j 0)
  pub once : (h j : ℕ) → h < end → j < end → get_or queue h 0 ≡ get_or queue j 0 → h ≡ j
  pub after : (j : ℕ) → j < end → (get_or parents (get_or queue j 0) 0 ≡ 0) ⊎ ((h : ℕ) × (h < j) × (h < i) × (get_or queue h 0 ≡ get_or parents (get_or queue j 0) 0))
  pub top : (v : ℕ) → UnderRoot n v → get_or parents v 0 ≡ 0 → Queued queue end v
  pub down : (h v : ℕ) → h < i → UnderRoot n v → get_or parents v 0 ≡ get_or queue h 0 → Queued queue end v

-- the marks: 0 for the vertices that are not in the queue
pub record MarksQueued (n : ℕ) (queue : List ℕ) (end : ℕ) (marks : List ℕ) : Type 0 where
  pub out : (v : ℕ) → v < 2 * n → get_or marks v 0 ≡ 0 → Queued queue end v → ⊥
  pub in_queue : (v : ℕ) → v < 2 * n → get_or marks v 0 ≢ 0 → Queued queue end v
