-- What makes a tree illegal, as judge looks for it: document 01, the refusals 9 and 10. Definitions alone.
use Rattle.std.specs.Prelude.{ℕ, zero, suc, ◌*◌, ◌-◌, ◌<◌, ◌≡◌, ◌≢◌, not, List, ◌∷◌, eqb, Option}
use Rattle.tree.specs.Lists.{count, range, first_with}
use Rattle.tree.specs.Net.{branch_numbers}
use Rattle.tree.specs.Tree.{parent_of, ancestor, Reached}

-- "the root has exactly one child, each branch point exactly two"
abbrev pub due_children : ℕ → ℕ
due_children zero = 1
due_children (suc v) = 2

-- 9: "wrong number of children; line 0 for the root, else the lowest such branch point's"
abbrev pub wrong_children : ℕ → List ℕ → Option ℕ
wrong_children n P = first_with (λ v. not (eqb (count v P) (due_children v))) (0 ∷ branch_numbers n)

-- 10: "the lowest vertex not reached from the root". Where steps up lead to the root at all, 2n - 1 of them do
abbrev pub unreached : ℕ → List ℕ → Option ℕ
unreached n P = first_with (λ v. not (eqb (ancestor (parent_of P) (2 * n - 1) v) 0)) (range 1 (2 * n - 1))

-- ---- what these find, without a search

-- "the root has exactly one child, each branch point exactly two"
pub record RightChildren (n : ℕ) (P : List ℕ) : Type 0 where
  pub root : count 0 P ≡ 1
  pub branch : (b : ℕ) → n < b → b < 2 * n → count b P ≡ 2

-- 9 is told of v: the root, "else the lowest such branch point"
pub data WrongChildrenAt (n : ℕ) (P : List ℕ) : ℕ → Type 0 where
  at_root : count 0 P ≢ 1 → WrongChildrenAt n P 0
  at_branch : {b : ℕ} → count 0 P ≡ 1 → n < b → b < 2 * n → count b P ≢ 2 → ((u : ℕ) → n < u → u < b → count u P ≡ 2) → WrongChildrenAt n P b

-- 10 is told of v: "the lowest vertex not reached from the root"
pub record LowestUnreached (n : ℕ) (P : List ℕ) (v : ℕ) : Type 0 where
  pub vertex : v < 2 * n
  pub unreached : Reached P v → ⊥
  pub lowest : (u : ℕ) → u < v → Reached P u
