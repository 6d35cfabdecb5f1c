-- Lists of a net's sinks: insertion, sorting, taking and dropping give such lists, and say the same for two tests that agree on sinks. Assumes nothing.
use Prim.Native.Nat.{ℕ, zero, suc, ◌+◌, ◌≤◌}
use mathlib.Core.Path.{◌≡◌, refl, ap, ap₂, ◌∙◌}
use mathlib.Core.Bool.{Bool, true, false}
use mathlib.Core.List.{List, [], ◌∷◌, map}
use native.Mathlib.Omega.{arith}
use lib.ListN.{take, drop}
use Rattle.tree.specs.Lists.{range}
use Rattle.tree.specs.Planning.{insert, sort}
use Rattle.formats.proofs.Laws.Lines.Elements.{All}

-- s is one of n sinks
abbrev pub IsSink : ℕ → ℕ → Type 0
IsSink n s = (1 ≤ s) × (s ≤ n)

module _ (n : ℕ) where
  pub sinks_range : (a m : ℕ) → 1 ≤ a → a + m ≤ suc n → All (IsSink n) (range a m)
  sinks_range a zero h l = tt
  sinks_range a (suc m) h l = ((h, omega arith), sinks_range (suc a) m (omega arith) (omega arith))

  pub sinks_take : (j : ℕ) (l : List ℕ) → All (IsSink n) l → All (IsSink n) (take j l)
  sinks_take zero l h = tt
  sinks_take (suc j) [] h = tt
  sinks_take (suc j) (x ∷ l) h = (h.0, sinks_take j l h.1)

  pub sinks_drop : (j : ℕ) (l : List ℕ) → All (IsSink n) l → All (IsSink n) (drop j l)
  sinks_drop zero l h = h
  sinks_drop (suc j) [] h = tt
  sinks_drop (suc j) (x ∷ l) h = sinks_drop j l h.1

  module _ (before : ℕ → ℕ → Bool) where
    sinks_insert : (x : ℕ) (l : List ℕ) → IsSink n x → All (IsSink n) l → All (IsSink n) (insert before x l)
    sinks_insert x [] a h = (a, tt)
    sinks_insert x (y ∷ l) a h = go (before x y) (sinks_insert x l a h.1)
      where
        go : (t : Bool) → All (IsSink n) (insert before x l) → All (IsSink n) (elim t [ true ↦ x ∷ (y ∷ l) | false ↦ y ∷ insert before x l ])
        go true ih = (a, h)
        go false ih = (h.0, ih)

    pub sinks_sort : (l : List ℕ) → All (IsSink n) l → All (IsSink n) (sort before l)
    sinks_sort [] h = tt
    sinks_sort (x ∷ l) h = sinks_insert x (sort before l) h.0 (sinks_sort l h.1)

  module _ (b c : ℕ → ℕ → Bool) (e : (x y : ℕ) → IsSink n x → IsSink n y → b x y ≡ c x y) where
    insert_same : (x : ℕ) (l : List ℕ) → IsSink n x → All (IsSink n) l → insert b x l ≡ insert c x l
    insert_same x [] a h = refl
    insert_same x (y ∷ l) a h = λ i. elim (e x y a h.0 i) [ true ↦ x ∷ (y ∷ l) | false ↦ y ∷ insert_same x l a h.1 i ]

    pub sort_same : (l : List ℕ) → All (IsSink n) l → sort b l ≡ sort c l
    sort_same [] h = refl
    sort_same (x ∷ l) h = ap (insert b x) (sort_same l h.1) ∙ insert_same x (sort c l) h.0 (sinks_sort c l h.1)

  pub map_same : {A : Type 0} (p q : ℕ → A) → ((s : ℕ) → IsSink n s → p s ≡ q s) → (l : List ℕ) → All (IsSink n) l → map p l ≡ map q l
  map_same p q e [] h = refl
  map_same p q e (x ∷ l) h = ap₂ ◌∷◌ (e x h.0) (map_same p q e l h.1)
