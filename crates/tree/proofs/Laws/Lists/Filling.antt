-- An array that is filled place by place. Assumes nothing.
use Prim.Native.Nat.{ℕ, ◌+◌, ◌≤◌, ◌<◌}
use mathlib.Core.Path.{◌≡◌, sym, ap, ◌∙◌}
use mathlib.Core.Logic.{◌≢◌, ◌⊎◌, inl, inr}
use mathlib.Core.List.{List}
use native.Mathlib.Omega.{arith}
use lib.ListN.{length, get_or, set}
use lib.Seq.{get_or-set_same, get_or-set_other}
use Rattle.tree.proofs.Laws.Lists.Sums.{equal?}

-- f stands at the places from `start` up to i; with f i put at i it stands there too
pub filled_more : {A : Type 0} (d : A) (f : ℕ → A) (start : ℕ) (l : List A) (i : ℕ) (a : A) → i < length l → a ≡ f i
    → ((u : ℕ) → start ≤ u → u < i → get_or l u d ≡ f u) → (u : ℕ) → start ≤ u → u < i + 1 → get_or (set l i a) u d ≡ f u
filled_more d f start l i a h e below u from to = go (equal? u i)
  where
    go : (u ≡ i) ⊎ (u ≢ i) → get_or (set l i a) u d ≡ f u
    go (inl q) = ap (λ j. get_or (set l i a) j d) q ∙ get_or-set_same l i a d h ∙ e ∙ ap f (sym q)
    go (inr q) = get_or-set_other l i u a d q ∙ below u from (omega arith)
