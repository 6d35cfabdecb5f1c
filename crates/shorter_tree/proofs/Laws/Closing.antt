-- An array whose places close up in place, number by number. Assumes nothing.
use Prim.Native.Nat.{ℕ, suc, ◌+◌, ◌≤◌, ◌<◌}
use mathlib.Core.Path.{◌≡◌, sym, ◌∙◌, subst}
use mathlib.Core.Logic.{◌≢◌, ◌⊎◌, inl, inr}
use mathlib.Core.List.{List}
use native.Mathlib.Omega.{arith}
use lib.ListN.{length, get_or, set}
use lib.Seq.{get_or-set_same, get_or-set_other}
use Rattle.tree.proofs.Laws.Lists.Sums.{equal?}
use Rattle.shorter_tree.specs.Inner.Arrays.{skip, old}
use Rattle.shorter_tree.proofs.Laws.Dropping.{skip_ge, skip_le}

pub old_ge : (s b w : ℕ) → w ≤ old s b w
old_ge s b w = omega (arith, skip_ge s w, skip_ge b (skip s w))

pub old_le : (s b w : ℕ) → old s b w ≤ suc (suc w)
old_le s b w = omega (arith, skip_le s w, skip_le b (skip s w))

-- the numbers below w are closed up, R saying what stands there of what stood, and the places from w on are as they were
pub record Closing {A : Type 0} (R : A → A → Type 0) (s b w : ℕ) (before now : List A) : Type 0 where
  pub done : (x : ℕ) (d : A) → 1 ≤ x → x < w → R (get_or before (old s b x) d) (get_or now x d)
  pub left : (u : ℕ) (d : A) → w ≤ u → get_or now u d ≡ get_or before u d
  pub first : (d : A) → get_or now 0 d ≡ get_or before 0 d

-- e is read, and x is written
pub closing_more : {A : Type 0} (R : A → A → Type 0) (s b w : ℕ) (before now : List A) (e x : A) → 1 ≤ w → w < length now → ((d : A) → e ≡ get_or now (old s b w) d) → R e x
    → Closing R s b w before now → Closing R s b (w + 1) before (set now w x)
closing_more {A} R s b w before now e x w1 room is r c = record { done = λ u d h l. done u d h l (equal? u w); left = left; first = λ d. get_or-set_other now w 0 x d (omega arith) ∙ c.first d }
  where
    done : (u : ℕ) (d : A) → 1 ≤ u → u < w + 1 → (u ≡ w) ⊎ (u ≢ w) → R (get_or before (old s b u) d) (get_or (set now w x) u d)
    done u d h l (inl q) =
        subst (λ (i : ℕ). R (get_or before (old s b i) d) (get_or (set now w x) i d)) (sym q)
        (subst (λ (y : A). R (get_or before (old s b w) d) y) (sym (get_or-set_same now w x d room))
        (subst (λ (y : A). R y x) (is d ∙ c.left (old s b w) d (old_ge s b w)) r))
    done u d h l (inr q) = subst (R (get_or before (old s b u) d)) (sym (get_or-set_other now w u x d q)) (c.done u d h (omega arith))

    left : (u : ℕ) (d : A) → w + 1 ≤ u → get_or (set now w x) u d ≡ get_or before u d
    left u d h = get_or-set_other now w u x d (omega arith) ∙ c.left u d (omega arith)
