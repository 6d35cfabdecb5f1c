-- Walks up a tree: where they lead, and how many vertices below the root they pass. Assumes nothing.
use mathlib.Core.Path.{◌≡◌, refl, sym, ap, ◌∙◌}
use Prim.Native.Nat.{ℕ, zero, suc, ◌+◌, ◌-◌, ◌*◌, ◌^◌, ◌≤◌, zero-le}
use mathlib.Core.List.{◌∷◌}
use native.Mathlib.Nat.{zero-add, suc-add, pow-succ'}
use native.Mathlib.Omega.{arith}
use Rattle.tree.specs.Tree.{ancestor}
use Rattle.tree.specs.Measures.{path_up}

-- how many of the vertices v, p v, .. k of them, are not the root
abbrev pub hops : (ℕ → ℕ) → ℕ → ℕ → ℕ
hops p zero v = zero
hops p (suc k) zero = zero
hops p (suc k) (suc v) = suc (hops p k (p (suc v)))

pub ancestor_top : (p : ℕ → ℕ) (j : ℕ) → p 0 ≡ 0 → ancestor p j 0 ≡ 0
ancestor_top p zero h = refl
ancestor_top p (suc j) h = rw h (ancestor_top p j h)

pub ancestor_more : (p : ℕ → ℕ) (j v : ℕ) → p 0 ≡ 0 → ancestor p j v ≡ 0 → ancestor p (suc j) v ≡ 0
ancestor_more p zero v z r = ap p r ∙ z
ancestor_more p (suc j) v z r = ancestor_more p j (p v) z r

pub ancestor_add : (p : ℕ → ℕ) (j F v : ℕ) → p 0 ≡ 0 → ancestor p F v ≡ 0 → ancestor p (j + F) v ≡ 0
ancestor_add p zero F v z h = rw (zero-add F) h
ancestor_add p (suc j) F v z h = rw suc-add (ancestor_more p (j + F) v z (ancestor_add p j F v z h))

-- the path up from v ends at the root: more steps do not change it
path_more : (p : ℕ → ℕ) (k v : ℕ) → ancestor p k v ≡ 0 → path_up p (suc k) v ≡ path_up p k v
path_more p zero zero h = refl
path_more p zero (suc v) h = absurd (omega arith)
path_more p (suc k) zero h = refl
path_more p (suc k) (suc v) h = ap (◌∷◌ (suc v)) (path_more p k (p (suc v)) h)

path_add : (p : ℕ → ℕ) (j k v : ℕ) → p 0 ≡ 0 → ancestor p k v ≡ 0 → path_up p (j + k) v ≡ path_up p k v
path_add p zero k v z h = ap (λ i. path_up p i v) (zero-add k)
path_add p (suc j) k v z h = rw suc-add (path_more p (j + k) v (ancestor_add p j k v z h) ∙ path_add p j k v z h)

pub path_same : (p : ℕ → ℕ) (j k v : ℕ) → p 0 ≡ 0 → ancestor p j v ≡ 0 → ancestor p k v ≡ 0 → path_up p j v ≡ path_up p k v
path_same p j k v z h l =
    let e : k + j ≡ j + k = omega arith in
    sym (path_add p k j v z h) ∙ ap (λ i. path_up p i v) e ∙ path_add p j k v z l

pub hops_stable : (p : ℕ → ℕ) (k v : ℕ) → ancestor p k v ≡ 0 → hops p (suc k) v ≡ hops p k v
hops_stable p zero zero h = refl
hops_stable p zero (suc v) h = omega arith
hops_stable p (suc k) zero h = refl
hops_stable p (suc k) (suc v) h = ap suc (hops_stable p k (p (suc v)) h)

pub hops_step : (p : ℕ → ℕ) (k v : ℕ) → ancestor p k (suc v) ≡ 0 → hops p k (suc v) ≡ suc (hops p k (p (suc v)))
hops_step p zero v h = omega arith
hops_step p (suc k) v h = ap suc (sym (hops_stable p k (p (suc v)) h))

pub hops_zero : (p : ℕ → ℕ) (k : ℕ) → hops p k 0 ≡ 0
hops_zero p zero = refl
hops_zero p (suc k) = refl

pub hops_le : (p : ℕ → ℕ) (k v : ℕ) → hops p k v ≤ k
hops_le p zero v = zero-le
hops_le p (suc k) zero = zero-le
hops_le p (suc k) (suc v) = omega (arith, hops_le p k (p (suc v)))

pub hops_add : (p : ℕ → ℕ) (j F v : ℕ) → p 0 ≡ 0 → ancestor p F v ≡ 0 → hops p (j + F) v ≡ hops p F v
hops_add p zero F v z h = rw (zero-add F) refl
hops_add p (suc j) F v z h = rw suc-add (hops_stable p (j + F) v (ancestor_add p j F v z h) ∙ hops_add p j F v z h)

-- a weight that halves at each step down
pub halve : (p : ℕ → ℕ) (F v : ℕ) → ancestor p F (suc v) ≡ 0 → 2 * 2 ^ (suc F - hops p F (suc v)) ≡ 2 ^ (suc F - hops p F (p (suc v)))
halve p F v h =
    let x : ℕ = hops p F (p (suc v)) in
    let e : suc F - hops p F (suc v) ≡ F - x = omega (arith, hops_step p F v h) in
    let e' : suc F - x ≡ suc (F - x) = omega (arith, hops_le p F (p (suc v))) in
    rw (e, e') (sym (pow-succ' 2 (F - x)))

-- where some number of steps leads to the root, as many as that do
pub hops_reach : (p : ℕ → ℕ) (k v : ℕ) → ancestor p k v ≡ 0 → ancestor p (hops p k v) v ≡ 0
hops_reach p zero v h = h
hops_reach p (suc k) zero h = refl
hops_reach p (suc k) (suc v) h = hops_reach p k (p (suc v)) h
