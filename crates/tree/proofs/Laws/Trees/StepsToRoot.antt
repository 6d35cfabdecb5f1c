-- A vertex that some number of steps up takes to the root is taken there by 2n - 1 of them: the vertices on the way are all different. Assumes nothing.
use mathlib.Core.Path.{◌≡◌, refl, ap, ◌∙◌}
use mathlib.Core.Logic.{◌≢◌, ◌⊎◌, inl, inr}
use mathlib.Core.List.{List}
use Prim.Native.Nat.{ℕ, zero, suc, ◌+◌, ◌-◌, ◌*◌, ◌≤◌, ◌<◌}
use native.Mathlib.Omega.{arith}
use lib.ListN.{length, get_or}
use Rattle.tree.specs.Lists.{sum_over, delta, count}
use Rattle.tree.specs.Tree.{parent_of, ancestor, Reached, Legal}
use Rattle.tree.specs.Measures.{path_up}
use Rattle.tree.proofs.Laws.Lists.Sums.{delta_self, delta_ne, equal?}
use Rattle.tree.proofs.Laws.Lists.Distinct.{few}
use Rattle.tree.proofs.Laws.Trees.Walks.{hops, hops_step, ancestor_more, ancestor_add, hops_reach}

-- as many steps as there are vertices below the root on the way
hops_length : (p : ℕ → ℕ) (j v : ℕ) → sum_over (path_up p j v) (λ x. 1) ≡ hops p j v
hops_length p zero v = refl
hops_length p (suc j) zero = refl
hops_length p (suc j) (suc v) = ap (λ z. 1 + z) (hops_length p j (p (suc v))) ∙ omega arith

module _ (p : ℕ → ℕ) (top : p 0 ≡ 0) (k : ℕ) where
  above : (v : ℕ) → ancestor p k v ≡ 0 → ancestor p k (p v) ≡ 0
  above v h = ancestor_more p k v top h

  -- a vertex on the way up is no farther from the root
  nearer : (j v x : ℕ) → ancestor p k v ≡ 0 → count x (path_up p j v) ≢ 0 → hops p k x ≤ hops p k v
  nearer zero v x h q = absurd (q refl)
  nearer (suc j) zero x h q = absurd (q refl)
  nearer (suc j) (suc v) x h q = go (nearer j (p (suc v)) x (above (suc v) h)) (equal? x (suc v))
    where
      go : (count x (path_up p j (p (suc v))) ≢ 0 → hops p k x ≤ hops p k (p (suc v))) → (x ≡ suc v) ⊎ (x ≢ suc v) → hops p k x ≤ hops p k (suc v)
      go ih (inl e) = omega (arith, ap (hops p k) e)
      go ih (inr d) = omega (arith, ih (omega (arith, delta_ne x (suc v) d)), hops_step p k v h)

  -- so none is met twice
  once : (j v x : ℕ) → ancestor p k v ≡ 0 → count x (path_up p j v) ≤ 1
  once zero v x h = omega arith
  once (suc j) zero x h = omega arith
  once (suc j) (suc v) x h = go (once j (p (suc v)) x (above (suc v) h)) (equal? x (suc v)) (equal? (count x (path_up p j (p (suc v)))) 0)
    where
      rest : ℕ
      rest = count x (path_up p j (p (suc v)))

      go : rest ≤ 1 → (x ≡ suc v) ⊎ (x ≢ suc v) → (rest ≡ 0) ⊎ (rest ≢ 0) → delta x (suc v) + rest ≤ 1
      go ih (inl e) (inl z) = omega (arith, ap (λ i. delta i (suc v)) e, delta_self (suc v))
      go ih (inl e) (inr z) = absurd (omega (arith, nearer j (p (suc v)) x (above (suc v) h) z, ap (hops p k) e, hops_step p k v h))
      go ih (inr d) z = omega (arith, delta_ne x (suc v) d)

  module _ (m : ℕ) (inside : (v : ℕ) → v ≤ m → p v ≤ m) where
    on_way : (j v x : ℕ) → v ≤ m → count x (path_up p j v) ≢ 0 → (1 ≤ x) × (x ≤ m)
    on_way zero v x l q = absurd (q refl)
    on_way (suc j) zero x l q = absurd (q refl)
    on_way (suc j) (suc v) x l q = go (on_way j (p (suc v)) x (inside (suc v) l)) (equal? x (suc v))
      where
        go : (count x (path_up p j (p (suc v))) ≢ 0 → (1 ≤ x) × (x ≤ m)) → (x ≡ suc v) ⊎ (x ≢ suc v) → (1 ≤ x) × (x ≤ m)
        go ih (inl e) = omega arith
        go ih (inr d) = ih (omega (arith, delta_ne x (suc v) d))

    reach_soon : (v : ℕ) → v ≤ m → ancestor p k v ≡ 0 → ancestor p m v ≡ 0
    reach_soon v l h =
        let d : ℕ = hops p k v in
        let le : d ≤ m = omega (arith, few (path_up p k v) m (λ x q. on_way k v x l q) (λ x. once k v x h), hops_length p k v) in
        let e : m ≡ (m - d) + d = omega arith in
        rw e (ancestor_add p (m - d) d v top (hops_reach p k v h))

-- in a list of 2n - 1 parents below 2n
pub reached_within : (n : ℕ) (P : List ℕ) → suc (length P) ≡ 2 * n → ((i : ℕ) → i < length P → get_or P i 0 < 2 * n) → (v : ℕ) → v < 2 * n → Reached P v → ancestor (parent_of P) (2 * n - 1) v ≡ 0
reached_within n P size inside v l r = reach_soon (parent_of P) refl r.0 (2 * n - 1) below v (omega arith) r.1
  where
    below : (u : ℕ) → u ≤ 2 * n - 1 → parent_of P u ≤ 2 * n - 1
    below zero h = omega arith
    below (suc u) h = omega (arith, inside u (omega arith))

pub legal_reach : (n : ℕ) (P : List ℕ) → Legal n P → (v : ℕ) → v < 2 * n → ancestor (parent_of P) (2 * n - 1) v ≡ 0
legal_reach n P L v l = reached_within n P L.size L.inside v l (L.reach v l)
