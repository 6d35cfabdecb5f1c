-- Splitting the edge to any vertex x: every vertex at or below x gets one branch point more above it, and no other changes. Assumes nothing.
use mathlib.Core.Path.{◌≡◌, refl, sym, ap, ◌∙◌}
use mathlib.Core.Logic.{◌≢◌, ◌⊎◌, inl, inr}
use mathlib.Core.List.{List}
use Prim.Native.Nat.{ℕ, zero, suc, ◌+◌, ◌≤◌, ◌<◌}
use native.Mathlib.Omega.{arith}
use Rattle.tree.proofs.Laws.Trees.Growing.{PartTree, Split, Inner, parent_inner, inner_up, inner_reach, hops_suc, hops_down, member, inner_ne, stays, above, past}
use Rattle.tree.proofs.Laws.Lists.Sums.{delta_self, delta_ne, equal?}
use Rattle.tree.proofs.Laws.Trees.Walks.{hops, hops_stable, hops_zero}
use Rattle.tree.specs.Lists.{delta, count, down}
use Rattle.tree.specs.Tree.{ancestor}

-- how often x is met on j steps up from y
abbrev pub meet : (ℕ → ℕ) → ℕ → ℕ → ℕ → ℕ
meet p zero x y = zero
meet p (suc j) x y = delta x y + meet p j x (p y)

module _ {N : ℕ} {S : List ℕ} {k F : ℕ} {p p' : ℕ → ℕ} {s x : ℕ} (t : PartTree N S k F p) (c : Split N k s x p p')
    (hx : count x S + count x (down N k) ≢ 0) (s1 : 1 ≤ s) (sN : s ≤ N) (fresh : count s S ≡ 0) where
  x1 : 1 ≤ x
  x1 = (member t c hx s1 sN fresh x hx).0

  -- above x nothing changes
  clear_hops : (j y : ℕ) → Inner N k y → hops p F y < hops p F x → (hops p' j y ≡ hops p j y) × (meet p j x y ≡ 0)
  clear_hops zero y i l = (refl, refl)
  clear_hops (suc j) zero i l = (refl, omega (arith, delta_ne x 0 (omega (arith, x1)), (clear_hops j (p 0) (inner_up t 0 i) (rw t.top l)).1))
  clear_hops (suc j) (suc v) i l =
      let ne : suc v ≢ x = λ e. omega (arith, ap (hops p F) e) in
      let ih : (hops p' j (p (suc v)) ≡ hops p j (p (suc v))) × (meet p j x (p (suc v)) ≡ 0) =
      clear_hops j (p (suc v)) (inner_up t (suc v) i) (omega (arith, hops_down p F (suc v) t.top (inner_reach t (suc v) i))) in
      (rw (stays t c hx s1 sN fresh (suc v) i ne) (ap suc ih.0), omega (arith, delta_ne x (suc v) (λ e. ne (sym e)), ih.1))

  pub clear_x : (j : ℕ) → (hops p' j (p x) ≡ hops p j (p x)) × (meet p j x (p x) ≡ 0)
  clear_x j = clear_hops j (p x) (parent_inner t x hx) (above t c hx s1 sN fresh)

  any_hops : (j y : ℕ) → y ≢ s → y ≢ N + suc k → Inner N k (p y) → ancestor p j y ≡ 0 → hops p' (suc j) y ≡ hops p j y + meet p j x y
  any_hops zero zero ns nb i r = refl
  any_hops zero (suc v) ns nb i r = omega arith
  any_hops (suc j) zero ns nb i r = omega (arith, (clear_hops (suc j) 0 (inl refl) (omega (arith, hops_zero p F, above t c hx s1 sN fresh))).1)
  any_hops (suc j) (suc v) ns nb i r =
      go (any_hops j (p (suc v)) (inner_ne t c hx s1 sN fresh (p (suc v)) i).0 (inner_ne t c hx s1 sN fresh (p (suc v)) i).1 (inner_up t (p (suc v)) i) r) (equal? (suc v) x)
    where
      go : hops p' (suc j) (p (suc v)) ≡ hops p j (p (suc v)) + meet p j x (p (suc v)) → (suc v ≡ x) ⊎ (suc v ≢ x)
          → suc (hops p' (suc j) (p' (suc v))) ≡ suc (hops p j (p (suc v))) + (delta x (suc v) + meet p j x (p (suc v)))
      go ih (inl e) = rw (e, c.low, hops_suc p' j (N + suc k) (omega arith), c.mid, delta_self x) (omega (arith, clear_x j))
      go ih (inr d) = rw (c.old (suc v) d ns nb, ih, delta_ne x (suc v) (λ e. d (sym e))) (omega arith)

  -- the depths of all vertices: one more for each that has x at or above it
  pub depth_any : (y : ℕ) → count y S + count y (down N k) ≢ 0 → hops p' (suc (suc F)) y ≡ hops p F y + meet p F x y
  depth_any y m =
      let q : (1 ≤ y) × (y ≢ s) × (y ≢ N + suc k) = member t c hx s1 sN fresh y m in
      hops_stable p' (suc F) y (past t c hx s1 sN fresh F y q.1 q.2 (parent_inner t y m) (t.reach y m)) ∙ any_hops F y q.1 q.2 (parent_inner t y m) (t.reach y m)
