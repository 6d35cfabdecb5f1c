-- Which vertices are under which after the edge to x is split: as before among the old ones; the new branch point is above what is under x, and the new sink under what x is under. Assumes nothing.
use Prim.Native.Nat.{ℕ, zero, suc, ◌+◌, ◌≤◌, ◌<◌}
use mathlib.Core.Path.{◌≡◌, refl, sym, ap, ◌∙◌}
use mathlib.Core.Logic.{◌≢◌, ◌⊎◌, inl, inr}
use mathlib.Core.List.{List}
use native.Mathlib.Omega.{arith}
use Rattle.tree.proofs.Laws.Trees.AnySplit.{meet}
use Rattle.tree.proofs.Laws.Trees.Growing.{PartTree, Split, Inner, parent_inner, inner_up, inner_reach, hops_down, member, inner_ne, stays, above, past}
use Rattle.tree.proofs.Laws.Planning.SinkEdge.{in_pos, meet_stable}
use Rattle.tree.proofs.Laws.Lists.Sums.{delta_self, delta_ne, equal?}
use Rattle.tree.proofs.Laws.Trees.Under.{not_above}
use Rattle.tree.proofs.Laws.Trees.Walks.{hops}
use Rattle.tree.specs.Lists.{delta, count, down}
use Rattle.tree.specs.Tree.{ancestor}

module _ {N : ℕ} {S : List ℕ} {k F : ℕ} {p p' : ℕ → ℕ} {s x : ℕ} (t : PartTree N S k F p) (c : Split N k s x p p')
    (hx : count x S + count x (down N k) ≢ 0) (s1 : 1 ≤ s) (sN : s ≤ N) (fresh : count s S ≡ 0) where
  abbrev b : ℕ
  b = N + suc k

  -- above x nothing changes
  clear_meet : (v j y : ℕ) → Inner N k y → hops p F y < hops p F x → meet p' j v y ≡ meet p j v y
  clear_meet v zero y i l = refl
  clear_meet v (suc j) y i l =
      ap (λ (z : ℕ). delta v y + meet p' j v z) (stays t c hx s1 sN fresh y i (λ e. omega (arith, ap (hops p F) e)))
      ∙ ap (λ (z : ℕ). delta v y + z) (clear_meet v j (p y) (inner_up t y i) (omega (arith, hops_down p F y t.top (inner_reach t y i))))

  over_x : (v j : ℕ) → meet p' j v (p x) ≡ meet p j v (p x)
  over_x v j = clear_meet v j (p x) (parent_inner t x hx) (above t c hx s1 sN fresh)

  -- an old vertex, and the new branch point in x's stead
  any_meet : (v w : ℕ) → v ≢ 0 → w ≢ 0 → ((v ≡ w) × (v ≢ b)) ⊎ ((v ≡ b) × (w ≡ x)) → (j y : ℕ) → y ≢ s → y ≢ b → Inner N k (p y) → ancestor p j y ≡ 0 → meet p' (suc j) v y ≡ meet p j w y
  any_meet v w v0 w0 o zero y ys yb i r = omega (arith, ap (delta v) r, delta_ne v 0 v0)
  any_meet v w v0 w0 o (suc j) y ys yb i r =
      go (any_meet v w v0 w0 o j (p y) (inner_ne t c hx s1 sN fresh (p y) i).0 (inner_ne t c hx s1 sN fresh (p y) i).1 (inner_up t (p y) i) r) (equal? y x) o
    where
      go : meet p' (suc j) v (p y) ≡ meet p j w (p y) → (y ≡ x) ⊎ (y ≢ x) → ((v ≡ w) × (v ≢ b)) ⊎ ((v ≡ b) × (w ≡ x)) → delta v y + meet p' (suc j) v (p' y) ≡ delta w y + meet p j w (p y)
      go ih (inr d) (inl q) = omega (arith, ap (meet p' (suc j) v) (c.old y d ys yb), ih, ap (λ (z : ℕ). delta z y) q.0)
      go ih (inr d) (inr q) =
          omega (arith, ap (meet p' (suc j) v) (c.old y d ys yb), ih, ap (λ (z : ℕ). delta z y) q.0, ap (λ (z : ℕ). delta z y) q.1, delta_ne b y (λ e. yb (sym e)), delta_ne x y (λ e. d (sym e)))
      go ih (inl e) (inl q) =
          omega (arith, ap (λ (z : ℕ). delta z y) q.0, ap (meet p' (suc j) v) (ap p' e ∙ c.low), delta_ne v b q.1, ap (meet p' j v) c.mid, over_x v j, ap (λ (z : ℕ). meet p j z (p x)) q.0, ap (λ (z : ℕ). meet p j w (p z)) e)
      go ih (inl e) (inr q) =
          omega (arith, ap (λ (z : ℕ). delta z y) q.0, delta_ne b y (λ e. yb (sym e)), ap (meet p' (suc j) v) (ap p' e ∙ c.low), ap (λ (z : ℕ). delta z b) q.0, delta_self b, ap (meet p' j v) c.mid, over_x v j, far, ap (λ (z : ℕ). delta z y) q.1, ap (delta x) e, delta_self x, ap (λ (z : ℕ). meet p j w (p z)) e, ap (λ (z : ℕ). meet p j z (p x)) q.1, not_above t x j hx)
        where
          far : meet p j v (p x) ≡ 0
          far = ap (λ (z : ℕ). meet p j z (p x)) q.0 ∙ new_above j (p x) (parent_inner t x hx)
            where
              new_above : (i z : ℕ) → Inner N k z → meet p i b z ≡ 0
              new_above zero z m = refl
              new_above (suc i) z m = omega (arith, delta_ne b z (λ f. (inner_ne t c hx s1 sN fresh z m).1 (sym f)), new_above i (p z) (inner_up t z m))

  more : (v w : ℕ) → v ≢ 0 → w ≢ 0 → ((v ≡ w) × (v ≢ b)) ⊎ ((v ≡ b) × (w ≡ x)) → (y : ℕ) → count y S + count y (down N k) ≢ 0 → meet p' (suc (suc F)) v y ≡ meet p F w y
  more v w v0 w0 o y m =
      let q : (1 ≤ y) × (y ≢ s) × (y ≢ b) = member t c hx s1 sN fresh y m in
      meet_stable p' (suc F) v y v0 (past t c hx s1 sN fresh F y q.1 q.2 (parent_inner t y m) (t.reach y m))
      ∙ any_meet v w v0 w0 o F y q.1 q.2 (parent_inner t y m) (t.reach y m)

  -- old vertices under old ones, and under the new branch point
  pub old_under : (v y : ℕ) → v ≢ 0 → v ≢ b → count y S + count y (down N k) ≢ 0 → meet p' (suc (suc F)) v y ≡ meet p F v y
  old_under v y v0 vb m = more v v v0 v0 (inl (refl, vb)) y m

  pub branch_over : (y : ℕ) → count y S + count y (down N k) ≢ 0 → meet p' (suc (suc F)) b y ≡ meet p F x y
  branch_over y m = more b x (omega arith) (in_pos t x hx) (inr (refl, refl)) y m

  -- the new sink is under what the parent of x is under
  pub new_under : (v : ℕ) → v ≢ s → v ≢ b → meet p' (suc (suc F)) v s ≡ meet p F v (p x)
  new_under v vs vb =
      omega (arith, delta_ne v s vs, ap (meet p' (suc F) v) c.new, delta_ne v b vb, ap (meet p' F v) c.mid, over_x v F)
