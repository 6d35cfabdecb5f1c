-- The vertices at or under a vertex: those that meet it on their way up. Assumes nothing.
use Prim.Native.Nat.{ℕ, zero, suc, ◌+◌, ◌*◌, ◌≤◌, ◌<◌, zero-le}
use mathlib.Core.Path.{◌≡◌, refl, sym, ap, ◌∙◌, subst}
use mathlib.Core.Logic.{◌≢◌, ◌⊎◌, inl, inr}
use mathlib.Core.List.{List, [], ◌∷◌}
use native.Mathlib.Nat.{zero-add, suc-add}
use native.Mathlib.Omega.{arith}
use lib.ListN.{length}
use Rattle.tree.proofs.Laws.Trees.AnySplit.{meet}
use Rattle.tree.proofs.Laws.Trees.Growing.{PartTree, Inner, parent_inner, inner_up, inner_reach, hops_up, hops_down}
use Rattle.tree.proofs.Laws.Kraft.GapSums.{depth_in}
use Rattle.tree.proofs.Laws.Planning.SinkEdge.{in_pos, meet_next, meet_stable, meet_self}
use Rattle.tree.proofs.Laws.Lists.Sums.{delta_self, delta_ne, equal?, down_in, down_once}
use Rattle.tree.proofs.Laws.Trees.Walks.{hops, hops_le, ancestor_more, ancestor_add}
use Rattle.tree.specs.Lists.{sum_over, delta, count, down}
use Rattle.tree.specs.Measures.{path_up}
use Rattle.tree.specs.Tree.{ancestor}

pub path_hops : (p : ℕ → ℕ) (j y : ℕ) → length (path_up p j y) ≡ hops p j y
path_hops p zero y = refl
path_hops p (suc j) zero = refl
path_hops p (suc j) (suc v) = ap suc (path_hops p j (p (suc v)))

module _ (p : ℕ → ℕ) (top : p 0 ≡ 0) (x : ℕ) (x0 : x ≢ 0) where
  pub meet_root : (j : ℕ) → meet p j x 0 ≡ 0
  meet_root zero = refl
  meet_root (suc j) = omega (arith, delta_ne x 0 x0, ap (meet p j x) top, meet_root j)

  -- the vertices met are those of the path of specs/Measures
  pub path_meet : (j y : ℕ) → count x (path_up p j y) ≡ meet p j x y
  path_meet zero y = refl
  path_meet (suc j) zero = sym (meet_root (suc j))
  path_meet (suc j) (suc v) = ap (λ (i : ℕ). delta x (suc v) + i) (path_meet j (p (suc v)))

  pub meet_add : (i F y : ℕ) → ancestor p F y ≡ 0 → meet p (i + F) x y ≡ meet p F x y
  meet_add zero F y r = ap (λ (j : ℕ). meet p j x y) (zero-add F)
  meet_add (suc i) F y r = ap (λ (j : ℕ). meet p j x y) (suc-add i F) ∙ meet_stable p (i + F) x y x0 (ancestor_add p i F y top r) ∙ meet_add i F y r

module _ {N : ℕ} {S : List ℕ} {k F : ℕ} {p : ℕ → ℕ} (t : PartTree N S k F p) where
  -- what is under x and is not x is under a child of x
  pub under_child : (x : ℕ) → x ≢ 0 → (j y : ℕ) → count y S + count y (down N k) ≢ 0 → meet p j x y ≢ 0
      → (y ≡ x) ⊎ ((c : ℕ) × (count c S + count c (down N k) ≢ 0) × (p c ≡ x) × (meet p j c y ≢ 0))
  under_child x x0 zero y m h = absurd (h refl)
  under_child x x0 (suc j) y m h = go (λ z q r. under_child x x0 j z q r) (equal? x y) (parent_inner t y m)
    where
      go : ((z : ℕ) → count z S + count z (down N k) ≢ 0 → meet p j x z ≢ 0 → (z ≡ x) ⊎ ((c : ℕ) × (count c S + count c (down N k) ≢ 0) × (p c ≡ x) × (meet p j c z ≢ 0)))
          → (x ≡ y) ⊎ (x ≢ y) → Inner N k (p y) → (y ≡ x) ⊎ ((c : ℕ) × (count c S + count c (down N k) ≢ 0) × (p c ≡ x) × (delta c y + meet p j c (p y) ≢ 0))
      go ih (inl e) i = inl (sym e)
      go ih (inr d) (inl e) = absurd (omega (arith, delta_ne x y d, ap (meet p j x) e, meet_root p t.top x x0 j))
      go ih (inr d) (inr i) = next (ih (p y) (omega (arith, down_once N k (p y) i.0 i.1)) (omega (arith, delta_ne x y d)))
        where
          next : (p y ≡ x) ⊎ ((c : ℕ) × (count c S + count c (down N k) ≢ 0) × (p c ≡ x) × (meet p j c (p y) ≢ 0))
              → (y ≡ x) ⊎ ((c : ℕ) × (count c S + count c (down N k) ≢ 0) × (p c ≡ x) × (delta c y + meet p j c (p y) ≢ 0))
          next (inl e) = inr (y, m, e, omega (arith, delta_self y))
          next (inr c) = inr (c.0, c.1, c.2, omega (arith, c.3))

  -- every vertex is at or under a child of the root
  pub root_child : (j y : ℕ) → count y S + count y (down N k) ≢ 0 → ancestor p j y ≡ 0 → (u : ℕ) × (count u S + count u (down N k) ≢ 0) × (p u ≡ 0) × (meet p j u y ≢ 0)
  root_child zero y m r = absurd (in_pos t y m r)
  root_child (suc j) y m r = go (λ z q e. root_child j z q e) (parent_inner t y m)
    where
      go : ((z : ℕ) → count z S + count z (down N k) ≢ 0 → ancestor p j z ≡ 0 → (u : ℕ) × (count u S + count u (down N k) ≢ 0) × (p u ≡ 0) × (meet p j u z ≢ 0))
          → Inner N k (p y) → (u : ℕ) × (count u S + count u (down N k) ≢ 0) × (p u ≡ 0) × (delta u y + meet p j u (p y) ≢ 0)
      go ih (inl e) = (y, m, e, omega (arith, delta_self y))
      go ih (inr i) =
          let c : (u : ℕ) × (count u S + count u (down N k) ≢ 0) × (p u ≡ 0) × (meet p j u (p y) ≢ 0) = ih (p y) (omega (arith, down_once N k (p y) i.0 i.1)) r in
          (c.0, c.1, c.2, omega (arith, c.3))

  -- what is under x is under its parent
  pub under_parent : (x y : ℕ) → count y S + count y (down N k) ≢ 0 → p x ≢ 0 → meet p F x y ≢ 0 → meet p F (p x) y ≢ 0
  under_parent x y m d h q = meet_next p F x y h (meet_stable p F (p x) y d (t.reach y m) ∙ q)

  -- what is under x has as many branch points above it or more
  pub deep : (x j y : ℕ) → ancestor p F y ≡ 0 → meet p j x y ≢ 0 → hops p F x ≤ hops p F y
  deep x zero y r h = absurd (h refl)
  deep x (suc j) y r h = go (λ z q n. deep x j z q n) (equal? x y)
    where
      go : ((z : ℕ) → ancestor p F z ≡ 0 → meet p j x z ≢ 0 → hops p F x ≤ hops p F z) → (x ≡ y) ⊎ (x ≢ y) → hops p F x ≤ hops p F y
      go ih (inl e) = omega (arith, ap (hops p F) e)
      go ih (inr d) = omega (arith, ih (p y) (ancestor_more p F y t.top r) (omega (arith, delta_ne x y d)), hops_down p F y t.top r)

  pub under_deep : (x y : ℕ) → count x S + count x (down N k) ≢ 0 → count y S + count y (down N k) ≢ 0 → meet p F x y ≢ 0 → depth_in F p x ≤ depth_in F p y
  under_deep x y mx my h = omega (arith, deep x F y (t.reach y my) h, hops_up p F x (in_pos t x mx) (t.reach x mx), hops_up p F y (in_pos t y my) (t.reach y my))

  -- ---- one vertex under another

  -- what is not x itself is under x where its parent is
  pub under_step : (x y : ℕ) → x ≢ 0 → x ≢ y → count y S + count y (down N k) ≢ 0 → meet p F x y ≡ meet p F x (p y)
  under_step x y x0 d m = omega (arith, meet_stable p F x y x0 (t.reach y m), delta_ne x y d)

  -- no vertex is under what is under it
  pub above_strict : (x : ℕ) → count x S + count x (down N k) ≢ 0 → (j y : ℕ) → Inner N k y → hops p F y < hops p F x → meet p j x y ≡ 0
  above_strict x m zero y i l = refl
  above_strict x m (suc j) y i l =
      omega (arith, delta_ne x y (λ e. omega (arith, ap (hops p F) e)), above_strict x m j (p y) (inner_up t y i) (omega (arith, hops_down p F y t.top (inner_reach t y i))))

  pub not_above : (x j : ℕ) → count x S + count x (down N k) ≢ 0 → meet p j x (p x) ≡ 0
  not_above x j m = above_strict x m j (p x) (parent_inner t x m) (omega (arith, hops_up p F x (in_pos t x m) (t.reach x m)))

  pub meet_one : (x j y : ℕ) → count x S + count x (down N k) ≢ 0 → meet p j x y ≤ 1
  meet_one x zero y m = zero-le
  meet_one x (suc j) y m = go (meet_one x j (p y) m) (equal? x y)
    where
      go : meet p j x (p y) ≤ 1 → (x ≡ y) ⊎ (x ≢ y) → delta x y + meet p j x (p y) ≤ 1
      go ih (inl e) = omega (arith, ap (delta x) (sym e), delta_self x, ap (λ (z : ℕ). meet p j x (p z)) (sym e), not_above x j m)
      go ih (inr d) = omega (arith, delta_ne x y d)

  pub meet_same : (x : ℕ) → count x S + count x (down N k) ≢ 0 → meet p F x x ≡ 1
  meet_same x m = omega (arith, meet_self p F x (in_pos t x m) (t.reach x m), meet_one x F x m)

  -- a vertex and what meets it on the way up: one walk for what follows. Up(y) holds where it holds of y's parent
  pub climbs : (x : ℕ) → x ≢ 0 → (Up : ℕ → Type 0) → ((y : ℕ) → count y S + count y (down N k) ≢ 0 → count (p y) S + count (p y) (down N k) ≢ 0 → x ≢ y → Up (p y) → Up y) → Up x
      → (j y : ℕ) → count y S + count y (down N k) ≢ 0 → meet p j x y ≢ 0 → Up y
  climbs x x0 Up step start zero y m h = absurd (h refl)
  climbs x x0 Up step start (suc j) y m h = go (λ z q r. climbs x x0 Up step start j z q r) (equal? x y) (parent_inner t y m)
    where
      go : ((z : ℕ) → count z S + count z (down N k) ≢ 0 → meet p j x z ≢ 0 → Up z) → (x ≡ y) ⊎ (x ≢ y) → Inner N k (p y) → Up y
      go ih (inl e) i = subst Up e start
      go ih (inr d) (inl e) = absurd (omega (arith, delta_ne x y d, ap (meet p j x) e, meet_root p t.top x x0 j))
      go ih (inr d) (inr i) = let n : count (p y) S + count (p y) (down N k) ≢ 0 = omega (arith, down_once N k (p y) i.0 i.1) in step y m n d (ih (p y) n (omega (arith, delta_ne x y d)))

  -- what meets x on its way up is under what x is under
  pub under_from : (v x : ℕ) → v ≢ 0 → x ≢ 0 → meet p F v x ≢ 0 → (j y : ℕ) → count y S + count y (down N k) ≢ 0 → meet p j x y ≢ 0 → meet p F v y ≢ 0
  under_from v x v0 x0 h j y m = climbs x x0 (λ z. meet p F v z ≢ 0) step h j y m
    where
      step : (z : ℕ) → count z S + count z (down N k) ≢ 0 → count (p z) S + count (p z) (down N k) ≢ 0 → x ≢ z → meet p F v (p z) ≢ 0 → meet p F v z ≢ 0
      step z n i d q e = go (equal? v z)
        where
          go : (v ≡ z) ⊎ (v ≢ z) → ⊥
          go (inl f) = meet_self p F z (in_pos t z n) (t.reach z n) (ap (λ (w : ℕ). meet p F w z) (sym f) ∙ e)
          go (inr f) = q (sym (under_step v z v0 f n) ∙ e)

  pub under_trans : (v x y : ℕ) → v ≢ 0 → x ≢ 0 → count y S + count y (down N k) ≢ 0 → meet p F v x ≢ 0 → meet p F x y ≢ 0 → meet p F v y ≢ 0
  under_trans v x y v0 x0 m h = under_from v x v0 x0 h F y m

  -- of two that a vertex is under one is under the other
  pub comparable : (v x y : ℕ) → v ≢ 0 → count x S + count x (down N k) ≢ 0 → count y S + count y (down N k) ≢ 0 → meet p F v y ≢ 0 → meet p F x y ≢ 0 → (meet p F v x ≢ 0) ⊎ (meet p F x v ≢ 0)
  comparable v x y v0 mx m h q =
      (climbs x (in_pos t x mx) (λ z. (meet p F x z ≢ 0) × (meet p F v z ≢ 0 → (meet p F v x ≢ 0) ⊎ (meet p F x v ≢ 0))) step (meet_self p F x (in_pos t x mx) (t.reach x mx), λ i. inl i) F y m q).1 h
    where
      step : (z : ℕ) → count z S + count z (down N k) ≢ 0 → count (p z) S + count (p z) (down N k) ≢ 0 → x ≢ z
          → (meet p F x (p z) ≢ 0) × (meet p F v (p z) ≢ 0 → (meet p F v x ≢ 0) ⊎ (meet p F x v ≢ 0))
          → (meet p F x z ≢ 0) × (meet p F v z ≢ 0 → (meet p F v x ≢ 0) ⊎ (meet p F x v ≢ 0))
      step z n w d u = (under, λ i. go i (equal? v z))
        where
          under : meet p F x z ≢ 0
          under e = u.0 (sym (under_step x z (in_pos t x mx) d n) ∙ e)

          go : meet p F v z ≢ 0 → (v ≡ z) ⊎ (v ≢ z) → (meet p F v x ≢ 0) ⊎ (meet p F x v ≢ 0)
          go i (inl e) = inr (λ f. under (ap (meet p F x) (sym e) ∙ f))
          go i (inr e) = u.1 (λ f. i (under_step v z v0 e n ∙ f))

  -- nothing is under a sink but itself
  pub under_sink : (v y : ℕ) → count v S ≢ 0 → count y S + count y (down N k) ≢ 0 → meet p F v y ≢ 0 → y ≡ v
  under_sink v y vS m h = go (under_child v (in_pos t v (omega arith)) F y m h)
    where
      go : (y ≡ v) ⊎ ((c : ℕ) × (count c S + count c (down N k) ≢ 0) × (p c ≡ v) × (meet p F c y ≢ 0)) → y ≡ v
      go (inl e) = e
      go (inr c) = absurd (no (parent_inner t c.0 c.1))
        where
          no : Inner N k (p c.0) → ⊥
          no (inl e) = omega (arith, t.low v vS, c.2)
          no (inr i) = omega (arith, t.low v vS, c.2)

  -- the way up from a branch point or the root passes branch points alone
  pub path_inner : (j y : ℕ) → Inner N k y → (u : ℕ) → count u (path_up p j y) ≢ 0 → (N < u) × (u ≤ N + k)
  path_inner zero y i u h = absurd (h refl)
  path_inner (suc j) zero i u h = absurd (h refl)
  path_inner (suc j) (suc v) i u h = go (λ q. path_inner j (p (suc v)) (inner_up t (suc v) i) u q) i (equal? u (suc v))
    where
      go : (count u (path_up p j (p (suc v))) ≢ 0 → (N < u) × (u ≤ N + k)) → Inner N k (suc v) → (u ≡ suc v) ⊎ (u ≢ suc v) → (N < u) × (u ≤ N + k)
      go ih (inl e) (inl q) = absurd (omega arith)
      go ih (inr r) (inl q) = omega (arith, r)
      go ih r (inr d) = ih (omega (arith, delta_ne u (suc v) d))

-- ---- some sink is under each vertex

-- what has children has one of them
child_in : (l : List ℕ) (p : ℕ → ℕ) (u : ℕ) → sum_over l (λ x. delta u (p x)) ≢ 0 → (x : ℕ) × (count x l ≢ 0) × (p x ≡ u)
child_in [] p u h = absurd (h refl)
child_in (x ∷ l) p u h = go (child_in l p u) (equal? u (p x))
  where
    go : (sum_over l (λ x. delta u (p x)) ≢ 0 → (x : ℕ) × (count x l ≢ 0) × (p x ≡ u)) → (u ≡ p x) ⊎ (u ≢ p x) → (y : ℕ) × (count y (x ∷ l) ≢ 0) × (p y ≡ u)
    go ih (inl e) = (x, omega (arith, delta_self x), sym e)
    go ih (inr d) = let r : (y : ℕ) × (count y l ≢ 0) × (p y ≡ u) = ih (omega (arith, delta_ne u (p x) d)) in (r.0, omega (arith, r.1), r.2)

module _ {N : ℕ} {S : List ℕ} {k F : ℕ} {p : ℕ → ℕ} (t : PartTree N S k F p) where
  -- the root and each branch point have a child
  pub some_child : (u : ℕ) → Inner N k u → (c : ℕ) × (count c S + count c (down N k) ≢ 0) × (p c ≡ u)
  some_child u i = go (equal? (sum_over S (λ x. delta u (p x))) 0)
    where
      due : Inner N k u → delta u 0 + 2 * count u (down N k) ≢ 0
      due (inl e) = omega (arith, ap (λ (z : ℕ). delta z 0) e)
      due (inr r) = omega (arith, down_once N k u r.0 r.1)

      go : (sum_over S (λ x. delta u (p x)) ≡ 0) ⊎ (sum_over S (λ x. delta u (p x)) ≢ 0) → (c : ℕ) × (count c S + count c (down N k) ≢ 0) × (p c ≡ u)
      go (inl e) = let r : (c : ℕ) × (count c (down N k) ≢ 0) × (p c ≡ u) = child_in (down N k) p u (omega (arith, t.children_are u, due i)) in (r.0, omega (arith, r.1), r.2)
      go (inr d) = let r : (c : ℕ) × (count c S ≢ 0) × (p c ≡ u) = child_in S p u d in (r.0, omega (arith, r.1), r.2)

  -- from child to child, at most `left` more
  sink_down : (left v : ℕ) → count v S + count v (down N k) ≢ 0 → F < left + hops p F v → (y : ℕ) × (count y S ≢ 0) × (meet p F v y ≢ 0)
  sink_down zero v m l = absurd (omega (arith, hops_le p F v))
  sink_down (suc left) v m l = go (λ c n h. sink_down left c n h) (equal? (count v S) 0)
    where
      go : ((c : ℕ) → count c S + count c (down N k) ≢ 0 → F < left + hops p F c → (y : ℕ) × (count y S ≢ 0) × (meet p F c y ≢ 0))
          → (count v S ≡ 0) ⊎ (count v S ≢ 0) → (y : ℕ) × (count y S ≢ 0) × (meet p F v y ≢ 0)
      go ih (inr d) = (v, d, meet_self p F v (in_pos t v m) (t.reach v m))
      go ih (inl e) =
          let w : (c : ℕ) × (count c S + count c (down N k) ≢ 0) × (p c ≡ v) = some_child v (inr (down_in N k v (omega arith))) in
          let deeper : hops p F w.0 ≡ suc (hops p F v) = hops_up p F w.0 (in_pos t w.0 w.1) (t.reach w.0 w.1) ∙ ap (λ (z : ℕ). suc (hops p F z)) w.2 in
          let r : (y : ℕ) × (count y S ≢ 0) × (meet p F w.0 y ≢ 0) = ih w.0 w.1 (omega arith) in
          let up : meet p F (p w.0) r.0 ≢ 0 = under_parent t w.0 r.0 (omega (arith, r.1)) (λ z. in_pos t v m (sym w.2 ∙ z)) r.2 in
          (r.0, r.1, subst (λ (z : ℕ). meet p F z r.0 ≢ 0) w.2 up)

  pub some_sink : (v : ℕ) → count v S + count v (down N k) ≢ 0 → (y : ℕ) × (count y S ≢ 0) × (meet p F v y ≢ 0)
  some_sink v m = sink_down (suc F) v m (omega arith)
