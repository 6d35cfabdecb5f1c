-- A tree that grows, its sinks a list, its branch points N + 1 .. N + k, its parents a function: Kraft's equality, and how it changes where an edge is split. Assumes nothing.
use mathlib.Core.Path.{◌≡◌, refl, ap, ◌∙◌}
use mathlib.Core.Logic.{◌≢◌, ◌⊎◌, inl, inr}
use mathlib.Core.List.{List, ◌∷◌}
use Prim.Native.Nat.{ℕ, zero, suc, ◌+◌, ◌-◌, ◌*◌, ◌^◌, ◌≤◌, ◌<◌, zero-le}
use native.Mathlib.Nat.{pow-succ', suc-sub-suc, sub-zero, le_refl}
use native.Mathlib.Omega.{arith}
use Rattle.tree.proofs.Laws.Lists.Sums.{sum, sum_cong, sum-add, sum_scale, sum_same, delta_self, delta_ne, equal?, sum_over_cong, sum_over_scale, sum_over_member, regroup_by, sum_over_change, down_in, down_low, down_once}
use Rattle.tree.proofs.Laws.Trees.Walks.{ancestor_top, ancestor_more, hops, hops_stable, hops_step, hops_zero, halve}
use Rattle.tree.specs.Lists.{sum_over, delta, count, down}
use Rattle.tree.specs.Tree.{ancestor}

pub record PartTree (N : ℕ) (S : List ℕ) (k F : ℕ) (p : ℕ → ℕ) : Type 0 where
  pub top : p 0 ≡ 0
  pub once : (s : ℕ) → count s S ≤ 1
  pub low : (s : ℕ) → count s S ≢ 0 → (1 ≤ s) × (s ≤ N)
  pub children_are : (u : ℕ) → sum_over S (λ x. delta u (p x)) + sum_over (down N k) (λ x. delta u (p x)) ≡ delta u 0 + 2 * count u (down N k)
  pub reach : (v : ℕ) → count v S + count v (down N k) ≢ 0 → ancestor p F v ≡ 0

-- the root, or a branch point: what can be a parent
abbrev pub Inner : ℕ → ℕ → ℕ → Type 0
Inner N k v = (v ≡ 0) ⊎ ((N < v) × (v ≤ N + k))

module _ {N : ℕ} {S : List ℕ} {k F : ℕ} {p : ℕ → ℕ} (t : PartTree N S k F p) where
  counted : (v : ℕ) → count v S + count v (down N k) ≢ 0 → delta (p v) 0 + 2 * count (p v) (down N k) ≢ 0
  counted v h = go (equal? (count v S) 0)
    where
      go : (count v S ≡ 0) ⊎ (count v S ≢ 0) → delta (p v) 0 + 2 * count (p v) (down N k) ≢ 0
      go (inl e) = omega (arith, t.children_are (p v), delta_self (p v), sum_over_member (down N k) (λ x. delta (p v) (p x)) v (omega arith))
      go (inr d) = omega (arith, t.children_are (p v), delta_self (p v), sum_over_member S (λ x. delta (p v) (p x)) v d)

  pub parent_inner : (v : ℕ) → count v S + count v (down N k) ≢ 0 → Inner N k (p v)
  parent_inner v h = go (equal? (p v) 0)
    where
      go : (p v ≡ 0) ⊎ (p v ≢ 0) → Inner N k (p v)
      go (inl e) = inl e
      go (inr d) = inr (down_in N k (p v) (omega (arith, counted v h, delta_ne (p v) 0 d)))

  pub inner_up : (v : ℕ) → Inner N k v → Inner N k (p v)
  inner_up v (inl e) = inl (ap p e ∙ t.top)
  inner_up v (inr h) = parent_inner v (omega (arith, down_once N k v h.0 h.1))

  pub inner_reach : (v : ℕ) → Inner N k v → ancestor p F v ≡ 0
  inner_reach v (inl e) = rw e (ancestor_top p F t.top)
  inner_reach v (inr h) = t.reach v (omega (arith, down_once N k v h.0 h.1))

  -- Kraft's equality
  weight : ℕ → ℕ
  weight v = 2 ^ (suc F - hops p F v)

  twice : (v : ℕ) → v ≢ 0 → ancestor p F v ≡ 0 → 2 * weight v ≡ weight (p v)
  unfolding weight
  twice zero h r = absurd (h refl)
  twice (suc v) h r = halve p F v r

  pub inner_lt : (v : ℕ) → Inner N k v → v < suc (N + k)
  inner_lt v (inl e) = omega arith
  inner_lt v (inr h) = omega arith

  moved : (f : ℕ → ℕ) → sum_over S (λ x. f (p x)) + sum_over (down N k) (λ x. f (p x)) ≡ f 0 + 2 * sum_over (down N k) f
  moved f =
      let v : ℕ = suc (N + k) in
      let a : ℕ → ℕ = λ u. sum_over S (λ x. delta u (p x)) * f u in
      let b : ℕ → ℕ = λ u. sum_over (down N k) (λ x. delta u (p x)) * f u in
      let c : ℕ → ℕ = λ u. delta u 0 * f u in
      let d : ℕ → ℕ = λ u. count u (down N k) * f u in
      let A : sum_over S (λ x. f (p x)) ≡ sum 0 v a = regroup_by S p v f (λ x h. inner_lt (p x) (parent_inner x (omega arith))) in
      let B : sum_over (down N k) (λ x. f (p x)) ≡ sum 0 v b = regroup_by (down N k) p v f (λ x h. inner_lt (p x) (parent_inner x (omega arith))) in
      let D : sum_over (down N k) f ≡ sum 0 v d = regroup_by (down N k) (λ x. x) v f (λ x h. omega (arith, down_in N k x h)) in
      let E : sum 0 v (λ u. a u + b u) ≡ sum 0 v (λ u. c u + 2 * d u) =
      sum_cong 0 v (λ u. a u + b u) (λ u. c u + 2 * d u) (λ i g h. omega (arith, ap (λ z. z * f i) (t.children_are i))) in
      omega (arith, sum_same 0 v 0 f zero-le (omega arith), sum-add 0 v a b, sum-add 0 v c (λ u. 2 * d u), sum_scale 0 v 2 d)

  pub kraft_tree : sum_over S (λ s. 2 ^ (F - hops p F (p s))) ≡ 2 ^ F
  unfolding weight
  kraft_tree =
      let a : sum_over S (λ s. 2 ^ (F - hops p F (p s))) ≡ sum_over S weight = sum_over_cong S (λ s. 2 ^ (F - hops p F (p s))) weight (λ s h. one s (t.low s h).0 (t.reach s (omega arith))) in
      let b : sum_over S (λ x. 2 * weight x) ≡ sum_over S (λ x. weight (p x)) = sum_over_cong S (λ x. 2 * weight x) (λ x. weight (p x)) (λ s h. twice s (omega (arith, (t.low s h).0)) (t.reach s (omega arith))) in
      let c : sum_over (down N k) (λ x. 2 * weight x) ≡ sum_over (down N k) (λ x. weight (p x)) =
      sum_over_cong (down N k) (λ x. 2 * weight x) (λ x. weight (p x)) (λ s h. twice s (omega (arith, (down_in N k s h).0)) (t.reach s (omega arith))) in
      let z : weight 0 ≡ 2 ^ suc F = rw hops_zero (ap (◌^◌ 2) (sub-zero (suc F))) in
      omega (arith, moved weight, sum_over_scale S 2 weight, sum_over_scale (down N k) 2 weight, pow-succ' 2 F)
    where
      one : (s : ℕ) → 1 ≤ s → ancestor p F s ≡ 0 → 2 ^ (F - hops p F (p s)) ≡ weight s
      one zero l r = omega arith
      one (suc v) l r = rw (hops_step p F v r, suc-sub-suc)

-- ---- splitting the edge to x: b = N + k + 1 between x and its parent, and the new sink s below b

pub record Split (N k s x : ℕ) (p p' : ℕ → ℕ) : Type 0 where
  pub low : p' x ≡ N + suc k
  pub new : p' s ≡ N + suc k
  pub mid : p' (N + suc k) ≡ p x
  pub old : (y : ℕ) → y ≢ x → y ≢ s → y ≢ N + suc k → p' y ≡ p y

pub hops_suc : (p : ℕ → ℕ) (j v : ℕ) → v ≢ 0 → hops p (suc j) v ≡ suc (hops p j (p v))
hops_suc p j zero h = absurd (h refl)
hops_suc p j (suc v) h = refl

pub hops_up : (p : ℕ → ℕ) (j v : ℕ) → v ≢ 0 → ancestor p j v ≡ 0 → hops p j v ≡ suc (hops p j (p v))
hops_up p j zero h r = absurd (h refl)
hops_up p j (suc v) h r = hops_step p j v r

pub hops_down : (p : ℕ → ℕ) (j v : ℕ) → p 0 ≡ 0 → ancestor p j v ≡ 0 → hops p j (p v) ≤ hops p j v
hops_down p j zero z r = rw z (le_refl (hops p j 0))
hops_down p j (suc v) z r = omega (arith, hops_step p j v r)

module _ {N : ℕ} {S : List ℕ} {k F : ℕ} {p p' : ℕ → ℕ} {s x : ℕ} (t : PartTree N S k F p) (c : Split N k s x p p')
    (hx : count x S + count x (down N k) ≢ 0) (s1 : 1 ≤ s) (sN : s ≤ N) (fresh : count s S ≡ 0) where
  pub member : (v : ℕ) → count v S + count v (down N k) ≢ 0 → (1 ≤ v) × (v ≢ s) × (v ≢ N + suc k)
  member v h = go (equal? (count v S) 0)
    where
      go : (count v S ≡ 0) ⊎ (count v S ≢ 0) → (1 ≤ v) × (v ≢ s) × (v ≢ N + suc k)
      go (inl e) = let d : (N < v) × (v ≤ N + k) = down_in N k v (omega arith) in omega arith
      go (inr d) = let l : (1 ≤ v) × (v ≤ N) = t.low v d in (l.0, (λ e. omega (arith, ap (λ z. count z S) e)), omega arith)

  pub inner_ne : (y : ℕ) → Inner N k y → (y ≢ s) × (y ≢ N + suc k)
  inner_ne y (inl e) = omega arith
  inner_ne y (inr h) = omega arith

  -- the parent of a vertex that stays
  pub stays : (y : ℕ) → Inner N k y → y ≢ x → p' y ≡ p y
  stays y (inl e) d = c.old y d (omega arith) (omega arith)
  stays y (inr h) d = c.old y d (omega arith) (omega arith)

  top' : p' 0 ≡ 0
  top' = stays 0 (inl refl) (omega (arith, (member x hx).0)) ∙ t.top

  pub above : hops p F (p x) < hops p F x
  above = omega (arith, hops_up p F x (omega (arith, (member x hx).0)) (t.reach x hx))

  clear : (j y : ℕ) → Inner N k y → hops p F y < hops p F x → ancestor p j y ≡ 0 → ancestor p' j y ≡ 0
  clear zero y i l r = r
  clear (suc j) y i l r = rw (stays y i (λ e. omega (arith, ap (hops p F) e)))
      (clear j (p y) (inner_up t y i) (omega (arith, hops_down p F y t.top (inner_reach t y i))) r)

  pub past : (j y : ℕ) → y ≢ s → y ≢ N + suc k → Inner N k (p y) → ancestor p j y ≡ 0 → ancestor p' (suc j) y ≡ 0
  past zero y ns nb i r = ap p' r ∙ top'
  past (suc j) y ns nb i r = go (past j (p y) (inner_ne (p y) i).0 (inner_ne (p y) i).1 (inner_up t (p y) i) r) (equal? y x)
    where
      go : ancestor p' (suc j) (p y) ≡ 0 → (y ≡ x) ⊎ (y ≢ x) → ancestor p' j (p' (p' y)) ≡ 0
      go ih (inl e) = rw (e, c.low, c.mid) (clear j (p x) (parent_inner t x hx) above (rw e at r))
      go ih (inr d) = rw (c.old y d ns nb) ih

  reach' : (v : ℕ) → count v (s ∷ S) + count v (down N (suc k)) ≢ 0 → ancestor p' (suc (suc F)) v ≡ 0
  reach' v h = go (equal? v s) (equal? v (N + suc k))
    where
      mid : ancestor p' F (p x) ≡ 0
      mid = clear F (p x) (parent_inner t x hx) above (inner_reach t (p x) (parent_inner t x hx))

      go : (v ≡ s) ⊎ (v ≢ s) → (v ≡ N + suc k) ⊎ (v ≢ N + suc k) → ancestor p' (suc (suc F)) v ≡ 0
      go (inl e) d = rw (e, c.new, c.mid) mid
      go (inr d) (inl e) = rw (e, c.mid) (ancestor_more p' F (p x) top' mid)
      go (inr d) (inr d') =
          let m : count v S + count v (down N k) ≢ 0 = omega (arith, delta_ne v s d, delta_ne v (N + suc k) d') in
          ancestor_more p' (suc F) v top' (past F v d d' (parent_inner t v m) (t.reach v m))

  once_x : count x S + count x (down N k) ≡ 1
  once_x = go (equal? (count x S) 0)
    where
      go : (count x S ≡ 0) ⊎ (count x S ≢ 0) → count x S + count x (down N k) ≡ 1
      go (inl e) = let d : (N < x) × (x ≤ N + k) = down_in N k x (omega arith) in omega (arith, down_once N k x d.0 d.1)
      go (inr d) = omega (arith, t.once x, down_low N k x (t.low x d).1)

  kids' : (u : ℕ) → sum_over (s ∷ S) (λ y. delta u (p' y)) + sum_over (down N (suc k)) (λ y. delta u (p' y)) ≡ delta u 0 + 2 * count u (down N (suc k))
  kids' u =
      let f : ℕ → ℕ = λ y. delta u (p y) in
      let g : ℕ → ℕ = λ y. delta u (p' y) in
      let a : sum_over S g + count x S * f x ≡ sum_over S f + count x S * g x =
      sum_over_change S f g x (λ y m d. ap (delta u) (c.old y d (member y (omega arith)).1 (member y (omega arith)).2)) in
      let b : sum_over (down N k) g + count x (down N k) * f x ≡ sum_over (down N k) f + count x (down N k) * g x =
      sum_over_change (down N k) f g x (λ y m d. ap (delta u) (c.old y d (member y (omega arith)).1 (member y (omega arith)).2)) in
      let e : f x + (sum_over S g + sum_over (down N k) g) ≡ g x + (sum_over S f + sum_over (down N k) f) =
      omega (arith, ap (λ z. z * f x) once_x, ap (λ z. z * g x) once_x) in
      omega (arith, t.children_are u, ap (delta u) c.low, ap (delta u) c.new, ap (delta u) c.mid)

  once' : (v : ℕ) → (v ≡ s) ⊎ (v ≢ s) → delta v s + count v S ≤ 1
  once' v (inl e) = rw e (omega (arith, delta_self s))
  once' v (inr d) = omega (arith, delta_ne v s d, t.once v)

  low' : (v : ℕ) → (v ≡ s) ⊎ (v ≢ s) → delta v s + count v S ≢ 0 → (1 ≤ v) × (v ≤ N)
  low' v (inl e) h = omega arith
  low' v (inr d) h = t.low v (omega (arith, delta_ne v s d))

  pub split_tree : PartTree N (s ∷ S) (suc k) (suc (suc F)) p'
  split_tree = record { top = top'; once = λ v. once' v (equal? v s); low = λ v. low' v (equal? v s); children_are = kids'; reach = reach' }

  -- where x is a sink, only it and the new sink change their depths
  module _ (sx : count x S ≢ 0) where
    same_hops : (j y : ℕ) → Inner N k y → hops p' j y ≡ hops p j y
    same_hops zero y i = refl
    same_hops (suc j) zero i = refl
    same_hops (suc j) (suc y) i =
        rw (stays (suc y) i (sink_ne (suc y) i)) (ap suc (same_hops j (p (suc y)) (inner_up t (suc y) i)))
      where
        sink_ne : (v : ℕ) → Inner N k v → v ≢ x
        sink_ne v (inl e) = omega (arith, t.low x sx)
        sink_ne v (inr h) = omega (arith, t.low x sx)

    deep : (y : ℕ) → Inner N k y → hops p' (suc F) y ≡ hops p F y
    deep y i = same_hops (suc F) y i ∙ hops_stable p F y (inner_reach t y i)

    deeper : (y : ℕ) → Inner N k y → hops p' (suc (suc F)) y ≡ hops p F y
    deeper y i = same_hops (suc (suc F)) y i ∙ hops_stable p (suc F) y (ancestor_more p F y t.top (inner_reach t y i)) ∙ hops_stable p F y (inner_reach t y i)

    pub depth_other : (y : ℕ) → count y S ≢ 0 → y ≢ x → hops p' (suc (suc F)) (p' y) ≡ hops p F (p y)
    depth_other y m d = let e : count y S + count y (down N k) ≢ 0 = omega arith in rw (c.old y d (member y e).1 (member y e).2) (deeper (p y) (parent_inner t y e))

    depth_b : hops p' (suc (suc F)) (N + suc k) ≡ suc (hops p F (p x))
    depth_b = rw (hops_suc p' (suc F) (N + suc k) (omega arith), c.mid) (ap suc (deep (p x) (parent_inner t x hx)))

    pub depth_low : hops p' (suc (suc F)) (p' x) ≡ suc (hops p F (p x))
    depth_low = rw c.low depth_b

    pub depth_new : hops p' (suc (suc F)) (p' s) ≡ suc (hops p F (p x))
    depth_new = rw c.new depth_b
