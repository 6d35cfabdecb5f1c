-- The worst slack of a tree: the rival bound over any legal tree, and the invariant of insertion that attains it. Assumes nothing.
use mathlib.Core.Path.{◌≡◌, refl, ap, ◌∙◌}
use mathlib.Core.Logic.{◌≢◌, ◌⊎◌, inl, inr}
use mathlib.Core.List.{List, [], ◌∷◌}
use Prim.Native.Nat.{ℕ, zero, suc, ◌+◌, ◌*◌, ◌/◌, ◌^◌, ◌≤◌, ◌<◌}
use native.Mathlib.Nat.{le_of_eq}
use native.Mathlib.Omega.{arith}
use lib.IntN.{ℤ, pos, ◌-ℤ◌}
use lib.Signed.{◌≤ℤ◌}
use Rattle.tree.proofs.Laws.Lists.Gaps.{gap, fits, fits_back, gap_mono, gap_sub}
use Rattle.tree.proofs.Laws.Trees.Growing.{PartTree, Split, Inner, parent_inner, inner_up}
use Rattle.tree.proofs.Laws.Kraft.GapSums.{power_sum, AtMost, KraftGaps, depth_in, rival, room, split_room}
use Rattle.tree.proofs.Laws.Lists.Sums.{delta_self, delta_ne, equal?, sum_over_member}
use Rattle.tree.specs.Lists.{sum_over, delta, count}
use Rattle.tree.specs.Tree.{ancestor}

-- ---- delays

-- the delay of a straight wire between two vertices: none from a vertex to itself, and no way round is shorter
pub record Metric (D : ℕ → ℕ → ℕ) : Type 0 where
  pub self : (u : ℕ) → D u u ≡ 0
  pub triangle : (u v w : ℕ) → D u w ≤ D u v + D v w

-- the delay of the way up from v, j steps of it
abbrev pub way_delay : (ℕ → ℕ → ℕ) → (ℕ → ℕ) → ℕ → ℕ → ℕ
way_delay D p zero v = zero
way_delay D p (suc j) v = D (p v) v + way_delay D p j (p v)

-- the straight wire from the root is no longer than the way
pub far : {D : ℕ → ℕ → ℕ} → Metric D → (p : ℕ → ℕ) (j v : ℕ) → ancestor p j v ≡ 0 → D 0 v ≤ way_delay D p j v
far m p zero v h = rw h (le_of_eq (m.self 0))
far m p (suc j) v h = omega (arith, far m p j (p v) h, m.triangle 0 (p v) v)

-- ---- Kraft's condition on σ

pub record KraftOver (c : ℕ) (S : List ℕ) (own : ℕ → ℤ) (σ : ℤ) : Type 0 where
  pub low : (s : ℕ) → count s S ≢ 0 → σ ≤ℤ own s
  pub kraft : KraftGaps c S (λ s. gap σ (own s))

-- an m that is large enough
pub enough : (c : ℕ) (S : List ℕ) (g : ℕ → ℕ) → ((m : ℕ) → AtMost S m (λ s. g s / c) → power_sum S m (λ s. g s / c) ≤ 2 ^ m) → KraftGaps c S g
enough c S g h =
    let u : AtMost S (sum_over S (λ s. g s / c)) (λ s. g s / c) = sum_over_member S (λ s. g s / c) in
    record { m = sum_over S (λ s. g s / c); at_most = u; sum-le = h (sum_over S (λ s. g s / c)) u }

-- ---- the rival bound

-- own slack, and slack in a tree: a are the required arrivals
abbrev pub own_in : (D : ℕ → ℕ → ℕ) (a : ℕ → ℤ) → ℕ → ℤ
own_in D a s = a s -ℤ pos (D 0 s)

abbrev pub slack_in : (D : ℕ → ℕ → ℕ) (a : ℕ → ℤ) (c F : ℕ) (p : ℕ → ℕ) → ℕ → ℤ
slack_in D a c F p s = a s -ℤ pos (way_delay D p F s + depth_in F p s * c)

-- where every slack of a tree is at least σ, σ meets Kraft's condition
module _ {N : ℕ} {S : List ℕ} {k F : ℕ} {p : ℕ → ℕ} (t : PartTree N S k F p) {D : ℕ → ℕ → ℕ} (m : Metric D) (a : ℕ → ℤ) (c : ℕ) (c1 : 0 < c) where
  pub rival_kraft : (σ : ℤ) → ((s : ℕ) → count s S ≢ 0 → σ ≤ℤ slack_in D a c F p s) → KraftOver c S (own_in D a) σ
  rival_kraft σ h = record { low = λ s q. own_le s q; kraft = enough c S (λ s. gap σ (own_in D a s)) (rival t c (λ s. gap σ (own_in D a s)) c1 own_gap) }
    where
      wire : (s : ℕ) → count s S ≢ 0 → D 0 s ≤ way_delay D p F s
      wire s q = far m p F s (t.reach s (omega arith))

      room_at : (s : ℕ) → count s S ≢ 0 → (σ ≤ℤ a s) × (way_delay D p F s + depth_in F p s * c ≤ gap σ (a s))
      room_at s q = fits σ (a s) (way_delay D p F s + depth_in F p s * c) (h s q)

      own_le : (s : ℕ) → count s S ≢ 0 → σ ≤ℤ own_in D a s
      own_le s q = fits_back σ (a s) (D 0 s) (room_at s q).0 (omega (arith, wire s q, (room_at s q).1))

      own_gap : (s : ℕ) → count s S ≢ 0 → depth_in F p s * c ≤ gap σ (own_in D a s)
      own_gap s q = omega (arith, wire s q, (room_at s q).1, gap_sub σ (a s) (D 0 s) (room_at s q).0 (omega (arith, wire s q, (room_at s q).1)))

-- ---- attained

-- no σ that meets Kraft's condition is above a slack of the tree (all branch points at the root)
abbrev pub Attains : (c : ℕ) (S : List ℕ) (o : ℕ → ℤ) (F : ℕ) (p : ℕ → ℕ) → Type 0
Attains c S o F p = (σ : ℤ) → KraftOver c S o σ → (y : ℕ) → count y S ≢ 0 → σ ≤ℤ (o y -ℤ pos (depth_in F p y * c))

-- every slack of the first tree is at least σ, so every slack of the second is
abbrev pub NoWorse : (c : ℕ) (S : List ℕ) (o : ℕ → ℤ) (F : ℕ) (p p' : ℕ → ℕ) → Type 0
NoWorse c S o F p p' = (σ : ℤ) → ((y : ℕ) → count y S ≢ 0 → σ ≤ℤ (o y -ℤ pos (depth_in F p y * c))) → (y : ℕ) → count y S ≢ 0 → σ ≤ℤ (o y -ℤ pos (depth_in F p' y * c))

pub kraft_over_less : (c : ℕ) (S : List ℕ) (o : ℕ → ℤ) (s : ℕ) (σ : ℤ) → KraftOver c (s ∷ S) o σ → KraftOver c S o σ
kraft_over_less c S o s σ h = record {
  low = λ y q. h.low y (omega arith);
  kraft = record { m = h.kraft.m; at_most = λ y q. h.kraft.at_most y (omega arith); sum-le = omega (arith, h.kraft.sum-le) };
}

module _ {N : ℕ} {S : List ℕ} {k F : ℕ} {p : ℕ → ℕ} {s : ℕ} (t : PartTree N S k F p) (o : ℕ → ℤ) (c : ℕ) (c1 : 0 < c)
    (s1 : 1 ≤ s) (sN : s ≤ N) (fresh : count s S ≡ 0) (rising : (y : ℕ) → count y S ≢ 0 → o y ≤ℤ o s) (best : Attains c S o F p) where
  -- the tree p'' is at least as good as each split of an edge to a sink
  pub attains_step : (p'' : ℕ → ℕ) → ((x : ℕ) → count x S ≢ 0 → (p' : ℕ → ℕ) × Split N k s x p p' × NoWorse c (s ∷ S) o (suc (suc F)) p' p'') → Attains c (s ∷ S) o (suc (suc F)) p''
  attains_step p'' h σ κ =
      let r : (x : ℕ) × (count x S ≢ 0) × (suc (depth_in F p x) * c ≤ gap σ (o x)) = room t c (λ y. gap σ (o y)) s c1 κ.kraft in
      let q : (p' : ℕ → ℕ) × Split N k s r.0 p p' × NoWorse c (s ∷ S) o (suc (suc F)) p' p'' = h r.0 r.1 in
      let old : (y : ℕ) → count y S ≢ 0 → depth_in F p y * c ≤ gap σ (o y) = λ y m. (fits σ (o y) (depth_in F p y * c) (best σ (kraft_over_less c S o s σ κ) y m)).1 in
      let g : (y : ℕ) → count y (s ∷ S) ≢ 0 → depth_in (suc (suc F)) q.0 y * c ≤ gap σ (o y) =
      split_room t q.1 r.1 s1 sN fresh c (λ y. gap σ (o y)) old r.2 (gap_mono σ (o r.0) (o s) (κ.low r.0 (omega (arith, r.1))) (rising r.0 r.1)).1 in
      q.2 σ (λ y m. fits_back σ (o y) (depth_in (suc (suc F)) q.0 y * c) (κ.low y m) (g y m))

-- the tree of one sink
pub base_tree : (N s : ℕ) (p : ℕ → ℕ) → 1 ≤ s → s ≤ N → p 0 ≡ 0 → p s ≡ 0 → PartTree N (s ∷ []) 0 1 p
base_tree N s p s1 sN z e = record { top = z; once = λ v. once v (equal? v s); low = λ v. low v (equal? v s); children_are = λ u. omega (arith, ap (delta u) e); reach = λ v h. reach v h (equal? v s) }
  where
    once : (v : ℕ) → (v ≡ s) ⊎ (v ≢ s) → delta v s + 0 ≤ 1
    once v (inl g) = rw g (omega (arith, delta_self s))
    once v (inr d) = omega (arith, delta_ne v s d)

    low : (v : ℕ) → (v ≡ s) ⊎ (v ≢ s) → delta v s + 0 ≢ 0 → (1 ≤ v) × (v ≤ N)
    low v (inl g) h = omega arith
    low v (inr d) h = absurd (omega (arith, delta_ne v s d))

    reach : (v : ℕ) → delta v s + 0 + 0 ≢ 0 → (v ≡ s) ⊎ (v ≢ s) → p v ≡ 0
    reach v h (inl g) = ap p g ∙ e
    reach v h (inr d) = absurd (omega (arith, delta_ne v s d))

pub base_attains : (c s : ℕ) (o : ℕ → ℤ) (p : ℕ → ℕ) → p s ≡ 0 → Attains c (s ∷ []) o 1 p
base_attains c s o p e σ κ y m = fits_back σ (o y) (depth_in 1 p y * c) (κ.low y m) (go (equal? y s))
  where
    go : (y ≡ s) ⊎ (y ≢ s) → depth_in 1 p y * c ≤ gap σ (o y)
    go (inl g) = rw (g, e) (omega arith)
    go (inr d) = absurd (omega (arith, m, delta_ne y s d))

-- where all branch points are at the root, the way to a sink has the delay of the straight wire
module _ {N : ℕ} {S : List ℕ} {k F : ℕ} {p : ℕ → ℕ} (t : PartTree N S k F p) (D : ℕ → ℕ → ℕ)
    (same : (u v : ℕ) → Inner N k u → D u v ≡ D 0 v) (none : (v : ℕ) → Inner N k v → D 0 v ≡ 0) where
  inner_way : (j v : ℕ) → Inner N k v → way_delay D p j v ≡ 0
  inner_way zero v i = refl
  inner_way (suc j) v i = let i' : Inner N k (p v) = inner_up t v i in omega (arith, same (p v) v i', none v i, inner_way j (p v) i')

  pub straight_way : (s : ℕ) → count s S ≢ 0 → way_delay D p F s ≡ D 0 s
  straight_way s q = go F refl
    where
      i : Inner N k (p s)
      i = parent_inner t s (omega arith)

      go : (j : ℕ) → F ≡ j → way_delay D p j s ≡ D 0 s
      go zero e = absurd (omega (arith, t.low s q, rw e at (t.reach s (omega arith))))
      go (suc j) e = omega (arith, same (p s) s i, inner_way j (p s) i)
