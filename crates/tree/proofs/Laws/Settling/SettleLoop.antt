-- Settling from the leaves up: each step settles one vertex more. Assumes nothing.
use Prim.Native.Nat.{ℕ, zero, suc, ◌+◌, ◌*◌, ◌-◌, ◌≤◌, ◌<◌}
use mathlib.Core.Path.{◌≡◌, refl, sym, ap, ap₂, ◌∙◌, subst}
use mathlib.Core.Logic.{◌≢◌, ◌⊎◌, inl, inr}
use mathlib.Core.List.{List, map}
use native.Mathlib.Decide.{dec_le}
use native.Mathlib.Omega.{arith}
use lib.ListN.{length, get_or, set, length-set}
use lib.Seq.{get_or-set_same, get_or-set_other}
use lib.IntN.{ℤ, pos}
use Rattle.quantities.specs.declared.point.Point.{Point}
use Rattle.quantities.specs.Median.{median_point}
use Rattle.tree.specs.declared.header.Header.{Header}
use Rattle.tree.specs.Lists.{range}
use Rattle.tree.specs.Net.{Net, size}
use Rattle.tree.specs.Tree.{Tree, parent_of, Legal, place}
use Rattle.tree.specs.Settling.{children, settled, settled_tree}
use Rattle.tree.specs.Inner.Arrays.{point_at, parents_of, net_of, tree_of, median_at, LeavesUp, UnderRoot}
use Rattle.tree.proofs.Laws.Lists.Tables.{table_cong}
use Rattle.tree.proofs.Laws.Arrays.NetAndTree.{parents_at, size_is, sink_at_lem}
use Rattle.tree.proofs.Laws.Settling.Children.{Holds}
use Rattle.tree.proofs.Laws.Settling.Medians.{settled_median}
use Rattle.tree.proofs.Laws.Measures.VertexDelays.{place_sink}
use Rattle.tree.proofs.Laws.Settling.SlackKept.{child_of, at_settled}
use Rattle.tree.proofs.Laws.Lists.Sums.{equal?}

-- the root and the sinks stand as at the start, the branch points at the first i places of the order where they settle
pub record Settled (n : ℕ) (ps us : List ℕ) (xs₀ ys₀ : List ℤ) (i : ℕ) (xs ys : List ℤ) : Type 0 where
  pub xs_length : length xs ≡ length xs₀
  pub ys_length : length ys ≡ length ys₀
  pub kept : (v : ℕ) → v ≤ n → point_at xs ys v ≡ point_at xs₀ ys₀ v
  pub done : (h : Header) (rs : List ℤ) (j : ℕ) → j < i → n < get_or us j 0
      → point_at xs ys (get_or us j 0) ≡ place (net_of h n xs₀ ys₀ rs) (settled_tree (net_of h n xs₀ ys₀ rs) (parents_of n ps)) (get_or us j 0)

-- ---- one branch point

pub median_at_lem : (xs ys : List ℤ) (kids : List ℕ) (b : ℕ) (p q r m : Point) → m ≡ median_point p q r
    → p ≡ point_at xs ys 0 → q ≡ point_at xs ys (get_or kids (2 * b) 0) → r ≡ point_at xs ys (get_or kids (2 * b + 1) 0) → m ≡ median_at xs ys kids b
median_at_lem xs ys kids b p q r m e ep eq er = e ∙ (λ i. median_point (ep i) (eq i) (er i))

-- its store
module _ (xs ys : List ℤ) (b : ℕ) (m : Point) where
  stored : b < length xs → b < length ys → point_at (set xs b m.x) (set ys b m.y) b ≡ m
  stored p q = ap₂ (λ s t. record { x = s; y = t }) (get_or-set_same xs b m.x (pos 0) p) (get_or-set_same ys b m.y (pos 0) q)

  unstored : (v : ℕ) → v ≢ b → point_at (set xs b m.x) (set ys b m.y) v ≡ point_at xs ys v
  unstored v d = ap₂ (λ s t. record { x = s; y = t }) (get_or-set_other xs b v m.x (pos 0) d) (get_or-set_other ys b v m.y (pos 0) d)

-- ---- for any net over these points

module _ (n : ℕ) (ps : List ℕ) (L : Legal n (parents_of n ps)) (xs₀ ys₀ : List ℤ) (h : Header) (rs : List ℤ) where
  abbrev N : Net
  N = net_of h n xs₀ ys₀ rs

  abbrev P : List ℕ
  P = parents_of n ps

  abbrev T : Tree
  T = settled_tree N P

  legal : Legal (size N) P
  legal = subst (λ m. Legal m P) (sym (size_is h n xs₀ ys₀ rs)) L

  sink_place : (v : ℕ) → v ≤ n → place N T v ≡ point_at xs₀ ys₀ v
  sink_place zero l = refl
  sink_place (suc i) l = place_sink N T (suc i) (omega arith) (omega (arith, size_is h n xs₀ ys₀ rs)) ∙ sink_at_lem h n xs₀ ys₀ rs (suc i) l

  -- the children of b stand where they settle, so their median with the root is where b settles
  median_place : (us : List ℕ) → LeavesUp (UnderRoot n) (2 * n - 1) ps us → (i b : ℕ) (kids : List ℕ) (xs ys : List ℤ) → i < 2 * n - 1 → b ≡ get_or us i 0 → n < b → b < 2 * n → Holds kids b (children P b)
      → ((v : ℕ) → v ≤ n → point_at xs ys v ≡ point_at xs₀ ys₀ v) → ((j : ℕ) → j < i → n < get_or us j 0 → point_at xs ys (get_or us j 0) ≡ place N T (get_or us j 0))
      → median_at xs ys kids b ≡ place N T b
  median_place us U i b kids xs ys il bi bn b2 holds kept done =
      let e : median_point (point_at xs₀ ys₀ 0) (place N T (get_or (children P b) 0 0)) (place N T (get_or (children P b) 1 0)) ≡ place N T b
      = sym (settled_median N P legal b (omega (arith, size_is h n xs₀ ys₀ rs)) (omega (arith, size_is h n xs₀ ys₀ rs))) in
      (λ i. median_point (kept 0 (omega arith) i) (at (get_or kids (2 * b) 0) 0 holds.0 (omega arith) i) (at (get_or kids (2 * b + 1) 0) 1 holds.1 (omega arith) i)) ∙ e
    where
      stands : (c : ℕ) → (parent_of P c ≡ b) × (1 ≤ c) × (c < 2 * n) → Dec (c ≤ n) → point_at xs ys c ≡ place N T c
      stands c r (yes q) = kept c q ∙ sym (sink_place c q)
      stands c r (no q) =
          let w : (j : ℕ) × (j < 2 * n - 1) × (get_or us j 0 ≡ c) = U.all c (r.1, r.2) in
          let e : get_or ps (get_or us w.0 0) 0 ≡ get_or us i 0 = ap (λ (z : ℕ). get_or ps z 0) w.2 ∙ sym (parents_at n ps c r.1 r.2) ∙ r.0 ∙ bi in
          subst (λ (z : ℕ). point_at xs ys z ≡ place N T z) w.2 (done w.0 (U.before w.0 i w.1 il e) (omega (arith, w.2)))

      at : (k i : ℕ) → k ≡ get_or (children P b) i 0 → i < 2 → point_at xs ys k ≡ place N T (get_or (children P b) i 0)
      at k i e q =
          let c : ℕ = get_or (children P b) i 0 in
          ap (point_at xs ys) e ∙ stands c (child_of n P L b i bn b2 q) (dec_le c n)

  tree_is : (xs ys : List ℤ) → ((v : ℕ) → n < v → v < 2 * n → point_at xs ys v ≡ place N T v) → tree_of n ps xs ys ≡ T
  tree_is xs ys done =
      let e : size N ≡ n = size_is h n xs₀ ys₀ rs in
      let t : map (point_at xs ys) (range (suc n) (n - 1)) ≡ map (settled N P (2 * size N)) (range (suc n) (n - 1))
      = table_cong (point_at xs ys) (settled N P (2 * size N)) (suc n) (n - 1) (λ v p q. done v (omega arith) (omega arith) ∙ at_settled N P legal v (omega arith) (omega arith)) in
      let r : map (settled N P (2 * size N)) (range (suc n) (n - 1)) ≡ map (settled N P (2 * size N)) (range (suc (size N)) (size N - 1))
      = ap (λ m. map (settled N P (2 * size N)) (range (suc m) (m - 1))) (sym e) in
      ap (λ l. record { parents = P; points = l }) (t ∙ r)

-- ---- the loop

-- the children are vertices
pub children_in_lem : (n : ℕ) (P : List ℕ) → Legal n P → (b : ℕ) (kids : List ℕ) → n < b → b < 2 * n → Holds kids b (children P b) → (get_or kids (2 * b) 0 < 2 * n) × (get_or kids (2 * b + 1) 0 < 2 * n)
children_in_lem n P L b kids bn b2 holds = (omega (arith, holds.0, (child_of n P L b 0 bn b2 (omega arith)).2), omega (arith, holds.1, (child_of n P L b 1 bn b2 (omega arith)).2))

module _ (n : ℕ) (ps us : List ℕ) (xs₀ ys₀ : List ℤ) where
  pub settled_none : Settled n ps us xs₀ ys₀ 0 xs₀ ys₀
  settled_none = record { xs_length = refl; ys_length = refl; kept = λ v l. refl; done = λ h rs j p q. absurd (omega arith) }

  -- a sink stands already
  pub settles_sink : (i : ℕ) (xs ys xs' ys' : List ℤ) → get_or us i 0 ≤ n → xs' ≡ xs → ys' ≡ ys → Settled n ps us xs₀ ys₀ i xs ys → Settled n ps us xs₀ ys₀ (i + 1) xs' ys'
  settles_sink i xs ys xs' ys' low ex ey s = record {
    xs_length = ap length ex ∙ s.xs_length;
    ys_length = ap length ey ∙ s.ys_length;
    kept = λ v l. same v ∙ s.kept v l;
    done = λ h rs j p q. same (get_or us j 0) ∙ s.done h rs j (other j p q (equal? j i)) q;
  }
    where
      same : (v : ℕ) → point_at xs' ys' v ≡ point_at xs ys v
      same v = ap₂ (λ l r. point_at l r v) ex ey

      other : (j : ℕ) → j < i + 1 → n < get_or us j 0 → (j ≡ i) ⊎ (j ≢ i) → j < i
      other j p q (inl e) = absurd (omega (arith, ap (λ (z : ℕ). get_or us z 0) e))
      other j p q (inr d) = omega arith

  pub settled_step : Legal n (parents_of n ps) → LeavesUp (UnderRoot n) (2 * n - 1) ps us → (i b : ℕ) (kids : List ℕ) (xs ys xs' ys' : List ℤ) → i < 2 * n - 1 → b ≡ get_or us i 0 → n < b → 2 * n ≤ length xs₀ → 2 * n ≤ length ys₀ → Holds kids b (children (parents_of n ps) b)
      → xs' ≡ set xs b (median_at xs ys kids b).x → ys' ≡ set ys b (median_at xs ys kids b).y
      → Settled n ps us xs₀ ys₀ i xs ys → Settled n ps us xs₀ ys₀ (i + 1) xs' ys'
  settled_step L U i b kids xs ys xs' ys' il bi bn xl yl holds ex ey s = record {
    xs_length = ap length ex ∙ simp length-set s.xs_length;
    ys_length = ap length ey ∙ simp length-set s.ys_length;
    kept = λ v l. other v (omega arith) ∙ s.kept v l;
    done = λ h rs j p q. go h rs j p q (equal? (get_or us j 0) b);
  }
    where
      b2 : b < 2 * n
      b2 = omega (arith, bi, (U.inside i il).1)

      stores : (v : ℕ) → point_at xs' ys' v ≡ point_at (set xs b (median_at xs ys kids b).x) (set ys b (median_at xs ys kids b).y) v
      stores v = ap₂ (λ l r. point_at l r v) ex ey

      other : (v : ℕ) → v ≢ b → point_at xs' ys' v ≡ point_at xs ys v
      other v d = stores v ∙ unstored xs ys b (median_at xs ys kids b) v d

      go : (h : Header) (rs : List ℤ) (j : ℕ) → j < i + 1 → n < get_or us j 0 → (get_or us j 0 ≡ b) ⊎ (get_or us j 0 ≢ b)
          → point_at xs' ys' (get_or us j 0) ≡ place (net_of h n xs₀ ys₀ rs) (settled_tree (net_of h n xs₀ ys₀ rs) (parents_of n ps)) (get_or us j 0)
      go h rs j p q (inl e) =
          subst (λ z. point_at xs' ys' z ≡ place (net_of h n xs₀ ys₀ rs) (settled_tree (net_of h n xs₀ ys₀ rs) (parents_of n ps)) z) (sym e)
          (stores b ∙ stored xs ys b (median_at xs ys kids b) (omega (arith, b2, s.xs_length)) (omega (arith, b2, s.ys_length))
          ∙ median_place n ps L xs₀ ys₀ h rs us U i b kids xs ys il bi bn b2 holds s.kept (λ j p q. s.done h rs j p q))
      go h rs j p q (inr d) = other (get_or us j 0) d ∙ s.done h rs j (before (equal? j i)) q
        where
          before : (j ≡ i) ⊎ (j ≢ i) → j < i
          before (inl e) = absurd (d (ap (λ (z : ℕ). get_or us z 0) e ∙ sym bi))
          before (inr e) = omega arith

  pub settled_all : Legal n (parents_of n ps) → LeavesUp (UnderRoot n) (2 * n - 1) ps us → (i : ℕ) (xs ys : List ℤ) → 2 * n - 1 ≤ i → Settled n ps us xs₀ ys₀ i xs ys → (h : Header) (rs : List ℤ) → tree_of n ps xs ys ≡ settled_tree (net_of h n xs₀ ys₀ rs) (parents_of n ps)
  settled_all L U i xs ys q s h rs = tree_is n ps L xs₀ ys₀ h rs xs ys all
    where
      all : (v : ℕ) → n < v → v < 2 * n → point_at xs ys v ≡ place (net_of h n xs₀ ys₀ rs) (settled_tree (net_of h n xs₀ ys₀ rs) (parents_of n ps)) v
      all v p l =
          let w : (j : ℕ) × (j < 2 * n - 1) × (get_or us j 0 ≡ v) = U.all v (omega arith, l) in
          subst (λ z. point_at xs ys z ≡ place (net_of h n xs₀ ys₀ rs) (settled_tree (net_of h n xs₀ ys₀ rs) (parents_of n ps)) z) w.2 (s.done h rs w.0 (omega (arith, w.1)) (omega (arith, w.2)))
