-- What the arrays hold of the tree so far: the parents, where the vertices stand, what a sink meets and adds. Assumes nothing.
use Prim.Native.Nat.{ℕ, zero, suc, ◌+◌, ◌-◌, ◌*◌, ◌≤◌, ◌<◌}
use mathlib.Core.Path.{◌≡◌, sym, ap, ap₂, ◌∙◌, subst}
use mathlib.Core.List.{List, [], ◌∷◌}
use native.Mathlib.Omega.{arith}
use lib.ListN.{length, get_or, set, replicate}
use lib.IntN.{ℤ, pos, neg_ℤ}
use Rattle.quantities.specs.declared.point.Point.{Point}
use Rattle.quantities.specs.Distance.{distance}
use Rattle.quantities.specs.Median.{median_point}
use Rattle.quantities.specs.Box.{InBox}
use Rattle.quantities.specs.Ranges.{PointWithin}
use Rattle.tree.specs.Net.{Net, size}
use Rattle.tree.specs.Tree.{parent_of, parent, place}
use Rattle.tree.specs.Planning.{put}
use Rattle.tree.specs.Limits.{position_limit}
use Rattle.tree.proofs.Laws.Arrays.NetAndTree.{parents_at}
use Rattle.tree.proofs.Laws.Trees.LegalTrees.{hangs}
use Rattle.short_tree.specs.ShortTree.{meeting, added, edge_for, next_sink, after}
use Rattle.short_tree.specs.Inner.Arrays.{meeting_at, added_at, Reaches, Pins, Tracks}
use Rattle.short_tree.proofs.Laws.Theorem2.{in_box}

-- ---- parents are among the vertices made

set-le : (m : ℕ) (l : List ℕ) (i a : ℕ) → a ≤ m → ((j : ℕ) → get_or l j 0 ≤ m) → (j : ℕ) → get_or (set l i a) j 0 ≤ m
set-le m [] i a h f j = f j
set-le m (x ∷ l) zero a h f zero = h
set-le m (x ∷ l) zero a h f (suc j) = f (suc j)
set-le m (x ∷ l) (suc i) a h f zero = f 0
set-le m (x ∷ l) (suc i) a h f (suc j) = set-le m l i a h (λ j. f (suc j)) j

parent_le : (m : ℕ) (P : List ℕ) → ((j : ℕ) → get_or P j 0 ≤ m) → (v : ℕ) → parent_of P v ≤ m
parent_le m P f zero = omega arith
parent_le m P f (suc v) = f v

pub parents_le : (N : Net) (k : ℕ) (j : ℕ) → get_or (after N k).tree.parents j 0 ≤ size N + k
parents_le N zero zero = let h : parent_of (replicate (2 * size N - 1) 0) 1 ≡ 0 = hangs (2 * size N - 1) 1 in omega (arith, h)
parents_le N zero (suc j) = let h : parent_of (replicate (2 * size N - 1) 0) (suc (suc j)) ≡ 0 = hangs (2 * size N - 1) (suc (suc j)) in omega (arith, h)
parents_le N (suc k) j = go (parents_le N k)
  where
    s : ℕ
    s = next_sink N k (after N k)

    v : ℕ
    v = edge_for N k (after N k) s

    P : List ℕ
    P = (after N k).tree.parents

    b : ℕ
    b = size N + suc k

    go : ((i : ℕ) → get_or (after N k).tree.parents i 0 ≤ size N + k) → get_or (after N (suc k)).tree.parents j 0 ≤ size N + suc k
    go ih = set-le b (put (put P b (parent_of P v)) v b) (s - 1) b (omega arith)
        (set-le b (put P b (parent_of P v)) (v - 1) b (omega arith) (set-le b P (b - 1) (parent_of P v) (omega (arith, parent_le (size N + k) P ih v)) (λ i. omega (arith, ih i)))) j

-- ---- a net and its arrays

module _ (N : Net) (n : ℕ) (p : Pins N n) where
  n1 : 1 ≤ size N
  n1 = omega (arith, p.some, p.size_is)

  -- every vertex is in range
  pub in_range : (k : ℕ) → k < n → (v : ℕ) → PointWithin position_limit (place N (after N k).tree v)
  in_range k h v =
      let c : Point = record { x = neg_ℤ (pos position_limit); y = neg_ℤ (pos position_limit) } in
      let d : Point = record { x = pos position_limit; y = pos position_limit } in
      let B : InBox c d (place N (after N k).tree v) = in_box N n1 c d (λ t l. record { x = (p.near t (omega (arith, p.size_is))).0; y = (p.near t (omega (arith, p.size_is))).1 }) k (omega (arith, p.size_is)) v in
      (B.x, B.y)

  module _ (k : ℕ) (kn : k < n) (xs ys : List ℤ) (parents : List ℕ) (t : Tracks N n k xs ys parents) where
    pub parent_is : (v : ℕ) → 1 ≤ v → v < 2 * n → get_or parents v 0 ≡ parent (after N k).tree v
    parent_is v a b = sym (parents_at n parents v a b) ∙ ap (λ P. parent_of P v) t.parents_are

    pub parent_low : (v : ℕ) → 1 ≤ v → v < 2 * n → get_or parents v 0 ≤ n + k
    parent_low v a b = omega (arith, parent_is v a b, parent_le (size N + k) (after N k).tree.parents (parents_le N k) v, p.size_is)

    pub tracks_reaches : n + k < length xs → n + k < length ys → n + k < length parents → Reaches (n + k) parents xs ys
    tracks_reaches xl yl pl = record {
      points = record { xs_long = omega arith; ys_long = omega arith; near = λ v h. subst (PointWithin position_limit) (sym (t.points_are v (omega arith))) (in_range k kn v) };
      long = pl;
      inside = λ v a b. parent_low v a (omega arith);
    }

    -- what a sink meets and adds
    pub meeting_is : (s v : ℕ) → s ≤ n + k → 1 ≤ v → v ≤ n + k → meeting_at parents xs ys s v ≡ meeting N (after N k).tree s v
    meeting_is s v sl v1 vl =
        λ i. median_point ((t.points_are (get_or parents v 0) (parent_low v v1 (omega arith)) ∙ ap (place N (after N k).tree) (parent_is v v1 (omega arith))) i) (t.points_are v vl i) (t.points_are s sl i)

    pub added_is : (s v : ℕ) → s ≤ n + k → 1 ≤ v → v ≤ n + k → added_at parents xs ys s v ≡ added N (after N k).tree s v
    added_is s v sl v1 vl = ap₂ distance (meeting_is s v sl v1 vl) (t.points_are s sl)
