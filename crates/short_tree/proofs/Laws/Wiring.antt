-- What a short tree is while it grows: a tree of its sinks and branch points, whose wire and the links that a spanning tree has left are together
-- no longer than the spanning tree. Assumes nothing.
use Prim.Native.Nat.{ℕ, zero, suc, ◌+◌, ◌*◌, ◌≤◌, ◌<◌}
use mathlib.Core.Path.{◌≡◌, refl, sym, ap, ap₂, ◌∙◌}
use mathlib.Core.Logic.{◌≢◌, ◌⊎◌, inl, inr}
use mathlib.Core.List.{List, [], ◌∷◌, ◌++◌}
use native.Mathlib.Nat.{le_of_eq}
use native.Mathlib.Omega.{arith}
use lib.ListN.{length, length-set}
use Rattle.quantities.specs.declared.point.Point.{Point}
use Rattle.quantities.specs.Distance.{distance}
use Rattle.quantities.proofs.Laws.Distance.{distance_symmetric}
use Rattle.quantities.proofs.Laws.Median.{distance_through_median}
use Rattle.tree.specs.Lists.{sum_over, delta, count, down}
use Rattle.tree.specs.Net.{Net, size, sink_at}
use Rattle.tree.specs.Tree.{Tree, parent_of, parent, place}
use Rattle.tree.specs.Measures.{edge_length}
use Rattle.tree.proofs.Laws.Lists.Sums.{equal?, delta_eq, delta_ne, sum_over_change, sum_over_find, down_in, down_once, down_low}
use Rattle.tree.proofs.Laws.Trees.Growing.{PartTree, Split, parent_inner, member, inner_ne, split_tree}
use Rattle.tree.proofs.Laws.Trees.LegalTrees.{stores}
use Rattle.tree.proofs.Laws.Kraft.Rivals.{base_tree}
use Rattle.short_tree.specs.ShortTree.{Growing, meeting, added, inserted}
use Rattle.short_tree.proofs.Laws.Medians.{median_near_first, median_near_last}
use Rattle.short_tree.proofs.Laws.Spanning.{Spans, Left, left_start, left_step}
use Rattle.short_tree.proofs.Laws.Waiting.{place_terminal, place_old, place_new}

-- v is the lower end of an edge
abbrev pub InTree : Net → ℕ → Growing → ℕ → Type 0
InTree N k g v = count v g.sinks + count v (down (size N) k) ≢ 0

-- the wire so far
abbrev pub wire_so_far : Net → ℕ → Growing → ℕ
wire_so_far N k g = sum_over g.sinks (edge_length N g.tree) + sum_over (down (size N) k) (edge_length N g.tree)

abbrev pub apart : Net → ℕ → ℕ → ℕ
apart N u v = distance (sink_at N u) (sink_at N v)

pub record Grown (N : Net) (k : ℕ) (g : Growing) : Type 0 where
  pub tree : PartTree (size N) g.sinks k (2 * k + 1) (parent g.tree)
  pub long : suc (length g.tree.parents) ≡ 2 * size N
  pub made : length g.tree.points ≡ k
  pub in_it : length g.sinks ≡ suc k
  pub lower : (f h : ℕ → ℕ) (T : List ℕ) → Spans (size N) T f h → Left (size N) (apart N) f h (0 ∷ g.sinks) (wire_so_far N k g) (sum_over T (λ j. apart N (f j) (h j)))

apart_symmetric : (N : Net) (u v : ℕ) → apart N u v ≡ apart N v u
apart_symmetric N u v = distance_symmetric (sink_at N u) (sink_at N v)

-- ---- the first sink

module _ (N : Net) (s : ℕ) (P : List ℕ) (s1 : 1 ≤ s) (sN : s ≤ size N) (long : suc (length P) ≡ 2 * size N) (hangs : parent_of P s ≡ 0)
    (near : (z : ℕ) → 1 ≤ z → z ≤ size N → apart N 0 s ≤ apart N 0 z) where
  abbrev first : Growing
  first = record { sinks = s ∷ []; tree = record { parents = P; points = [] } }

  pub grown_start : Grown N 0 (record { sinks = s ∷ []; tree = record { parents = P; points = [] } })
  grown_start = record {
    tree = base_tree (size N) s (parent_of P) s1 sN refl hangs;
    long = long;
    made = refl;
    in_it = refl;
    lower = λ f h T t. left_step (size N) (apart N) f h (0 ∷ []) (0 ∷ (s ∷ [])) 0 (wire_so_far N 0 first) _ s (apart N 0 s) (apart_symmetric N) (left_start (size N) (apart N) f h T t)
        sN (omega (arith, delta_ne s 0 (omega arith))) (λ v. omega arith) (omega (arith, edge)) nearest;
  }
    where
      edge : edge_length N first.tree s ≡ apart N 0 s
      edge = ap₂ distance (ap (place N first.tree) hangs) (place_terminal N first.tree s sN)

      nearest : (t z : ℕ) → count t (0 ∷ []) ≢ 0 → z ≤ size N → count z (0 ∷ []) ≡ 0 → apart N 0 s ≤ apart N t z
      nearest t zero i l o = absurd (omega arith)
      nearest t (suc v) i l o = rw (delta_eq t 0 (omega arith)) (near (suc v) (omega arith) l)

-- ---- the next: sink s is inserted at the edge to x, and nothing adds less wire

module _ (N : Net) (k : ℕ) (g : Growing) (G : Grown N k g) (s x : ℕ) (s1 : 1 ≤ s) (sN : s ≤ size N) (fresh : count s g.sinks ≡ 0) (kN : suc k < size N) (hx : InTree N k g x) where
  abbrev T : Tree
  T = g.tree

  abbrev T' : Tree
  T' = (inserted N k g s x).tree

  pub splits : Split (size N) k s x (parent g.tree) (parent (inserted N k g s x).tree)
  splits = go (equal? (count x g.sinks) 0)
    where
      go : (count x g.sinks ≡ 0) ⊎ (count x g.sinks ≢ 0) → Split (size N) k s x (parent g.tree) (parent (inserted N k g s x).tree)
      go (inl e) = let d : (size N < x) × (x ≤ size N + k) = down_in (size N) k x (omega arith) in
          stores g.tree.parents (size N) k s x s1 (omega arith) (omega arith) (omega arith) (omega arith) (omega (arith, G.long)) (omega (arith, G.long)) (omega (arith, G.long))
      go (inr d) = let l : (1 ≤ x) × (x ≤ size N) = G.tree.low x d in
          stores g.tree.parents (size N) k s x s1 (omega arith) (λ e. omega (arith, ap (λ z. count z g.sinks) e)) (omega arith) (omega arith) (omega (arith, G.long)) (omega (arith, G.long)) (omega (arith, G.long))

  pub stands_old : (v : ℕ) → v ≢ size N + suc k → place N (inserted N k g s x).tree v ≡ place N g.tree v
  stands_old v d = place_old N g.tree.parents T'.parents g.tree.points (meeting N g.tree s x) k G.made v d

  pub stands_new : place N (inserted N k g s x).tree (size N + suc k) ≡ meeting N g.tree s x
  stands_new = place_new N g.tree.parents T'.parents g.tree.points (meeting N g.tree s x) k G.made

  once_x : count x g.sinks + count x (down (size N) k) ≡ 1
  once_x = go (equal? (count x g.sinks) 0)
    where
      go : (count x g.sinks ≡ 0) ⊎ (count x g.sinks ≢ 0) → count x g.sinks + count x (down (size N) k) ≡ 1
      go (inl e) = let d : (size N < x) × (x ≤ size N + k) = down_in (size N) k x (omega arith) in omega (arith, down_once (size N) k x d.0 d.1)
      go (inr d) = omega (arith, G.tree.once x, down_low (size N) k x (G.tree.low x d).1)

  pub in_tree : (v : ℕ) → InTree N k g v → (1 ≤ v) × (v ≢ s) × (v ≢ size N + suc k)
  in_tree v h = member G.tree splits hx s1 sN fresh v h

  pub parent_ne : (v : ℕ) → InTree N k g v → parent g.tree v ≢ size N + suc k
  parent_ne v h = (inner_ne G.tree splits hx s1 sN fresh (parent g.tree v) (parent_inner G.tree v h)).1

  -- the edges that are not split stay as they are
  pub edge_stays : (v : ℕ) → InTree N k g v → v ≢ x → edge_length N T' v ≡ edge_length N T v
  edge_stays v h d = ap₂ distance (ap (place N T') (splits.old v d (in_tree v h).1 (in_tree v h).2) ∙ stands_old (parent T v) (parent_ne v h)) (stands_old v (in_tree v h).2)

  more : wire_so_far N (suc k) (inserted N k g s x) ≡ wire_so_far N k g + added N T s x
  more = omega (arith, a, b, ap (λ z. z * f x) once_x, ap (λ z. z * h x) once_x, hx', hs, hb, distance_through_median (place N T (parent T x)) (place N T x) (place N T s))
    where
      f : ℕ → ℕ
      f = edge_length N T

      h : ℕ → ℕ
      h = edge_length N T'

      a : sum_over g.sinks h + count x g.sinks * f x ≡ sum_over g.sinks f + count x g.sinks * h x
      a = sum_over_change g.sinks f h x (λ y m d. edge_stays y (omega arith) d)

      b : sum_over (down (size N) k) h + count x (down (size N) k) * f x ≡ sum_over (down (size N) k) f + count x (down (size N) k) * h x
      b = sum_over_change (down (size N) k) f h x (λ y m d. edge_stays y (omega arith) d)

      c : Point
      c = meeting N T s x

      hx' : h x ≡ distance c (place N T x)
      hx' = ap₂ distance (ap (place N T') splits.low ∙ stands_new) (stands_old x (in_tree x hx).2)

      hs : h s ≡ distance c (place N T s)
      hs = ap₂ distance (ap (place N T') splits.new ∙ stands_new) (stands_old s (omega arith))

      hb : h (size N + suc k) ≡ distance (place N T (parent T x)) c
      hb = ap₂ distance (ap (place N T') splits.mid ∙ stands_old (parent T x) (parent_ne x hx)) stands_new

  -- a vertex at the root
  child : (v : ℕ) × (InTree N k g v) × (parent g.tree v ≡ 0)
  child = go (equal? (sum_over g.sinks (λ v. delta 0 (parent g.tree v))) 0)
    where
      go : (sum_over g.sinks (λ v. delta 0 (parent g.tree v)) ≡ 0) ⊎ (sum_over g.sinks (λ v. delta 0 (parent g.tree v)) ≢ 0) → (v : ℕ) × (InTree N k g v) × (parent g.tree v ≡ 0)
      go (inl e) =
          let r : (v : ℕ) × (count v (down (size N) k) ≢ 0) × (delta 0 (parent g.tree v) ≢ 0) = sum_over_find (down (size N) k) (λ v. delta 0 (parent g.tree v)) (omega (arith, G.tree.children_are 0)) in
          (r.0, omega (arith, r.1), sym (delta_eq 0 (parent g.tree r.0) r.2))
      go (inr d) =
          let r : (v : ℕ) × (count v g.sinks ≢ 0) × (delta 0 (parent g.tree v) ≢ 0) = sum_over_find g.sinks (λ v. delta 0 (parent g.tree v)) d in
          (r.0, omega (arith, r.1), sym (delta_eq 0 (parent g.tree r.0) r.2))

  module _ (least : (z v : ℕ) → 1 ≤ z → z ≤ size N → count z g.sinks ≡ 0 → InTree N k g v → added N g.tree s x ≤ added N g.tree z v) where
    cheap : (t z : ℕ) → count t (0 ∷ g.sinks) ≢ 0 → z ≤ size N → count z (0 ∷ g.sinks) ≡ 0 → added N T s x ≤ apart N t z
    cheap t zero h l o = absurd (omega arith)
    cheap t (suc v) h l o = go (equal? t 0)
      where
        z : ℕ
        z = suc v

        go : (t ≡ 0) ⊎ (t ≢ 0) → added N T s x ≤ apart N t z
        go (inl e) = rw e (root child)
          where
            root : (u : ℕ) × (InTree N k g u) × (parent T u ≡ 0) → added N T s x ≤ apart N 0 z
            root r = omega (
              arith,
              least z r.0 (omega arith) l (omega arith) r.1,
              median_near_first (place N T (parent T r.0)) (place N T r.0) (place N T z),
              ap₂ distance (ap (place N T) r.2) (place_terminal N T z l),
            )
        go (inr d) =
            let j : count t g.sinks ≢ 0 = omega (arith, delta_ne t 0 d) in
            omega (
              arith,
              least z t (omega arith) l (omega arith) (omega arith),
              median_near_last (place N T (parent T t)) (place N T t) (place N T z),
              ap₂ distance (place_terminal N T t (omega (arith, G.tree.low t j))) (place_terminal N T z l),
            )

    pub grown_next : Grown N (suc k) (inserted N k g s x)
    grown_next = record {
      tree = let e : 2 * suc k + 1 ≡ suc (suc (2 * k + 1)) = omega arith in rw e (split_tree G.tree splits hx s1 sN fresh);
      long = simp length-set G.long;
      made = longer g.tree.points ∙ ap suc G.made;
      in_it = ap suc G.in_it;
      lower = λ f h R t. left_step (size N) (apart N) f h (0 ∷ g.sinks) (0 ∷ (s ∷ g.sinks)) (wire_so_far N k g) (wire_so_far N (suc k) (inserted N k g s x)) _ s (added N T s x) (apart_symmetric N) (G.lower f h R t)
          sN (omega (arith, delta_ne s 0 (omega arith), fresh)) (λ v. omega arith) (le_of_eq more) cheap;
    }
      where
        longer : (l : List Point) → length (l ++ (meeting N T s x ∷ [])) ≡ suc (length l)
        longer [] = refl
        longer (p ∷ l) = ap suc (longer l)
