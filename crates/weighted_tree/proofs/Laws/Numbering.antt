-- The joined tree in the arrays of a net: each parent has the higher number, so the vertices by number go up the tree and down; settled, it is held. Assumes nothing.
use Prim.Native.Nat.{ℕ, zero, suc, ◌*◌, ◌-◌, ◌≤◌, ◌<◌}
use mathlib.Core.Path.{◌≡◌, sym, ap, ◌∙◌, subst}
use mathlib.Core.Logic.{◌⊎◌, inl, inr}
use mathlib.Core.List.{List, ◌++◌}
use Rattle.std.proofs.Common.{reverse, rules}
use lib.Seq.{get_or-take}
use Rattle.std.proofs.lemmas.List.{places, get_or-reverse}
use native.Mathlib.Omega.{arith}
use lib.ListN.{length, get_or, take, drop}
use lib.IntN.{ℤ}
use Rattle.quantities.specs.Ranges.{PointWithin}
use Rattle.tree.specs.declared.header.Header.{Header}
use Rattle.tree.specs.Net.{Net}
use Rattle.tree.specs.Tree.{parent_of, Legal, place}
use Rattle.tree.specs.Settling.{settled_tree}
use Rattle.tree.specs.Limits.{position_limit, sink_limit, InRange}
use Rattle.tree.specs.Inner.Arrays.{point_at, net_of, parents_of, tree_of, Parents, HoldsNet, HoldsTree, UnderRoot, LeavesUp, RootDown}
use Rattle.tree.proofs.Laws.Arrays.NetAndTree.{size_is, parents_at, place_at}
use Rattle.tree.proofs.Laws.Measures.FiguresInRange.{settled_within}
use Rattle.formats.proofs.Laws.Held.{kept_net}
use Rattle.weighted_tree.specs.Joining.{joined_parents, weighted_tree}
use Rattle.weighted_tree.proofs.Laws.Joins.{joined_legal, joined_rising}

-- the vertices by number, turned round
pub turned : (n : ℕ) (order turn : List ℕ) → 2 * n - 1 ≤ length order → turn ≡ reverse (take (2 * n - 1) order) → ((i : ℕ) → i < 2 * n - 1 → get_or order i 0 ≡ suc i)
    → (i : ℕ) → i < 2 * n - 1 → get_or (turn ++ drop (2 * n - 1) order) i 0 ≡ 2 * n - 1 - i
turned n order turn long e at i h =
    let xs = take (2 * n - 1) order in
    let m : length xs ≡ 2 * n - 1 = search (rules, places) in
    let first : get_or (reverse xs ++ drop (2 * n - 1) order) i 0 ≡ get_or (reverse xs) i 0 = search (rules, places) in
    ap (λ (t : List ℕ). get_or (t ++ drop (2 * n - 1) order) i 0) e ∙ first ∙ get_or-reverse xs i 0 (omega (arith, m))
    ∙ get_or-take (2 * n - 1) order (length xs - 1 - i) 0 (omega (arith, m)) ∙ at (length xs - 1 - i) (omega (arith, m)) ∙ omega (arith, m)

pub turned_long : (n : ℕ) (order turn : List ℕ) → 2 * n - 1 ≤ length order → turn ≡ reverse (take (2 * n - 1) order) → length (turn ++ drop (2 * n - 1) order) ≡ length order
turned_long n order turn long e =
    let m : length (take (2 * n - 1) order) ≡ 2 * n - 1 = search (rules, places) in
    rw e (search (rules, places))

module _ (n : ℕ) (w : List ℕ) (some : 1 ≤ n) (few : n ≤ sink_limit) (ps : List ℕ) (long : 2 * n ≤ length ps) (joined : parents_of n ps ≡ joined_parents n w) where
  made_legal : Legal n (parents_of n ps)
  made_legal = subst (λ (P : List ℕ). Legal n P) (sym joined) (joined_legal n w some)

  made_parents : Parents n ps
  made_parents = record { some = some; few = few; long = long; inside = inside }
    where
      inside : (v : ℕ) → 1 ≤ v → v < 2 * n → get_or ps v 0 < 2 * n
      inside zero g l = absurd (omega arith)
      inside (suc i) g l = omega (arith, made_legal.inside i (omega (arith, made_legal.size)), parents_at n ps (suc i) g l)

  -- ---- by number

  rises : (v : ℕ) → 1 ≤ v → v < 2 * n → (get_or ps v 0 ≡ 0) ⊎ (v < get_or ps v 0)
  rises v h l = go (joined_rising n w some v h)
    where
      e : parent_of (joined_parents n w) v ≡ get_or ps v 0
      e = sym (ap (λ (P : List ℕ). parent_of P v) joined) ∙ parents_at n ps v h l

      go : (parent_of (joined_parents n w) v ≡ 0) ⊎ ((v < parent_of (joined_parents n w) v) × (n < parent_of (joined_parents n w) v)) → (get_or ps v 0 ≡ 0) ⊎ (v < get_or ps v 0)
      go (inl z) = inl (sym e ∙ z)
      go (inr r) = inr (omega (arith, e, r.0))

  -- so it can be settled
  pub numbers_up : (order : List ℕ) → ((i : ℕ) → i < 2 * n - 1 → get_or order i 0 ≡ suc i) → Parents n ps × Legal n (parents_of n ps) × LeavesUp (UnderRoot n) (2 * n - 1) ps order
  numbers_up order at = (
    made_parents,
    made_legal,
    record {
      inside = λ i l. omega (arith, at i l);
      all = λ v u. (v - 1, omega (arith, u), at (v - 1) (omega (arith, u)) ∙ omega (arith, u));
      once = λ h i p q e. omega (arith, at h p, at i q);
      before = λ h i p q e. up h i p q (ap (λ (v : ℕ). get_or ps v 0) (sym (at h p)) ∙ e ∙ at i q) (rises (suc h) (omega arith) (omega arith));
    },
  )
    where
      up : (h i : ℕ) → h < 2 * n - 1 → i < 2 * n - 1 → get_or ps (suc h) 0 ≡ suc i → (get_or ps (suc h) 0 ≡ 0) ⊎ (suc h < get_or ps (suc h) 0) → h < i
      up h i p q e (inl z) = absurd (omega arith)
      up h i p q e (inr l) = omega arith

  pub numbers_down : (order : List ℕ) → 2 * n ≤ length order → ((i : ℕ) → i < 2 * n - 1 → get_or order i 0 ≡ 2 * n - 1 - i) → RootDown n ps order
  numbers_down order ol at = record {
    long = omega arith;
    inside = λ i l. omega (arith, at i l);
    all = λ v u. (2 * n - 1 - v, omega (arith, u), back v u);
    after = λ i l. go i l (rises (2 * n - 1 - i) (omega arith) (omega arith));
  }
    where
      back : (v : ℕ) → UnderRoot n v → get_or order (2 * n - 1 - v) 0 ≡ v
      back v u = at (2 * n - 1 - v) (omega (arith, u)) ∙ omega (arith, u)

      go : (i : ℕ) → i < 2 * n - 1 → (get_or ps (2 * n - 1 - i) 0 ≡ 0) ⊎ (2 * n - 1 - i < get_or ps (2 * n - 1 - i) 0)
          → (get_or ps (get_or order i 0) 0 ≡ 0) ⊎ ((h : ℕ) × (h < i) × (get_or order h 0 ≡ get_or ps (get_or order i 0) 0))
      go i l (inl z) = inl (ap (λ (v : ℕ). get_or ps v 0) (at i l) ∙ z)
      go i l (inr r) =
          let p : ℕ = get_or ps (2 * n - 1 - i) 0 in
          let q : p < 2 * n = made_parents.inside (2 * n - 1 - i) (omega arith) (omega arith) in
          inr (2 * n - 1 - p, omega arith, back p (omega arith, q) ∙ sym (ap (λ (v : ℕ). get_or ps v 0) (at i l)))

  -- ---- the branch points are settled, and the root and the sinks stand as before

  module _ (h : Header) (xs ys rs xs' ys' : List ℤ) (held : HoldsNet h n xs ys rs) (xs_long : 2 * n ≤ length xs') (ys_long : 2 * n ≤ length ys')
      (settled : tree_of n ps xs' ys' ≡ settled_tree (net_of h n xs ys rs) (parents_of n ps)) (kept : (v : ℕ) → v ≤ n → point_at xs' ys' v ≡ point_at xs ys v) where
    abbrev N : Net
    N = net_of h n xs ys rs

    same_net : net_of h n xs' ys' rs ≡ N
    same_net = kept_net h n xs ys rs xs' ys' kept

    pub made_tree : (net_of h n xs' ys' rs ≡ N) × (tree_of n ps xs' ys' ≡ weighted_tree N w)
    unfolding weighted_tree
    made_tree = (same_net, settled ∙ ap (settled_tree N) (joined ∙ ap (λ (m : ℕ). joined_parents m w) (sym (size_is h n xs ys rs))))

    near : (v : ℕ) → v < 2 * n → PointWithin position_limit (point_at xs' ys' v)
    near v l =
        subst (PointWithin position_limit) (sym (λ i. place (same_net i) (settled i) v) ∙ place_at h n xs' ys' rs ps v l)
        (settled_within N held.in_range (parents_of n ps) (subst (λ (m : ℕ). Legal m (parents_of n ps)) (sym (size_is h n xs ys rs)) made_legal) v (omega (arith, size_is h n xs ys rs)))

    -- so it can be measured
    pub made_holds : HoldsNet h n xs' ys' rs × HoldsTree n ps xs' ys'
    made_holds = (
      record {
        points = record { xs_long = omega arith; ys_long = omega arith; near = λ v l. near v (omega arith) };
        required_long = held.required_long;
        in_range = subst InRange (sym same_net) held.in_range;
      },
      record { parents_in_lem = made_parents; points_in_lem = record { xs_long = xs_long; ys_long = ys_long; near = near } },
    )
