-- Measuring the tree that arrays hold: its edges, and the sums and the least over a range that grows. Assumes nothing.
use Prim.Native.Nat.{ℕ, zero, suc, ◌+◌, ◌*◌, ◌-◌, ◌≤◌, ◌<◌, min, zero-le}
use mathlib.Core.Path.{◌≡◌, refl, sym, ap, ap₂, ◌∙◌, subst}
use mathlib.Core.Bool.{Bool, true, false, cond}
use mathlib.Core.List.{List, map}
use native.Mathlib.Nat.{add-zero}
use native.Mathlib.Omega.{arith}
use lib.ListN.{length, get_or}
use lib.Dec.{ltb}
use borrow.Author.Tests.{ltb-true, ltb-false}
use lib.IntN.{ℤ, pos, negsuc}
use Rattle.quantities.specs.Inner.Linear.{up}
use Rattle.quantities.specs.MinMax.{min_ℤ}
use Rattle.quantities.specs.Ranges.{Within, PointWithin}
use Rattle.quantities.specs.Inner.Reach.{length_reach}
use Rattle.quantities.specs.Distance.{distance}
use Rattle.tree.specs.declared.header.Header.{Header}
use Rattle.tree.specs.declared.measures.Measures.{Measures}
use Rattle.tree.specs.Lists.{sum_over, range, least_from, least}
use Rattle.tree.specs.Net.{Net, size}
use Rattle.tree.specs.Tree.{Tree, parent, place}
use Rattle.tree.specs.Measures.{edge_length, slack, worst_over, worst_slack, wire_length}
use Rattle.tree.specs.Limits.{position_limit, sink_limit, required_limit}
use Rattle.tree.specs.Inner.DerivedLimits.{length_limit}
use Rattle.tree.specs.Inner.Arrays.{point_at, length_above, net_of, tree_of, HoldsNet, HoldsTree}
use Rattle.tree.specs.Inner.Measuring.{slack_at, least_slack, edge_sum}
use Rattle.tree.proofs.Laws.Measures.InReach.{distance_limit}
use Rattle.tree.proofs.Laws.Lists.Tables.{table_cong}
use Rattle.tree.proofs.Laws.Arrays.NetAndTree.{parents_at, size_is, required_at, place_at}

pub pos_up : (z : ℤ) → 1 ≤ up z → z ≡ pos (up z)
pos_up (pos n) l = refl
pos_up (negsuc n) l = absurd (omega arith)

-- ---- the tree of arrays: each vertex's edge, read from the arrays alone

module _ (n : ℕ) (ps : List ℕ) (xs ys : List ℤ) (held : HoldsTree n ps xs ys) where
  pub parent_inside : (v : ℕ) → 1 ≤ v → v < 2 * n → get_or ps v 0 < 2 * n
  parent_inside = held.parents_in_lem.inside

  pub near : (v : ℕ) → v < 2 * n → PointWithin position_limit (point_at xs ys v)
  near = held.points_in_lem.near

  pub long : (v : ℕ) → v < 2 * n → (v < length xs) × (v < length ys)
  long v l = omega (arith, held.points_in_lem.xs_long, held.points_in_lem.ys_long)

  -- the same of the net and the tree

  pub ends : (h : Header) (rs : List ℤ) (v : ℕ) → 1 ≤ v → v < 2 * n
      → (place (net_of h n xs ys rs) (tree_of n ps xs ys) (parent (tree_of n ps xs ys) v) ≡ point_at xs ys (get_or ps v 0))
      × (place (net_of h n xs ys rs) (tree_of n ps xs ys) v ≡ point_at xs ys v)
  ends h rs v g l = (
    ap (place (net_of h n xs ys rs) (tree_of n ps xs ys)) (parents_at n ps v g l) ∙ place_at h n xs ys rs ps (get_or ps v 0) (parent_inside v g l),
    place_at h n xs ys rs ps v l,
  )

  edge_length_is : (h : Header) (rs : List ℤ) (v : ℕ) → 1 ≤ v → v < 2 * n
      → edge_length (net_of h n xs ys rs) (tree_of n ps xs ys) v ≡ length_above ps xs ys v
  edge_length_is h rs v g l = ap₂ distance (ends h rs v g l).0 (ends h rs v g l).1

  pub length_limit_lem : (v : ℕ) → 1 ≤ v → v < 2 * n → length_above ps xs ys v ≤ length_limit
  length_limit_lem v g l = distance_limit (point_at xs ys (get_or ps v 0)) (point_at xs ys v) (near (get_or ps v 0) (parent_inside v g l)) (near v l)

-- ---- the ranges of what a net's arrays hold

module _ (h : Header) (n : ℕ) (xs ys rs : List ℤ) (net : HoldsNet h n xs ys rs) where
  pub required_within : (s : ℕ) → 1 ≤ s → s ≤ n → Within required_limit (get_or rs s (pos 0))
  required_within s g l =
      let m : s ≤ size (net_of h n xs ys rs) = omega (arith, size_is h n xs ys rs) in
      subst (Within required_limit) (required_at h n xs ys rs s g l) (net.in_range.required s g m)

  pub branch_is : h.branch.0 ≡ pos (up h.branch.0)
  branch_is = pos_up h.branch.0 net.in_range.branch.0

-- ---- the sum and the least over a range that grows at its end

sum_more : (g : ℕ → ℕ) (a k : ℕ) → sum_over (range a (suc k)) g ≡ sum_over (range a k) g + g (a + k)
sum_more g a zero = omega (arith, ap g (add-zero a))
sum_more g a (suc k) =
    let e : suc a + k ≡ a + suc k = omega arith in
    omega (arith, sum_more g (suc a) k, ap g e)

sum_bound : (g : ℕ → ℕ) (b a k : ℕ) → ((i : ℕ) → a ≤ i → i < a + k → g i ≤ b) → sum_over (range a k) g ≤ k * b
sum_bound g b a zero s = zero-le
sum_bound g b a (suc k) s = omega (arith, s a (omega arith) (omega arith), sum_bound g b (suc a) k (λ i l m. s i (omega arith) (omega arith)))

least_from_more : (f : ℕ → ℤ) (x : ℤ) (a k : ℕ) → least_from x (map f (range a (suc k))) ≡ min_ℤ (least_from x (map f (range a k))) (f (a + k))
least_from_more f x a zero = ap (λ i. min_ℤ x (f i)) (sym (add-zero a))
least_from_more f x a (suc k) =
    let e : suc a + k ≡ a + suc k = omega arith in
    least_from_more f (min_ℤ x (f a)) (suc a) k ∙ ap (λ i. min_ℤ (least_from (min_ℤ x (f a)) (map f (range (suc a) k))) (f i)) e

least_more : (f : ℕ → ℤ) (k : ℕ) → least (map f (range 1 (suc (suc k)))) ≡ min_ℤ (least (map f (range 1 (suc k)))) (f (suc (suc k)))
least_more f k =
    let e : 2 + k ≡ suc (suc k) = omega arith in
    least_from_more f (f 1) 2 k ∙ ap (λ i. min_ℤ (least_from (f 1) (map f (range 2 k))) (f i)) e

-- ---- the edges and the slacks that arrays hold, and those of the net and the tree

sum_same : {f g : ℕ → ℕ} (a k : ℕ) → ((i : ℕ) → a ≤ i → i < a + k → f i ≡ g i) → sum_over (range a k) f ≡ sum_over (range a k) g
sum_same a zero s = refl
sum_same a (suc k) s = ap₂ ◌+◌ (s a (omega arith) (omega arith)) (sum_same (suc a) k (λ i p q. s i (omega arith) (omega arith)))

pub wire_is : (n : ℕ) (ps : List ℕ) (xs ys : List ℤ) → HoldsTree n ps xs ys → (h : Header) (rs : List ℤ) → edge_sum n ps xs ys ≡ wire_length (net_of h n xs ys rs) (tree_of n ps xs ys)
unfolding wire_length
wire_is n ps xs ys held h rs =
    let N : Net = net_of h n xs ys rs in
    let T : Tree = tree_of n ps xs ys in
    let e : 2 * n - 1 ≡ 2 * size N - 1 = omega (arith, size_is h n xs ys rs) in
    sum_same 1 (2 * n - 1) (λ i a b. sym (edge_length_is n ps xs ys held h rs i a (omega arith))) ∙ ap (λ j. sum_over (range 1 j) (edge_length N T)) e

pub worst_is : (N : Net) (T : Tree) (n : ℕ) (slacks : List ℤ) → size N ≡ n → ((s : ℕ) → 1 ≤ s → s ≤ n → slack_at slacks s ≡ slack N T s) → least_slack n slacks ≡ worst_slack N T
unfolding worst_slack
worst_is N T n slacks e each =
    ap least (table_cong (slack_at slacks) (slack N T) 1 n (λ s p q. each s p (omega arith))) ∙ ap (λ k. worst_over N T (range 1 k)) (sym e)

-- ---- measures are their two numbers

pub same_measures : (t u : Measures) → t.slack.0 ≡ u.slack.0 → t.wire.0 ≡ u.wire.0 → t ≡ u
same_measures t u d e = ap₂ made d e
  where
    made : ℤ → ℕ → Measures
    made z k = record { slack = record { 0 = z }; wire = record { 0 = k } }

-- ---- the vertices 1 to v - 1 are tallied: the worst slack of the sinks among them, and the wire

pub record Tallied (f : ℕ → ℤ) (g : ℕ → ℕ) (n v : ℕ) (worst : ℤ) (wire : ℕ) : Type 0 where
  pub begun : 2 ≤ v
  pub inside : v ≤ 2 * n
  pub worst_so_far : worst ≡ least (map f (range 1 (min (v - 1) n)))
  pub wire_so_far_lem : wire ≡ sum_over (range 1 (v - 1)) g

module _ (f : ℕ → ℤ) (g : ℕ → ℕ) (n : ℕ) where
  pub tally_begins : (worst : ℤ) (wire : ℕ) → 1 ≤ n → worst ≡ f 1 → wire ≡ g 1 → Tallied f g n 2 worst wire
  tally_begins worst wire l d e =
      let m : 1 ≡ min 1 n = omega arith in
      record {
        begun = omega arith;
        inside = omega arith;
        worst_so_far = d ∙ ap (λ k. least (map f (range 1 k))) m;
        wire_so_far_lem = omega arith;
      }

  module _ (v : ℕ) (worst : ℤ) (wire : ℕ) (t : Tallied f g n v worst wire) where
    pub tally_steps : (z : ℤ) (k : ℕ) → v < 2 * n → z ≡ cond (ltb n v) worst (min_ℤ worst (f v)) → k ≡ wire + g v → Tallied f g n (v + 1) z k
    tally_steps z k l d e = record {
      begun = omega (arith, t.begun);
      inside = omega arith;
      worst_so_far = d ∙ go (ltb n v) refl;
      wire_so_far_lem = sums;
    }
      where
        go : (b : Bool) → ltb n v ≡ b → cond b worst (min_ℤ worst (f v)) ≡ least (map f (range 1 (min (v + 1 - 1) n)))
        go true q =
            let m : min (v - 1) n ≡ min (v + 1 - 1) n = omega (arith, ltb-true n v q) in
            t.worst_so_far ∙ ap (λ j. least (map f (range 1 j))) m
        go false q =
            let j : ℕ = v - 2 in
            let m : min (v - 1) n ≡ suc j = omega (arith, ltb-false n v q, t.begun) in
            let o : suc (suc j) ≡ min (v + 1 - 1) n = omega (arith, ltb-false n v q, t.begun) in
            let p : v ≡ suc (suc j) = omega (arith, t.begun) in
            ap₂ min_ℤ (t.worst_so_far ∙ ap (λ i. least (map f (range 1 i))) m) (ap f p)
            ∙ sym (least_more f j)
            ∙ ap (λ i. least (map f (range 1 i))) o

        sums : k ≡ sum_over (range 1 (v + 1 - 1)) g
        sums =
            let p : suc (v - 1) ≡ v + 1 - 1 = omega (arith, t.begun) in
            let q : 1 + (v - 1) ≡ v = omega (arith, t.begun) in
            omega (arith, t.wire_so_far_lem, sum_more g 1 (v - 1), ap g q, ap (λ j. sum_over (range 1 j) g) p)

    pub tally_small : n ≤ sink_limit → ((i : ℕ) → 1 ≤ i → i < 2 * n → g i ≤ length_limit) → wire ≤ length_reach
    tally_small l s =
        omega (arith, t.wire_so_far_lem, t.begun, t.inside, sum_bound g length_limit 1 (v - 1) (λ i a b. s i a (omega (arith, t.begun, t.inside))))

    pub tally_ends : 1 ≤ n → 2 * n ≤ v → (worst ≡ least (map f (range 1 n))) × (wire ≡ sum_over (range 1 (2 * n - 1)) g)
    tally_ends l m =
        let p : min (v - 1) n ≡ n = omega arith in
        let q : v - 1 ≡ 2 * n - 1 = omega (arith, t.inside) in
        (t.worst_so_far ∙ ap (λ i. least (map f (range 1 i))) p, t.wire_so_far_lem ∙ ap (λ i. sum_over (range 1 i) g) q)
