-- What is spent on the way to each vertex, parents first: along the order from the root down each step adds one edge to what is spent on the way to the parent. Assumes nothing.
use Prim.Native.Nat.{ℕ, zero, suc, ◌+◌, ◌*◌, ◌-◌, ◌≤◌, ◌<◌, zero-le}
use mathlib.Core.Path.{◌≡◌, refl, sym, ap, ap₂, ◌∙◌, subst}
use mathlib.Core.Logic.{◌≢◌, ◌⊎◌, inl, inr}
use mathlib.Core.Bool.{Bool, true, false}
use mathlib.Core.List.{List}
use native.Mathlib.Nat.{mul-one, mul-zero}
use native.Mathlib.Omega.{arith}
use borrow.Author.Tests.{lt-ltb, le-ltb}
use lib.ListN.{length, get_or, set}
use lib.Seq.{get_or-set_same, get_or-set_other}
use lib.Dec.{ltb}
use lib.IntN.{ℤ, pos, ◌+ℤ◌, ◌-ℤ◌}
use Rattle.quantities.specs.Delay.{delay}
use Rattle.quantities.specs.Inner.Linear.{up, whole, +is}
use Rattle.quantities.specs.Ranges.{Within}
use Rattle.tree.specs.declared.header.Header.{Header}
use Rattle.tree.specs.Lists.{sum_over}
use Rattle.tree.specs.Net.{Net, size, required}
use Rattle.tree.specs.Tree.{Tree, parent}
use Rattle.tree.specs.Measures.{path_up, path, edge_delay, path_delay, one_if, depth, slack}
use Rattle.tree.specs.Limits.{branch_limit}
use Rattle.tree.specs.Inner.DerivedLimits.{cost_limit, spend_limit}
use Rattle.tree.specs.Inner.Arrays.{net_of, tree_of, HoldsNet, HoldsTree, RootDown}
use Rattle.tree.specs.Inner.Measuring.{slack_at, CostsInRange, cost_above, spent_on}
use Rattle.tree.proofs.Laws.Lists.Sums.{equal?, sum_over-add, sum_over_scale}
use Rattle.tree.proofs.Laws.Arrays.NetAndTree.{parents_length, parents_at, size_is, required_at}
use Rattle.tree.proofs.Laws.Measures.VertexDelays.{sub-sub}
use Rattle.tree.proofs.Laws.Measures.InReach.{delay_limit_lem, wire_within}
use Rattle.tree.proofs.Laws.Measures.MeasuredArrays.{pos_up, parent_inside, near, ends}

-- ---- the sum of f along a path

module _ (p f : ℕ → ℕ) where
  path_step : (k v : ℕ) → 1 ≤ v → 1 ≤ k → sum_over (path_up p k v) f ≡ f v + sum_over (path_up p (k - 1) (p v)) f
  path_step zero v l g = absurd (omega arith)
  path_step (suc k) zero l g = absurd (omega arith)
  path_step (suc k) (suc v) l g =
      let e : k ≡ suc k - 1 = omega arith in
      ap (λ j. f (suc v) + sum_over (path_up p j (p (suc v))) f) e

  path_root : (k : ℕ) → sum_over (path_up p k 0) f ≡ 0
  path_root zero = refl
  path_root (suc k) = refl

-- the vertices of a path from v < m are at least 1 and below m, where every parent is below m
module _ (p : ℕ → ℕ) (m : ℕ) (inside : (v : ℕ) → 1 ≤ v → v < m → p v < m) where
  path_bound : (f : ℕ → ℕ) (b : ℕ) → ((v : ℕ) → 1 ≤ v → v < m → f v ≤ b) → (k v : ℕ) → v < m → sum_over (path_up p k v) f ≤ k * b
  path_bound f b s zero v l = zero-le
  path_bound f b s (suc k) zero l = zero-le
  path_bound f b s (suc k) (suc v) l = omega (arith, s (suc v) (omega arith) l, path_bound f b s k (p (suc v)) (inside (suc v) (omega arith) l))

  path_equal : (q f g : ℕ → ℕ) → ((v : ℕ) → 1 ≤ v → v < m → q v ≡ p v) → ((v : ℕ) → 1 ≤ v → v < m → g v ≡ f v)
      → (k v : ℕ) → v < m → sum_over (path_up q k v) g ≡ sum_over (path_up p k v) f
  path_equal q f g s t zero v l = refl
  path_equal q f g s t (suc k) zero l = refl
  path_equal q f g s t (suc k) (suc v) l =
      ap₂ ◌+◌ (t (suc v) (omega arith) l)
      (ap (λ u. sum_over (path_up q k u) g) (s (suc v) (omega arith) l) ∙ path_equal q f g s t k (p (suc v)) (inside (suc v) (omega arith) l))

-- ---- the cost of an edge and of a path

branch_cost_limit : (b : Bool) (c : ℕ) → c ≤ branch_limit → c * one_if b ≤ branch_limit
branch_cost_limit true c l = omega (arith, mul-one c)
branch_cost_limit false c l = omega (arith, mul-zero c)

-- c for a branch point, nothing for a sink
module _ (h : Header) (C : CostsInRange h) (n v : ℕ) (z : ℤ) where
  abbrev IsCost : Type 0
  IsCost = (z ≡ pos (up h.branch.0 * one_if (ltb n v))) × Within branch_limit z

  cost_within : z ≡ pos (up h.branch.0 * one_if (ltb n v)) → IsCost
  cost_within e = let b = branch_cost_limit (ltb n v) (up h.branch.0) C.2 in (e, omega (arith, whole))

  pub branch_point_cost : n < v → z ≡ h.branch.0 → IsCost
  branch_point_cost l e = cost_within (e ∙ pos_up h.branch.0 C.1 ∙ ap pos (sym (mul-one (up h.branch.0))) ∙ ap (λ b. pos (up h.branch.0 * one_if b)) (sym (lt-ltb n v l)))

  pub sink_cost : v ≤ n → z ≡ pos 0 → IsCost
  sink_cost l e = cost_within (e ∙ ap pos (sym (mul-zero (up h.branch.0))) ∙ ap (λ b. pos (up h.branch.0 * one_if b)) (sym (le-ltb n v l)))

pub add-add : (z : ℤ) (a b : ℕ) → z +ℤ pos a +ℤ pos b ≡ z +ℤ pos (a + b)
add-add z a b = omega (arith, whole, +is (z +ℤ pos a) (pos b), +is z (pos a), +is z (pos (a + b)))

pub costs_in_range : (h : Header) (n : ℕ) (xs ys rs : List ℤ) → HoldsNet h n xs ys rs → CostsInRange h
costs_in_range h n xs ys rs net = let R = net.in_range in (wire_within (net_of h n xs ys rs) R, R.branch.0, R.branch.1)

module _ (h : Header) (n : ℕ) (ps : List ℕ) (xs ys : List ℤ) (held : HoldsTree n ps xs ys) where
  cost_limit_lem : CostsInRange h → (v : ℕ) → 1 ≤ v → v < 2 * n → cost_above h n ps xs ys v ≤ cost_limit
  cost_limit_lem C v g l =
      let d = delay_limit_lem h.wire _ _ C.0 (near n ps xs ys held _ (parent_inside n ps xs ys held v g l)) (near n ps xs ys held v l) in
      omega (arith, branch_cost_limit (ltb n v) (up h.branch.0) C.2)

  spent_limit : CostsInRange h → (v : ℕ) → v < 2 * n → spent_on h n ps xs ys (2 * n - 1) v ≤ spend_limit
  spent_limit C v l =
      let b = path_bound (λ u. get_or ps u 0) (2 * n) (parent_inside n ps xs ys held) (cost_above h n ps xs ys) cost_limit (cost_limit_lem C) (2 * n - 1) v l in
      omega (arith, held.parents_in_lem.few)

  pub spent_fits : CostsInRange h → (v : ℕ) (z : ℤ) → v < 2 * n → z ≡ pos (spent_on h n ps xs ys (2 * n - 1) v) → Within spend_limit z
  spent_fits C v z l e = let b = spent_limit C v l in omega (arith, whole)

  module _ (rs : List ℤ) where
    abbrev N : Net
    N = net_of h n xs ys rs

    abbrev T : Tree
    T = tree_of n ps xs ys

    -- it is the delay of the path, and c for each branch point on it
    pub spent_is : (v : ℕ) → v < 2 * n → spent_on h n ps xs ys (2 * n - 1) v ≡ path_delay N T v + N.branch * depth N T v
    spent_is v l =
        sym (ap (λ k. sum_over (path_up (parent T) k v) cost) (parents_length n ps) ∙ path_equal (λ u. get_or ps u 0) (2 * n) (parent_inside n ps xs ys held) (parent T) (cost_above h n ps xs ys) cost (parents_at n ps) same (2 * n - 1) v l)
        ∙ sum_over-add (path T v) (edge_delay N T) (λ u. N.branch * one_if (ltb (size N) u))
        ∙ ap (λ z. path_delay N T v + z) (sum_over_scale (path T v) N.branch (λ u. one_if (ltb (size N) u)))
      where
        cost : ℕ → ℕ
        cost u = edge_delay N T u + N.branch * one_if (ltb (size N) u)

        same : (u : ℕ) → 1 ≤ u → u < 2 * n → cost u ≡ cost_above h n ps xs ys u
        same u g q = let e = ends n ps xs ys held h rs u g q in λ i. delay h.wire (e.0 i) (e.1 i) + up h.branch.0 * one_if (ltb (size_is h n xs ys rs i) u)

    -- a sink's slack is what is left of its required arrival
    pub slack_is : (s : ℕ) (z : ℤ) → 1 ≤ s → s ≤ n → z ≡ pos (spent_on h n ps xs ys (2 * n - 1) s) → slack_at rs s -ℤ z ≡ slack N T s
    slack_is s z g l e =
        ap₂ ◌-ℤ◌ (sym (required_at h n xs ys rs s g l)) (e ∙ ap pos (spent_is s (omega arith)))
        ∙ sym (sub-sub (required N s) (path_delay N T s) (N.branch * depth N T s))

-- ---- the loop: what is spent on the way to the first i of the order, and on any part of it that is long enough

pub record Spent (h : Header) (n : ℕ) (ps : List ℕ) (xs ys : List ℤ) (us : List ℕ) (i : ℕ) (spent : List ℤ) : Type 0 where
  pub root : get_or spent 0 (pos 0) ≡ pos 0
  pub done : (j : ℕ) → j < i → (k : ℕ) → j < k → get_or spent (get_or us j 0) (pos 0) ≡ pos (spent_on h n ps xs ys k (get_or us j 0))

module _ (h : Header) (n : ℕ) (ps : List ℕ) (xs ys : List ℤ) (us : List ℕ) where
  pub spent_begins : (spent : List ℤ) → 0 < length spent → Spent h n ps xs ys us 0 (set spent 0 (pos 0))
  spent_begins spent room = record { root = get_or-set_same spent 0 (pos 0) (pos 0) room; done = λ j l. absurd (omega arith) }

  module _ (R : RootDown n ps us) (i : ℕ) (spent : List ℤ) (S : Spent h n ps xs ys us i spent) (il : i < 2 * n - 1) where
    v : ℕ
    v = get_or us i 0

    -- on the way to the parent
    above : (k : ℕ) → i < k → get_or spent (get_or ps v 0) (pos 0) ≡ pos (spent_on h n ps xs ys (k - 1) (get_or ps v 0))
    unfolding v
    above k l = go (R.after i il)
      where
        go : (get_or ps (get_or us i 0) 0 ≡ 0) ⊎ ((j : ℕ) × (j < i) × (get_or us j 0 ≡ get_or ps (get_or us i 0) 0))
            → get_or spent (get_or ps (get_or us i 0) 0) (pos 0) ≡ pos (spent_on h n ps xs ys (k - 1) (get_or ps (get_or us i 0) 0))
        go (inl e) =
            ap (λ u. get_or spent u (pos 0)) e ∙ S.root ∙ ap pos (sym (path_root (λ u. get_or ps u 0) (cost_above h n ps xs ys) (k - 1)))
            ∙ ap (λ u. pos (spent_on h n ps xs ys (k - 1) u)) (sym e)
        go (inr r) = subst (λ u. get_or spent u (pos 0) ≡ pos (spent_on h n ps xs ys (k - 1) u)) r.2 (S.done r.0 r.1 (k - 1) (omega (arith, r.1)))

    pub spent_within : HoldsTree n ps xs ys → CostsInRange h → Within spend_limit (get_or spent (get_or ps (get_or us i 0) 0) (pos 0))
    unfolding v
    spent_within held C = go (R.after i il)
      where
        go : (get_or ps (get_or us i 0) 0 ≡ 0) ⊎ ((j : ℕ) × (j < i) × (get_or us j 0 ≡ get_or ps (get_or us i 0) 0)) → Within spend_limit (get_or spent (get_or ps (get_or us i 0) 0) (pos 0))
        go (inl e) = let z : get_or spent (get_or ps (get_or us i 0) 0) (pos 0) ≡ pos 0 = ap (λ u. get_or spent u (pos 0)) e ∙ S.root in omega (arith, whole)
        go (inr r) =
            subst (λ u. Within spend_limit (get_or spent u (pos 0))) r.2
            (spent_fits h n ps xs ys held C (get_or us r.0 0) _ (R.inside r.0 (omega (arith, r.1))).1 (S.done r.0 r.1 (2 * n - 1) (omega (arith, r.1))))

    pub spent_more : (z : ℤ) → 2 * n ≤ length spent → z ≡ get_or spent (get_or ps (get_or us i 0) 0) (pos 0) +ℤ pos (cost_above h n ps xs ys (get_or us i 0)) → Spent h n ps xs ys us (i + 1) (set spent (get_or us i 0) z)
    unfolding v
    spent_more z long e = record { root = get_or-set_other spent v 0 z (pos 0) (omega (arith, low)) ∙ S.root; done = λ j l k q. go j l k q (equal? (get_or us j 0) v) (equal? j i) }
      where
        low : 1 ≤ get_or us i 0
        low = (R.inside i il).0

        is : (k : ℕ) → i < k → z ≡ pos (spent_on h n ps xs ys k v)
        is k l = omega (arith, whole, e, above k l, +is (get_or spent (get_or ps v 0) (pos 0)) (pos (cost_above h n ps xs ys v)), path_step (λ u. get_or ps u 0) (cost_above h n ps xs ys) k v low (omega arith))

        here : get_or (set spent v z) v (pos 0) ≡ z
        here = get_or-set_same spent v z (pos 0) (omega (arith, (R.inside i il).1))

        go : (j : ℕ) → j < i + 1 → (k : ℕ) → j < k → (get_or us j 0 ≡ v) ⊎ (get_or us j 0 ≢ v) → (j ≡ i) ⊎ (j ≢ i) → get_or (set spent v z) (get_or us j 0) (pos 0) ≡ pos (spent_on h n ps xs ys k (get_or us j 0))
        go j l k q (inl a) (inl b) = subst (λ u. get_or (set spent v z) u (pos 0) ≡ pos (spent_on h n ps xs ys k u)) (sym a) (here ∙ is k (omega arith))
        go j l k q (inl a) (inr d) =
            let w = S.done j (omega arith) in
            subst (λ u. get_or (set spent v z) u (pos 0) ≡ pos (spent_on h n ps xs ys k u)) (sym a)
            (here ∙ is (i + 1) (omega arith) ∙ ap (λ u. pos (spent_on h n ps xs ys (i + 1) u)) (sym a) ∙ sym (w (i + 1) (omega arith)) ∙ w k q ∙ ap (λ u. pos (spent_on h n ps xs ys k u)) a)
        go j l k q (inr a) b = get_or-set_other spent v (get_or us j 0) z (pos 0) a ∙ S.done j (other b) k q
          where
            other : (j ≡ i) ⊎ (j ≢ i) → j < i
            other (inl c) = absurd (a (ap (λ m. get_or us m 0) c))
            other (inr c) = omega arith

  pub spent_all : RootDown n ps us → (i : ℕ) (spent : List ℤ) → 2 * n - 1 ≤ i → Spent h n ps xs ys us i spent → (v : ℕ) → 1 ≤ v → v < 2 * n → get_or spent v (pos 0) ≡ pos (spent_on h n ps xs ys (2 * n - 1) v)
  spent_all R i spent q S v g l =
      let r = R.all v (g, l) in
      subst (λ u. get_or spent u (pos 0) ≡ pos (spent_on h n ps xs ys (2 * n - 1) u)) r.2 (S.done r.0 (omega (arith, r.1)) (2 * n - 1) r.1)
