-- The measures of specs/Measures by delays between vertices, as Laws/Kraft/Rivals has them, and in a tree whose branch points stand at the root. Assumes nothing.
use Prim.Native.Nat.{ℕ, zero, suc, ◌+◌, ◌*◌, ◌-◌, ◌≤◌, ◌<◌}
use mathlib.Core.Path.{◌≡◌, refl, sym, ap, ap₂, ◌∙◌}
use mathlib.Core.Bool.{Bool, true, false}
use mathlib.Core.Logic.{◌≢◌, inl, inr}
use mathlib.Core.List.{List, ◌++◌, map}
use native.Mathlib.Nat.{mul_comm}
use native.Mathlib.Omega.{arith}
use lib.ListN.{length, get_or, replicate, get_or-append, length-map}
use lib.Seq.{get_or-append-add}
use lib.Dec.{T, ltb, lt→ltb, ltb→lt}
use lib.IntN.{ℤ, pos, ◌-ℤ◌}
use Rattle.quantities.specs.Inner.Linear.{whole, -is}
use Rattle.quantities.specs.declared.point.Point.{Point}
use Rattle.quantities.specs.Delay.{delay}
use Rattle.tree.proofs.Laws.Trees.Walks.{ancestor_more, ancestor_add, hops, hops_stable, hops_add}
use Rattle.tree.proofs.Laws.Trees.Growing.{PartTree, Inner, parent_inner, inner_up}
use Rattle.quantities.proofs.Laws.Delay.{delay_self, delay_triangle}
use Rattle.tree.proofs.Laws.Kraft.Rivals.{Metric, way_delay, own_in, slack_in, straight_way}
use Rattle.tree.proofs.Laws.Kraft.GapSums.{depth_in}
use Rattle.tree.specs.Lists.{sum_over, count}
use Rattle.tree.specs.Measures.{path_up, path_delay, one_if, depth, slack}
use Rattle.tree.specs.Net.{Net, size, required, sink_at, own_slack}
use Rattle.tree.specs.Planning.{unsettled}
use Rattle.tree.specs.Tree.{ancestor, parent_of, Tree, place, parent}

-- ---- more fuel

-- a tree within the fuel F is one within any more
module _ {n : ℕ} {S : List ℕ} {k F : ℕ} {p : ℕ → ℕ} (t : PartTree n S k F p) (M : ℕ) (FM : F ≤ M) where
  pub tree_more : PartTree n S k M p
  tree_more = record {
    top = t.top;
    once = t.once;
    low = t.low;
    children_are = t.children_are;
    reach = λ v h. let e : M ≡ (M - F) + F = omega arith in rw e (ancestor_add p (M - F) F v t.top (t.reach v h));
  }

  pub dep_more : (v : ℕ) → count v S ≢ 0 → depth_in M p v ≡ depth_in F p v
  dep_more v h =
      let e : M ≡ (M - F) + F = omega arith in
      rw e (hops_add p (M - F) F (p v) t.top (ancestor_more p F v t.top (t.reach v (omega arith))))

-- ---- delays and depths along the path

-- the delay between two vertices
abbrev pub between : Net → Tree → ℕ → ℕ → ℕ
between N T u v = delay N.wire (place N T u) (place N T v)

pub between_metric : (N : Net) (T : Tree) → Metric (between N T)
between_metric N T = record {
  self = λ u. delay_self N.wire (place N T u);
  triangle = λ u v w. delay_triangle N.wire (place N T u) (place N T v) (place N T w);
}

way_is : (N : Net) (T : Tree) (p : ℕ → ℕ) (j v : ℕ) → p 0 ≡ 0 → sum_over (path_up p j v) (λ u. between N T (p u) u) ≡ way_delay (between N T) p j v
way_is N T p zero v z = refl
way_is N T p (suc j) zero z = sym (top (suc j))
  where
    top : (i : ℕ) → way_delay (between N T) p i 0 ≡ 0
    top zero = refl
    top (suc i) = rw z (ap₂ ◌+◌ (delay_self N.wire (place N T 0)) (top i))
way_is N T p (suc j) (suc v) z = ap (λ m. between N T (p (suc v)) (suc v) + m) (way_is N T p j (p (suc v)) z)

pub one_if_yes : (n u : ℕ) → n < u → one_if (ltb n u) ≡ 1
one_if_yes n u h = by (ltb n u) (lt→ltb n u h)
  where
    by : (t : Bool) → T t → one_if t ≡ 1
    by true _ = refl
    by false e = absurd e

pub one_if_no : (n u : ℕ) → u ≤ n → one_if (ltb n u) ≡ 0
one_if_no n u h = by (ltb n u) (λ t. ltb→lt n u t)
  where
    by : (t : Bool) → (T t → n < u) → one_if t ≡ 0
    by true e = absurd (omega (arith, e tt))
    by false e = refl

module _ {n : ℕ} {S : List ℕ} {k F : ℕ} {p : ℕ → ℕ} (t : PartTree n S k F p) where
  inner_depth : (j u : ℕ) → Inner n k u → sum_over (path_up p j u) (λ v. one_if (ltb n v)) ≡ hops p j u
  inner_depth zero u i = refl
  inner_depth (suc j) zero i = refl
  inner_depth (suc j) (suc u) (inl e) = absurd (omega arith)
  inner_depth (suc j) (suc u) (inr h) = omega (arith, one_if_yes n (suc u) h.0, inner_depth j (p (suc u)) (inner_up t (suc u) (inr h)))

  pub depth_is : (s : ℕ) → count s S ≢ 0 → sum_over (path_up p F s) (λ v. one_if (ltb n v)) ≡ depth_in F p s
  depth_is s m = go F s refl (t.low s m) (t.reach s (omega arith)) (parent_inner t s (omega arith))
    where
      go : (j v : ℕ) → F ≡ j → (1 ≤ v) × (v ≤ n) → ancestor p j v ≡ 0 → Inner n k (p v) → sum_over (path_up p j v) (λ v. one_if (ltb n v)) ≡ hops p j (p v)
      go zero v e l h i = absurd (omega arith)
      go (suc j) zero e l h i = absurd (omega arith)
      go (suc j) (suc v) e l h i = omega (arith, one_if_no n (suc v) l.1, inner_depth j (p (suc v)) i, hops_stable p j (p (suc v)) h)

pub sub-sub : (a : ℤ) (A B : ℕ) → a -ℤ pos A -ℤ pos B ≡ a -ℤ pos (A + B)
sub-sub a A B = omega (arith, whole, -is (a -ℤ pos A) (pos B), -is a (pos A), -is a (pos (A + B)))

-- the slack by delays between vertices
module _ (N : Net) (T : Tree) {S : List ℕ} {k : ℕ} (t : PartTree (size N) S k (length T.parents) (parent T)) (s : ℕ) (m : count s S ≢ 0) where
  pub slack_is : slack N T s ≡ slack_in (between N T) (required N) N.branch (length T.parents) (parent T) s
  slack_is =
      let F : ℕ = length T.parents in
      let e : path_delay N T s ≡ way_delay (between N T) (parent T) F s = way_is N T (parent T) F s refl in
      let d : N.branch * depth N T s ≡ depth_in F (parent T) s * N.branch = ap (λ z. N.branch * z) (depth_is t s m) ∙ mul_comm N.branch (depth_in F (parent T) s) in
      sub-sub (required N s) (path_delay N T s) (N.branch * depth N T s) ∙ ap (λ z. required N s -ℤ pos z) (ap₂ ◌+◌ e d)

-- ---- where the vertices stand

pub place_sink : (N : Net) (T : Tree) (s : ℕ) → 1 ≤ s → s ≤ size N → place N T s ≡ sink_at N s
place_sink N T zero h l = refl
place_sink N T (suc i) h l = get_or-append (map (λ s. s.point) N.sinks) T.points N.root i (rw length-map l)

get_d_same : (m i : ℕ) (r : Point) → get_or (replicate m r) i r ≡ r
get_d_same zero i r = refl
get_d_same (suc m) zero r = refl
get_d_same (suc m) (suc i) r = get_d_same m i r

pub place_unsettled : (N : Net) (P : List ℕ) (v : ℕ) → size N < v → place N (unsettled N P) v ≡ N.root
place_unsettled N P zero h = refl
place_unsettled N P (suc i) h =
    let l : List Point = map (λ s. s.point) N.sinks in
    let r : List Point = replicate (size N - 1) N.root in
    let e : i ≡ length l + (i - length l) = omega (arith, length-map N.sinks (λ s. s.point)) in
    ap (λ j. get_or (l ++ r) j N.root) e ∙ get_or-append-add l r (i - length l) N.root ∙ get_d_same (size N - 1) (i - length l) N.root

pub own_is : (N : Net) (T : Tree) (s : ℕ) → 1 ≤ s → s ≤ size N → own_in (between N T) (required N) s ≡ own_slack N s
own_is N T s h l = ap (λ q. required N s -ℤ pos (delay N.wire N.root q)) (place_sink N T s h l)

-- all branch points at the root: own slack less c for each branch point above
module _ (N : Net) (P : List ℕ) {S : List ℕ} {k : ℕ} (t : PartTree (size N) S k (length P) (parent_of P)) (s : ℕ) (m : count s S ≢ 0) where
  at_root : (v : ℕ) → Inner (size N) k v → place N (unsettled N P) v ≡ N.root
  at_root v (inl e) = ap (place N (unsettled N P)) e
  at_root v (inr h) = place_unsettled N P v h.0

  straight : way_delay (between N (unsettled N P)) (parent_of P) (length P) s ≡ between N (unsettled N P) 0 s
  straight = straight_way t (between N (unsettled N P)) (λ u v i. ap (λ q. delay N.wire q (place N (unsettled N P) v)) (at_root u i))
      (λ v i. ap (delay N.wire N.root) (at_root v i) ∙ delay_self N.wire N.root) s m

  pub unsettled_is : slack N (unsettled N P) s ≡ own_slack N s -ℤ pos (depth_in (length P) (parent_of P) s * N.branch)
  unsettled_is =
      slack_is N (unsettled N P) t s m
      ∙ ap (λ z. required N s -ℤ pos (z + depth_in (length P) (parent_of P) s * N.branch)) straight
      ∙ sym (sub-sub (required N s) (between N (unsettled N P) 0 s) (depth_in (length P) (parent_of P) s * N.branch))
      ∙ ap (λ z. z -ℤ pos (depth_in (length P) (parent_of P) s * N.branch)) (own_is N (unsettled N P) s (t.low s m).0 (t.low s m).1)
