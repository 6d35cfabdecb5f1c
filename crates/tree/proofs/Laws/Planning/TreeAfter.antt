-- The tree after k insertions: its vertices, slacks and paths, by the laws' terms and by the definitions'. Assumes nothing.
use Prim.Native.Nat.{ℕ, suc, ◌+◌, ◌*◌, ◌-◌, ◌≤◌, ◌<◌}
use mathlib.Core.Path.{◌≡◌, refl, sym, ap, ◌∙◌, subst}
use mathlib.Core.Bool.{Bool, true, cond}
use mathlib.Core.Logic.{◌≢◌, ◌⊎◌, inl, inr}
use mathlib.Core.List.{List, [], ◌∷◌, map}
use native.Mathlib.Omega.{arith}
use borrow.Author.Tests.{ltb-true, lt-ltb}
use lib.ListN.{length, get_or, take, drop, take-append-drop, length-take}
use lib.IntN.{ℤ}
use lib.Signed.{◌≤ℤ◌}
use Rattle.tree.specs.Lists.{count, down, least}
use Rattle.tree.specs.Net.{Net, size, own_slack}
use Rattle.tree.specs.Tree.{Tree, parent_of}
use Rattle.tree.specs.Measures.{path, slack, worst_over}
use Rattle.tree.specs.Planning.{order, unsettled, split, tie_rule, worst_after, parents_after}
use Rattle.tree.specs.SmallestSlack.{tree_after, sinks_in, next_sink, InTree, is_under, sinks_under, least_under, worst_with}
use Rattle.tree.specs.Inner.Insertion.{Inserted}
use Rattle.tree.proofs.Laws.Arrays.NetAndTree.{parents_at}
use Rattle.tree.proofs.Laws.Trees.AnySplit.{meet}
use Rattle.tree.proofs.Laws.Trees.Growing.{PartTree}
use Rattle.tree.proofs.Laws.Planning.KeepsBest.{Least, Grown}
use Rattle.tree.proofs.Laws.Planning.BeforeSettling.{least_law, count-append, order_length}
use Rattle.tree.proofs.Laws.Planning.Scores.{before_is}
use Rattle.tree.proofs.Laws.Planning.SinkEdge.{in_pos}
use Rattle.tree.proofs.Laws.Planning.Steps.{newest_count, inserted, inserted_in, grown_at}
use Rattle.tree.proofs.Laws.Lists.Sums.{delta_ne, equal?, down_in, some_length, with_in, in_with}
use Rattle.tree.proofs.Laws.Trees.Under.{path_meet, path_hops, meet_add, some_sink}
use Rattle.tree.proofs.Laws.Trees.Walks.{hops, hops_add}
use Rattle.tree.proofs.Laws.Planning.WorstAfter.{LeastBelow, least_one, before}

-- ---- the least of a list: nothing but its elements matters

pub least_of : (f : ℕ → ℤ) (l : List ℕ) → 0 < length l → Least l f (least (map f l))
least_of f [] h = absurd (omega arith)
least_of f (x ∷ l) h = least_law f x l

least_same : (f g : ℕ → ℤ) (l r : List ℕ) (w : ℤ) → ((v : ℕ) → count v r ≡ count v l) → ((v : ℕ) → count v r ≢ 0 → f v ≡ g v) → Least l f w → Least r g w
least_same f g l r w e h m = record {
  below = λ y q. subst (λ (z : ℤ). w ≤ℤ z) (h y q) (m.below y (omega (arith, e y)));
  at = m.at;
  in_list = omega (arith, e m.at, m.in_list);
  is = sym (h m.at (omega (arith, e m.at, m.in_list))) ∙ m.is;
}

-- ---- the sinks at or under a vertex

under_in : (T : Tree) (v : ℕ) (l : List ℕ) (y : ℕ) → count y (sinks_under T v l) ≢ 0 → (count y l ≢ 0) × (count v (0 ∷ path T y) ≢ 0)
under_in T v l y h = let r : (count y l ≢ 0) × (is_under T v y ≡ true) = with_in (is_under T v) l y h in (r.0, omega (arith, ltb-true 0 (count v (0 ∷ path T y)) r.1))

in_under : (T : Tree) (v : ℕ) (l : List ℕ) (y : ℕ) → count y l ≢ 0 → count v (0 ∷ path T y) ≢ 0 → count y (sinks_under T v l) ≢ 0
in_under T v l y h q = in_with (is_under T v) l y h (lt-ltb 0 (count v (0 ∷ path T y)) (omega arith))

-- all are under the root
all_under : (T : Tree) (l : List ℕ) → sinks_under T 0 l ≡ l
all_under T [] = refl
all_under T (s ∷ l) = ap (λ (b : Bool). cond b (s ∷ sinks_under T 0 l) (sinks_under T 0 l)) (lt-ltb 0 (count 0 (0 ∷ path T s)) (omega arith)) ∙ ap (λ (r : List ℕ). s ∷ r) (all_under T l)

-- ---- the tree

module _ (N : Net) (c1 : 0 < N.branch) (k : ℕ) (kN : k < size N) where
  abbrev P : List ℕ
  P = parents_after tie_rule N k

  abbrev S : List ℕ
  S = inserted N k

  abbrev Vertex : ℕ → Type 0
  Vertex v = count v S + count v (down (size N) k) ≢ 0

  pub g : Grown (size N) N.branch (own_slack N) (inserted N k) k (parents_after tie_rule N k)
  g = grown_at N tie_rule c1 k kN

  pub t : PartTree (size N) (inserted N k) k (2 * k + 1) (parent_of (parents_after tie_rule N k))
  t = g.tree

  pub inserted_count : (y : ℕ) → count y S ≡ count y (sinks_in N k)
  inserted_count y =
      omega (arith, newest_count (order N) y (suc k) (omega (arith, order_length N)), count-append y (take (suc k) (order N)) (drop (suc k) (order N)), ap (count y) (take-append-drop (suc k) (order N)))

  pub to_vertex : (v : ℕ) → InTree N k v → Vertex v
  to_vertex v h = omega (arith, count-append v (sinks_in N k) (down (size N) k), inserted_count v)

  pub from_vertex : (v : ℕ) → Vertex v → InTree N k v
  from_vertex v h = omega (arith, count-append v (sinks_in N k) (down (size N) k), inserted_count v)

  pub vertex_in : (v : ℕ) → Vertex v → (1 ≤ v) × (v < 2 * size N)
  vertex_in v h = go (equal? (count v S) 0)
    where
      go : (count v S ≡ 0) ⊎ (count v S ≢ 0) → (1 ≤ v) × (v < 2 * size N)
      go (inl e) = omega (arith, down_in (size N) k v (omega arith))
      go (inr d) = omega (arith, inserted_in N k kN v d)

  pub slack_is : (y : ℕ) → count y S ≢ 0 → slack N (tree_after N k) y ≡ before N k P y
  slack_is y m = before_is N c1 g y kN m

  -- the vertices on the path of a vertex are those that it meets
  on_path : (v y : ℕ) → v ≢ 0 → count y S + count y (down (size N) k) ≢ 0 → count v (path (tree_after N k) y) ≡ meet (parent_of P) (2 * k + 1) v y
  on_path v y v0 m =
      let e : length P ≡ (length P - (2 * k + 1)) + (2 * k + 1) = omega (arith, g.size) in
      path_meet (parent_of P) t.top v v0 (length P) y
      ∙ ap (λ (i : ℕ). meet (parent_of P) i v y) e
      ∙ meet_add (parent_of P) t.top v v0 (length P - (2 * k + 1)) (2 * k + 1) y (t.reach y m)

  pub path_length : (y : ℕ) → count y S + count y (down (size N) k) ≢ 0 → length (path (tree_after N k) y) ≡ hops (parent_of P) (2 * k + 1) y
  path_length y m =
      let e : length P ≡ (length P - (2 * k + 1)) + (2 * k + 1) = omega (arith, g.size) in
      path_hops (parent_of P) (length P) y ∙ ap (λ (i : ℕ). hops (parent_of P) i y) e ∙ hops_add (parent_of P) (length P - (2 * k + 1)) (2 * k + 1) y t.top (t.reach y m)

  pub worst_least : Least S (before N k P) (worst_over N (tree_after N k) (sinks_in N k))
  worst_least =
      least_same (slack N (tree_after N k)) (before N k P) (sinks_in N k) S _ inserted_count slack_is
      (least_of (slack N (tree_after N k)) (sinks_in N k) (omega (arith, length-take (suc k) (order N), order_length N)))

  -- the enlarged tree's worst slack, over the sinks as insertion has them, and over all that are in then
  module _ (kS : suc k < size N) (v : ℕ) where
    abbrev f : ℕ → ℤ
    f = slack N (unsettled N (split P (size N) k (next_sink N k) v))

    pub enlarged : worst_after N S k P (next_sink N k) v ≡ worst_with N k v
    enlarged = least_one (next_sink N k ∷ S) f _ _ (least_law f (next_sink N k) S)
        (least_same f f (next_sink N k ∷ sinks_in N k) (next_sink N k ∷ S) _ (λ y. omega (arith, inserted_count y)) (λ y m. refl) (least_law f (next_sink N k) (sinks_in N k)))

    pub enlarged_all : worst_with N k v ≡ worst_over N (unsettled N (split P (size N) k (next_sink N k) v)) (sinks_in N (suc k))
    enlarged_all =
        sym enlarged
        ∙ least_one (sinks_in N (suc k)) f _ _ (least_same f f (inserted N (suc k)) (sinks_in N (suc k)) _ (λ y. sym (inserted_next y)) (λ y m. refl) (least_law f (next_sink N k) S))
        (least_of f (sinks_in N (suc k)) (omega (arith, length-take (suc (suc k)) (order N), order_length N)))
      where
        inserted_next : (y : ℕ) → count y (inserted N (suc k)) ≡ count y (sinks_in N (suc k))
        inserted_next y =
            omega (arith, newest_count (order N) y (suc (suc k)) (omega (arith, order_length N)), count-append y (take (suc (suc k)) (order N)) (drop (suc (suc k)) (order N)), ap (count y) (take-append-drop (suc (suc k)) (order N)))

  -- ---- the least slack under a vertex, by the laws' terms and by the definitions'

  pub worst_root : least_under N k 0 ≡ worst_over N (tree_after N k) (sinks_in N k)
  worst_root = ap (worst_over N (tree_after N k)) (all_under (tree_after N k) (sinks_in N k))

  module _ (v : ℕ) (h : Vertex v) where
    -- the sinks at or under v are those that meet it on their way up
    meets : (y : ℕ) → count y (sinks_under (tree_after N k) v (sinks_in N k)) ≢ 0 → (count y S ≢ 0) × (meet (parent_of P) (2 * k + 1) v y ≢ 0)
    meets y q =
        let u : (count y (sinks_in N k) ≢ 0) × (count v (0 ∷ path (tree_after N k) y) ≢ 0) = under_in (tree_after N k) v (sinks_in N k) y q in
        let m : count y S ≢ 0 = omega (arith, inserted_count y, u.0) in
        (m, omega (arith, u.1, delta_ne v 0 (in_pos t v h), on_path v y (in_pos t v h) (omega arith)))

    met : (y : ℕ) → count y S ≢ 0 → meet (parent_of P) (2 * k + 1) v y ≢ 0 → count y (sinks_under (tree_after N k) v (sinks_in N k)) ≢ 0
    met y m q = in_under (tree_after N k) v (sinks_in N k) y (omega (arith, inserted_count y)) (omega (arith, on_path v y (in_pos t v h) (omega arith)))

    least_met : (y : ℕ) → count y S ≢ 0 → meet (parent_of P) (2 * k + 1) v y ≢ 0 → Least (sinks_under (tree_after N k) v (sinks_in N k)) (slack N (tree_after N k)) (least_under N k v)
    least_met y m q = least_of (slack N (tree_after N k)) (sinks_under (tree_after N k) v (sinks_in N k)) (some_length (sinks_under (tree_after N k) v (sinks_in N k)) y (met y m q))

    pub least_under_lem : (w : ℤ) → LeastBelow (parent_of P) (2 * k + 1) v S (before N k P) w → w ≡ least_under N k v
    least_under_lem w l =
        least_one (sinks_under (tree_after N k) v (sinks_in N k)) (slack N (tree_after N k)) w _
        record {
          below = λ y q. let u : (count y S ≢ 0) × (meet (parent_of P) (2 * k + 1) v y ≢ 0) = meets y q in subst (λ (x : ℤ). w ≤ℤ x) (sym (slack_is y u.0)) (l.below y u.0 u.1);
          at = l.at;
          in_list = met l.at l.in_list l.under;
          is = slack_is l.at l.in_list ∙ l.is;
        }
        (least_met l.at l.in_list l.under)

    -- some sink is under v
    pub under_least : LeastBelow (parent_of P) (2 * k + 1) v S (before N k P) (least_under N k v)
    under_least =
        let y : (y : ℕ) × (count y S ≢ 0) × (meet (parent_of P) (2 * k + 1) v y ≢ 0) = some_sink t v h in
        let l : Least (sinks_under (tree_after N k) v (sinks_in N k)) (slack N (tree_after N k)) (least_under N k v) = least_met y.0 y.1 y.2 in
        let u : (count l.at S ≢ 0) × (meet (parent_of P) (2 * k + 1) v l.at ≢ 0) = meets l.at l.in_list in
        record {
          below = λ z m q. subst (λ (x : ℤ). least_under N k v ≤ℤ x) (slack_is z m) (l.below z (met z m q));
          at = l.at;
          in_list = u.0;
          under = u.1;
          is = sym (slack_is l.at u.0) ∙ l.is;
        }

  module _ {ps us : List ℕ} (I : Inserted N k ps us) where
    -- the parents that the array holds
    pub parent_is : (v : ℕ) → Vertex v → parent_of P v ≡ get_or ps v 0
    parent_is v h = ap (λ (Q : List ℕ). parent_of Q v) (sym I.parents_are) ∙ parents_at (size N) ps v (vertex_in v h).0 (vertex_in v h).1
