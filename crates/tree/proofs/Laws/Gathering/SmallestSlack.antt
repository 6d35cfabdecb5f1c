-- Request 3 of 02 as specs/SmallestSlack states it, for every net with c at least 1. Assumes nothing.
use Prim.Native.Nat.{ℕ, zero, suc, ◌+◌, ◌*◌, ◌≤◌, ◌<◌}
use mathlib.Core.Path.{◌≡◌, refl, sym, ap, ◌∙◌, subst}
use mathlib.Core.Bool.{true}
use mathlib.Core.Logic.{◌≢◌, ◌⊎◌, inl, inr}
use mathlib.Core.List.{List, map}
use native.Mathlib.Omega.{arith}
use lib.ListN.{get_or}
use borrow.Author.Tests.{eqb-true, eq-eqb}
use lib.Dec.{eqb}
use lib.IntN.{ℤ, pos}
use lib.Signed.{◌≤ℤ◌, ≤ℤ_refl}
use Rattle.quantities.specs.Inner.Linear.{whole}
use Rattle.tree.specs.Lists.{count, down, least}
use Rattle.tree.specs.Net.{Net, size}
use Rattle.tree.specs.Tree.{parent_of}
use Rattle.tree.specs.Planning.{lower_ends, tie_rule, parents_after}
use Rattle.tree.specs.SmallestSlack.{sinks_in, children_after, FromLeavesUp, Gathered, SmallestSlack}
use Rattle.tree.proofs.Laws.Trees.AnySplit.{meet}
use Rattle.tree.proofs.Laws.Gathering.GatheredNumbers.{gathered_if, gathered_least, gathered_sink, gathered_worst, gathered_score}
use Rattle.tree.proofs.Laws.Trees.Growing.{PartTree, Inner, hops_up}
use Rattle.tree.proofs.Laws.Planning.KeepsBest.{Least, ≤ℤ_trans}
use Rattle.tree.proofs.Laws.Planning.SinkEdge.{in_pos, meet_self}
use Rattle.tree.proofs.Laws.Planning.Steps.{inserted}
use Rattle.tree.proofs.Laws.Lists.Sums.{equal?, down_in, down_once, some_length, with_in, in_with}
use Rattle.tree.proofs.Laws.Planning.TreeAfter.{t, inserted_count, to_vertex, from_vertex, slack_is, worst_least, least_of}
use Rattle.tree.proofs.Laws.Trees.Under.{under_child, root_child, under_parent, under_sink, some_child}
use Rattle.tree.proofs.Laws.Trees.Walks.{hops, hops_le}
use Rattle.tree.proofs.Laws.Planning.WorstAfter.{LeastBelow, least_one, before}

-- ---- numbers w at the vertices of a tree whose sinks have the slacks f; `kids` has the children of each

module _ {N : ℕ} {S : List ℕ} {k F : ℕ} {p : ℕ → ℕ} (t : PartTree N S k F p) (f w : ℕ → ℤ) (kids : ℕ → List ℕ)
    (is_kid : (v u : ℕ) → count u (kids v) ≢ 0 → (count u S + count u (down N k) ≢ 0) × (p u ≡ v)) (has_kid : (v u : ℕ) → count u S + count u (down N k) ≢ 0 → p u ≡ v → count u (kids v) ≢ 0) where
  abbrev Vertex : ℕ → Type 0
  Vertex v = count v S + count v (down N k) ≢ 0

  -- y is at or under v
  abbrev Under : ℕ → ℕ → Type 0
  Under v y = (v ≡ 0) ⊎ (meet p F v y ≢ 0)

  -- what is under a child is under its parent, and what is under the root or a branch point is under a child of it
  up : (v c y : ℕ) → Vertex c → p c ≡ v → count y S ≢ 0 → meet p F c y ≢ 0 → Under v y
  up v c y m e q h = go (equal? v 0)
    where
      go : (v ≡ 0) ⊎ (v ≢ 0) → Under v y
      go (inl z) = inl z
      go (inr d) = inr (subst (λ (z : ℕ). meet p F z y ≢ 0) e (under_parent t c y (omega arith) (λ z. d (sym e ∙ z)) h))

  abbrev ChildOver : ℕ → ℕ → Type 0
  ChildOver v y = (c : ℕ) × Vertex c × (p c ≡ v) × (meet p F c y ≢ 0)

  at_root : (v y : ℕ) → v ≡ 0 → count y S ≢ 0 → ChildOver v y
  at_root v y z q = let r : ChildOver 0 y = root_child t F y (omega arith) (t.reach y (omega arith)) in (r.0, r.1, r.2 ∙ sym z, r.3)

  child_over : (v y : ℕ) → Inner N k v → count y S ≢ 0 → Under v y → ChildOver v y
  child_over v y i q (inl z) = at_root v y z q
  child_over v y (inl z) q (inr h) = at_root v y z q
  child_over v y (inr r) q (inr h) = go (under_child t v (omega (arith, r.0)) F y (omega arith) h)
    where
      go : (y ≡ v) ⊎ ChildOver v y → ChildOver v y
      go (inl e) = absurd (omega (arith, t.low y q, r.0))
      go (inr c) = c

  -- the least of f over the sinks at or under v
  record LeastAt (v : ℕ) (z : ℤ) : Type 0 where
    below : (y : ℕ) → count y S ≢ 0 → Under v y → z ≤ℤ f y
    at : ℕ
    in_list : count at S ≢ 0
    under : Under v at
    is : f at ≡ z

  -- ---- from the leaves up

  module _ (sinks : (s : ℕ) → count s S ≢ 0 → w s ≡ f s) (others : (v : ℕ) → Inner N k v → w v ≡ least (map w (kids v))) where
    abbrev Below : ℕ → Type 0
    Below v = LeastBelow p F v S f (w v)

    least_kid : (v : ℕ) → Inner N k v → Least (kids v) w (w v)
    least_kid v i =
        let c : (c : ℕ) × Vertex c × (p c ≡ v) = some_child t v i in
        subst (Least (kids v) w) (sym (others v i)) (least_of w (kids v) (some_length (kids v) c.0 (has_kid v c.0 c.1 c.2)))

    -- where the children have their least, their parent has
    from_kids : (v : ℕ) → Inner N k v → ((c : ℕ) → Vertex c → p c ≡ v → Below c) → LeastAt v (w v)
    from_kids v i ih = record {
      below = λ y q h. let c : ChildOver v y = child_over v y i q h in
          ≤ℤ_trans (w v) (w c.0) (f y) (l.below c.0 (has_kid v c.0 c.1 c.2)) ((ih c.0 c.1 c.2).below y q c.3);
      at = b.at;
      in_list = b.in_list;
      under = up v l.at b.at kid.0 kid.1 b.in_list b.under;
      is = b.is ∙ l.is;
    }
      where
        l : Least (kids v) w (w v)
        l = least_kid v i

        kid : Vertex l.at × (p l.at ≡ v)
        kid = is_kid v l.at l.in_list

        b : Below l.at
        b = ih l.at kid.0 kid.1

    -- from the deepest on: at most `left` more
    gather : (left v : ℕ) → Vertex v → F < left + hops p F v → Below v
    gather zero v m h = absurd (omega (arith, hops_le p F v))
    gather (suc left) v m h = go (λ c n q. gather left c n q) (equal? (count v S) 0)
      where
        go : ((c : ℕ) → Vertex c → F < left + hops p F c → Below c) → (count v S ≡ 0) ⊎ (count v S ≢ 0) → Below v
        go ih (inr d) = record {
          below = λ y q n. let e : y ≡ v = under_sink t v y d (omega arith) n in subst (λ (z : ℤ). z ≤ℤ f y) (ap f e ∙ sym (sinks v d)) (≤ℤ_refl (f y));
          at = v;
          in_list = d;
          under = meet_self p F v (in_pos t v m) (t.reach v m);
          is = sym (sinks v d);
        }
        go ih (inl e) = record { below = λ y q n. r.below y q (inr n); at = r.at; in_list = r.in_list; under = out r.under; is = r.is }
          where
            deeper : (c : ℕ) → Vertex c → p c ≡ v → F < left + hops p F c
            deeper c n q = omega (arith, hops_up p F c (in_pos t c n) (t.reach c n), ap (hops p F) q)

            r : LeastAt v (w v)
            r = from_kids v (inr (down_in N k v (omega arith))) (λ c n q. ih c n (deeper c n q))

            out : Under v r.at → meet p F v r.at ≢ 0
            out (inl z) = absurd (in_pos t v m z)
            out (inr n) = n

    all_gathered : (v : ℕ) → Vertex v → Below v
    all_gathered v m = gather (suc F) v m (omega arith)

    root_gathered : Least S f (w 0)
    root_gathered = record { below = λ y q. r.below y q (inl refl); at = r.at; in_list = r.in_list; is = r.is }
      where
        r : LeastAt 0 (w 0)
        r = from_kids 0 (inl refl) (λ c n q. all_gathered c n)

  -- ---- and back

  module _ (lowest : (v : ℕ) → Vertex v → LeastBelow p F v S f (w v)) where
    -- the number at a vertex is the least of its children's
    of_kids : (v : ℕ) → Inner N k v → LeastAt v (w v) → w v ≡ least (map w (kids v))
    of_kids v i l = least_one (kids v) w (w v) _ record { below = low; at = c.0; in_list = mine; is = same } (least_of w (kids v) (some_length (kids v) c.0 mine))
      where
        c : ChildOver v l.at
        c = child_over v l.at i l.in_list l.under

        mine : count c.0 (kids v) ≢ 0
        mine = has_kid v c.0 c.1 c.2

        low : (u : ℕ) → count u (kids v) ≢ 0 → w v ≤ℤ w u
        low u h =
            let m : Vertex u × (p u ≡ v) = is_kid v u h in
            let b : LeastBelow p F u S f (w u) = lowest u m.0 in
            subst (λ (z : ℤ). w v ≤ℤ z) b.is (l.below b.at b.in_list (up v u b.at m.0 m.1 b.in_list b.under))

        same : w c.0 ≡ w v
        same =
            let a : w c.0 ≤ℤ w v = subst (λ (z : ℤ). w c.0 ≤ℤ z) l.is ((lowest c.0 c.1).below l.at l.in_list c.3) in
            let b : w v ≤ℤ w c.0 = low c.0 mine in
            omega (arith, whole)

-- ---- the numbers that an array holds after k insertions

module _ (N : Net) (c1 : 1 ≤ N.branch) (k : ℕ) (kN : k < size N) (slacks : List ℤ) where
  abbrev q : ℕ → ℕ
  q = parent_of (parents_after tie_rule N k)

  abbrev number : ℕ → ℤ
  number v = get_or slacks v (pos 0)

  abbrev own : ℕ → ℤ
  own = before N k (parents_after tie_rule N k)

  abbrev Old : ℕ → Type 0
  Old v = count v (inserted N k) + count v (down (size N) k) ≢ 0

  T : PartTree (size N) (inserted N k) k (2 * k + 1) q
  T = t N c1 k kN

  is_kid : (v u : ℕ) → count u (children_after N k v) ≢ 0 → Old u × (q u ≡ v)
  is_kid v u h = let r : (count u (lower_ends (size N) (sinks_in N k) k) ≢ 0) × (eqb (q u) v ≡ true) = with_in (λ z. eqb (q z) v) (lower_ends (size N) (sinks_in N k) k) u h in (to_vertex N c1 k kN u r.0, eqb-true (q u) v r.1)

  has_kid : (v u : ℕ) → Old u → q u ≡ v → count u (children_after N k v) ≢ 0
  has_kid v u m e = in_with (λ z. eqb (q z) v) (lower_ends (size N) (sinks_in N k) k) u (from_vertex N c1 k kN u m) (eq-eqb (q u) v e)

  inner : (v : ℕ) → Inner (size N) k v → (v ≡ 0) ⊎ (count v (down (size N) k) ≢ 0)
  inner v (inl e) = inl e
  inner v (inr r) = inr (omega (arith, down_once (size N) k v r.0 r.1))

  leaves_gathered : FromLeavesUp N k slacks → Gathered N k slacks
  leaves_gathered L = gathered_if N c1 k kN slacks (all_gathered T own number (children_after N k) is_kid has_kid sinks others)
      (least_one (inserted N k) own (number 0) _ (root_gathered T own number (children_after N k) is_kid has_kid sinks others) (worst_least N c1 k kN))
    where
      sinks : (s : ℕ) → count s (inserted N k) ≢ 0 → number s ≡ own s
      sinks s m = L.sinks s (omega (arith, inserted_count N c1 k kN s)) ∙ slack_is N c1 k kN s m

      others : (v : ℕ) → Inner (size N) k v → number v ≡ least (map number (children_after N k v))
      others v i = L.others v (inner v i)

  gathered_leaves : Gathered N k slacks → FromLeavesUp N k slacks
  gathered_leaves G = record {
    sinks = λ s m. gathered_sink N c1 k kN G s (omega (arith, inserted_count N c1 k kN s));
    others = λ v i. each v i;
  }
    where
      lowest : (v : ℕ) → Old v → LeastBelow q (2 * k + 1) v (inserted N k) own (number v)
      lowest = gathered_least N c1 k kN G

      all : Least (inserted N k) own (number 0)
      all = subst (Least (inserted N k) own) (sym (gathered_worst N c1 k kN G)) (worst_least N c1 k kN)

      each : (v : ℕ) → (v ≡ 0) ⊎ (count v (down (size N) k) ≢ 0) → number v ≡ least (map number (children_after N k v))
      each v (inl e) = subst (λ (z : ℕ). number z ≡ least (map number (children_after N k z))) (sym e)
          (of_kids T own number (children_after N k) is_kid has_kid lowest 0 (inl refl) record { below = λ y m h. all.below y m; at = all.at; in_list = all.in_list; under = inl refl; is = all.is })
      each v (inr h) =
          let l : LeastBelow q (2 * k + 1) v (inserted N k) own (number v) = lowest v (omega arith) in
          of_kids T own number (children_after N k) is_kid has_kid lowest v (inr (down_in (size N) k v h))
          record { below = λ y m u. l.below y m (met v (in_pos T v (omega arith)) y u); at = l.at; in_list = l.in_list; under = inr l.under; is = l.is }
        where
          met : (v : ℕ) → v ≢ 0 → (y : ℕ) → (v ≡ 0) ⊎ (meet q (2 * k + 1) v y ≢ 0) → meet q (2 * k + 1) v y ≢ 0
          met v d y (inl e) = absurd (d e)
          met v d y (inr u) = u

pub smallest_slack : SmallestSlack
smallest_slack N c1 = record {
  gathered = λ j l slacks. (leaves_gathered N c1 j l slacks, gathered_leaves N c1 j l slacks);
  tried = λ j l slacks G v h. gathered_score N c1 j (omega arith) G l v (to_vertex N c1 j (omega arith) v h);
}
