-- Nets that compare alike have the same plan, its points moved by f: the same order, the same edge chosen at each insertion, and so the same parents, which settle alike.
-- Assumes nothing.
use Prim.Native.Nat.{ℕ, zero, suc, ◌*◌, ◌-◌, ◌≤◌}
use mathlib.Core.Path.{◌≡◌, refl, sym, ap, ap₂, ◌∙◌}
use mathlib.Core.Bool.{Bool, true, false, cond}
use mathlib.Core.List.{List, [], ◌∷◌, map}
use native.Mathlib.Omega.{arith}
use lib.ListN.{get_or, take, drop, replicate}
use lib.Dec.{ltb, leb}
use lib.IntN.{ℤ, pos, ◌-ℤ◌}
use lib.Signed.{lt_z}
use Rattle.quantities.specs.declared.point.Point.{Point}
use Rattle.quantities.specs.Delay.{delay}
use Rattle.quantities.specs.Distance.{distance}
use Rattle.quantities.specs.Median.{median_point}
use Rattle.quantities.proofs.Laws.Rising.{Rising, rising_lt}
use Rattle.tree.specs.Net.{Net, size, sink_numbers, branch_numbers, sink_at, required, own_slack}
use Rattle.tree.specs.Tree.{place}
use Rattle.tree.specs.Measures.{worst_over, worst_slack}
use Rattle.tree.specs.Planning.{earlier, sort, order, unsettled, split, lower_ends, worst_after, TieRule, far, nearer, tie_rule, ranks, best, best_of, chosen, insert_all, parents_after, plan_parents}
use Rattle.tree.specs.Settling.{children, settled, settled_tree, plan_by, plan}
use Rattle.formats.proofs.Laws.Lines.Elements.{All}
use Rattle.invariance.proofs.Laws.SinkLists.{IsSink, sinks_range, sinks_take, sinks_drop, sinks_sort, sort_same}
use Rattle.invariance.proofs.Laws.Similar.{same_ranks, same_nearer, distances, delays}
use Rattle.invariance.proofs.Laws.Alike.{Alike, map_tree, sink_places, places, worst_over_lem, same_worst}

-- ---- the best of a list, by worst slacks p and q with p = g q and by tests that agree

module _ {g : ℤ → ℤ} (R : Rising g) (p q : ℕ → ℤ) (e : (u : ℕ) → p u ≡ g (q u)) (a b : ℕ → ℕ → Bool) (t : (u v : ℕ) → a u v ≡ b u v) where
  best_same : (v : ℕ) (w z : ℤ) → w ≡ g z → (l : List ℕ) → best p a v w l ≡ best q b v z l
  best_same v w z h [] = refl
  best_same v w z h (u ∷ l) = λ i. elim (r i) [ true ↦ best_same u (p u) (q u) (e u) l i | false ↦ best_same v w z h l i ]
    where
      r : ranks (p u) w (a u v) ≡ ranks (q u) z (b u v)
      r = (λ i. ranks (e u i) (h i) (t u v i)) ∙ same_ranks R (q u) z (b u v)

  best_of_same : (l : List ℕ) → best_of p a l ≡ best_of q b l
  best_of_same [] = refl
  best_of_same (v ∷ l) = best_same v (p v) (q v) (e v) l

map-replicate : (f : Point → Point) (m : ℕ) (r : Point) → map f (replicate m r) ≡ replicate m (f r)
map-replicate f zero r = refl
map-replicate f (suc m) r = ap (λ l. f r ∷ l) (map-replicate f m r)

module _ {k : ℕ} {f : Point → Point} {g : ℤ → ℤ} {N M : Net} (A : Alike k f g N M) where
  -- ---- the order

  own_slacks_lem : (s : ℕ) → IsSink (size N) s → own_slack M s ≡ g (own_slack N s)
  own_slacks_lem s h =
      (λ i. A.arrivals s h i -ℤ pos (delay (A.wire i) (A.root i) (sink_places A s i)))
      ∙ ap (λ m. g (required N s) -ℤ pos m) (delays A.similar N.wire N.root (sink_at N s))
      ∙ sym (A.similar.less (required N s) (delay N.wire N.root (sink_at N s)))

  same_earlier : (u v : ℕ) → IsSink (size N) u → IsSink (size N) v → earlier M u v ≡ earlier N u v
  same_earlier u v h l =
      (λ i. cond (lt_z (own_slacks_lem u h i) (own_slacks_lem v l i)) true (cond (lt_z (own_slacks_lem v l i) (own_slacks_lem u h i)) false (ltb u v)))
      ∙ (λ i. cond (rising_lt A.similar.rising (own_slack N u) (own_slack N v) i) true (cond (rising_lt A.similar.rising (own_slack N v) (own_slack N u) i) false (ltb u v)))

  all_sinks : All (IsSink (size N)) (sink_numbers (size N))
  all_sinks = sinks_range (size N) 1 (size N) (omega arith) (omega arith)

  same_order : order M ≡ order N
  same_order = ap (λ n. sort (earlier M) (sink_numbers n)) A.n_alike ∙ sort_same (size N) (earlier M) (earlier N) same_earlier (sink_numbers (size N)) all_sinks

  order_sinks : All (IsSink (size N)) (order N)
  order_sinks = sinks_sort (size N) (earlier N) (sink_numbers (size N)) all_sinks

  -- ---- the choice of the edge

  same_unsettled : (P : List ℕ) → unsettled M P ≡ map_tree f (unsettled N P)
  same_unsettled P = λ i. record { parents = P; points = ((λ j. replicate (A.n_alike j - 1) (A.root j)) ∙ sym (map-replicate f (size N - 1) N.root)) i }

  same_after : (S : List ℕ) (j : ℕ) (P : List ℕ) (s v : ℕ) → All (IsSink (size N)) (s ∷ S) → worst_after M S j P s v ≡ g (worst_after N S j P s v)
  same_after S j P s v h =
      ap (λ n. worst_over M (unsettled M (split P n j s v)) (s ∷ S)) A.n_alike
      ∙ ap (λ T. worst_over M T (s ∷ S)) (same_unsettled (split P (size N) j s v))
      ∙ worst_over_lem A (unsettled N (split P (size N) j s v)) s S h

  same_far : (P : List ℕ) (s v : ℕ) → far M P s v ≡ far N P s v * k
  same_far P s v =
      ap₂ distance (ap (λ T. place M T v) (same_unsettled P) ∙ places A (unsettled N P) v) (sink_places A s)
      ∙ distances A.similar (place N (unsettled N P) v) (sink_at N s)

  same_tie : (P : List ℕ) (s u v : ℕ) → tie_rule M P s u v ≡ tie_rule N P s u v
  unfolding tie_rule
  same_tie P s u v = (λ i. nearer (same_far P s u i) (same_far P s v i) (ltb u v)) ∙ same_nearer k A.similar.positive (far N P s u) (far N P s v) (ltb u v)

  -- ---- any tie rule that says the same of both nets gives both the same parents

  module _ (tie : TieRule) (ties : (P : List ℕ) (s u v : ℕ) → tie M P s u v ≡ tie N P s u v) where
    same_chosen : (S : List ℕ) (j : ℕ) (P : List ℕ) (s : ℕ) → All (IsSink (size N)) (s ∷ S) → chosen tie M S j P s ≡ chosen tie N S j P s
    same_chosen S j P s h =
        ap (λ n. best_of (worst_after M S j P s) (tie M P s) (lower_ends n S j)) A.n_alike
        ∙ best_of_same A.similar.rising (worst_after M S j P s) (worst_after N S j P s) (λ v. same_after S j P s v h) (tie M P s) (tie N P s) (ties P s) (lower_ends (size N) S j)

    same_inserted : (todo S : List ℕ) (j : ℕ) (P : List ℕ) → All (IsSink (size N)) todo → All (IsSink (size N)) S → insert_all tie M todo S j P ≡ insert_all tie N todo S j P
    same_inserted [] S j P h l = refl
    same_inserted (s ∷ todo) S j P h l =
        ap (insert_all tie M todo (s ∷ S) (suc j)) (λ i. split P (A.n_alike i) j s (same_chosen S j P s (h.0, l) i))
        ∙ same_inserted todo (s ∷ S) (suc j) (split P (size N) j s (chosen tie N S j P s)) h.1 (h.0, l)

    parents_after_lem : (m : ℕ) → parents_after tie M m ≡ parents_after tie N m
    parents_after_lem m =
        (λ i. insert_all tie M (take m (drop 1 (same_order i))) (take 1 (same_order i)) 0 (replicate (2 * A.n_alike i - 1) 0))
        ∙ same_inserted (take m (drop 1 (order N))) (take 1 (order N)) 0 (replicate (2 * size N - 1) 0)
        (sinks_take (size N) m (drop 1 (order N)) (sinks_drop (size N) 1 (order N) order_sinks)) (sinks_take (size N) 1 (order N) order_sinks)

    same_parents : plan_parents tie M ≡ plan_parents tie N
    same_parents = ap (λ n. parents_after tie M (n - 1)) A.n_alike ∙ parents_after_lem (size N - 1)

  -- ---- settling

  same_settled : (P : List ℕ) (j v : ℕ) → settled M P j v ≡ f (settled N P j v)
  same_settled P zero v = A.root
  same_settled P (suc j) v = ap (λ n. at (leb v n)) A.n_alike ∙ go (leb v (size N)) (same_settled P j (get_or (children P v) 0 0)) (same_settled P j (get_or (children P v) 1 0))
    where
      at : Bool → Point
      at t = elim t [ true ↦ sink_at M v | false ↦ median_point M.root (settled M P j (get_or (children P v) 0 0)) (settled M P j (get_or (children P v) 1 0)) ]

      go : (t : Bool) → settled M P j (get_or (children P v) 0 0) ≡ f (settled N P j (get_or (children P v) 0 0)) → settled M P j (get_or (children P v) 1 0) ≡ f (settled N P j (get_or (children P v) 1 0))
          → at t ≡ f (elim t [ true ↦ sink_at N v | false ↦ median_point N.root (settled N P j (get_or (children P v) 0 0)) (settled N P j (get_or (children P v) 1 0)) ])
      go true p q = sink_places A v
      go false p q = (λ i. median_point (A.root i) (p i) (q i)) ∙ A.similar.medians N.root (settled N P j (get_or (children P v) 0 0)) (settled N P j (get_or (children P v) 1 0))

  settled_all : (P : List ℕ) (j : ℕ) (l : List ℕ) → map (settled M P j) l ≡ map f (map (settled N P j) l)
  settled_all P j [] = refl
  settled_all P j (v ∷ l) = ap₂ ◌∷◌ (same_settled P j v) (settled_all P j l)

  same_tree : (P : List ℕ) → settled_tree M P ≡ map_tree f (settled_tree N P)
  same_tree P = λ i. record { parents = P; points = (ap (λ n. map (settled M P (2 * n)) (branch_numbers n)) A.n_alike ∙ settled_all P (2 * size N) (branch_numbers (size N))) i }

  -- ---- the plan

  pub same_plan : plan M ≡ map_tree f (plan N)
  unfolding plan plan_by
  same_plan = ap (settled_tree M) (same_parents tie_rule same_tie) ∙ same_tree (plan_parents tie_rule N)

  pub plan_worst : 1 ≤ size N → worst_slack M (plan M) ≡ g (worst_slack N (plan N))
  plan_worst n1 = ap (worst_slack M) same_plan ∙ same_worst A (plan N) n1
