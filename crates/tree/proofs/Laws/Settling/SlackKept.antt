-- Settling changes no slack: each branch point stands on a shortest way from the root to each of its children. For any legal tree. Assumes nothing.
use Prim.Native.Nat.{ℕ, zero, suc, ◌+◌, ◌*◌, ◌-◌, ◌≤◌, ◌<◌}
use mathlib.Core.Path.{◌≡◌, refl, sym, ap, ap₂, ◌∙◌, subst}
use mathlib.Core.Bool.{Bool, true, false, cond}
use mathlib.Core.Logic.{◌≢◌, ◌⊎◌, inl, inr}
use mathlib.Core.List.{List, [], ◌∷◌, ◌++◌, map}
use native.Mathlib.Nat.{add_comm, zero-mul}
use native.Mathlib.Numerals.{add-one}
use native.Mathlib.Omega.{arith}
use native.Mathlib.Decide.{dec_le}
use lib.ListN.{length, get_or, length-map}
use lib.Seq.{get_or-append-add}
use lib.Dec.{T, eqb, leb, eqb→eq, eqb_refl, leb→le, le→leb}
use lib.IntN.{pos, ◌-ℤ◌}
use Rattle.quantities.specs.declared.point.Point.{Point}
use Rattle.quantities.specs.Delay.{delay}
use Rattle.quantities.specs.Median.{median_point}
use Rattle.tree.specs.Lists.{sum_over, delta, count, down, range}
use Rattle.tree.specs.Net.{Net, size, required, sink_at, own_slack}
use Rattle.tree.specs.Tree.{Tree, parent_of, ancestor, Legal, LegalTree, place}
use Rattle.tree.specs.Measures.{slack}
use Rattle.tree.specs.Planning.{unsettled}
use Rattle.tree.specs.Settling.{children_in, children, settled, settled_tree}
use Rattle.tree.proofs.Laws.Lists.Sums.{equal?, delta_self, delta_ne, down_once, down_in, sum_places}
use Rattle.tree.proofs.Laws.Trees.Walks.{hops, hops_step, hops_le}
use Rattle.tree.proofs.Laws.Trees.StepsToRoot.{legal_reach}
use Rattle.tree.proofs.Laws.Trees.Growing.{PartTree}
use Rattle.tree.proofs.Laws.Kraft.GapSums.{depth_in}
use Rattle.tree.proofs.Laws.Trees.LegalTrees.{legal_tree, somewhere, sum_down}
use Rattle.tree.proofs.Laws.Lists.Tables.{table_length, table_at}
use Rattle.quantities.proofs.Laws.Delay.{delay_self, delay_through_median, delay_through_median₂}
use Rattle.tree.proofs.Laws.Kraft.Rivals.{way_delay}
use Rattle.tree.proofs.Laws.Measures.VertexDelays.{between, own_is, slack_is, unsettled_is, place_sink, sub-sub}
use Rattle.tree.proofs.Laws.Planning.BeforeSettling.{sum_over_range}

-- ---- the children

same_eqb : (b u : ℕ) → cond (eqb u b) (u ≡ b) (u ≢ b)
same_eqb b u = by (eqb u b) (λ t. eqb→eq u b t) (λ e. subst (λ z. T (eqb z b)) (sym e) (eqb_refl b))
  where
    by : (t : Bool) → (T t → u ≡ b) → (u ≡ b → T t) → cond t (u ≡ b) (u ≢ b)
    by true f g = f tt
    by false f g = g

module _ (p : ℕ → ℕ) (b : ℕ) where
  -- as many as are counted
  pub children_count : (l : List ℕ) → length (children_in p b l) ≡ sum_over l (λ x. delta b (p x))
  children_count [] = refl
  children_count (v ∷ l) = go (eqb (p v) b) (same_eqb b (p v)) (children_count l)
    where
      go : (t : Bool) → cond t (p v ≡ b) (p v ≢ b) → length (children_in p b l) ≡ sum_over l (λ x. delta b (p x))
          → length {A = ℕ} (cond t (v ∷ children_in p b l) (children_in p b l)) ≡ delta b (p v) + sum_over l (λ x. delta b (p x))
      go true e ih = omega (arith, ap (delta b) e, delta_self b)
      go false e ih = omega (arith, delta_ne b (p v) (λ q. e (sym q)))

  -- each is a child, and of the list
  pub children_are : (l : List ℕ) (i : ℕ) → i < length (children_in p b l) → (p (get_or (children_in p b l) i 0) ≡ b) × (count (get_or (children_in p b l) i 0) l ≢ 0)
  children_are [] i h = absurd (omega arith)
  children_are (v ∷ l) i h = go (eqb (p v) b) (same_eqb b (p v)) i h (children_are l)
    where
      go : (t : Bool) → cond t (p v ≡ b) (p v ≢ b) → (i : ℕ) → i < length {A = ℕ} (cond t (v ∷ children_in p b l) (children_in p b l))
          → ((i : ℕ) → i < length (children_in p b l) → (p (get_or (children_in p b l) i 0) ≡ b) × (count (get_or (children_in p b l) i 0) l ≢ 0))
          → (p (get_or (cond t (v ∷ children_in p b l) (children_in p b l)) i 0) ≡ b) × (count (get_or (cond t (v ∷ children_in p b l) (children_in p b l)) i 0) (v ∷ l) ≢ 0)
      go true e zero h ih = (e, omega (arith, delta_self v))
      go true e (suc j) h ih = let r : (p (get_or (children_in p b l) j 0) ≡ b) × (count (get_or (children_in p b l) j 0) l ≢ 0) = ih j (omega arith) in (r.0, omega (arith, r.1))
      go false e j h ih = let r : (p (get_or (children_in p b l) j 0) ≡ b) × (count (get_or (children_in p b l) j 0) l ≢ 0) = ih j h in (r.0, omega (arith, r.1))

  -- each as often as it stands in the list, and what is no child not at all
  pub times_child : (l : List ℕ) (x : ℕ) → count x (children_in p b l) ≡ count x l * delta b (p x)
  times_child [] x = sym (zero-mul (delta b (p x)))
  times_child (v ∷ l) x = go (eqb (p v) b) (same_eqb b (p v)) (equal? x v) (times_child l x)
    where
      go : (t : Bool) → cond t (p v ≡ b) (p v ≢ b) → (x ≡ v) ⊎ (x ≢ v) → count x (children_in p b l) ≡ count x l * delta b (p x)
          → count x (cond t (v ∷ children_in p b l) (children_in p b l)) ≡ (delta x v + count x l) * delta b (p x)
      go true h (inl q) ih = let d : delta b (p x) ≡ 1 = ap (delta b) (ap p q ∙ h) ∙ delta_self b in rw d (omega (arith, rw d at ih))
      go true h (inr q) ih = rw (delta_ne x v q) (omega arith)
      go false h (inl q) ih = let d : delta b (p x) ≡ 0 = delta_ne b (p x) (λ e. h (ap p (sym q) ∙ sym e)) in rw d (omega (arith, rw d at ih))
      go false h (inr q) ih = rw (delta_ne x v q) (omega arith)

  -- and no child is left out
  pub children_all : (l : List ℕ) (x : ℕ) → count x l ≢ 0 → p x ≡ b → count x (children_in p b l) ≢ 0
  children_all l x m e = omega (arith, times_child l x, ap (λ z. count x l * z) (ap (delta b) e ∙ delta_self b))

pub of_two : (l : List ℕ) (x : ℕ) → length l ≡ 2 → count x l ≢ 0 → (x ≡ get_or l 0 0) ⊎ (x ≡ get_or l 1 0)
of_two [] x e m = absurd (omega arith)
of_two (a ∷ []) x e m = absurd (omega arith)
of_two (a ∷ (b ∷ [])) x e m = go (equal? x a) (equal? x b)
  where
    go : (x ≡ a) ⊎ (x ≢ a) → (x ≡ b) ⊎ (x ≢ b) → (x ≡ a) ⊎ (x ≡ b)
    go (inl q) d = inl q
    go (inr q) (inl r) = inr r
    go (inr q) (inr r) = absurd (omega (arith, delta_ne x a q, delta_ne x b r))
of_two (a ∷ (b ∷ (c ∷ l))) x e m = absurd (omega arith)

pub place_node : (N : Net) (Q : Tree) (j : ℕ) → place N Q (suc (size N + j)) ≡ get_or Q.points j N.root
place_node N Q j =
    ap (λ m. get_or (map (λ s. s.point) N.sinks ++ Q.points) (m + j) N.root) (sym (length-map N.sinks (λ s. s.point)))
    ∙ get_or-append-add (map (λ s. s.point) N.sinks) Q.points j N.root

-- ---- a legal tree

pub range_count : (n x : ℕ) → count x (range 1 n) ≡ count x (down 0 n)
range_count n x = sum_over_range 1 n (delta x) ∙ sum_down 0 n (delta x)

-- settling puts each branch point somewhere
pub settled_legal : (N : Net) (P : List ℕ) → Legal (size N) P → LegalTree N (settled_tree N P)
settled_legal N P L = record { shape = L; placed = table_length (settled N P (2 * size N)) (suc (size N)) (size N - 1) }

pub settled_sink : (N : Net) (P : List ℕ) (k v : ℕ) → v ≤ size N → settled N P (suc k) v ≡ sink_at N v
settled_sink N P k v h = go (leb v (size N)) (le→leb v (size N) h)
  where
    go : (t : Bool) → T t → ◌≡◌ {A = Point} (elim t [ true ↦ sink_at N v | false ↦ median_point N.root (settled N P k (get_or (children P v) 0 0)) (settled N P k (get_or (children P v) 1 0)) ]) (sink_at N v)
    go true e = refl
    go false e = absurd e

pub settled_branch : (N : Net) (P : List ℕ) (k v : ℕ) → size N < v
    → settled N P (suc k) v ≡ median_point N.root (settled N P k (get_or (children P v) 0 0)) (settled N P k (get_or (children P v) 1 0))
settled_branch N P k v h = go (leb v (size N)) (λ t. leb→le v (size N) t)
  where
    m : Point
    m = median_point N.root (settled N P k (get_or (children P v) 0 0)) (settled N P k (get_or (children P v) 1 0))

    go : (t : Bool) → (T t → v ≤ size N) → ◌≡◌ {A = Point} (elim t [ true ↦ sink_at N v | false ↦ median_point N.root (settled N P k (get_or (children P v) 0 0)) (settled N P k (get_or (children P v) 1 0)) ]) m
    go true e = absurd (omega (arith, e tt))
    go false e = refl

pub children_length : (P : List ℕ) (b : ℕ) → length (children P b) ≡ count b P
children_length P b =
    children_count (parent_of P) b (range 1 (length P)) ∙ sum_over_range 1 (length P) (λ x. delta b (parent_of P x))
    ∙ sum_places 1 P (delta b) (λ x. delta b (parent_of P x)) (λ i q. rw (add_comm 1 i, add-one))

module _ (n : ℕ) (P : List ℕ) (L : Legal n P) where
  two : (b : ℕ) → n < b → b < 2 * n → length (children P b) ≡ 2
  two b h l = children_length P b ∙ L.branch b h l

  -- the children of a branch point: their parent, their numbers
  pub child_of : (b i : ℕ) → n < b → b < 2 * n → i < 2 → (parent_of P (get_or (children P b) i 0) ≡ b) × (1 ≤ get_or (children P b) i 0) × (get_or (children P b) i 0 < 2 * n)
  child_of b i h l q =
      let c : ℕ = get_or (children P b) i 0 in
      let r : (parent_of P c ≡ b) × (count c (range 1 (length P)) ≢ 0) = children_are (parent_of P) b (range 1 (length P)) i (omega (arith, two b h l)) in
      let d : (0 < c) × (c ≤ 0 + length P) = down_in 0 (length P) c (omega (arith, r.1, range_count (length P) c)) in
      (r.0, omega arith, omega (arith, L.size))

module _ (N : Net) (P : List ℕ) (L : Legal (size N) P) where
  pub child : (b i : ℕ) → size N < b → b < 2 * size N → i < 2 → (parent_of P (get_or (children P b) i 0) ≡ b) × (1 ≤ get_or (children P b) i 0) × (get_or (children P b) i 0 < 2 * size N)
  child = child_of (size N) P L

  pub hop : ℕ → ℕ
  hop v = hops (parent_of P) (2 * size N - 1) v

  pub hop_child : (b v : ℕ) → 1 ≤ v → v < 2 * size N → parent_of P v ≡ b → hop v ≡ suc (hop b)
  unfolding hop
  hop_child b zero h l e = absurd (omega arith)
  hop_child b (suc v) h l e = hops_step (parent_of P) (2 * size N - 1) v (legal_reach (size N) P L (suc v) l) ∙ ap (λ z. suc (hops (parent_of P) (2 * size N - 1) z)) e

  -- fuel enough is enough
  pub stable : (k v : ℕ) → 1 ≤ v → v < 2 * size N → 2 * size N ≤ k + hop v → settled N P k v ≡ settled N P (suc k) v
  unfolding hop
  stable zero v h l f = absurd (omega (arith, hops_le (parent_of P) (2 * size N - 1) v))
  stable (suc k) v h l f = go (dec_le v (size N)) (λ c h l f. stable k c h l f)
    where
      go : Dec (v ≤ size N) → ((c : ℕ) → 1 ≤ c → c < 2 * size N → 2 * size N ≤ k + hop c → settled N P k c ≡ settled N P (suc k) c)
          → settled N P (suc k) v ≡ settled N P (suc (suc k)) v
      go (yes q) ih = settled_sink N P k v q ∙ sym (settled_sink N P (suc k) v q)
      go (no q) ih =
          let b : size N < v = omega arith in
          let d₀ : (parent_of P (get_or (children P v) 0 0) ≡ v) × (1 ≤ get_or (children P v) 0 0) × (get_or (children P v) 0 0 < 2 * size N) = child v 0 b l (omega arith) in
          let d₁ : (parent_of P (get_or (children P v) 1 0) ≡ v) × (1 ≤ get_or (children P v) 1 0) × (get_or (children P v) 1 0 < 2 * size N) = child v 1 b l (omega arith) in
          let e₀ = ih (get_or (children P v) 0 0) d₀.1 d₀.2 (omega (arith, hop_child v _ d₀.1 d₀.2 d₀.0)) in
          let e₁ = ih (get_or (children P v) 1 0) d₁.1 d₁.2 (omega (arith, hop_child v _ d₁.1 d₁.2 d₁.0)) in
          settled_branch N P k v b ∙ ap₂ (median_point N.root) e₀ e₁ ∙ sym (settled_branch N P (suc k) v b)

  -- where a vertex stands in the settled tree
  pub at_settled : (v : ℕ) → 1 ≤ v → v < 2 * size N → place N (settled_tree N P) v ≡ settled N P (2 * size N) v
  at_settled v h l = go (dec_le v (size N))
    where
      go : Dec (v ≤ size N) → place N (settled_tree N P) v ≡ settled N P (2 * size N) v
      go (yes q) = place_sink N (settled_tree N P) v h q ∙ (let e : 2 * size N ≡ suc (2 * size N - 1) = omega arith in rw e (sym (settled_sink N P (2 * size N - 1) v q)))
      go (no q) =
          let j : ℕ = v - suc (size N) in
          let e : v ≡ suc (size N + j) = omega arith in
          let e' : v ≡ suc (size N) + j = omega arith in
          ap (place N (settled_tree N P)) e ∙ place_node N (settled_tree N P) j
          ∙ table_at (settled N P (2 * size N)) N.root (suc (size N)) (size N - 1) j (omega arith) ∙ ap (settled N P (2 * size N)) (sym e')

  -- each branch point is on a shortest way from the root to each of its children
  straight : (v : ℕ) → v < 2 * size N → between N (settled_tree N P) 0 (parent_of P v) + between N (settled_tree N P) (parent_of P v) v ≡ between N (settled_tree N P) 0 v
  straight zero l = omega (arith, delay_self N.wire N.root)
  straight (suc i) l = go (parent_of P (suc i)) refl (dec_le (parent_of P (suc i)) (size N))
    where
      v : ℕ
      v = suc i

      M : ℕ
      M = 2 * size N - 1

      T : Tree
      T = settled_tree N P

      inside : parent_of P (suc i) < 2 * size N
      inside = L.inside i (omega (arith, L.size))

      no_sink_lem : (u : ℕ) → parent_of P (suc i) ≡ suc u → suc u ≤ size N → ⊥
      no_sink_lem u e q = omega (arith, L.sink (suc u) (omega arith) q, rw e at (somewhere P i (omega (arith, L.size))))

      go : (u : ℕ) → parent_of P (suc i) ≡ u → Dec (u ≤ size N) → between N T 0 u + between N T u (suc i) ≡ between N T 0 (suc i)
      go zero e d = omega (arith, delay_self N.wire N.root)
      go (suc u) e (yes q) = absurd (no_sink_lem u e q)
      go (suc u) e (no q) = which (of_two (children P b) v (two (size N) P L b bN b2) (children_all (parent_of P) b (range 1 (length P)) v mem e))
        where
          b : ℕ
          b = suc u

          bN : size N < b
          bN = omega arith

          b2 : b < 2 * size N
          b2 = omega (arith, inside, e)

          mem : count v (range 1 (length P)) ≢ 0
          mem = omega (arith, range_count (length P) v, down_once 0 (length P) v (omega arith) (omega (arith, L.size)))

          c₀ : ℕ
          c₀ = get_or (children P b) 0 0

          c₁ : ℕ
          c₁ = get_or (children P b) 1 0

          suc_M : 2 * size N ≡ suc M
          suc_M = omega arith

          middle : Point
          middle = median_point N.root (settled N P M c₀) (settled N P M c₁)

          at_b : place N T b ≡ middle
          at_b = at_settled b (omega arith) b2 ∙ ap (λ z. settled N P z b) suc_M ∙ settled_branch N P M b bN

          at_c : (c : ℕ) → v ≡ c → settled N P M c ≡ place N T v
          at_c c q = ap (settled N P M) (sym q) ∙ stable M v (omega arith) l (omega (arith, hop_child b v (omega arith) l e)) ∙ ap (λ z. settled N P z v) (sym suc_M) ∙ sym (at_settled v (omega arith) l)

          through : (c : ℕ) → v ≡ c → delay N.wire N.root middle + delay N.wire middle (settled N P M c) ≡ delay N.wire N.root (settled N P M c) → between N T 0 b + between N T b v ≡ between N T 0 v
          through c q h = subst (λ m. delay N.wire N.root m + delay N.wire m (place N T v) ≡ delay N.wire N.root (place N T v)) (sym at_b)
              (subst (λ m. delay N.wire N.root middle + delay N.wire middle m ≡ delay N.wire N.root m) (at_c c q) h)

          which : (v ≡ c₀) ⊎ (v ≡ c₁) → between N T 0 b + between N T b v ≡ between N T 0 v
          which (inl q) = through c₀ q (delay_through_median N.wire N.root (settled N P M c₀) (settled N P M c₁))
          which (inr q) = through c₁ q (delay_through_median₂ N.wire N.root (settled N P M c₀) (settled N P M c₁))

  -- so each way has the delay of the straight wire
  path_straight : (j v : ℕ) → v < 2 * size N → ancestor (parent_of P) j v ≡ 0 → way_delay (between N (settled_tree N P)) (parent_of P) j v ≡ between N (settled_tree N P) 0 v
  path_straight zero v l h = sym (ap (between N (settled_tree N P) 0) h ∙ delay_self N.wire N.root)
  path_straight (suc j) v l h = omega (arith, path_straight j (parent_of P v) (below v l) h, straight v l)
    where
      below : (v : ℕ) → v < 2 * size N → parent_of P v < 2 * size N
      below zero l = l
      below (suc i) l = L.inside i (omega (arith, L.size))

  -- "No sink's slack changes"
  pub settled_is : (s : ℕ) → 1 ≤ s → s ≤ size N → slack N (settled_tree N P) s ≡ own_slack N s -ℤ pos (depth_in (length P) (parent_of P) s * N.branch)
  settled_is s h l =
      slack_is N (settled_tree N P) tree s mem
      ∙ ap (λ z. required N s -ℤ pos (z + depth_in (length P) (parent_of P) s * N.branch)) (path_straight (length P) s (omega arith) reach)
      ∙ sym (sub-sub (required N s) (between N (settled_tree N P) 0 s) (depth_in (length P) (parent_of P) s * N.branch))
      ∙ ap (λ z. z -ℤ pos (depth_in (length P) (parent_of P) s * N.branch)) (own_is N (settled_tree N P) s h l)
    where
      len_P : 2 * size N - 1 ≡ length P
      len_P = omega (arith, L.size)

      tree : PartTree (size N) (down 0 (size N)) (size N - 1) (length P) (parent_of P)
      tree = rw len_P at (legal_tree (size N) P L)

      mem : count s (down 0 (size N)) ≢ 0
      mem = omega (arith, down_once 0 (size N) s h (omega arith))

      reach : ancestor (parent_of P) (length P) s ≡ 0
      reach = tree.reach s (omega (arith, mem))

  pub settling : (s : ℕ) → 1 ≤ s → s ≤ size N → slack N (settled_tree N P) s ≡ slack N (unsettled N P) s
  settling s h l = settled_is s h l ∙ sym (unsettled_is N P (rw len_P at (legal_tree (size N) P L)) s (omega (arith, down_once 0 (size N) s h (omega arith))))
    where
      len_P : 2 * size N - 1 ≡ length P
      len_P = omega (arith, L.size)
