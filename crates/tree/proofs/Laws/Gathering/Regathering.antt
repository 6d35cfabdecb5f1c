-- The arrays of levels and numbers through one insertion: what the steps of the program ask for, and what holds after them. Assumes nothing.
use Prim.Native.Nat.{ℕ, zero, suc, ◌+◌, ◌*◌, ◌-◌, ◌≤◌, ◌<◌}
use mathlib.Core.Path.{◌≡◌, refl, sym, ap, ◌∙◌, subst}
use mathlib.Core.Logic.{◌≢◌, ◌⊎◌, inl, inr}
use mathlib.Core.List.{List, ◌∷◌}
use native.Mathlib.Nat.{mul_comm}
use native.Mathlib.Omega.{arith}
use lib.ListN.{length, get_or, set, length-set}
use lib.Seq.{get_or-set_same, get_or-set_other}
use lib.IntN.{ℤ, pos, ◌-ℤ◌, ◌*ℤ◌}
use lib.Signed.{◌≤ℤ◌}
use Rattle.quantities.specs.Inner.Linear.{whole, -is, *is}
use Rattle.quantities.specs.MinMax.{min_ℤ}
use Rattle.quantities.specs.Ranges.{Within}
use Rattle.quantities.specs.Inner.Reach.{time_reach}
use Rattle.tree.specs.Lists.{count, down}
use Rattle.tree.specs.Net.{Net, size, own_slack}
use Rattle.tree.specs.Tree.{parent_of, ancestor}
use Rattle.tree.specs.Measures.{path_up, worst_over}
use Rattle.tree.specs.Planning.{unsettled, split, tie_rule, parents_after}
use Rattle.tree.specs.SmallestSlack.{Gathered, InTree, sinks_in, score_of, next_sink}
use Rattle.tree.specs.Inner.Insertion.{Ready, Inserted, Leveled, SplitsNext}
use Rattle.tree.specs.Inner.Regathering.{DeepensUnder, Lowered, Falling, Raised, way_up}
use Rattle.tree.proofs.Laws.Trees.AnySplit.{meet, depth_any}
use Rattle.tree.proofs.Laws.Gathering.GatheredNumbers.{gathered_if, gathered_least, gathered_score, gathered_within}
use Rattle.tree.proofs.Laws.Trees.Growing.{PartTree, Split, Inner, parent_inner, inner_up, inner_reach, hops_up, split_tree}
use Rattle.tree.proofs.Laws.Planning.KeepsBest.{Grown, splits}
use Rattle.tree.proofs.Laws.Kraft.GapSums.{depth_in}
use Rattle.tree.proofs.Laws.Gathering.LeastAfter.{at_above, at_others, at_branch, at_sink}
use Rattle.tree.specs.Inner.DerivedLimits.{edge_limit}
use Rattle.tree.proofs.Laws.Measures.InReach.{own_within, own_reach}
use Rattle.tree.proofs.Laws.Planning.Scores.{new_no_worse}
use Rattle.tree.proofs.Laws.Planning.SinkEdge.{in_pos, meet_self}
use Rattle.tree.proofs.Laws.Planning.Steps.{inserted, order_in, next_fresh, inserted_rising, inserted_in}
use Rattle.tree.proofs.Laws.Lists.Sums.{delta_self, delta_ne, equal?, down_in, down_low, down_once}
use Rattle.tree.proofs.Laws.Planning.TreeAfter.{g, t, to_vertex, from_vertex, vertex_in, path_length, enlarged_all, parent_is}
use Rattle.tree.proofs.Laws.Trees.Under.{path_meet, path_hops, meet_root, meet_add, under_step, meet_one, meet_same, under_sink, path_inner, climbs, under_from, above_strict, deep}
use Rattle.tree.proofs.Laws.Trees.Walks.{hops, hops_le, hops_zero, hops_reach}
use Rattle.tree.proofs.Laws.Planning.WorstAfter.{LeastBelow, before, new_depth, after_old, after_new}

-- ---- the way up, as many steps as there are vertices on it

hops_again : (p : ℕ → ℕ) (F y : ℕ) → ancestor p F y ≡ 0 → hops p (hops p F y) y ≡ hops p F y
hops_again p zero y r = refl
hops_again p (suc F) zero r = refl
hops_again p (suc F) (suc v) r = ap suc (hops_again p F (p (suc v)) r)

no_root : (p : ℕ → ℕ) (j y : ℕ) → count 0 (path_up p j y) ≡ 0
no_root p zero y = refl
no_root p (suc j) zero = refl
no_root p (suc j) (suc v) = omega (arith, no_root p j (p (suc v)))

module _ {N : Net} {c : ℤ} {n : ℕ} {own : List ℤ} (R : Ready N c n own) {k : ℕ} {ps us : List ℕ} (I : Inserted N k ps us) (kn : k < n) where
  r1 : 0 < N.branch
  r1 = R.in_range.branch.0

  kN : k < size N
  kN = omega (arith, R.size_is)

  abbrev Old : ℕ → Type 0
  Old v = count v (inserted N k) + count v (down (size N) k) ≢ 0

  abbrev p : ℕ → ℕ
  p = parent_of (parents_after tie_rule N k)

  abbrev F : ℕ
  F = 2 * k + 1

  T : PartTree (size N) (inserted N k) k F p
  T = t N r1 k kN

  vertex_at : (h : ℕ) → h < F → Old (get_or us h 0)
  vertex_at h l = to_vertex N r1 k kN (get_or us h 0) (I.leaves_up.inside h l)

  place : (v : ℕ) → Old v → (i : ℕ) × (i < F) × (get_or us i 0 ≡ v)
  place v h = I.leaves_up.all v (from_vertex N r1 k kN v h)

  -- what stands at a place of the order, and its parent
  pub place_in : (h : ℕ) → h < F → (1 ≤ get_or us h 0) × (get_or us h 0 < 2 * n)
  place_in h l = omega (arith, vertex_in N r1 k kN (get_or us h 0) (vertex_at h l), R.size_is)

  parent_at : (v : ℕ) → Old v → p v ≡ get_or ps v 0
  parent_at v h = parent_is N r1 k kN I v h

  inner_in : (v : ℕ) → Inner (size N) k v → v < 2 * n
  inner_in v (inl z) = omega (arith, kn)
  inner_in v (inr z) = omega (arith, kN, R.size_is)

  pub parent_in : (h : ℕ) → h < F → get_or ps (get_or us h 0) 0 < 2 * n
  parent_in h l = omega (arith, parent_at (get_or us h 0) (vertex_at h l), inner_in (p (get_or us h 0)) (parent_inner T (get_or us h 0) (vertex_at h l)))

  -- the array holds the same way as the tree
  way_is : (j y : ℕ) → Inner (size N) k y → way_up ps j y ≡ path_up p j y
  way_is zero y i = refl
  way_is (suc j) zero i = refl
  way_is (suc j) (suc v) i = let m : Old (suc v) = go i in
      ap (λ (z : ℕ). suc v ∷ way_up ps j z) (sym (parent_at (suc v) m)) ∙ ap (λ (l : List ℕ). suc v ∷ l) (way_is j (p (suc v)) (inner_up T (suc v) i))
    where
      go : Inner (size N) k (suc v) → Old (suc v)
      go (inl e) = absurd (omega arith)
      go (inr r) = omega (arith, down_once (size N) k (suc v) r.0 r.1)

  module _ {levels : List ℕ} {slacks : List ℤ} (A : Leveled N k levels) (G : Gathered N k slacks) (kS : suc k < n) {j : ℕ} (jm : j < F) where
    kT : suc k < size N
    kT = omega (arith, R.size_is)

    abbrev x : ℕ
    x = get_or us j 0

    abbrev q : ℕ
    q = next_sink N k

    abbrev b : ℕ
    b = size N + suc k

    hx : Old (get_or us j 0)
    hx = vertex_at j jm

    q_in : (1 ≤ next_sink N k) × (next_sink N k ≤ size N)
    q_in = order_in N (suc k) kT

    level_is : (v : ℕ) → Old v → get_or levels v 0 ≡ hops p F v
    level_is v h = A.edges v (from_vertex N r1 k kN v h) ∙ path_length N r1 k kN v h

    up_one : (v : ℕ) → Old v → hops p F v ≡ suc (hops p F (p v))
    up_one v h = hops_up p F v (in_pos T v h) (T.reach v h)

    pub level_few : (h : ℕ) → h < F → (1 ≤ get_or levels (get_or us h 0) 0) × (get_or levels (get_or us h 0) 0 ≤ edge_limit)
    level_few h l = omega (arith, level_is (get_or us h 0) (vertex_at h l), up_one (get_or us h 0) (vertex_at h l), hops_le p F (get_or us h 0), kT, R.in_range.sinks)

    pub number_within : (h : ℕ) → h < F → Within time_reach (get_or slacks (get_or us h 0) (pos 0))
    number_within h l = gathered_within N R.in_range k kN G (get_or us h 0) (I.leaves_up.inside h l)

    pub new_within : Within time_reach (get_or own (next_sink N k) (pos 0))
    new_within = subst (Within time_reach) (sym (R.own_is (next_sink N k) q_in.0 (omega (arith, q_in, R.size_is)))) (own_reach _ (own_within N R.in_range (next_sink N k) q_in.0 q_in.1))

    pub new_in : (1 ≤ next_sink N k) × (next_sink N k ≤ n)
    new_in = omega (arith, q_in, R.size_is)

    -- neither of the two new vertices is an old one
    q_fresh : (v : ℕ) → Old v → v ≢ next_sink N k
    q_fresh v h e = omega (arith, ap (λ (z : ℕ). count z (inserted N k)) e, ap (λ (z : ℕ). count z (down (size N) k)) e, next_fresh N k kT, down_low (size N) k (next_sink N k) q_in.1)

    b_fresh : (v : ℕ) → Old v → v ≢ size N + suc k
    b_fresh v h e = go (equal? (count v (inserted N k)) 0)
      where
        go : (count v (inserted N k) ≡ 0) ⊎ (count v (inserted N k) ≢ 0) → ⊥
        go (inl z) = omega (arith, down_in (size N) k v (omega arith))
        go (inr d) = omega (arith, inserted_in N k kN v d)

    -- ---- the way from the parent of x

    parent_x : p (get_or us j 0) ≡ get_or ps (get_or us j 0) 0
    parent_x = parent_at (get_or us j 0) hx

    inner_x : Inner (size N) k (p (get_or us j 0))
    inner_x = parent_inner T (get_or us j 0) hx

    module _ {left : ℕ} (left_is : left ≡ get_or levels (get_or us j 0) 0 - 1) where
      steps : left ≡ hops p F (p (get_or us j 0))
      steps = omega (arith, left_is, level_is (get_or us j 0) hx, up_one (get_or us j 0) hx)

      way_path : way_up ps left (get_or ps (get_or us j 0) 0) ≡ path_up p left (p (get_or us j 0))
      way_path = ap (way_up ps left) (sym parent_x) ∙ way_is left (p (get_or us j 0)) inner_x

      reached : ancestor p left (p (get_or us j 0)) ≡ 0
      reached = ap (λ (i : ℕ). ancestor p i (p (get_or us j 0))) steps ∙ hops_reach p F (p (get_or us j 0)) (inner_reach T (p (get_or us j 0)) inner_x)

      pub way_length : length (way_up ps left (get_or ps (get_or us j 0) 0)) ≡ left
      way_length =
          ap length way_path ∙ path_hops p left (p (get_or us j 0)) ∙ ap (λ (i : ℕ). hops p i (p (get_or us j 0))) steps
          ∙ hops_again p F (p (get_or us j 0)) (inner_reach T (p (get_or us j 0)) inner_x) ∙ sym steps

      way_meet : (u : ℕ) → u ≢ 0 → count u (way_up ps left (get_or ps (get_or us j 0) 0)) ≡ meet p F u (p (get_or us j 0))
      way_meet u u0 =
          let e : F ≡ (F - left) + left = omega (arith, steps, hops_le p F (p (get_or us j 0))) in
          ap (count u) way_path ∙ path_meet p T.top u u0 left (p (get_or us j 0))
          ∙ sym (ap (λ (i : ℕ). meet p i u (p (get_or us j 0))) e ∙ meet_add p T.top u u0 (F - left) left (p (get_or us j 0)) reached)

      way_root : count 0 (way_up ps left (get_or ps (get_or us j 0) 0)) ≡ 0
      way_root = ap (count 0) way_path ∙ no_root p left (p (get_or us j 0))

      way_inner : (u : ℕ) → count u (way_up ps left (get_or ps (get_or us j 0) 0)) ≢ 0 → (size N < u) × (u ≤ size N + k)
      way_inner u h = path_inner T left (p (get_or us j 0)) inner_x u (λ e. h (ap (count u) way_path ∙ e))

      way_old : (u : ℕ) → count u (way_up ps left (get_or ps (get_or us j 0) 0)) ≢ 0 → Old u
      way_old u h = omega (arith, down_once (size N) k u (way_inner u h).0 (way_inner u h).1)

      pub way_in : (u : ℕ) → count u (way_up ps left (get_or ps (get_or us j 0) 0)) ≢ 0 → u < 2 * n
      way_in u h = omega (arith, way_inner u h, kN, R.size_is)

      pub way_once : (u : ℕ) → count u (way_up ps left (get_or ps (get_or us j 0) 0)) ≤ 1
      way_once u = go (equal? (count u (way_up ps left (get_or ps (get_or us j 0) 0))) 0)
        where
          go : (count u (way_up ps left (get_or ps (get_or us j 0) 0)) ≡ 0) ⊎ (count u (way_up ps left (get_or ps (get_or us j 0) 0)) ≢ 0) → count u (way_up ps left (get_or ps (get_or us j 0) 0)) ≤ 1
          go (inl e) = omega arith
          go (inr d) = omega (arith, way_meet u (in_pos T u (way_old u d)), meet_one T u F (p (get_or us j 0)) (way_old u d))

    -- ---- the two new vertices have their numbers

    module _ {ls : List ℕ} {ss : List ℤ} (long_l : 2 * n ≤ length levels) (long_s : 2 * n ≤ length slacks)
        (ls_is : ls ≡ set (set levels (next_sink N k) (get_or levels (get_or us j 0) 0 + 1)) (n + k + 1) (get_or levels (get_or us j 0) 0))
        (ss_is : ss ≡ set (set slacks (next_sink N k) (get_or own (next_sink N k) (pos 0) -ℤ c *ℤ pos (get_or levels (get_or us j 0) 0))) (n + k + 1) (get_or slacks (get_or us j 0) (pos 0) -ℤ c)) where
      b_is : n + k + 1 ≡ size N + suc k
      b_is = omega (arith, R.size_is)

      other : (v : ℕ) → v ≢ next_sink N k → v ≢ size N + suc k → (get_or ls v 0 ≡ get_or levels v 0) × (get_or ss v (pos 0) ≡ get_or slacks v (pos 0))
      other v d e =
          let f : v ≢ n + k + 1 = λ i. e (i ∙ b_is) in (
            ap (λ (z : List ℕ). get_or z v 0) ls_is ∙ get_or-set_other (set levels q (get_or levels x 0 + 1)) (n + k + 1) v (get_or levels x 0) 0 f ∙ get_or-set_other levels q v (get_or levels x 0 + 1) 0 d,
            ap (λ (z : List ℤ). get_or z v (pos 0)) ss_is ∙ get_or-set_other (set slacks q (get_or own q (pos 0) -ℤ c *ℤ pos (get_or levels x 0))) (n + k + 1) v (get_or slacks x (pos 0) -ℤ c) (pos 0) f ∙ get_or-set_other slacks q v (get_or own q (pos 0) -ℤ c *ℤ pos (get_or levels x 0)) (pos 0) d,
          )

      old : (v : ℕ) → Old v → (get_or ls v 0 ≡ get_or levels v 0) × (get_or ss v (pos 0) ≡ get_or slacks v (pos 0))
      old v h = other v (q_fresh v h) (b_fresh v h)

      root : (get_or ls 0 0 ≡ get_or levels 0 0) × (get_or ss 0 (pos 0) ≡ get_or slacks 0 (pos 0))
      root = other 0 (omega (arith, q_in)) (omega arith)

      old_inner : (v : ℕ) → Inner (size N) k v → get_or ls v 0 ≡ hops p F v
      old_inner v (inl e) = ap (λ (z : ℕ). get_or ls z 0) e ∙ root.0 ∙ A.root ∙ sym (ap (hops p F) e ∙ hops_zero p F)
      old_inner v (inr r) = let h : Old v = omega (arith, down_once (size N) k v r.0 r.1) in (old v h).0 ∙ level_is v h

      at_q : (get_or ls (next_sink N k) 0 ≡ get_or levels (get_or us j 0) 0 + 1) × (get_or ss (next_sink N k) (pos 0) ≡ get_or own (next_sink N k) (pos 0) -ℤ c *ℤ pos (get_or levels (get_or us j 0) 0))
      at_q =
          let f : q ≢ n + k + 1 = omega (arith, q_in, R.size_is) in (
            ap (λ (z : List ℕ). get_or z q 0) ls_is ∙ get_or-set_other (set levels q (get_or levels x 0 + 1)) (n + k + 1) q (get_or levels x 0) 0 f ∙ get_or-set_same levels q (get_or levels x 0 + 1) 0 (omega (arith, new_in)),
            ap (λ (z : List ℤ). get_or z q (pos 0)) ss_is ∙ get_or-set_other (set slacks q (get_or own q (pos 0) -ℤ c *ℤ pos (get_or levels x 0))) (n + k + 1) q (get_or slacks x (pos 0) -ℤ c) (pos 0) f ∙ get_or-set_same slacks q (get_or own q (pos 0) -ℤ c *ℤ pos (get_or levels x 0)) (pos 0) (omega (arith, new_in)),
          )

      at_b : (get_or ls (size N + suc k) 0 ≡ get_or levels (get_or us j 0) 0) × (get_or ss (size N + suc k) (pos 0) ≡ get_or slacks (get_or us j 0) (pos 0) -ℤ c)
      at_b = (
        ap (λ (z : ℕ). get_or ls z 0) (sym b_is) ∙ ap (λ (z : List ℕ). get_or z (n + k + 1) 0) ls_is ∙ get_or-set_same (set levels q (get_or levels x 0 + 1)) (n + k + 1) (get_or levels x 0) 0 (omega (arith, length-set levels q (get_or levels x 0 + 1), kS)),
        ap (λ (z : ℕ). get_or ss z (pos 0)) (sym b_is) ∙ ap (λ (z : List ℤ). get_or z (n + k + 1) (pos 0)) ss_is ∙ get_or-set_same (set slacks q (get_or own q (pos 0) -ℤ c *ℤ pos (get_or levels x 0))) (n + k + 1) (get_or slacks x (pos 0) -ℤ c) (pos 0) (omega (arith, length-set slacks q (get_or own q (pos 0) -ℤ c *ℤ pos (get_or levels x 0)), kS)),
      )

      pub old_few : (h : ℕ) → h < F → get_or ls (get_or us h 0) 0 ≤ edge_limit
      old_few h l = omega (arith, (old (get_or us h 0) (vertex_at h l)).0, level_few h l)

      pub old_within : (h : ℕ) → h < F → Within time_reach (get_or ss (get_or us h 0) (pos 0))
      old_within h l = subst (Within time_reach) (sym (old (get_or us h 0) (vertex_at h l)).1) (number_within h l)

      -- ---- what sinks by a level: x and what is under it

      before_x : (z : ℕ) → Old z → meet p F x z ≢ 0 → (i : ℕ) → i < F → get_or us i 0 ≡ z → i ≤ j
      before_x z h m = climbs T x (in_pos T x hx) (λ y. (i : ℕ) → i < F → get_or us i 0 ≡ y → i ≤ j) step start F z h m
        where
          start : (i : ℕ) → i < F → get_or us i 0 ≡ x → i ≤ j
          start i l e = omega (arith, I.leaves_up.once i j l jm e)

          step : (y : ℕ) → Old y → Old (p y) → x ≢ y → ((i : ℕ) → i < F → get_or us i 0 ≡ p y → i ≤ j) → (i : ℕ) → i < F → get_or us i 0 ≡ y → i ≤ j
          step y m o d up i l e =
              let w : (h : ℕ) × (h < F) × (get_or us h 0 ≡ p y) = place (p y) o in
              omega (arith, up w.0 w.1 w.2, I.leaves_up.before i w.0 l w.1 (ap (λ (z : ℕ). get_or ps z 0) e ∙ sym (parent_at y m) ∙ sym w.2))

      pub sinks : DeepensUnder ps us n F j ls (meet p F (get_or us j 0))
      sinks = record {
        deepens = record {
          few = λ v. meet_one T x F v hx;
          root = meet_root p T.top x (in_pos T x hx) F;
          apart = λ h i hl il e. I.leaves_up.once h i hl il e;
          positive = λ h l. in_pos T (get_or us h 0) (vertex_at h l);
          parent = λ h l. parent h l (parent_inner T (get_or us h 0) (vertex_at h (omega arith)));
          same = λ h l. under_step T x (get_or us h 0) (in_pos T x hx) (λ e. omega (arith, I.leaves_up.once j h jm (omega arith) e)) (vertex_at h (omega arith)) ∙ ap (meet p F x) (parent_at (get_or us h 0) (vertex_at h (omega arith)));
          level = λ h l. let m : Old (get_or us h 0) = vertex_at h (omega arith) in
              (old (get_or us h 0) m).0 ∙ level_is (get_or us h 0) m ∙ up_one (get_or us h 0) m ∙ ap suc (sym (old_inner (p (get_or us h 0)) (parent_inner T (get_or us h 0) m)) ∙ ap (λ (z : ℕ). get_or ls z 0) (parent_at (get_or us h 0) m));
        };
        one = meet_same T x hx;
        behind = λ h a l. none (get_or us h 0) (λ m. omega (arith, before_x (get_or us h 0) (vertex_at h l) m h l refl));
        sink = λ s h l. none (get_or us h 0) (λ m. let e : get_or us h 0 ≡ x = under_sink T x (get_or us h 0) (is_sink_lem s) (vertex_at h (omega arith)) m in omega (arith, I.leaves_up.once h j (omega arith) jm e));
      }
        where
          none : (v : ℕ) → (meet p F x v ≢ 0 → ⊥) → meet p F x v ≡ 0
          none v f = go (equal? (meet p F x v) 0)
            where
              go : (meet p F x v ≡ 0) ⊎ (meet p F x v ≢ 0) → meet p F x v ≡ 0
              go (inl e) = e
              go (inr d) = absurd (f d)

          is_sink_lem : get_or us j 0 ≤ n → count (get_or us j 0) (inserted N k) ≢ 0
          is_sink_lem s = omega (arith, hx, down_low (size N) k (get_or us j 0) (omega (arith, R.size_is)))

          parent : (h : ℕ) → h < j → Inner (size N) k (p (get_or us h 0)) → (get_or ps (get_or us h 0) 0 ≡ 0) ⊎ ((i : ℕ) × (h < i) × (i < F) × (get_or us i 0 ≡ get_or ps (get_or us h 0) 0))
          parent h l (inl e) = inl (sym (parent_at (get_or us h 0) (vertex_at h (omega arith))) ∙ e)
          parent h l (inr r) =
              let e : p (get_or us h 0) ≡ get_or ps (get_or us h 0) 0 = parent_at (get_or us h 0) (vertex_at h (omega arith)) in
              let w : (i : ℕ) × (i < F) × (get_or us i 0 ≡ p (get_or us h 0)) = place (p (get_or us h 0)) (omega (arith, down_once (size N) k (p (get_or us h 0)) r.0 r.1)) in
              inr (w.0, I.leaves_up.before h w.0 (omega arith) w.1 (sym e ∙ sym w.2), w.1, w.2 ∙ e)

      -- ---- x and what is under it have sunk

      module _ {ls₂ : List ℕ} {ss₂ : List ℤ} (L : Lowered us F (meet p F (get_or us j 0)) c ls ss 0 ls₂ ss₂) where
        sunk : (v : ℕ) → Old v → (get_or ls₂ v 0 ≡ hops p F v + meet p F x v) × (get_or ss₂ v (pos 0) ≡ get_or slacks v (pos 0) -ℤ c *ℤ pos (meet p F x v))
        sunk v h =
            let w : (i : ℕ) × (i < F) × (get_or us i 0 ≡ v) = place v h in
            let d : (get_or ls₂ v 0 ≡ get_or ls v 0 + meet p F x v) × (get_or ss₂ v (pos 0) ≡ get_or ss v (pos 0) -ℤ c *ℤ pos (meet p F x v)) =
            subst (λ (z : ℕ). (get_or ls₂ z 0 ≡ get_or ls z 0 + meet p F x z) × (get_or ss₂ z (pos 0) ≡ get_or ss z (pos 0) -ℤ c *ℤ pos (meet p F x z))) w.2 (L.done w.0 (omega arith) w.1) in
            (omega (arith, d.0, (old v h).0, level_is v h), d.1 ∙ ap (λ (z : ℤ). z -ℤ c *ℤ pos (meet p F x v)) (old v h).1)

        fixed : (v : ℕ) → (Old v → ⊥) → (get_or ls₂ v 0 ≡ get_or ls v 0) × (get_or ss₂ v (pos 0) ≡ get_or ss v (pos 0))
        fixed v h = L.other v (λ i l e. h (subst Old e (vertex_at i l)))

        q_new : Old (next_sink N k) → ⊥
        q_new h = q_fresh (next_sink N k) h refl

        b_new : Old (size N + suc k) → ⊥
        b_new h = b_fresh (size N + suc k) h refl

        root_new : Old 0 → ⊥
        root_new h = in_pos T 0 h refl

        under : (v : ℕ) → Old v → LeastBelow p F v (inserted N k) (before N k (parents_after tie_rule N k)) (get_or slacks v (pos 0))
        under v h = gathered_least N r1 k kN G v h

        -- numbers fall on the way up
        same : (v : ℕ) → Old v → meet p F x v ≡ 0 → get_or ss₂ v (pos 0) ≡ get_or slacks v (pos 0)
        same v h e =
            let r : c *ℤ pos (meet p F x v) ≡ c *ℤ pos 0 = ap (λ (z : ℕ). c *ℤ pos z) e in
            (sunk v h).1 ∙ omega (arith, whole, r, *is c 0, -is (get_or slacks v (pos 0)) (c *ℤ pos (meet p F x v)))

        inner_old : (v : ℕ) → v ≢ 0 → Inner (size N) k v → Old v
        inner_old v d (inl e) = absurd (d e)
        inner_old v d (inr r) = omega (arith, down_once (size N) k v r.0 r.1)

        falls_from : (i y : ℕ) → Inner (size N) k y → hops p F y < hops p F x → Falling (λ u. get_or ss₂ u (pos 0)) (path_up p i y)
        falls_from zero y m l = tt
        falls_from (suc i) zero m l = tt
        falls_from (suc i) (suc v) m l = (λ u h. less u h, falls_from i (p (suc v)) (inner_up T (suc v) m) (omega (arith, up_one (suc v) hv)))
          where
            hv : Old (suc v)
            hv = inner_old (suc v) (omega arith) m

            less : (u : ℕ) → count u (path_up p i (p (suc v))) ≢ 0 → get_or ss₂ u (pos 0) ≤ℤ get_or ss₂ (suc v) (pos 0)
            less u h =
                let w : (size N < u) × (u ≤ size N + k) = path_inner T i (p (suc v)) (inner_up T (suc v) m) u h in
                let hu : Old u = omega (arith, down_once (size N) k u w.0 w.1) in
                let u0 : u ≢ 0 = in_pos T u hu in
                let up : meet p (suc i) u (suc v) ≢ 0 = omega (arith, h, path_meet p T.top u u0 i (p (suc v))) in
                let over : meet p F u (suc v) ≢ 0 = under_from T u u u0 u0 (meet_self p F u u0 (T.reach u hu)) (suc i) (suc v) hv up in
                let a : LeastBelow p F (suc v) (inserted N k) (before N k (parents_after tie_rule N k)) (get_or slacks (suc v) (pos 0)) = under (suc v) hv in
                let high : hops p F u ≤ hops p F (suc v) = deep T u F (suc v) (T.reach (suc v) hv) over in
                subst (λ (z : ℤ). z ≤ℤ get_or ss₂ (suc v) (pos 0)) (sym (same u hu (above_strict T x hx F u (inr w) (omega arith))))
                (subst (λ (z : ℤ). get_or slacks u (pos 0) ≤ℤ z) (sym (same (suc v) hv (above_strict T x hx F (suc v) m l)))
                (subst (λ (z : ℤ). get_or slacks u (pos 0) ≤ℤ z) a.is ((under u hu).below a.at a.in_list (under_from T u (suc v) u0 (omega arith) over F a.at (omega (arith, a.in_list)) a.under))))

        pub falls : {left : ℕ} → left ≡ get_or levels (get_or us j 0) 0 - 1 → Falling (λ u. get_or ss₂ u (pos 0)) (way_up ps left (get_or ps (get_or us j 0) 0))
        falls {left} e = subst (Falling (λ u. get_or ss₂ u (pos 0))) (sym (way_path e)) (falls_from left (p x) inner_x (omega (arith, up_one x hx)))

        -- ---- and what is above has been handed the least

        module _ (X : SplitsNext N k (get_or us j 0)) where
          abbrev p' : ℕ → ℕ
          p' = parent_of (split (parents_after tie_rule N k) (size N) k (next_sink N k) (get_or us j 0))

          grown : Grown (size N) N.branch (own_slack N) (inserted N k) k (parents_after tie_rule N k)
          grown = g N r1 k kN

          cut : Split (size N) k (next_sink N k) (get_or us j 0) p p'
          cut = splits grown r1 (next_sink N k) q_in.0 q_in.1 (next_fresh N k kT) kT (inserted_rising N k kT) (get_or us j 0) hx

          fuel : suc (suc F) ≡ 2 * suc k + 1
          fuel = omega arith

          new : (v : ℕ) → InTree N (suc k) v → (v ≡ next_sink N k) ⊎ ((v ≡ size N + suc k) ⊎ Old v)
          new v h = go (equal? v q) (equal? v b) (to_vertex N r1 (suc k) kT v h)
            where
              go : (v ≡ next_sink N k) ⊎ (v ≢ next_sink N k) → (v ≡ size N + suc k) ⊎ (v ≢ size N + suc k) → count v (inserted N (suc k)) + count v (down (size N) (suc k)) ≢ 0 → (v ≡ next_sink N k) ⊎ ((v ≡ size N + suc k) ⊎ Old v)
              go (inl e) f m = inl e
              go (inr d) (inl e) m = inr (inl e)
              go (inr d) (inr f) m = inr (inr (omega (arith, delta_ne v q d, delta_ne v b f)))

          T' : PartTree (size N) (next_sink N k ∷ inserted N k) (suc k) (suc (suc F)) p'
          T' = split_tree T cut hx q_in.0 q_in.1 (next_fresh N k kT)

          pub leveled_next : Leveled N (suc k) ls₂
          leveled_next = record { root = (fixed 0 root_new).0 ∙ root.0 ∙ A.root; edges = λ v h. each v (new v h) ∙ sym (path_length N r1 (suc k) kT v (to_vertex N r1 (suc k) kT v h) ∙ (λ i. hops (parent_of (X.1 i)) (sym fuel i) v)) }
            where
              depth : hops p' (suc (suc F)) (p' (next_sink N k)) ≡ suc (hops p F (p (get_or us j 0)))
              depth = new_depth T cut hx q_in.0 q_in.1 (next_fresh N k kT)

              each : (v : ℕ) → (v ≡ next_sink N k) ⊎ ((v ≡ size N + suc k) ⊎ Old v) → get_or ls₂ v 0 ≡ hops p' (suc (suc F)) v
              each v (inl e) =
                  let m : count q (q ∷ inserted N k) + count q (down (size N) (suc k)) ≢ 0 = omega (arith, delta_self q) in
                  subst (λ (z : ℕ). get_or ls₂ z 0 ≡ hops p' (suc (suc F)) z) (sym e)
                  (omega (arith, (fixed q q_new).0, at_q.0, level_is x hx, up_one x hx, hops_up p' (suc (suc F)) q (omega (arith, q_in)) (T'.reach q m), depth))
              each v (inr (inl e)) =
                  subst (λ (z : ℕ). get_or ls₂ z 0 ≡ hops p' (suc (suc F)) z) (sym e)
                  (omega (arith, (fixed b b_new).0, at_b.0, level_is x hx, up_one x hx, ap (hops p' (suc (suc F))) cut.new, depth))
              each v (inr (inr h)) = (sunk v h).0 ∙ sym (depth_any T cut hx q_in.0 q_in.1 (next_fresh N k kT) v h)

          module _ {left : ℕ} (left_is : left ≡ get_or levels (get_or us j 0) 0 - 1) {e : ℤ} (e_is : e ≡ get_or slacks (get_or us j 0) (pos 0) -ℤ c)
              {ss₃ ss₄ : List ℤ} (H : Raised (way_up ps left (get_or ps (get_or us j 0) 0)) e ss₂ ss₃) (ss₄_is : ss₄ ≡ set ss₃ 0 (min_ℤ (get_or ss₃ 0 (pos 0)) e)) (long : 0 < length ss₃) where
            abbrev f : ℕ → ℤ
            f = before N k (parents_after tie_rule N k)

            abbrev f' : ℕ → ℤ
            f' = before N (suc k) (split (parents_after tie_rule N k) (size N) k (next_sink N k) (get_or us j 0))

            cost_is : c ≡ pos N.branch
            cost_is = R.branch_is

            least_x : e ≡ get_or slacks (get_or us j 0) (pos 0) -ℤ pos N.branch
            least_x = e_is ∙ ap (λ (z : ℤ). get_or slacks x (pos 0) -ℤ z) cost_is

            olds : (y : ℕ) → count y (inserted N k) ≢ 0 → f' y ≡ f y -ℤ pos (meet p F (get_or us j 0) y * N.branch)
            olds y m = after_old N r1 grown q q_in.0 q_in.1 (next_fresh N k kT) kT (inserted_rising N k kT) x hx y m

            news : f' (next_sink N k) ≡ own_slack N (next_sink N k) -ℤ pos (suc (depth_in F p (get_or us j 0)) * N.branch)
            news = after_new N r1 grown q q_in.0 q_in.1 (next_fresh N k kT) kT (inserted_rising N k kT) x hx

            no_worse : (get_or slacks (get_or us j 0) (pos 0) -ℤ pos N.branch) ≤ℤ f' (next_sink N k)
            no_worse = subst (λ (z : ℤ). (get_or slacks x (pos 0) -ℤ pos N.branch) ≤ℤ z) (sym news) (new_no_worse N r1 grown q (inserted_rising N k kT) x hx (get_or slacks x (pos 0)) (under x hx))

            last : (v : ℕ) → v ≢ 0 → get_or ss₄ v (pos 0) ≡ get_or ss₃ v (pos 0)
            last v d = ap (λ (z : List ℤ). get_or z v (pos 0)) ss₄_is ∙ get_or-set_other ss₃ 0 v (min_ℤ (get_or ss₃ 0 (pos 0)) e) (pos 0) d

            off_way : (v : ℕ) → (Old v → ⊥) → get_or ss₃ v (pos 0) ≡ get_or ss v (pos 0)
            off_way v h = H.off v (go (equal? (count v (way_up ps left (get_or ps x 0))) 0)) ∙ (fixed v h).1
              where
                go : (count v (way_up ps left (get_or ps x 0)) ≡ 0) ⊎ (count v (way_up ps left (get_or ps x 0)) ≢ 0) → count v (way_up ps left (get_or ps x 0)) ≡ 0
                go (inl z) = z
                go (inr d) = absurd (h (way_old left_is v d))

            lowered : (v : ℕ) → Old v → get_or ss₂ v (pos 0) ≡ get_or slacks v (pos 0) -ℤ pos N.branch *ℤ pos (meet p F (get_or us j 0) v)
            lowered v h = (sunk v h).1 ∙ ap (λ (z : ℤ). get_or slacks v (pos 0) -ℤ z *ℤ pos (meet p F x v)) cost_is

            -- the new sink's slack
            stored : get_or own (next_sink N k) (pos 0) -ℤ c *ℤ pos (get_or levels (get_or us j 0) 0) ≡ f' (next_sink N k)
            stored =
                let l : get_or levels x 0 ≡ suc (depth_in F p x) = level_is x hx ∙ up_one x hx in
                let m : N.branch * get_or levels x 0 ≡ suc (depth_in F p x) * N.branch = ap (λ (z : ℕ). N.branch * z) l ∙ mul_comm N.branch (suc (depth_in F p x)) in
                (λ i. R.own_is q q_in.0 (omega (arith, q_in, R.size_is)) i -ℤ cost_is i *ℤ pos (get_or levels x 0)) ∙ ap (λ (z : ℕ). own_slack N q -ℤ pos z) m ∙ sym news

            abbrev After : ℕ → ℤ → Type 0
            After v w = LeastBelow p' (suc (suc F)) v (next_sink N k ∷ inserted N k) f' w

            each : (v : ℕ) → (v ≡ next_sink N k) ⊎ ((v ≡ size N + suc k) ⊎ Old v) → After v (get_or ss₄ v (pos 0))
            each v (inl i) =
                subst (λ (z : ℕ). After z (get_or ss₄ z (pos 0))) (sym i)
                (subst (After q) (sym (last q (omega (arith, q_in)) ∙ off_way q q_new ∙ at_q.1 ∙ stored)) (at_sink T cut hx q_in.0 q_in.1 (next_fresh N k kT) r1 olds no_worse under))
            each v (inr (inl i)) =
                subst (λ (z : ℕ). After z (get_or ss₄ z (pos 0))) (sym i)
                (subst (After b) (sym (last b (omega arith) ∙ off_way b b_new ∙ at_b.1 ∙ sym e_is ∙ least_x)) (at_branch T cut hx q_in.0 q_in.1 (next_fresh N k kT) r1 olds no_worse under))
            each v (inr (inr h)) = subst (After v) (sym (last v (in_pos T v h))) (go (equal? (count v (way_up ps left (get_or ps x 0))) 0))
              where
                go : (count v (way_up ps left (get_or ps x 0)) ≡ 0) ⊎ (count v (way_up ps left (get_or ps x 0)) ≢ 0) → After v (get_or ss₃ v (pos 0))
                go (inl z) =
                    subst (After v) (sym (H.off v z ∙ lowered v h)) (at_others T cut hx q_in.0 q_in.1 (next_fresh N k kT) r1 olds no_worse under v h (sym (way_meet left_is v (in_pos T v h)) ∙ z))
                go (inr d) =
                    subst (After v) (sym (H.on v d ∙ (λ i. min_ℤ (lowered v h i) (least_x i)))) (at_above T cut hx q_in.0 q_in.1 (next_fresh N k kT) r1 olds no_worse under v h (λ z. d (way_meet left_is v (in_pos T v h) ∙ z)))

            worst : get_or ss₄ 0 (pos 0) ≡ score_of c slacks (get_or us j 0)
            worst =
                ap (λ (z : List ℤ). get_or z 0 (pos 0)) ss₄_is ∙ get_or-set_same ss₃ 0 (min_ℤ (get_or ss₃ 0 (pos 0)) e) (pos 0) long
                ∙ (λ i. min_ℤ ((H.off 0 (way_root left_is) ∙ (fixed 0 root_new).1 ∙ root.1) i) (e_is i))

            pub gathered_next : Gathered N (suc k) ss₄
            gathered_next =
                gathered_if N r1 (suc k) kT ss₄
                (λ v h. subst (λ (Q : List ℕ). LeastBelow (parent_of Q) (2 * suc k + 1) v (inserted N (suc k)) (before N (suc k) Q) (get_or ss₄ v (pos 0))) (sym X.1)
                (subst (λ (i : ℕ). LeastBelow p' i v (inserted N (suc k)) f' (get_or ss₄ v (pos 0))) fuel (each v (new v (from_vertex N r1 (suc k) kT v h)))))
                (worst ∙ ap (λ (z : ℤ). score_of z slacks x) cost_is ∙ gathered_score N r1 k kN G kT x hx ∙ enlarged_all N r1 k kN kT x ∙ ap (λ (Q : List ℕ). worst_over N (unsettled N Q) (sinks_in N (suc k))) (sym X.1))
