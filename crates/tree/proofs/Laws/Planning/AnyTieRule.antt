-- Theorem 1 under every tie rule: the planned tree is legal, its worst slack is the Kraft maximum, and no legal tree has a larger one. Assumes nothing.
use Prim.Native.Nat.{ℕ, zero, suc, ◌+◌, ◌*◌, ◌-◌, ◌/◌, ◌^◌, ◌≤◌, ◌<◌}
use mathlib.Core.Path.{◌≡◌, refl, sym, ap, ap₂, ◌∙◌, subst}
use mathlib.Core.Logic.{◌≢◌, ◌⊎◌, inl, inr}
use mathlib.Core.List.{List, [], ◌∷◌, map}
use native.Mathlib.Omega.{arith}
use lib.ListN.{length, take, length-map}
use lib.IntN.{ℤ, pos, negsuc, nat_abs, ◌-ℤ◌}
use lib.Signed.{◌≤ℤ◌, ◌<ℤ◌}
use Rattle.quantities.specs.Floor.{floor_div}
use Rattle.quantities.specs.Inner.Linear.{up, dn, whole, -is}
use Rattle.tree.proofs.Laws.Lists.Gaps.{gap}
use Rattle.tree.proofs.Laws.Trees.Growing.{PartTree}
use Rattle.tree.proofs.Laws.Planning.KeepsBest.{Least, ends}
use Rattle.tree.proofs.Laws.Kraft.Maximum.{NoneLess, kraft_below, top_above, maximum_is, maximum_one}
use Rattle.tree.proofs.Laws.Kraft.GapSums.{power_sum, depth_in, power_sum_le, kraft_at}
use Rattle.tree.proofs.Laws.Trees.LegalTrees.{legal_tree, bag}
use Rattle.tree.proofs.Laws.Measures.VertexDelays.{between, between_metric, slack_is, own_is, tree_more, depth_is}
use Rattle.tree.proofs.Laws.Planning.BeforeSettling.{least_law, Done, planned, after_insertions}
use Rattle.tree.proofs.Laws.Lists.Tables.{range_length}
use Rattle.tree.proofs.Laws.Kraft.Rivals.{KraftOver, own_in, rival_kraft}
use Rattle.tree.proofs.Laws.Settling.SlackKept.{range_count, settled_legal, settled_is}
use Rattle.tree.proofs.Laws.Lists.Sums.{equal?, delta_self, delta_ne, sum_over_cong, down_once, down_in}
use Rattle.tree.specs.Kraft.{floors, power, powers, Above, Kraft, IsKraftMaximum, top, kraft_maximum}
use Rattle.tree.specs.Lists.{sum_over, count, down, range, least}
use Rattle.tree.specs.Measures.{slack, worst_slack, depth}
use Rattle.tree.specs.Net.{Net, size, required, own_slack, own_slacks}
use Rattle.tree.specs.Planning.{TieRule, order, unsettled, parents_after, plan_parents}
use Rattle.tree.specs.Settling.{plan_by}
use Rattle.tree.specs.Tree.{parent_of, Tree, LegalTree}

-- ---- Kraft's condition on the list of own slacks, by gaps

floor_gap : (c : ℕ) (a s : ℤ) → s ≤ℤ a → floor_div (a -ℤ s) c ≡ pos (gap s a / c)
unfolding floor_div
floor_gap c a s h = go (a -ℤ s) (let d = -is a s in omega (arith, whole, d))
  where
    go : (z : ℤ) → dn z ≤ up z → floor_div z c ≡ pos (nat_abs z / c)
    go (pos n) q = refl
    go (negsuc n) q = absurd (omega arith)

module _ (c : ℕ) (o : ℕ → ℤ) (s : ℤ) where
  powers_sum : (m : ℕ) (l : List ℕ) → NoneLess s (map o l) → powers m (floors c (map o l) s) ≡ power_sum l m (λ y. gap s (o y) / c)
  powers_sum m [] b = refl
  powers_sum m (x ∷ l) b = ap₂ ◌+◌ (ap (power m) (floor_gap c (o x) s b.0)) (powers_sum m l b.1)

  below_each : (l : List ℕ) → NoneLess s (map o l) → (y : ℕ) → count y l ≢ 0 → s ≤ℤ o y
  below_each [] b y m = absurd (m refl)
  below_each (x ∷ l) b y m = go (equal? y x) (below_each l b.1 y)
    where
      go : (y ≡ x) ⊎ (y ≢ x) → (count y l ≢ 0 → s ≤ℤ o y) → s ≤ℤ o y
      go (inl e) ih = rw e b.0
      go (inr d) ih = ih (omega (arith, delta_ne y x d))

  each_below : (l : List ℕ) → ((y : ℕ) → count y l ≢ 0 → s ≤ℤ o y) → NoneLess s (map o l)
  each_below [] h = tt
  each_below (x ∷ l) h = (h x (omega (arith, delta_self x)), each_below l (λ y m. h y (omega arith)))

  above_at_most : (m : ℕ) (l : List ℕ) → NoneLess s (map o l) → Above m (floors c (map o l) s) → (y : ℕ) → count y l ≢ 0 → gap s (o y) / c ≤ m
  above_at_most m [] b a y q = absurd (q refl)
  above_at_most m (x ∷ l) b a y q = go (equal? y x) (above_at_most m l b.1 a.1 y)
    where
      go : (y ≡ x) ⊎ (y ≢ x) → (count y l ≢ 0 → gap s (o y) / c ≤ m) → gap s (o y) / c ≤ m
      go (inl e) ih = rw e (let h : pos (gap s (o x) / c) ≤ℤ pos m = subst (λ f. f ≤ℤ pos m) (floor_gap c (o x) s b.0) a.0 in omega (arith, whole))
      go (inr d) ih = ih (omega (arith, delta_ne y x d))

  pub kraft_over : (l : List ℕ) → Kraft c (map o l) s → KraftOver c l o s
  kraft_over l κ =
      let b : NoneLess s (map o l) = kraft_below c (map o l) s κ in
      let fs : List ℤ = floors c (map o l) s in
      record {
        low = below_each l b;
        kraft = record {
          m = top fs;
          at_most = above_at_most (top fs) l b (top_above fs);
          sum-le = subst (λ z. z ≤ 2 ^ top fs) (powers_sum (top fs) l b) (κ (top fs) (top_above fs));
        };
      }

  pub over_kraft : (l : List ℕ) → KraftOver c l o s → Kraft c (map o l) s
  over_kraft l h m a =
      let b : NoneLess s (map o l) = each_below l h.low in
      subst (λ z. z ≤ 2 ^ m) (sym (powers_sum m l b)) (power_sum_le l m h.kraft.m (λ y. gap s (o y) / c) (above_at_most m l b a) h.kraft.at_most h.kraft.sum-le)

  -- the order of the sinks is nothing to it
  pub kraft_over_bag : (l r : List ℕ) (v : ℕ) → ((x : ℕ) → count x l ≡ count x r) → ((x : ℕ) → count x l ≢ 0 → x < v) → KraftOver c l o s → KraftOver c r o s
  kraft_over_bag l r v e lv h = record {
    low = λ y q. h.low y (omega (arith, e y));
    kraft = record {
      m = h.kraft.m;
      at_most = λ y q. h.kraft.at_most y (omega (arith, e y));
      sum-le = subst (λ z. z ≤ 2 ^ h.kraft.m) (bag v l r (λ y. 2 ^ (h.kraft.m - gap s (o y) / c)) lv (λ x q. lv x (omega (arith, e x))) (λ x q. e x)) h.kraft.sum-le;
    };
  }

maximum_of : (c : ℕ) (own : List ℤ) → 0 < c → 1 ≤ length own → IsKraftMaximum c own (kraft_maximum c own)
maximum_of c [] c1 h = absurd (omega arith)
maximum_of c (a ∷ l) c1 h = maximum_is c a l c1

pub maximum_of_net : (N : Net) → 0 < N.branch → 1 ≤ size N → IsKraftMaximum N.branch (own_slacks N) (kraft_maximum N.branch (own_slacks N))
maximum_of_net N c1 n1 = maximum_of N.branch (own_slacks N) c1 (omega (arith, length-map (range 1 (size N)) (own_slack N), range_length 1 (size N)))

-- ---- no legal tree is above it

worst_least : (n : ℕ) (f : ℕ → ℤ) → 1 ≤ n → Least (range 1 n) f (least (map f (range 1 n)))
worst_least zero f h = absurd (omega arith)
worst_least (suc n) f h = least_law f 1 (range 2 n)

pub worst_is_least : (N : Net) (R : Tree) → 1 ≤ size N → Least (range 1 (size N)) (slack N R) (worst_slack N R)
unfolding worst_slack
worst_is_least N R h = worst_least (size N) (slack N R) h

module _ (N : Net) (c1 : 0 < N.branch) (n1 : 1 ≤ size N) where
  pub sinks_in_lem : (s : ℕ) → count s (range 1 (size N)) ≢ 0 → (1 ≤ s) × (s ≤ size N)
  sinks_in_lem s q = omega (arith, down_in 0 (size N) s (omega (arith, range_count (size N) s)))

  pub rival : (R : Tree) → LegalTree N R → Kraft N.branch (own_slacks N) (worst_slack N R)
  rival R L = over_kraft N.branch (own_slack N) w (range 1 (size N))
      (kraft_over_bag N.branch (own_slack N) w (down 0 (size N)) (range 1 (size N)) (suc (size N)) (λ x. sym (range_count (size N) x)) (λ x q. omega (arith, down_in 0 (size N) x q)) meets)
    where
      w : ℤ
      w = worst_slack N R

      Q : List ℕ
      Q = R.parents

      len_Q : 2 * size N - 1 ≡ length Q
      len_Q = omega (arith, L.shape.size)

      tree : PartTree (size N) (down 0 (size N)) (size N - 1) (length Q) (parent_of Q)
      tree = rw len_Q at (legal_tree (size N) Q L.shape)

      lst : Least (range 1 (size N)) (slack N R) w
      lst = worst_is_least N R n1

      κ : KraftOver N.branch (down 0 (size N)) (own_in (between N R) (required N)) w
      κ = rival_kraft tree (between_metric N R) (required N) N.branch c1 w
          (λ s q. subst (λ z. w ≤ℤ z) (slack_is N R tree s q) (lst.below s (omega (arith, range_count (size N) s))))

      own : (s : ℕ) → count s (down 0 (size N)) ≢ 0 → own_in (between N R) (required N) s ≡ own_slack N s
      own s q = own_is N R s (omega (arith, down_in 0 (size N) s q)) (omega (arith, down_in 0 (size N) s q))

      meets : KraftOver N.branch (down 0 (size N)) (own_slack N) w
      meets = record {
        low = λ s q. subst (λ z. w ≤ℤ z) (own s q) (κ.low s q);
        kraft = record {
          m = κ.kraft.m;
          at_most = λ s q. subst (λ z. gap w z / N.branch ≤ κ.kraft.m) (own s q) (κ.kraft.at_most s q);
          sum-le = subst (λ z. z ≤ 2 ^ κ.kraft.m)
              (sum_over_cong (down 0 (size N)) (λ s. 2 ^ (κ.kraft.m - gap w (own_in (between N R) (required N) s) / N.branch)) (λ s. 2 ^ (κ.kraft.m - gap w (own_slack N s) / N.branch))
              (λ s q. ap (λ z. 2 ^ (κ.kraft.m - gap w z / N.branch)) (own s q))) κ.kraft.sum-le;
        };
      }

  -- ---- the planned tree

  module _ (tie : TieRule) where
    D : Done tie N c1 (size N - 1) (λ y. count y (down 0 (size N))) (plan_parents tie N)
    D = planned tie N c1 n1

    once : (s : ℕ) → 1 ≤ s → s ≤ size N → count s D.sinks ≡ 1
    once s h l = omega (arith, D.all s, down_once 0 (size N) s h (omega arith))

    pub plan_legal : LegalTree N (plan_by tie N)
    unfolding plan_by
    plan_legal = settled_legal N (plan_parents tie N) (ends (size N) N.branch (size N - 1) (own_slack N) D.sinks (plan_parents tie N) (omega arith) D.grown once)

    pub plan_maximum : IsKraftMaximum N.branch (own_slacks N) (worst_slack N (plan_by tie N))
    unfolding plan_by
    plan_maximum = record { meets = rival (plan_by tie N) plan_legal; largest = most }
      where
        P : List ℕ
        P = plan_parents tie N

        T : Tree
        T = plan_by tie N

        lst : Least (range 1 (size N)) (slack N T) (worst_slack N T)
        lst = worst_is_least N T n1

        fuel : 2 * (size N - 1) + 1 ≡ length P
        fuel = omega (arith, plan_legal.shape.size)

        most : (r : ℤ) → Kraft N.branch (own_slacks N) r → r ≤ℤ worst_slack N T
        most r κ =
            let y : ℕ = lst.at in
            let h : (1 ≤ y) × (y ≤ size N) = sinks_in_lem y lst.in_list in
            let e : slack N T y ≡ own_slack N y -ℤ pos (depth_in (length P) (parent_of P) y * N.branch) = settled_is N P plan_legal.shape y h.0 h.1 in
            let m : KraftOver N.branch D.sinks (own_slack N) r =
            kraft_over_bag N.branch (own_slack N) r (range 1 (size N)) D.sinks (suc (size N)) (λ x. range_count (size N) x ∙ sym (D.all x)) (λ x q. omega (arith, sinks_in_lem x q)) (kraft_over N.branch (own_slack N) r (range 1 (size N)) κ) in
            let b : r ≤ℤ (own_slack N y -ℤ pos (depth_in (length P) (parent_of P) y * N.branch)) = subst (λ F. r ≤ℤ (own_slack N y -ℤ pos (depth_in F (parent_of P) y * N.branch))) fuel (D.grown.best r m y (omega (arith, once y h.0 h.1))) in
            subst (λ z. r ≤ℤ z) (sym e ∙ lst.is) b

    -- the worst slack is the Kraft maximum, also as it is computed
    pub plan_computed : kraft_maximum N.branch (own_slacks N) ≡ worst_slack N (plan_by tie N)
    plan_computed = maximum_one N.branch (own_slacks N) _ _ (maximum_of_net N c1 n1) plan_maximum

    -- no legal tree has a larger worst slack
    pub plan_best : (R : Tree) → LegalTree N R → worst_slack N R ≤ℤ worst_slack N (plan_by tie N)
    plan_best R L = plan_maximum.largest (worst_slack N R) (rival R L)

    -- refusal 5: "no legal tree has worst slack t or more" just where the planned tree has less
    pub need_not : (t : ℤ) → worst_slack N (plan_by tie N) <ℤ t → (R : Tree) → LegalTree N R → worst_slack N R <ℤ t
    need_not t h R L = let k : worst_slack N R ≤ℤ worst_slack N (plan_by tie N) = plan_best R L in omega (arith, whole)

    -- "After every insertion the sum of 2^-(branch points above the sink), over the sinks inserted, is exactly 1", for any m: j insertions made, S the sinks inserted
    pub kraft_sum : (j : ℕ) → j < size N → (m : ℕ) → ((s : ℕ) → count s (take (suc j) (order N)) ≢ 0 → depth N (unsettled N (parents_after tie N j)) s ≤ m)
        → sum_over (take (suc j) (order N)) (λ s. 2 ^ (m - depth N (unsettled N (parents_after tie N j)) s)) ≡ 2 ^ m
    kraft_sum j jn m h =
        bag (suc (size N)) (take (suc j) (order N)) E.sinks f (λ x q. omega (arith, E.grown.tree.low x (omega (arith, E.all x)))) (λ x q. omega (arith, E.grown.tree.low x q)) (λ x q. sym (E.all x))
        ∙ sum_over_cong E.sinks f (λ s. 2 ^ (m - depth_in F (parent_of P) s)) (λ s q. ap (λ z. 2 ^ (m - z)) (deep s q))
        ∙ kraft_at t m (λ s q. subst (λ z. z ≤ m) (deep s q) (h s (omega (arith, E.all s))))
      where
        E : Done tie N c1 j (λ y. count y (take (suc j) (order N))) (parents_after tie N j)
        E = after_insertions tie N c1 j jn

        P : List ℕ
        P = parents_after tie N j

        F : ℕ
        F = length P

        f : ℕ → ℕ
        f s = 2 ^ (m - depth N (unsettled N P) s)

        t : PartTree (size N) E.sinks j F (parent_of P)
        t = tree_more E.grown.tree F (omega (arith, E.grown.size))

        deep : (s : ℕ) → count s E.sinks ≢ 0 → depth N (unsettled N P) s ≡ depth_in F (parent_of P) s
        deep s q = depth_is t s q
