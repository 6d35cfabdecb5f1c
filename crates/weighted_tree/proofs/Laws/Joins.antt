-- Joining step by step: what holds after k joins; the end is a legal tree of the least sum of weight times depth, its numbers rise, and only the last hangs on the root. Assumes nothing.
use mathlib.Core.Path.{◌≡◌, refl, sym, ap, ◌∙◌}
use mathlib.Core.Logic.{◌≢◌, ◌⊎◌, inl, inr}
use mathlib.Core.List.{List, [], ◌∷◌, map}
use Prim.Native.Nat.{ℕ, zero, suc, ◌+◌, ◌*◌, ◌-◌, ◌≤◌, ◌<◌}
use native.Mathlib.Omega.{arith}
use lib.ListN.{length, replicate, length-set, length-replicate, length-append, get_or-append}
use Rattle.tree.specs.Lists.{sum_over, delta, count, down, range}
use Rattle.tree.specs.Tree.{parent_of, Legal}
use Rattle.tree.specs.Planning.{put}
use Rattle.tree.specs.Weights.{weight_of}
use Rattle.tree.proofs.Laws.Lists.Sums.{delta_eq, equal?, sum_over_cong, down_in}
use Rattle.tree.proofs.Laws.Kraft.GapSums.{depth_in}
use Rattle.tree.proofs.Laws.Trees.LegalTrees.{hangs, put_same, put_other}
use Rattle.tree.proofs.Laws.Lists.Tables.{table_length, table_at}
use Rattle.weighted_tree.specs.Joining.{Joining, join_two, join_next, unjoined, joined_after, joined_parents}
use Rattle.weighted_tree.proofs.Laws.Exchange.{cost}
use Rattle.weighted_tree.proofs.Laws.Forests.{Forest, Pick, JoinStep, forest_start, forest_join, rest, joint_le}
use Rattle.weighted_tree.proofs.Laws.Costs.{forest_legal, forest_best}
use Rattle.weighted_tree.proofs.Laws.Picking.{pick}

-- after k joins of n sinks of the weights w
pub record Held (n : ℕ) (w : List ℕ) (k : ℕ) (J : Joining) : Type 0 where
  pub totals_long : suc (length J.totals) ≡ 2 * n
  pub parents_long : suc (length J.parents) ≡ 2 * n
  pub unborn : (v : ℕ) → n + k < v → parent_of J.parents v ≡ 0
  pub sinks : (s : ℕ) → 1 ≤ s → s ≤ n → weight_of J.totals s ≡ weight_of w s
  pub rising : (v : ℕ) → 1 ≤ v → (parent_of J.parents v ≡ 0) ⊎ ((v < parent_of J.parents v) × (n < parent_of J.parents v))
  pub active : List ℕ
  pub forest : Forest n k active (weight_of J.totals) (parent_of J.parents)

-- ---- the start

module _ (n : ℕ) (w : List ℕ) where
  sinks_are : List ℕ
  sinks_are = map (weight_of w) (range 1 n)

  sinks_length : length sinks_are ≡ n
  unfolding sinks_are
  sinks_length = table_length (weight_of w) 1 n

  pub start_weight : (s : ℕ) → 1 ≤ s → s ≤ n → weight_of (unjoined n w).totals s ≡ weight_of w s
  unfolding sinks_are
  start_weight zero h l = refl
  start_weight (suc i) h l =
      let e : 1 + i ≡ suc i = omega arith in
      get_or-append sinks_are (replicate (n - 1) 0) 0 i (omega (arith, sinks_length)) ∙ table_at (weight_of w) 0 1 n i (omega arith) ∙ ap (weight_of w) e

  held_start : 1 ≤ n → Held n w 0 (unjoined n w)
  unfolding sinks_are
  held_start h = record {
    totals_long = omega (arith, length-append sinks_are (replicate (n - 1) 0), sinks_length, length-replicate (n - 1) zero);
    parents_long = omega (arith, length-replicate (2 * n - 1) zero);
    unborn = λ v l. hangs (2 * n - 1) v;
    sinks = start_weight;
    rising = λ v l. inl (hangs (2 * n - 1) v);
    active = down 0 n;
    forest = forest_start n (weight_of (unjoined n w).totals) (parent_of (unjoined n w).parents) (λ v l. hangs (2 * n - 1) v);
  }

-- ---- a join

-- its stores
module _ (n k x y : ℕ) (J : Joining) (n_apart : x ≢ y) (x_in : (1 ≤ x) × (x ≤ n + k)) (y_in : (1 ≤ y) × (y ≤ n + k))
    (totals_long : n + suc k ≤ length J.totals) (parents_long : n + suc k ≤ length J.parents) (unborn : parent_of J.parents (n + suc k) ≡ 0) where
  abbrev b : ℕ
  b = n + suc k

  joined : JoinStep n k x y (weight_of J.totals) (parent_of J.parents) (weight_of (join_two J (n + suc k) x y).totals) (parent_of (join_two J (n + suc k) x y).parents)
  joined =
      let W : List ℕ = J.totals in
      let P : List ℕ = J.parents in
      record {
        weight = put_same W b (weight_of W x + weight_of W y) (omega arith) totals_long;
        weight_old = λ z d. put_other W b (weight_of W x + weight_of W y) z (omega arith) d;
        px = put_other (put P x b) y b x y_in.0 n_apart ∙ put_same P x b x_in.0 (omega arith);
        py = put_same (put P x b) y b y_in.0 (rw length-set (omega arith));
        pb = put_other (put P x b) y b b y_in.0 (omega arith) ∙ put_other P x b b x_in.0 (omega arith) ∙ unborn;
        old = λ z dx dy db. put_other (put P x b) y b z y_in.0 dy ∙ put_other P x b z x_in.0 dx;
      }

module _ (n : ℕ) (w : List ℕ) (k : ℕ) (J : Joining) (h : Held n w k J) where
  -- any two that may be joined
  held_join : (x y : ℕ) → suc k < n → Pick n k (weight_of J.totals) (parent_of J.parents) x y → Held n w (suc k) (join_two J (n + suc k) x y)
  held_join x y more c = record {
    totals_long = rw length-set h.totals_long;
    parents_long = rw (length-set, length-set) h.parents_long;
    unborn = λ v l. j.old v (omega (arith, c.x_in)) (omega (arith, c.y_in)) (omega arith) ∙ h.unborn v (omega arith);
    sinks = λ s f l. j.weight_old s (omega arith) ∙ h.sinks s f l;
    rising = λ v l. rises v l (equal? v x) (equal? v y) (equal? v (n + suc k));
    active = (n + suc k) ∷ rest n k h.active _ _ x y _ _ h.forest c j;
    forest = forest_join n k h.active _ _ x y _ _ h.forest c j;
  }
    where
      j : JoinStep n k x y (weight_of J.totals) (parent_of J.parents) (weight_of (join_two J (n + suc k) x y).totals) (parent_of (join_two J (n + suc k) x y).parents)
      j = joined n k x y J c.apart c.x_in c.y_in (omega (arith, h.totals_long)) (omega (arith, h.parents_long)) (h.unborn (n + suc k) (omega arith))

      P' : List ℕ
      P' = (join_two J (n + suc k) x y).parents

      rises : (v : ℕ) → 1 ≤ v → (v ≡ x) ⊎ (v ≢ x) → (v ≡ y) ⊎ (v ≢ y) → (v ≡ n + suc k) ⊎ (v ≢ n + suc k) → (parent_of P' v ≡ 0) ⊎ ((v < parent_of P' v) × (n < parent_of P' v))
      rises v l (inl e) dy db = inr (omega (arith, c.x_in, j.px, ap (parent_of P') e))
      rises v l (inr dx) (inl e) db = inr (omega (arith, c.y_in, j.py, ap (parent_of P') e))
      rises v l (inr dx) (inr dy) (inl e) = inl (ap (parent_of P') e ∙ j.pb)
      rises v l (inr dx) (inr dy) (inr db) = go (h.rising v l)
        where
          go : (parent_of J.parents v ≡ 0) ⊎ ((v < parent_of J.parents v) × (n < parent_of J.parents v)) → (parent_of P' v ≡ 0) ⊎ ((v < parent_of P' v) × (n < parent_of P' v))
          go (inl e) = inl (j.old v dx dy db ∙ e)
          go (inr q) = inr (omega (arith, j.old v dx dy db))

  -- no joint weight exceeds that of all the sinks
  pub held_joint : (x y : ℕ) → suc k < n → Pick n k (weight_of J.totals) (parent_of J.parents) x y → weight_of J.totals x + weight_of J.totals y ≤ sum_over (down 0 n) (weight_of w)
  held_joint x y more c =
      let j : JoinStep n k x y (weight_of J.totals) (parent_of J.parents) (weight_of (join_two J (n + suc k) x y).totals) (parent_of (join_two J (n + suc k) x y).parents)
      = joined n k x y J c.apart c.x_in c.y_in (omega (arith, h.totals_long)) (omega (arith, h.parents_long)) (h.unborn (n + suc k) (omega arith)) in
      omega (
        arith,
        joint_le n k h.active _ _ x y _ _ h.forest c j,
        sum_over_cong (down 0 n) (weight_of J.totals) (weight_of w) (λ s q. h.sinks s (omega (arith, down_in 0 n s q)) (omega (arith, down_in 0 n s q))),
      )

  held_next : suc k < n → Held n w (suc k) (join_next n k J)
  held_next more = held_join _ _ more (pick n k h.active J h.forest more)

module _ (n : ℕ) (w : List ℕ) (n1 : 1 ≤ n) where
  pub held_after : (k : ℕ) → k < n → Held n w k (joined_after n w k)
  held_after zero l = held_start n w n1
  held_after (suc k) l = held_next n w k (joined_after n w k) (held_after k (omega arith)) l

  -- ---- the end

  end : Held n w (n - 1) (joined_after n w (n - 1))
  end = held_after (n - 1) (omega arith)

  pub joined_legal : Legal n (joined_parents n w)
  unfolding joined_parents
  joined_legal = forest_legal n end.active (joined_after n w (n - 1)).parents _ n1 end.parents_long end.forest

  -- the sum of weight times depth is the least
  pub joined_best : (Q : List ℕ) → Legal n Q → cost (down 0 n) (weight_of w) (depth_in (2 * n - 1) (parent_of (joined_parents n w))) ≤ cost (down 0 n) (weight_of w) (depth_in (2 * n - 1) (parent_of Q))
  unfolding joined_parents
  joined_best Q L =
      let P : List ℕ = (joined_after n w (n - 1)).parents in
      let W : ℕ → ℕ = weight_of (joined_after n w (n - 1)).totals in
      let own : (d : ℕ → ℕ) → cost (down 0 n) W d ≡ cost (down 0 n) (weight_of w) d =
      λ d. sum_over_cong (down 0 n) (λ s. W s * d s) (λ s. weight_of w s * d s) (λ s q. ap (λ z. z * d s) (end.sinks s (omega (arith, down_in 0 n s q)) (omega (arith, down_in 0 n s q)))) in
      omega (arith, own (depth_in (2 * n - 1) (parent_of P)), own (depth_in (2 * n - 1) (parent_of Q)), forest_best n end.active P W n1 end.parents_long end.forest Q L)

  -- each vertex hangs on the root, or on a branch point of a higher number
  pub joined_rising : (v : ℕ) → 1 ≤ v → (parent_of (joined_parents n w) v ≡ 0) ⊎ ((v < parent_of (joined_parents n w) v) × (n < parent_of (joined_parents n w) v))
  unfolding joined_parents
  joined_rising = end.rising

  -- only the last one made hangs on the root: where there are two sinks or more, no sink
  pub joined_last : (v : ℕ) → 1 ≤ v → v < 2 * n → parent_of (joined_parents n w) v ≡ 0 → suc v ≡ 2 * n
  unfolding joined_parents
  joined_last v h l e =
      let last : parent_of P (2 * n - 1) ≡ 0 = top (end.rising (2 * n - 1) (omega arith)) in
      let one : length end.active ≡ 1 = omega (arith, end.forest.size) in
      let i : v ≡ 2 * n - 1 = alone end.active one v (2 * n - 1) (active v h l e) (active (2 * n - 1) (omega arith) (omega arith) last) in
      omega arith
    where
      P : List ℕ
      P = (joined_after n w (n - 1)).parents

      active : (v : ℕ) → 1 ≤ v → v < 2 * n → parent_of P v ≡ 0 → count v end.active ≢ 0
      active v h l e = omega (arith, end.forest.alive v h (omega arith), ap (delta 0) e)

      top : (parent_of P (2 * n - 1) ≡ 0) ⊎ ((2 * n - 1 < parent_of P (2 * n - 1)) × (n < parent_of P (2 * n - 1))) → parent_of P (2 * n - 1) ≡ 0
      top (inl e) = e
      top (inr r) = absurd (omega (arith, end.forest.inside (2 * n - 1) (omega arith)))

      alone : (l : List ℕ) → length l ≡ 1 → (x y : ℕ) → count x l ≢ 0 → count y l ≢ 0 → x ≡ y
      alone [] e x y p q = absurd (omega arith)
      alone (a ∷ []) e x y p q = delta_eq x a (omega arith) ∙ sym (delta_eq y a (omega arith))
      alone (a ∷ (b ∷ l)) e x y p q = absurd (omega arith)
