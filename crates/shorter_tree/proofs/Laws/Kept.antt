-- No point moves, no sink loses slack, and wire does not grow. Assumes nothing.
use Prim.Native.Nat.{ℕ, zero, suc, ◌+◌, ◌-◌, ◌*◌, ◌≤◌, ◌<◌}
use mathlib.Core.Path.{◌≡◌, refl, sym, ap, ap₂, ◌∙◌, subst}
use mathlib.Core.Logic.{◌≢◌, ◌⊎◌, inl, inr}
use mathlib.Core.List.{List, ◌∷◌, ◌++◌, map}
use native.Mathlib.Omega.{arith}
use native.Mathlib.Nat.{mul-le-mul_left, add_comm}
use native.Mathlib.Numerals.{add-one}
use lib.Dec.{ltb}
use lib.ListN.{length, get_or, length-map}
use lib.IntN.{ℤ, pos, ◌-ℤ◌}
use lib.Signed.{◌≤ℤ◌}
use Rattle.quantities.specs.Inner.Linear.{whole, -is}
use Rattle.quantities.specs.declared.point.Point.{Point}
use Rattle.quantities.specs.Delay.{delay}
use Rattle.quantities.specs.Distance.{distance}
use Rattle.quantities.proofs.Laws.Distance.{triangle}
use Rattle.tree.specs.Lists.{sum_over, delta, range}
use Rattle.tree.specs.Net.{Net, size, required}
use Rattle.tree.specs.Weights.{weight_of}
use Rattle.tree.specs.Tree.{Tree, parent, parent_of, ancestor, place, Legal, LegalTree}
use Rattle.tree.specs.Measures.{path_up, path, path_delay, depth, edge_delay, edge_length, one_if, slack, worst_slack, wire_length}
use Rattle.tree.proofs.Laws.Lists.Sums.{sum, sum_mono, sum-add, sum_scale, sum_places, delta_self, equal?}
use Rattle.tree.proofs.Laws.Trees.StepsToRoot.{legal_reach}
use Rattle.tree.proofs.Laws.Measures.VertexDelays.{between, between_metric}
use Rattle.tree.proofs.Laws.Trees.Defects.{range_in, in_range}
use Rattle.tree.proofs.Laws.Planning.AnyTieRule.{worst_is_least}
use Rattle.tree.proofs.Laws.Planning.KeepsBest.{Least}
use Rattle.tree.proofs.Laws.Planning.BeforeSettling.{sum_over_range}
use Rattle.tree.proofs.Laws.Trees.Walks.{path_same}
use Rattle.shorter_tree.specs.Deletion.{drop_at, without, weights_without, branch_of, renumber, above, pruned_at, pruned}
use Rattle.shorter_tree.specs.Inner.Arrays.{skip, old}
use Rattle.shorter_tree.specs.Kept.{Kept, Deletable}
use Rattle.shorter_tree.proofs.Laws.Dropping.{skip_low, skip_le, gone_at, gone_length, gone_map, gone_left, gone_right, sum_skip}
use Rattle.shorter_tree.proofs.Laws.Numbers.{old_number, number_old, number_order, old_stays, stands, Stands, low, mid, high}
use Rattle.shorter_tree.proofs.Laws.ShorterPaths.{above_gone, above_other, above_stays, Walk, walk}
use Rattle.shorter_tree.proofs.Laws.ShorterLegal.{pruned_step, pruned_legal, childless, branch_point, up_b, old_in, old_sink}

-- ---- where the vertices stand, for any two that go

module _ (N : Net) (T : Tree) (s b : ℕ) (s1 : 1 ≤ s) (sn : s ≤ size N) (nb : size N < b) where
  shorter_list : drop_at s (drop_at b (N.root ∷ (map (λ s. s.point) N.sinks ++ T.points)))
      ≡ N.root ∷ (map (λ s. s.point) (drop_at (s - 1) N.sinks) ++ drop_at (b - suc (size N)) T.points)
  shorter_list =
      let M : List Point = map (λ s. s.point) N.sinks in
      let lm : length M ≡ size N = length-map N.sinks (λ s. s.point) in
      let es : s ≡ suc (s - 1) = omega arith in
      let eb : b ≡ suc (length M + (b - suc (size N))) = omega arith in
      ap₂ (λ i j. drop_at i (drop_at j (N.root ∷ (M ++ T.points)))) es eb
      ∙ ap (λ l. N.root ∷ drop_at (s - 1) l) (gone_right M T.points (b - suc (size N)))
      ∙ ap (◌∷◌ N.root) (gone_left M (drop_at (b - suc (size N)) T.points) (s - 1) (omega arith))
      ∙ ap (λ l. N.root ∷ (l ++ drop_at (b - suc (size N)) T.points)) (sym (gone_map (λ s. s.point) N.sinks (s - 1)))

  pub place_old : (w : ℕ) → place (without N s) (pruned_at (size N) T s b) w ≡ place N T (old s b w)
  place_old w =
      let L : List Point = N.root ∷ (map (λ s. s.point) N.sinks ++ T.points) in
      ap (λ l. get_or l w N.root) (sym shorter_list) ∙ gone_at (drop_at b L) s w N.root ∙ gone_at L b (skip s w) N.root

pub required_old : (N : Net) (s b w : ℕ) → 1 ≤ s → s ≤ size N → size N < b → 1 ≤ w → w < size N → required (without N s) w ≡ required N (old s b w)
required_old N zero b w s1 sn nb h l = absurd (omega arith)
required_old N (suc s) b zero s1 sn nb h l = absurd (omega arith)
required_old N (suc s) b (suc i) s1 sn nb h l =
    let e : suc s - 1 ≡ s = omega arith in
    ap (λ j. get_or (map (λ s. s.required) (drop_at j N.sinks)) i (pos 0)) e
    ∙ ap (λ r. get_or r i (pos 0)) (gone_map (λ s. s.required) N.sinks s)
    ∙ gone_at (map (λ s. s.required) N.sinks) s i (pos 0)
    ∙ ap (required N) (sym (skip_low b (suc (skip s i)) (omega (arith, skip_le s i))))

pub weight_old : (w : List ℕ) (n s b x : ℕ) → 1 ≤ s → s ≤ n → n < b → 1 ≤ x → x < n → weight_of (weights_without w s) x ≡ weight_of w (old s b x)
weight_old w n zero b x s1 sn nb h l = absurd (omega arith)
weight_old w n (suc s) b zero s1 sn nb h l = absurd (omega arith)
weight_old w n (suc s) b (suc i) s1 sn nb h l =
    let e : suc s - 1 ≡ s = omega arith in
    ap (λ j. get_or (drop_at j w) i 0) e ∙ gone_at w s i 0 ∙ ap (weight_of w) (sym (skip_low b (suc (skip s i)) (omega (arith, skip_le s i))))

-- one sink less
pub size_less : (N : Net) (s : ℕ) → 1 ≤ s → s ≤ size N → suc (size (without N s)) ≡ size N
size_less N s s1 sn = gone_length N.sinks (s - 1) (omega arith)

slack_le : (a a' : ℤ) (A B A' B' : ℕ) → a' ≡ a → A' ≤ A → B' ≤ B → (a -ℤ pos A -ℤ pos B) ≤ℤ (a' -ℤ pos A' -ℤ pos B')
slack_le a a' A B A' B' e h l = subst (λ z. (a -ℤ pos A -ℤ pos B) ≤ℤ (z -ℤ pos A' -ℤ pos B')) (sym e)
    (omega (arith, whole, -is (a -ℤ pos A) (pos B), -is a (pos A), -is (a -ℤ pos A') (pos B'), -is a (pos A')))

-- ---- a legal tree

module _ (N : Net) (T : Tree) (s : ℕ) (legal : LegalTree N T) (n2 : 2 ≤ size N) (s1 : 1 ≤ s) (sn : s ≤ size N) where
  abbrev n : ℕ
  n = size N

  abbrev m : ℕ
  m = size (without N s)

  abbrev P : List ℕ
  P = T.parents

  abbrev L : Legal (size N) T.parents
  L = legal.shape

  abbrev b : ℕ
  b = branch_of T s

  abbrev a : ℕ
  a = parent_of P b

  abbrev N' : Net
  N' = without N s

  abbrev T' : Tree
  T' = pruned N T s

  nb : n < b
  nb = (branch_point n P L n2 s s1 sn).0

  sb : s < b
  sb = omega (arith, nb)

  less : suc m ≡ n
  less = size_less N s s1 sn

  no_child : (v : ℕ) → parent_of P v ≢ s
  no_child = childless n P L n2 s s1 sn

  ab : a ≢ b
  ab = up_b n P L n2 s s1 sn

  shape : Legal m T'.parents
  shape = pruned_legal n P L n2 s s1 sn m less

  pub shorter_legal : LegalTree N' T'
  shorter_legal = record {
    shape = shape;
    placed = omega (arith, gone_length T.points (b - suc n) (omega (arith, legal.placed, nb, (branch_point n P L n2 s s1 sn).1)), legal.placed, less);
  }

  -- the new ends of each edge
  step : (w : ℕ) → parent T' w ≡ renumber s b (above b a (parent T (old s b w)))
  step = pruned_step P s b s1 sb

  place_new : (w : ℕ) → place N' T' w ≡ place N T (old s b w)
  place_new = place_old N T s b s1 sn nb

  upper : (w : ℕ) → place N' T' (parent T' w) ≡ place N T (above b a (parent T (old s b w)))
  upper w =
      let x : ℕ = parent T (old s b w) in
      let q : (above b a x ≢ s) × (above b a x ≢ b) = above_stays s b a x (no_child b) ab (no_child (old s b w)) in
      place_new (parent T' w) ∙ ap (place N T) (ap (old s b) (step w) ∙ old_number s b sb (above b a x) q.0 q.1)

  pub unmoved : (v : ℕ) → v ≢ s → v ≢ b → place N' T' (renumber s b v) ≡ place N T v
  unmoved v ds db = place_new (renumber s b v) ∙ ap (place N T) (old_number s b sb v ds db)

  pub in_order : (u v : ℕ) → u ≢ s → u ≢ b → v ≢ s → v ≢ b → u < v → renumber s b u < renumber s b v
  in_order = number_order s b sb

  pub no_holes : (w : ℕ) → w < 2 * m → (v : ℕ) × (v < 2 * n) × ((v ≢ s) × (v ≢ b)) × (renumber s b v ≡ w)
  no_holes w h = (old s b w, old_in n P L n2 s s1 sn m less w h, old_stays s b sb w, number_old s b sb w)

  -- the new parent of a vertex that stays
  parent_new : (v : ℕ) → v ≢ s → v ≢ b → parent T' (renumber s b v) ≡ renumber s b (above b a (parent T v))
  parent_new v ds db = step (renumber s b v) ∙ ap (λ z. renumber s b (above b a (parent T z))) (old_number s b sb v ds db)

  pub sibling : (v : ℕ) → v ≢ s → v ≢ b → parent T v ≡ b → parent T' (renumber s b v) ≡ renumber s b (parent T b)
  sibling v ds db e = parent_new v ds db ∙ ap (renumber s b) (ap (above b a) e ∙ above_gone b a)

  pub others : (v : ℕ) → v ≢ s → v ≢ b → parent T v ≢ b → parent T' (renumber s b v) ≡ renumber s b (parent T v)
  others v ds db d = parent_new v ds db ∙ ap (renumber s b) (above_other b a (parent T v) d)

  -- ---- slack

  sink_in : (t : ℕ) → 1 ≤ t → t ≤ n → t ≢ s → (1 ≤ renumber s b t) × (renumber s b t ≤ m)
  sink_in t h l d = go (renumber s b t) (stands s b sb t d (omega (arith, nb)))
    where
      go : (w : ℕ) → Stands s b t w → (1 ≤ w) × (w ≤ m)
      go w (low q e) = omega (arith, less)
      go w (mid q c e) = omega (arith, less)
      go w (high q e) = absurd (omega (arith, nb))

  pub same_required : (t : ℕ) → 1 ≤ t → t ≤ n → t ≢ s → required N' (renumber s b t) ≡ required N t
  same_required t h l d =
      let i : (1 ≤ renumber s b t) × (renumber s b t ≤ m) = sink_in t h l d in
      required_old N s b (renumber s b t) s1 sn nb i.0 (omega (arith, less)) ∙ ap (required N) (old_number s b sb t d (omega (arith, nb)))

  pub same_weight : (w : List ℕ) (t : ℕ) → 1 ≤ t → t ≤ n → t ≢ s → weight_of (weights_without w s) (renumber s b t) ≡ weight_of w t
  same_weight w t h l d =
      let i : (1 ≤ renumber s b t) × (renumber s b t ≤ m) = sink_in t h l d in
      weight_old w n s b (renumber s b t) s1 sn nb i.0 (omega (arith, less)) ∙ ap (weight_of w) (old_number s b sb t d (omega (arith, nb)))

  edge_new : (w : ℕ) → edge_delay N' T' w ≡ between N T (above b a (parent T (old s b w))) (old s b w)
  edge_new w = ap₂ (delay N.wire) (upper w) (place_new w)

  pub slack_kept : (t : ℕ) → 1 ≤ t → t ≤ n → t ≢ s → slack N T t ≤ℤ slack N' T' (renumber s b t)
  slack_kept t h l d =
      let F : ℕ = length P in
      let w : ℕ = renumber s b t in
      let i : (1 ≤ w) × (w ≤ m) = sink_in t h l d in
      let eF : 2 * n - 1 ≡ F = omega (arith, L.size) in
      let eF' : 2 * m - 1 ≡ length T'.parents = omega (arith, shape.size) in
      let r : ancestor (parent T) F t ≡ 0 = ap (λ k. ancestor (parent T) k t) (sym eF) ∙ legal_reach n P L t (omega arith) in
      let r' : ancestor (parent T') (length T'.parents) w ≡ 0 = ap (λ k. ancestor (parent T') k w) (sym eF') ∙ legal_reach m T'.parents shape w (omega arith) in
      let k : Walk n m s b less s1 sn nb (parent T) (parent T') refl no_child ab step (between N T) (between_metric N T) (edge_delay N' T') edge_new F t
      = walk n m s b less s1 sn nb (parent T) (parent T') refl no_child ab step (between N T) (between_metric N T) (edge_delay N' T') edge_new F t d r in
      let e : renumber s b (above b a t) ≡ w = ap (renumber s b) (above_other b a t (omega (arith, nb))) in
      let q : path_up (parent T') k.steps (renumber s b (above b a t)) ≡ path T' w =
      ap (path_up (parent T') k.steps) e ∙ path_same (parent T') k.steps (length T'.parents) w refl (ap (ancestor (parent T') k.steps) (sym e) ∙ k.reach) r' in
      let D : path_delay N' T' w ≤ path_delay N T t = omega (arith, k.delay, ap (λ z. sum_over z (edge_delay N' T')) q) in
      let C : depth N' T' w ≤ depth N T t = omega (arith, k.depth, ap (λ z. sum_over z (λ u. one_if (ltb m u))) q) in
      slack_le (required N t) (required N' w) (path_delay N T t) (N.branch * depth N T t) (path_delay N' T' w) (N.branch * depth N' T' w) (same_required t h l d) D (mul-le-mul_left N.branch C)

  pub worst_kept : worst_slack N T ≤ℤ worst_slack N' T'
  worst_kept =
      let W : Least (range 1 n) (slack N T) (worst_slack N T) = worst_is_least N T (omega arith) in
      let W' : Least (range 1 m) (slack N' T') (worst_slack N' T') = worst_is_least N' T' (omega (arith, less)) in
      let w : ℕ = W'.at in
      let i : (1 ≤ w) × (w < 1 + m) = range_in 1 m w W'.in_list in
      let t : ℕ = old s b w in
      let o : (1 ≤ t) × (t ≤ n) = old_sink n P L n2 s s1 sn m less w i.0 (omega arith) in
      let x : slack N T t ≤ℤ slack N' T' (renumber s b t) = slack_kept t o.0 o.1 (old_stays s b sb w).0 in
      let y : slack N T t ≤ℤ worst_slack N' T' = subst (λ z. slack N T t ≤ℤ z) (ap (slack N' T') (number_old s b sb w) ∙ W'.is) x in
      let z : worst_slack N T ≤ℤ slack N T t = W.below t (in_range 1 n t o.0 (omega arith)) in
      omega (arith, whole)

  -- ---- wire

  abbrev D : ℕ → ℕ → ℕ
  D u v = distance (place N T u) (place N T v)

  -- an edge below b reaches a through b
  abbrev long : ℕ → ℕ
  long v = edge_length N T v + D a b * delta b (parent T v)

  edge_le : (w : ℕ) → edge_length N' T' w ≤ long (old s b w)
  edge_le w = subst (λ z. z ≤ long (old s b w)) (sym (ap₂ distance (upper w) (place_new w))) (go (old s b w) (equal? (parent T (old s b w)) b))
    where
      go : (v : ℕ) → (parent T v ≡ b) ⊎ (parent T v ≢ b) → D (above b a (parent T v)) v ≤ long v
      go v (inl e) =
          let f : above b a (parent T v) ≡ a = ap (above b a) e ∙ above_gone b a in
          let one : delta b (parent T v) ≡ 1 = ap (delta b) e ∙ delta_self b in
          omega (arith, ap (λ z. D z v) f, ap (λ z. D z v) e, triangle (place N T a) (place N T b) (place N T v), ap (λ z. D a b * z) one)
      go v (inr d) = omega (arith, ap (λ z. D z v) (above_other b a (parent T v) d))

  pub wire_kept : wire_length N' T' ≤ wire_length N T
  unfolding wire_length
  wire_kept =
      let k : ℕ = 2 * m - 1 in
      let en : 2 * n - 1 ≡ suc (suc k) = omega (arith, less, n2) in
      let A : sum_over (range 1 k) (edge_length N' T') ≡ sum 1 k (edge_length N' T') = sum_over_range 1 k (edge_length N' T') in
      let B : sum 1 k (edge_length N' T') ≤ sum 1 k (λ w. long (old s b w)) = sum_mono 1 k (edge_length N' T') (λ w. long (old s b w)) (λ w p q. edge_le w) in
      let C : sum 1 k (λ w. long (old s b w)) + long (skip b s) ≡ sum 1 (suc k) (λ w. long (skip b w)) = sum_skip 1 k s (λ w. long (skip b w)) s1 (omega (arith, less, n2)) in
      let E : sum 1 (suc k) (λ w. long (skip b w)) + long b ≡ sum 1 (suc (suc k)) long = sum_skip 1 (suc k) b long (omega (arith, sb)) (omega (arith, branch_point n P L n2 s s1 sn, less)) in
      let G : sum 1 (suc (suc k)) long ≡ sum 1 (suc (suc k)) (edge_length N T) + sum 1 (suc (suc k)) (λ v. D a b * delta b (parent T v)) = sum-add 1 (suc (suc k)) (edge_length N T) (λ v. D a b * delta b (parent T v)) in
      let H : sum 1 (suc (suc k)) (λ v. D a b * delta b (parent T v)) ≡ D a b * sum 1 (suc (suc k)) (λ v. delta b (parent T v)) = sum_scale 1 (suc (suc k)) (D a b) (λ v. delta b (parent T v)) in
      let eP : suc (suc k) ≡ length P = omega (arith, L.size) in
      let K : sum 1 (suc (suc k)) (λ v. delta b (parent T v)) ≡ 2 =
      ap (λ j. sum 1 j (λ v. delta b (parent T v))) eP ∙ sum_places 1 P (delta b) (λ v. delta b (parent T v)) (λ i l. rw (add_comm 1 i, add-one)) ∙ L.branch b nb (branch_point n P L n2 s s1 sn).1 in
      let J : sum_over (range 1 (2 * n - 1)) (edge_length N T) ≡ sum 1 (suc (suc k)) (edge_length N T) = sum_over_range 1 (2 * n - 1) (edge_length N T) ∙ ap (λ j. sum 1 j (edge_length N T)) en in
      let es : long (skip b s) ≡ long s = ap long (skip_low b s sb) in
      let one : delta b b ≡ 1 = delta_self b in
      omega (arith, A, B, C, E, G, H, J, es, ap (λ z. D a b * z) K, ap (λ z. D a b * z) one)

pub kept : (N : Net) (w : List ℕ) (T : Tree) (s : ℕ) → LegalTree N T → Deletable N s → Kept N w T s
kept N w T s legal d =
    let n2 = d.0 in
    let s1 = d.1 in
    let sn = d.2 in
    record {
      one_less = size_less N s s1 sn;
      same_head = (refl, refl, refl, refl);
      legal = shorter_legal N T s legal n2 s1 sn;
      in_order = λ u v a b. in_order N T s legal n2 s1 sn u v a.0 a.1 b.0 b.1;
      no_holes = no_holes N T s legal n2 s1 sn;
      sibling = λ v a. sibling N T s legal n2 s1 sn v a.0 a.1;
      others = λ v a. others N T s legal n2 s1 sn v a.0 a.1;
      unmoved = λ v a. unmoved N T s legal n2 s1 sn v a.0 a.1;
      same_required = λ t a. same_required N T s legal n2 s1 sn t a.0 a.1 a.2;
      same_weight = λ t a. same_weight N T s legal n2 s1 sn w t a.0 a.1 a.2;
      slack_kept = λ t a. slack_kept N T s legal n2 s1 sn t a.0 a.1 a.2;
      worst_kept = worst_kept N T s legal n2 s1 sn;
      wire_kept = wire_kept N T s legal n2 s1 sn;
    }
