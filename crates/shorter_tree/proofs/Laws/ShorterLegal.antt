-- The shorter tree is legal. Assumes nothing.
use Prim.Native.Nat.{ℕ, zero, suc, ◌+◌, ◌-◌, ◌*◌, ◌^◌, ◌≤◌, ◌<◌, zero-le}
use mathlib.Core.Path.{◌≡◌, refl, sym, ap, ap₂, ◌∙◌, subst}
use mathlib.Core.Logic.{◌≢◌, ◌⊎◌, inl, inr}
use mathlib.Core.List.{List, [], ◌∷◌, map}
use native.Mathlib.Omega.{arith}
use native.Mathlib.Decide.{dec_le}
use native.Mathlib.Nat.{sub-zero}
use lib.ListN.{length, get_or, length-map, get_or-eq_default, get_or-map}
use lib.Pow.{pow_pos}
use Rattle.tree.specs.Lists.{sum_over, delta, count, down}
use Rattle.tree.specs.Tree.{parent_of, ancestor, Reached, Legal}
use Rattle.tree.proofs.Laws.Lists.Sums.{delta_self, delta_ne, equal?, sum_over_cong, sum_over_scale, sum_over_member, sum_over-map, sum_over-add, down_once}
use Rattle.tree.proofs.Laws.Trees.Walks.{hops, hops_zero}
use Rattle.tree.proofs.Laws.Trees.Growing.{kraft_tree}
use Rattle.tree.proofs.Laws.Trees.LegalTrees.{somewhere, legal_tree}
use Rattle.shorter_tree.specs.Deletion.{drop_at, renumber, above}
use Rattle.shorter_tree.specs.Inner.Arrays.{skip, old}
use Rattle.shorter_tree.proofs.Laws.Dropping.{skip_low, gone_at, gone_length, gone_sum}
use Rattle.shorter_tree.proofs.Laws.Numbers.{old_number, number_old, old_stays, old_stands, number_low, old_low, stands, Stands, low, mid, high}
use Rattle.shorter_tree.proofs.Laws.ShorterPaths.{above_gone, above_other, Walk, walk}

-- ---- lists

two_members : (l : List ℕ) (f : ℕ → ℕ) (x y : ℕ) → x ≢ y → count x l ≢ 0 → count y l ≢ 0 → f x + f y ≤ sum_over l f
two_members [] f x y d h k = absurd (h refl)
two_members (z ∷ l) f x y d h k = go (two_members l f x y d) (equal? x z) (equal? y z)
  where
    go : (count x l ≢ 0 → count y l ≢ 0 → f x + f y ≤ sum_over l f) → (x ≡ z) ⊎ (x ≢ z) → (y ≡ z) ⊎ (y ≢ z) → f x + f y ≤ f z + sum_over l f
    go ih (inl e) (inl g) = absurd (d (e ∙ sym g))
    go ih (inl e) (inr g) = omega (arith, ap f e, sum_over_member l f y (omega (arith, delta_ne y z g)))
    go ih (inr e) (inl g) = omega (arith, ap f g, sum_over_member l f x (omega (arith, delta_ne x z e)))
    go ih (inr e) (inr g) = omega (arith, ih (omega (arith, delta_ne x z e)) (omega (arith, delta_ne y z g)))

ancestor_fixed : (p : ℕ → ℕ) (k v : ℕ) → p v ≡ v → ancestor p k v ≡ v
ancestor_fixed p zero v h = refl
ancestor_fixed p (suc k) v h = ap (ancestor p k) h ∙ ancestor_fixed p k v h

-- the parents of the shorter tree
abbrev pub pruned_parents : List ℕ → ℕ → ℕ → List ℕ
pruned_parents P s b = map (λ u. renumber s b (above b (parent_of P b) u)) (drop_at (s - 1) (drop_at (b - 1) P))

parent_place : (P : List ℕ) (v : ℕ) → 1 ≤ v → parent_of P v ≡ get_or P (v - 1) 0
parent_place P zero h = absurd (omega arith)
parent_place P (suc v) h = let e : v ≡ suc v - 1 = omega arith in ap (λ i. get_or P i 0) e

-- each new parent, for any parents and any two vertices that go
pub pruned_step : (P : List ℕ) (s b : ℕ) → 1 ≤ s → s < b → (w : ℕ) → parent_of (pruned_parents P s b) w ≡ renumber s b (above b (parent_of P b) (parent_of P (old s b w)))
pruned_step P zero b s1 sb w = absurd (omega arith)
pruned_step P (suc s) zero s1 sb w = absurd (omega arith)
pruned_step P (suc s) (suc b) s1 sb w = go w
  where
    f : ℕ → ℕ
    f u = renumber (suc s) (suc b) (above (suc b) (parent_of P (suc b)) u)

    f_root : f 0 ≡ 0
    f_root = ap (renumber (suc s) (suc b)) (above_other (suc b) (parent_of P (suc b)) 0 (omega arith)) ∙ number_low (suc s) (suc b) sb 0 (omega arith)

    es : suc s - 1 ≡ s
    es = omega arith

    eb : suc b - 1 ≡ b
    eb = omega arith

    go : (w : ℕ) → parent_of (pruned_parents P (suc s) (suc b)) w ≡ f (parent_of P (old (suc s) (suc b) w))
    go zero = sym f_root
    go (suc i) =
        let l : List ℕ = drop_at (suc s - 1) (drop_at (suc b - 1) P) in
        ap (λ d. get_or (map f l) i d) (sym f_root)
        ∙ get_or-map f l i 0
        ∙ ap₂ (λ x y. f (get_or (drop_at x (drop_at y P)) i 0)) es eb
        ∙ ap f (gone_at (drop_at b P) s i 0 ∙ gone_at P b (skip s i) 0)

-- ---- in a legal tree

module _ (n : ℕ) (P : List ℕ) (L : Legal n P) (n2 : 2 ≤ n) (s : ℕ) (s1 : 1 ≤ s) (sn : s ≤ n) where
  abbrev b : ℕ
  b = parent_of P s

  -- no vertex hangs on a sink
  pub childless : (v : ℕ) → parent_of P v ≢ s
  childless zero e = omega arith
  childless (suc i) e = go (dec_le (length P) i)
    where
      go : Dec (length P ≤ i) → ⊥
      go (yes q) = omega (arith, get_or-eq_default P 0 q)
      go (no q) = somewhere P i (omega arith) (ap (λ z. count z P) e ∙ L.sink s s1 sn)

  -- s does not hang on the root: it would have the whole of Kraft's sum, and there is another sink
  pub below_root : parent_of P s ≢ 0
  below_root e = go (equal? s 1)
    where
      F : ℕ
      F = 2 * n - 1

      f : ℕ → ℕ
      f t = 2 ^ (F - hops (parent_of P) F (parent_of P t))

      whole : f s ≡ 2 ^ F
      whole = ap (λ z. 2 ^ (F - hops (parent_of P) F z)) e ∙ ap (λ z. 2 ^ (F - z)) (hops_zero (parent_of P) F) ∙ ap (◌^◌ 2) (sub-zero F)

      other : (t : ℕ) → 1 ≤ t → t ≤ n → s ≢ t → ⊥
      other t h l d =
          let k : sum_over (down 0 n) f ≡ 2 ^ F = kraft_tree (legal_tree n P L) in
          let two : f s + f t ≤ sum_over (down 0 n) f = two_members (down 0 n) f s t d (omega (arith, down_once 0 n s s1 (omega arith))) (omega (arith, down_once 0 n t h (omega arith))) in
          let one : 0 < f t = pow_pos (F - hops (parent_of P) F (parent_of P t)) in
          omega (arith, whole)

      go : (s ≡ 1) ⊎ (s ≢ 1) → ⊥
      go (inl g) = other 2 (omega arith) n2 (omega arith)
      go (inr g) = other 1 (omega arith) (omega arith) g

  b_in : b < 2 * n
  b_in = subst (λ z. z < 2 * n) (sym (parent_place P s s1)) (L.inside (s - 1) (omega (arith, L.size)))

  pub branch_point : (n < b) × (b < 2 * n)
  branch_point = (go (dec_le b n), b_in)
    where
      go : Dec (b ≤ n) → n < b
      go (yes q) =
          absurd (somewhere P (s - 1) (omega (arith, L.size)) (ap (λ z. count z P) (sym (parent_place P s s1)) ∙ L.sink b (omega (arith, below_root)) q))
      go (no q) = omega arith

  sb : s < b
  sb = omega (arith, branch_point)

  pub up_b : parent_of P b ≢ b
  up_b e =
      let r : Reached P b = L.reach b b_in in
      below_root (sym (ancestor_fixed (parent_of P) r.0 b e) ∙ r.1)

  abbrev a : ℕ
  a = parent_of P b

  -- ---- the children

  delta_new : (w y : ℕ) → y ≢ s → y ≢ b → delta w (renumber s b y) ≡ delta (old s b w) y
  delta_new w y ds db = go (equal? w (renumber s b y))
    where
      go : (w ≡ renumber s b y) ⊎ (w ≢ renumber s b y) → delta w (renumber s b y) ≡ delta (old s b w) y
      go (inl e) =
          let f : old s b w ≡ y = ap (old s b) e ∙ old_number s b sb y ds db in
          ap (λ z. delta z (renumber s b y)) e ∙ delta_self (renumber s b y) ∙ sym (ap (λ z. delta z y) f ∙ delta_self y)
      go (inr d) = delta_ne w (renumber s b y) d ∙ sym (delta_ne (old s b w) y (λ e. d (sym (number_old s b sb w) ∙ ap (renumber s b) e)))

  value_ne : (x : ℕ) → count x P ≢ 0 → x ≢ s
  value_ne x h e = h (ap (λ z. count z P) e ∙ L.sink s s1 sn)

  pub count_new : (w : ℕ) → count w (pruned_parents P s b) ≡ count (old s b w) P
  count_new w =
      let f : ℕ → ℕ = λ u. renumber s b (above b a u) in
      let g : ℕ → ℕ = λ x. delta w (f x) in
      let Q : List ℕ = drop_at (b - 1) P in
      let k : ℕ = delta (old s b w) a in
      let lb : suc (length Q) ≡ length P = gone_length P (b - 1) (omega (arith, L.size, b_in, sb)) in
      let A : sum_over Q g + g (get_or P (b - 1) 0) ≡ sum_over P g = gone_sum P (b - 1) g (omega (arith, L.size, b_in, sb)) in
      let B : sum_over (drop_at (s - 1) Q) g + g (get_or Q (s - 1) 0) ≡ sum_over Q g = gone_sum Q (s - 1) g (omega (arith, L.size, sb, branch_point)) in
      let ea : get_or P (b - 1) 0 ≡ a = sym (parent_place P b (omega (arith, sb))) in
      let eb : get_or Q (s - 1) 0 ≡ b = gone_at P (b - 1) (s - 1) 0 ∙ ap (λ i. get_or P i 0) (skip_low (b - 1) (s - 1) (omega (arith, sb))) ∙ sym (parent_place P s s1) in
      let ga : g a ≡ k = ap (λ z. delta w (renumber s b z)) (above_other b a a up_b) ∙ delta_new w a (childless b) up_b in
      let gb : g b ≡ k = ap (λ z. delta w (renumber s b z)) (above_gone b a) ∙ delta_new w a (childless b) up_b in
      let C : sum_over P g ≡ sum_over P (λ x. delta (old s b w) x + k * delta b x) = sum_over_cong P g (λ x. delta (old s b w) x + k * delta b x) (λ x h. value x (value_ne x h) (equal? x b)) in
      omega (
        arith,
        A,
        B,
        C,
        ap g ea,
        ap g eb,
        ga,
        gb,
        sum_over-map f (drop_at (s - 1) Q) (delta w),
        sum_over-add P (delta (old s b w)) (λ x. k * delta b x),
        sum_over_scale P k (delta b),
        ap (λ z. k * z) (L.branch b branch_point.0 b_in),
      )
    where
      value : (x : ℕ) → x ≢ s → (x ≡ b) ⊎ (x ≢ b) → delta w (renumber s b (above b a x)) ≡ delta (old s b w) x + delta (old s b w) a * delta b x
      value x ds (inl e) =
          let d : delta (old s b w) x ≡ 0 = delta_ne (old s b w) x (λ q. (old_stays s b sb w).1 (q ∙ e)) in
          let o : delta b x ≡ 1 = ap (delta b) e ∙ delta_self b in
          ap (λ z. delta w (renumber s b (above b a z))) e
          ∙ ap (λ z. delta w (renumber s b z)) (above_gone b a)
          ∙ delta_new w a (childless b) up_b
          ∙ omega (arith, d, ap (λ z. delta (old s b w) a * z) o)
      value x ds (inr d) =
          ap (λ z. delta w (renumber s b z)) (above_other b a x d)
          ∙ delta_new w x ds d
          ∙ omega (arith, ap (λ z. delta (old s b w) a * z) (delta_ne b x (λ q. d (sym q))))

  -- ---- legal

  pub pruned_length : suc (suc (length (pruned_parents P s b))) ≡ length P
  pruned_length =
      let Q : List ℕ = drop_at (b - 1) P in
      let lb : suc (length Q) ≡ length P = gone_length P (b - 1) (omega (arith, L.size, b_in, sb)) in
      let ls : suc (length (drop_at (s - 1) Q)) ≡ length Q = gone_length Q (s - 1) (omega (arith, L.size, sb, branch_point)) in
      omega (arith, length-map (drop_at (s - 1) Q) (λ u. renumber s b (above b a u)))

  module _ (m : ℕ) (mn : suc m ≡ n) where
    number_in : (v : ℕ) → v < 2 * n → v ≢ s → v ≢ b → renumber s b v < 2 * m
    number_in v h ds db = go (renumber s b v) (stands s b sb v ds db)
      where
        go : (w : ℕ) → Stands s b v w → w < 2 * m
        go w (low q e) = omega arith
        go w (mid q c e) = omega (arith, b_in)
        go w (high q e) = omega arith

    pub old_in : (w : ℕ) → w < 2 * m → old s b w < 2 * n
    old_in w h = go (old s b w) (old_stands s b sb w)
      where
        go : (v : ℕ) → Stands s b v w → v < 2 * n
        go v (low q e) = omega arith
        go v (mid q c e) = omega arith
        go v (high q e) = omega arith

    old_branch : (w : ℕ) → m < w → n < old s b w
    old_branch w h = go (old s b w) (old_stands s b sb w)
      where
        go : (v : ℕ) → Stands s b v w → n < v
        go v (low q e) = absurd (omega arith)
        go v (mid q c e) = omega arith
        go v (high q e) = omega arith

    pub old_sink : (w : ℕ) → 1 ≤ w → w ≤ m → (1 ≤ old s b w) × (old s b w ≤ n)
    old_sink w h l = go (old s b w) (old_stands s b sb w)
      where
        go : (v : ℕ) → Stands s b v w → (1 ≤ v) × (v ≤ n)
        go v (low q e) = omega arith
        go v (mid q c e) = omega arith
        go v (high q e) = absurd (omega (arith, branch_point))

    parent_in : (v : ℕ) → parent_of P v < 2 * n
    parent_in zero = omega arith
    parent_in (suc i) = go (dec_le (length P) i)
      where
        go : Dec (length P ≤ i) → get_or P i 0 < 2 * n
        go (yes q) = omega (arith, get_or-eq_default P 0 q)
        go (no q) = L.inside i (omega arith)

    inside : (w : ℕ) → parent_of (pruned_parents P s b) w < 2 * m
    inside w = subst (λ z. z < 2 * m) (sym (pruned_step P s b s1 sb w)) (go (equal? x b))
      where
        x : ℕ
        x = parent_of P (old s b w)

        go : (x ≡ b) ⊎ (x ≢ b) → renumber s b (above b a x) < 2 * m
        go (inl e) = subst (λ z. renumber s b z < 2 * m) (sym (ap (above b a) e ∙ above_gone b a)) (number_in a (parent_in b) (childless b) up_b)
        go (inr d) = subst (λ z. renumber s b z < 2 * m) (sym (above_other b a x d)) (number_in x (parent_in (old s b w)) (childless (old s b w)) d)

    reach : (w : ℕ) → w < 2 * m → Reached (pruned_parents P s b) w
    reach w h =
        let v : ℕ = old s b w in
        let r : Reached P v = L.reach v (old_in w h) in
        let k : Walk n m s b mn s1 sn branch_point.0 (parent_of P) (parent_of (pruned_parents P s b)) refl childless up_b (pruned_step P s b s1 sb)
        (λ u v. 0) (record { self = λ u. refl; triangle = λ u v w. zero-le }) (λ w. 0) (λ w. refl) r.0 v
        = walk n m s b mn s1 sn branch_point.0 (parent_of P) (parent_of (pruned_parents P s b)) refl childless up_b (pruned_step P s b s1 sb)
        (λ u v. 0) (record { self = λ u. refl; triangle = λ u v w. zero-le }) (λ w. 0) (λ w. refl) r.0 v (old_stays s b sb w).0 r.1 in
        let e : renumber s b (above b a v) ≡ w = ap (renumber s b) (above_other b a v (old_stays s b sb w).1) ∙ number_old s b sb w in
        (k.steps, ap (ancestor (parent_of (pruned_parents P s b)) k.steps) (sym e) ∙ k.reach)

    pub pruned_legal : Legal m (pruned_parents P s b)
    pruned_legal = record {
      size = omega (arith, pruned_length, L.size);
      inside = λ i q. inside (suc i);
      root = count_new 0 ∙ ap (λ z. count z P) (old_low s b sb 0 (omega arith)) ∙ L.root;
      branch = λ w h l. count_new w ∙ L.branch (old s b w) (old_branch w h) (old_in w l);
      sink = λ w h l. count_new w ∙ L.sink (old s b w) (old_sink w h l).0 (old_sink w h l).1;
      reach = reach;
    }
