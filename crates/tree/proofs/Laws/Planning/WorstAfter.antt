-- The worst slack after a split in closed form: the least of the old one, of the least slack under the split edge less c, and of the new sink's own. Assumes nothing.
use Prim.Native.Nat.{ℕ, zero, suc, ◌+◌, ◌*◌, ◌≤◌, ◌<◌, zero-le}
use mathlib.Core.Path.{◌≡◌, sym, ap, ◌∙◌, subst}
use mathlib.Core.Logic.{◌≢◌, ◌⊎◌, inl, inr}
use mathlib.Core.List.{List, ◌∷◌}
use native.Mathlib.Nat.{add-mul}
use native.Mathlib.Omega.{arith}
use lib.IntN.{ℤ, pos, ◌-ℤ◌}
use lib.Signed.{◌≤ℤ◌}
use Rattle.quantities.proofs.Laws.MinMax.{min_is}
use Rattle.quantities.specs.Inner.Linear.{whole, -is}
use Rattle.quantities.specs.MinMax.{min_ℤ}
use Rattle.tree.proofs.Laws.Trees.AnySplit.{meet, depth_any, clear_x}
use Rattle.tree.proofs.Laws.Trees.Growing.{Split, parent_inner, split_tree, hops_up, hops_suc, inner_reach, PartTree}
use Rattle.tree.proofs.Laws.Planning.KeepsBest.{Least, ≤ℤ_trans, Grown, splits}
use Rattle.tree.proofs.Laws.Kraft.GapSums.{depth_in}
use Rattle.tree.proofs.Laws.Measures.VertexDelays.{sub-sub}
use Rattle.tree.proofs.Laws.Planning.BeforeSettling.{after_is, min_one}
use Rattle.tree.proofs.Laws.Planning.SinkEdge.{in_pos}
use Rattle.tree.proofs.Laws.Lists.Sums.{equal?, delta_self, delta_ne}
use Rattle.tree.proofs.Laws.Trees.Walks.{hops, hops_stable}
use Rattle.tree.specs.Lists.{delta, count, down}
use Rattle.tree.specs.Net.{Net, size, own_slack}
use Rattle.tree.specs.Planning.{split, worst_after, tie_rule}
use Rattle.tree.specs.Tree.{parent_of}

-- u is the least of f over those of the list that have v on their way up
pub record LeastBelow (p : ℕ → ℕ) (F v : ℕ) (S : List ℕ) (f : ℕ → ℤ) (u : ℤ) : Type 0 where
  pub below : (y : ℕ) → count y S ≢ 0 → meet p F v y ≢ 0 → u ≤ℤ f y
  pub at : ℕ
  pub in_list : count at S ≢ 0
  pub under : meet p F v at ≢ 0
  pub is : f at ≡ u

-- the least is one number only
pub least_one : (S : List ℕ) (f : ℕ → ℤ) (a b : ℤ) → Least S f a → Least S f b → a ≡ b
least_one S f a b l r =
    let h : a ≤ℤ b = subst (λ z. a ≤ℤ z) r.is (l.below r.at r.in_list) in
    let k : b ≤ℤ a = subst (λ z. b ≤ℤ z) l.is (r.below l.at l.in_list) in
    omega (arith, whole)

-- the least of the old ones, some of them less c, and a new one
closed : (S : List ℕ) (s c : ℕ) (m : ℕ → ℕ) (f g : ℕ → ℤ) (a u e : ℤ) → 0 < c
    → ((y : ℕ) → m y ≤ 1) → ((y : ℕ) → count y S ≢ 0 → g y ≡ f y -ℤ pos (m y * c)) → g s ≡ e
    → Least S f a → ((y : ℕ) → count y S ≢ 0 → m y ≢ 0 → u ≤ℤ f y) → (z : ℕ) → count z S ≢ 0 → m z ≢ 0 → f z ≡ u
    → Least (s ∷ S) g (min_ℤ (min_ℤ a (u -ℤ pos c)) e)
closed S s c m f g a u e c1 once old new l under z zS mz fz = go (min_one (min_ℤ a (u -ℤ pos c)) e) (min_one a (u -ℤ pos c)) (equal? (m l.at) 0)
  where
    w : ℤ
    w = min_ℤ (min_ℤ a (u -ℤ pos c)) e

    we : w ≤ℤ e
    we = omega (arith, whole, min_is (min_ℤ a (u -ℤ pos c)) e)

    wu : w ≤ℤ (u -ℤ pos c)
    wu = omega (arith, whole, min_is (min_ℤ a (u -ℤ pos c)) e, min_is a (u -ℤ pos c))

    wa : w ≤ℤ a
    wa = omega (arith, whole, min_is (min_ℤ a (u -ℤ pos c)) e, min_is a (u -ℤ pos c))

    none_of : (y : ℕ) → m y ≡ 0 → f y -ℤ pos (m y * c) ≡ f y
    none_of y q = let r : m y * c ≡ 0 = rw q (native.Mathlib.Nat.zero-mul c) in omega (arith, whole, -is (f y) (pos (m y * c)))

    one_of : (y : ℕ) → m y ≢ 0 → f y -ℤ pos (m y * c) ≡ f y -ℤ pos c
    one_of y q = let o : m y ≡ 1 = omega (arith, once y) in let r : m y * c ≡ c = rw o (native.Mathlib.Nat.one-mul c) in ap (λ i. f y -ℤ pos i) r

    low : (y : ℕ) → delta y s + count y S ≢ 0 → (y ≡ s) ⊎ (y ≢ s) → (m y ≡ 0) ⊎ (m y ≢ 0) → w ≤ℤ g y
    low y q (inl h) d = subst (λ i. w ≤ℤ i) (sym (ap g h ∙ new)) we
    low y q (inr h) (inl d) =
        let yS : count y S ≢ 0 = omega (arith, delta_ne y s h) in
        subst (λ i. w ≤ℤ i) (sym (old y yS ∙ none_of y d)) (≤ℤ_trans w a (f y) wa (l.below y yS))
    low y q (inr h) (inr d) =
        let yS : count y S ≢ 0 = omega (arith, delta_ne y s h) in
        let k : u ≤ℤ f y = under y yS d in
        let x : w ≤ℤ (u -ℤ pos c) = wu in
        subst (λ i. w ≤ℤ i) (sym (old y yS ∙ one_of y d)) (omega (arith, whole, -is u (pos c), -is (f y) (pos c)))

    is_least : (at : ℕ) → count at (s ∷ S) ≢ 0 → g at ≡ w → Least (s ∷ S) g w
    is_least at q h = record { below = λ y q. low y q (equal? y s) (equal? (m y) 0); at = at; in_list = q; is = h }

    at_u : min_ℤ a (u -ℤ pos c) ≡ u -ℤ pos c → w ≡ min_ℤ a (u -ℤ pos c) → Least (s ∷ S) g w
    at_u h k = is_least z (omega arith) (old z zS ∙ one_of z mz ∙ ap (λ i. i -ℤ pos c) fz ∙ sym (k ∙ h))

    go : (w ≡ min_ℤ a (u -ℤ pos c)) ⊎ (w ≡ e) → (min_ℤ a (u -ℤ pos c) ≡ a) ⊎ (min_ℤ a (u -ℤ pos c) ≡ u -ℤ pos c) → (m l.at ≡ 0) ⊎ (m l.at ≢ 0) → Least (s ∷ S) g w
    go (inr h) k d = is_least s (omega (arith, delta_self s)) (new ∙ sym h)
    go (inl h) (inr k) d = at_u k h
    go (inl h) (inl k) (inl d) = is_least l.at (omega (arith, l.in_list)) (old l.at l.in_list ∙ none_of l.at d ∙ l.is ∙ sym (h ∙ k))
    go (inl h) (inl k) (inr d) =
        let x : w ≤ℤ (u -ℤ pos c) = wu in
        let v : u ≤ℤ a = subst (λ i. u ≤ℤ i) l.is (under l.at l.in_list d) in
        let q : w ≡ a = h ∙ k in
        absurd (omega (arith, whole, -is u (pos c)))

module _ {N : ℕ} {S : List ℕ} {k F : ℕ} {p p' : ℕ → ℕ} {s x : ℕ} (t : PartTree N S k F p) (c : Split N k s x p p')
    (hx : count x S + count x (down N k) ≢ 0) (s1 : 1 ≤ s) (sN : s ≤ N) (fresh : count s S ≡ 0) where
  -- x stands at most once on a way up
  pub meet_once : (j y : ℕ) → meet p j x y ≤ 1
  meet_once zero y = zero-le
  meet_once (suc j) y = go (meet_once j (p y)) (equal? y x)
    where
      go : meet p j x (p y) ≤ 1 → (y ≡ x) ⊎ (y ≢ x) → delta x y + meet p j x (p y) ≤ 1
      go ih (inl e) = rw (e, delta_self x) (omega (arith, (clear_x t c hx s1 sN fresh j).1))
      go ih (inr d) = omega (arith, delta_ne x y (λ e. d (sym e)))

  old_depth : (y : ℕ) → count y S ≢ 0 → depth_in (suc (suc F)) p' y ≡ depth_in F p y + meet p F x y
  old_depth y m =
      let i : count y S + count y (down N k) ≢ 0 = omega arith in
      let t' : PartTree N (s ∷ S) (suc k) (suc (suc F)) p' = split_tree t c hx s1 sN fresh in
      omega (arith, depth_any t c hx s1 sN fresh y i, hops_up p F y (in_pos t y i) (t.reach y i), hops_up p' (suc (suc F)) y (in_pos t y i) (t'.reach y (omega arith)))

  pub new_depth : depth_in (suc (suc F)) p' s ≡ suc (depth_in F p x)
  new_depth =
      ap (hops p' (suc (suc F))) c.new ∙ hops_suc p' (suc F) (N + suc k) (omega arith)
      ∙ ap (λ z. suc (hops p' (suc F) z)) c.mid
      ∙ ap suc ((clear_x t c hx s1 sN fresh (suc F)).0 ∙ hops_stable p F (p x) (inner_reach t (p x) (parent_inner t x hx)))

-- the slack of y before the split
abbrev pub before : Net → ℕ → List ℕ → ℕ → ℤ
before N k P y = own_slack N y -ℤ pos (depth_in (2 * k + 1) (parent_of P) y * N.branch)

-- the worst slack after the edge to x is split for sink s
module _ (N : Net) (c1 : 0 < N.branch) {z : ℕ} {S : List ℕ} {k : ℕ} {P : List ℕ} (g : Grown (size N) N.branch (own_slack N) (z ∷ S) k P) (s : ℕ)
    (s1 : 1 ≤ s) (sN : s ≤ size N) (fresh : count s (z ∷ S) ≡ 0) (kN : suc k < size N) (rising : (y : ℕ) → count y (z ∷ S) ≢ 0 → own_slack N y ≤ℤ own_slack N s) where
  module _ (x : ℕ) (hx : count x (z ∷ S) + count x (down (size N) k) ≢ 0) where
    cut : Split (size N) k s x (parent_of P) (parent_of (split P (size N) k s x))
    cut = splits g c1 s s1 sN fresh kN rising x hx

    more : 2 * suc k + 1 ≡ suc (suc (2 * k + 1))
    more = omega arith

    once : (y : ℕ) → meet (parent_of P) (2 * k + 1) x y ≤ 1
    once = meet_once g.tree cut hx s1 sN fresh (2 * k + 1)

    -- the slacks after the split: c less for each sink that has x at or above it
    pub after_old : (y : ℕ) → count y (z ∷ S) ≢ 0 → before N (suc k) (split P (size N) k s x) y ≡ before N k P y -ℤ pos (meet (parent_of P) (2 * k + 1) x y * N.branch)
    after_old y m =
        let p : ℕ → ℕ = parent_of P in
        let F : ℕ = 2 * k + 1 in
        let p' : ℕ → ℕ = parent_of (split P (size N) k s x) in
        let e : depth_in (2 * suc k + 1) p' y ≡ depth_in F p y + meet p F x y = ap (λ i. depth_in i p' y) more ∙ old_depth g.tree cut hx s1 sN fresh y m in
        let d : depth_in (2 * suc k + 1) p' y * N.branch ≡ depth_in F p y * N.branch + meet p F x y * N.branch = ap (λ i. i * N.branch) e ∙ add-mul (depth_in F p y) (meet p F x y) N.branch in
        ap (λ i. own_slack N y -ℤ pos i) d ∙ sym (sub-sub (own_slack N y) (depth_in F p y * N.branch) (meet p F x y * N.branch))

    pub after_new : before N (suc k) (split P (size N) k s x) s ≡ own_slack N s -ℤ pos (suc (depth_in (2 * k + 1) (parent_of P) x) * N.branch)
    after_new = ap (λ i. own_slack N s -ℤ pos (i * N.branch)) (ap (λ i. depth_in i (parent_of (split P (size N) k s x)) s) more ∙ new_depth g.tree cut hx s1 sN fresh)

    pub worst_closed : (a u : ℤ) → Least (z ∷ S) (before N k P) a → LeastBelow (parent_of P) (2 * k + 1) x (z ∷ S) (before N k P) u
        → worst_after N (z ∷ S) k P s x ≡ min_ℤ (min_ℤ a (u -ℤ pos N.branch)) (own_slack N s -ℤ pos (suc (depth_in (2 * k + 1) (parent_of P) x) * N.branch))
    worst_closed a u l r =
        least_one (s ∷ (z ∷ S)) (before N (suc k) (split P (size N) k s x)) _ _ (after_is tie_rule N c1 g s s1 sN fresh kN rising x hx)
        (closed (z ∷ S) s N.branch (meet (parent_of P) (2 * k + 1) x) (before N k P) (before N (suc k) (split P (size N) k s x)) a u _ c1 once after_old after_new l r.below r.at r.in_list r.under r.is)
