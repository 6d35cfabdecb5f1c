-- Walks up the shorter tree, by any parents p and the new ones p': each ends at the root, is no longer and has no more branch points. Assumes nothing.
use Prim.Native.Nat.{ℕ, zero, suc, ◌+◌, ◌≤◌, ◌<◌}
use mathlib.Core.Path.{◌≡◌, refl, sym, ap, ◌∙◌, subst}
use mathlib.Core.Logic.{◌≢◌, ◌⊎◌, inl, inr}
use mathlib.Core.Bool.{cond}
use mathlib.Core.List.{◌∷◌}
use native.Mathlib.Omega.{arith}
use native.Mathlib.Decide.{dec_le}
use borrow.Author.Tests.{eq-eqb, ne_eqb}
use lib.Dec.{ltb}
use Rattle.tree.specs.Lists.{sum_over}
use Rattle.tree.specs.Tree.{ancestor}
use Rattle.tree.specs.Measures.{path_up, one_if}
use Rattle.tree.proofs.Laws.Lists.Sums.{equal?}
use Rattle.tree.proofs.Laws.Kraft.Rivals.{Metric}
use Rattle.tree.proofs.Laws.Measures.VertexDelays.{one_if_yes, one_if_no}
use Rattle.shorter_tree.specs.Deletion.{renumber, above}
use Rattle.shorter_tree.specs.Inner.Arrays.{old}
use Rattle.shorter_tree.proofs.Laws.Numbers.{old_number, number_low, stands, Stands, low, mid, high}

pub above_gone : (b a : ℕ) → above b a b ≡ a
above_gone b a = ap (λ t. cond t a b) (eq-eqb b b refl)

pub above_other : (b a u : ℕ) → u ≢ b → above b a u ≡ u
above_other b a u d = ap (λ t. cond t a u) (ne_eqb u b d)

-- what takes the place of a parent stays itself
pub above_stays : (s b a u : ℕ) → a ≢ s → a ≢ b → u ≢ s → (above b a u ≢ s) × (above b a u ≢ b)
above_stays s b a u as' ab us = go (equal? u b)
  where
    go : (u ≡ b) ⊎ (u ≢ b) → (above b a u ≢ s) × (above b a u ≢ b)
    go (inl e) = let f : above b a u ≡ a = ap (above b a) e ∙ above_gone b a in ((λ q. as' (sym f ∙ q)), (λ q. ab (sym f ∙ q)))
    go (inr d) = let f : above b a u ≡ u = above_other b a u d in ((λ q. us (sym f ∙ q)), (λ q. d (sym f ∙ q)))

path_step : (p : ℕ → ℕ) (k v : ℕ) → v ≢ 0 → path_up p (suc k) v ≡ v ∷ path_up p k (p v)
path_step p k zero h = absurd (h refl)
path_step p k (suc v) h = refl

-- ---- the walk

module _ (n m s b : ℕ) (mn : suc m ≡ n) (s1 : 1 ≤ s) (sn : s ≤ n) (nb : n < b) (p p' : ℕ → ℕ) (top : p 0 ≡ 0) (childless : (v : ℕ) → p v ≢ s) (up_b : p b ≢ b)
    (step : (w : ℕ) → p' w ≡ renumber s b (above b (p b) (p (old s b w)))) (D : ℕ → ℕ → ℕ) (metric : Metric D) (e' : ℕ → ℕ)
    (edge : (w : ℕ) → e' w ≡ D (above b (p b) (p (old s b w))) (old s b w)) where
  abbrev to : ℕ → ℕ
  to v = above b (p b) v

  abbrev new : ℕ → ℕ
  new v = renumber s b v

  pub record Walk (k v : ℕ) : Type 0 where
    pub steps : ℕ
    pub reach : ancestor p' steps (new (to v)) ≡ 0
    pub delay : sum_over (path_up p' steps (new (to v))) e' + D (to v) v ≤ sum_over (path_up p k v) (λ u. D (p u) u)
    pub depth : sum_over (path_up p' steps (new (to v))) (λ u. one_if (ltb m u)) ≤ sum_over (path_up p k v) (λ u. one_if (ltb n u))

  branch_same : (v : ℕ) → v ≢ s → v ≢ b → one_if (ltb m (new v)) ≡ one_if (ltb n v)
  branch_same v ds db = go (new v) (stands s b (omega arith) v ds db)
    where
      both : (w : ℕ) → v ≡ suc w → Dec (v ≤ n) → one_if (ltb m w) ≡ one_if (ltb n v)
      both w e (yes q) = one_if_no m w (omega arith) ∙ sym (one_if_no n v q)
      both w e (no q) = one_if_yes m w (omega arith) ∙ sym (one_if_yes n v (omega arith))

      go : (w : ℕ) → Stands s b v w → one_if (ltb m w) ≡ one_if (ltb n v)
      go w (low a e) = one_if_no m w (omega arith) ∙ sym (one_if_no n v (omega arith))
      go w (mid a c e) = both w e (dec_le v n)
      go w (high a e) = one_if_yes m w (omega arith) ∙ sym (one_if_yes n v (omega arith))

  some_number : (v : ℕ) → v ≢ 0 → v ≢ s → v ≢ b → new v ≢ 0
  some_number v dz ds db = go (new v) (stands s b (omega arith) v ds db)
    where
      go : (w : ℕ) → Stands s b v w → w ≢ 0
      go w (low a e) = omega arith
      go w (mid a c e) = omega arith
      go w (high a e) = omega arith

  at_root : (k : ℕ) → Walk k 0
  at_root k =
      let f : new (to 0) ≡ 0 = ap new (above_other b (p b) 0 (omega arith)) ∙ number_low s b (omega arith) 0 (omega arith) in
      let g : D (to 0) 0 ≡ 0 = ap (λ z. D z 0) (above_other b (p b) 0 (omega arith)) ∙ metric.self 0 in
      record { steps = 0; reach = f; delay = omega (arith, g); depth = omega arith }

  pub walk : (k v : ℕ) → v ≢ s → ancestor p k v ≡ 0 → Walk k v
  walk zero v ds h = subst (Walk 0) (sym h) (at_root 0)
  walk (suc k) zero ds h = at_root (suc k)
  walk (suc k) (suc u) ds h = go (walk k (p (suc u)) (childless (suc u)) h) (equal? (suc u) b)
    where
      go : Walk k (p (suc u)) → (suc u ≡ b) ⊎ (suc u ≢ b) → Walk (suc k) (suc u)
      go r (inl e) =
          let f : to (suc u) ≡ p (suc u) = ap to e ∙ above_gone b (p b) ∙ ap p (sym e) in
          let g : to (p (suc u)) ≡ p (suc u) = above_other b (p b) (p (suc u)) (λ q. up_b (ap p (sym e) ∙ q)) in
          let q : new (to (suc u)) ≡ new (to (p (suc u))) = ap new (f ∙ sym g) in
          record {
            steps = r.steps;
            reach = ap (ancestor p' r.steps) q ∙ r.reach;
            delay = omega (arith, r.delay, ap (λ z. sum_over (path_up p' r.steps z) e') q, ap (λ z. D z (suc u)) f);
            depth = omega (arith, r.depth, ap (λ z. sum_over (path_up p' r.steps z) (λ x. one_if (ltb m x))) q);
          }
      go r (inr d) =
          let f : new (to (suc u)) ≡ new (suc u) = ap new (above_other b (p b) (suc u) d) in
          let o : old s b (new (suc u)) ≡ suc u = old_number s b (omega arith) (suc u) ds d in
          let g : p' (new (suc u)) ≡ new (to (p (suc u))) = step (new (suc u)) ∙ ap (λ z. new (to (p z))) o in
          let q : path_up p' (suc r.steps) (new (to (suc u))) ≡ new (suc u) ∷ path_up p' r.steps (new (to (p (suc u)))) =
          ap (path_up p' (suc r.steps)) f ∙ path_step p' r.steps (new (suc u)) (some_number (suc u) (omega arith) ds d) ∙ ap (λ z. new (suc u) ∷ path_up p' r.steps z) g in
          let l : e' (new (suc u)) ≡ D (to (p (suc u))) (suc u) = edge (new (suc u)) ∙ ap (λ z. D (to (p z)) z) o in
          let i : D (to (suc u)) (suc u) ≡ 0 = ap (λ z. D z (suc u)) (above_other b (p b) (suc u) d) ∙ metric.self (suc u) in
          record {
            steps = suc r.steps;
            reach = ap (ancestor p' (suc r.steps)) f ∙ ap (ancestor p' r.steps) g ∙ r.reach;
            delay = omega (arith, r.delay, ap (λ z. sum_over z e') q, l, i, metric.triangle (to (p (suc u))) (p (suc u)) (suc u));
            depth = omega (arith, r.depth, ap (λ z. sum_over z (λ x. one_if (ltb m x))) q, branch_same (suc u) ds d);
          }
