-- The new number of a vertex that remains, and the vertex that has it. Assumes nothing.
use Prim.Native.Nat.{ℕ, suc, ◌≤◌, ◌<◌}
use mathlib.Core.Path.{◌≡◌, sym, ap, ◌∙◌}
use mathlib.Core.Logic.{◌≢◌}
use native.Mathlib.Omega.{arith}
use native.Mathlib.Decide.{dec_le}
use Rattle.tree.proofs.Laws.Measures.VertexDelays.{one_if_yes, one_if_no}
use Rattle.shorter_tree.specs.Deletion.{renumber}
use Rattle.shorter_tree.specs.Inner.Arrays.{skip, old}
use Rattle.shorter_tree.proofs.Laws.Dropping.{skip_low, skip_high}

-- v remains, and w is its new number: the three ways it can stand
pub data Stands (s b v w : ℕ) : Type 0 where
  low : v < s → v ≡ w → Stands s b v w
  mid : s < v → v < b → v ≡ suc w → Stands s b v w
  high : b < v → v ≡ suc (suc w) → Stands s b v w

module _ (s b : ℕ) (sb : s < b) where
  pub number_low : (v : ℕ) → v < s → renumber s b v ≡ v
  number_low v h = omega (arith, one_if_no s v (omega arith), one_if_no b v (omega arith))

  pub number_mid : (v : ℕ) → s < v → v < b → suc (renumber s b v) ≡ v
  number_mid v h l = omega (arith, one_if_yes s v (omega arith), one_if_no b v (omega arith))

  pub number_high : (v : ℕ) → b < v → suc (suc (renumber s b v)) ≡ v
  number_high v h = omega (arith, one_if_yes s v (omega arith), one_if_yes b v (omega arith))

  pub stands : (v : ℕ) → v ≢ s → v ≢ b → Stands s b v (renumber s b v)
  stands v ds db = go (dec_le v s) (dec_le v b)
    where
      go : Dec (v ≤ s) → Dec (v ≤ b) → Stands s b v (renumber s b v)
      go (yes a) d = low (omega arith) (sym (number_low v (omega arith)))
      go (no a) (yes c) = mid (omega arith) (omega arith) (sym (number_mid v (omega arith) (omega arith)))
      go (no a) (no c) = high (omega arith) (sym (number_high v (omega arith)))

  pub old_low : (w : ℕ) → w < s → old s b w ≡ w
  old_low w h = ap (skip b) (skip_low s w h) ∙ skip_low b w (omega arith)

  pub old_mid : (w : ℕ) → s ≤ w → suc w < b → old s b w ≡ suc w
  old_mid w h l = ap (skip b) (skip_high s w h) ∙ skip_low b (suc w) l

  pub old_high : (w : ℕ) → b ≤ suc w → old s b w ≡ suc (suc w)
  old_high w h = ap (skip b) (skip_high s w (omega arith)) ∙ skip_high b (suc w) h

  pub old_stands : (w : ℕ) → Stands s b (old s b w) w
  old_stands w = go (dec_le s w) (dec_le b (suc w))
    where
      go : Dec (s ≤ w) → Dec (b ≤ suc w) → Stands s b (old s b w) w
      go d (yes c) = high (omega (arith, old_high w c)) (old_high w c)
      go (yes a) (no c) = mid (omega (arith, old_mid w a (omega arith))) (omega (arith, old_mid w a (omega arith))) (old_mid w a (omega arith))
      go (no a) (no c) = low (omega (arith, old_low w (omega arith))) (old_low w (omega arith))

  stands_one : (v w w' : ℕ) → Stands s b v w → Stands s b v w' → w ≡ w'
  stands_one v w w' (low a e) (low a' e') = omega arith
  stands_one v w w' (low a e) (mid a' c' e') = omega arith
  stands_one v w w' (low a e) (high a' e') = omega arith
  stands_one v w w' (mid a c e) (low a' e') = omega arith
  stands_one v w w' (mid a c e) (mid a' c' e') = omega arith
  stands_one v w w' (mid a c e) (high a' e') = omega arith
  stands_one v w w' (high a e) (low a' e') = omega arith
  stands_one v w w' (high a e) (mid a' c' e') = omega arith
  stands_one v w w' (high a e) (high a' e') = omega arith

  one_stands : (v v' w : ℕ) → Stands s b v w → Stands s b v' w → v ≡ v'
  one_stands v v' w (low a e) (low a' e') = omega arith
  one_stands v v' w (low a e) (mid a' c' e') = omega arith
  one_stands v v' w (low a e) (high a' e') = omega arith
  one_stands v v' w (mid a c e) (low a' e') = omega arith
  one_stands v v' w (mid a c e) (mid a' c' e') = omega arith
  one_stands v v' w (mid a c e) (high a' e') = omega arith
  one_stands v v' w (high a e) (low a' e') = omega arith
  one_stands v v' w (high a e) (mid a' c' e') = omega arith
  one_stands v v' w (high a e) (high a' e') = omega arith

  pub old_stays : (w : ℕ) → (old s b w ≢ s) × (old s b w ≢ b)
  old_stays w = go (old s b w) (old_stands w)
    where
      go : (v : ℕ) → Stands s b v w → (v ≢ s) × (v ≢ b)
      go v (low a e) = omega arith
      go v (mid a c e) = omega arith
      go v (high a e) = omega arith

  pub old_number : (v : ℕ) → v ≢ s → v ≢ b → old s b (renumber s b v) ≡ v
  old_number v ds db = one_stands (old s b (renumber s b v)) v (renumber s b v) (old_stands (renumber s b v)) (stands v ds db)

  pub number_old : (w : ℕ) → renumber s b (old s b w) ≡ w
  number_old w = stands_one (old s b w) (renumber s b (old s b w)) w (stands (old s b w) (old_stays w).0 (old_stays w).1) (old_stands w)

  pub number_order : (u v : ℕ) → u ≢ s → u ≢ b → v ≢ s → v ≢ b → u < v → renumber s b u < renumber s b v
  number_order u v us ub vs vb h = go (renumber s b u) (renumber s b v) (stands u us ub) (stands v vs vb)
    where
      go : (x y : ℕ) → Stands s b u x → Stands s b v y → x < y
      go x y (low a e) (low a' e') = omega arith
      go x y (low a e) (mid a' c' e') = omega arith
      go x y (low a e) (high a' e') = omega arith
      go x y (mid a c e) (low a' e') = omega arith
      go x y (mid a c e) (mid a' c' e') = omega arith
      go x y (mid a c e) (high a' e') = omega arith
      go x y (high a e) (low a' e') = omega arith
      go x y (high a e) (mid a' c' e') = omega arith
      go x y (high a e) (high a' e') = omega arith
