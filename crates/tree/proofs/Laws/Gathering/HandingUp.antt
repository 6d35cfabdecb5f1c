-- The walk that hands a number up: those passed keep the lesser, those ahead are as they were, and the walk may end at the first that has no more. Assumes nothing.
use Prim.Native.Nat.{ℕ, zero, suc, ◌+◌, ◌-◌, ◌≤◌, ◌<◌}
use mathlib.Core.Path.{◌≡◌, refl, sym, ap, ◌∙◌, subst}
use mathlib.Core.Logic.{◌≢◌, ◌⊎◌, inl, inr}
use mathlib.Core.List.{List, [], ◌∷◌}
use native.Mathlib.Omega.{arith}
use lib.ListN.{length, get_or, set}
use lib.Seq.{get_or-set_same, get_or-set_other}
use lib.IntN.{ℤ, pos}
use lib.Signed.{◌≤ℤ◌, ◌<ℤ◌}
use Rattle.quantities.proofs.Laws.MinMax.{min_is}
use Rattle.quantities.specs.Inner.Linear.{whole}
use Rattle.quantities.specs.MinMax.{min_ℤ}
use Rattle.tree.specs.Lists.{delta, count}
use Rattle.tree.specs.Inner.Regathering.{Falling, Raised, way_up}
use Rattle.tree.proofs.Laws.Planning.KeepsBest.{≤ℤ_trans}
use Rattle.tree.proofs.Laws.Lists.Sums.{delta_self, delta_ne, equal?}

-- `rest` of the way is still ahead
pub record Raising (way rest : List ℕ) (w : ℤ) (ss slacks : List ℤ) : Type 0 where
  pub once : (v : ℕ) → count v rest ≤ 1
  pub falling : Falling (λ v. get_or ss v (pos 0)) rest
  pub passed : (v : ℕ) → count v way ≢ 0 → count v rest ≡ 0 → get_or slacks v (pos 0) ≡ min_ℤ (get_or ss v (pos 0)) w
  pub off : (v : ℕ) → count v way ≡ 0 → get_or slacks v (pos 0) ≡ get_or ss v (pos 0)
  pub ahead : (v : ℕ) → count v rest ≢ 0 → get_or slacks v (pos 0) ≡ get_or ss v (pos 0)

module _ {w : ℤ} {ss : List ℤ} where
  pub raising_all : (way : List ℕ) → Falling (λ v. get_or ss v (pos 0)) way → ((v : ℕ) → count v way ≤ 1) → Raising way way w ss ss
  raising_all way f o = record { once = o; falling = f; passed = λ v a b. absurd (a b); off = λ v a. refl; ahead = λ v a. refl }

  module _ {way : List ℕ} {x : ℕ} {l : List ℕ} {slacks : List ℤ} (R : Raising way (x ∷ l) w ss slacks) where
    first_ahead : get_or slacks x (pos 0) ≡ get_or ss x (pos 0)
    first_ahead = R.ahead x (omega (arith, delta_self x))

    apart : (v : ℕ) → count v l ≢ 0 → v ≢ x
    apart v m e = omega (arith, R.once v, ap (λ (z : ℕ). delta z x) e, delta_self x)

    pub raising_step : x < length slacks → count x way ≢ 0 → w <ℤ get_or slacks x (pos 0) → Raising way l w ss (set slacks x w)
    raising_step long on less = record {
      once = λ v. omega (arith, R.once v);
      falling = R.falling.1;
      passed = λ v a b. passed v a b (equal? v x);
      off = λ v a. get_or-set_other slacks x v w (pos 0) (λ e. on (ap (λ (z : ℕ). count z way) (sym e) ∙ a)) ∙ R.off v a;
      ahead = λ v a. get_or-set_other slacks x v w (pos 0) (apart v a) ∙ R.ahead v (omega arith);
    }
      where
        passed : (v : ℕ) → count v way ≢ 0 → count v l ≡ 0 → (v ≡ x) ⊎ (v ≢ x) → get_or (set slacks x w) v (pos 0) ≡ min_ℤ (get_or ss v (pos 0)) w
        passed v a b (inl e) =
            let q : w <ℤ get_or ss x (pos 0) = subst (λ (z : ℤ). w <ℤ z) first_ahead less in
            subst (λ (z : ℕ). get_or (set slacks x w) z (pos 0) ≡ min_ℤ (get_or ss z (pos 0)) w) (sym e) (get_or-set_same slacks x w (pos 0) long ∙ omega (arith, whole, min_is (get_or ss x (pos 0)) w))
        passed v a b (inr d) = get_or-set_other slacks x v w (pos 0) d ∙ R.passed v a (omega (arith, delta_ne v x d))

    -- the first that has no more: nor do those above it
    pub raising_stop : get_or slacks x (pos 0) ≤ℤ w → Raised way w ss slacks
    raising_stop le = record { on = λ v a. go v a (equal? (count v (x ∷ l)) 0); off = R.off }
      where
        least : (v : ℕ) → delta v x + count v l ≢ 0 → (v ≡ x) ⊎ (v ≢ x) → get_or ss v (pos 0) ≤ℤ w
        least v m (inl e) = subst (λ (z : ℕ). get_or ss z (pos 0) ≤ℤ w) (sym e) (subst (λ (z : ℤ). z ≤ℤ w) first_ahead le)
        least v m (inr d) = ≤ℤ_trans _ (get_or ss x (pos 0)) w (R.falling.0 v (omega (arith, delta_ne v x d))) (subst (λ (z : ℤ). z ≤ℤ w) first_ahead le)

        go : (v : ℕ) → count v way ≢ 0 → (count v (x ∷ l) ≡ 0) ⊎ (count v (x ∷ l) ≢ 0) → get_or slacks v (pos 0) ≡ min_ℤ (get_or ss v (pos 0)) w
        go v a (inl e) = R.passed v a e
        go v a (inr m) =
            let q : get_or ss v (pos 0) ≤ℤ w = least v m (equal? v x) in
            R.ahead v m ∙ omega (arith, whole, min_is (get_or ss v (pos 0)) w)

  pub raising_end : {way : List ℕ} {slacks : List ℤ} → Raising way [] w ss slacks → Raised way w ss slacks
  raising_end R = record { on = λ v a. R.passed v a refl; off = R.off }

-- ---- the way itself

pub way_next : (ps : List ℕ) (more at : ℕ) → 0 < more → length (way_up ps more at) ≡ more → way_up ps more at ≡ at ∷ way_up ps (more - 1) (get_or ps at 0)
way_next ps zero at l e = absurd (omega arith)
way_next ps (suc k) zero l e = absurd (omega (arith, e))
way_next ps (suc k) (suc v) l e = let q : k ≡ suc k - 1 = omega arith in ap (λ (j : ℕ). suc v ∷ way_up ps j (get_or ps (suc v) 0)) q

pub way_done : (ps : List ℕ) (more at : ℕ) → more ≡ 0 → way_up ps more at ≡ []
way_done ps more at e = ap (λ (j : ℕ). way_up ps j at) e

-- its first vertex is on it
pub way_first : (ps : List ℕ) (more at : ℕ) → 0 < more → length (way_up ps more at) ≡ more → count at (way_up ps more at) ≢ 0
way_first ps more at l e = rw (way_next ps more at l e) (omega (arith, delta_self at))
