-- The tie rules: of the edges that give the largest worst slack the chosen one comes first. Assumes nothing.
use Prim.Native.Nat.{ℕ, ◌+◌, ◌≤◌, ◌<◌}
use mathlib.Core.Path.{◌≡◌, refl, sym, ◌∙◌, subst}
use mathlib.Core.Bool.{Bool, true, false, cond}
use mathlib.Core.Logic.{◌≢◌, ◌⊎◌, inl, inr}
use mathlib.Core.List.{List, [], ◌∷◌}
use native.Mathlib.Omega.{arith}
use borrow.Author.Tests.{ltb-true, ltb-false}
use lib.Dec.{ltb}
use lib.IntN.{ℤ}
use lib.Signed.{◌≤ℤ◌, ≤ℤ_refl, lt_z}
use Rattle.quantities.specs.Inner.Linear.{whole}
use Rattle.tree.proofs.Laws.Planning.BeforeSettling.{best_largest, best_member}
use Rattle.tree.proofs.Laws.Lists.Sums.{equal?, delta_ne}
use Rattle.tree.specs.Lists.{count, delta}
use Rattle.tree.specs.Planning.{ranks, nearer, best, best_of}

-- u goes before v, or they have the same place, in an order that the rule decides
module _ (f : ℕ → ℤ) (tie : ℕ → ℕ → Bool) (Le : ℕ → ℕ → Type 0) (same⊑ : (u : ℕ) → Le u u) (trans⊑ : (u v w : ℕ) → Le u v → Le v w → Le u w)
    (says : (u v : ℕ) (t : Bool) → tie u v ≡ t → cond t (Le u v) (Le v u)) where
  -- r is at least as good as u
  pub record Ahead (r u : ℕ) : Type 0 where
    pub more : f u ≤ℤ f r
    pub tied : f u ≡ f r → Le r u

  pub ahead_self : (u : ℕ) → Ahead u u
  ahead_self u = record { more = ≤ℤ_refl (f u); tied = λ e. same⊑ u }

  pub ahead_trans : (r u v : ℕ) → Ahead r u → Ahead u v → Ahead r v
  ahead_trans r u v a b =
      let h : f u ≤ℤ f r = a.more in
      let k : f v ≤ℤ f u = b.more in
      record { more = omega (arith, whole); tied = λ e. trans⊑ r u v (a.tied (omega (arith, whole))) (b.tied (omega (arith, whole))) }

  pub ahead_one : (u v : ℕ) (t : Bool) → ranks (f u) (f v) (tie u v) ≡ t → cond t (Ahead u v) (Ahead v u)
  ahead_one u v t e = go (lt_z (f v) (f u)) (lt_z (f u) (f v)) (tie u v) refl refl refl t e
    where
      go : (p q s : Bool) → lt_z (f v) (f u) ≡ p → lt_z (f u) (f v) ≡ q → tie u v ≡ s → (t : Bool) → cond p true (cond q false s) ≡ t → cond t (Ahead u v) (Ahead v u)
      go true q s x y z true e = record { more = omega (arith, whole); tied = λ h. absurd (omega (arith, whole)) }
      go true q s x y z false e = let z : ◌≡◌ {A = ℕ} 0 1 = cc in absurd (omega arith)
      go false true s x y z true e = let z : ◌≡◌ {A = ℕ} 0 1 = cc in absurd (omega arith)
      go false true s x y z false e = record { more = omega (arith, whole); tied = λ h. absurd (omega (arith, whole)) }
      go false false s x y z true e = record { more = omega (arith, whole); tied = λ h. says u v true (z ∙ e) }
      go false false s x y z false e = record { more = omega (arith, whole); tied = λ h. says u v false (z ∙ e) }

  -- the chosen one is ahead of all
  best_ahead : (v : ℕ) (l : List ℕ) → Ahead (best f tie v (f v) l) v × ((u : ℕ) → count u l ≢ 0 → Ahead (best f tie v (f v) l) u)
  best_ahead v [] = (ahead_self v, λ u m. absurd (m refl))
  best_ahead v (u ∷ l) = go (ranks (f u) (f v) (tie u v)) refl (best_ahead u l) (best_ahead v l)
    where
      go : (t : Bool) → ranks (f u) (f v) (tie u v) ≡ t
          → Ahead (best f tie u (f u) l) u × ((y : ℕ) → count y l ≢ 0 → Ahead (best f tie u (f u) l) y)
          → Ahead (best f tie v (f v) l) v × ((y : ℕ) → count y l ≢ 0 → Ahead (best f tie v (f v) l) y)
          → Ahead (elim t [ true ↦ best f tie u (f u) l | false ↦ best f tie v (f v) l ]) v
          × ((y : ℕ) → count y (u ∷ l) ≢ 0 → Ahead (elim t [ true ↦ best f tie u (f u) l | false ↦ best f tie v (f v) l ]) y)
      go true e a b = (ahead_trans (best f tie u (f u) l) u v a.0 (ahead_one u v true e), λ y m. rest y m (equal? y u))
        where
          rest : (y : ℕ) → delta y u + count y l ≢ 0 → (y ≡ u) ⊎ (y ≢ u) → Ahead (best f tie u (f u) l) y
          rest y m (inl q) = subst (λ z. Ahead (best f tie u (f u) l) z) (sym q) a.0
          rest y m (inr d) = a.1 y (omega (arith, delta_ne y u d))
      go false e a b = (b.0, λ y m. rest y m (equal? y u))
        where
          rest : (y : ℕ) → delta y u + count y l ≢ 0 → (y ≡ u) ⊎ (y ≢ u) → Ahead (best f tie v (f v) l) y
          rest y m (inl q) = subst (λ z. Ahead (best f tie v (f v) l) z) (sym q) (ahead_trans (best f tie v (f v) l) v u b.0 (ahead_one u v false e))
          rest y m (inr d) = b.1 y (omega (arith, delta_ne y u d))

  best_first : (v : ℕ) (l : List ℕ) (u : ℕ) → count u (v ∷ l) ≢ 0 → Ahead (best_of f tie (v ∷ l)) u
  best_first v l u m = go (equal? u v)
    where
      go : (u ≡ v) ⊎ (u ≢ v) → Ahead (best_of f tie (v ∷ l)) u
      go (inl e) = subst (λ z. Ahead (best_of f tie (v ∷ l)) z) (sym e) (best_ahead v l).0
      go (inr d) = (best_ahead v l).1 u (omega (arith, delta_ne u v d))

-- ---- "take the one whose lower end is nearest to the new sink, ..; then the lowest number"

-- u is nearer than v, or as near with a number no higher
pub record NearerOrLower (d : ℕ → ℕ) (u v : ℕ) : Type 0 where
  pub near : d u ≤ d v
  pub low : d u ≡ d v → u ≤ v

pub nearer_says : (d : ℕ → ℕ) (u v : ℕ) (t : Bool) → nearer (d u) (d v) (ltb u v) ≡ t → cond t (NearerOrLower d u v) (NearerOrLower d v u)
nearer_says d u v t e = go (ltb (d u) (d v)) (ltb (d v) (d u)) (ltb u v) refl refl refl t e
  where
    go : (x y z : Bool) → ltb (d u) (d v) ≡ x → ltb (d v) (d u) ≡ y → ltb u v ≡ z → (t : Bool) → cond x true (cond y false z) ≡ t → cond t (NearerOrLower d u v) (NearerOrLower d v u)
    go true y z a b c true e = let h : d u < d v = ltb-true (d u) (d v) a in record { near = omega arith; low = λ q. absurd (omega arith) }
    go true y z a b c false e = let q : ◌≡◌ {A = ℕ} 0 1 = cc in absurd (omega arith)
    go false true z a b c true e = let q : ◌≡◌ {A = ℕ} 0 1 = cc in absurd (omega arith)
    go false true z a b c false e = let h : d v < d u = ltb-true (d v) (d u) b in record { near = omega arith; low = λ q. absurd (omega arith) }
    go false false z a b c true e = let q : ltb u v ≡ true = c ∙ e in record { near = omega (arith, ltb-false (d v) (d u) b); low = λ i. omega (arith, ltb-true u v q) }
    go false false z a b c false e = let q : ltb u v ≡ false = c ∙ e in record { near = omega (arith, ltb-false (d u) (d v) a); low = λ i. omega (arith, ltb-false u v q) }

pub before_self : (d : ℕ → ℕ) (u : ℕ) → NearerOrLower d u u
before_self d u = record { near = omega arith; low = λ q. omega arith }

pub before_trans : (d : ℕ → ℕ) (u v w : ℕ) → NearerOrLower d u v → NearerOrLower d v w → NearerOrLower d u w
before_trans d u v w a b = record { near = omega (arith, a.near, b.near); low = λ e. omega (arith, a.low (omega (arith, a.near, b.near)), b.low (omega (arith, a.near, b.near))) }

-- the rule by a distance, as `nearest` is
abbrev pub by_distance : (ℕ → ℕ) → ℕ → ℕ → Bool
by_distance d u v = nearer (d u) (d v) (ltb u v)

pub nearest_law : (d : ℕ → ℕ) (f : ℕ → ℤ) (v : ℕ) (l : List ℕ) (u : ℕ) → count u (v ∷ l) ≢ 0 → f u ≡ f (best_of f (by_distance d) (v ∷ l)) → NearerOrLower d (best_of f (by_distance d) (v ∷ l)) u
nearest_law d f v l u m e =
    (best_first f (by_distance d) (NearerOrLower d) (before_self d) (before_trans d) (nearer_says d) v l u m).tied e

-- ---- whatever finds a largest that comes first finds what `best_of` finds
pub best_unique : (d : ℕ → ℕ) (f : ℕ → ℤ) (v : ℕ) (l : List ℕ) (r : ℕ) → count r (v ∷ l) ≢ 0
    → ((u : ℕ) → count u (v ∷ l) ≢ 0 → f u ≤ℤ f r) → ((u : ℕ) → count u (v ∷ l) ≢ 0 → f u ≡ f r → NearerOrLower d r u) → r ≡ best_of f (by_distance d) (v ∷ l)
best_unique d f v l r m top first =
    let b : ℕ = best_of f (by_distance d) (v ∷ l) in
    let mb : count b (v ∷ l) ≢ 0 = best_member f (by_distance d) v l in
    let h : f r ≤ℤ f b = best_largest f (by_distance d) v l r m in
    let k : f b ≤ℤ f r = top b mb in
    let e : f r ≡ f b = omega (arith, whole) in
    let x : NearerOrLower d r b = first b mb (sym e) in
    let y : NearerOrLower d b r = nearest_law d f v l r m e in
    omega (arith, x.low (omega (arith, x.near, y.near)), y.low (omega (arith, x.near, y.near)))
