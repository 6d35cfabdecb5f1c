-- The first of some numbers by a measure. Assumes nothing.
use Prim.Native.Nat.{ℕ, ◌+◌, ◌<◌}
use mathlib.Core.Path.{◌≡◌, refl, sym, ◌∙◌, subst}
use mathlib.Core.Bool.{Bool, true, false, cond}
use mathlib.Core.Logic.{◌≢◌, ◌⊎◌, inl, inr}
use mathlib.Core.List.{List, [], ◌∷◌}
use native.Mathlib.Omega.{arith}
use borrow.Author.Tests.{ltb-true, ltb-false}
use lib.Dec.{ltb}
use Rattle.tree.specs.Lists.{count, delta}
use Rattle.tree.proofs.Laws.Lists.Sums.{equal?, delta_ne, delta_self}
use Rattle.short_tree.specs.Choosing.{goes_before, first_from, first_of}
use Rattle.short_tree.specs.Inner.Searching.{Leads, Ahead, First}

pub leads_self : (a v : ℕ) → Leads a v a v
leads_self a v = record { less = omega arith; tied = λ e. omega arith }

pub leads_trans : (a v : ℕ) {b u c w : ℕ} → Leads a v b u → Leads b u c w → Leads a v c w
leads_trans a v h k = record { less = omega (arith, h.less, k.less); tied = λ e. omega (arith, h.tied (omega (arith, h.less, k.less)), k.tied (omega (arith, h.less, k.less))) }

-- of the same numbers under other names
pub leads_same : {a v b u : ℕ} (c w d x : ℕ) → a ≡ c → v ≡ w → b ≡ d → u ≡ x → Leads a v b u → Leads c w d x
leads_same c w d x e f g h L = record { less = omega (arith, L.less); tied = λ q. omega (arith, L.tied (omega arith)) }

-- what a test of two edges has said, by its result
pub leads_if : {a v b u : ℕ} (t : Bool) → t ≡ true → cond t (Leads a v b u) (Leads b u a v) → Leads a v b u
leads_if true e L = L
leads_if false e L = let z : ◌≡◌ {A = ℕ} 0 1 = cc in absurd (omega arith)

pub leads_else : {a v b u : ℕ} (t : Bool) → t ≡ false → cond t (Leads a v b u) (Leads b u a v) → Leads b u a v
leads_else true e L = let z : ◌≡◌ {A = ℕ} 0 1 = cc in absurd (omega arith)
leads_else false e L = L

-- the lesser leads
pub leads_less : (a v b u : ℕ) → a < b → Leads a v b u
leads_less a v b u h = record { less = omega arith; tied = λ e. absurd (omega arith) }

module _ (f : ℕ → ℕ) where
  pub ahead_self : (u : ℕ) → Ahead f u u
  ahead_self u = leads_self (f u) u

  pub ahead_trans : {r u v : ℕ} → Ahead f r u → Ahead f u v → Ahead f r v
  ahead_trans {r} h k = leads_trans (f r) r h k

  -- what the test says
  pub ahead_test : (u v : ℕ) (t : Bool) → goes_before f u v ≡ t → cond t (Ahead f u v) (Ahead f v u)
  ahead_test u v t e = go (ltb (f u) (f v)) (ltb (f v) (f u)) (ltb u v) refl refl refl t e
    where
      go : (p q s : Bool) → ltb (f u) (f v) ≡ p → ltb (f v) (f u) ≡ q → ltb u v ≡ s → (t : Bool) → cond p true (cond q false s) ≡ t → cond t (Ahead f u v) (Ahead f v u)
      go true q s x y z true e = record { less = omega (arith, ltb-true (f u) (f v) x); tied = λ h. absurd (omega (arith, ltb-true (f u) (f v) x)) }
      go true q s x y z false e = let z : ◌≡◌ {A = ℕ} 0 1 = cc in absurd (omega arith)
      go false true s x y z true e = let z : ◌≡◌ {A = ℕ} 0 1 = cc in absurd (omega arith)
      go false true s x y z false e = record { less = omega (arith, ltb-true (f v) (f u) y); tied = λ h. absurd (omega (arith, ltb-true (f v) (f u) y)) }
      go false false s x y z true e = record { less = omega (arith, ltb-false (f v) (f u) y); tied = λ h. omega (arith, ltb-true u v (z ∙ e)) }
      go false false s x y z false e = record { less = omega (arith, ltb-false (f u) (f v) x); tied = λ h. omega (arith, ltb-false u v (z ∙ e)) }

-- of a list
abbrev pub FirstOf : (ℕ → ℕ) → List ℕ → ℕ → Type 0
FirstOf f l r = First f (λ u. count u l ≢ 0) r

module _ (f : ℕ → ℕ) where
  pub first_one : (v : ℕ) → FirstOf f (v ∷ []) v
  first_one v = record { member = omega (arith, delta_self v); ahead = λ u m. go u m (equal? u v) }
    where
      go : (u : ℕ) → delta u v + 0 ≢ 0 → (u ≡ v) ⊎ (u ≢ v) → Ahead f v u
      go u m (inl e) = subst (Ahead f v) (sym e) (ahead_self f v)
      go u m (inr d) = absurd (m (omega (arith, delta_ne u v d)))

  -- of v and the list
  first_from_lem : (v : ℕ) (l : List ℕ) → FirstOf f (v ∷ l) (first_from f v l)
  first_from_lem v [] = first_one v
  first_from_lem v (u ∷ l) = go (goes_before f u v) refl (first_from_lem u l) (first_from_lem v l)
    where
      go : (t : Bool) → goes_before f u v ≡ t → FirstOf f (u ∷ l) (first_from f u l) → FirstOf f (v ∷ l) (first_from f v l)
          → FirstOf f (v ∷ (u ∷ l)) (elim t [ true ↦ first_from f u l | false ↦ first_from f v l ])
      go true e a b = record { member = omega (arith, a.member); ahead = λ y m. rest y m (equal? y v) }
        where
          rest : (y : ℕ) → delta y v + (delta y u + count y l) ≢ 0 → (y ≡ v) ⊎ (y ≢ v) → Ahead f (first_from f u l) y
          rest y m (inl q) = subst (Ahead f (first_from f u l)) (sym q) (ahead_trans f (a.ahead u (omega (arith, delta_self u))) (ahead_test f u v true e))
          rest y m (inr d) = a.ahead y (omega (arith, delta_ne y v d))
      go false e a b = record { member = omega (arith, b.member); ahead = λ y m. rest y m (equal? y u) }
        where
          rest : (y : ℕ) → delta y v + (delta y u + count y l) ≢ 0 → (y ≡ u) ⊎ (y ≢ u) → Ahead f (first_from f v l) y
          rest y m (inl q) = subst (Ahead f (first_from f v l)) (sym q) (ahead_trans f (b.ahead v (omega (arith, delta_self v))) (ahead_test f u v false e))
          rest y m (inr d) = b.ahead y (omega (arith, delta_ne y u d))

  pub first_of_lem : (l : List ℕ) (v : ℕ) → count v l ≢ 0 → FirstOf f l (first_of f l)
  first_of_lem [] v m = absurd (m refl)
  first_of_lem (u ∷ l) v m = first_from_lem u l

  -- there is one only
  pub first_unique : {In : ℕ → Type 0} {r q : ℕ} → First f In r → First f In q → r ≡ q
  first_unique {In} {r} {q} a b =
      let h : Ahead f r q = a.ahead q b.member in
      let k : Ahead f q r = b.ahead r a.member in
      omega (arith, h.tied (omega (arith, h.less, k.less)), k.tied (omega (arith, h.less, k.less)))

  pub first_is : (l : List ℕ) {r : ℕ} → FirstOf f l r → r ≡ first_of f l
  first_is l {r} a = first_unique {In = λ u. count u l ≢ 0} a (first_of_lem l r a.member)

  -- the same ones are in, and f is the same on them
  pub first_map : (In Jn : ℕ → Type 0) (h : ℕ → ℕ) {r : ℕ} → ((u : ℕ) → In u → Jn u) → ((u : ℕ) → Jn u → In u) → ((u : ℕ) → Jn u → h u ≡ f u) → First f In r → First h Jn r
  first_map In Jn h {r} to from same a = record {
    member = to r a.member;
    ahead = λ u j. record {
      less = omega (arith, (a.ahead u (from u j)).less, same u j, same r (to r a.member));
      tied = λ e. (a.ahead u (from u j)).tied (omega (arith, same u j, same r (to r a.member)));
    };
  }
