-- The derived order of times is that of their numbers: which of two is less, whether two are the same, the least and the greatest of two.
use native.Mathlib.Omega.{arith}
use Rattle.std.proofs.Common.{◌≡◌, refl, sym, ap, ◌∙◌, is_eq, Less, Greater, Equal}
use Rattle.std.specs.Prelude.{cond, ◌&&◌, Bool, true, false}
use Rattle.std.specs.Int.Signed.{lt_z, le_z}
use Rattle.std.specs.Ordering.{ord_min, ord_max, is_lt, partial_lt}
use Rattle.quantities.specs.declared.time.Time.{Time}
use Rattle.quantities.specs.MinMax.{min_ℤ, max_ℤ}
use Rattle.quantities.specs.contracts.time.TimeOrd.TheImpl.{cmp-value}
use Rattle.quantities.specs.contracts.time.TimePartialOrd.TheImpl.{partial_cmp-value}
use Rattle.quantities.specs.contracts.time.TimePartialEq.TheImpl.{eq-value}
use Rattle.quantities.specs.Inner.Linear.{whole, le_z_is, le_z_not}
use Rattle.quantities.proofs.Laws.MinMax as MinMax

-- a test of an order by its three answers
by_less : {A : Type 0} (x y : A) (t u : Bool) → cond (is_lt (cond t Less (cond u Greater Equal))) x y ≡ cond t x y
by_less x y true u = refl
by_less x y false true = refl
by_less x y false false = refl

by_number : (x y : Time) (t : Bool) → (cond t x y).0 ≡ cond t x.0 y.0
by_number x y true = refl
by_number x y false = refl

-- what `a < b` and `a == b` test
pub less_of : (a b : Time) → partial_lt partial_cmp-value.it a b ≡ lt_z a.0 b.0
less_of a b = go (lt_z a.0 b.0) (lt_z b.0 a.0)
  where
    go : (p q : Bool) → is_lt (cond p Less (cond q Greater Equal)) ≡ p
    go true q = refl
    go false true = refl
    go false false = refl

pub same_of : (a b : Time) → eq-value.it a b ≡ (le_z a.0 b.0 && le_z b.0 a.0)
same_of a b = by (lt_z a.0 b.0) refl (lt_z b.0 a.0) refl
  where
    by : (p : Bool) → lt_z a.0 b.0 ≡ p → (q : Bool) → lt_z b.0 a.0 ≡ q → is_eq (cond p Less (cond q Greater Equal)) ≡ (le_z a.0 b.0 && le_z b.0 a.0)
    by true e q f = sym (λ i. le_z_is {a = a.0} {b = b.0} (omega (arith, whole)) i && le_z_not {a = b.0} {b = a.0} (omega (arith, whole)) i)
    by false e true f = sym (λ i. le_z_not {a = a.0} {b = b.0} (omega (arith, whole)) i && le_z b.0 a.0)
    by false e false f = sym (λ i. le_z_is {a = a.0} {b = b.0} (omega (arith, whole)) i && le_z_is {a = b.0} {b = a.0} (omega (arith, whole)) i)

pub least_of : (a b : Time) → (ord_min cmp-value.it a b).0 ≡ min_ℤ a.0 b.0
least_of a b = ap (λ (z : Time). z.0) (by_less b a (lt_z b.0 a.0) (lt_z a.0 b.0)) ∙ by_number b a (lt_z b.0 a.0) ∙ MinMax.least_of a.0 b.0

pub greatest_of : (a b : Time) → (ord_max cmp-value.it a b).0 ≡ max_ℤ a.0 b.0
greatest_of a b = ap (λ (z : Time). z.0) (by_less a b (lt_z b.0 a.0) (lt_z a.0 b.0)) ∙ by_number a b (lt_z b.0 a.0) ∙ MinMax.greatest_of a.0 b.0
