-- Which of two lengths is the lesser, and which of two edges goes before, by their derived orders. Assumes nothing.
use Prim.Native.Nat.{ℕ}
use mathlib.Core.Path.{◌≡◌, refl}
use mathlib.Core.Bool.{Bool, true, false, cond}
use native.Mathlib.Omega.{arith}
use borrow.Author.Tests.{ltb-true, ltb-false, eqb-true, eqb-false}
use lib.Dec.{ltb, eqb}
use Rattle.std.proofs.Common.{Some, Less, Equal, Greater}
use Rattle.std.specs.Ordering.{ordering_then, partial_ordering_then, is_lt, is_some_and, ord_min, partial_lt}
use Rattle.quantities.specs.declared.length.Length.{Length}
use Rattle.quantities.specs.contracts.length.LengthPartialOrd.TheImpl as lengths
use Rattle.short_tree.specs.declared.edge.Edge.{Edge}
use Rattle.short_tree.specs.contracts.edge.EdgeOrd.TheImpl.{cmp-value}
use Rattle.short_tree.specs.contracts.edge.EdgePartialOrd.TheImpl.{partial_cmp-value}
use Rattle.short_tree.specs.Inner.Searching.{Leads}
use Rattle.short_tree.proofs.Laws.Choosing.{leads_less}

pub less_length : (x y : Length) → partial_lt lengths.partial_cmp-value.it x y ≡ ltb x.0 y.0
less_length x y = go (ltb x.0 y.0) (eqb x.0 y.0)
  where
    go : (p q : Bool) → is_lt (cond p Less (cond q Equal Greater)) ≡ p
    go true q = refl
    go false true = refl
    go false false = refl

-- what the test of what the edges add and of their lower ends says, in either of its two forms
module _ (a v b u : ℕ) where
  says : (test : Bool → Bool → Bool → Bool → Bool)
      → ((q r z : Bool) → test true q r z ≡ true) → ((z : Bool) → test false true true z ≡ true) → ((z : Bool) → test false true false z ≡ false) → ((r z : Bool) → test false false r z ≡ false)
      → cond (test (ltb a b) (eqb a b) (ltb v u) (eqb v u)) (Leads a v b u) (Leads b u a v)
  says test less lower not_lower more = go (ltb a b) (eqb a b) (ltb v u) (eqb v u) refl refl refl _ refl
    where
      go : (p q r z : Bool) → ltb a b ≡ p → eqb a b ≡ q → ltb v u ≡ r → (t : Bool) → test p q r z ≡ t → cond t (Leads a v b u) (Leads b u a v)
      go true q r z e f g true h = leads_less a v b u (ltb-true a b e)
      go true q r z e f g false h = let w : ◌≡◌ {A = Bool} true false = cc (less q r z) in absurd (cc)
      go false true true z e f g true h = record { less = omega (arith, eqb-true a b f); tied = λ s. omega (arith, ltb-true v u g) }
      go false true true z e f g false h = let w : ◌≡◌ {A = Bool} true false = cc (lower z) in absurd (cc)
      go false true false z e f g true h = let w : ◌≡◌ {A = Bool} true false = cc (not_lower z) in absurd (cc)
      go false true false z e f g false h = record { less = omega (arith, eqb-true a b f); tied = λ s. omega (arith, ltb-false v u g) }
      go false false r z e f g true h = let w : ◌≡◌ {A = Bool} true false = cc (more r z) in absurd (cc)
      go false false r z e f g false h = leads_less b u a v (omega (arith, ltb-false a b e, eqb-false a b f))

not_less : (z : Bool) → is_lt (cond z Equal Greater) ≡ false
not_less true = refl
not_less false = refl

-- `x < y`, and what `x.min(y)` tests
pub before_says : (x y : Edge) → cond (partial_lt partial_cmp-value.it x y) (Leads x.added.0 x.lower y.added.0 y.lower) (Leads y.added.0 y.lower x.added.0 x.lower)
before_says x y = says x.added.0 x.lower y.added.0 y.lower
    (λ p q r z. is_some_and is_lt (partial_ordering_then (Some (cond p Less (cond q Equal Greater))) (Some (cond r Less (cond z Equal Greater)))))
    (λ q r z. refl) (λ z. refl) not_less (λ r z. refl)

pub cmp_says : (x y : Edge) → cond (is_lt (cmp-value.it x y)) (Leads x.added.0 x.lower y.added.0 y.lower) (Leads y.added.0 y.lower x.added.0 x.lower)
cmp_says x y = says x.added.0 x.lower y.added.0 y.lower
    (λ p q r z. is_lt (ordering_then (cond p Less (cond q Equal Greater)) (cond r Less (cond z Equal Greater))))
    (λ q r z. refl) (λ z. refl) not_less (λ r z. refl)

-- the lesser of two edges is one of them, and goes before the other
pub least_by : (P : Edge → Type 0) (x y : Edge) → (Leads x.added.0 x.lower y.added.0 y.lower → P x) → (Leads y.added.0 y.lower x.added.0 x.lower → P y) → P (ord_min cmp-value.it x y)
least_by P x y f g = go (is_lt (cmp-value.it y x)) (cmp_says y x)
  where
    go : (t : Bool) → cond t (Leads y.added.0 y.lower x.added.0 x.lower) (Leads x.added.0 x.lower y.added.0 y.lower) → P (cond t y x)
    go true L = g L
    go false L = f L
