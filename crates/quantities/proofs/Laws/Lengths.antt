-- The derived order of lengths is that of their numbers: which of two is less, and whether two are the same.
use Rattle.std.proofs.Common.{◌≡◌, refl, Less, Greater, Equal}
use Rattle.std.specs.Prelude.{cond, ltb, eqb, Bool, true, false}
use Rattle.std.specs.Ordering.{is_lt, partial_lt}
use Rattle.quantities.specs.declared.length.Length.{Length}
use Rattle.quantities.specs.contracts.length.LengthPartialOrd.TheImpl.{partial_cmp-value}
use Rattle.quantities.specs.contracts.length.LengthPartialEq.TheImpl.{eq-value}

-- what `a < b` and `a == b` test
pub less_of : (a b : Length) → partial_lt partial_cmp-value.it a b ≡ ltb a.0 b.0
less_of a b = go (ltb a.0 b.0) (eqb a.0 b.0)
  where
    go : (p q : Bool) → is_lt (cond p Less (cond q Equal Greater)) ≡ p
    go true q = refl
    go false true = refl
    go false false = refl

pub same_of : (a b : Length) → eq-value.it a b ≡ eqb a.0 b.0
same_of a b = refl
