-- Where a score is given and where 14 is, by the tests and by the ranges. Assumes nothing.
use mathlib.Core.Path.{◌≡◌, refl, sym, subst}
use mathlib.Core.List.{List}
use mathlib.Core.Bool.{Bool, true, false, cond, ◌&&◌}
use Rattle.std.proofs.Common.{is_ge, Less, Greater, Equal}
use Prim.Native.Nat.{ℕ}
use native.Mathlib.Omega.{arith}
use lib.Dec.{T}
use lib.IntN.{ℤ, pos, neg_ℤ}
use lib.Signed.{lt_z, le_z, ◌≤ℤ◌}
use Rattle.quantities.specs.Inner.Linear.{whole, le_z_is, le_z_not}
use Rattle.formats.specs.Outcome.{value, refused}
use Rattle.formats.specs.declared.refusal.Refusal.{Refusal}
use Rattle.formats.specs.declared.refusal.Refusal.TheVariants.{NotScored}
use Rattle.formats.proofs.Laws.Lines.Outcomes.{then_value, then_refused}
use Rattle.operations.specs.Answers.{Judgement, judge_of}
use Rattle.scoring.specs.Limits.{parts, cap_limit, late_limit, FromZero}
use Rattle.scoring.specs.Exact.{score1024ths}
use Rattle.scoring.specs.Scores.{is_from_zero, is_scored, scored_at, scored, score_of}

-- ---- tests one after the other

false_true : false ≡ true → ⊥
false_true e = subst T (sym e) tt

both : (a b : Bool) → a && b ≡ true → (a ≡ true) × (b ≡ true)
both true b e = (refl, e)
both false b e = absurd (false_true e)

-- ---- ranges

from_zero_only : (k : ℕ) (z : ℤ) → is_from_zero k z ≡ true → FromZero k z
from_zero_only k z e = let h = both (le_z (pos 0) z) (le_z z (pos k)) e in (le_of h.0, le_of h.1)
  where
    le_of : {a b : ℤ} → le_z a b ≡ true → a ≤ℤ b
    le_of e = omega (arith, whole)

from_zero_if : (k : ℕ) (z : ℤ) → FromZero k z → is_from_zero k z ≡ true
from_zero_if k z h = λ i. le_z_is {a = pos 0} {b = z} h.0 i && le_z_is {a = z} {b = pos k} h.1 i

-- a test by the derived order of times, by their numbers
pub late_says : (z k : ℤ) → is_ge (cond (lt_z z k) Less (cond (lt_z k z) Greater Equal)) ≡ le_z k z
late_says z k = by (lt_z z k) refl (lt_z k z)
  where
    by : (t : Bool) → lt_z z k ≡ t → (u : Bool) → is_ge (cond t Less (cond u Greater Equal)) ≡ le_z k z
    by true e u = sym (le_z_not {a = k} {b = z} (omega (arith, whole)))
    by false e true = sym (le_z_is {a = k} {b = z} (omega (arith, whole)))
    by false e false = sym (le_z_is {a = k} {b = z} (omega (arith, whole)))

-- ---- the score

module _ (A B cap m : ℤ) where
  -- what the four tests are for
  abbrev pub InRanges : Type 0
  InRanges = FromZero parts A × FromZero parts B × FromZero cap_limit cap × (neg_ℤ (pos late_limit) ≤ℤ m)

  pub scored_only : is_scored A B cap m ≡ true → InRanges
  unfolding is_scored
  scored_only e =
      let a = both (is_from_zero parts A) _ e in
      let b = both (is_from_zero parts B) _ a.1 in
      let c = both (is_from_zero cap_limit cap) _ b.1 in
      let d = c.1 in
      (from_zero_only parts A a.0, from_zero_only parts B b.0, from_zero_only cap_limit cap c.0, omega (arith, whole))

  pub scored_if : InRanges → is_scored A B cap m ≡ true
  unfolding is_scored
  scored_if h = λ i. from_zero_if parts A h.0 i && (from_zero_if parts B h.1 i && (from_zero_if cap_limit cap h.2 i && le_z_is {a = neg_ℤ (pos late_limit)} {b = m} h.3 i))

  -- by one test after the other
  pub no_alpha : is_from_zero parts A ≡ false → false ≡ is_scored A B cap m
  unfolding is_scored
  no_alpha e = rw e refl

  pub no_beta : is_from_zero parts A ≡ true → is_from_zero parts B ≡ false → false ≡ is_scored A B cap m
  unfolding is_scored
  no_beta e f = rw (e, f) refl

  pub no_cap : is_from_zero parts A ≡ true → is_from_zero parts B ≡ true → is_from_zero cap_limit cap ≡ false → false ≡ is_scored A B cap m
  unfolding is_scored
  no_cap e f g = rw (e, f, g) refl

  pub by_slack : is_from_zero parts A ≡ true → is_from_zero parts B ≡ true → is_from_zero cap_limit cap ≡ true → le_z (neg_ℤ (pos late_limit)) m ≡ is_scored A B cap m
  unfolding is_scored
  by_slack e f g = rw (e, f, g) refl

  -- by the value of all four
  pub scored_no : (wire : ℕ) → is_scored A B cap m ≡ false → scored_at A B cap m wire ≡ refused NotScored
  scored_no wire e = rw (scored_at, e)

  pub scored_yes : (wire : ℕ) → is_scored A B cap m ≡ true → scored_at A B cap m wire ≡ value (score1024ths A B m wire)
  scored_yes wire e = rw (scored_at, e)

-- ---- of the two texts

module _ (net listing : List ℕ) (A B cap : ℤ) where
  pub score_refused : (e : Refusal) → judge_of net listing ≡ refused e → score_of net listing A B cap ≡ refused e
  unfolding score_of
  score_refused e h = then_refused _ h

  pub score_judged : (j : Judgement) → judge_of net listing ≡ value j → score_of net listing A B cap ≡ scored A B cap j.slack j.wire
  unfolding score_of
  score_judged j h = then_value _ h
