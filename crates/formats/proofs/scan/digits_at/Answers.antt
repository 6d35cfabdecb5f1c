use Rattle.formats.proofs.Laws.Numbers.Digits.{digit_no, digit_yes, lead_end, lead_other}
use Rattle.formats.proofs.Laws.Numbers.Saturation.{Going, going_more, going_stop}
use Rattle.std.proofs.Common.{◌≡◌, ℕ, ◌≤◌, length, arith, subst}
use Rattle.formats.proofs.scan.digits_at.Goals as goal

pub returns-then-not-is_ascii_digit : goal.returns-then-not-is_ascii_digit
returns-then-not-is_ascii_digit c =
    going_stop _ _ _ _ _ (lead_other _ _ c.loop-i-test.true (digit_no _ c.if-not-is_ascii_digit.ensures.cases)) c.loop-i.invariant

pub loop-i-preserved : goal.loop-i-preserved
loop-i-preserved c =
    rw c.digit-number.ensures (going_more _ _ _ _ _ c.loop-i-test.true (digit_yes _ c.if-not-is_ascii_digit.ensures.cases) c.loop-i.invariant)

pub returns : goal.returns
returns c =
    let a = c.args in
    let n : ℕ = length a.text.now in
    let all : n ≤ n = omega arith in
    let e : c.loop-i.i ≡ n = omega (arith, c.loop-i.invariant.within) in
    going_stop _ _ _ _ _ (lead_end a.text.now n all) (subst (Going a.neg a.text.now a.from c.loop-i.number) e c.loop-i.invariant)
