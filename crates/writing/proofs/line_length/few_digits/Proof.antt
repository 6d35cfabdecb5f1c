-- How many digits a number below 10,000 has: each test that fails leaves one digit more. No loop.
use Prim.Native.Nat.{◌/◌}
use native.Mathlib.Omega.{arith}
use Rattle.formats.proofs.Laws.Listings.ListingLengths.{one_digit, digit_more}
use Rattle.writing.proofs.line_length.few_digits.Statement.{statement}
use Rattle.writing.proofs.line_length.few_digits.Tie as tie

returns-then-n-lt10 : tie.Need-returns-then-n-lt10
returns-then-n-lt10 c =
    let n = c.args.n in
    omega (arith, one_digit n c.if-n-lt10.true)

returns-then-n-lt100 : tie.Need-returns-then-n-lt100
returns-then-n-lt100 c =
    let n = c.args.n in
    let low = c.if-n-lt10.false in
    omega (arith, digit_more n low, one_digit (n / 10) (omega arith))

returns-then-n-lt1000 : tie.Need-returns-then-n-lt1000
returns-then-n-lt1000 c =
    let n = c.args.n in
    omega (arith, digit_more n (omega arith), digit_more (n / 10) (omega arith), one_digit (n / 10 / 10) (omega arith))

returns : tie.Need-returns
returns c =
    let n = c.args.n in
    omega (arith, digit_more n (omega arith), digit_more (n / 10) (omega arith), digit_more (n / 10 / 10) (omega arith), one_digit (n / 10 / 10 / 10) (omega arith))

pub few_digits_spec : {M : Type 1} → statement M
few_digits_spec = tie.close (tie.spec returns-then-n-lt10 returns-then-n-lt100 returns-then-n-lt1000 returns)
