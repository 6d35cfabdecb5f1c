-- The lesser and the greater of two whole numbers. Definitions alone.
-- A whole number is the library's ℤ: `pos n` is n, `negsuc n` is -(n + 1). Its sums are `◌+ℤ◌`, `◌-ℤ◌`, `◌*ℤ◌`, its order `◌≤ℤ◌` and `◌<ℤ◌`, with the tests `le_z` and `lt_z`.
use Rattle.std.specs.Prelude.{cond, ℤ}
use Rattle.std.specs.Int.Signed.{le_z}

unfoldable pub min_ℤ : ℤ → ℤ → ℤ
min_ℤ a b = cond (le_z a b) a b

unfoldable pub max_ℤ : ℤ → ℤ → ℤ
max_ℤ a b = cond (le_z a b) b a
