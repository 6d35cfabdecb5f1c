-- What is asked of ranges: a number is held only up to the cap, so no number at the cap may be in one. Definitions alone.
use Rattle.std.specs.Prelude.{List, [], ◌∷◌, pos, neg_ℤ, ◌<ℤ◌}
use Rattle.formats.specs.Inner.Scanning.{magnitude_cap}
use Rattle.formats.specs.declared.ranges.Range.{Range}

-- a range that no number at the cap is in
pub record Narrow (r : Range) : Type 0 where
  pub low : neg_ℤ (pos magnitude_cap) <ℤ r.from
  pub high : r.to <ℤ pos magnitude_cap

abbrev pub AllNarrow : List Range → Type 0
AllNarrow [] = Unit {0}
AllNarrow (r ∷ rs) = Narrow r × AllNarrow rs
