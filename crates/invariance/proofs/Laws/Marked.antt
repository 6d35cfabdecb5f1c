-- The marked pair, by computation. Assumes nothing.
use mathlib.Core.Path.{◌≡◌, refl}
use native.Mathlib.Omega.{arith}
use lib.IntN.{pos, neg_ℤ}
use Rattle.quantities.specs.Inner.Linear.{whole}
use Rattle.quantities.specs.MinMax.{min_ℤ, max_ℤ}
use Rattle.quantities.specs.Distance.{span, distance}
use Rattle.quantities.specs.Median.{median, median_point}
use Rattle.quantities.specs.Delay.{delay}
use Rattle.tree.specs.Net.{Net}
use Rattle.tree.specs.Measures.{worst_slack, wire_length}
use Rattle.tree.specs.Planning.{tie_rule}
use Rattle.tree.specs.Settling.{plan, plan_by}
use Rattle.formats.specs.Decimal.{digits, show_nat, show}
use Rattle.formats.specs.Reading.Numbers.{lead, natural, field}
use Rattle.formats.specs.Reading.Numbers.{value as digits_value}
use Rattle.formats.specs.Reading.Rows.{number_then, row_in, begins, line_in}
use Rattle.formats.specs.Reading.Nets.{read_weighted, read_net}
use Rattle.formats.specs.ListingText.{listing_text}
use Rattle.formats.specs.Outcome.{value}
use Rattle.formats.proofs.Laws.Nets.NetTexts.{net_sound}
use Rattle.operations.specs.Answers.{plan_listing}
use Rattle.operations.proofs.Laws.Marked.{planned_over}
use Rattle.invariance.specs.Times.{thousand, times_net}
use Rattle.invariance.specs.Marked.{small_net, small_text, large_text, small_listing, large_listing, Marked}

abbrev large_net : Net
large_net = times_net thousand small_net

read_small : read_net small_text ≡ value small_net
unfolding read_net read_weighted number_then row_in begins line_in field natural digits_value lead distance span
read_small = refl

read_large : read_net large_text ≡ value large_net
unfolding read_net read_weighted number_then row_in begins line_in field natural digits_value lead distance span
read_large = refl

pub marked : Marked
unfolding plan_listing listing_text digits show_nat show worst_slack wire_length plan plan_by tie_rule min_ℤ max_ℤ median median_point delay distance span
marked = record {
  small_format = net_sound small_text small_net read_small;
  small_plan = planned_over small_text small_net read_small (neg_ℤ (pos 20)) 28 small_listing refl refl refl (omega (arith, whole));
  large_format = net_sound large_text large_net read_large;
  large_plan = planned_over large_text large_net read_large (neg_ℤ (pos 20_000)) 28_000 large_listing refl refl refl (omega (arith, whole));
}
