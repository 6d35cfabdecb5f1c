-- The marked scores of request 8, by computation. Assumes nothing.
use Prim.Native.Nat.{ℕ}
use mathlib.Core.Path.{◌≡◌, refl, ◌∙◌}
use mathlib.Core.List.{List, [], ◌∷◌}
use lib.IntN.{ℤ, pos, neg_ℤ}
use lib.Ieee.{round, to_bits}
use Rattle.quantities.specs.Delay.{delay}
use Rattle.quantities.specs.Distance.{span, distance}
use Rattle.quantities.specs.MinMax.{min_ℤ}
use Rattle.quantities.specs.Floor.{floor_div}
use Rattle.tree.specs.Net.{Net}
use Rattle.tree.specs.Kraft.{kraft_maximum, search_down}
use Rattle.tree.specs.Measures.{worst_slack, wire_length}
use Rattle.tree.specs.Marked.{point, sink, metals}
use Rattle.formats.specs.ListingText.{Listing}
use Rattle.formats.specs.Outcome.{Outcome, value}
use Rattle.formats.specs.Reading.Numbers.{lead, natural, field}
use Rattle.formats.specs.Reading.Numbers.{value as digits_value}
use Rattle.formats.specs.Reading.Rows.{number_then, row_in, begins, line_in}
use Rattle.formats.specs.Reading.Nets.{read_net, read_weighted}
use Rattle.formats.specs.Reading.Listings.{read_listing}
use Rattle.operations.specs.Answers.{Judgement, judge_of}
use Rattle.operations.specs.Marked.{text_a, listing_a, text_three, listing_three, range_net}
use Rattle.operations.proofs.Laws.Marked.{marked, judged_over}
use Rattle.scoring.specs.Binary64.{of1024ths}
use Rattle.scoring.specs.Scores.{is_scored, scored, score_of}
use Rattle.scoring.specs.Marked.{text_pin, listing_pin, text_at, listing_at, Marked}
use Rattle.scoring.proofs.Laws.Scores.{score_refused, score_judged}

-- the score of what was judged
over : (net listing : List ℕ) (j : Judgement) → judge_of net listing ≡ value j → (A B cap : ℤ) (o : Outcome ℤ) → scored A B cap j.slack j.wire ≡ o → score_of net listing A B cap ≡ o
over net listing j h A B cap o e = score_judged net listing A B cap j h ∙ e

-- ---- one sink

-- its listing
alone : ℤ → ℕ → Listing
alone slack wire = record { slack = slack; wire = wire; tree = record { parents = 0 ∷ []; points = [] } }

pin_net : Net
pin_net = record { root = point (pos 0) (pos 0); branch = 20; wire = metals 2 2; need = pos 0; sinks = sink (pos 3) (pos 4) (pos 21) ∷ [] }

pin_judged : judge_of text_pin listing_pin ≡ value (record { slack = pos 7; wire = 7; best = pos 7 })
unfolding alone pin_net read_net read_weighted read_listing number_then row_in begins line_in field natural digits_value lead worst_slack wire_length min_ℤ delay distance span kraft_maximum search_down floor_div
pin_judged = judged_over text_pin pin_net refl listing_pin (alone (pos 7) 7) refl

latest_judged : judge_of (text_at "-1000000000000") (listing_at "-1000000000000") ≡ value (record { slack = neg_ℤ (pos 1_000_000_000_000); wire = 0; best = neg_ℤ (pos 1_000_000_000_000) })
unfolding alone read_net read_weighted read_listing number_then row_in begins line_in field natural digits_value lead worst_slack wire_length min_ℤ delay distance span kraft_maximum search_down floor_div
latest_judged = judged_over (text_at "-1000000000000") (range_net 20 (pos 0) (neg_ℤ (pos 1_000_000_000_000))) refl (listing_at "-1000000000000") (alone (neg_ℤ (pos 1_000_000_000_000)) 0) refl

later_judged : judge_of (text_at "-1000000000001") (listing_at "-1000000000001") ≡ value (record { slack = neg_ℤ (pos 1_000_000_000_001); wire = 0; best = neg_ℤ (pos 1_000_000_000_001) })
unfolding alone read_net read_weighted read_listing number_then row_in begins line_in field natural digits_value lead worst_slack wire_length min_ℤ delay distance span kraft_maximum search_down floor_div
later_judged = judged_over (text_at "-1000000000001") (range_net 20 (pos 0) (neg_ℤ (pos 1_000_000_000_001))) refl (listing_at "-1000000000001") (alone (neg_ℤ (pos 1_000_000_000_001)) 0) refl

highest_judged : judge_of (text_at "1000000000000000") (listing_at "1000000000000000") ≡ value (record { slack = pos 1_000_000_000_000_000; wire = 0; best = pos 1_000_000_000_000_000 })
unfolding alone read_net read_weighted read_listing number_then row_in begins line_in field natural digits_value lead worst_slack wire_length min_ℤ delay distance span kraft_maximum search_down floor_div
highest_judged = judged_over (text_at "1000000000000000") (range_net 20 (pos 0) (pos 1_000_000_000_000_000)) refl (listing_at "1000000000000000") (alone (pos 1_000_000_000_000_000) 0) refl

-- ---- the scores

abbrev A : (alpha beta cap : ℤ) (o : Outcome ℤ) → scored alpha beta cap (pos 0) 32 ≡ o → score_of text_a listing_a alpha beta cap ≡ o
A = over text_a listing_a (record { slack = pos 0; wire = 32; best = pos 0 }) marked.a_judge

abbrev three : (alpha beta cap : ℤ) (o : Outcome ℤ) → scored alpha beta cap (neg_ℤ (pos 40)) 0 ≡ o → score_of text_three listing_three alpha beta cap ≡ o
three = over text_three listing_three (record { slack = neg_ℤ (pos 40); wire = 0; best = neg_ℤ (pos 40) }) marked.three_judge

abbrev pin : (alpha beta cap : ℤ) (o : Outcome ℤ) → scored alpha beta cap (pos 7) 7 ≡ o → score_of text_pin listing_pin alpha beta cap ≡ o
pin = over text_pin listing_pin (record { slack = pos 7; wire = 7; best = pos 7 }) pin_judged

pub marked_scores : Marked
unfolding is_scored min_ℤ of1024ths round to_bits
marked_scores = record {
  a_both = (A _ _ _ _ refl, refl);
  a_beta = (A _ _ _ _ refl, refl);
  a_alpha = (A _ _ _ _ refl, refl);
  a_neither = (A _ _ _ _ refl, refl);
  pin_even = (pin _ _ _ _ refl, refl);
  late_alpha = (three _ _ _ _ refl, refl);
  late_beta = (three _ _ _ _ refl, refl);
  cap_below = (pin _ _ _ _ refl, refl);
  cap_at = (pin _ _ _ _ refl, refl);
  cap_above = (pin _ _ _ _ refl, refl);
  least_step = (pin _ _ _ _ refl, refl);
  latest = (over _ _ _ latest_judged _ _ _ _ refl, refl);
  highest = (over _ _ _ highest_judged _ _ _ _ refl, refl);
  too_late = over _ _ _ later_judged _ _ _ _ refl;
  too_late_alpha = over _ _ _ later_judged _ _ _ _ refl;
  alpha_below = A _ _ _ _ refl;
  alpha_above = A _ _ _ _ refl;
  beta_below = A _ _ _ _ refl;
  beta_above = A _ _ _ _ refl;
  cap_negative = A _ _ _ _ refl;
  cap_past = A _ _ _ _ refl;
  net_first = λ alpha beta cap. score_refused [] listing_a alpha beta cap _ (marked.empty_net.judge listing_a);
  slack_first = λ alpha beta cap. score_refused _ _ alpha beta cap _ marked.a_slack;
  wire_first = λ alpha beta cap. score_refused _ _ alpha beta cap _ marked.a_wire;
}
