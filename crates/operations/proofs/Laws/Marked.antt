-- The marked nets and lines that speak of texts, by computation. Assumes nothing.
use Prim.Native.Nat.{ℕ, ◌≤◌}
use mathlib.Core.Path.{◌≡◌, refl, sym, ap, ◌∙◌}
use mathlib.Core.List.{List, [], ◌∷◌}
use native.Mathlib.Omega.{arith}
use lib.ListN.{length}
use lib.IntN.{ℤ, pos, neg_ℤ}
use lib.Signed.{◌≤ℤ◌}
use Rattle.quantities.specs.Inner.Linear.{whole, up, dn}
use Rattle.quantities.specs.MinMax.{min_ℤ, max_ℤ}
use Rattle.quantities.specs.Floor.{floor_div}
use Rattle.quantities.specs.Distance.{span, distance}
use Rattle.quantities.specs.Median.{median, median_point}
use Rattle.quantities.specs.Delay.{delay}
use Rattle.tree.specs.Net.{Net, size}
use Rattle.tree.specs.Tree.{Tree}
use Rattle.tree.specs.Measures.{worst_slack, wire_length}
use Rattle.tree.specs.Kraft.{kraft_maximum, search_down}
use Rattle.tree.specs.Planning.{tie_rule}
use Rattle.tree.specs.Settling.{plan, plan_by}
use Rattle.tree.specs.Marked.{net_a, three_at_root, root_nearest, nearer_sink, two_metals, point}
use Rattle.tree.proofs.Laws.Planning.Marked as tree
use Rattle.formats.specs.Bytes.{bytes}
use Rattle.formats.specs.Decimal.{digits, show_nat, show}
use Rattle.formats.specs.Reading.Numbers.{lead, natural, field}
use Rattle.formats.specs.Reading.Numbers.{value as digits_value}
use Rattle.formats.specs.Reading.Rows.{number_then, row_in, begins, line_in}
use Rattle.formats.specs.Outcome.{Outcome, value, refused, and_then}
use Rattle.formats.specs.declared.refusal.Text.TheVariants.{InNet, InListing}
use Rattle.formats.specs.declared.refusal.Refusal.{Refusal}
use Rattle.formats.specs.declared.refusal.Refusal.TheVariants.{NotDue, OutOfRange, Unreachable, FarPin}
use Rattle.formats.specs.Reading.Nets.{read_weighted, read_net}
use Rattle.formats.specs.ListingText.{Listing, listing_text}
use Rattle.formats.specs.Reading.Listings.{read_listing}
use Rattle.operations.specs.Accepting.{accept_tree}
use Rattle.operations.specs.Answers.{plan_of, plan_listing, plan_net, judgement, judge_of, Judgement}
use Rattle.operations.specs.Marked.{text_a, text_a1, listing_a, text_three, listing_three, text_root_nearest, listing_root_nearest, text_nearer_sink, listing_nearer_sink, pin_text, metals_text, listing_metals, stated_a, range_text, weight_text, text_unweighted, TurnedAway, Marked}
use Rattle.formats.proofs.Laws.Lines.Outcomes.{then_refused}
use Rattle.formats.proofs.Laws.Nets.NetTexts.{net_sound}
use Rattle.operations.proofs.Laws.Answers.{plan_refused, judge_refused, Ends, unreachable, short, written, ends}
use Rattle.operations.proofs.Laws.Judging.{judge_read, listing_turned}

-- ---- what the texts are read as

net_a1 : Net
net_a1 = record { root = net_a.root; branch = net_a.branch; wire = net_a.wire; need = pos 1; sinks = net_a.sinks }

read_A : read_net text_a ≡ value net_a
unfolding read_net read_weighted number_then row_in begins line_in field natural digits_value lead distance span
read_A = refl

read_A1 : read_net text_a1 ≡ value net_a1
unfolding net_a1 read_net read_weighted number_then row_in begins line_in field natural digits_value lead distance span
read_A1 = refl

tree_of : List ℕ → Tree
tree_of parents = record { parents = parents; points = point (pos 4) (pos 0) ∷ (point (pos 4) (pos 0) ∷ []) }

read_root : read_net text_root_nearest ≡ value root_nearest
unfolding read_net read_weighted number_then row_in begins line_in field natural digits_value lead distance span
read_root = refl

read_sink : read_net text_nearer_sink ≡ value nearer_sink
unfolding read_net read_weighted number_then row_in begins line_in field natural digits_value lead distance span
read_sink = refl

abbrev pub judged_tree : Net → Listing → Outcome Judgement
judged_tree N G = and_then (accept_tree N G) λ G. value (judgement (record { net = N; listing = G }))

-- a net that is read as N and a listing that is read as G, judged
pub judged_over : (net : List ℕ) (N : Net) → read_net net ≡ value N → (s : List ℕ) (G : Listing) → read_listing (size N) s ≡ value G → judge_of net s ≡ judged_tree N G
judged_over net N r s G e = judge_read net N r s ∙ ap (λ o. and_then (and_then o (accept_tree N)) (λ G. value (judgement (record { net = N; listing = G })))) e

judged : (s : List ℕ) (G : Listing) → read_listing 3 s ≡ value G → judge_of text_a s ≡ judged_tree net_a G
judged s G e = judged_over text_a net_a read_A s G e

-- a listing that is refused as it is read
refused_over : (net : List ℕ) (N : Net) → read_net net ≡ value N → (s : List ℕ) (e : Refusal) → read_listing (size N) s ≡ refused e → judge_of net s ≡ refused e
refused_over net N r s e h = judge_read net N r s ∙ then_refused _ (sym (listing_turned N (size N) s e refl h))

stated_refused : (s : List ℕ) (e : Refusal) → read_listing 3 s ≡ refused e → judge_of text_a s ≡ refused e
stated_refused s e h = refused_over text_a net_a read_A s e h

listed : ℤ → ℕ → List ℕ → Listing
listed slack wire parents = record { slack = slack; wire = wire; tree = tree_of parents }

-- A's tree, with any slack and wire stated of it
abbrev listed_a : ℤ → ℕ → Listing
listed_a slack wire = listed slack wire (5 ∷ (5 ∷ (4 ∷ (0 ∷ (4 ∷ [])))))

-- ---- A and its plan

plan_A : plan_listing net_a ≡ listing_a
unfolding plan_listing listing_text digits show_nat show worst_slack wire_length plan plan_by min_ℤ max_ℤ median median_point delay distance span
plan_A = refl

slack_A : worst_slack net_a (plan net_a) ≡ pos 0
unfolding worst_slack plan plan_by min_ℤ max_ℤ median median_point delay distance span
slack_A = refl

wire_A : wire_length net_a (plan net_a) ≡ 32
unfolding wire_length worst_slack plan plan_by min_ℤ max_ℤ median median_point delay distance span
wire_A = refl

-- a net that is read as N and reaches its need, planned
pub planned_over : (net : List ℕ) (N : Net) → read_net net ≡ value N → (slack : ℤ) (wire : ℕ) (bytes : List ℕ) → worst_slack N (plan N) ≡ slack → wire_length N (plan N) ≡ wire → plan_listing N ≡ bytes → N.need ≤ℤ slack
    → (room : ℕ) → length bytes ≤ room → plan_of net room ≡ value (record { slack = slack; wire = wire; bytes = bytes })
unfolding plan_of
planned_over net N r slack wire bytes s w l reached room h = ap (λ o. and_then o (λ N. plan_net N room)) r ∙ go (ends N room)
  where
    go : Ends N room → plan_net N room ≡ value (record { slack = slack; wire = wire; bytes = bytes })
    go (unreachable g f) = absurd (omega (arith, whole, ap up s, ap dn s))
    go (short g k f) = absurd (omega (arith, ap length l))
    go (written g k f) = f ∙ (λ i. value (record { slack = s i; wire = w i; bytes = l i }))

a_planned : (room : ℕ) → length listing_a ≤ room → plan_of text_a room ≡ value (record { slack = pos 0; wire = 32; bytes = listing_a })
a_planned = planned_over text_a net_a read_A (pos 0) 32 listing_a slack_A wire_A plan_A (omega (arith, whole))

a_unreachable : (room : ℕ) → plan_of text_a1 room ≡ refused Unreachable
unfolding plan_of net_a1 worst_slack plan plan_by min_ℤ max_ℤ median median_point delay distance span
a_unreachable room = ap (λ o. and_then o (λ N. plan_net N room)) read_A1

a_judged : judge_of text_a listing_a ≡ value (record { slack = pos 0; wire = 32; best = pos 0 })
unfolding listed tree_of read_listing number_then row_in begins line_in field natural digits_value lead worst_slack wire_length min_ℤ delay distance span kraft_maximum search_down floor_div
a_judged = judged listing_a (listed_a (pos 0) 32) refl

A1_judged : judge_of text_a1 listing_a ≡ value (record { slack = pos 0; wire = 32; best = pos 0 })
unfolding net_a1 listed tree_of read_listing number_then row_in begins line_in field natural digits_value lead worst_slack wire_length min_ℤ delay distance span kraft_maximum search_down floor_div
A1_judged = judged_over text_a1 net_a1 read_A1 listing_a (listed_a (pos 0) 32) refl

-- ---- three sinks at the root

read_three : read_net text_three ≡ value three_at_root
unfolding read_net read_weighted number_then row_in begins line_in field natural digits_value lead distance span
read_three = refl

plan_three : plan_listing three_at_root ≡ listing_three
unfolding plan_listing listing_text digits show_nat show worst_slack wire_length plan plan_by tie_rule min_ℤ max_ℤ median median_point delay distance span
plan_three = refl

three_planned : (room : ℕ) → length listing_three ≤ room → plan_of text_three room ≡ value (record { slack = neg_ℤ (pos 40); wire = 0; bytes = listing_three })
three_planned = planned_over text_three three_at_root read_three (neg_ℤ (pos 40)) 0 listing_three (tree.marked).three_slack (tree.marked).three_wire plan_three (omega (arith, whole))

three_judged : judge_of text_three listing_three ≡ value (record { slack = neg_ℤ (pos 40); wire = 0; best = neg_ℤ (pos 40) })
unfolding read_listing number_then row_in begins line_in field natural digits_value lead worst_slack wire_length min_ℤ delay distance span kraft_maximum search_down floor_div
three_judged = judged_over text_three three_at_root read_three listing_three
    (record { slack = neg_ℤ (pos 40); wire = 0; tree = record { parents = 5 ∷ (4 ∷ (5 ∷ (0 ∷ (4 ∷ [])))); points = point (pos 0) (pos 0) ∷ (point (pos 0) (pos 0) ∷ []) } }) refl

-- ---- nets that are turned away

turned_away : (net : List ℕ) (e : Refusal) → read_net net ≡ refused e → TurnedAway net e
turned_away net e h = record { plan = plan_refused net e h; judge = judge_refused net e h }

-- ---- the nets of request 1

plan_root : plan_listing root_nearest ≡ listing_root_nearest
unfolding plan_listing listing_text digits show_nat show worst_slack wire_length plan plan_by tie_rule min_ℤ max_ℤ median median_point delay distance span
plan_root = refl

plan_sink : plan_listing nearer_sink ≡ listing_nearer_sink
unfolding plan_listing listing_text digits show_nat show worst_slack wire_length plan plan_by tie_rule min_ℤ max_ℤ median median_point delay distance span
plan_sink = refl

root_judged : judge_of text_root_nearest listing_root_nearest ≡ value (record { slack = neg_ℤ (pos 40); wire = 10; best = neg_ℤ (pos 40) })
unfolding read_listing number_then row_in begins line_in field natural digits_value lead worst_slack wire_length min_ℤ delay distance span kraft_maximum search_down floor_div
root_judged = judged_over text_root_nearest root_nearest read_root listing_root_nearest
    (record { slack = neg_ℤ (pos 40); wire = 10; tree = record { parents = 4 ∷ (4 ∷ (5 ∷ (5 ∷ (0 ∷ [])))); points = point (pos 10) (pos 0) ∷ (point (pos 1) (pos 0) ∷ []) } }) refl

sink_judged : judge_of text_nearer_sink listing_nearer_sink ≡ value (record { slack = neg_ℤ (pos 40); wire = 21; best = neg_ℤ (pos 40) })
unfolding read_listing number_then row_in begins line_in field natural digits_value lead worst_slack wire_length min_ℤ delay distance span kraft_maximum search_down floor_div
sink_judged = judged_over text_nearer_sink nearer_sink read_sink listing_nearer_sink
    (record { slack = neg_ℤ (pos 40); wire = 21; tree = record { parents = 4 ∷ (5 ∷ (5 ∷ (0 ∷ (4 ∷ [])))); points = point (pos 0) (pos 0) ∷ (point (pos 0) (pos 10) ∷ []) } }) refl

-- ---- the nets of request 4

read_metals : read_net (metals_text "2,6") ≡ value (two_metals 2 6)
unfolding read_net read_weighted number_then row_in begins line_in field natural digits_value lead distance span
read_metals = refl

plan_metals : plan_listing (two_metals 2 6) ≡ listing_metals
unfolding plan_listing listing_text digits show_nat show worst_slack wire_length plan plan_by tie_rule min_ℤ max_ℤ median median_point delay distance span
plan_metals = refl

metals_planned : (room : ℕ) → length listing_metals ≤ room → plan_of (metals_text "2,6") room ≡ value (record { slack = pos 30; wire = 26; bytes = listing_metals })
metals_planned = planned_over (metals_text "2,6") (two_metals 2 6) read_metals (pos 30) 26 listing_metals (tree.marked).metals_slack (tree.marked).metals_wire plan_metals (omega (arith, whole))

metals_judged : judge_of (metals_text "2,6") listing_metals ≡ value (record { slack = pos 30; wire = 26; best = pos 30 })
unfolding read_listing number_then row_in begins line_in field natural digits_value lead worst_slack wire_length min_ℤ delay distance span kraft_maximum search_down floor_div
metals_judged = judged_over (metals_text "2,6") (two_metals 2 6) read_metals listing_metals
    (record { slack = pos 30; wire = 26; tree = record { parents = 5 ∷ (4 ∷ (5 ∷ (0 ∷ (4 ∷ [])))); points = point (pos 4) (pos 0) ∷ (point (pos 10) (pos 0) ∷ []) } }) refl

pub marked : Marked
unfolding listed tree_of plan_listing listing_text digits show_nat show read_net read_weighted read_listing number_then row_in begins line_in field natural digits_value lead worst_slack wire_length plan plan_by tie_rule min_ℤ max_ℤ median median_point delay distance span
marked = record {
  measures = tree.marked;
  a_format = net_sound text_a net_a read_A;
  a_listing = plan_A;
  a_plan = a_planned;
  a_judge = a_judged;
  a_need = a_unreachable;
  a_need_judge = A1_judged;
  three_format = net_sound text_three three_at_root read_three;
  three_plan = three_planned;
  three_judge = three_judged;
  a_slack = judged _ (listed_a (pos 1) 32) refl;
  a_wire = judged _ (listed_a (pos 0) 31) refl;
  ring = judged _ (listed (pos 0) 32 (0 ∷ (4 ∷ (5 ∷ (5 ∷ (4 ∷ [])))))) refl;
  four_children = judged _ (listed (pos 0) 32 (4 ∷ (4 ∷ (4 ∷ (0 ∷ (4 ∷ [])))))) refl;
  root_format = net_sound text_root_nearest root_nearest read_root;
  root_listing = plan_root;
  root_judge = root_judged;
  sink_format = net_sound text_nearer_sink nearer_sink read_sink;
  sink_listing = plan_sink;
  sink_judge = sink_judged;
  empty_net = turned_away _ (NotDue InNet 1) refl;
  branch_0 = turned_away _ (OutOfRange InNet 2) refl;
  need_minus_0 = turned_away _ (NotDue InNet 4) refl;
  sinks_513 = turned_away _ (OutOfRange InNet 5) refl;
  across_near = net_sound (pin_text "60000000,0" "100000000,0") _ refl;
  corner_near = net_sound (pin_text "-100000000,100000000" "-100000000,100000000") _ refl;
  across = turned_away (pin_text "0,0" "100000000,0") (FarPin 6) refl;
  root_x_range = turned_away (pin_text "100000001,0" "100000000,0") (OutOfRange InNet 1) refl;
  root_y_range = turned_away (pin_text "0,-100000001" "0,-100000000") (OutOfRange InNet 1) refl;
  sink_x_range = turned_away (pin_text "0,0" "100000001,0") (OutOfRange InNet 6) refl;
  sink_y_range = turned_away (pin_text "0,100000000" "0,100000001") (OutOfRange InNet 6) refl;
  at_limit = net_sound (pin_text "0,0" "40000000,0") _ refl;
  past_limit = turned_away (pin_text "0,0" "40000001,0") (FarPin 6) refl;
  both_at_limit = net_sound (pin_text "-10000000,5000000" "5000000,-20000000") _ refl;
  both_past_limit = turned_away (pin_text "-10000000,5000000" "5000000,-20000001") (FarPin 6) refl;
  low_ends = net_sound (range_text "1" "-2000000000000000" "-1000000000000000") _ refl;
  high_ends = net_sound (range_text "1000000000" "2000000000000000" "1000000000000000") _ refl;
  branch_above = turned_away (range_text "1000000001" "0" "0") (OutOfRange InNet 2) refl;
  need_below = turned_away (range_text "20" "-2000000000000001" "0") (OutOfRange InNet 4) refl;
  need_above = turned_away (range_text "20" "2000000000000001" "0") (OutOfRange InNet 4) refl;
  required_below = turned_away (range_text "20" "0" "-1000000000000001") (OutOfRange InNet 6) refl;
  required_above = turned_away (range_text "20" "0" "1000000000000001") (OutOfRange InNet 6) refl;
  slack_least = judged _ (listed_a (neg_ℤ (pos 4_000_000_000_000_000)) 32) refl;
  slack_most = judged _ (listed_a (pos 4_000_000_000_000_000) 32) refl;
  slack_below = stated_refused (stated_a "-4000000000000001" "32") (OutOfRange InListing 1) refl;
  slack_above = stated_refused (stated_a "4000000000000001" "32") (OutOfRange InListing 1) refl;
  wire_least = judged _ (listed_a (pos 0) 0) refl;
  wire_most = judged _ (listed_a (pos 0) 1_000_000_000_000) refl;
  wire_below = stated_refused (stated_a "0" "-1") (OutOfRange InListing 2) refl;
  wire_above = stated_refused (stated_a "0" "1000000000001") (OutOfRange InListing 2) refl;
  metals_format = net_sound (metals_text "2,6") (two_metals 2 6) read_metals;
  metals_plan = metals_planned;
  metals_judge = metals_judged;
  horizontal_alone = refl;
  vertical_alone = refl;
  plain_listing = refl;
  one_factor = turned_away (metals_text "2") (NotDue InNet 3) refl;
  three_factors = turned_away (metals_text "2,6,2") (NotDue InNet 3) refl;
  factors_at_ends = net_sound (metals_text "1,10000") _ refl;
  horizontal_0 = turned_away (metals_text "0,6") (OutOfRange InNet 3) refl;
  vertical_0 = turned_away (metals_text "2,0") (OutOfRange InNet 3) refl;
  horizontal_10001 = turned_away (metals_text "10001,6") (OutOfRange InNet 3) refl;
  vertical_10001 = turned_away (metals_text "2,10001") (OutOfRange InNet 3) refl;
  weight_least = net_sound (weight_text "0" ",1") _ refl;
  weight_most = net_sound (weight_text "0" ",1000") _ refl;
  weight_0 = turned_away (weight_text "0" ",0") (OutOfRange InNet 6) refl;
  weight_1001 = turned_away (weight_text "0" ",1001") (OutOfRange InNet 6) refl;
  weight_before_far = turned_away (weight_text "40000001" ",1001") (OutOfRange InNet 6) refl;
  far_weighted = turned_away (weight_text "40000001" ",1000") (FarPin 6) refl;
  weight_missing = turned_away (weight_text "0" "") (NotDue InNet 6) refl;
  weight_empty = turned_away (weight_text "0" ",") (NotDue InNet 6) refl;
  two_weights = turned_away (weight_text "0" ",1,1") (NotDue InNet 6) refl;
  second_unweighted = turned_away text_unweighted (NotDue InNet 7) refl;
}
