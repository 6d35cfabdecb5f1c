-- The marked nets of request 6, by computation. Assumes nothing.
use Prim.Native.Nat.{ℕ, ◌≤◌}
use mathlib.Core.Path.{◌≡◌, refl, sym, ap, ◌∙◌}
use mathlib.Core.List.{List, [], ◌∷◌}
use native.Mathlib.Omega.{arith}
use lib.ListN.{length}
use lib.IntN.{pos, neg_ℤ}
use Rattle.quantities.specs.MinMax.{min_ℤ, max_ℤ}
use Rattle.quantities.specs.Distance.{distance, span}
use Rattle.quantities.specs.Delay.{delay}
use Rattle.quantities.specs.Median.{median, median_point}
use Rattle.quantities.specs.Floor.{floor_div}
use Rattle.tree.specs.Net.{Net, own_slacks}
use Rattle.tree.specs.Kraft.{kraft_maximum, search_down}
use Rattle.tree.specs.Measures.{worst_slack, wire_length}
use Rattle.tree.specs.Marked.{point, sink, metals, net_a}
use Rattle.formats.specs.Decimal.{show_nat, show, digits}
use Rattle.formats.specs.Outcome.{value, refused}
use Rattle.formats.specs.ListingText.{listing_text}
use Rattle.formats.specs.Reading.Numbers.{lead, natural, field}
use Rattle.formats.specs.Reading.Numbers.{value as digits_value}
use Rattle.formats.specs.Reading.Rows.{number_then, row_in, begins, line_in}
use Rattle.formats.specs.Reading.Nets.{read_weighted}
use Rattle.formats.specs.declared.refusal.Refusal.TheVariants.{TooShort}
use Rattle.formats.proofs.Laws.Nets.NetTexts.{WeightedFormat, weighted_sound}
use Rattle.operations.specs.Answers.{judge_of}
use Rattle.operations.specs.Demands.{with_need}
use Rattle.operations.specs.TreePlans.{ignoring_weights, tree_listing}
use Rattle.operations.specs.Marked.{text_a, text_a1}
use Rattle.operations.proofs.Laws.Marked as first
use Rattle.operations.proofs.Laws.TreePlans.{tree_over, tree_judged}
use Rattle.short_tree.specs.ShortTree.{short}
use Rattle.short_tree.specs.SecondPlan.{short_of}
use Rattle.short_tree.specs.Marked.{short_a, text_tied, short_tied, text_branch_edge, short_branch_edge, Marked}
use Rattle.short_tree.proofs.Laws.SecondPlan.{short_makes, second_plan}

-- ---- A

-- the weights of three sinks
abbrev ones : List ℕ
ones = 1 ∷ (1 ∷ (1 ∷ []))

read_A : read_weighted text_a ≡ value (record { net = net_a; weights = ones })
unfolding read_weighted number_then row_in begins line_in field natural digits_value lead distance span
read_A = refl

read_A1 : read_weighted text_a1 ≡ value (record { net = with_need (pos 1) net_a; weights = ones })
unfolding read_weighted number_then row_in begins line_in field natural digits_value lead distance span
read_A1 = refl

slack_A : worst_slack net_a (short net_a) ≡ neg_ℤ (pos 10)
unfolding worst_slack short min_ℤ max_ℤ median median_point delay distance span
slack_A = refl

wire_A : wire_length net_a (short net_a) ≡ 26
unfolding wire_length short min_ℤ max_ℤ median median_point distance span
wire_A = refl

listing_A : tree_listing (ignoring_weights short) net_a ones ≡ short_a
unfolding tree_listing listing_text digits show_nat show worst_slack wire_length short min_ℤ max_ℤ median median_point delay distance span
listing_A = refl

-- the text's own weights are those
format_A : WeightedFormat text_a (record { net = net_a; weights = ones })
format_A = weighted_sound text_a (record { net = net_a; weights = ones }) read_A

format_A1 : WeightedFormat text_a1 (record { net = with_need (pos 1) net_a; weights = ones })
format_A1 = weighted_sound text_a1 (record { net = with_need (pos 1) net_a; weights = ones }) read_A1

listing_read : tree_listing (ignoring_weights short) net_a format_A.0.weights ≡ short_a
listing_read = ap (tree_listing (ignoring_weights short) net_a) format_A.1 ∙ listing_A

a_short : (room : ℕ) → length short_a ≤ room → short_of text_a room ≡ value (record { slack = neg_ℤ (pos 10); wire = 26; bytes = short_a })
a_short = tree_over (ignoring_weights short) text_a net_a ones read_A (neg_ℤ (pos 10)) 26 short_a slack_A wire_A listing_A

-- with another need nothing changes
A1_short : (room : ℕ) → length short_a ≤ room → short_of text_a1 room ≡ value (record { slack = neg_ℤ (pos 10); wire = 26; bytes = short_a })
A1_short room h = (second_plan.plan.nets text_a net_a format_A.0).needless text_a1 (pos 1) format_A1.0 (format_A1.1 ∙ sym format_A.1) room ∙ a_short room h

best_A : kraft_maximum net_a.branch (own_slacks net_a) ≡ pos 0
unfolding kraft_maximum search_down floor_div min_ℤ delay distance span
best_A = refl

a_judged : judge_of text_a short_a ≡ value (record { slack = neg_ℤ (pos 10); wire = 26; best = pos 0 })
a_judged = ap (judge_of text_a) (sym listing_read) ∙ tree_judged (ignoring_weights short) short_makes text_a net_a format_A.0 ∙ (λ i. value (record { slack = slack_A i; wire = wire_A i; best = best_A i }))

a_room : short_of text_a 79 ≡ refused TooShort
a_room = ((second_plan.plan.nets text_a net_a format_A.0).short 79).1 (omega (arith, ap length listing_read))

-- ---- ties

tied_net : Net
tied_net = record {
  root = point (pos 0) (pos 0);
  branch = 20;
  wire = metals 2 3;
  need = pos 0;
  sinks = sink (pos 3) (pos 4) (pos 60) ∷ (sink (pos 2) (pos 4) (pos 60) ∷ (sink (pos 5) (pos 0) (pos 60) ∷ []));
}

tied_sinks : (room : ℕ) → length short_tied ≤ room → short_of text_tied room ≡ value (record { slack = pos 0; wire = 10; bytes = short_tied })
unfolding tied_net read_weighted number_then row_in begins line_in field natural digits_value lead tree_listing listing_text digits show_nat show worst_slack wire_length short min_ℤ max_ℤ median median_point delay distance span
tied_sinks = tree_over (ignoring_weights short) text_tied tied_net ones refl (pos 0) 10 short_tied refl refl refl

-- ---- an edge above a branch point

branch_net : Net
branch_net = record {
  root = point (pos 0) (pos 0);
  branch = 20;
  wire = metals 2 2;
  need = pos 0;
  sinks = sink (pos 10) (pos 2) (pos 100) ∷ (sink (pos 10) (neg_ℤ (pos 2)) (pos 100) ∷ (sink (pos 5) (pos 9) (pos 100) ∷ []));
}

branch_edge : (room : ℕ) → length short_branch_edge ≤ room → short_of text_branch_edge room ≡ value (record { slack = pos 36; wire = 23; bytes = short_branch_edge })
unfolding branch_net read_weighted number_then row_in begins line_in field natural digits_value lead tree_listing listing_text digits show_nat show worst_slack wire_length short min_ℤ max_ℤ median median_point delay distance span
branch_edge = tree_over (ignoring_weights short) text_branch_edge branch_net ones refl (pos 36) 23 short_branch_edge refl refl refl

pub marked : Marked
unfolding short min_ℤ max_ℤ median median_point distance span
marked = record {
  a_short = a_short;
  a_judged = a_judged;
  a_first = (first.marked).a_plan;
  a_need = λ room h. ((first.marked).a_need room, A1_short room h);
  a_room = (refl, a_room);
  tied_sinks = tied_sinks;
  branch_edge = branch_edge;
  tied_ends = (refl, refl);
  one_sink_lem = λ c. (refl, refl);
}
