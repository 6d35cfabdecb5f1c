-- The marked nets of request 7, by computation. Assumes nothing.
use Prim.Native.Nat.{ℕ, ◌≤◌}
use mathlib.Core.Path.{◌≡◌, refl, sym, ap, ◌∙◌}
use mathlib.Core.List.{List, [], ◌∷◌}
use native.Mathlib.Omega.{arith}
use lib.ListN.{length}
use lib.IntN.{pos, neg_ℤ}
use Rattle.quantities.specs.Delay.{delay}
use Rattle.quantities.specs.Distance.{span, distance}
use Rattle.quantities.specs.Median.{median, median_point}
use Rattle.quantities.specs.MinMax.{min_ℤ, max_ℤ}
use Rattle.quantities.specs.Floor.{floor_div}
use Rattle.tree.specs.Net.{Net, own_slacks}
use Rattle.tree.specs.Kraft.{kraft_maximum, search_down}
use Rattle.tree.specs.Measures.{worst_slack, wire_length}
use Rattle.tree.specs.Marked.{point, sink, metals, net_a}
use Rattle.formats.specs.Decimal.{show_nat, show, digits}
use Rattle.formats.specs.Outcome.{value, refused}
use Rattle.formats.specs.ListingText.{listing_text}
use Rattle.formats.specs.Reading.Numbers.{lead, natural, field}
use Rattle.formats.specs.Reading.Numbers.{value as digits_value}
use Rattle.formats.specs.Reading.Rows.{number_then, row_in, begins, line_in}
use Rattle.formats.specs.Reading.Nets.{read_weighted}
use Rattle.formats.specs.declared.refusal.Refusal.TheVariants.{TooShort}
use Rattle.formats.proofs.Laws.Nets.NetTexts.{WeightedFormat, weighted_sound}
use Rattle.operations.specs.Answers.{plan_of, judge_of}
use Rattle.operations.specs.Demands.{with_need}
use Rattle.operations.specs.TreePlans.{tree_listing}
use Rattle.operations.specs.Marked as first
use Rattle.operations.proofs.Laws.Marked.{marked}
use Rattle.operations.proofs.Laws.TreePlans.{tree_over, tree_judged}
use Rattle.operations.proofs.Laws.Weightless.{weightless}
use Rattle.weighted_tree.specs.Joining.{joined_parents, weighted_tree}
use Rattle.weighted_tree.specs.WeightedDelay.{weighted_delay}
use Rattle.weighted_tree.specs.ThirdPlan.{weighted_of}
use Rattle.weighted_tree.specs.Marked.{text_chain, listing_chain, text_a, text_a1, weighted_a, Marked}
use Rattle.weighted_tree.proofs.Laws.ThirdPlan.{weighted_makes, third_plan}

-- ---- five sinks

chain_net : Net
chain_net = record {
  root = point (pos 0) (pos 0);
  branch = 20;
  wire = metals 2 2;
  need = pos 0;
  sinks = sink (pos 8) (pos 0) (pos 100) ∷ (sink (pos 8) (pos 4) (pos 100) ∷ (sink (pos 2) (pos 6) (pos 100) ∷ (sink (neg_ℤ (pos 4)) (pos 2) (pos 100) ∷ (sink (pos 0) (neg_ℤ (pos 5)) (pos 100) ∷ []))));
}

chain_listing : (room : ℕ) → length listing_chain ≤ room → weighted_of text_chain room ≡ value (record { slack = neg_ℤ (pos 4); wire = 29; bytes = listing_chain })
unfolding chain_net read_weighted number_then row_in begins line_in field natural digits_value lead tree_listing listing_text digits show_nat show worst_slack wire_length weighted_tree joined_parents min_ℤ max_ℤ median median_point delay distance span
chain_listing = tree_over weighted_tree text_chain chain_net (1 ∷ (1 ∷ (2 ∷ (3 ∷ (5 ∷ []))))) refl (neg_ℤ (pos 4)) 29 listing_chain refl refl refl

-- ---- A

abbrev weights : List ℕ
weights = 5 ∷ (1 ∷ (1 ∷ []))

read_A : read_weighted text_a ≡ value (record { net = net_a; weights = weights })
unfolding read_weighted number_then row_in begins line_in field natural digits_value lead distance span
read_A = refl

read_A1 : read_weighted text_a1 ≡ value (record { net = with_need (pos 1) net_a; weights = weights })
unfolding read_weighted number_then row_in begins line_in field natural digits_value lead distance span
read_A1 = refl

format_A : WeightedFormat text_a (record { net = net_a; weights = weights })
format_A = weighted_sound text_a (record { net = net_a; weights = weights }) read_A

format_A1 : WeightedFormat text_a1 (record { net = with_need (pos 1) net_a; weights = weights })
format_A1 = weighted_sound text_a1 (record { net = with_need (pos 1) net_a; weights = weights }) read_A1

slack_A : worst_slack net_a (weighted_tree net_a weights) ≡ neg_ℤ (pos 10)
unfolding worst_slack weighted_tree joined_parents min_ℤ max_ℤ median median_point delay distance span
slack_A = refl

wire_A : wire_length net_a (weighted_tree net_a weights) ≡ 26
unfolding wire_length weighted_tree joined_parents min_ℤ max_ℤ median median_point distance span
wire_A = refl

listing_A : tree_listing weighted_tree net_a weights ≡ weighted_a
unfolding tree_listing listing_text digits show_nat show worst_slack wire_length weighted_tree joined_parents min_ℤ max_ℤ median median_point delay distance span
listing_A = refl

-- the text's own weights are those
listing_read : tree_listing weighted_tree net_a format_A.0.weights ≡ weighted_a
listing_read = ap (tree_listing weighted_tree net_a) format_A.1 ∙ listing_A

a_weighted : (room : ℕ) → length weighted_a ≤ room → weighted_of text_a room ≡ value (record { slack = neg_ℤ (pos 10); wire = 26; bytes = weighted_a })
a_weighted = tree_over weighted_tree text_a net_a weights read_A (neg_ℤ (pos 10)) 26 weighted_a slack_A wire_A listing_A

-- with another need nothing changes
A1_weighted : (room : ℕ) → length weighted_a ≤ room → weighted_of text_a1 room ≡ value (record { slack = neg_ℤ (pos 10); wire = 26; bytes = weighted_a })
A1_weighted room h = (third_plan.plan.nets text_a net_a format_A.0).needless text_a1 (pos 1) format_A1.0 (format_A1.1 ∙ sym format_A.1) room ∙ a_weighted room h

best_A : kraft_maximum net_a.branch (own_slacks net_a) ≡ pos 0
unfolding kraft_maximum search_down floor_div min_ℤ delay distance span
best_A = refl

a_judged : judge_of text_a weighted_a ≡ value (record { slack = neg_ℤ (pos 10); wire = 26; best = pos 0 })
a_judged =
    ap (judge_of text_a) (sym listing_read)
    ∙ tree_judged weighted_tree weighted_makes text_a net_a format_A.0
    ∙ (λ i. value (record { slack = (ap (λ w. worst_slack net_a (weighted_tree net_a w)) format_A.1 ∙ slack_A) i; wire = (ap (λ w. wire_length net_a (weighted_tree net_a w)) format_A.1 ∙ wire_A) i; best = best_A i }))

a_room : weighted_of text_a 78 ≡ refused TooShort
a_room = ((third_plan.plan.nets text_a net_a format_A.0).short 78).1 (omega (arith, ap length listing_read))

-- the first plan of a net is the same whatever its weights
a_first : (room : ℕ) → plan_of text_a room ≡ plan_of first.text_a room
a_first room = weightless.plan first.text_a text_a net_a marked.a_format format_A.0 room

read_first : read_weighted first.text_a1 ≡ value (record { net = with_need (pos 1) net_a; weights = 1 ∷ (1 ∷ (1 ∷ [])) })
unfolding read_weighted number_then row_in begins line_in field natural digits_value lead distance span
read_first = refl

A1_first : (room : ℕ) → plan_of text_a1 room ≡ plan_of first.text_a1 room
A1_first room = weightless.plan first.text_a1 text_a1 (with_need (pos 1) net_a) (weighted_sound first.text_a1 _ read_first).0 format_A1.0 room

pub marked_weights : Marked
unfolding joined_parents weighted_tree weighted_delay delay distance span median_point median min_ℤ max_ℤ
marked_weights = record {
  chain = refl;
  totals = refl;
  ties = refl;
  equals = refl;
  alone = refl;
  net_a_lem = refl;
  delay_a = refl;
  chain_listing = chain_listing;
  a_weighted = a_weighted;
  a_judged = a_judged;
  a_first = λ room h. a_first room ∙ marked.a_plan room h;
  a_need = λ room h. (A1_first room ∙ marked.a_need room, A1_weighted room h);
  a_room = (refl, a_room);
}
