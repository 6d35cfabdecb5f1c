-- What is answered of a listing that was accepted over its net, with the Kraft maximum or without. Assumes nothing.
use Rattle.std.proofs.Common.{ℕ, ◌≤◌, ◌≡◌, List, ℤ, refl, sym, ap, ◌∙◌}
use Rattle.std.specs.Prelude.{Result, Ok, Err}
use Rattle.tree.specs.Net.{Net, size, own_slacks}
use Rattle.tree.specs.Kraft.{IsKraftMaximum, kraft_maximum}
use Rattle.tree.specs.declared.header.Header.{Header}
use Rattle.tree.specs.declared.measures.Measures.{Measures}
use Rattle.tree.specs.Inner.Arrays.{net_of, weights_of}
use Rattle.tree.proofs.Laws.Kraft.Maximum.{maximum_one}
use Rattle.tree.proofs.Laws.Planning.AnyTieRule.{maximum_of_net}
use Rattle.formats.specs.Outcome.{Outcome, value, refused}
use Rattle.formats.specs.ListingText.{Listing}
use Rattle.formats.specs.Reading.Nets.{WeightedNet}
use Rattle.formats.specs.Inner.ListingReader.{listing_held}
use Rattle.formats.specs.declared.refusal.Refusal.{Refusal}
use Rattle.formats.proofs.Laws.Lines.Outcomes.{then_value, then_refused}
use Rattle.operations.specs.Accepting.{accept_listing}
use Rattle.operations.specs.Answers.{Judgement, judge_of, judge_answer}
use Rattle.operations.specs.Inner.Acceptance.{judge_net, accepted_over, over_outcome}
use Rattle.operations.proofs.Laws.Accepting.{accepted_true}
use Rattle.operations.proofs.Laws.AcceptedOver.{both_read, over_gives, judge_over, judge_over_refused}
use Rattle.judging.specs.Inner.Measuring.{measures_answer}

-- over a net, however it was come by
module _ (N : Net) (text : List ℕ) where
  pub net_refused : (e : Refusal) → refused e ≡ accept_listing N text → (Err e ≡ judge_answer (judge_net N text)) × (Err e ≡ measures_answer (judge_net N text))
  net_refused e h =
      let p : judge_net N text ≡ refused e = then_refused _ (sym h) in
      (sym (ap judge_answer p), sym (ap measures_answer p))

  module _ (G : Listing) (h : value G ≡ accept_listing N text) where
    pub net_measures : Ok (record { slack = record { 0 = G.slack }; wire = record { 0 = G.wire } }) ≡ measures_answer (judge_net N text)
    net_measures =
        let t = accepted_true N text G (sym h) in
        (λ i. Ok (record { slack = record { 0 = t.0 i }; wire = record { 0 = t.1 i } })) ∙ sym (ap measures_answer (then_value _ (sym h)))

    -- the Kraft maximum is one number, so that which was found is that of the definition
    pub net_judged : 1 ≤ N.branch → 1 ≤ size N → (s : ℤ) → IsKraftMaximum N.branch (own_slacks N) s
        → Ok (record { slack = record { 0 = G.slack }; wire = record { 0 = G.wire }; best = record { 0 = s } }) ≡ judge_answer (judge_net N text)
    net_judged c1 n1 s m =
        let t = accepted_true N text G (sym h) in
        let best : s ≡ kraft_maximum N.branch (own_slacks N) = maximum_one N.branch (own_slacks N) s (kraft_maximum N.branch (own_slacks N)) m (maximum_of_net N c1 n1) in
        (λ i. Ok (record { slack = record { 0 = t.0 i }; wire = record { 0 = t.1 i }; best = record { 0 = best i } })) ∙ sym (ap judge_answer (then_value _ (sym h)))

module _ (net listing : List ℕ) where
  -- a refusal is told as it is, with the maximum or without
  pub judged_refused : (e : Refusal) → judge_of net listing ≡ refused e → Err e ≡ judge_answer (judge_of net listing)
  judged_refused e h = sym (ap judge_answer h)

  pub measured_refusal : (e : Refusal) → judge_of net listing ≡ refused e → Err e ≡ measures_answer (judge_of net listing)
  measured_refusal e h = sym (ap measures_answer h)

  module _ (M : WeightedNet) (G : Listing) (h : both_read M G ≡ accepted_over net listing) where
    given : value G ≡ accept_listing M.net listing
    given = sym (over_gives net listing M G h).1

    same : judge_net M.net listing ≡ judge_of net listing
    same = then_value _ (sym given) ∙ sym (judge_over net listing ∙ then_value _ (sym h))

    pub measures_are : Ok (record { slack = record { 0 = G.slack }; wire = record { 0 = G.wire } }) ≡ measures_answer (judge_of net listing)
    measures_are = net_measures M.net listing G given ∙ ap measures_answer same

    pub judged_value : 1 ≤ M.net.branch → 1 ≤ size M.net → (s : ℤ) → IsKraftMaximum M.net.branch (own_slacks M.net) s
        → Ok (record { slack = record { 0 = G.slack }; wire = record { 0 = G.wire }; best = record { 0 = s } }) ≡ judge_answer (judge_of net listing)
    judged_value c1 n1 s m = net_judged M.net listing G given c1 n1 s m ∙ ap judge_answer same

  -- the answer of accept, without the maximum
  pub measures_told : (h : Header) (n : ℕ) (xs ys rs ws : List ℤ) (ps : List ℕ) (r : Result Measures Refusal) → over_outcome r h n xs ys rs ws ps ≡ accepted_over net listing → r ≡ measures_answer (judge_of net listing)
  measures_told h n xs ys rs ws ps (Ok m) e = measures_are (record { net = net_of h n xs ys rs; weights = weights_of n ws }) (listing_held m.slack m.wire n ps xs ys) e
  measures_told h n xs ys rs ws ps (Err d) e = measured_refusal d (judge_over_refused net listing d e)

-- what was judged, where the measures are told
pub measured_value : (o : Outcome Judgement) (m : Measures) → Ok m ≡ measures_answer o → (j : Judgement) × ((o ≡ value j) × (m.slack.0 ≡ j.slack) × (m.wire.0 ≡ j.wire))
measured_value (refused e) m h = cc
measured_value (value j) m h =
    let same : m ≡ record { slack = record { 0 = j.slack }; wire = record { 0 = j.wire } } = cc in
    (j, (refl, (λ i. (same i).slack.0), (λ i. (same i).wire.0)))

pub measured_refused : (o : Outcome Judgement) (e : Refusal) → Err e ≡ measures_answer o → o ≡ refused e
measured_refused (value j) e h = cc
measured_refused (refused d) e h = let same : e ≡ d = cc in sym (ap refused same)
