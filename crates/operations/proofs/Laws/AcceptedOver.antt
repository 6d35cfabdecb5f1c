-- A listing accepted over a net that was read with its weights, and what judge says of the two. Assumes nothing.
use Rattle.std.proofs.Common.{ℕ, ◌≡◌, List, ℤ, refl, sym, ap, ◌∙◌}
use Rattle.std.specs.Prelude.{Result, Ok, Err, OnOk}
use Rattle.tree.specs.Net.{Net}
use Rattle.tree.specs.declared.header.Header.{Header}
use Rattle.tree.specs.declared.measures.Measures.{Measures}
use Rattle.tree.specs.Inner.Arrays.{net_of, weights_of}
use Rattle.formats.specs.Outcome.{Outcome, value, refused, and_then}
use Rattle.formats.specs.ListingText.{Listing}
use Rattle.formats.specs.Reading.Nets.{WeightedNet, read_weighted, read_net}
use Rattle.formats.specs.Inner.ListingReader.{listing_held, listing_outcome, SinksKept}
use Rattle.formats.specs.declared.refusal.Refusal.{Refusal}
use Rattle.formats.proofs.Laws.Held.{kept_net}
use Rattle.formats.proofs.Laws.Lines.Outcomes.{then_value, then_refused}
use Rattle.operations.specs.Accepting.{Accepted, accept_listing, accepted}
use Rattle.operations.specs.Answers.{judgement, judge_of}
use Rattle.operations.specs.Inner.Acceptance.{AcceptedOver, accepted_over, over_outcome}

-- a net with its weights and a listing over it; and without the weights
abbrev pub both_read : WeightedNet → Listing → Outcome AcceptedOver
both_read M G = value (record { net = M; listing = G })

abbrev plain : Net → Listing → Outcome Accepted
plain N G = value (record { net = N; listing = G })

module _ (net listing : List ℕ) where
  pub over_refused : (e : Refusal) → read_weighted net ≡ refused e → refused e ≡ accepted_over net listing
  over_refused e h = sym (then_refused _ h)

  -- the net was read into the arrays; the root and the sinks stand as before, and the listing's parents and points were put beside them
  pub over_read : (h : Header) (n : ℕ) (xs ys rs ws xs' ys' : List ℤ) (ps : List ℕ) (r : Result Measures Refusal) → read_weighted net ≡ value (record { net = net_of h n xs ys rs; weights = weights_of n ws }) → SinksKept n xs ys xs' ys'
      → listing_outcome r n ps xs' ys' ≡ accept_listing (net_of h n xs ys rs) listing → over_outcome r h n xs' ys' rs ws ps ≡ accepted_over net listing
  over_read h n xs ys rs ws xs' ys' ps (Ok m) read kept e =
      ap (λ N. value (record { net = record { net = N; weights = weights_of n ws }; listing = listing_held m.slack m.wire n ps xs' ys' })) (kept_net h n xs ys rs xs' ys' kept) ∙ sym (then_value _ read ∙ then_value _ (sym e))
  over_read h n xs ys rs ws xs' ys' ps (Err d) read kept e = sym (then_value _ read ∙ then_refused _ (sym e))

  -- what is accepted was read, and the listing over it
  pub over_gives : (M : WeightedNet) (G : Listing) → both_read M G ≡ accepted_over net listing → (read_weighted net ≡ value M) × (accept_listing M.net listing ≡ value G)
  over_gives M G e = at_net (read_weighted net) refl e
    where
      at_listing : (K : WeightedNet) → read_weighted net ≡ value K → (o : Outcome Listing) → accept_listing K.net listing ≡ o → both_read M G ≡ and_then o (both_read K)
          → (read_weighted net ≡ value M) × (accept_listing M.net listing ≡ value G)
      at_listing K f (refused d) g e = cc
      at_listing K f (value H) g e =
          let same : ◌≡◌ {A = AcceptedOver} (record { net = M; listing = G }) (record { net = K; listing = H }) = cc in
          (f ∙ sym (ap (λ p. value p.net) same), ap (λ p. accept_listing p.net.net listing) same ∙ g ∙ sym (ap (λ p. value p.listing) same))

      at_net : (o : Outcome WeightedNet) → read_weighted net ≡ o → both_read M G ≡ and_then o (λ K. and_then (accept_listing K.net listing) (both_read K))
          → (read_weighted net ≡ value M) × (accept_listing M.net listing ≡ value G)
      at_net (refused d) f e = cc
      at_net (value K) f e = at_listing K f (accept_listing K.net listing) refl e

  -- judge, of the two
  pub judge_over : judge_of net listing ≡ and_then (accepted_over net listing) (λ p. value (judgement (record { net = p.net.net; listing = p.listing })))
  unfolding judge_of accepted read_net
  judge_over = go (read_weighted net)
    where
      at_listing : (K : WeightedNet) (o : Outcome Listing)
          → and_then (and_then o (plain K.net)) (λ a. value (judgement a)) ≡ and_then (and_then o (both_read K)) (λ p. value (judgement (record { net = p.net.net; listing = p.listing })))
      at_listing K (value H) = refl
      at_listing K (refused d) = refl

      go : (o : Outcome WeightedNet) → and_then (and_then (and_then o (λ M. value M.net)) (λ N. and_then (accept_listing N listing) (plain N))) (λ a. value (judgement a))
          ≡ and_then (and_then o (λ M. and_then (accept_listing M.net listing) (both_read M))) (λ p. value (judgement (record { net = p.net.net; listing = p.listing })))
      go (value K) = at_listing K (accept_listing K.net listing)
      go (refused d) = refl

  pub judge_over_refused : (e : Refusal) → refused e ≡ accepted_over net listing → judge_of net listing ≡ refused e
  judge_over_refused e h = judge_over ∙ then_refused _ (sym h)

-- what holds whatever the answer is holds of an accepted listing
pub on_accepted : {A : Type 0} (r : Result Measures Refusal) → A → OnOk r A
on_accepted (Ok m) a = a
on_accepted (Err e) a = tt
