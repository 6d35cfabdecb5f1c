-- What it takes to accept a listing over a net whose head was read, and judge of a net that was read. Definitions alone.
use Rattle.std.specs.Prelude.{ℕ, ◌*◌, ◌≤◌, List, length, ℤ, Result, Ok, Err}
use Rattle.tree.specs.Net.{Net}
use Rattle.tree.specs.declared.header.Header.{Header}
use Rattle.tree.specs.declared.measures.Measures.{Measures}
use Rattle.tree.specs.Inner.Arrays.{net_of, weights_of}
use Rattle.formats.specs.Outcome.{Outcome, value, refused, and_then}
use Rattle.formats.specs.ListingText.{Listing}
use Rattle.formats.specs.Reading.Nets.{WeightedNet, read_weighted}
use Rattle.formats.specs.Inner.ListingReader.{listing_held}
use Rattle.formats.specs.declared.refusal.Refusal.{Refusal}
use Rattle.operations.specs.Accepting.{accept_listing}
use Rattle.operations.specs.Answers.{Judgement, judgement}

-- room to accept a listing of n sinks in
abbrev pub HasRoom : ℕ → List ℕ → List ℕ → List ℕ → List ℤ → Type 0
HasRoom n first second queue slacks = (2 * n ≤ length first) × (2 * n ≤ length second) × (2 * n ≤ length queue) × (2 * n ≤ length slacks)

-- judge, of a net that was read
abbrev pub judge_net : Net → List ℕ → Outcome Judgement
judge_net N listing = and_then (accept_listing N listing) λ G. value (judgement (record { net = N; listing = G }))

-- ---- the two texts, with the weights

pub record AcceptedOver : Type 0 where
  pub net : WeightedNet
  pub listing : Listing

abbrev pub accepted_over : List ℕ → List ℕ → Outcome AcceptedOver
accepted_over net listing =
    and_then (read_weighted net) λ M.
    and_then (accept_listing M.net listing) λ G.
    value (record { net = M; listing = G })

-- the net, the weights and the listing that the arrays hold, or the refusal
abbrev pub over_outcome : Result Measures Refusal → Header → ℕ → List ℤ → List ℤ → List ℤ → List ℤ → List ℕ → Outcome AcceptedOver
over_outcome (Ok m) h n xs ys required weights parents = value (record { net = record { net = net_of h n xs ys required; weights = weights_of n weights }; listing = listing_held m.slack m.wire n parents xs ys })
over_outcome (Err e) h n xs ys required weights parents = refused e
