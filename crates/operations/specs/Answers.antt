-- What plan and judge answer, for all bytes: document 01, 'The tree listing' and 'Refusals by text and line'. Definitions alone.
use Rattle.std.specs.Prelude.{ℕ, true, false, List, [], ◌++◌, length, drop, ltb, ℤ, pos, Result, Ok, Err}
use Rattle.std.specs.Int.Signed.{lt_z}
use Rattle.tree.specs.Net.{Net, size, own_slacks}
use Rattle.tree.specs.Tree.{Tree}
use Rattle.tree.specs.Measures.{worst_slack, wire_length}
use Rattle.tree.specs.Kraft.{kraft_maximum}
use Rattle.tree.specs.Settling.{plan}
use Rattle.formats.specs.Refusals.{told}
use Rattle.formats.specs.Outcome.{Outcome, value, refused, and_then}
use Rattle.formats.specs.Reading.Nets.{read_net}
use Rattle.formats.specs.ListingText.{Listing, listing_text}
use Rattle.formats.specs.declared.refusal.Refusal.{Refusal}
use Rattle.formats.specs.declared.refusal.Refusal.TheVariants.{Unreachable, TooShort}
use Rattle.operations.specs.Accepting.{Accepted, accepted}
use Rattle.operations.specs.declared.answers.Planned.{Planned}
use Rattle.operations.specs.declared.answers.Judged.{Judged}

-- ---- plan

-- "Plan returns slack, wire and bytes written": the listing that was written, with its slack and wire
pub record Written : Type 0 where
  pub slack : ℤ
  pub wire : ℕ
  pub bytes : List ℕ

-- a tree with its true slack and wire
abbrev pub stated : Net → Tree → Listing
stated N T = record { slack = worst_slack N T; wire = wire_length N T; tree = T }

-- the planned tree, and its listing: 01's planning
abbrev pub planned : Net → Listing
planned N = stated N (plan N)

unfoldable pub plan_listing : Net → List ℕ
plan_listing N = listing_text (size N) (planned N)

-- the listing of n sinks goes out where it has room; 6: "the output is shorter than the listing"
abbrev pub emitted : ℕ → Listing → ℕ → Outcome Written
emitted n G room =
    elim (ltb room (length (listing_text n G))) [
      | true ↦ refused TooShort
      | false ↦ value (record { slack = G.slack; wire = G.wire; bytes = listing_text n G })
    ]

-- a net that was read, and a room of so many bytes: "then 4, 5, 6"
abbrev pub plan_net : Net → ℕ → Outcome Written
plan_net N room = elim (lt_z (worst_slack N (plan N)) N.need) [ true ↦ refused Unreachable | false ↦ emitted (size N) (planned N) room ]

-- plan, of the net's bytes and the length of the output
unfoldable pub plan_of : List ℕ → ℕ → Outcome Written
plan_of net room = and_then (read_net net) λ N. plan_net N room

-- the bytes that go out: none where it is refused
abbrev pub bytes_of : Outcome Written → List ℕ
bytes_of (value w) = w.bytes
bytes_of (refused e) = []

-- the output after the call: "output bytes beyond those keep their values"
abbrev pub overwritten : List ℕ → List ℕ → List ℕ
overwritten written out = written ++ drop (length written) out

unfoldable pub plan_output : List ℕ → List ℕ → List ℕ
plan_output net out = overwritten (bytes_of (plan_of net (length out))) out

-- the answer of the function
abbrev pub plan_answer : Outcome Written → Result Planned Refusal
plan_answer (value w) = Ok (record { slack = record { 0 = w.slack }; wire = record { 0 = w.wire }; bytes = length w.bytes })
plan_answer (refused e) = Err e

-- "Where nothing is refused, number, text and line are 0." "All figures except number, text and line are then 0"
pub record PlanFigures : Type 0 where
  pub number : ℕ
  pub text : ℕ
  pub line : ℕ
  pub slack : ℤ
  pub wire : ℕ
  pub bytes : ℕ

abbrev pub plan_figures : Result Planned Refusal → PlanFigures
plan_figures (Ok p) = record { number = 0; text = 0; line = 0; slack = p.slack.0; wire = p.wire.0; bytes = p.bytes }
plan_figures (Err e) = record { number = (told e).number; text = (told e).text; line = (told e).line; slack = pos 0; wire = 0; bytes = 0 }

-- ---- judge

-- "Judge returns slack, wire and best (the net's Kraft maximum); it does not look at need."
pub record Judgement : Type 0 where
  pub slack : ℤ
  pub wire : ℕ
  pub best : ℤ

abbrev pub judgement : Accepted → Judgement
judgement a = record {
  slack = worst_slack a.net a.listing.tree;
  wire = wire_length a.net a.listing.tree;
  best = kraft_maximum a.net.branch (own_slacks a.net);
}

-- judge, of the two texts
unfoldable pub judge_of : List ℕ → List ℕ → Outcome Judgement
judge_of net listing = and_then (accepted net listing) λ a. value (judgement a)

abbrev pub judge_answer : Outcome Judgement → Result Judged Refusal
judge_answer (value j) = Ok (record { slack = record { 0 = j.slack }; wire = record { 0 = j.wire }; best = record { 0 = j.best } })
judge_answer (refused e) = Err e

pub record JudgeFigures : Type 0 where
  pub number : ℕ
  pub text : ℕ
  pub line : ℕ
  pub slack : ℤ
  pub wire : ℕ
  pub best : ℤ

abbrev pub judge_figures : Result Judged Refusal → JudgeFigures
judge_figures (Ok j) = record { number = 0; text = 0; line = 0; slack = j.slack.0; wire = j.wire.0; best = j.best.0 }
judge_figures (Err e) = record { number = (told e).number; text = (told e).text; line = (told e).line; slack = pos 0; wire = 0; best = pos 0 }
