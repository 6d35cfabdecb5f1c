-- What the definitions of specs/Answers come to, case by case, and that figures tell answers apart. Assumes nothing.
use Prim.Native.Nat.{ℕ, ◌≤◌, ◌<◌}
use mathlib.Core.Path.{◌≡◌, refl, ap, ap₂}
use mathlib.Core.Bool.{Bool, true, false}
use mathlib.Core.List.{List}
use Rattle.std.specs.Prelude.{Result, Ok, Err}
use native.Mathlib.Omega.{arith}
use borrow.Author.Tests.{ltb-true, ltb-false}
use lib.ListN.{length, drop, length-append, length-drop}
use lib.Seq.{drop_at}
use lib.Dec.{ltb}
use lib.Signed.{◌≤ℤ◌, ◌<ℤ◌, lt_z}
use Rattle.quantities.specs.Inner.Linear.{whole}
use Rattle.tree.specs.Net.{Net}
use Rattle.tree.specs.Measures.{worst_slack, wire_length}
use Rattle.tree.specs.Settling.{plan}
use Rattle.formats.specs.Outcome.{Outcome, value, refused}
use Rattle.formats.specs.Reading.Nets.{read_net}
use Rattle.formats.specs.declared.refusal.Refusal.{Refusal}
use Rattle.formats.specs.declared.refusal.Refusal.TheVariants.{Unreachable, TooShort}
use Rattle.formats.proofs.Laws.Lines.Outcomes.{then_refused}
use Rattle.formats.proofs.Laws.Lines.Refusals.{numbered, told_one}
use Rattle.operations.specs.Accepting.{accepted}
use Rattle.operations.specs.Answers.{Written, plan_listing, plan_net, plan_of, overwritten, plan_figures, judge_of, judge_figures}
use Rattle.operations.specs.declared.answers.Planned.{Planned}
use Rattle.operations.specs.declared.answers.Judged.{Judged}

-- ---- a net that is refused as it is read

module _ (net : List ℕ) (e : Refusal) (h : read_net net ≡ refused e) where
  pub plan_refused : (room : ℕ) → plan_of net room ≡ refused e
  unfolding plan_of
  plan_refused room = then_refused _ h

  pub judge_refused : (listing : List ℕ) → judge_of net listing ≡ refused e
  unfolding judge_of accepted
  judge_refused listing = then_refused _ (then_refused _ h)

-- ---- plan

-- what plan has written
abbrev pub plan_written : Net → Written
plan_written N = record { slack = worst_slack N (plan N); wire = wire_length N (plan N); bytes = plan_listing N }

-- the three ways that planning a net can end
pub data Ends (N : Net) (room : ℕ) : Type 0 where
  unreachable : worst_slack N (plan N) <ℤ N.need → plan_net N room ≡ refused Unreachable → Ends N room
  short : N.need ≤ℤ worst_slack N (plan N) → room < length (plan_listing N) → plan_net N room ≡ refused TooShort → Ends N room
  written : N.need ≤ℤ worst_slack N (plan N) → length (plan_listing N) ≤ room → plan_net N room ≡ value (plan_written N) → Ends N room

-- by the two tests
abbrev end_by : Net → Bool → Bool → Outcome Written
end_by N a b =
    elim a [
      | true ↦ refused Unreachable
      | false ↦ elim b [ true ↦ refused TooShort | false ↦ value (plan_written N) ]
    ]

pub ends : (N : Net) (room : ℕ) → Ends N room
unfolding plan_listing
ends N room = go (lt_z (worst_slack N (plan N)) N.need) refl (ltb room (length (plan_listing N))) refl
  where
    go : (t : Bool) → lt_z (worst_slack N (plan N)) N.need ≡ t → (u : Bool) → ltb room (length (plan_listing N)) ≡ u → Ends N room
    go true e u f = unreachable (omega (arith, whole)) (ap₂ (end_by N) e f)
    go false e true f = short (omega (arith, whole)) (ltb-true room (length (plan_listing N)) f) (ap₂ (end_by N) e f)
    go false e false f = written (omega (arith, whole)) (ltb-false room (length (plan_listing N)) f) (ap₂ (end_by N) e f)

pub overwritten_beyond : (w out : List ℕ) → drop (length w) (overwritten w out) ≡ drop (length w) out
overwritten_beyond w out = drop_at w (drop (length w) out) (length w) refl

pub overwritten_length : (w out : List ℕ) → length w ≤ length out → length (overwritten w out) ≡ length out
overwritten_length w out h = omega (arith, length-append w (drop (length w) out), length-drop (length w) out)

-- ---- figures

pub plan_one : (a b : Result Planned Refusal) → plan_figures a ≡ plan_figures b → a ≡ b
plan_one (Ok p) (Ok q) e = λ i. Ok (record { slack = record { 0 = (e i).slack }; wire = record { 0 = (e i).wire }; bytes = (e i).bytes })
plan_one (Ok p) (Err f) e = absurd (omega (arith, numbered f, ap (λ r. r.number) e))
plan_one (Err f) (Ok p) e = absurd (omega (arith, numbered f, ap (λ r. r.number) e))
plan_one (Err f) (Err g) e = ap Err (told_one f g (λ i. record { number = (e i).number; text = (e i).text; line = (e i).line }))

pub judge_one : (a b : Result Judged Refusal) → judge_figures a ≡ judge_figures b → a ≡ b
judge_one (Ok j) (Ok k) e = λ i. Ok (record { slack = record { 0 = (e i).slack }; wire = record { 0 = (e i).wire }; best = record { 0 = (e i).best } })
judge_one (Ok j) (Err f) e = absurd (omega (arith, numbered f, ap (λ r. r.number) e))
judge_one (Err f) (Ok j) e = absurd (omega (arith, numbered f, ap (λ r. r.number) e))
judge_one (Err f) (Err g) e = ap Err (told_one f g (λ i. record { number = (e i).number; text = (e i).text; line = (e i).line }))
