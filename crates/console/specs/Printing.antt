-- What the programs print: document 01, 'Marked nets and lines'; the second plan's program prints as the first plan's does. Definitions alone.
use Rattle.std.specs.Prelude.{ℕ, ◌≡◌, List, [], ◌∷◌, ◌++◌, length, pos}
use Rattle.formats.specs.Bytes.{bytes}
use Rattle.formats.specs.Line.{line_text}
use Rattle.formats.specs.NetText.{wire_key}
use Rattle.formats.specs.ListingText.{slack_key}
use Rattle.formats.specs.Outcome.{Outcome, value, refused}
use Rattle.formats.specs.Refusals.{told}
use Rattle.formats.specs.declared.refusal.Told.{Told}
use Rattle.operations.specs.Answers.{Written, plan_of, overwritten, Judgement, judge_of}
use Rattle.short_tree.specs.SecondPlan.{short_of}
use Rattle.weighted_tree.specs.ThirdPlan.{weighted_of}
use Rattle.console.specs.Words.{complaint}

-- ---- on standard output

abbrev pub refused_key : List ℕ
refused_key = bytes "refused="

abbrev pub best_key : List ℕ
best_key = bytes "best="

-- "A with `need=1`: 5,1,4; the program prints `refused=5,1,4`; the judge program prints its refusals in the same form."
abbrev pub refusal_text : Told → List ℕ
refusal_text t = line_text refused_key (pos t.number ∷ (pos t.text ∷ (pos t.line ∷ [])))

-- "prints `slack=0`, `wire=32`, `best=0`", "a line each"
abbrev pub measures_text : Judgement → List ℕ
measures_text j = (line_text slack_key (j.slack ∷ []) ++ line_text wire_key (pos j.wire ∷ [])) ++ line_text best_key (j.best ∷ [])

-- "The plan program reads it on standard input and prints exactly, a line each": the listing
abbrev pub plan_printed : Outcome Written → List ℕ
plan_printed (value w) = w.bytes
plan_printed (refused e) = refusal_text (told e)

abbrev pub judge_printed : Outcome Judgement → List ℕ
judge_printed (value j) = measures_text j
judge_printed (refused e) = refusal_text (told e)

-- ---- on standard error, a refusal in words; nothing where nothing is refused

-- plan reads no listing
abbrev pub plan_complaint : List ℕ → Outcome Written → List ℕ
plan_complaint net (value w) = []
plan_complaint net (refused e) = complaint net [] e

abbrev pub judge_complaint : List ℕ → List ℕ → Outcome Judgement → List ℕ
judge_complaint net listing (value j) = []
judge_complaint net listing (refused e) = complaint net listing e

-- ---- the buffers

-- s stands at the start of a buffer, n is its length, and what lies beyond it keeps its value: the buffer was `before` and is `after`
pub record Prints (before s : List ℕ) (n : ℕ) (after : List ℕ) : Type 0 where
  pub long : n ≡ length s
  pub left : after ≡ overwritten s before

-- room for every refusal and all measures; and for every complaint, with the names besides
abbrev pub answer_room : ℕ
answer_room = 128

abbrev pub complaint_room : ℕ
complaint_room = 128

-- ---- a cut answer

-- no answer is a proper part of another, whatever the inputs and the outputs' lengths: what is cut short reads as no answer
pub record OneAnswer : Type 0 where
  pub plan : (net net' : List ℕ) (room room' : ℕ) (r : List ℕ) → plan_printed (plan_of net room) ≡ plan_printed (plan_of net' room') ++ r → r ≡ []
  pub plan_short : (net net' : List ℕ) (room room' : ℕ) (r : List ℕ) → plan_printed (short_of net room) ≡ plan_printed (short_of net' room') ++ r → r ≡ []
  pub plan_weighted : (net net' : List ℕ) (room room' : ℕ) (r : List ℕ) → plan_printed (weighted_of net room) ≡ plan_printed (weighted_of net' room') ++ r → r ≡ []
  pub judge : (net listing net' listing' : List ℕ) (r : List ℕ) → judge_printed (judge_of net listing) ≡ judge_printed (judge_of net' listing') ++ r → r ≡ []
