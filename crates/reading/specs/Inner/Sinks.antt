-- What the answer to the line of a sink means. Definitions alone.
use Rattle.std.specs.Prelude.{ℕ, ◌+◌, ◌≡◌, List, [], ◌∷◌, set, ℤ, Result, Ok, Err}
use Rattle.quantities.specs.declared.point.Point.{Point}
use Rattle.formats.specs.Outcome.{refused}
use Rattle.formats.specs.Reading.Nets.{sink_of, due_sink}
use Rattle.formats.specs.Inner.Readers.{ReadTo, place, AtLine, ahead, SameText}
use Rattle.formats.specs.declared.refusal.Text.TheVariants.{InNet}
use Rattle.formats.specs.declared.refusal.Refusal.{Refusal}
use Rattle.formats.specs.declared.reader.LineReader.{LineReader}

-- the reader stands at a line of a net
abbrev pub AtSinkLine : LineReader → Type 0
AtSinkLine r = AtLine r × (r.which ≡ InNet)

-- the line of a sink was read into the place i of the arrays: those with a stroke, and the reader with one, are those after it
pub record SinkStored (root : Point) (r : LineReader) (i : ℕ) (xs ys required weights : List ℤ) (r' : LineReader) (xs' ys' required' weights' : List ℤ) : Type 0 where
  pub x : ℤ
  pub y : ℤ
  pub a : ℤ
  pub w : ℤ
  pub read_to : ReadTo (due_sink root r.line (ahead r)) (sink_of (x ∷ (y ∷ (a ∷ (w ∷ []))))) r.text.now (r.line + 1) (place r')
  pub same : SameText r r'
  pub xs_is : xs' ≡ set xs i x
  pub ys_is : ys' ≡ set ys i y
  pub required_is : required' ≡ set required i a
  pub weights_is : weights' ≡ set weights i w

-- what an answer to the line of a sink says
abbrev pub SinkSays : Point → LineReader → ℕ → List ℤ → List ℤ → List ℤ → List ℤ → Result Unit Refusal → LineReader → List ℤ → List ℤ → List ℤ → List ℤ → Type 0
SinkSays root r i xs ys required weights (Ok u) r' xs' ys' required' weights' = SinkStored root r i xs ys required weights r' xs' ys' required' weights'
SinkSays root r i xs ys required weights (Err e) r' xs' ys' required' weights' = due_sink root r.line (ahead r) ≡ refused e
