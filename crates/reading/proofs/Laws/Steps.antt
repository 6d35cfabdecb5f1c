-- Lines one after another: what is left to read of a text comes to what the whole comes to, and a line read or refused is a step in that. Assumes nothing.
use Prim.Native.Nat.{ℕ, ◌+◌, ◌≤◌}
use mathlib.Core.Path.{◌≡◌, ap, sym, ◌∙◌}
use mathlib.Core.List.{List}
use denote.Bor.{Bor}
use lib.ListN.{length, drop}
use native.Mathlib.Omega.{arith}
use Rattle.formats.specs.Outcome.{Outcome, refused, and_then}
use Rattle.formats.specs.Reading.Lines.{Read}
use Rattle.formats.specs.Inner.Readers.{ahead, place, ReadTo, SameText}
use Rattle.formats.specs.declared.reader.LineReader.{LineReader}
use Rattle.formats.specs.declared.refusal.Refusal.{Refusal}
use Rattle.formats.specs.declared.refusal.Text.{Text}
use Rattle.formats.proofs.Laws.Lines.Outcomes.{then_value, then_refused}

-- a reader at the start of the text s
pub record AtStart (t : Text) (s : List ℕ) (r : LineReader) : Type 0 where
  pub which_is : r.which ≡ t
  pub text_is : r.text.now ≡ s
  pub at_is : r.at ≡ 0
  pub line_is : r.line ≡ 1

pub at_start : (t : Text) (text : Bor (List ℕ)) (r : LineReader) → r ≡ record { which = t; text = text; at = 0; line = 1 } → AtStart t text.now r
at_start t text r e = record {
  which_is = ap (λ (r : LineReader). r.which) e;
  text_is = ap (λ (r : LineReader). r.text.now) e;
  at_is = ap (λ (r : LineReader). r.at) e;
  line_is = ap (λ (r : LineReader). r.line) e;
}

-- the reader r has come to line l of the text s, from which on `rest` reads; so the whole comes to o
pub record Left {A : Type 0} (t : Text) (o : Outcome A) (s : List ℕ) (l : ℕ) (rest : List ℕ → Outcome A) (r : LineReader) : Type 0 where
  pub which_is : r.which ≡ t
  pub text_is : r.text.now ≡ s
  pub line_is : r.line ≡ l
  pub within : r.at ≤ length s
  pub reads : o ≡ rest (drop r.at s)

pub left_all : {A : Type 0} (t : Text) (s : List ℕ) (rest : List ℕ → Outcome A) (r : LineReader) → AtStart t s r → Left t (rest s) s 1 rest r
left_all t s rest r h = record {
  which_is = h.which_is;
  text_is = h.text_is;
  line_is = h.line_is;
  within = omega (arith, h.at_is);
  reads = ap (λ i. rest (drop i s)) (sym h.at_is);
}

-- a line that comes to d, from what it says by the reader
module _ {A B : Type 0} (t : Text) (o : Outcome A) (s : List ℕ) (l : ℕ) (rest : List ℕ → Outcome A) (r : LineReader) (h : Left t o s l rest r)
    (d : Text → ℕ → List ℕ → Outcome (Read B)) (next : Read B → Outcome A) (by_line : (u : List ℕ) → rest u ≡ and_then (d t l u) next) where
  step : o ≡ and_then (d r.which r.line (ahead r)) next
  step = h.reads ∙ by_line (drop r.at s) ∙ (λ i. and_then (d (sym h.which_is i) (sym h.line_is i) (drop r.at (sym h.text_is i))) next)

  pub line_refused : (e : Refusal) → d r.which r.line (ahead r) ≡ refused e → o ≡ refused e
  line_refused e q = step ∙ then_refused next q

  pub line_read : (b : B) (r' : LineReader) → ReadTo (d r.which r.line (ahead r)) b r.text.now (r.line + 1) (place r') → SameText r r' → Left t o s (l + 1) (λ u. next (record { got = b; rest = u })) r'
  line_read b r' read same = record {
    which_is = same.0 ∙ h.which_is;
    text_is = same.1 ∙ h.text_is;
    line_is = omega (arith, read.line_is, h.line_is);
    within = omega (arith, read.within, ap length h.text_is);
    reads = step ∙ then_value next read.reads ∙ (λ i. next (record { got = b; rest = drop r'.at (h.text_is i) }));
  }
