-- A line that is due is spelled in one way, has at most one fault, and none where it is good. Assumes nothing.
use Prim.Native.Nat.{ℕ, ◌+◌, ◌≤◌}
use mathlib.Core.Path.{◌≡◌, refl, sym, subst, ◌∙◌}
use mathlib.Core.List.{List, ◌++◌, append_cancel_left}
use lib.ListN.{length, length-append}
use lib.IntN.{ℤ}
use native.Mathlib.Omega.{arith}
use Rattle.formats.specs.Line.{line_text}
use Rattle.formats.specs.Reading.Rows.{row, misspelled, line_in}
use Rattle.formats.specs.Faults.{Also, Bars, other_count, sink_parent, far_pin, DueLine, InRanges, Spelled, Good, LineFault, not_due, out_of_range, barred}
use Rattle.formats.specs.declared.refusal.Text.{Text}
use Rattle.formats.specs.declared.refusal.Refusal.{Refusal}
use Rattle.formats.proofs.Laws.Lines.Lines.{line_complete}
use Rattle.formats.proofs.Laws.Lines.OneLine.{line_one}

pub no_row : {C : Type 0} (xs : List ℤ) (i : ℕ) → misspelled ≡ row xs i → C
no_row xs i e = absurd (let z : ◌≡◌ {A = ℕ} 0 1 = cc in omega arith)

-- a text that begins with the line is read as its numbers
pub spelled_row : (d : DueLine) (m : ℕ) (s : List ℕ) (zs : List ℤ) (r : List ℕ) → m ≡ length d.given + length d.ranges → 1 ≤ length d.ranges → Spelled d s zs r
    → line_in d.key m s ≡ row (d.given ++ zs) (length (line_text d.key (d.given ++ zs)))
spelled_row d m s zs r e least h =
    let n : length (d.given ++ zs) ≡ m = omega (arith, h.count, length-append d.given zs) in
    rw (h.text, ← n) (line_complete d.key (d.given ++ zs) r (omega arith))

pub spelled_one : (d : DueLine) (s : List ℕ) (zs ys : List ℤ) (r q : List ℕ) → 1 ≤ length d.ranges → Spelled d s zs r → Spelled d s ys q → (zs ≡ ys) × (r ≡ q)
spelled_one d s zs ys r q least g h =
    let count : length (d.given ++ zs) ≡ length (d.given ++ ys) = omega (arith, g.count, h.count, length-append d.given zs, length-append d.given ys) in
    let one = line_one d.key (d.given ++ zs) (d.given ++ ys) r q count (omega (arith, g.count, length-append d.given zs)) (sym g.text ∙ h.text) in
    (append_cancel_left d.given zs ys one.0, one.1)

bars_one : (l : ℕ) (zs : List ℤ) (a : Also) (e f : Refusal) → Bars l zs a e → Bars l zs a f → e ≡ f
bars_one l zs a e f (other_count p) (other_count q) = refl
bars_one l zs a e f (sink_parent p i) (sink_parent q j) = refl
bars_one l zs a e f (far_pin p) (far_pin q) = refl

module _ (t : Text) (l : ℕ) (d : DueLine) (s : List ℕ) (least : 1 ≤ length d.ranges) where
  pub good_fault : {C : Type 0} (e : Refusal) (zs : List ℤ) (r : List ℕ) → Good l d s zs r → LineFault t l d s e → C
  good_fault e zs r g (not_due f) = absurd (f zs r g.spelled)
  good_fault e zs r g (out_of_range ys q h f) =
      let w = spelled_one d s zs ys r q least g.spelled h in
      absurd (f (subst (InRanges d.ranges) w.0 g.in_range))
  good_fault e zs r g (barred ys q h i b) =
      let w = spelled_one d s zs ys r q least g.spelled h in
      absurd (g.not_barred e (subst (λ (xs : List ℤ). Bars l xs d.also e) (sym w.0) b))

  pub fault_one : (e f : Refusal) → LineFault t l d s e → LineFault t l d s f → e ≡ f
  fault_one e f (not_due h) (not_due g) = refl
  fault_one e f (not_due h) (out_of_range zs r p g) = absurd (h zs r p)
  fault_one e f (not_due h) (barred zs r p i b) = absurd (h zs r p)
  fault_one e f (out_of_range zs r p h) (not_due g) = absurd (g zs r p)
  fault_one e f (out_of_range zs r p h) (out_of_range ys q o g) = refl
  fault_one e f (out_of_range zs r p h) (barred ys q o i b) =
      absurd (h (subst (InRanges d.ranges) (spelled_one d s ys zs q r least o p).0 i))
  fault_one e f (barred zs r p i b) (not_due g) = absurd (g zs r p)
  fault_one e f (barred zs r p i b) (out_of_range ys q o g) =
      absurd (g (subst (InRanges d.ranges) (spelled_one d s zs ys r q least p o).0 i))
  fault_one e f (barred zs r p i b) (barred ys q o j c) =
      bars_one l ys d.also e f (subst (λ (xs : List ℤ). Bars l xs d.also e) (spelled_one d s zs ys r q least p o).0 b) c
