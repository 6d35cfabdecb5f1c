-- A step of reading refuses the line that is due for its fault, or gives what its numbers say. Assumes nothing.
use Prim.Native.Nat.{ℕ, suc, ◌≤◌}
use mathlib.Core.Path.{◌≡◌, refl, sym, subst, ◌∙◌}
use mathlib.Core.Bool.{Bool, true, false, ◌&&◌, false≢true}
use mathlib.Core.List.{List, [], ◌∷◌, ◌++◌}
use lib.ListN.{length, drop}
use lib.IntN.{ℤ, pos, nat_abs}
use lib.Signed.{le_z, ◌≤ℤ◌}
use native.Mathlib.Omega.{arith}
use Rattle.quantities.specs.Inner.Linear.{whole, le_z_is}
use Rattle.formats.specs.Line.{line_text}
use Rattle.formats.specs.Reading.Rows.{Row, row, misspelled, line_in}
use Rattle.formats.specs.Outcome.{Outcome, value, refused, and_then}
use Rattle.formats.specs.Ranges.{at}
use Rattle.formats.specs.Reading.Lines.{inside, all_inside, Read, reading, ranged, due, due_number, due_natural, ranged_after, due_for}
use Rattle.formats.specs.Faults.{Also, nothing, Bars, DueLine, InRanges, Spelled, Good, LineFault, not_due, out_of_range, barred, plain}
use Rattle.formats.specs.declared.ranges.Range.{Range}
use Rattle.formats.specs.declared.refusal.Text.{Text}
use Rattle.formats.specs.declared.refusal.Refusal.{Refusal}
use Rattle.formats.specs.declared.refusal.Refusal.TheVariants.{NotDue, OutOfRange}
use Rattle.formats.proofs.Laws.Lines.Lines.{line_sound}
use Rattle.formats.proofs.Laws.Lines.DueTexts.{and_true, inside_all}
use Rattle.formats.proofs.Laws.Faults.LineFaults.{no_row, spelled_row}

-- a line that is due, by its parts
abbrev pub asking : List ℕ → List ℤ → List Range → Also → DueLine
asking key given ranges also = record { key = key; given = given; ranges = ranges; also = also }

-- what the step of a line comes to, where f is what its numbers say
pub data Tried {A : Type 0} (t : Text) (l : ℕ) (d : DueLine) (s : List ℕ) (f : List ℤ → A) : Outcome (Read A) → Type 0 where
  wrong : {e : Refusal} → LineFault t l d s e → Tried t l d s f (refused e)
  right : (zs : List ℤ) (r : List ℕ) → Good l d s zs r → Tried t l d s f (value (record { got = f zs; rest = r }))

pub reading_tried : {A B : Type 0} {t : Text} {l : ℕ} {d : DueLine} {s : List ℕ} {f : List ℤ → A} {o : Outcome (Read A)} (g : A → B) → Tried t l d s f o → Tried t l d s (λ zs. g (f zs)) (reading g o)
reading_tried g (wrong w) = wrong w
reading_tried g (right zs r h) = right zs r h

-- ---- numbers in range

in_ranges : (gs : List Range) (zs : List ℤ) → length zs ≡ length gs → all_inside gs zs ≡ true → InRanges gs zs
in_ranges [] [] n e = tt
in_ranges [] (z ∷ zs) n e = absurd (omega arith)
in_ranges (g ∷ gs) [] n e = absurd (omega arith)
in_ranges (g ∷ gs) (z ∷ zs) n e =
    let a : (inside g z ≡ true) × (all_inside gs zs ≡ true) = and_true (inside g z) (all_inside gs zs) e in
    let b : (le_z g.from z ≡ true) × (le_z z g.to ≡ true) = and_true (le_z g.from z) (le_z z g.to) a.0 in
    ((omega (arith, whole), omega (arith, whole)), in_ranges gs zs (omega arith) a.1)

no_bars : (l : ℕ) (zs : List ℤ) (e : Refusal) → Bars l zs nothing e → ⊥
no_bars l zs e b = elim b [ ]

-- the numbers zs of a line that is spelled so, and asked nothing else, are tested for their ranges
module _ (t : Text) (l : ℕ) (key : List ℕ) (given : List ℤ) (gs : List Range) (s : List ℕ) where
  ranged_tried : (zs : List ℤ) (j : ℕ) → Spelled (asking key given gs nothing) s zs (drop j s) → Tried t l (asking key given gs nothing) s (λ zs. zs) (ranged t l gs s (row zs j))
  ranged_tried zs j w = go (all_inside gs zs) refl
    where
      go : (b : Bool) → all_inside gs zs ≡ b → Tried t l (asking key given gs nothing) s (λ zs. zs) (elim b [ true ↦ value (record { got = zs; rest = drop j s }) | false ↦ refused (OutOfRange t l) ])
      go true i = right zs (drop j s) (record { spelled = w; in_range = in_ranges gs zs w.count i; not_barred = no_bars l zs })
      go false i = wrong (out_of_range zs (drop j s) w (λ h. false≢true (sym i ∙ (inside_all gs zs h).1)))

-- ---- a line of a key and its ranges

module _ (t : Text) (l : ℕ) (key : List ℕ) (gs : List Range) (s : List ℕ) (least : 1 ≤ length gs) where
  pub due_tried : Tried t l (plain key gs) s (λ zs. zs) (due t l key gs s)
  due_tried = go (line_in key (length gs) s) refl
    where
      go : (x : Row) → line_in key (length gs) s ≡ x → Tried t l (plain key gs) s (λ zs. zs) (ranged t l gs s x)
      go misspelled q = wrong (not_due (λ zs r h. no_row zs _ (sym q ∙ spelled_row (plain key gs) (length gs) s zs r (omega arith) least h)))
      go (row zs j) q =
          let h = line_sound key (length gs) s zs j q in
          ranged_tried t l key [] gs s zs j (record { count = h.0; text = h.2 })

module _ (t : Text) (l : ℕ) (key : List ℕ) (g : Range) (s : List ℕ) where
  pub number_tried : Tried t l (plain key (g ∷ [])) s (λ zs. at zs 0) (due_number t l key g s)
  number_tried = reading_tried (λ zs. at zs 0) (due_tried t l key (g ∷ []) s (omega arith))

  pub natural_tried : Tried t l (plain key (g ∷ [])) s (λ zs. nat_abs (at zs 0)) (due_natural t l key g s)
  natural_tried = reading_tried nat_abs number_tried

-- ---- a line whose first number is k

first_same : (y : ℤ) (zs : List ℤ) (j k : ℕ) (ys : List ℤ) (i : ℕ) → row (y ∷ zs) j ≡ row (pos k ∷ ys) i → y ≡ pos k
first_same y zs j k ys i e = cc

module _ (t : Text) (l : ℕ) (key : List ℕ) (k : ℕ) (gs : List Range) (s : List ℕ) (least : 1 ≤ length gs) where
  abbrev lined : DueLine
  lined = asking key (pos k ∷ []) gs nothing

  pub for_tried : Tried t l lined s (λ zs. zs) (due_for t l key k gs s)
  for_tried = go (line_in key (suc (length gs)) s) refl
    where
      go : (x : Row) → line_in key (suc (length gs)) s ≡ x → Tried t l lined s (λ zs. zs) (ranged_after t l k gs s x)
      go misspelled q = wrong (not_due (λ zs r h. no_row (pos k ∷ zs) _ (sym q ∙ spelled_row lined (suc (length gs)) s zs r (omega arith) least h)))
      go (row [] j) q = absurd (omega (arith, (line_sound key (suc (length gs)) s [] j q).0))
      go (row (y ∷ zs) j) q = first (le_z y (pos k) && le_z (pos k) y) refl
        where
          first : (b : Bool) → le_z y (pos k) && le_z (pos k) y ≡ b → Tried t l lined s (λ zs. zs) (elim b [ true ↦ ranged t l gs s (row zs j) | false ↦ refused (NotDue t l) ])
          first false i =
              wrong (not_due (λ ys r h.
              let p : y ≡ pos k = first_same y zs j k ys _ (sym q ∙ spelled_row lined (suc (length gs)) s ys r (omega arith) least h) in
              let a : y ≤ℤ pos k = omega (arith, whole) in
              let b : pos k ≤ℤ y = omega (arith, whole) in
              false≢true (sym i ∙ rw (le_z_is a, le_z_is b))))
          first true i =
              let b : (le_z y (pos k) ≡ true) × (le_z (pos k) y ≡ true) = and_true (le_z y (pos k)) (le_z (pos k) y) i in
              let p : y ≡ pos k = omega (arith, whole) in
              let was = line_sound key (suc (length gs)) s (y ∷ zs) j q in
              let text = subst (λ (z : ℤ). s ≡ line_text key (z ∷ zs) ++ drop j s) p was.2 in
              ranged_tried t l key (pos k ∷ []) gs s zs j (record { count = omega (arith, was.0); text = text })

-- ---- what is asked of a line besides its ranges

-- a step after the ranges: it refuses the numbers zs for what is asked, or goes on with x
pub data Asked {A : Type 0} (l : ℕ) (zs : List ℤ) (a : Also) (x : A) : Outcome A → Type 0 where
  bars : {e : Refusal} → Bars l zs a e → Asked l zs a x (refused e)
  passes : ((e : Refusal) → Bars l zs a e → ⊥) → Asked l zs a x (value x)

module _ {A : Type 0} (t : Text) (l : ℕ) (key : List ℕ) (given : List ℤ) (gs : List Range) (a : Also) (s : List ℕ) (f : List ℤ → A) (test : Read A → Outcome (Read A)) where
  abbrev old : DueLine
  old = asking key given gs nothing

  abbrev new : DueLine
  new = asking key given gs a

  forth : (zs : List ℤ) (r : List ℕ) → Spelled old s zs r → Spelled new s zs r
  forth zs r h = record { count = h.count; text = h.text }

  back : (zs : List ℤ) (r : List ℕ) → Spelled new s zs r → Spelled old s zs r
  back zs r h = record { count = h.count; text = h.text }

  fault_forth : (e : Refusal) → LineFault t l old s e → LineFault t l new s e
  fault_forth e (not_due f) = not_due (λ zs r h. f zs r (back zs r h))
  fault_forth e (out_of_range zs r h f) = out_of_range zs r (forth zs r h) f
  fault_forth e (barred zs r h i b) = absurd (no_bars l zs e b)

  asked_right : (zs : List ℤ) (r : List ℕ) → Good l old s zs r → (o : Outcome (Read A)) → Asked l zs a (record { got = f zs; rest = r }) o → Tried t l new s f o
  asked_right zs r g o (bars b) = wrong (barred zs r (forth zs r g.spelled) g.in_range b)
  asked_right zs r g o (passes p) = right zs r (record { spelled = forth zs r g.spelled; in_range = g.in_range; not_barred = p })

  pub asked_tried : ((zs : List ℤ) (r : List ℕ) → InRanges gs zs → Asked l zs a (record { got = f zs; rest = r }) (test (record { got = f zs; rest = r }))) → (o : Outcome (Read A)) → Tried t l old s f o → Tried t l new s f (and_then o test)
  asked_tried h o (wrong {e} w) = wrong (fault_forth e w)
  asked_tried h o (right zs r g) = asked_right zs r g (test (record { got = f zs; rest = r })) (h zs r g.in_range)
