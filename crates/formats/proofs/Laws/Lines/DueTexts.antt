-- Laws of one line that is due. Soundness: it is refused by 2 or by 3, or the text begins with a line of numbers in range and what comes next gets them.
-- Completeness: every such line is read as its numbers, whatever follows. Assumes nothing.
use Prim.Native.Nat.{ℕ, suc, ◌≤◌}
use mathlib.Core.Path.{◌≡◌, refl, sym, subst, ◌∙◌}
use mathlib.Core.Logic.{◌⊎◌, inl, inr}
use mathlib.Core.Bool.{Bool, true, false, ◌&&◌, false≢true}
use mathlib.Core.List.{List, [], ◌∷◌, ◌++◌}
use lib.ListN.{length, drop}
use lib.Seq.{drop-append_seam}
use lib.IntN.{ℤ, pos, negsuc, nat_abs}
use lib.Signed.{le_z, ◌≤ℤ◌}
use native.Mathlib.Omega.{arith}
use Rattle.quantities.specs.Inner.Linear.{whole, le_z_is}
use Rattle.formats.specs.Line.{line_text}
use Rattle.formats.specs.Reading.Rows.{Row, row, misspelled, line_in}
use Rattle.formats.specs.Outcome.{Outcome, value, refused, and_then}
use Rattle.formats.specs.Reading.Lines.{inside, all_inside, Read, ranged, due, due_number, due_natural, ranged_after, due_for, ended}
use Rattle.formats.specs.Faults.{InRanges}
use Rattle.formats.specs.declared.ranges.Range.{Range}
use Rattle.formats.specs.declared.refusal.Text.{Text}
use Rattle.formats.specs.declared.refusal.Refusal.{Refusal}
use Rattle.formats.specs.declared.refusal.Refusal.TheVariants.{NotDue, OutOfRange, BytesFollow}
use Rattle.formats.proofs.Laws.Lines.Lines.{line_sound, line_complete}
use Rattle.formats.proofs.Laws.Lines.Outcomes.{then_then, then_value}

-- ---- numbers in range

abbrev pub In : Range → ℤ → Type 0
In g z = (g.from ≤ℤ z) × (z ≤ℤ g.to)

-- P at every list of numbers in range, one by one
abbrev pub Every : List Range → (List ℤ → Type 0) → Type 0
Every [] P = P []
Every (g ∷ gs) P = (z : ℤ) → In g z → Every gs (λ zs. P (z ∷ zs))

pub and_true : (a b : Bool) → a && b ≡ true → (a ≡ true) × (b ≡ true)
and_true true b e = (refl, e)
and_true false b e = absurd (false≢true e)

every_at : (gs : List Range) (zs : List ℤ) (P : List ℤ → Type 0) → length zs ≡ length gs → all_inside gs zs ≡ true → Every gs P → P zs
every_at [] [] P n e f = f
every_at [] (z ∷ zs) P n e f = absurd (omega arith)
every_at (g ∷ gs) [] P n e f = absurd (omega arith)
every_at (g ∷ gs) (z ∷ zs) P n e f =
    let a : (inside g z ≡ true) × (all_inside gs zs ≡ true) = and_true (inside g z) (all_inside gs zs) e in
    let b : (le_z g.from z ≡ true) × (le_z z g.to ≡ true) = and_true (le_z g.from z) (le_z z g.to) a.0 in
    every_at gs zs (λ ys. P (z ∷ ys)) (omega arith) a.1 (f z (omega (arith, whole), omega (arith, whole)))

pub inside_all : (gs : List Range) (zs : List ℤ) → InRanges gs zs → (length zs ≡ length gs) × (all_inside gs zs ≡ true)
inside_all [] [] h = (refl, refl)
inside_all [] (z ∷ zs) h = absurd h
inside_all (g ∷ gs) [] h = absurd h
inside_all (g ∷ gs) (z ∷ zs) h =
    let w : (length zs ≡ length gs) × (all_inside gs zs ≡ true) = inside_all gs zs h.1 in
    (omega arith, rw (le_z_is h.0.0, le_z_is h.0.1) w.1)

-- ---- a line

-- a value is no refusal
pub never : {A C : Type 0} (a : A) (e : Refusal) → value a ≡ refused e → C
never a e h = absurd (let z : ◌≡◌ {A = ℕ} 0 1 = cc in omega arith)

-- a line that is due is refused by 2 or by 3
abbrev pub LineRefusal : Text → ℕ → Refusal → Type 0
LineRefusal t l e = (e ≡ NotDue t l) ⊎ (e ≡ OutOfRange t l)

module _ {A C : Type 0} (t : Text) (l : ℕ) (gs : List Range) (s : List ℕ) (next : Read (List ℤ) → Outcome A) (o : Outcome A) (bad : (e : Refusal) → LineRefusal t l e → o ≡ refused e → C) where
  ranged_cases : (zs : List ℤ) (j : ℕ) → and_then (ranged t l gs s (row zs j)) next ≡ o → (all_inside gs zs ≡ true → next (record { got = zs; rest = drop j s }) ≡ o → C) → C
  ranged_cases zs j e f = go (all_inside gs zs) refl e
    where
      go : (u : Bool) → all_inside gs zs ≡ u → and_then (elim u [ true ↦ value (record { got = zs; rest = drop j s }) | false ↦ refused (OutOfRange t l) ]) next ≡ o → C
      go true i w = f i w
      go false i w = bad (OutOfRange t l) (inr refl) (sym w)

module _ {A C : Type 0} (t : Text) (l : ℕ) (key : List ℕ) (gs : List Range) (s : List ℕ) (next : Read (List ℤ) → Outcome A) (o : Outcome A) where
  pub due_cases : and_then (due t l key gs s) next ≡ o → ((e : Refusal) → LineRefusal t l e → o ≡ refused e → C)
      → Every gs (λ zs. (r : List ℕ) → s ≡ line_text key zs ++ r → next (record { got = zs; rest = r }) ≡ o → C) → C
  due_cases e bad f = go (line_in key (length gs) s) refl e
    where
      go : (x : Row) → line_in key (length gs) s ≡ x → and_then (ranged t l gs s x) next ≡ o → C
      go misspelled q w = bad (NotDue t l) (inl refl) (sym w)
      go (row zs j) q w =
          let h = line_sound key (length gs) s zs j q in
          ranged_cases t l gs s next o bad zs j w λ i u.
          every_at gs zs (λ zs. (r : List ℕ) → s ≡ line_text key zs ++ r → next (record { got = zs; rest = r }) ≡ o → C) h.0 i f (drop j s) h.2 u

  -- the same for a line whose first number is k
  pub for_cases : (k : ℕ) → and_then (due_for t l key k gs s) next ≡ o → ((e : Refusal) → LineRefusal t l e → o ≡ refused e → C)
      → Every gs (λ zs. (r : List ℕ) → s ≡ line_text key (pos k ∷ zs) ++ r → next (record { got = zs; rest = r }) ≡ o → C) → C
  for_cases k e bad f = go (line_in key (suc (length gs)) s) refl e
    where
      go : (x : Row) → line_in key (suc (length gs)) s ≡ x → and_then (ranged_after t l k gs s x) next ≡ o → C
      go misspelled q w = bad (NotDue t l) (inl refl) (sym w)
      go (row [] j) q w = bad (NotDue t l) (inl refl) (sym w)
      go (row (y ∷ zs) j) q w = first (le_z y (pos k) && le_z (pos k) y) refl w
        where
          first : (u : Bool) → le_z y (pos k) && le_z (pos k) y ≡ u → and_then (elim u [ true ↦ ranged t l gs s (row zs j) | false ↦ refused (NotDue t l) ]) next ≡ o → C
          first false i u = bad (NotDue t l) (inl refl) (sym u)
          first true i u =
              let b : (le_z y (pos k) ≡ true) × (le_z (pos k) y ≡ true) = and_true (le_z y (pos k)) (le_z (pos k) y) i in
              let p : y ≡ pos k = omega (arith, whole) in
              let was = line_sound key (suc (length gs)) s (y ∷ zs) j q in
              let text = subst (λ (z : ℤ). s ≡ line_text key (z ∷ zs) ++ drop j s) p was.2 in
              ranged_cases t l gs s next o bad zs j u λ i u.
              every_at gs zs (λ zs. (r : List ℕ) → s ≡ line_text key (pos k ∷ zs) ++ r → next (record { got = zs; rest = r }) ≡ o → C) (omega (arith, was.0)) i f (drop j s) text u

-- ---- a line of one number

-- a number that is at least 0 is a natural number
pub natural_of : (z : ℤ) → pos 0 ≤ℤ z → pos (nat_abs z) ≡ z
natural_of (pos n) h = refl
natural_of (negsuc n) h = absurd (let w : ⊥ = omega (arith, whole) in w)

module _ {A C : Type 0} (t : Text) (l : ℕ) (key : List ℕ) (g : Range) (s : List ℕ) where
  pub number_cases : (next : Read ℤ → Outcome A) (o : Outcome A) → and_then (due_number t l key g s) next ≡ o → ((e : Refusal) → LineRefusal t l e → o ≡ refused e → C)
      → ((z : ℤ) → In g z → (r : List ℕ) → s ≡ line_text key (z ∷ []) ++ r → next (record { got = z; rest = r }) ≡ o → C) → C
  number_cases next o e bad f = due_cases t l key (g ∷ []) s _ o (sym (then_then (due t l key (g ∷ []) s) _ next) ∙ e) bad f

  pub natural_cases : pos 0 ≤ℤ g.from → (next : Read ℕ → Outcome A) (o : Outcome A) → and_then (due_natural t l key g s) next ≡ o → ((e : Refusal) → LineRefusal t l e → o ≡ refused e → C)
      → ((k : ℕ) → In g (pos k) → (r : List ℕ) → s ≡ line_text key (pos k ∷ []) ++ r → next (record { got = k; rest = r }) ≡ o → C) → C
  natural_cases b next o e bad f =
      number_cases _ o (sym (then_then (due_number t l key g s) _ next) ∙ e) bad λ z h r w u.
      let n : pos (nat_abs z) ≡ z = natural_of z (omega (arith, whole)) in
      f (nat_abs z) (rw n h) r (rw n w) u

-- ---- such lines are read

module _ (t : Text) (l : ℕ) (key : List ℕ) (gs : List Range) where
  pub due_complete : (zs : List ℤ) (r : List ℕ) → 1 ≤ length zs → InRanges gs zs → due t l key gs (line_text key zs ++ r) ≡ value (record { got = zs; rest = r })
  due_complete zs r p h =
      let w = inside_all gs zs h in
      rw (← w.0, line_complete key zs r p, ranged, w.1, drop-append_seam)

  pub for_complete : (k : ℕ) (zs : List ℤ) (r : List ℕ) → InRanges gs zs → due_for t l key k gs (line_text key (pos k ∷ zs) ++ r) ≡ value (record { got = zs; rest = r })
  for_complete k zs r h =
      let w = inside_all gs zs h in
      let p : pos k ≤ℤ pos k = omega (arith, whole) in
      rw (← w.0, line_complete key (pos k ∷ zs) r (omega arith), ranged_after, ranged, le_z_is p, w.1, drop-append_seam)

module _ (t : Text) (l : ℕ) (key : List ℕ) (g : Range) where
  pub number_complete : (z : ℤ) (r : List ℕ) → In g z → due_number t l key g (line_text key (z ∷ []) ++ r) ≡ value (record { got = z; rest = r })
  number_complete z r h = then_value _ (due_complete t l key (g ∷ []) (z ∷ []) r (omega arith) (h, tt))

  pub natural_complete : (k : ℕ) (r : List ℕ) → In g (pos k) → due_natural t l key g (line_text key (pos k ∷ []) ++ r) ≡ value (record { got = k; rest = r })
  natural_complete k r h = then_value _ (number_complete (pos k) r h)

-- ---- the end

pub ended_cases : {A C : Type 0} (t : Text) (l : ℕ) (a : A) (s : List ℕ) (o : Outcome A) → ended t l a s ≡ o → (o ≡ refused (BytesFollow t l) → C) → (s ≡ [] → value a ≡ o → C) → C
ended_cases t l a [] o e bad f = f refl e
ended_cases t l a (c ∷ s) o e bad f = bad (sym e)
