-- Laws of a line. Soundness: a row or a line that is read stands there as its text, and counts that many bytes. Completeness: every text of a row or a line is
-- read as its numbers, whatever follows. So a text begins with at most one line of a key and a count.
use Prim.Native.Nat.{ℕ, zero, suc, ◌+◌, ◌*◌, ◌^◌, ◌<◌, ◌≤◌}
use mathlib.Core.Path.{◌≡◌, refl, ap, ◌∙◌}
use mathlib.Core.Logic.{⊎_elim}
use mathlib.Core.Bool.{Bool, true, false, false≢true}
use mathlib.Core.List.{List, [], ◌∷◌, ◌++◌, append_assoc}
use lib.ListN.{length, get_or, drop, length-append, get_or-eq_default}
use lib.Seq.{drop-drop, drop-cons, drop-append_seam, get_or_at}
use lib.Dec.{eqb}
use lib.IntN.{ℤ, nat_abs}
use native.Mathlib.Omega.{arith}
use borrow.Author.Tests.{eq-eqb, eqb-true}
use Rattle.formats.specs.Decimal.{show}
use Rattle.formats.specs.Reading.Numbers.{is_digit, Field, spelt, misspelt, field, signed, is_negative}
use Rattle.formats.specs.Bytes.{end_byte, comma}
use Rattle.formats.specs.Line.{row_text, line_text}
use Rattle.formats.specs.Reading.Rows.{stop_by, number_then, Row, row, misspelled, prepend, last, first, row_in, begins, line_in}
use Rattle.formats.proofs.Laws.Numbers.Decimal.{lt_or_le, field_sound, field_complete, signed_abs, show_length}

-- ---- a key

pub begins_sound : (key s : List ℕ) → begins key s ≡ true → s ≡ key ++ drop (length key) s
unfolding begins
begins_sound [] s e = refl
begins_sound (k ∷ key) [] e = absurd (false≢true e)
begins_sound (k ∷ key) (b ∷ s) e = go (eqb b k) refl (begins_sound key s)
  where
    go : (t : Bool) → eqb b k ≡ t → (begins key s ≡ true → s ≡ key ++ drop (length key) s) → b ∷ s ≡ k ∷ (key ++ drop (length key) s)
    go true q ih =
        let w : s ≡ key ++ drop (length key) s = ih (rw (begins, q) at e) in
        let p : b ≡ k = eqb-true b k q in
        cc
    go false q ih = absurd (false≢true (rw (begins, q) at e))

pub begins_complete : (key r : List ℕ) → begins key (key ++ r) ≡ true
unfolding begins
begins_complete [] r = refl
begins_complete (k ∷ key) r = rw (begins, eq-eqb k k refl) (begins_complete key r)

-- ---- a number and the byte after it

-- past the end of a text stands 0, which is no stop
inside : (s : List ℕ) (i stop : ℕ) → 0 < stop → get_or s i 0 ≡ stop → i < length s
inside s i stop p g = ⊎_elim (λ h. h) (λ h. absurd (omega (arith, get_or-eq_default s 0 h))) (lt_or_le i (length s))

-- a number that is read with its stop
abbrev Stopped : ℕ → List ℕ → Field → Type 0
Stopped stop s (spelt neg v k) = (k ≡ suc (length (show (signed neg v)))) × (s ≡ show (signed neg v) ++ (stop ∷ drop k s))
Stopped stop s misspelt = Unit {0}

stopped : (stop : ℕ) (s : List ℕ) → 0 < stop → (x : Field) → field s ≡ x → Stopped stop s (stop_by stop s x)
stopped stop s p misspelt f = tt
stopped stop s p (spelt neg v k) f = go (eqb (get_or s k 0) stop) refl
  where
    go : (t : Bool) → eqb (get_or s k 0) stop ≡ t → Stopped stop s (stop_by stop s (spelt neg v k))
    go false q = rw q tt
    go true q =
        let g : get_or s k 0 ≡ stop = eqb-true (get_or s k 0) stop q in
        let h : k < length s = inside s k stop p g in
        let w = field_sound s neg v k f in
        let d : drop k s ≡ stop ∷ drop (suc k) s = rw g at (drop-cons s k 0 h) in
        rw q (ap suc w.1, rw d at w.0)

number_then_right : (stop : ℕ) (s : List ℕ) → 0 < stop → Stopped stop s (number_then stop s)
unfolding number_then
number_then_right stop s p = stopped stop s p (field s) refl

pub number_then_complete : (stop : ℕ) (z : ℤ) (r : List ℕ) → is_digit stop ≡ false → number_then stop (show z ++ (stop ∷ r)) ≡ spelt (is_negative z) (nat_abs z) (suc (length (show z)))
unfolding number_then
number_then_complete stop z r d =
    rw (number_then, field_complete z (stop ∷ r) d, get_or_at (show z) stop r 0 (length (show z)) refl, eq-eqb stop stop refl)

-- ---- a row

abbrev Right : ℕ → List ℕ → Row → Type 0
Right k s (row zs j) = (length zs ≡ k) × (j ≡ length (row_text zs)) × (s ≡ row_text zs ++ drop j s)
Right k s misspelled = Unit {0}

last_right : (s : List ℕ) (x : Field) → Stopped end_byte s x → Right 1 s (last x)
last_right s misspelt h = tt
last_right s (spelt neg v k) h = (refl, simp length-append (omega arith), rw append_assoc h.1)

first_right : (k : ℕ) (s : List ℕ) (x : Field) → Stopped comma s x → ((j : ℕ) → Right (suc k) (drop j s) (row_in (suc k) (drop j s))) → Right (suc (suc k)) s (first x (λ j. row_in (suc k) (drop j s)))
first_right k s misspelt h ih = tt
first_right k s (spelt neg v j) h ih = go (row_in (suc k) (drop j s)) (ih j)
  where
    go : (y : Row) → Right (suc k) (drop j s) y → Right (suc (suc k)) s (prepend (signed neg v) j y)
    go misspelled w = tt
    go (row [] i) w = absurd (omega (arith, w.0))
    go (row (y ∷ l) i) w =
        let d : drop j s ≡ row_text (y ∷ l) ++ drop (j + i) s = rw drop-drop at w.2 in
        (ap suc w.0, simp length-append (omega arith), rw append_assoc (rw d at h.1))

row_right : (k : ℕ) (s : List ℕ) → Right k s (row_in k s)
unfolding row_in
row_right zero s = tt
row_right (suc zero) s = last_right s (number_then end_byte s) (number_then_right end_byte s (omega arith))
row_right (suc (suc k)) s = first_right k s (number_then comma s) (number_then_right comma s (omega arith)) (λ j. row_right (suc k) (drop j s))

pub row_sound : (k : ℕ) (s : List ℕ) (zs : List ℤ) (j : ℕ) → row_in k s ≡ row zs j → (length zs ≡ k) × (j ≡ length (row_text zs)) × (s ≡ row_text zs ++ drop j s)
row_sound k s zs j e = rw e at (row_right k s)

row_in_one : (s : List ℕ) → row_in 1 s ≡ last (number_then end_byte s)
unfolding row_in
row_in_one s = refl

row_in_more : (k : ℕ) (s : List ℕ) → row_in (suc (suc k)) s ≡ first (number_then comma s) (λ j. row_in (suc k) (drop j s))
unfolding row_in
row_in_more k s = refl

past_stop : (a : List ℕ) (b : ℕ) (t : List ℕ) → drop (suc (length a)) (a ++ (b ∷ t)) ≡ t
past_stop [] b t = refl
past_stop (x ∷ a) b t = past_stop a b t

pub row_complete : (zs : List ℤ) (r : List ℕ) → 1 ≤ length zs → row_in (length zs) (row_text zs ++ r) ≡ row zs (length (row_text zs))
row_complete [] r h = absurd (omega arith)
row_complete (z ∷ []) r h =
    rw (row_in_one, append_assoc, number_then_complete end_byte z r refl, signed_abs z, length-append) (ap (row (z ∷ [])) (omega arith))
row_complete (z ∷ (y ∷ l)) r h =
    let more : row_in (suc (length l)) (row_text (y ∷ l) ++ r) ≡ row (y ∷ l) (length (row_text (y ∷ l))) = row_complete (y ∷ l) r (omega arith) in
    let text : row_text (z ∷ (y ∷ l)) ++ r ≡ show z ++ (comma ∷ (row_text (y ∷ l) ++ r)) = append_assoc (show z) (comma ∷ row_text (y ∷ l)) r in
    row_in_more (length l) (row_text (z ∷ (y ∷ l)) ++ r)
    ∙ rw (text, number_then_complete comma z (row_text (y ∷ l) ++ r) refl, signed_abs z, past_stop (show z) comma (row_text (y ∷ l) ++ r), more, length-append)
    (ap (row (z ∷ (y ∷ l))) (omega arith))

-- ---- a line

pub line_sound : (key : List ℕ) (k : ℕ) (s : List ℕ) (zs : List ℤ) (j : ℕ) → line_in key k s ≡ row zs j → (length zs ≡ k) × (j ≡ length (line_text key zs)) × (s ≡ line_text key zs ++ drop j s)
unfolding line_in
line_sound key k s zs j e = go (begins key s) refl (row_in k (drop (length key) s)) refl
  where
    go : (t : Bool) → begins key s ≡ t → (x : Row) → row_in k (drop (length key) s) ≡ x → (length zs ≡ k) × (j ≡ length (line_text key zs)) × (s ≡ line_text key zs ++ drop j s)
    go false b x f = absurd (let u : misspelled ≡ row zs j = rw (line_in, b) at e in let z : ◌≡◌ {A = ℕ} 0 1 = cc in omega arith)
    go true b misspelled f = absurd (let u : misspelled ≡ row zs j = rw (line_in, b, f) at e in let z : ◌≡◌ {A = ℕ} 0 1 = cc in omega arith)
    go true b (row ys i) f =
        let u : row ys (length key + i) ≡ row zs j = rw (line_in, b, f) at e in
        let p : ys ≡ zs = cc in
        let q : length key + i ≡ j = cc in
        let w = rw p at (row_sound k (drop (length key) s) ys i f) in
        let d : drop (length key) s ≡ row_text zs ++ drop j s = rw (drop-drop, q) at w.2 in
        (w.0, simp length-append (omega arith), rw append_assoc (rw d at (begins_sound key s b)))

pub line_complete : (key : List ℕ) (zs : List ℤ) (r : List ℕ) → 1 ≤ length zs → line_in key (length zs) (line_text key zs ++ r) ≡ row zs (length (line_text key zs))
unfolding line_in
line_complete key zs r h =
    rw (line_in, append_assoc, begins_complete key (row_text zs ++ r), drop-append_seam, row_complete zs r h, length-append)

row_some : (zs : List ℤ) → 1 ≤ length (row_text zs)
row_some [] = omega arith
row_some (z ∷ []) = simp length-append (omega arith)
row_some (z ∷ (y ∷ l)) = simp length-append (omega arith)

-- a line that is read is not empty, and stands in the text whole
pub line_progress : (key : List ℕ) (k : ℕ) (s : List ℕ) (zs : List ℤ) (j : ℕ) → line_in key k s ≡ row zs j → (0 < j) × (j ≤ length s)
line_progress key k s zs j e =
    let w = line_sound key k s zs j e in
    (omega (arith, w.1, row_some zs, length-append key (row_text zs)), omega (arith, w.1, length-append (line_text key zs) (drop j s), ap length w.2))

-- ---- lengths

abbrev pub Below : ℕ → List ℤ → Type 0
Below k [] = Unit {0}
Below k (z ∷ zs) = (nat_abs z < 10 ^ k) × Below k zs

-- a number below 10^k takes its sign, k digits and the byte after it
pub row_length : (k : ℕ) (zs : List ℤ) → 1 ≤ k → 1 ≤ length zs → Below k zs → length (row_text zs) ≤ length zs * (k + 2)
row_length k [] p q h = absurd (omega arith)
row_length k (z ∷ []) p q h = rw length-append (omega (arith, show_length z k h.0 p))
row_length k (z ∷ (y ∷ l)) p q h =
    let more : length (row_text (y ∷ l)) ≤ suc (length l) * (k + 2) = row_length k (y ∷ l) p (omega arith) h.1 in
    rw length-append (omega (arith, show_length z k h.0 p))
