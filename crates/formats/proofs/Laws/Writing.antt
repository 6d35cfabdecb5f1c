-- Laws of the writer: what is put after what was put is put with it, and a store puts one byte.
use Prim.Native.Nat.{ℕ, zero, suc, ◌+◌, ◌-◌, ◌<◌, ◌≤◌}
use mathlib.Core.Path.{◌≡◌, refl, ap, sym, ◌∙◌}
use mathlib.Core.Bool.{false}
use mathlib.Core.List.{List, [], ◌∷◌, ◌++◌, append_assoc, append-nil}
use lib.ListN.{length, take, drop, get_or, set, length-append, length-drop, take-append-drop}
use lib.Seq.{length-take-le, take_at, drop_at, drop-drop, drop-append-add, get_or-drop, sets-eq}
use lib.IntN.{ℤ, pos, nat_abs}
use native.Mathlib.Omega.{arith}
use native.Mathlib.Nat.{add-zero}
use borrow.Rule.Slice.PartMut.{put_mid}
use mir.Syntax.{w64}
use mir.Facts.{to_z-of_z}
use Rattle.quantities.specs.Inner.Linear.{whole, nat_abs_is, rd}
use Rattle.formats.specs.Decimal.{show}
use Rattle.formats.specs.Reading.Numbers.{is_digit, spelt, field, is_negative}
use Rattle.formats.specs.Bytes.{end_byte, comma}
use Rattle.formats.specs.Line.{row_text, line_text}
use Rattle.formats.specs.Inner.Writing.{over, Puts, Writable, one_then}
use Rattle.formats.proofs.Laws.Numbers.Decimal.{field_complete}

module _ (l : List ℕ) (at : ℕ) where
  front : (s : List ℕ) → at ≤ length l → length (take at l ++ s) ≡ at + length s
  front s h = rw (length-append, length-take-le at l h)

  pub length_over : (s : List ℕ) → at + length s ≤ length l → length (over l at s) ≡ length l
  unfolding over
  length_over s h =
      let w : at ≤ length l = omega arith in
      simp (length-append, length-take-le at l w, length-drop) (omega arith)

  pub over_nil : over l at [] ≡ l
  unfolding over
  over_nil = rw (append-nil, add-zero, take-append-drop)

  -- what stands before, and what is read from there on
  pub take_over : (s : List ℕ) → at ≤ length l → take (at + length s) (over l at s) ≡ take at l ++ s
  unfolding over
  take_over s h = take_at (take at l ++ s) (drop (at + length s) l) (at + length s) (front s h)

  pub drop_over : (s : List ℕ) → at ≤ length l → drop at (over l at s) ≡ s ++ drop (at + length s) l
  unfolding over
  drop_over s h = rw append_assoc (drop_at (take at l) (s ++ drop (at + length s) l) at (length-take-le at l h))

  pub over_over : (s t : List ℕ) → at ≤ length l → over (over l at s) (at + length s) t ≡ over l at (s ++ t)
  unfolding over
  over_over s t h =
      let f : length (take at l ++ s) ≡ at + length s = front s h in
      let head : take (at + length s) (over l at s) ≡ take at l ++ s = take_over s h in
      let tail : drop (at + length s + length t) (take at l ++ s ++ drop (at + length s) l) ≡ drop (at + length s + length t) l =
      rw (← f) (drop-append-add (take at l ++ s) (drop (length (take at l ++ s)) l) (length t) ∙ drop-drop (length t) (length (take at l ++ s)) l) in
      let n : at + length (s ++ t) ≡ at + length s + length t = rw length-append (omega arith) in
      rw (over, over, head, tail, over, n) (simp append_assoc)

-- a store puts one byte
pub over_one : (l : List ℕ) (at b : ℕ) → at < length l → set l at b ≡ over l at (b ∷ [])
unfolding over
over_one l at b h = sets-eq (b ∷ []) l at (omega arith)

-- a copy to the part of l at `at`
pub over_part : (l : List ℕ) (at : ℕ) (s : List ℕ) → put_mid at (at + length s - at) l s ≡ over l at s
unfolding over
over_part l at s =
    let e : at + length s - at ≡ length s = omega arith in
    rw (e, drop-drop (length s) at l) (sym (append_assoc (take at l) s (drop (at + length s) l)))

-- ---- s, and then t after it

module _ (l : List ℕ) (at : ℕ) (s t : List ℕ) (fits : at + length (s ++ t) ≤ length l) where
  pub fits_first : at + length s ≤ length l
  fits_first = omega (arith, length-append s t)

  module _ (mid : ℕ) (k : List ℕ) (first : Puts l at s mid k) where
    pub fits_next : mid + length t ≤ length k
    fits_next = rw (first.0, first.1, length_over l at s fits_first) (omega (arith, length-append s t))

    pub puts_both : (end : ℕ) (j : List ℕ) → Puts k mid t end j → Puts l at (s ++ t) end j
    puts_both end j next =
        let e : end ≡ at + length s + length t = rw first.0 at next.0 in
        let o : j ≡ over (over l at s) (at + length s) t = rw (first.0, first.1) at next.1 in
        (rw length-append (omega arith), o ∙ over_over l at s t (omega (arith, fits_first)))

-- ---- a row, number by number

-- the byte after a number: a comma where another number follows
abbrev stop_before : List ℤ → ℕ
stop_before [] = end_byte
stop_before (z ∷ l) = comma

-- the first k numbers of a row, each with the byte after it
unfoldable pub row_front : List ℤ → ℕ → List ℕ
row_front [] k = []
row_front (z ∷ l) zero = []
row_front (z ∷ l) (suc k) = one_then z (stop_before l) ++ row_front l k

pub row_none : (l : List ℤ) → row_front l 0 ≡ []
unfolding row_front
row_none [] = refl
row_none (z ∷ l) = refl

pub row_all : (l : List ℤ) → 1 ≤ length l → row_front l (length l) ≡ row_text l
unfolding row_front
row_all [] h = absurd (omega arith)
row_all (z ∷ []) h = append-nil (one_then z end_byte)
row_all (z ∷ (y ∷ l)) h = append_assoc (show z) (comma ∷ []) (row_front (y ∷ l) (length (y ∷ l))) ∙ ap (λ r. show z ++ (comma ∷ r)) (row_all (y ∷ l) (omega arith))

pub row_le : (l : List ℤ) (k : ℕ) → length (row_front l k) ≤ length (row_text l)
unfolding row_front
row_le [] k = omega arith
row_le (z ∷ l) zero = omega arith
row_le (z ∷ []) (suc k) = simp length-append (omega arith)
row_le (z ∷ (y ∷ l)) (suc k) = simp length-append (omega (arith, row_le (y ∷ l) k))

-- a number more: one before the last, or the last
pub row_more : (l : List ℤ) (k : ℕ) → suc k < length l → row_front l (suc k) ≡ row_front l k ++ one_then (get_or l k (pos 0)) comma
unfolding row_front
row_more [] k h = absurd (omega arith)
row_more (z ∷ []) k h = absurd (omega arith)
row_more (z ∷ (y ∷ l)) zero h = append-nil (one_then z comma)
row_more (z ∷ (y ∷ l)) (suc k) h = ap (◌++◌ (one_then z comma)) (row_more (y ∷ l) k (omega arith)) ∙ sym (append_assoc (one_then z comma) _ _)

pub row_last : (l : List ℤ) (k : ℕ) → suc k ≡ length l → row_front l (suc k) ≡ row_front l k ++ one_then (get_or l k (pos 0)) end_byte
unfolding row_front
row_last [] k h = absurd (omega arith)
row_last (z ∷ []) zero h = append-nil (one_then z end_byte)
row_last (z ∷ []) (suc k) h = absurd (omega arith)
row_last (z ∷ (y ∷ l)) zero h = absurd (omega arith)
row_last (z ∷ (y ∷ l)) (suc k) h = ap (◌++◌ (one_then z comma)) (row_last (y ∷ l) k (omega arith)) ∙ sym (append_assoc (one_then z comma) _ _)

-- the number at k and `stop` are put after the key and the first k
module _ (l : List ℕ) (at : ℕ) (key : List ℕ) (zs : List ℤ) (k stop : ℕ) (more : row_front zs (k + 1) ≡ row_front zs k ++ one_then (get_or zs k (pos 0)) stop) (fits : at + length (line_text key zs) ≤ length l) (next : ℕ) (out : List ℕ) (done : Puts l at (key ++ row_front zs k) next out) where
  number : List ℕ
  number = one_then (get_or zs k (pos 0)) stop

  number_room : at + length ((key ++ row_front zs k) ++ number) ≤ length l
  unfolding number
  number_room = rw (append_assoc key (row_front zs k) number, ← more) (omega (arith, row_le zs (k + 1), length-append key (row_front zs (k + 1)), length-append key (row_text zs)))

  pub number_fits : next + length (one_then (get_or zs k (pos 0)) stop) ≤ length out
  unfolding number
  number_fits = fits_next l at (key ++ row_front zs k) number number_room next out done

  pub number_put : (end : ℕ) (left : List ℕ) → Puts out next (one_then (get_or zs k (pos 0)) stop) end left → Puts l at (key ++ row_front zs (k + 1)) end left
  unfolding number
  number_put end left p = rw (more, ← append_assoc key (row_front zs k) number) (puts_both l at (key ++ row_front zs k) number number_room next out done end left p)

-- no number of a line is changed on its way through 64 bits
pub writable_back : (z : ℤ) → Writable z → rd z ≡ z
writable_back z h = to_z-of_z {w = w64} (omega (arith, whole, nat_abs_is z))

-- ---- there and back

-- a number that was put is read, where no digit stands after it
pub number_back : (l : List ℕ) (at : ℕ) (z : ℤ) → at ≤ length l → is_digit (get_or l (at + length (show z)) 0) ≡ false → field (drop at (over l at (show z))) ≡ spelt (is_negative z) (nat_abs z) (length (show z))
number_back l at z h d =
    let e : get_or (drop (at + length (show z)) l) 0 0 ≡ get_or l (at + length (show z)) 0 = get_or-drop (at + length (show z)) l 0 0 ∙ ap (λ (i : ℕ). get_or l i 0) (add-zero (at + length (show z))) in
    rw (drop_over l at (show z) h) (field_complete z (drop (at + length (show z)) l) (ap is_digit e ∙ d))
