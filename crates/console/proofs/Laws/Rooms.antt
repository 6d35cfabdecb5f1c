-- The texts that the programs print have the room that their buffers give, and their parts are those that are put. Assumes nothing.
use Prim.Native.Nat.{ℕ, zero, suc, ◌+◌, ◌^◌, ◌≤◌, ◌<◌}
use mathlib.Core.Path.{◌≡◌, refl, ap}
use mathlib.Core.List.{List, [], ◌∷◌, ◌++◌, append_assoc}
use native.Mathlib.Omega.{arith}
use native.Mathlib.Nat.{zero-add}
use lib.ListN.{length, drop, length-append}
use lib.IntN.{pos}
use Rattle.quantities.specs.Ranges.{Within}
use Rattle.tree.specs.Limits.{slack_limit, wire_limit}
use Rattle.formats.specs.Bytes.{bytes, end_byte, comma}
use Rattle.formats.specs.Decimal.{show_nat, show}
use Rattle.formats.specs.Line.{line_text}
use Rattle.formats.specs.NetText.{wire_key}
use Rattle.formats.specs.ListingText.{slack_key}
use Rattle.formats.specs.Inner.Writing.{over, Puts}
use Rattle.formats.specs.declared.refusal.Refusal.{Refusal}
use Rattle.formats.specs.declared.refusal.Refusal.TheVariants.{TooLong, NotDue, OutOfRange, BytesFollow, Unreachable, TooShort, OtherCount, SinkParent, WrongChildren, NotReached, OtherSlack, OtherWire, FarPin, NotScored, NotASink, OnlySink}
use Rattle.formats.specs.declared.refusal.Told.{Told}
use Rattle.formats.proofs.Laws.Numbers.Decimal.{show_nat-length}
use Rattle.formats.proofs.Laws.Listings.ListingLengths.{line1_short}
use Rattle.formats.proofs.Laws.Listings.ListingWriting.{within_writable}
use Rattle.operations.specs.Answers.{Judgement}
use Rattle.console.specs.Words.{children_words, words, text_name, line_mark}
use Rattle.console.specs.Printing.{refused_key, best_key, refusal_text, measures_text, Prints, answer_room}
use Rattle.console.specs.Inner.Rooms.{words_room, mark_room, NamesFit}

-- ---- what stands at the start of a buffer

pub prints : (l s : List ℕ) (n : ℕ) (left : List ℕ) → Puts l 0 s n left → Prints l s n left
unfolding over
prints l s n left p = record { long = rw zero-add at p.0; left = rw zero-add at p.1 }

pub prints_nothing : (l : List ℕ) → Prints l [] 0 l
prints_nothing l = record { long = refl; left = refl }

-- so it is within the buffer
pub prints_within : (l s : List ℕ) (n : ℕ) (left : List ℕ) → Prints l s n left → n ≤ length left
prints_within l s n left p = omega (arith, p.long, ap length p.left, length-append s (drop (length s) l))

-- ---- numbers

-- any number of 64 bits
pub natural_short : (n : ℕ) → n < 2 ^ 64 → length (show_nat n) ≤ 20
natural_short n h = show_nat-length n 20 (omega arith) (omega arith)

-- ---- the line of a refusal

-- the parts that are put
abbrev pub field_text : ℕ → ℕ → List ℕ
field_text n stop = show_nat n ++ (stop ∷ [])

pub refusal_is : (t : Told) → refusal_text t ≡ refused_key ++ (field_text t.number comma ++ (field_text t.text comma ++ field_text t.line end_byte))
unfolding show
refusal_is t = simp append_assoc

pub refusal_short : (t : Told) → t.number < 2 ^ 64 → t.text < 2 ^ 64 → t.line < 2 ^ 64 → 0 + length (refused_key ++ (field_text t.number comma ++ (field_text t.text comma ++ field_text t.line end_byte))) ≤ answer_room
refusal_short t a b c =
    simp length-append (omega (arith, natural_short t.number a, natural_short t.text b, natural_short t.line c))

-- ---- the measures

pub measures_short : (j : Judgement) → Within slack_limit j.slack → j.wire ≤ wire_limit → Within slack_limit j.best → 0 + length (measures_text j) ≤ answer_room
measures_short j a b c =
    omega (
      arith,
      length-append (line_text slack_key (j.slack ∷ []) ++ line_text wire_key (pos j.wire ∷ [])) (line_text best_key (j.best ∷ [])),
      length-append (line_text slack_key (j.slack ∷ [])) (line_text wire_key (pos j.wire ∷ [])),
      line1_short slack_key j.slack (within_writable slack_limit j.slack (omega arith) a),
      line1_short wire_key (pos j.wire) (omega arith),
      line1_short best_key j.best (within_writable slack_limit j.best (omega arith) c),
    )

-- ---- a complaint

pub words_short : (e : Refusal) → length (words e) ≤ words_room
words_short (TooLong text) = omega arith
words_short (NotDue text line) = omega arith
words_short (OutOfRange text line) = omega arith
words_short (BytesFollow text line) = omega arith
words_short Unreachable = omega arith
words_short TooShort = omega arith
words_short OtherCount = omega arith
words_short (SinkParent line) = omega arith
words_short (WrongChildren zero) = omega arith
words_short (WrongChildren (suc line)) = omega arith
words_short (NotReached line) = omega arith
words_short OtherSlack = omega arith
words_short OtherWire = omega arith
words_short (FarPin line) = omega arith
words_short NotScored = omega arith
words_short NotASink = omega arith
words_short OnlySink = omega arith

-- a line that is meant, a branch point's words, and the name of a text that is neither output nor net
pub mark_is : (l : ℕ) → (l ≡ 0 → ⊥) → line_mark l ≡ bytes ":" ++ show_nat l
mark_is zero h = absurd (h refl)
mark_is (suc l) h = refl

pub children_is : (l : ℕ) → (l ≡ 0 → ⊥) → children_words l ≡ bytes "this branch point has not exactly two children"
children_is zero h = absurd (h refl)
children_is (suc l) h = refl

module _ (net listing : List ℕ) where
  pub name_is : (t : ℕ) → (t ≡ 0 → ⊥) → (t ≡ 1 → ⊥) → text_name net listing t ≡ listing
  name_is zero h g = absurd (h refl)
  name_is (suc zero) h g = absurd (g refl)
  name_is (suc (suc t)) h g = refl

  pub name_short : (t k : ℕ) (out : List ℕ) → NamesFit net listing k out → length (text_name net listing t) + k ≤ length out
  name_short zero k out h = h.0
  name_short (suc zero) k out h = h.1
  name_short (suc (suc t)) k out h = h.2

pub mark_short : (l : ℕ) → l < 2 ^ 64 → length (line_mark l) ≤ mark_room
mark_short zero h = omega arith
mark_short (suc l) h = rw length-append (omega (arith, natural_short (suc l) h))

-- the parts of a complaint, by what is told of the refusal
abbrev pub after_name : Told → Refusal → List ℕ
after_name t e = line_mark t.line ++ (bytes ": " ++ (words e ++ (end_byte ∷ [])))

abbrev pub complaint_by : List ℕ → List ℕ → Told → Refusal → List ℕ
complaint_by net listing t e = text_name net listing t.text ++ after_name t e

pub complaint_short : (net listing out : List ℕ) (t : Told) (e : Refusal) → t.line < 2 ^ 64 → NamesFit net listing 88 out → 0 + length (complaint_by net listing t e) ≤ length out
complaint_short net listing out t e h n =
    omega (
      arith,
      length-append (text_name net listing t.text) (after_name t e),
      length-append (line_mark t.line) (bytes ": " ++ (words e ++ (end_byte ∷ []))),
      length-append (words e) (end_byte ∷ []),
      name_short net listing t.text 88 out n,
      mark_short t.line h,
      words_short e,
    )
