-- Every refusal has a number from 1 on, and is the only one of which the same is told. Assumes nothing.
use Prim.Native.Nat.{ℕ, zero, suc, ◌-◌, ◌≤◌}
use mathlib.Core.List.{List, [], ◌∷◌}
use lib.ListN.{get_or}
use mathlib.Core.Path.{◌≡◌, refl, ap, sym, ◌∙◌}
use native.Mathlib.Omega.{arith}
use Rattle.formats.specs.Refusals.{text_number, told}
use Rattle.formats.specs.declared.refusal.Text.{Text}
use Rattle.formats.specs.declared.refusal.Text.TheVariants.{InNet, InListing}
use Rattle.formats.specs.declared.refusal.Refusal.{Refusal}
use Rattle.formats.specs.declared.refusal.Refusal.TheVariants.{TooLong, NotDue, OutOfRange, BytesFollow, Unreachable, TooShort, OtherCount, SinkParent, WrongChildren, NotReached, OtherSlack, OtherWire, FarPin, NotScored, NotASink, OnlySink}
use Rattle.formats.specs.declared.refusal.Told.{Told}

pub numbered : (e : Refusal) → 1 ≤ (told e).number
numbered (TooLong text) = omega arith
numbered (NotDue text line) = omega arith
numbered (OutOfRange text line) = omega arith
numbered (BytesFollow text line) = omega arith
numbered Unreachable = omega arith
numbered TooShort = omega arith
numbered OtherCount = omega arith
numbered (SinkParent line) = omega arith
numbered (WrongChildren line) = omega arith
numbered (NotReached line) = omega arith
numbered OtherSlack = omega arith
numbered OtherWire = omega arith
numbered (FarPin line) = omega arith
numbered NotScored = omega arith
numbered NotASink = omega arith
numbered OnlySink = omega arith

-- ---- the refusal from what is told of it

abbrev text_of : ℕ → Text
text_of zero = InNet
text_of (suc zero) = InNet
text_of (suc (suc n)) = InListing

-- one for each number from 1 on
abbrev refusals : ℕ → ℕ → List Refusal
refusals text line =
    TooLong (text_of text)
    ∷ (NotDue (text_of text) line
    ∷ (OutOfRange (text_of text) line
    ∷ (BytesFollow (text_of text) line
    ∷ (Unreachable
    ∷ (TooShort
    ∷ (OtherCount
    ∷ (SinkParent line
    ∷ (WrongChildren line
    ∷ (NotReached line
    ∷ (OtherSlack
    ∷ (OtherWire
    ∷ (FarPin line
    ∷ (NotScored
    ∷ (NotASink
    ∷ (OnlySink
    ∷ [])))))))))))))))

abbrev refusal_of : Told → Refusal
refusal_of t = get_or (refusals t.text t.line) (t.number - 1) Unreachable

text_back : (t : Text) → text_of (text_number t) ≡ t
text_back InNet = refl
text_back InListing = refl

told_back : (e : Refusal) → refusal_of (told e) ≡ e
told_back (TooLong text) = ap TooLong (text_back text)
told_back (NotDue text line) = ap (λ t. NotDue t line) (text_back text)
told_back (OutOfRange text line) = ap (λ t. OutOfRange t line) (text_back text)
told_back (BytesFollow text line) = ap (λ t. BytesFollow t line) (text_back text)
told_back Unreachable = refl
told_back TooShort = refl
told_back OtherCount = refl
told_back (SinkParent line) = refl
told_back (WrongChildren line) = refl
told_back (NotReached line) = refl
told_back OtherSlack = refl
told_back OtherWire = refl
told_back (FarPin line) = refl
told_back NotScored = refl
told_back NotASink = refl
told_back OnlySink = refl

pub told_one : (e f : Refusal) → told e ≡ told f → e ≡ f
told_one e f q = sym (told_back e) ∙ ap refusal_of q ∙ told_back f
