-- How an outcome ends: refused, with P of the refusal, or with a value of which G holds. Such a fact follows the steps of a reader, one by one. Assumes nothing.
use Prim.Native.Nat.{ℕ}
use mathlib.Core.Path.{◌≡◌, refl, sym, subst}
use mathlib.Core.List.{List, [], ◌∷◌, ◌++◌}
use lib.IntN.{pos}
use lib.Signed.{◌≤ℤ◌}
use Rattle.formats.specs.Line.{line_text}
use Rattle.formats.specs.Outcome.{Outcome, value, refused, and_then}
use Rattle.formats.specs.Reading.Lines.{due_number, due_natural, ended}
use Rattle.formats.specs.declared.ranges.Range.{Range}
use Rattle.formats.specs.declared.refusal.Text.{Text}
use Rattle.formats.specs.declared.refusal.Refusal.{Refusal}
use Rattle.formats.specs.declared.refusal.Refusal.TheVariants.{BytesFollow}
use Rattle.formats.proofs.Laws.Lines.DueTexts.{In, LineRefusal, number_cases, natural_cases}

pub data Ends {A : Type 0} (P : Refusal → Type 0) (G : A → Type 0) : Outcome A → Type 0 where
  stops : {e : Refusal} → P e → Ends P G (refused e)
  goes : {a : A} → G a → Ends P G (value a)

-- the same by cases
abbrev EndsIn : {A : Type 0} → (Refusal → Type 0) → (A → Type 0) → Outcome A → Type 0
EndsIn P G (value a) = G a
EndsIn P G (refused e) = P e

module _ {A : Type 0} {P : Refusal → Type 0} {G : A → Type 0} where
  ends_in : {o : Outcome A} → Ends P G o → EndsIn P G o
  ends_in (stops p) = p
  ends_in (goes g) = g

  pub ends_value : {o : Outcome A} {a : A} → Ends P G o → o ≡ value a → G a
  ends_value h e = subst (EndsIn P G) e (ends_in h)

  pub ends_refused : {o : Outcome A} {e : Refusal} → Ends P G o → o ≡ refused e → P e
  ends_refused h e = subst (EndsIn P G) e (ends_in h)

pub ends_then : {A B : Type 0} {P Q : Refusal → Type 0} {G : A → Type 0} {H : B → Type 0} {o : Outcome A} (next : A → Outcome B)
    → Ends P G o → ((e : Refusal) → P e → Q e) → ((a : A) → G a → Ends Q H (next a)) → Ends Q H (and_then o next)
ends_then next (stops {e} p) f g = stops (f e p)
ends_then next (goes {a} h) f g = g a h

-- ---- a line of one number, and the text's end

then_itself : {A : Type 0} (o : Outcome A) → and_then o value ≡ o
then_itself (value a) = refl
then_itself (refused e) = refl

module _ (t : Text) (l : ℕ) (key : List ℕ) (g : Range) (s : List ℕ) where
  pub number_ends : Ends (LineRefusal t l) (λ r. In g r.got × (s ≡ line_text key (r.got ∷ []) ++ r.rest)) (due_number t l key g s)
  number_ends =
      number_cases t l key g s value (due_number t l key g s) (then_itself (due_number t l key g s))
      (λ e b u. subst (Ends _ _) (sym u) (stops b))
      λ z h r w u. subst (Ends _ _) u (goes (h, w))

  pub natural_ends : pos 0 ≤ℤ g.from → Ends (LineRefusal t l) (λ r. In g (pos r.got) × (s ≡ line_text key (pos r.got ∷ []) ++ r.rest)) (due_natural t l key g s)
  natural_ends p =
      natural_cases t l key g s p value (due_natural t l key g s) (then_itself (due_natural t l key g s))
      (λ e b u. subst (Ends _ _) (sym u) (stops b))
      λ k h r w u. subst (Ends _ _) u (goes (h, w))

pub ended_ends : {A : Type 0} {P : Refusal → Type 0} {G : A → Type 0} (t : Text) (l : ℕ) (a : A) (s : List ℕ) → P (BytesFollow t l) → (s ≡ [] → G a) → Ends P G (ended t l a s)
ended_ends t l a [] p f = goes (f refl)
ended_ends t l a (c ∷ s) p f = stops p
