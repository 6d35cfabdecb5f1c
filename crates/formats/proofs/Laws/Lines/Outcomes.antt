-- Outcomes, step after step. Assumes nothing.
use mathlib.Core.Path.{◌≡◌, refl, ap}
use Rattle.formats.specs.Outcome.{Outcome, value, refused, and_then}
use Rattle.formats.specs.Reading.Lines.{Read, reading}
use Rattle.formats.specs.declared.refusal.Refusal.{Refusal}

pub then_then : {A B C : Type 0} (o : Outcome A) (f : A → Outcome B) (g : B → Outcome C) → and_then (and_then o f) g ≡ and_then o (λ a. and_then (f a) g)
then_then (value a) f g = refl
then_then (refused e) f g = refl

pub then_value : {A B : Type 0} {o : Outcome A} {a : A} (f : A → Outcome B) → o ≡ value a → and_then o f ≡ f a
then_value f e = ap (λ o. and_then o f) e

pub then_refused : {A B : Type 0} {o : Outcome A} {e : Refusal} (f : A → Outcome B) → o ≡ refused e → and_then o f ≡ refused e
then_refused f e = ap (λ o. and_then o f) e

pub same_refusal : {A : Type 0} (e f : Refusal) → ◌≡◌ {A = Outcome A} (refused e) (refused f) → e ≡ f
same_refusal e f h = cc

pub reading_id : {A : Type 0} (o : Outcome (Read A)) → reading (λ a. a) o ≡ o
reading_id (value r) = refl
reading_id (refused e) = refl

pub reading_reading : {A B C : Type 0} (f : A → B) (g : B → C) (o : Outcome (Read A)) → reading g (reading f o) ≡ reading (λ a. g (f a)) o
reading_reading f g (value r) = refl
reading_reading f g (refused e) = refl
