-- Lines one after another: an outcome that is a refusal exactly for their fault, put together from the steps of the lines. Assumes nothing.
use Prim.Native.Nat.{ℕ, suc, ◌≤◌}
use mathlib.Core.Path.{◌≡◌, refl, sym, ap, ap₂, subst, ◌∙◌}
use mathlib.Core.List.{List, [], ◌∷◌}
use lib.ListN.{length}
use lib.IntN.{ℤ}
use Rattle.formats.specs.Outcome.{Outcome, value, refused, and_then}
use Rattle.formats.specs.Reading.Lines.{Read, ended}
use Rattle.formats.specs.Faults.{DueLine, Good, LineFault, Lines, end, line, Fault, here, later, follow}
use Rattle.formats.specs.declared.refusal.Text.{Text}
use Rattle.formats.specs.declared.refusal.Refusal.{Refusal}
use Rattle.formats.specs.declared.refusal.Refusal.TheVariants.{BytesFollow}
use Rattle.formats.proofs.Laws.Lines.DueTexts.{never}
use Rattle.formats.proofs.Laws.Lines.Outcomes.{same_refusal}
use Rattle.formats.proofs.Laws.Faults.LineFaults.{spelled_one, good_fault, fault_one}
use Rattle.formats.proofs.Laws.Faults.Steps.{Tried, wrong, right}

-- o is a refusal exactly for the fault of s, where the lines L are due from line l on
pub record Told {A : Type 0} (t : Text) (L : Lines) (l : ℕ) (s : List ℕ) (o : Outcome A) : Type 0 where
  pub sound : (e : Refusal) → o ≡ refused e → Fault t L l s e
  pub complete : (e : Refusal) → Fault t L l s e → o ≡ refused e

-- the number of the line, and the outcome, may be written otherwise
pub relined : {A : Type 0} {t : Text} {L : Lines} {l k : ℕ} {s : List ℕ} {o : Outcome A} → l ≡ k → Told t L l s o → Told t L k s o
relined {t = t} {L = L} {s = s} {o = o} p h = subst (λ (j : ℕ). Told t L j s o) p h

pub retold : {A : Type 0} {t : Text} {L : Lines} {l : ℕ} {s : List ℕ} {o u : Outcome A} → o ≡ u → Told t L l s u → Told t L l s o
retold {t = t} {L = L} {l = l} {s = s} p h = subst (λ o. Told t L l s o) (sym p) h

-- ---- one line, and those after it

module _ {A B : Type 0} (t : Text) (l : ℕ) (d : DueLine) (s : List ℕ) (least : 1 ≤ length d.ranges) (f : List ℤ → A) (L : List ℤ → Lines) (next : Read A → Outcome B) where
  wrong_told : (e : Refusal) → LineFault t l d s e → Told {A = B} t (line d L) l s (refused e)
  wrong_told e w = record { sound = found; complete = only }
    where
      found : (g : Refusal) → ◌≡◌ {A = Outcome B} (refused e) (refused g) → Fault t (line d L) l s g
      found g u = subst (Fault t (line d L) l s) (same_refusal {A = B} e g u) (here w)

      only : (g : Refusal) → Fault t (line d L) l s g → ◌≡◌ {A = Outcome B} (refused e) (refused g)
      only g (here v) = ap (λ e. refused e) (fault_one t l d s least e g w v)
      only g (later zs r h m) = good_fault t l d s least e zs r h w

  right_told : ((zs : List ℤ) (r : List ℕ) → Good l d s zs r → Told t (L zs) (suc l) r (next (record { got = f zs; rest = r })))
      → (zs : List ℤ) (r : List ℕ) → Good l d s zs r → Told t (line d L) l s (next (record { got = f zs; rest = r }))
  right_told told zs r g = record { sound = λ e u. later zs r g ((told zs r g).sound e u); complete = only }
    where
      only : (e : Refusal) → Fault t (line d L) l s e → next (record { got = f zs; rest = r }) ≡ refused e
      only e (here w) = good_fault t l d s least e zs r g w
      only e (later ys q h m) =
          let w = spelled_one d s zs ys r q least g.spelled h.spelled in
          ap₂ (λ zs r. next (record { got = f zs; rest = r })) w.0 w.1 ∙ (told ys q h).complete e m

  pub then_told : (o : Outcome (Read A)) → Tried t l d s f o → ((zs : List ℤ) (r : List ℕ) → Good l d s zs r → Told t (L zs) (suc l) r (next (record { got = f zs; rest = r }))) → Told t (line d L) l s (and_then o next)
  then_told o (wrong {e} w) told = wrong_told e w
  then_told o (right zs r g) told = right_told told zs r g

-- ---- the end

pub ended_told : {A B : Type 0} (t : Text) (l : ℕ) (a : A) (s : List ℕ) (f : A → B) → Told t end l s (and_then (ended t l a s) (λ a. value (f a)))
ended_told {B = B} t l a [] f = record { sound = λ e u. never (f a) e u; complete = only }
  where
    only : (e : Refusal) → Fault t end l [] e → ◌≡◌ {A = Outcome B} (value (f a)) (refused e)
    only e h = elim h [ ]
ended_told {B = B} t l a (b ∷ s) f = record { sound = found; complete = only }
  where
    found : (e : Refusal) → ◌≡◌ {A = Outcome B} (refused (BytesFollow t l)) (refused e) → Fault t end l (b ∷ s) e
    found e u = subst (Fault t end l (b ∷ s)) (same_refusal {A = B} (BytesFollow t l) e u) follow

    only : (e : Refusal) → Fault t end l (b ∷ s) e → ◌≡◌ {A = Outcome B} (refused (BytesFollow t l)) (refused e)
    only e follow = refl
