-- What reading a text comes to: a result, or the refusal that is told. Definitions alone.
use Rattle.formats.specs.declared.refusal.Refusal.{Refusal}

-- a result, or the refusal
pub data Outcome (A : Type 0) : Type 0 where
  value : A → Outcome A
  refused : Refusal → Outcome A

-- the first refusal is the one that is told
abbrev pub and_then : {A B : Type 0} → Outcome A → (A → Outcome B) → Outcome B
and_then (value a) next = next a
and_then (refused e) next = refused e
