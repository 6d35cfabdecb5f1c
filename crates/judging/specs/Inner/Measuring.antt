-- What is answered of a listing that judge accepts, without the net's Kraft maximum. Definitions alone.
use Rattle.std.specs.Prelude.{Result, Ok, Err}
use Rattle.tree.specs.declared.measures.Measures.{Measures}
use Rattle.formats.specs.Outcome.{Outcome, value, refused}
use Rattle.formats.specs.declared.refusal.Refusal.{Refusal}
use Rattle.operations.specs.Answers.{Judgement}

-- slack and wire of what judge accepts, else its refusal
abbrev pub measures_answer : Outcome Judgement → Result Measures Refusal
measures_answer (value j) = Ok (record { slack = record { 0 = j.slack }; wire = record { 0 = j.wire } })
measures_answer (refused e) = Err e
