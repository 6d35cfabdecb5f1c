-- What stands in the buffers after plan or judge has answered is what the programs print. Assumes nothing.
use Rattle.std.specs.Prelude.{ℕ, ◌≡◌, List, [], length, Ok, Err}
use Rattle.std.proofs.Common.{sym, subst, arith}
use Rattle.formats.specs.Outcome.{Outcome, value, refused}
use Rattle.formats.specs.Refusals.{told}
use Rattle.formats.specs.declared.refusal.Refusal.{Refusal}
use Rattle.operations.specs.Answers.{Written, bytes_of, overwritten, plan_answer, Judgement, judge_answer}
use Rattle.operations.specs.declared.answers.Planned.{Planned}
use Rattle.operations.specs.declared.answers.Judged.{Judged}
use Rattle.console.specs.Words.{complaint}
use Rattle.console.specs.Printing.{refusal_text, measures_text, plan_printed, judge_printed, plan_complaint, judge_complaint, Prints}
use Rattle.console.proofs.Laws.Rooms.{prints_nothing}

-- an answer is not of the other kind
never : {A C : Type 0} (a : A) (e : Refusal) → Ok a ≡ Err e → C
never a e h = absurd (let z : ◌≡◌ {A = ℕ} 0 1 = cc in omega arith)

-- plan has answered, and left `out` as `left`
module _ (name out left err : List ℕ) where
  pub planned_prints : (o : Outcome Written) → left ≡ overwritten (bytes_of o) out → (p : Planned) → Ok p ≡ plan_answer o
      → Prints out (plan_printed o) p.bytes left × Prints err (plan_complaint name o) 0 err
  planned_prints (value w) f p e = let n : p.bytes ≡ length w.bytes = cc in (record { long = n; left = f }, prints_nothing err)
  planned_prints (refused x) f p e = never p x e

  pub unplanned_prints : (o : Outcome Written) → left ≡ overwritten (bytes_of o) out → (e : Refusal) → Err e ≡ plan_answer o
      → (n m : ℕ) (out' err' : List ℕ) → Prints left (refusal_text (told e)) n out' → Prints err (complaint name [] e) m err'
      → Prints out (plan_printed o) n out' × Prints err (plan_complaint name o) m err'
  unplanned_prints (value w) f e h n m out' err' p q = never _ e (sym h)
  unplanned_prints (refused x) f e h n m out' err' p q =
      let s : e ≡ x = cc in
      (subst (λ (y : Refusal). Prints out (refusal_text (told y)) n out') s (subst (λ (l : List ℕ). Prints l (refusal_text (told e)) n out') f p), subst (λ (y : Refusal). Prints err (complaint name [] y) m err') s q)

module _ (net listing out err : List ℕ) where
  pub judged_prints : (o : Outcome Judgement) (j : Judged) → Ok j ≡ judge_answer o
      → (n : ℕ) (out' : List ℕ) → Prints out (measures_text (record { slack = j.slack.0; wire = j.wire.0; best = j.best.0 })) n out'
      → Prints out (judge_printed o) n out' × Prints err (judge_complaint net listing o) 0 err
  judged_prints (value k) j e n out' p =
      let s : j ≡ record { slack = record { 0 = k.slack }; wire = record { 0 = k.wire }; best = record { 0 = k.best } } = cc in
      (subst (λ (i : Judged). Prints out (measures_text (record { slack = i.slack.0; wire = i.wire.0; best = i.best.0 })) n out') s p, prints_nothing err)
  judged_prints (refused x) j e n out' p = never j x e

  pub unjudged_prints : (o : Outcome Judgement) (e : Refusal) → Err e ≡ judge_answer o
      → (n m : ℕ) (out' err' : List ℕ) → Prints out (refusal_text (told e)) n out' → Prints err (complaint net listing e) m err'
      → Prints out (judge_printed o) n out' × Prints err (judge_complaint net listing o) m err'
  unjudged_prints (value k) e h n m out' err' p q = never _ e (sym h)
  unjudged_prints (refused x) e h n m out' err' p q =
      let s : e ≡ x = cc in
      (subst (λ (y : Refusal). Prints out (refusal_text (told y)) n out') s p, subst (λ (y : Refusal). Prints err (complaint net listing y) m err') s q)
