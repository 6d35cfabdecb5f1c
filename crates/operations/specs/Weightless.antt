-- 02, request 7: "The first two plans ignore weights", and judge does, as a statement about bytes: two texts of one net, whatever the weights on them, get the same answers. (Of the second plan short_tree says it.)
use Rattle.std.specs.Prelude.{ℕ, ◌≡◌, List}
use Rattle.tree.specs.Net.{Net}
use Rattle.formats.specs.NetText.{InFormat}
use Rattle.operations.specs.Answers.{plan_of, plan_output, judge_of}

pub record Weightless : Type 0 where
  pub plan : (net other : List ℕ) (N : Net) → InFormat net N → InFormat other N → (room : ℕ) → plan_of other room ≡ plan_of net room
  pub output : (net other : List ℕ) (N : Net) → InFormat net N → InFormat other N → (out : List ℕ) → plan_output other out ≡ plan_output net out
  pub judge : (net other : List ℕ) (N : Net) → InFormat net N → InFormat other N → (listing : List ℕ) → judge_of other listing ≡ judge_of net listing
