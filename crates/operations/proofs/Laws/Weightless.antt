-- The first plan and judge answer alike on all texts of one net: they read the net and not its weights. Assumes nothing.
use Prim.Native.Nat.{ℕ}
use mathlib.Core.Path.{◌≡◌, sym, ap, ◌∙◌}
use mathlib.Core.List.{List}
use lib.ListN.{length}
use Rattle.tree.specs.Net.{Net}
use Rattle.formats.specs.Outcome.{and_then}
use Rattle.formats.specs.NetText.{InFormat}
use Rattle.formats.proofs.Laws.Nets.NetTexts.{net_complete}
use Rattle.operations.specs.Answers.{plan_net, plan_of, plan_output, bytes_of, overwritten, judge_of}
use Rattle.operations.specs.Weightless.{Weightless}
use Rattle.operations.proofs.Laws.Judging.{judge_read}

module _ (net other : List ℕ) (N : Net) (f : InFormat net N) (g : InFormat other N) where
  plan_same : (room : ℕ) → plan_of other room ≡ plan_of net room
  unfolding plan_of
  plan_same room = ap (λ o. and_then o (λ N. plan_net N room)) (net_complete other N g ∙ sym (net_complete net N f))

  output_same : (out : List ℕ) → plan_output other out ≡ plan_output net out
  unfolding plan_output
  output_same out = ap (λ o. overwritten (bytes_of o) out) (plan_same (length out))

  judge_same : (listing : List ℕ) → judge_of other listing ≡ judge_of net listing
  judge_same listing = judge_read other N (net_complete other N g) listing ∙ sym (judge_read net N (net_complete net N f) listing)

pub weightless : Weightless
weightless = record { plan = plan_same; output = output_same; judge = judge_same }
