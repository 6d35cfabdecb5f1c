-- Each sink's slack takes the place of what is spent: the sinks below s have their slacks, and from s on the array is as it was.
use Rattle.std.proofs.Common.{◌≡◌, ℕ, ◌≤◌, ◌<◌, ◌-ℤ◌}
use Rattle.tree.specs.Inner.Measuring.{slack_at}
use Rattle.tree.proofs.measure.sink_slacks.Given as goal

abbrev pub invariant-loop-s : goal.invariant-loop-s
invariant-loop-s l = record {
  done : (k : ℕ) → 1 ≤ k → k < l.s → slack_at l.slacks k ≡ slack_at l.required k -ℤ slack_at l.initial.slacks k;
  left : (k : ℕ) → l.s ≤ k → slack_at l.slacks k ≡ slack_at l.initial.slacks k;
}
