-- The loop: at most the whole text is read, and fewer than 1,000 reads were interrupted; each turn reads some bytes or is one more that was. What stands in the
-- text so far is what the reader has given.
use Rattle.std.proofs.Common.{length, take, ◌-◌, ◌≤◌, ◌≡◌, ◌+◌, ◌<◌}
use Rattle.std.specs.Io.KnownBytes.{Consumes}
use Rattle.console.proofs.stream.read_text.Given as goal

abbrev pub invariant-loop-at : goal.invariant-loop-at
invariant-loop-at g l = (l.at ≤ length l.text) × (l.interrupted < 1_000) × (length l.text ≡ length l.initial.text) × Consumes (g.R.Read.remaining l.initial.input) (g.R.Read.remaining l.input) (take l.at l.text)

abbrev pub decreases-loop-at : goal.decreases-loop-at
decreases-loop-at g l = (length l.text - l.at) + (1_000 - l.interrupted)
