-- The slacks and the worst slack are those with the first k + 1 sinks in (Kept).
use Rattle.std.proofs.Common.{◌≡◌, length}
use Rattle.tree.specs.Net.{Net}
use Rattle.tree.specs.SmallestSlack.{sinks_in}
use Rattle.judging.specs.Inner.SinkSplits.{SinksReady, Kept}
use Rattle.judging.proofs.kraft.worst_of_all.Given as goal

abbrev pub invariant-loop-k : goal.invariant-loop-k
invariant-loop-k l = (length l.slacks ≡ length l.fn.slacks) × ((N : Net) → SinksReady N l.branch.0 l.n l.own l.sinks → Kept N (sinks_in N l.k) l.slacks l.worst.0)
