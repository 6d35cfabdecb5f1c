-- The best of the sinks below u (LargestAt), and what the worst slack is after its split.
use Rattle.std.proofs.Common.{◌≡◌, ◌-◌}
use Rattle.judging.specs.Inner.SinkSplits.{LargestAt, worst_if_split}
use Rattle.judging.proofs.kraft.Slacks.roomiest_sink.Given as goal

abbrev pub invariant-loop-u : goal.invariant-loop-u
invariant-loop-u l =
    LargestAt (worst_if_split l.self.worst.0 l.self.branch.0 l.self.slacks.now) (l.u - 1) l.best.sink
    × (l.best.worst.0 ≡ worst_if_split l.self.worst.0 l.self.branch.0 l.self.slacks.now l.best.sink)
