-- The root goes to place 0, then the sinks' lines are read into the arrays: those below s stand there, and the lines left come to the same net (Sinking).
use Rattle.formats.specs.Inner.Readers.{ahead}
use Rattle.reading.proofs.Laws.SinkLines.{Sinking}
use Rattle.reading.proofs.read_net.read_rest.Given as goal

abbrev pub invariant-loop-s : goal.invariant-loop-s
invariant-loop-s l = Sinking l.fn.head.root l.fn.head.n (ahead l.fn.head.sinks) l.fn.head.root l.xs l.ys l.required l.weights l.lines l.s
