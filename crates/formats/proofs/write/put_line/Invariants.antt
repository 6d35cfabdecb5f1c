-- The key and the first k numbers are put, each number with the byte after it.
use Rattle.std.proofs.Common.{◌++◌}
use Rattle.formats.specs.Inner.Writing.{Puts}
use Rattle.formats.proofs.Laws.Writing.{row_front}
use Rattle.formats.proofs.write.put_line.Given as goal

abbrev pub invariant-loop-k : goal.invariant-loop-k
invariant-loop-k g l = Puts l.fn.out l.at (l.key ++ row_front l.values l.k) l.next l.out
