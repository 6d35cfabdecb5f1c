-- A row is read number by number: those read, before what is left, come to the answer of the whole row (RowSoFar).
use Rattle.formats.proofs.Laws.Lines.Rows.{RowSoFar}
use Rattle.formats.proofs.scan.row_at.Given as goal

abbrev pub invariant-loop-k : goal.invariant-loop-k
invariant-loop-k g l = RowSoFar g.row.K l.text l.at l.numbers l.here l.k
