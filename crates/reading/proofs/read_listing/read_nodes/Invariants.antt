-- The nodes' lines are read into the arrays: those below k stand there, the lines left come to the same nodes (LinesTo), and up to n all is kept.
use Rattle.std.proofs.Common.{◌+◌, ◌-◌, suc, pos}
use Rattle.formats.specs.Reading.Listings.{due_node}
use Rattle.formats.specs.Inner.Readers.{ahead, SameText}
use Rattle.formats.specs.Inner.ListingReader.{nodes_in, vertex_held}
use Rattle.reading.specs.Inner.Vertices.{AtLineOf}
use Rattle.reading.proofs.Laws.ListingLines.{LinesTo, Kept}
use Rattle.reading.proofs.read_listing.read_nodes.Given as goal

abbrev pub invariant-loop-k : goal.invariant-loop-k
invariant-loop-k l = record {
  at_line : AtLineOf (l.k + 3) l.lines;
  same_text : SameText l.fn.lines l.lines;
  parents_kept : Kept 0 l.n l.fn.parents l.parents;
  xs_kept : Kept (pos 0) l.n l.fn.xs l.xs;
  ys_kept : Kept (pos 0) l.n l.fn.ys l.ys;
  left : LinesTo (λ v. v) (due_node l.n) (nodes_in l.n (ahead l.fn.lines)) (vertex_held l.parents l.xs l.ys) (suc l.n) (l.n - 1) (ahead l.lines) l.k;
}
