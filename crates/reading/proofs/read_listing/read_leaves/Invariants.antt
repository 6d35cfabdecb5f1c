-- The leaves' lines are read into the array: the parents of those below k stand there, and the lines left come to the same leaves (LinesTo).
use Rattle.std.proofs.Common.{◌+◌, get_or}
use Rattle.formats.specs.Reading.Listings.{due_leaf}
use Rattle.formats.specs.Inner.Readers.{ahead, SameText}
use Rattle.formats.specs.Inner.ListingReader.{leaves_in}
use Rattle.reading.specs.Inner.Vertices.{AtLineOf}
use Rattle.reading.proofs.Laws.ListingLines.{LinesTo}
use Rattle.reading.proofs.read_listing.read_leaves.Given as goal

abbrev pub invariant-loop-k : goal.invariant-loop-k
invariant-loop-k l = record {
  at_line : AtLineOf (l.k + 3) l.lines;
  same_text : SameText l.fn.lines l.lines;
  left : LinesTo (λ v. v.parent) (due_leaf l.n) (leaves_in l.n (ahead l.fn.lines)) (λ v. get_or l.parents v 0) 1 l.n (ahead l.lines) l.k;
}
