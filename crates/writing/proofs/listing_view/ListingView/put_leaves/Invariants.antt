-- The lines of the sinks below k are put (Putting).
use Rattle.formats.specs.ListingText.{leaf_text}
use Rattle.formats.proofs.Laws.Listings.ListingWriting.{Putting}
use Rattle.writing.specs.Inner.ListingSeen.{listing_seen}
use Rattle.writing.proofs.listing_view.ListingView.put_leaves.Given as goal

abbrev pub invariant-loop-k : goal.invariant-loop-k
invariant-loop-k l = Putting (leaf_text (listing_seen l.self).tree.parents) 1 l.self.n l.fn.out l.at l.k l.next l.out
