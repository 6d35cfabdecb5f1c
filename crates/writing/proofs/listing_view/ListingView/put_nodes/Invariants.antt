-- The lines of the branch points below k are put (Putting).
use Rattle.std.proofs.Common.{suc, ◌-◌}
use Rattle.formats.specs.ListingText.{node_text}
use Rattle.formats.proofs.Laws.Listings.ListingWriting.{Putting}
use Rattle.writing.specs.Inner.ListingSeen.{listing_seen}
use Rattle.writing.proofs.listing_view.ListingView.put_nodes.Given as goal

abbrev pub invariant-loop-k : goal.invariant-loop-k
invariant-loop-k l = Putting (node_text l.self.n (listing_seen l.self).tree) (suc l.self.n) (l.self.n - 1) l.fn.out l.at l.k l.next l.out
