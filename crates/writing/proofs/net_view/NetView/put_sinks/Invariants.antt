-- The lines of the sinks below k are put (Putting).
use Rattle.formats.proofs.Laws.Listings.ListingWriting.{Putting}
use Rattle.writing.specs.Inner.NetSeen.{sink_seen_line}
use Rattle.writing.proofs.net_view.NetView.put_sinks.Given as goal

abbrev pub invariant-loop-k : goal.invariant-loop-k
invariant-loop-k l = Putting (sink_seen_line l.self) 1 l.self.n l.fn.out l.at l.k l.next l.out
