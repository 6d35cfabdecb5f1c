-- The length of a listing: the sum of its three parts, which is no more than that of the longest listing.
use Rattle.std.proofs.Common.{arith}
use Rattle.formats.proofs.Laws.Listings.ListingLengths.{listing_parts}
use Rattle.writing.specs.Inner.ListingSeen.{listing_seen}
use Rattle.writing.proofs.Laws.ListingLines.{seen_short}
use Rattle.writing.proofs.listing_view.ListingView.length.Goals as goal

pub overflow_add-result : goal.overflow_add-result
overflow_add-result c = omega (arith, c.head_length.ensures, c.leaves_length.ensures, seen_short c.args.self)

pub overflow_add-result-2 : goal.overflow_add-result-2
overflow_add-result-2 c = omega (arith, c.head_length.ensures, c.leaves_length.ensures, c.nodes_length.ensures, seen_short c.args.self)

pub returns : goal.returns
returns c = omega (arith, c.head_length.ensures, c.leaves_length.ensures, c.nodes_length.ensures, listing_parts c.args.self.n (listing_seen c.args.self))
