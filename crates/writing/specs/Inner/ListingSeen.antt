-- The listing that a view lends. Definitions alone.
use Rattle.formats.specs.ListingText.{Listing}
use Rattle.formats.specs.Inner.ListingReader.{listing_held}
use Rattle.writing.specs.declared.listing_view.ListingView.{ListingView}

abbrev pub listing_seen : ListingView → Listing
listing_seen v = listing_held v.slack v.wire v.n v.parents.now v.xs.now v.ys.now
