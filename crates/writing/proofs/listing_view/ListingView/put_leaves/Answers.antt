-- Each line fits behind those that are put, and goes there.
use Rattle.std.proofs.Common.{arith}
use Rattle.formats.proofs.Laws.Listings.ListingWriting.{putting_starts, putting_ends, line_fits, putting_more}
use Rattle.writing.proofs.listing_view.ListingView.put_leaves.Goals as goal

pub loop-k-init : goal.loop-k-init
loop-k-init c = putting_starts _ _ _ _ _

pub put_leaf-next-requires : goal.put_leaf-next-requires
put_leaf-next-requires c = record {
  inside = (c.loop-k.invariant.from, omega arith);
  room = line_fits _ _ _ _ _ c.requires _ _ _ c.loop-k.invariant (omega arith);
}

pub loop-k-preserved : goal.loop-k-preserved
loop-k-preserved c = putting_more _ _ _ _ _ c.requires _ _ _ c.loop-k.invariant (omega arith) _ _ c.put_leaf-next.ensures

pub returns : goal.returns
returns c = putting_ends _ _ _ _ _ _ _ _ c.loop-k.invariant (omega arith)
