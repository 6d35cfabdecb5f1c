-- Whether a listing has room: where the longest one has, every one has; else this one is counted. No loop.
use Rattle.std.proofs.Common.{arith, sym, ◌∙◌}
use borrow.Author.Tests.{le-leb}
use Rattle.formats.proofs.Laws.TextLengths.{listing_short}
use Rattle.operations.proofs.emit.has_room.Goals as goal

pub returns-then-room-ge-LISTING_LENGTH_LIMIT : goal.returns-then-room-ge-LISTING_LENGTH_LIMIT
returns-then-room-ge-LISTING_LENGTH_LIMIT c =
    let l = c.args.listing in
    le-leb _ c.args.room c.if-room-ge-LISTING_LENGTH_LIMIT.true ∙ sym (le-leb _ c.args.room (omega (arith, listing_short l.n _ l.in_range, c.if-room-ge-LISTING_LENGTH_LIMIT.true)))
