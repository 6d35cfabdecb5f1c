-- The listing goes out where it has room, else nothing does. No loop.
use Rattle.std.proofs.Common.{refl, sym, ◌∙◌}
use borrow.Author.Tests.{leb-true, leb-false}
use Rattle.writing.specs.Inner.ListingSeen.{listing_seen}
use Rattle.operations.proofs.Laws.Planning.{no_room, written_in_place}
use Rattle.operations.proofs.emit.emit.Goals as goal

pub returns-then-not-has_room : goal.returns-then-not-has_room
returns-then-not-has_room c =
    let l = c.args.listing in
    let none = no_room l.n (listing_seen l) c.args.out.now (leb-false _ _ (sym c.has_room.ensures ∙ c.if-not-has_room.true)) in
    record { answer = none.0; output = none.1 }

pub write-bytes-requires : goal.write-bytes-requires
write-bytes-requires c = leb-true _ _ (sym c.has_room.ensures ∙ c.if-not-has_room.false)

pub returns : goal.returns
returns c =
    let l = c.args.listing in
    let written = written_in_place l.n (listing_seen l) c.args.out.now _ _ l.slack l.wire refl refl c.write-bytes.ensures (leb-true _ _ (sym c.has_room.ensures ∙ c.if-not-has_room.false)) in
    record { answer = written.0; output = written.1 }
