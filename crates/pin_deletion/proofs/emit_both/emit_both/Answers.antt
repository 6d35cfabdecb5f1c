-- Both texts go out where both have room, else neither does. No loop.
use mathlib.Core.Path.{sym, ◌∙◌}
use borrow.Author.Tests.{leb-true, leb-false}
use Rattle.pin_deletion.specs.Inner.Answers.{texts_held}
use Rattle.pin_deletion.proofs.Laws.Deletions.{net_short, listing_short, both_fit_lem, refused_answers, written_answers}
use Rattle.pin_deletion.proofs.emit_both.emit_both.Goals as goal

pub returns-then-not-has_net_room : goal.returns-then-not-has_net_room
returns-then-not-has_net_room c =
    let a = c.args in
    refused_answers a.net_out.now a.listing_out.now _ _
    (net_short (texts_held a.header a.measures a.n a.parents.now a.xs.now a.ys.now a.required.now a.weights.now) _ _ (leb-false _ _ (sym c.has_net_room.ensures ∙ c.if-not-has_net_room.true)))

pub returns-then-not-has_room : goal.returns-then-not-has_room
returns-then-not-has_room c =
    let a = c.args in
    refused_answers a.net_out.now a.listing_out.now _ _
    (listing_short (texts_held a.header a.measures a.n a.parents.now a.xs.now a.ys.now a.required.now a.weights.now) _ _ (leb-true _ _ (sym c.has_net_room.ensures ∙ c.if-not-has_net_room.false)) (leb-false _ _ (sym c.has_room.ensures ∙ c.if-not-has_room.true)))

pub returns : goal.returns
returns c =
    let a = c.args in
    written_answers a.net_out.now a.listing_out.now _ (texts_held a.header a.measures a.n a.parents.now a.xs.now a.ys.now a.required.now a.weights.now)
    (both_fit_lem (texts_held a.header a.measures a.n a.parents.now a.xs.now a.ys.now a.required.now a.weights.now) _ _ (leb-true _ _ (sym c.has_net_room.ensures ∙ c.if-not-has_net_room.false)) (leb-true _ _ (sym c.has_room.ensures ∙ c.if-not-has_room.false)))
    _ _ _ _ c.write-net_bytes.ensures c.write-listing_bytes.ensures
