-- A refused head is told at once; else the listing is accepted over the net or refused, and the sink goes. No loop.
use Rattle.std.proofs.Common.{◌≡◌, length, arith, refl, ap, subst, ◌∙◌}
use Rattle.std.proofs.lemmas.Result.{err_from_is_err_and}
use Rattle.tree.specs.Inner.Arrays.{net_of, weights_of}
use Rattle.formats.specs.Outcome.{refused}
use Rattle.formats.specs.Inner.ListingReader.{listing_held}
use Rattle.operations.specs.Inner.Acceptance.{accepted_over}
use Rattle.operations.proofs.Laws.AcceptedOver.{over_gives}
use Rattle.pin_deletion.specs.Deletions.{deletion_of}
use Rattle.pin_deletion.proofs.Laws.Deletions.{net_turned, over_turned, over_deleted, refused_answers, same_answers, outputs_are}
use Rattle.pin_deletion.proofs.Laws.AcceptedTree.{accepted_holds, accepted_slack}
use Rattle.pin_deletion.proofs.delete_pin.delete_pin.Goals as goal

pub returns-in_err-head : goal.returns-in_err-head
returns-in_err-head c =
    let a = c.args in
    let p = err_from_is_err_and c.from_residual.result c.from_residual.ensures.1 in
    let o = outputs_are a.net.now a.listing.now a.sink a.net_out.now a.listing_out.now _ _ _ (refused_answers a.net_out.now a.listing_out.now _ _ (net_turned a.net.now a.listing.now a.sink _ _ _ c.in_err-head.ensures)) in
    record { answer = rw (p.1, p.2) o.0; net = o.1; listing = o.2 }

pub returns-in_err-accept_over : goal.returns-in_err-accept_over
returns-in_err-accept_over c =
    let a = c.args in
    let r = c.from_residual-in_err-accept_over in
    let p = err_from_is_err_and r.result r.ensures.1 in
    let told = subst (λ t. refused c.in_err-accept_over.field-0.0 ≡ accepted_over t a.listing.now) c.in_ok-head.ensures.text_is c.in_err-accept_over.ensures.accepted in
    let o = outputs_are a.net.now a.listing.now a.sink a.net_out.now a.listing_out.now _ _ _ (refused_answers a.net_out.now a.listing_out.now _ _ (over_turned a.net.now a.listing.now a.sink _ _ _ told)) in
    record { answer = rw (p.1, p.2) o.0; net = o.1; listing = o.2 }

pub delete_sink-requires-clause-held : goal.delete_sink-requires-clause-held
delete_sink-requires-clause-held c =
    let head = c.in_ok-head.head in
    let l = c.accept_over.new in
    let k = c.accept_over.auto in
    let m = c.in_ok-accept_over in
    let few = c.in_ok-head.ensures.at_sinks.at_most in
    let given = over_gives _ c.args.listing.now (record { net = net_of head.header head.n l.xs l.ys l.required; weights = weights_of head.n l.weights }) (listing_held m.field-0.slack m.field-0.wire head.n l.parents l.xs l.ys) m.ensures.accepted in
    accepted_holds head.header head.n l.xs l.ys l.required l.xs l.ys l.parents c.args.listing.now m.field-0.slack m.field-0.wire (λ v l. refl) given.1 l.weights m.ensures.held.0 m.ensures.held.1 (omega (arith, k, few)) (omega (arith, k, few)) (omega (arith, k, few))

pub delete_sink-requires-clause-listed : goal.delete_sink-requires-clause-listed
delete_sink-requires-clause-listed c =
    let head = c.in_ok-head.head in
    let l = c.accept_over.new in
    let m = c.in_ok-accept_over in
    let given = over_gives _ c.args.listing.now (record { net = net_of head.header head.n l.xs l.ys l.required; weights = weights_of head.n l.weights }) (listing_held m.field-0.slack m.field-0.wire head.n l.parents l.xs l.ys) m.ensures.accepted in
    accepted_slack head.header head.n l.xs l.ys l.required l.xs l.ys l.parents c.args.listing.now m.field-0.slack m.field-0.wire (λ v l. refl) given.1

pub returns : goal.returns
returns c =
    let a = c.args in
    let head = c.in_ok-head.head in
    let l = c.accept_over.new in
    let m = c.in_ok-accept_over in
    let same = over_deleted _ a.listing.now a.sink (length a.net_out.now) (length a.listing_out.now) (record { net = net_of head.header head.n l.xs l.ys l.required; weights = weights_of head.n l.weights }) (listing_held m.field-0.slack m.field-0.wire head.n l.parents l.xs l.ys) m.ensures.accepted
    ∙ ap (λ t. deletion_of t a.listing.now a.sink (length a.net_out.now) (length a.listing_out.now)) c.in_ok-head.ensures.text_is in
    let o = outputs_are a.net.now a.listing.now a.sink a.net_out.now a.listing_out.now _ _ _ (same_answers a.net_out.now a.listing_out.now _ _ _ _ _ same c.delete_sink.ensures) in
    record { answer = o.0; net = o.1; listing = o.2 }
