-- The sinks are read into the arrays or refused; then the listing is accepted or refused over the net. No loop.
use Rattle.std.proofs.Common.{◌*◌, ◌≤◌, length, arith}
use Rattle.std.proofs.lemmas.Result.{err_from_is_err_and}
use Rattle.formats.proofs.Laws.Held.{kept_holds}
use Rattle.operations.proofs.Laws.HeadsRead.{weights_refused, weights_read, net_held, weights_held}
use Rattle.operations.proofs.Laws.AcceptedOver.{over_refused, over_read, on_accepted}
use Rattle.operations.proofs.accept.accept_over.Goals as goal

pub returns-in_err-read_rest-clause-accepted : goal.returns-in_err-read_rest-clause-accepted
returns-in_err-read_rest-clause-accepted c =
    let p = err_from_is_err_and c.from_residual.result c.from_residual.ensures.1 in
    let l = c.read_rest.new in
    rw (p.1, p.2) (over_refused _ _ _ (weights_refused _ _ c.args.head c.requires.head l.xs l.ys l.required l.weights _ c.in_err-read_rest.ensures))

pub returns-in_err-read_rest-clause-held : goal.returns-in_err-read_rest-clause-held
returns-in_err-read_rest-clause-held c =
    let p = err_from_is_err_and c.from_residual.result c.from_residual.ensures.1 in
    rw p.1 tt

pub accept-requires-clause-holds_net : goal.accept-requires-clause-holds_net
accept-requires-clause-holds_net c =
    let r = c.read_rest in
    let l = r.new in
    let p = c.requires.has_places in (
      net_held _ _ c.args.head c.requires.head l.xs l.ys l.required l.weights _ c.in_ok-read_rest.ensures (omega (arith, r.auto, p.0)) (omega (arith, r.auto, p.0)) (omega (arith, r.auto, p.0)),
      (p.1.0, omega (arith, r.auto, p.1), omega (arith, r.auto, p.1)),
    )

pub returns-clause-accepted : goal.returns-clause-accepted
returns-clause-accepted c =
    let head = c.args.head in
    let l = c.read_rest.new in
    let a = c.accept in
    over_read _ _ head.header head.n l.xs l.ys l.required l.weights a.new.xs a.new.ys a.new.parents a.result (weights_read _ _ head c.requires.head l.xs l.ys l.required l.weights _ c.in_ok-read_rest.ensures) a.ensures.kept a.ensures.accepted

pub returns-clause-held : goal.returns-clause-held
returns-clause-held c =
    let head = c.args.head in
    let r = c.read_rest in
    let l = r.new in
    let a = c.accept in
    let p = c.requires.has_places in
    let held = net_held _ _ head c.requires.head l.xs l.ys l.required l.weights _ c.in_ok-read_rest.ensures (omega (arith, r.auto, p.0)) (omega (arith, r.auto, p.0)) (omega (arith, r.auto, p.0)) in
    let xs_long : 2 * head.n ≤ length a.new.xs = omega (arith, r.auto, a.auto, p.1) in
    let ys_long : 2 * head.n ≤ length a.new.ys = omega (arith, r.auto, a.auto, p.1) in
    on_accepted a.result (
      kept_holds head.header head.n l.xs l.ys l.required a.new.xs a.new.ys a.ensures.kept held xs_long ys_long,
      weights_held _ _ head c.requires.head l.xs l.ys l.required l.weights _ c.in_ok-read_rest.ensures (omega (arith, r.auto, p.0)),
    )
