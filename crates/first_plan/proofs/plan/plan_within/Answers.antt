-- The sinks are read into the arrays or refused; the net is planned, and refused where its slack is less than what is needed; else its listing goes out. No loop.
use Rattle.std.proofs.Common.{true, false, arith, sym, ◌∙◌}
use Rattle.std.proofs.lemmas.Result.{err_from_is_err_and}
use Rattle.tree.specs.Inner.Arrays.{net_of}
use Rattle.tree.proofs.Laws.Arrays.NetAndTree.{size_is}
use Rattle.formats.specs.Inner.ListingReader.{listing_held}
use Rattle.operations.proofs.Laws.HeadsRead.{sinks_refused, sinks_read, net_held}
use Rattle.operations.proofs.Laws.Planning.{refused_answer, planned_in_range, unreachable, reachable, less_says}
use Rattle.first_plan.proofs.plan.plan_within.Goals as goal

pub returns-in_err-read_rest-clause-answer : goal.returns-in_err-read_rest-clause-answer
returns-in_err-read_rest-clause-answer g c =
    let p = err_from_is_err_and c.from_residual.result c.from_residual.ensures.1 in
    let l = c.read_rest.new in
    rw (p.1, p.2) (refused_answer _ c.args.out.now _ (sinks_refused _ _ c.args.head c.requires.head l.xs l.ys l.required l.weights _ c.in_err-read_rest.ensures)).0

pub returns-in_err-read_rest-clause-output : goal.returns-in_err-read_rest-clause-output
returns-in_err-read_rest-clause-output g c =
    let l = c.read_rest.new in
    (refused_answer _ _ _ (sinks_refused _ _ c.args.head c.requires.head l.xs l.ys l.required l.weights _ c.in_err-read_rest.ensures)).1

pub plan-measures-requires-clause-holds_net : goal.plan-measures-requires-clause-holds_net
plan-measures-requires-clause-holds_net g c =
    let l = c.read_rest.new in
    net_held _ _ c.args.head c.requires.head l.xs l.ys l.required l.weights _ c.in_ok-read_rest.ensures (omega (arith, c.read_rest.auto, c.requires.room)) (omega (arith, c.read_rest.auto, c.requires.room)) (omega (arith, c.read_rest.auto, c.requires.room))

pub returns-then-lt : goal.returns-then-lt
returns-then-lt g c =
    let head = c.args.head in
    let l = c.read_rest.new in
    let m = c.plan-measures.result in
    let p = c.plan-measures.new in
    let e = c.plan-measures.ensures in
    let u = unreachable (net_of head.header head.n l.xs l.ys l.required) head.n (listing_held m.slack m.wire head.n p.parents p.xs p.ys) (size_is head.header head.n l.xs l.ys l.required) (λ i. record { slack = e.worst i; wire = e.wire i; tree = e.tree i })
    _ (sinks_read _ _ head c.requires.head l.xs l.ys l.required l.weights _ c.in_ok-read_rest.ensures) c.args.out.now (less_says m.slack.0 head.header.need.0 true (sym c.lt.ensures ∙ c.if-lt.true)) in
    record { answer = u.0; output = u.1 }

pub invariant_of-listing : goal.invariant_of-listing
invariant_of-listing g c =
    let head = c.args.head in
    let l = c.read_rest.new in
    let m = c.plan-measures.result in
    let p = c.plan-measures.new in
    let e = c.plan-measures.ensures in
    let held = net_held _ _ head c.requires.head l.xs l.ys l.required l.weights _ c.in_ok-read_rest.ensures (omega (arith, c.read_rest.auto, c.requires.room)) (omega (arith, c.read_rest.auto, c.requires.room)) (omega (arith, c.read_rest.auto, c.requires.room)) in
    record {
      in_range = planned_in_range (net_of head.header head.n l.xs l.ys l.required) head.n (listing_held m.slack m.wire head.n p.parents p.xs p.ys) (size_is head.header head.n l.xs l.ys l.required) (λ i. record { slack = e.worst i; wire = e.wire i; tree = e.tree i }) held.in_range;
      has_vertices = (omega (arith, c.plan-measures.auto, c.requires.room), omega (arith, c.plan-measures.auto, c.read_rest.auto, c.requires.room), omega (arith, c.plan-measures.auto, c.read_rest.auto, c.requires.room));
    }

pub returns : goal.returns
returns g c =
    let head = c.args.head in
    let l = c.read_rest.new in
    let m = c.plan-measures.result in
    let p = c.plan-measures.new in
    let e = c.plan-measures.ensures in
    let r = reachable (net_of head.header head.n l.xs l.ys l.required) head.n (listing_held m.slack m.wire head.n p.parents p.xs p.ys) (size_is head.header head.n l.xs l.ys l.required) (λ i. record { slack = e.worst i; wire = e.wire i; tree = e.tree i })
    _ (sinks_read _ _ head c.requires.head l.xs l.ys l.required l.weights _ c.in_ok-read_rest.ensures) _ c.args.out.now _ (less_says m.slack.0 head.header.need.0 false (sym c.lt.ensures ∙ c.if-lt.false)) c.emit.ensures.answer c.emit.ensures.output in
    record { answer = r.0; output = r.1 }
