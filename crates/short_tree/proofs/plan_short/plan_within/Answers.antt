-- The sinks are read into the arrays or refused; then the tree is made and its listing goes out. No loop.
use Rattle.std.proofs.Common.{arith}
use Rattle.std.proofs.lemmas.Result.{err_from_is_err_and}
use Rattle.tree.specs.Inner.Arrays.{net_of, weights_of}
use Rattle.tree.proofs.Laws.Arrays.NetAndTree.{size_is}
use Rattle.formats.specs.Inner.ListingReader.{listing_held}
use Rattle.operations.specs.TreePlans.{ignoring_weights}
use Rattle.operations.proofs.Laws.HeadsRead.{weights_refused, weights_read, net_held}
use Rattle.operations.proofs.Laws.TreePlans.{tree_refused_answer, tree_read_answer, made_in_range}
use Rattle.short_tree.specs.ShortTree.{short}
use Rattle.short_tree.proofs.Laws.SecondPlan.{short_makes}
use Rattle.short_tree.proofs.plan_short.plan_within.Goals as goal

pub returns-in_err-read_rest-clause-answer : goal.returns-in_err-read_rest-clause-answer
returns-in_err-read_rest-clause-answer g c =
    let p = err_from_is_err_and c.from_residual.result c.from_residual.ensures.1 in
    let l = c.read_rest.new in
    rw (p.1, p.2) (tree_refused_answer (ignoring_weights short) _ c.args.out.now _ (weights_refused _ _ c.args.head c.requires.head l.xs l.ys l.required l.weights _ c.in_err-read_rest.ensures)).0

pub returns-in_err-read_rest-clause-output : goal.returns-in_err-read_rest-clause-output
returns-in_err-read_rest-clause-output g c =
    let l = c.read_rest.new in
    (tree_refused_answer (ignoring_weights short) _ _ _ (weights_refused _ _ c.args.head c.requires.head l.xs l.ys l.required l.weights _ c.in_err-read_rest.ensures)).1

pub make-measures-requires-clause-holds_net : goal.make-measures-requires-clause-holds_net
make-measures-requires-clause-holds_net g c =
    let l = c.read_rest.new in
    net_held _ _ c.args.head c.requires.head l.xs l.ys l.required l.weights _ c.in_ok-read_rest.ensures (omega (arith, c.read_rest.auto, c.requires.room)) (omega (arith, c.read_rest.auto, c.requires.room)) (omega (arith, c.read_rest.auto, c.requires.room))

pub invariant_of-listing : goal.invariant_of-listing
invariant_of-listing g c =
    let head = c.args.head in
    let l = c.read_rest.new in
    let m = c.make-measures.result in
    let p = c.make-measures.new in
    let e = c.make-measures.ensures in
    let held = net_held _ _ head c.requires.head l.xs l.ys l.required l.weights _ c.in_ok-read_rest.ensures (omega (arith, c.read_rest.auto, c.requires.room)) (omega (arith, c.read_rest.auto, c.requires.room)) (omega (arith, c.read_rest.auto, c.requires.room)) in
    record {
      in_range = made_in_range (ignoring_weights short) short_makes (net_of head.header head.n l.xs l.ys l.required) (weights_of head.n l.weights) head.n (listing_held m.slack m.wire head.n p.parents p.xs p.ys) (size_is head.header head.n l.xs l.ys l.required)
          (λ i. record { slack = e.worst i; wire = e.wire i; tree = e.tree i }) held.in_range;
      has_vertices = (omega (arith, c.make-measures.auto, c.requires.room), omega (arith, c.make-measures.auto, c.read_rest.auto, c.requires.room), omega (arith, c.make-measures.auto, c.read_rest.auto, c.requires.room));
    }

pub returns : goal.returns
returns g c =
    let head = c.args.head in
    let l = c.read_rest.new in
    let m = c.make-measures.result in
    let p = c.make-measures.new in
    let e = c.make-measures.ensures in
    let r = tree_read_answer (ignoring_weights short) _ c.args.out.now _ (net_of head.header head.n l.xs l.ys l.required) (weights_of head.n l.weights) head.n (listing_held m.slack m.wire head.n p.parents p.xs p.ys) _ (weights_read _ _ head c.requires.head l.xs l.ys l.required l.weights _ c.in_ok-read_rest.ensures)
    (size_is head.header head.n l.xs l.ys l.required) (λ i. record { slack = e.worst i; wire = e.wire i; tree = e.tree i }) c.emit.ensures.answer c.emit.ensures.output in
    record { answer = r.0; output = r.1 }
