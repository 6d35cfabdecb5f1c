-- One sink more goes in, beside the roomiest: the slacks are those with it in, and the worst slack is the largest there can be (Kept). No loop.
use Rattle.std.proofs.Common.{◌+◌, get_or, refl, arith}
use Rattle.tree.proofs.Laws.Arrays.ReadyNet.{branch_within, branch_reach, own_slack_within}
use Rattle.judging.proofs.Laws.SinkSplits.{place_reach}
use Rattle.judging.proofs.Laws.SinkArrays.{sink_in, place_within, next_kept}
use Rattle.judging.proofs.kraft.next_worst.Goals as goal

pub invariant_of-so_far : goal.invariant_of-so_far
invariant_of-so_far c =
    let A = c.requires.sinks_ready.1.0 in
    record {
      n_in_bounds = omega arith;
      in_reach = λ u from to. place_reach _ (place_within A c.args.k c.requires.sinks_ready.1.1 (omega arith) u from to);
      branch_in_reach = branch_reach A.ready;
    }

pub deepen-requires-clause-v_in_bounds : goal.deepen-requires-clause-v_in_bounds
deepen-requires-clause-v_in_bounds c =
    let A = c.requires.sinks_ready.1.0 in
    let to = c.roomiest_sink-best.ensures.sink.to in
    omega (arith, A.ready.own_long, sink_in A (c.args.k + 1) (omega arith))

pub deepen-requires-clause-within : goal.deepen-requires-clause-within
deepen-requires-clause-within c =
    let A = c.requires.sinks_ready.1.0 in
    let v = c.roomiest_sink-best.ensures.sink in
    let t = sink_in A (c.args.k + 1) (omega arith) in
    (branch_within A.ready, place_within A c.args.k c.requires.sinks_ready.1.1 (omega arith) _ v.from v.to, own_slack_within A.ready _ v.from v.to, own_slack_within A.ready _ t.0 t.1)

pub returns : goal.returns
returns c N A K =
    let a = c.args in
    let best = c.roomiest_sink-best in
    next_kept A a.k K (omega arith) (omega arith) best.ensures.sink c.deepen.new.slacks best.result.worst.0
    (get_or a.sinks.now (a.k + 1) 0) (omega arith) refl c.deepen.ensures best.ensures.worst
