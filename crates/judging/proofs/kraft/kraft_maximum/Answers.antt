-- The own slacks and the order are the net's, so the worst slack with all sinks in is its maximum. No loop.
use Rattle.std.proofs.Common.{arith}
use Rattle.tree.specs.Inner.Views.{viewed_net}
use Rattle.judging.proofs.Laws.SinkArrays.{some_viewed, viewed_size, sorted}
use Rattle.judging.proofs.kraft.kraft_maximum.Goals as goal

pub order_sinks-requires : goal.order_sinks-requires
order_sinks-requires c = omega (arith, some_viewed c.args.net, c.own_slacks.auto)

pub worst_of_all-requires-clause-sinks_ready : goal.worst_of_all-requires-clause-sinks_ready
worst_of_all-requires-clause-sinks_ready c =
    (viewed_net c.args.net, sorted c.args.net c.own_slacks.new.own c.order_sinks.new.sinks (omega arith) c.own_slacks.ensures (omega arith) (c.order_sinks.ensures (viewed_net c.args.net) (viewed_size c.args.net) c.own_slacks.ensures))

pub returns : goal.returns
returns c = c.worst_of_all.ensures (viewed_net c.args.net) (sorted c.args.net c.own_slacks.new.own c.order_sinks.new.sinks (omega arith) c.own_slacks.ensures (omega arith) (c.order_sinks.ensures (viewed_net c.args.net) (viewed_size c.args.net) c.own_slacks.ensures))
