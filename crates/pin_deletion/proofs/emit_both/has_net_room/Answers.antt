-- Whether a net's text has room: where the longest one has, every one has; else this one is counted. No loop.
use Rattle.std.proofs.Common.{arith, sym, subst, ◌∙◌}
use borrow.Author.Tests.{le-leb}
use Rattle.tree.specs.Inner.Arrays.{net_of, weights_of}
use Rattle.tree.specs.Limits.{WeightsInRange}
use Rattle.tree.proofs.Laws.Arrays.NetAndTree.{size_is}
use Rattle.formats.proofs.Laws.TextLengths.{net_short}
use Rattle.pin_deletion.proofs.emit_both.has_net_room.Goals as goal

pub returns-then-room-ge-NET_LENGTH_LIMIT : goal.returns-then-room-ge-NET_LENGTH_LIMIT
returns-then-room-ge-NET_LENGTH_LIMIT c =
    let v = c.args.net in
    let N = net_of v.header v.n v.xs.now v.ys.now v.required.now in
    let weighed = subst (λ m. WeightsInRange m (weights_of v.n v.weights.now)) (sym (size_is v.header v.n v.xs.now v.ys.now v.required.now)) v.holds_weights.in_range in
    le-leb _ c.args.room c.if-room-ge-NET_LENGTH_LIMIT.true ∙ sym (le-leb _ c.args.room (omega (arith, net_short N (weights_of v.n v.weights.now) v.holds_net.in_range weighed, c.if-room-ge-NET_LENGTH_LIMIT.true)))
