-- The length of a net: the sum of its two parts, which is no more than that of the longest net.
use Rattle.std.proofs.Common.{length, ap, ◌∙◌, arith}
use Rattle.writing.proofs.Laws.NetParts.{seen_head_is, seen_head_in_range, seen_length, seen_short}
use Rattle.writing.proofs.net_view.NetView.length.Goals as goal

pub head_length-requires : goal.head_length-requires
head_length-requires c = seen_head_in_range c.args.self

pub overflow_add-result : goal.overflow_add-result
overflow_add-result c =
    omega (arith, c.head_length.ensures ∙ ap length (seen_head_is c.args.self), c.sinks_length.ensures, seen_short c.args.self)

pub returns : goal.returns
returns c =
    omega (arith, c.head_length.ensures ∙ ap length (seen_head_is c.args.self), c.sinks_length.ensures, seen_length c.args.self)
