-- At the end s is n + 1.
use Rattle.std.proofs.Common.{arith}
use Rattle.quantities.specs.Distance.{distance}
use Rattle.tree.specs.Inner.Arrays.{point_at}
use Rattle.short_tree.proofs.Laws.SinkSearch.{near_end}
use Rattle.short_tree.proofs.choose.nearest_sink.Goals as goal

pub returns : goal.returns
returns c =
    let a = c.args in
    let l = c.loop-s in
    near_end (λ u. distance (point_at a.xs.now a.ys.now 0) (point_at a.xs.now a.ys.now u)) a.n l.s l.best (omega arith) l.invariant.first
