-- The best edge of all: the best one to a sink, or that of a branch point that goes before it. No loop.
use Rattle.std.proofs.Common.{◌≡◌, ℕ, suc, ◌+◌, ◌∙◌, sym, subst, arith}
use Rattle.tree.specs.SmallestSlack.{score_of}
use Rattle.first_tree.specs.Inner.Choice.{far_at, BestEdge, SinkEnd}
use Rattle.first_tree.proofs.Laws.Comparing.{far_branch_point}
use Rattle.first_tree.proofs.choose.choose.Goals as goal

pub returns : goal.returns
returns c =
    let a = c.args in
    let nearest = c.best_sink-nearest in
    let d = far_at a.pins.n a.pins.xs.now a.pins.ys.now a.s in
    let one : a.k + 1 ≡ suc a.k = omega arith in
    let B = subst (λ (m : ℕ). BestEdge (SinkEnd a.sinks.now m) (score_of a.scoring.branch.0 a.scoring.slacks.now) d nearest.result) one nearest.ensures in
    c.or_branch_point.ensures a.sinks.now d (λ i l. (c.requires.by_index i l).0) (λ v l. far_branch_point a.pins.n a.pins.xs.now a.pins.ys.now a.s v l ∙ sym c.far_apart-far.ensures) c.requires.none_roomier B
