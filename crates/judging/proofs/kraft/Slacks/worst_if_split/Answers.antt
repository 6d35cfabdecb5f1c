-- The worst slack after a split above u: the slack as it stands, lowered by the branch cost, and the lesser taken. No loop.
use Rattle.std.proofs.Common.{rules, ap, ◌∙◌}
use Rattle.quantities.specs.MinMax.{min_ℤ}
use Rattle.quantities.proofs.Laws.Times.{least_of}
use Rattle.judging.proofs.kraft.Slacks.worst_if_split.Goals as goal

pub returns : goal.returns
returns c =
    let s = c.args.self in
    ap (λ t. t.0) c.min.ensures ∙ least_of s.worst c.sub.result ∙ ap (min_ℤ s.worst.0) (search rules)
