-- The difference of the two products, with plus zero added, is the score. No loop.
use Rattle.scoring.proofs.Laws.Weighing.{score_made}
use borrow.Author.Rules.{rules}
use Rattle.scoring.proofs.weights.Weights.score.Statement.{statement}
use Rattle.scoring.proofs.weights.Weights.score.Tie as tie

gain-requires : tie.Need-gain-requires
gain-requires c κs = search rules

loss-requires : tie.Need-loss-requires
loss-requires c κs = search rules

returns : tie.Need-returns
returns c A B h =
    let s = c in
    let a = s.args in
    score_made a.self A B h a.slack.0 a.wire.0 s.requires.1 s.requires.2 c.gain.result c.loss.result (c.gain.ensures A B h).0 (c.loss.ensures A B h).0

pub score_spec : {M : Type 1} → statement M
score_spec = tie.close (tie.spec gain-requires loss-requires returns)
