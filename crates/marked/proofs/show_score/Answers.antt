-- A score is a number, so that its bits are known.
use Rattle.std.proofs.Common.{sym, ◌∙◌}
use Rattle.scoring.proofs.Laws.RoutersScore.{score_number}
use Rattle.marked.proofs.show_score.Goals as goal

pub float_to_bits-bits : goal.float_to_bits-bits
float_to_bits-bits c = score_number _ _ _ _ _ c.in-Ok.given (sym c.in-Ok.is ∙ c.score.ensures)
