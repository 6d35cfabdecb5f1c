-- The line and the words go to their buffers.
use Rattle.console.proofs.Laws.Rooms.{prints}
use Rattle.console.proofs.answer.print_refusal.Goals as goal

pub returns-clause-answer : goal.returns-clause-answer
returns-clause-answer c = prints _ _ _ _ c.put_refusal-answer.ensures

pub returns-clause-complaint : goal.returns-clause-complaint
returns-clause-complaint c = prints _ _ _ _ c.put_complaint-complaint.ensures
