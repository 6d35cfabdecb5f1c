-- The net is planned, and the first bytes of the answer go out. No loop.
use Rattle.console.proofs.Laws.Programs.{answer_goes_out}
use Rattle.console.proofs.program.answer_net.Goals as goal

pub returns : goal.returns
returns g c = answer_goes_out _ _ _ _ _ _ _ c.print_plan-lengths.ensures.answer c.write_out.ensures.written
