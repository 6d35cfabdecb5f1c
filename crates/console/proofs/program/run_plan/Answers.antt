-- What was read is answered. No loop.
use Rattle.std.proofs.Common.{arith}
use Rattle.console.proofs.Laws.Programs.{goes_out}
use Rattle.console.proofs.program.run_plan.Goals as goal

pub returns : goal.returns
returns g c = goes_out _ _ _ g.P.Planner.answers c.read_text.new.text c.in-Some.bytes _ _ (omega (arith, c.read_text.auto.text)) (omega (arith, c.in-Some.ensures.fits)) c.in-Some.ensures.read c.answer_net.ensures
