-- The bytes of s are put: by the copy to the part of `out` at `at`.
use Rattle.std.proofs.Common.{refl}
use Rattle.formats.proofs.Laws.Writing.{over_part}
use Rattle.formats.proofs.write.put_bytes.Goals as goal

pub returns : goal.returns
returns c = (refl, rw c.copy_from_slice.ensures.after (over_part c.args.out.now c.args.at c.args.s.now))
