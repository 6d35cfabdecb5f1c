-- The digits of n / 10 are put by the function itself.
use Rattle.formats.proofs.write.+put_natural.Given as goal

abbrev pub decreases-put_natural : goal.decreases-put_natural
decreases-put_natural l = l.n
