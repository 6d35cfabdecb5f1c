-- The chain is written out from its end: `at` stands at place i, and the places from i on are written.
use Rattle.std.proofs.Common.{◌≡◌, List, ℕ, ◌≤◌, ◌<◌, get_or}
use Rattle.tree.specs.Inner.Arrays.{Chained}
use Rattle.first_tree.proofs.upward.write_out.Given as goal

abbrev pub invariant-loop-i : goal.invariant-loop-i
invariant-loop-i l = (us : List ℕ) → Chained l.m us l.below → (l.at ≡ get_or us l.i 0) × ((h : ℕ) → l.i ≤ h → h < l.m → get_or l.upward h 0 ≡ get_or us h 0)
