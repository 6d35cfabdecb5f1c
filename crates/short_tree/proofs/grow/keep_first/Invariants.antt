-- For the sinks before s the edge to the first sink is kept, with what they add there.
use Rattle.std.proofs.Common.{ℕ, ◌≡◌, ◌≤◌, ◌<◌, get_or}
use Rattle.short_tree.specs.Inner.Arrays.{added_at}
use Rattle.short_tree.proofs.grow.keep_first.Given as goal

abbrev pub invariant-loop-s : goal.invariant-loop-s
invariant-loop-s l = record {
  kept : (u : ℕ) → 1 ≤ u → u < l.s → get_or l.kept u 0 ≡ l.first;
  costs : (u : ℕ) → 1 ≤ u → u < l.s → get_or l.costs u 0 ≡ added_at l.tree.parents.now l.tree.xs.now l.tree.ys.now u l.first;
  beyond : (v : ℕ) → l.tree.last < v → get_or l.kept v 0 ≡ get_or l.initial.kept v 0;
}
