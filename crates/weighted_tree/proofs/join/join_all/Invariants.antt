-- After k joins the arrays hold what the definition has, and the queues that are left (Joined).
use Rattle.std.proofs.Common.{◌≡◌, length}
use Rattle.tree.specs.Inner.Arrays.{weights_of}
use Rattle.weighted_tree.specs.Joining.{joined_after}
use Rattle.weighted_tree.specs.Inner.Arrays.{Joined}
use Rattle.weighted_tree.proofs.join.join_all.Given as goal

abbrev pub invariant-loop-k : goal.invariant-loop-k
invariant-loop-k l =
    (length l.weights ≡ length l.fn.weights) × (length l.parents ≡ length l.fn.parents) × Joined l.n l.k l.i (joined_after l.n (weights_of l.n l.fn.weights) l.k) l.weights l.order l.parents
