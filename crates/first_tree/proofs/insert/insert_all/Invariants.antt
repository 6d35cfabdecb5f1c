-- Before each insertion the arrays hold the tree so far, its order and its numbers (HoldsSoFar).
use Rattle.tree.specs.Net.{Net}
use Rattle.tree.specs.Inner.Insertion.{Ready, Lined, Placed, HoldsSoFar}
use Rattle.first_tree.proofs.insert.insert_all.Given as goal

abbrev pub invariant-loop-k : goal.invariant-loop-k
invariant-loop-k l =
    (N : Net) → Ready N l.branch.0 l.pins.n l.own → Lined N l.pins.n l.sinks → Placed N l.pins.n l.pins.xs.now l.pins.ys.now → HoldsSoFar N l.k l.parents l.below l.levels l.slacks
