-- A branch point moves to its median and a sink stays: by the test of v against n. No loop.
use Prim.Native.Nat.{◌<◌}
use mathlib.Core.Path.{refl}
use native.Mathlib.Omega.{arith}
use borrow.Author.Rules.{rules}
use Rattle.tree.proofs.settle.settle_vertex.Statement.{statement}
use Rattle.tree.proofs.settle.settle_vertex.Tie as tie

settle_one-requires : tie.Need-settle_one-requires
settle_one-requires c κs =
    let p = c.requires in
    let h : c.args.n < c.args.v = omega arith in
    ((p.0.0, p.0.1, p.0.2 h), (p.1.0 h, p.1.1 h))

shape_of-xs : tie.Need-shape_of-xs
shape_of-xs c = search rules

shape_of-ys : tie.Need-shape_of-ys
shape_of-ys c = search rules

returns-then-n-v : tie.Need-returns-then-n-v
returns-then-n-v c =
    let m = c.settle_one in
    ((λ h. absurd (omega arith)), λ h. (m.ensures.0, m.ensures.1))

returns-else-n-v : tie.Need-returns-else-n-v
returns-else-n-v c = ((λ h. (refl, refl)), λ h. absurd (omega arith))

pub settle_vertex_spec : {M : Type 1} → statement M
settle_vertex_spec =
    tie.close (tie.spec settle_one-requires shape_of-xs shape_of-ys returns-then-n-v returns-else-n-v)
