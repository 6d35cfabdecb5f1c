-- The queue goes down the tree: the first i in it are looked at, their children stand in it, each vertex once and after its parent (Descended).
use lib.Seq.{get_or-set_same}
use Rattle.tree.proofs.Laws.Trees.Descent.{descent_few, descent_begins, descent_room, descent_step, descent_ended}
use Rattle.tree.proofs.Laws.Trees.Linking.{children_of}
use borrow.Author.Rules.{rules}
use native.Mathlib.Omega.{arith}
use Prim.Native.Nat.{ℕ, ◌*◌, ◌-◌}
use mathlib.Core.Path.{◌≡◌, refl}
use mathlib.Core.List.{List}
use lib.ListN.{length, get_or, length-set}
use Rattle.tree.specs.Inner.Descent.{Linked, Descended}
use Rattle.tree.proofs.descend.descend.Statement.{statement}
use Rattle.tree.proofs.descend.descend.Tie as tie

abbrev invariant-loop-i : tie.invariant-loop-i
invariant-loop-i n first second queue₀ end₀ i₀ queue end i =
    (length queue ≡ length queue₀) × ((ps : List ℕ) → Linked n ps first second → Descended n ps queue i end)

abbrev decreases-loop-i : tie.decreases-loop-i
decreases-loop-i n first second queue₀ end₀ i₀ queue end i = 2 * n - i

bounds-first-0 : tie.Need-bounds-first-0 invariant-loop-i decreases-loop-i
bounds-first-0 c = search rules

bounds-queue-0 : tie.Need-bounds-queue-0 invariant-loop-i decreases-loop-i
bounds-queue-0 c = search rules

loop-i-init : tie.Need-loop-i-init invariant-loop-i decreases-loop-i
loop-i-init c =
    let s = c in (
      refl,
      λ ps l. descent_begins (children_of l) _ (get_or-set_same s.args.queue.now 0 _ 0 (omega (arith, s.requires.1, s.requires.0.1.parents_in_lem.some))),
    )

offset_bounds-queue-i : tie.Need-offset_bounds-queue-i invariant-loop-i decreases-loop-i
offset_bounds-queue-i c =
    let s = c in
    let w = c.loop-i in
    omega (arith, descent_few (w.invariant.1 s.requires.0.0 s.requires.0.1), s.requires.0.1.parents_in_lem.few, s.requires.1)

bounds-queue-i : tie.Need-bounds-queue-i invariant-loop-i decreases-loop-i
bounds-queue-i c =
    let s = c in
    let w = c.loop-i in
    omega (arith, descent_few (w.invariant.1 s.requires.0.0 s.requires.0.1), length-set s.args.queue.now 0 (get_or s.args.first.now 0 0))

queue_children-end-requires : tie.Need-queue_children-end-requires invariant-loop-i decreases-loop-i
queue_children-end-requires c κs =
    let s = c in
    let w = c.loop-i in
    let l = s.requires.0.1 in
    let d = w.invariant.1 s.requires.0.0 l in
    let looked = c.loop-i-test.true in
    let low = d.inside w.i looked in
    λ branch. (
      omega (arith, low),
      omega (arith, low),
      omega (arith, descent_room (children_of l) d looked branch, length-set s.args.queue.now 0 (get_or s.args.first.now 0 0)),
    )

overflow_add-i : tie.Need-overflow_add-i invariant-loop-i decreases-loop-i
overflow_add-i c =
    let s = c in
    let w = c.loop-i in
    omega (arith, descent_few (w.invariant.1 s.requires.0.0 s.requires.0.1), s.requires.0.1.parents_in_lem.few, s.requires.1)

loop-i-smaller : tie.Need-loop-i-smaller invariant-loop-i decreases-loop-i
loop-i-smaller c =
    let s = c in
    let w = c.loop-i in
    omega (arith, descent_few (w.invariant.1 s.requires.0.0 s.requires.0.1), s.requires.0.1.parents_in_lem.few, s.requires.1)

loop-i-preserved : tie.Need-loop-i-preserved invariant-loop-i decreases-loop-i
loop-i-preserved c =
    let s = c in
    let w = c.loop-i in
    let k = c.queue_children-end in
    let looked = c.loop-i-test.true in (
      omega (arith, k.auto),
      λ ps l. descent_step (children_of l) (w.invariant.1 ps l) looked (omega (arith, length-set s.args.queue.now 0 (get_or s.args.first.now 0 0))) _ _ k.ensures,
    )

shape_of-queue : tie.Need-shape_of-queue invariant-loop-i decreases-loop-i
shape_of-queue c =
    omega (arith, c.loop-i.invariant.0, length-set c.args.queue.now 0 (get_or c.args.first.now 0 0))

returns : tie.Need-returns invariant-loop-i decreases-loop-i
returns c =
    let w = c.loop-i in
    λ ps l. descent_ended (w.invariant.1 ps l) c.loop-i-test.false

pub descend_spec : {M : Type 1} → statement M
descend_spec =
    tie.close
    (tie.spec
    invariant-loop-i
    decreases-loop-i
    bounds-first-0
    bounds-queue-0
    loop-i-init
    offset_bounds-queue-i
    bounds-queue-i
    queue_children-end-requires
    overflow_add-i
    loop-i-smaller
    loop-i-preserved
    shape_of-queue
    returns)
