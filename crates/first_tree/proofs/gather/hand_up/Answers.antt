-- The vertex that the walk has come to is on the way; one that has no more than the least ends it, and one that has more gets the least.
use Rattle.std.proofs.Common.{◌≡◌, ◌≢◌, ℕ, List, ◌+◌, ◌-◌, ◌∙◌, sym, ap, subst, length, get_or, set, ℤ, pos, arith, rules, le_refl}
use Rattle.std.specs.Prelude.{◌<ℤ◌, ◌≤ℤ◌}
use mir.Facts.{to_z-of_z}
use mir.Syntax.{w64}
use mir.Val.{SFits}
use Rattle.quantities.specs.Inner.Linear.{rd}
use Rattle.tree.specs.Lists.{count}
use Rattle.tree.specs.Inner.Regathering.{way_up}
use Rattle.tree.proofs.Laws.Gathering.HandingUp.{Raising, raising_all, raising_step, raising_stop, raising_end, way_next, way_done, way_first}
use Rattle.first_tree.proofs.Laws.Comparing.{le_says, le_denies}
use Rattle.first_tree.proofs.gather.hand_up.Invariants.{Ahead}
use Rattle.first_tree.proofs.gather.hand_up.Goals.{In-loop}
use Rattle.first_tree.proofs.gather.hand_up.Goals as goal

on_way : (c : In-loop) → count c.loop.at (way_up c.args.parents.now c.args.left c.args.v) ≢ 0
on_way c =
    let a = c.args in
    let l = c.loop in
    omega (arith, way_first a.parents.now (a.left - l.counter) l.at (omega arith) l.invariant.0, l.invariant.1 l.at)

pub loop-init : goal.loop-init
loop-init c =
    let a = c.args in
    let all : a.left ≡ a.left - 0 = omega arith in
    subst (Ahead a.parents.now a.left a.v a.least.0 a.slacks.now a.slacks.now a.v) all (c.requires.v_len, (λ u. le_refl (count u (way_up a.parents.now a.left a.v))), λ f o. raising_all (way_up a.parents.now a.left a.v) f o)

pub offset_bounds-slacks-at : goal.offset_bounds-slacks-at
offset_bounds-slacks-at c = let l = c.loop in omega (arith, c.requires.by_index l.at (on_way (goal.at.offset_bounds-slacks-at c).In-loop))

pub slice_copy_out-of : goal.slice_copy_out-of
slice_copy_out-of c = let l = c.loop in omega (arith, c.requires.by_index l.at (on_way (goal.at.slice_copy_out-of c).In-loop))

pub returns-then-le : goal.returns-then-le
returns-then-le c f o =
    let a = c.args in
    let l = c.loop in
    let ps = a.parents.now in
    let way = way_up ps a.left a.v in
    let more = a.left - l.counter in
    let read : SFits w64 (get_or l.slacks l.at (pos 0)) = search rules in
    let next = way_next ps more l.at (omega arith) l.invariant.0 in
    let enough = le_says c.of.result.0 a.least.0 (sym c.le.ensures ∙ c.if-le.true) in
    raising_stop (subst (λ (r : List ℕ). Raising way r a.least.0 a.slacks.now l.slacks) next (l.invariant.2 f o)) (subst (λ (z : ℤ). z ≤ℤ a.least.0) (c.of.ensures ∙ to_z-of_z read) enough)

pub offset_bounds-parents-at : goal.offset_bounds-parents-at
offset_bounds-parents-at c = let l = c.loop in omega (arith, c.requires.by_index l.at (on_way (goal.at.offset_bounds-parents-at c).In-loop))

pub bounds-parents-at : goal.bounds-parents-at
bounds-parents-at c = let l = c.loop in omega (arith, c.requires.by_index l.at (on_way (goal.at.bounds-parents-at c).In-loop))

pub offset_bounds-slacks-at-in-loop : goal.offset_bounds-slacks-at-in-loop
offset_bounds-slacks-at-in-loop c = let l = c.loop in omega (arith, c.requires.by_index l.at (on_way (goal.at.offset_bounds-slacks-at-in-loop c).In-loop))

pub bounds-slacks-at : goal.bounds-slacks-at
bounds-slacks-at c = let l = c.loop in omega (arith, c.requires.by_index l.at (on_way (goal.at.bounds-slacks-at c).In-loop))

pub loop-preserved : goal.loop-preserved
loop-preserved c =
    let a = c.args in
    let l = c.loop in
    let v = c.attoseconds in
    let ps = a.parents.now in
    let way = way_up ps a.left a.v in
    let more = a.left - l.counter in
    let read : SFits w64 (get_or l.slacks l.at (pos 0)) = search rules in
    let made : SFits w64 v.result = search rules in
    let next = way_next ps more l.at (omega arith) l.invariant.0 in
    let less : a.least.0 <ℤ get_or l.slacks l.at (pos 0) = subst (λ (z : ℤ). a.least.0 <ℤ z) (c.of.ensures ∙ to_z-of_z read) (le_denies c.of.result.0 a.least.0 (sym c.le.ensures ∙ c.if-le.false)) in
    let stored : rd v.result ≡ a.least.0 = to_z-of_z made ∙ v.ensures in
    let on = on_way (goal.at.loop-preserved c).In-loop in
    let one_less : more - 1 ≡ a.left - (l.counter + 1) = omega arith in
    subst (Ahead ps a.left a.v a.least.0 a.slacks.now (set l.slacks l.at (rd v.result)) (get_or ps l.at 0)) one_less (
      omega (arith, ap length next, l.invariant.0),
      (λ u. omega (arith, ap (count u) next, l.invariant.1 u)),
      λ f o. subst (λ (z : ℤ). Raising way (way_up ps (more - 1) (get_or ps l.at 0)) a.least.0 a.slacks.now (set l.slacks l.at z)) (sym stored)
          (raising_step (subst (λ (r : List ℕ). Raising way r a.least.0 a.slacks.now l.slacks) next (l.invariant.2 f o)) (omega (arith, c.requires.by_index l.at on)) on less),
    )

pub returns : goal.returns
returns c f o =
    let a = c.args in
    let l = c.loop in
    let way = way_up a.parents.now a.left a.v in
    raising_end (subst (λ (r : List ℕ). Raising way r a.least.0 a.slacks.now l.slacks) (way_done a.parents.now (a.left - l.counter) l.at (omega arith)) (l.invariant.2 f o))
