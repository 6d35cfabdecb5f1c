-- One insertion's numbers: the new vertices get theirs, v and those under it go down, the least goes up, and the worst slack follows. No loop.
use Rattle.std.proofs.Common.{◌≡◌, ◌≢◌, List, ℕ, suc, ◌+◌, ◌*◌, ◌-◌, ◌≤◌, ◌<◌, ◌∙◌, sym, ap, subst, length, get_or, set, ℤ, pos, arith, rules}
use Rattle.std.specs.Prelude.{◌-ℤ◌, ◌*ℤ◌}
use mir.Facts.{to_z-of_z}
use mir.Syntax.{w64}
use mir.Val.{SFits}
use Rattle.quantities.specs.Inner.Linear.{whole}
use Rattle.quantities.specs.Ranges.{Within}
use Rattle.quantities.specs.Inner.Reach.{time_reach}
use Rattle.tree.specs.Lists.{count}
use Rattle.tree.specs.Net.{Net}
use Rattle.tree.specs.SmallestSlack.{next_sink, InTree, Gathered}
use Rattle.tree.specs.Inner.DerivedLimits.{edge_limit}
use Rattle.tree.specs.Inner.Insertion.{Ready, Inserted, Leveled, HoldsSoFar, SplitsNext}
use Rattle.tree.specs.Inner.Regathering.{Falling, Raised, way_up}
use Rattle.tree.proofs.Laws.Arrays.ReadyNet.{branch_within, branch_reach}
use Rattle.tree.proofs.Laws.Gathering.Regathering.{place_in, parent_in, level_few, number_within, new_within, new_in, way_length, way_in, way_once, old_few, old_within, sinks, falls, leveled_next, gathered_next}
use Rattle.first_tree.proofs.gather.regather.Goals.{Start, After-hang_new}
use Rattle.first_tree.proofs.gather.regather.Goals as goal

-- where v stands in an order
spot : {N : Net} {k : ℕ} {ps us : List ℕ} → Inserted N k ps us → (v : ℕ) → InTree N k v → (j : ℕ) × (j < 2 * k + 1) × (get_or us j 0 ≡ v)
spot I v h = I.leaves_up.all v h

-- v is a vertex, its level and its number are in range
v_in : (c : Start) → c.args.v < 2 * c.args.n
v_in c =
    let r = c.requires.ready.1 in
    let w = spot r.1.inserted c.args.v r.3 in
    omega (arith, place_in r.0 r.1.inserted (omega arith) w.0 w.1, w.2)

v_level : (c : Start) → (1 ≤ get_or c.args.levels.now c.args.v 0) × (get_or c.args.levels.now c.args.v 0 ≤ edge_limit)
v_level c =
    let a = c.args in
    let r = c.requires.ready.1 in
    let w = spot r.1.inserted a.v r.3 in
    omega (arith, level_few r.0 r.1.inserted (omega arith) r.1.leveled r.1.gathered c.requires.k_bound.0 w.1 w.0 w.1, ap (λ (z : ℕ). get_or a.levels.now z 0) w.2)

v_number : (c : Start) → Within time_reach (get_or c.args.slacks.now c.args.v (pos 0))
v_number c =
    let a = c.args in
    let r = c.requires.ready.1 in
    let w = spot r.1.inserted a.v r.3 in
    subst (λ (z : ℕ). Within time_reach (get_or a.slacks.now z (pos 0))) w.2 (number_within r.0 r.1.inserted (omega arith) r.1.leveled r.1.gathered c.requires.k_bound.0 w.1 w.0 w.1)

pub offset_bounds-levels-v : goal.offset_bounds-levels-v
offset_bounds-levels-v c = omega (arith, v_in (goal.at.offset_bounds-levels-v c).Start)

pub bounds-levels-v : goal.bounds-levels-v
bounds-levels-v c = omega (arith, v_in (goal.at.bounds-levels-v c).Start)

pub overflow_sub-left : goal.overflow_sub-left
overflow_sub-left c = omega (arith, v_level (goal.at.overflow_sub-left c).Start)

pub offset_bounds-slacks-v : goal.offset_bounds-slacks-v
offset_bounds-slacks-v c = omega (arith, v_in (goal.at.offset_bounds-slacks-v c).Start)

pub slice_copy_out-of : goal.slice_copy_out-of
slice_copy_out-of c = omega (arith, v_in (goal.at.slice_copy_out-of c).Start)

pub sub-least-requires : goal.sub-least-requires
sub-least-requires c =
    let a = c.args in
    let n = v_number (goal.at.sub-least-requires c).Start in
    let read : SFits w64 (get_or a.slacks.now a.v (pos 0)) = search rules in
    let b : Within time_reach a.branch.0 = branch_reach c.requires.ready.1.0 in
    omega (arith, whole, c.of.ensures ∙ to_z-of_z read)

pub hang_new-requires-clause-s_in_bounds : goal.hang_new-requires-clause-s_in_bounds
hang_new-requires-clause-s_in_bounds c =
    let r = c.requires.ready.1 in
    let w = spot r.1.inserted c.args.v r.3 in
    omega (arith, v_in (goal.at.hang_new-requires-clause-s_in_bounds c).Start, new_in r.0 r.1.inserted (omega arith) r.1.leveled r.1.gathered c.requires.k_bound.0 w.1, r.2, r.0.own_long)

pub hang_new-requires-clause-v_bound : goal.hang_new-requires-clause-v_bound
hang_new-requires-clause-v_bound c =
    let a = c.args in
    let r = c.requires.ready.1 in
    let w = spot r.1.inserted a.v r.3 in
    let s = (goal.at.hang_new-requires-clause-v_bound c).Start in (
      (v_level s).1,
      v_number s,
      subst (λ (z : ℕ). Within time_reach (get_or a.own.now z (pos 0))) (sym r.2) (new_within r.0 r.1.inserted (omega arith) r.1.leveled r.1.gathered c.requires.k_bound.0 w.1),
      branch_within r.0,
    )

-- what the two new vertices got
hung-levels : (c : After-hang_new) (N : Net) (us : List ℕ) (j : ℕ) → get_or us j 0 ≡ c.args.v → c.args.s ≡ next_sink N c.args.k
    → c.hang_new.new.levels ≡ set (set c.args.levels.now (next_sink N c.args.k) (get_or c.args.levels.now (get_or us j 0) 0 + 1)) (c.args.n + c.args.k + 1) (get_or c.args.levels.now (get_or us j 0) 0)
hung-levels c N us j e f =
    let a = c.args in
    c.hang_new.ensures.levels ∙ (λ i. set (set a.levels.now (f i) (get_or a.levels.now (sym e i) 0 + 1)) (a.n + a.k + 1) (get_or a.levels.now (sym e i) 0))

hung-slacks : (c : After-hang_new) (N : Net) (us : List ℕ) (j : ℕ) → get_or us j 0 ≡ c.args.v → c.args.s ≡ next_sink N c.args.k
    → c.hang_new.new.slacks ≡ set (set c.args.slacks.now (next_sink N c.args.k) (get_or c.args.own.now (next_sink N c.args.k) (pos 0) -ℤ c.args.branch.0 *ℤ pos (get_or c.args.levels.now (get_or us j 0) 0))) (c.args.n + c.args.k + 1) (get_or c.args.slacks.now (get_or us j 0) (pos 0) -ℤ c.args.branch.0)
hung-slacks c N us j e f =
    let a = c.args in
    c.hang_new.ensures.slacks ∙ (λ i. set (set a.slacks.now (f i) (get_or a.own.now (f i) (pos 0) -ℤ a.branch.0 *ℤ pos (get_or a.levels.now (sym e i) 0))) (a.n + a.k + 1) (get_or a.slacks.now (sym e i) (pos 0) -ℤ a.branch.0))

pub lower-requires-clause-by_index : goal.lower-requires-clause-by_index
lower-requires-clause-by_index c =
    let a = c.args in
    let p = c.requires.k_bound in
    let N = c.requires.ready.0 in
    let r = c.requires.ready.1 in
    let w = spot r.1.inserted a.v r.3 in
    let h = (goal.at.lower-requires-clause-by_index c).After-hang_new in
    let el = hung-levels h N r.1.upward w.0 w.2 r.2 in
    let es = hung-slacks h N r.1.upward w.0 w.2 r.2 in (
      r.1.upward,
      w.0,
      _,
      r.1.chained,
      w.1,
      w.2,
      sinks r.0 r.1.inserted (omega arith) r.1.leveled r.1.gathered p.0 w.1 p.3 p.4 el es,
      old_few r.0 r.1.inserted (omega arith) r.1.leveled r.1.gathered p.0 w.1 p.3 p.4 el es,
      old_within r.0 r.1.inserted (omega arith) r.1.leveled r.1.gathered p.0 w.1 p.3 p.4 el es,
      λ h l. let v = place_in r.0 r.1.inserted (omega arith) h l in let q = parent_in r.0 r.1.inserted (omega arith) h l in omega (arith, v, q),
    )

pub lower-requires-clause-within : goal.lower-requires-clause-within
lower-requires-clause-within c = branch_reach c.requires.ready.1.0

pub offset_bounds-parents-v : goal.offset_bounds-parents-v
offset_bounds-parents-v c = omega (arith, v_in (goal.at.offset_bounds-parents-v c).Start)

pub bounds-parents-v : goal.bounds-parents-v
bounds-parents-v c = omega (arith, v_in (goal.at.bounds-parents-v c).Start)

-- how many edges are above the parent of v, by the order
left_is : (levels us : List ℕ) (v j : ℕ) → get_or us j 0 ≡ v → get_or levels v 0 - 1 ≡ get_or levels (get_or us j 0) 0 - 1
left_is levels us v j e = ap (λ (z : ℕ). get_or levels z 0 - 1) (sym e)

pub hand_up-requires-clause-by_index : goal.hand_up-requires-clause-by_index
hand_up-requires-clause-by_index c u h =
    let a = c.args in
    let r = c.requires.ready.1 in
    let w = spot r.1.inserted a.v r.3 in
    let e = left_is a.levels.now r.1.upward a.v w.0 w.2 in
    let i = way_in r.0 r.1.inserted (omega arith) r.1.leveled r.1.gathered c.requires.k_bound.0 w.1 e u (subst (λ (z : ℕ). count u (way_up a.parents.now (get_or a.levels.now a.v 0 - 1) (get_or a.parents.now z 0)) ≢ 0) (sym w.2) h) in
    omega (arith, i)

pub hand_up-requires-clause-v_len : goal.hand_up-requires-clause-v_len
hand_up-requires-clause-v_len c =
    let a = c.args in
    let r = c.requires.ready.1 in
    let w = spot r.1.inserted a.v r.3 in
    let e = left_is a.levels.now r.1.upward a.v w.0 w.2 in
    subst (λ (z : ℕ). length (way_up a.parents.now (get_or a.levels.now a.v 0 - 1) (get_or a.parents.now z 0)) ≡ get_or a.levels.now a.v 0 - 1) w.2 (way_length r.0 r.1.inserted (omega arith) r.1.leveled r.1.gathered c.requires.k_bound.0 w.1 e)

-- the numbers of the enlarged tree
pub returns : goal.returns
returns c =
    let a = c.args in
    let p = c.requires.k_bound in
    let low = c.lower in
    let up = c.hand_up in
    let ps = a.parents.now in
    let left = get_or a.levels.now a.v 0 - 1 in
    let hung = (goal.at.returns c).After-hang_new in
    let read : SFits w64 (get_or a.slacks.now a.v (pos 0)) = search rules in
    let next : (N : Net) → Ready N a.branch.0 a.n a.own.now → HoldsSoFar N a.k a.parents.now a.below.now a.levels.now a.slacks.now → a.s ≡ next_sink N a.k → SplitsNext N a.k a.v
    → Leveled N (suc a.k) low.new.levels × Gathered N (suc a.k) c.worst_with.new.slacks = λ N R H s X.
    let us = H.upward in
    let I = H.inserted in
    let A = H.leveled in
    let G = H.gathered in
    let w = spot I a.v X.0 in
    let f = left_is a.levels.now us a.v w.0 w.2 in
    let e = c.sub-least.ensures ∙ ap (λ (z : ℤ). z -ℤ a.branch.0) (c.of.ensures ∙ to_z-of_z read ∙ ap (λ (z : ℕ). get_or a.slacks.now z (pos 0)) (sym w.2)) in
    let Y = subst (SplitsNext N a.k) (sym w.2) X in
    let el = hung-levels hung N us w.0 w.2 s in
    let es = hung-slacks hung N us w.0 w.2 s in
    let L = low.ensures us w.0 _ H.chained w.1 w.2 (sinks R I (omega arith) A G p.0 w.1 p.3 p.4 el es) in
    let U = up.ensures
    (subst (λ (z : ℕ). Falling (λ u. get_or low.new.slacks u (pos 0)) (way_up ps left (get_or ps z 0))) w.2 (falls R I (omega arith) A G p.0 w.1 p.3 p.4 el es L f))
    (subst (λ (z : ℕ). (u : ℕ) → count u (way_up ps left (get_or ps z 0)) ≤ 1) w.2 (way_once R I (omega arith) A G p.0 w.1 f)) in
    let U' = subst (λ (z : ℕ). Raised (way_up ps left (get_or ps z 0)) c.sub-least.result.0 low.new.slacks up.new.slacks) (sym w.2) U in (
      leveled_next R I (omega arith) A G p.0 w.1 p.3 p.4 el es L Y,
      gathered_next R I (omega arith) A G p.0 w.1 p.3 p.4 el es L Y f e U' c.worst_with.ensures (omega arith),
    ) in
    record { leveled = λ N R H s X. (next N R H s X).0; gathered = λ N R H s X. (next N R H s X).1 }
