-- The chain comes to place i, unless it has ended at the root; who stands there follows its parent, which is done.
use Rattle.std.proofs.Common.{◌≡◌, ◌≢◌, ℕ, suc, ◌+◌, ◌-◌, ◌<◌, cond, ◌∙◌, sym, ap, subst, get_or, set, pos, arith, le_refl}
use Rattle.std.specs.Prelude.{◌-ℤ◌}
use Rattle.quantities.specs.Ranges.{Within}
use Rattle.quantities.specs.Inner.Reach.{time_reach}
use Rattle.tree.specs.Inner.Regathering.{Lowered, is_behind}
use Rattle.tree.proofs.Laws.Gathering.Lowering.{parent_done, still, lowered_step}
use Rattle.tree.proofs.Laws.Trees.Upward.{prior_led, prior_at, prior_end}
use Rattle.first_tree.proofs.gather.lower_below.Goals.{In-loop}
use Rattle.first_tree.proofs.gather.lower_below.Goals as goal

pub loop-init : goal.loop-init
loop-init c us j D ls ss C jm e P L = (j, le_refl j, omega arith, ap (λ (z : ℕ). get_or c.args.below.now z 0) (sym e) ∙ prior_led us c.args.below.now C j jm, L)

pub returns-then-at-eq0 : goal.returns-then-at-eq0
returns-then-at-eq0 c us j D ls ss C jm e P L =
    let a = c.args in
    let l = c.loop in
    let w = l.invariant us j D ls ss C jm e P L in
    let o : l.at ≡ 0 = omega arith in
    let z : w.0 ≡ 0 = prior_end us a.m w.0 P.positive (omega (arith, w.1)) (sym o ∙ w.3) in
    subst (λ (h : ℕ). Lowered us a.m D a.branch.0 ls ss h l.levels l.slacks) z w.4

-- where the walk has come to in the order that the caller has in mind
abbrev Spot : In-loop → Type 0
Spot c = let q = c.requires.by_index in (i : ℕ) × (i < q.1) × (c.loop.at ≡ get_or q.0 i 0) × Lowered q.0 c.args.m q.2 c.args.branch.0 q.3 q.4 (suc i) c.loop.levels c.loop.slacks

spot : (c : In-loop) → c.loop.at ≢ 0 → Spot c
spot c some =
    let a = c.args in
    let q = c.requires.by_index in
    let l = c.loop in
    let w = l.invariant q.0 q.1 q.2 q.3 q.4 q.5 q.6 q.7 q.8 q.9 in
    let s = prior_at q.0 w.0 l.at w.3 some in
    let e : w.0 ≡ suc (w.0 - 1) = omega (arith, s.0) in
    (w.0 - 1, omega (arith, s.0, w.1), s.1, subst (λ (z : ℕ). Lowered q.0 a.m q.2 a.branch.0 q.3 q.4 z l.levels l.slacks) e w.4)

pub offset_bounds-below-at : goal.offset_bounds-below-at
offset_bounds-below-at c =
    let q = c.requires.by_index in
    let s = spot (goal.at.offset_bounds-below-at c).In-loop c.if-at-eq0.false in
    omega (arith, q.12 s.0 (omega (arith, s.1, q.6)), s.2)

pub bounds-below-at : goal.bounds-below-at
bounds-below-at c =
    let q = c.requires.by_index in
    let s = spot (goal.at.bounds-below-at c).In-loop c.if-at-eq0.false in
    omega (arith, q.12 s.0 (omega (arith, s.1, q.6)), s.2)

pub follow_parent-requires-clause-u_in_bounds : goal.follow_parent-requires-clause-u_in_bounds
follow_parent-requires-clause-u_in_bounds c =
    let a = c.args in
    let q = c.requires.by_index in
    let l = c.loop in
    let s = spot (goal.at.follow_parent-requires-clause-u_in_bounds c).In-loop c.if-at-eq0.false in
    let u = get_or q.0 s.0 0 in
    let r = q.12 s.0 (omega (arith, s.1, q.6)) in
    let e : get_or a.parents.now l.at 0 ≡ get_or a.parents.now u 0 = ap (λ (z : ℕ). get_or a.parents.now z 0) s.2 in
    omega (arith, r, s.2, e)

pub follow_parent-requires-clause-u_bound : goal.follow_parent-requires-clause-u_bound
follow_parent-requires-clause-u_bound c =
    let a = c.args in
    let q = c.requires.by_index in
    let l = c.loop in
    let s = spot (goal.at.follow_parent-requires-clause-u_bound c).In-loop c.if-at-eq0.false in
    let u = get_or q.0 s.0 0 in
    let d = parent_done q.8 q.6 s.1 s.3 in
    let w = still q.8 q.6 s.1 s.3 in
    let e : get_or a.parents.now l.at 0 ≡ get_or a.parents.now u 0 = ap (λ (z : ℕ). get_or a.parents.now z 0) s.2 in (
      omega (arith, d, ap (λ (z : ℕ). get_or l.levels z 0) e, q.8.few (get_or a.parents.now u 0), q.8.level s.0 s.1, q.10 s.0 s.1),
      subst (Within time_reach) (sym (ap (λ (z : ℕ). get_or l.slacks z (pos 0)) s.2 ∙ w.1)) (q.11 s.0 s.1),
      c.requires.within,
    )

pub loop-preserved : goal.loop-preserved
loop-preserved c us j D ls ss C jm e P L₀ =
    let a = c.args in
    let l = c.loop in
    let f = c.follow_parent in
    let ps = a.parents.now in
    let small = spot (goal.at.loop-preserved c).In-loop c.if-at-eq0.false in
    let r = c.requires.by_index.12 small.0 (omega (arith, small.1, c.requires.by_index.6)) in
    let w = l.invariant us j D ls ss C jm e P L₀ in
    let s = prior_at us w.0 l.at w.3 c.if-at-eq0.false in
    let i : ℕ = w.0 - 1 in
    let z : w.0 ≡ suc i = omega (arith, s.0) in
    let L = subst (λ (h : ℕ). Lowered us a.m D a.branch.0 ls ss h l.levels l.slacks) z w.4 in (
      i,
      omega (arith, w.1),
      omega (arith, w.2),
      ap (λ (h : ℕ). get_or a.below.now h 0) s.1 ∙ prior_led us a.below.now C i (omega (arith, w.1, s.0)),
      lowered_step P jm (omega (arith, w.1, s.0)) L (omega (arith, r.2, small.2, s.1)) (omega (arith, r.4, small.2, s.1))
          (subst (λ (h : ℕ). f.new.levels ≡ cond (is_behind ps l.levels h) (set l.levels h (get_or l.levels (get_or ps h 0) 0 + 1)) l.levels) s.1 f.ensures.levels)
          (subst (λ (h : ℕ). f.new.slacks ≡ cond (is_behind ps l.levels h) (set l.slacks h (get_or l.slacks h (pos 0) -ℤ a.branch.0)) l.slacks) s.1 f.ensures.slacks),
    )

pub returns : goal.returns
returns c us j D ls ss C jm e P L =
    let a = c.args in
    let l = c.loop in
    let w = l.invariant us j D ls ss C jm e P L in
    let z : w.0 ≡ 0 = omega (arith, w.2) in
    subst (λ (h : ℕ). Lowered us a.m D a.branch.0 ls ss h l.levels l.slacks) z w.4
