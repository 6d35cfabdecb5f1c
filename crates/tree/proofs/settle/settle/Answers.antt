-- A sink stays and a branch point moves to its place, whose children stand in theirs already; at the end all do.
use Rattle.std.proofs.Common.{◌≡◌, ℕ, ◌+◌, ◌*◌, ◌-◌, ◌≤◌, ◌<◌, arith, get_or, take, length-take, get_or-take}
use native.Mathlib.Decide.{dec_le}
use Rattle.tree.specs.Inner.Arrays.{parents_of}
use Rattle.tree.proofs.Laws.Settling.SettleLoop.{Settled, children_in_lem, settled_none, settles_sink, settled_step, settled_all}
use Rattle.tree.proofs.settle.settle.Goals as goal

pub settle_vertex-requires : goal.settle_vertex-requires
settle_vertex-requires c =
    let a = c.args in
    let l = c.loop-v in
    let kids = c.list_children.new.kids in
    let i : l.v-index < 2 * a.n - 1 = omega (arith, length-take (2 * a.n - 1) a.upward.now) in
    let v : ℕ = get_or (take (2 * a.n - 1) a.upward.now) l.v-index 0 in
    let at : v ≡ get_or a.upward.now l.v-index 0 = get_or-take (2 * a.n - 1) a.upward.now l.v-index 0 i in
    let w = c.requires.parents.2.inside l.v-index i in
    let low : 1 ≤ v = omega arith in
    let high : v < 2 * a.n = omega arith in
    let r : a.n < v → (get_or kids (2 * v) 0 < 2 * a.n) × (get_or kids (2 * v + 1) 0 < 2 * a.n)
    = λ h. children_in_lem a.n (parents_of a.n a.parents.now) c.requires.parents.1 v kids h high (c.list_children.ensures v h high) in
    record {
      room = (omega (arith, c.requires.n_in_bounds), omega (arith, c.requires.n_in_bounds), λ h. omega (arith, c.list_children.auto, c.requires.n_in_bounds));
      left = λ h. omega (arith, r h, c.requires.n_in_bounds);
      right = λ h. omega (arith, r h, c.requires.n_in_bounds);
    }

pub loop-v-init : goal.loop-v-init
loop-v-init c =
    let a = c.args in
    settled_none a.n a.parents.now a.upward.now a.xs.now a.ys.now

pub loop-v-preserved : goal.loop-v-preserved
loop-v-preserved c =
    let a = c.args in
    let l = c.loop-v in
    let m = c.settle_vertex in
    let kids = c.list_children.new.kids in
    let i : l.v-index < 2 * a.n - 1 = omega (arith, length-take (2 * a.n - 1) a.upward.now) in
    let v : ℕ = get_or (take (2 * a.n - 1) a.upward.now) l.v-index 0 in
    let at : v ≡ get_or a.upward.now l.v-index 0 = get_or-take (2 * a.n - 1) a.upward.now l.v-index 0 i in
    let w = c.requires.parents.2.inside l.v-index i in
    let high : v < 2 * a.n = omega arith in
    let step : Dec (v ≤ a.n) → Settled a.n a.parents.now a.upward.now a.xs.now a.ys.now (l.v-index + 1) m.new.xs m.new.ys
    = λ q. elim q [
      | yes h ↦ settles_sink a.n a.parents.now a.upward.now a.xs.now a.ys.now l.v-index l.xs l.ys m.new.xs m.new.ys (omega arith) (m.ensures.sink h).0 (m.ensures.sink h).1 l.invariant
      | no h ↦ settled_step a.n a.parents.now a.upward.now a.xs.now a.ys.now c.requires.parents.1 c.requires.parents.2 l.v-index v kids l.xs l.ys m.new.xs m.new.ys i at (omega arith)
          (omega (arith, c.requires.n_in_bounds)) (omega (arith, c.requires.n_in_bounds)) (c.list_children.ensures v (omega arith) high) (m.ensures.branch (omega arith)).0 (m.ensures.branch (omega arith)).1 l.invariant
    ] in
    step (dec_le v a.n)

pub returns : goal.returns
returns c =
    let a = c.args in
    let l = c.loop-v in
    record {
      tree = settled_all a.n a.parents.now a.upward.now a.xs.now a.ys.now c.requires.parents.1 c.requires.parents.2 l.v-index l.xs l.ys (omega (arith, length-take (2 * a.n - 1) a.upward.now, c.requires.n_in_bounds)) l.invariant;
      kept = l.invariant.kept;
    }
