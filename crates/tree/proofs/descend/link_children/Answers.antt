-- Above all vertices there are no children; each step puts one more before those of its parent; from vertex 1 on they are all.
use Rattle.std.proofs.Common.{◌≡◌, ℕ, ◌*◌, ◌-◌, ◌<◌, arith, subst}
use Rattle.tree.specs.Inner.Descent.{children_from, Stand}
use Rattle.tree.proofs.Laws.Trees.Linking.{linked_more, linked_none}
use Rattle.tree.proofs.descend.link_children.Goals as goal

pub loop-v-init : goal.loop-v-init
loop-v-init c =
    let a = c.args in
    record { low = omega (arith, c.requires.0.some); linked = λ b h. linked_none a.n a.parents.now a.first.now a.second.now b }

pub loop-v-preserved : goal.loop-v-preserved
loop-v-preserved c =
    let a = c.args in
    let w = c.loop-v in
    let inside = c.requires.0.inside (w.v - 1) (omega arith) (omega arith) in
    record {
      low = omega arith;
      linked = linked_more a.n a.parents.now w.first w.second w.v c.loop-v-test.true (omega arith) (omega arith) (omega arith) w.invariant.linked;
    }

pub returns : goal.returns
returns c =
    let a = c.args in
    let w = c.loop-v in
    let e : w.v ≡ 1 = omega (arith, w.invariant.low) in
    record {
      parents_in_lem = c.requires.0;
      counts = c.requires.1;
      children_at = subst (λ (v : ℕ). (b : ℕ) → b < 2 * a.n → Stand w.first w.second b (children_from a.n a.parents.now v b)) e w.invariant.linked;
    }
