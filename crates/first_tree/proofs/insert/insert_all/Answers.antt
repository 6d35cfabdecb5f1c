-- The first sink makes the first tree, and after the last insertion the chain is the order from the leaves up.
use Rattle.std.proofs.Common.{◌≡◌, refl, ◌+◌, ◌*◌, ◌-◌, ◌<◌, ℕ, suc, [], ◌∷◌, subst, length, get_or, arith}
use Rattle.tree.specs.Inner.Arrays.{Chained}
use Rattle.tree.proofs.Laws.Arrays.ReadyNet.{few_sinks, line_in_lem}
use Rattle.tree.proofs.Laws.Gathering.Regathering.{place_in}
use Rattle.tree.proofs.Laws.Trees.Upward.{leaves_same}
use Rattle.first_tree.proofs.Laws.InsertionLoop.{insert_first, chain_first, first_leveled, first_gathered, last_order, last_slacks}
use Rattle.first_tree.proofs.insert.insert_all.Goals as goal

pub insert_first-requires : goal.insert_first-requires
insert_first-requires c =
    let r = c.requires.ready.1 in
    omega (arith, few_sinks r.0, r.0.own_long, line_in_lem r.1 r.0.size_is 0 (few_sinks r.0).0)

pub loop-k-init : goal.loop-k-init
loop-k-init c N R L W =
    let a = c.args in
    let p = c.requires.n_in_bounds in
    let f = c.insert_first in
    let e = f.ensures in
    let first = get_or a.sinks.now 0 0 in
    let small = line_in_lem L R.size_is 0 (few_sinks R).0 in
    let l : first < length a.levels.now = omega (arith, p, small, few_sinks R) in
    let s : first < length a.slacks.now = omega (arith, p, small, few_sinks R) in
    let b : first < length a.below.now = omega (arith, p, small, few_sinks R) in
    record {
      upward = first ∷ [];
      inserted = insert_first R L f.new.parents (first ∷ []) e.parents refl;
      chained = chain_first a.below.now first small.0 b e.below;
      leveled = first_leveled R L a.levels.now a.slacks.now refl l s e.levels e.slacks;
      gathered = first_gathered R L a.levels.now a.slacks.now refl l s e.levels e.slacks;
    }

pub write_out-requires-clause-by_index : goal.write_out-requires-clause-by_index
write_out-requires-clause-by_index c =
    let a = c.args in
    let p = c.requires.ready in
    let r = p.1 in
    let l = c.loop-k in
    let i = l.invariant p.0 r.0 r.1 r.2 in
    let some = few_sinks r.0 in
    let m : 2 * l.k + 1 ≡ 2 * a.pins.n - 1 = omega (arith, some) in
    (i.upward, subst (λ (z : ℕ). Chained z i.upward l.below) m i.chained, λ h q. omega (arith, place_in r.0 i.inserted (omega (arith, some)) h (omega (arith, some))))

pub returns-clause-order : goal.returns-clause-order
returns-clause-order c =
    let a = c.args in
    let p = c.requires.ready in
    let r = p.1 in
    let l = c.loop-k in
    let i = l.invariant p.0 r.0 r.1 r.2 in
    let some = few_sinks r.0 in
    let done : a.pins.n ≡ suc l.k = omega (arith, some) in
    let m : 2 * l.k + 1 ≡ 2 * a.pins.n - 1 = omega (arith, some) in
    leaves_same (last_order r.0 i.inserted done) (c.write_out.ensures i.upward (subst (λ (z : ℕ). Chained z i.upward l.below) m i.chained))

pub returns-clause-slacks : goal.returns-clause-slacks
returns-clause-slacks c N R L W =
    let l = c.loop-k in
    let i = l.invariant N R L W in
    let done : c.args.pins.n ≡ suc l.k = omega (arith, few_sinks R) in
    last_slacks R i.inserted done i.gathered
