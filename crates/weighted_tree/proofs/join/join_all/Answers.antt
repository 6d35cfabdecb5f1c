-- No vertex has a parent at first; each step is a join (join_next), and n - 1 of them are all.
use Rattle.std.proofs.Common.{◌≡◌, ℕ, suc, ◌+◌, ◌*◌, ◌≤◌, ◌<◌, List, ◌++◌, length, get_or, take, drop, replicate, refl, ◌∙◌, subst, arith, rules}
use Rattle.std.proofs.lemmas.List.{places}
use Rattle.tree.specs.Inner.Arrays.{weights_of}
use Rattle.weighted_tree.specs.Joining.{joined_after}
use Rattle.weighted_tree.specs.Inner.Arrays.{Joined}
use Rattle.weighted_tree.proofs.Laws.JoinArrays.{start_joined, end_joined}
use Rattle.weighted_tree.proofs.join.join_all.Goals as goal

emptied : (n : ℕ) (ps now : List ℕ) → 2 * n ≤ length ps → now ≡ replicate (length (take (2 * n) ps)) 0
    → (length (now ++ drop (2 * n) ps) ≡ length ps) × ((v : ℕ) → v < 2 * n → get_or (now ++ drop (2 * n) ps) v 0 ≡ 0)
emptied n ps now h e =
    let m : length (take (2 * n) ps) ≡ 2 * n = search (rules, places) in
    rw e (search (rules, places), λ v l. search (rules, places))

pub loop-k-init : goal.loop-k-init
loop-k-init c =
    let a = c.args in
    let e = emptied a.n a.parents.now c.fill.new.self (omega arith) (c.fill.ensures.after (λ y e. e)) in
    (refl, e.0, start_joined a.n a.weights.now a.order.now (c.fill.new.self ++ drop (2 * a.n) a.parents.now) c.requires.1 c.requires.0 c.requires.5 c.requires.6 e.1)

pub loop-k-preserved : goal.loop-k-preserved
loop-k-preserved c =
    let a = c.args in
    let l = c.loop-k in
    let r = c.join_next-i in
    let w = weights_of a.n a.weights.now in
    let e : suc l.k ≡ l.k + 1 = omega arith in
    (r.auto.weights ∙ l.invariant.0, r.auto.parents ∙ l.invariant.1, subst (λ (k : ℕ). Joined a.n k r.result (joined_after a.n w k) r.new.weights a.order.now r.new.parents) e (r.ensures w c.requires.0.in_range l.invariant.2))

pub returns : goal.returns
returns c =
    let a = c.args in
    let l = c.loop-k in
    end_joined a.n l.k l.i (weights_of a.n a.weights.now) l.weights a.order.now l.parents (omega arith) l.invariant.2
