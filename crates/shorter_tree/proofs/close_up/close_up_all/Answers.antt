-- Each array closes up after the other; what they then hold is the net, the weights and the tree without the sink (`holds_shorter`). No loop.
use Rattle.std.proofs.Common.{◌≡◌, ℕ, suc, ◌*◌, ◌≤◌, ◌<◌, List, get_or, pos, arith, rules}
use Rattle.std.proofs.iter.Serving.{serving}
use Rattle.tree.specs.Limits.{sink_limit}
use Rattle.tree.specs.Tree.{Legal}
use Rattle.tree.specs.Inner.Arrays.{parents_of, Parents}
use Rattle.shorter_tree.specs.Inner.Arrays.{old}
use Rattle.shorter_tree.proofs.Laws.HeldShorter.{branch_in, old_below, old_sink_below, holds_shorter}
use Rattle.shorter_tree.proofs.close_up.close_up_all.Goals as goal

-- what is required of the numbers and of the parents
abbrev Asked : ℕ → ℕ → List ℕ → Type 0
Asked n s ps = Parents n ps × Legal n (parents_of n ps) × (2 ≤ n) × (1 ≤ s) × (s ≤ n)

-- the sink's branch point
abbrev gone : ℕ → List ℕ → ℕ
gone s ps = get_or ps s 0

branch : (n s : ℕ) (ps : List ℕ) → Asked n s ps → (n < gone s ps) × (gone s ps < 2 * n)
branch n s ps r = branch_in n s ps r.1 r.2 r.3 r.4

-- an array of so many places closes up below m
abbrev CanClose : ℕ → List ℕ → ℕ → ℕ → Type 0
CanClose s ps m long = (1 ≤ s) × (s < gone s ps) × (m ≤ 2 * sink_limit) × (m ≤ long) × ((x : ℕ) → x < m → old s (gone s ps) x < long)

-- one with a place for each vertex, and one with a place for each sink
vertices : (n s : ℕ) (ps : List ℕ) → Asked n s ps → (m long : ℕ) → suc (suc m) ≡ 2 * n → 2 * n ≤ long → CanClose s ps m long
vertices n s ps r m long e l =
    let b = branch n s ps r in
    (r.3, omega arith, omega (arith, r.0.few), omega arith, λ x h. omega (arith, old_below n s (gone s ps) x (omega arith)))

sinks : (n s : ℕ) (ps : List ℕ) → Asked n s ps → (long : ℕ) → n < long → CanClose s ps n long
sinks n s ps r long l =
    let b = branch n s ps r in
    (r.3, omega arith, omega (arith, r.0.few), omega arith, λ x h. omega (arith, old_sink_below n s (gone s ps) x b.0 h))

pub close_up-requires-clause-numbers : goal.close_up-requires-clause-numbers
close_up-requires-clause-numbers c = let a = c.args in vertices a.n a.s a.parents.now c.requires.tree _ _ (omega (arith, c.requires.tree)) c.requires.tree.0.long

pub close_up-requires-clause-callable : goal.close_up-requires-clause-callable
close_up-requires-clause-callable c =
    let b = branch c.args.n c.args.s c.args.parents.now c.requires.tree in
    let h : c.args.s < gone c.args.s c.args.parents.now = omega (arith, c.requires.tree) in
    grind serving

pub close_up-requires-2-clause-numbers : goal.close_up-requires-2-clause-numbers
close_up-requires-2-clause-numbers c = let a = c.args in vertices a.n a.s a.parents.now c.requires.tree _ _ (omega (arith, c.requires.tree)) c.requires.room.0

pub close_up-requires-3-clause-numbers : goal.close_up-requires-3-clause-numbers
close_up-requires-3-clause-numbers c = let a = c.args in vertices a.n a.s a.parents.now c.requires.tree _ _ (omega (arith, c.requires.tree)) c.requires.room.1

pub close_up-requires-4-clause-numbers : goal.close_up-requires-4-clause-numbers
close_up-requires-4-clause-numbers c = let a = c.args in sinks a.n a.s a.parents.now c.requires.tree _ c.requires.room.2

pub close_up-requires-5-clause-numbers : goal.close_up-requires-5-clause-numbers
close_up-requires-5-clause-numbers c = let a = c.args in sinks a.n a.s a.parents.now c.requires.tree _ c.requires.room.3

pub returns : goal.returns
returns c =
    let a = c.args in
    let r = c.requires.tree in
    let ps = c.close_up in
    let xs = c.close_up-2 in
    let ys = c.close_up-3 in
    let rs = c.close_up-4 in
    let ws = c.close_up-5 in
    holds_shorter a.n a.s a.parents.now r.1 r.2 r.3 r.4 ps.new.values a.xs.now a.ys.now a.required.now a.weights.now xs.new.values ys.new.values rs.new.values ws.new.values
    (λ x from to. let h = ps.ensures.closed x 0 from to in search rules)
    (λ x from to. let h = xs.ensures.closed x (pos 0) from to in search rules) (xs.ensures.first (pos 0))
    (λ x from to. let h = ys.ensures.closed x (pos 0) from to in search rules) (ys.ensures.first (pos 0))
    (λ x from to. let h = rs.ensures.closed x (pos 0) from to in search rules)
    (λ x from to. let h = ws.ensures.closed x (pos 0) from to in search rules)
