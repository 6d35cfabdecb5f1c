-- The first sink alone is in at the start, each insertion adds one, and at the end all are in.
use Rattle.std.proofs.Common.{ℕ, ◌*◌, ◌≤◌, ◌<◌, List, ◌++◌, length, get_or, take, drop, replicate, ◌≡◌, sym, ◌∙◌, subst, arith, rules, add-one}
use Rattle.std.proofs.lemmas.List.{places}
use Rattle.short_tree.specs.Inner.Arrays.{Room, Held}
use Rattle.short_tree.proofs.Laws.Ends.{held_start, held_end}
use Rattle.short_tree.proofs.grow.short.Goals as goal

-- the first 2n places of an array are emptied
emptied : (n : ℕ) (l now : List ℕ) → 2 * n ≤ length l → now ≡ replicate (length (take (2 * n) l)) 0
    → (length (now ++ drop (2 * n) l) ≡ length l) × ((v : ℕ) → v < 2 * n → get_or (now ++ drop (2 * n) l) v 0 ≡ 0)
emptied n l now h e =
    let m : length (take (2 * n) l) ≡ 2 * n = search (rules, places) in
    rw e (search (rules, places), λ v b. search (rules, places))

pub loop-k-init : goal.loop-k-init
loop-k-init c N h =
    let a = c.args in
    let r = c.requires.room in
    let z = emptied a.n a.parents.now c.fill.new.self r.parents_long (c.fill.ensures.after (λ y e. e)) in
    let y = emptied a.n a.kept.now c.fill-2.new.self r.kept_long (c.fill-2.ensures.after (λ y e. e)) in
    let f = c.nearest_sink-first in
    let t = c.keep_first in
    let parents : List ℕ = c.fill.new.self ++ drop (2 * a.n) a.parents.now in
    let room : Room a.n a.xs.now a.ys.now parents t.new.kept t.new.costs = record {
      xs_long = r.xs_long;
      ys_long = r.ys_long;
      parents_long = omega (arith, r.parents_long, z.0);
      kept_long = omega (arith, r.kept_long, t.auto.kept, y.0);
      costs_long = omega (arith, r.costs_long, t.auto.costs);
    } in
    held_start N a.n h.pins a.xs.now a.ys.now parents t.new.kept t.new.costs f.result room
    h.stand z.1 f.ensures t.ensures.inside (λ v l m. t.ensures.beyond v l ∙ y.1 v m) t.ensures.waiting

pub loop-k-preserved : goal.loop-k-preserved
loop-k-preserved c N h =
    let l = c.loop-k in
    let r = c.insert_next in
    subst (λ (j : ℕ). Held N c.args.n j r.new.xs r.new.ys r.new.parents r.new.kept r.new.costs) (sym (add-one l.k)) (r.ensures N h.pins (l.invariant N h))

pub returns-clause-tree : goal.returns-clause-tree
returns-clause-tree c N h =
    let l = c.loop-k in
    held_end N c.args.n l.k h.pins (omega (arith, h.pins.some)) l.xs l.ys l.parents (l.invariant N h).tracks
