-- One insertion: the edge that the search finds is the chosen one, so the arrays hold the next tree, its order and its numbers. No loop.
use Rattle.std.proofs.Common.{refl, ℕ, ◌+◌, ◌*◌, ◌<◌, ap, inl, inr, get_or, arith}
use Rattle.tree.proofs.Laws.Arrays.ReadyNet.{few_sinks, line_in_lem}
use Rattle.tree.proofs.Laws.Gathering.Regathering.{place_in, parent_in}
use Rattle.first_tree.proofs.Laws.InsertionLoop.{end_within, none_roomier, end_place, s_next, splits_next, next_order}
use Rattle.first_tree.proofs.insert.insert_next.Goals.{After-choose-v}
use Rattle.first_tree.proofs.insert.insert_next.Goals as goal

pub choose-v-requires-clause-s_in : goal.choose-v-requires-clause-s_in
choose-v-requires-clause-s_in c =
    let r = c.requires.ready.1 in
    omega (arith, line_in_lem r.1 r.0.size_is (c.args.k + 1) (omega arith), few_sinks r.0, r.1.long)

pub choose-v-requires-clause-by_index : goal.choose-v-requires-clause-by_index
choose-v-requires-clause-by_index c i l =
    let r = c.requires.ready.1 in
    let u = (line_in_lem r.1 r.0.size_is i (omega arith)).1 in
    (u, (omega (arith, u), end_within r.0 r.1 r.2 r.3.inserted r.3.gathered c.requires.k_bound.0 (get_or c.args.sinks.now i 0) (inl (i, l, refl))))

pub choose-v-requires-clause-by_index_2 : goal.choose-v-requires-clause-by_index_2
choose-v-requires-clause-by_index_2 c b l h = let r = c.requires.ready.1 in end_within r.0 r.1 r.2 r.3.inserted r.3.gathered c.requires.k_bound.0 b (inr (l, h))

pub choose-v-requires-clause-none_roomier : goal.choose-v-requires-clause-none_roomier
choose-v-requires-clause-none_roomier c = let r = c.requires.ready.1 in none_roomier r.0 r.1 r.2 r.3.inserted r.3.gathered c.requires.k_bound.0

pub regather-requires-clause-ready : goal.regather-requires-clause-ready
regather-requires-clause-ready c =
    let p = c.requires.ready in
    let r = p.1 in
    let kn = c.requires.k_bound.0 in
    let best = c.choose-v.ensures in
    (p.0, (r.0, r.3, s_next r.0 r.1 r.2 r.3.inserted r.3.gathered kn refl best, (splits_next r.0 r.1 r.2 r.3.inserted r.3.gathered kn refl best).0))

-- v and its parent are vertices
in_tree : (c : After-choose-v) → (c.choose-v.result < 2 * c.args.pins.n) × (get_or c.args.parents.now c.choose-v.result 0 < 2 * c.args.pins.n)
in_tree c =
    let r = c.requires.ready.1 in
    let w = end_place r.0 r.1 r.2 r.3.inserted r.3.gathered c.requires.k_bound.0 refl c.choose-v.ensures in
    (omega (arith, place_in r.0 r.3.inserted (omega arith) w.0 w.1, w.2), omega (arith, parent_in r.0 r.3.inserted (omega arith) w.0 w.1, ap (λ (z : ℕ). get_or c.args.parents.now z 0) w.2))

pub offset_bounds-parents-v : goal.offset_bounds-parents-v
offset_bounds-parents-v c = omega (arith, in_tree (goal.at.offset_bounds-parents-v c).After-choose-v, few_sinks c.requires.ready.1.0)

pub bounds-parents-v : goal.bounds-parents-v
bounds-parents-v c = omega (arith, in_tree (goal.at.bounds-parents-v c).After-choose-v)

pub put_before-requires : goal.put_before-requires
put_before-requires c = let r = c.requires.ready.1 in omega (arith, in_tree (goal.at.put_before-requires c).After-choose-v, line_in_lem r.1 r.0.size_is (c.args.k + 1) (omega arith))

pub split_edge-requires : goal.split_edge-requires
split_edge-requires c = let r = c.requires.ready.1 in omega (arith, in_tree (goal.at.split_edge-requires c).After-choose-v, line_in_lem r.1 r.0.size_is (c.args.k + 1) (omega arith))

pub returns : goal.returns
returns c N R L W H =
    let best = c.choose-v.ensures in
    let k = c.requires.k_bound in
    let I = H.inserted in
    let G = H.gathered in
    let n = c.regather.ensures in
    let sn = s_next R L W I G k.0 refl best in
    let X = splits_next R L W I G k.0 refl best in
    let o = next_order R L W I G k.0 refl best c.args.below.now refl k.3 k.4 H.chained c.split_edge.ensures c.put_before.ensures in
    record { upward = o.0; inserted = o.1; chained = o.2; leveled = n.leveled N R H sn X; gathered = n.gathered N R H sn X }
