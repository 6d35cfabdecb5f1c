-- No sink is in at first, then the first alone, then one more at each step.
use Rattle.std.proofs.Common.{◌≡◌, ℕ, suc, ◌+◌, ◌-◌, ◌≤◌, ◌<◌, List, length, get_or, set, take, drop, replicate, ℤ, pos, FitsSigned, w64, sym, ◌∙◌, subst, add-one, arith, rules}
use Rattle.std.proofs.Math.ListN.{length-set}
use Rattle.std.proofs.lemmas.List.{places}
use borrow.Rule.Slice.PartMut.{put_mid}
use Rattle.std.proofs.lemmas.Int.{to_z-of_z}
use Rattle.quantities.specs.Inner.Linear.{whole, rd}
use Rattle.tree.proofs.Laws.Arrays.ReadyNet.{own_slack_within}
use Rattle.tree.specs.SmallestSlack.{sinks_in}
use Rattle.judging.specs.Inner.SinkSplits.{Kept, absent}
use Rattle.judging.proofs.Laws.SinkArrays.{some_sink, sink_in, first_kept, worst_maximum}
use Rattle.judging.proofs.kraft.worst_of_all.Goals as goal

-- the slacks with no sink in
abbrev emptied : ℕ → List ℤ → List ℤ → List ℤ
emptied n xs ys = put_mid 1 (n + 1 - 1) xs ys

emptied_is : (n : ℕ) (xs ys : List ℤ) → n < length xs → ys ≡ replicate (length (take (n + 1 - 1) (drop 1 xs))) absent
    → (length (emptied n xs ys) ≡ length xs) × ((u : ℕ) → 1 ≤ u → u ≤ n → get_or (emptied n xs ys) u (pos 0) ≡ absent)
emptied_is n xs ys l e =
    let m : length (take (n + 1 - 1) (drop 1 xs)) ≡ n = search (rules, places) in
    rw e (search (rules, places), λ u from to. search (rules, places))

pub offset_bounds-own-first : goal.offset_bounds-own-first
offset_bounds-own-first c = let A = c.requires.sinks_ready.1 in omega (arith, sink_in A 0 (some_sink A).0)

pub bounds-own-first : goal.bounds-own-first
bounds-own-first c = let A = c.requires.sinks_ready.1 in omega (arith, sink_in A 0 (some_sink A).0, A.ready.own_long)

pub offset_bounds-slacks-first : goal.offset_bounds-slacks-first
offset_bounds-slacks-first c = let A = c.requires.sinks_ready.1 in omega (arith, sink_in A 0 (some_sink A).0)

pub bounds-slacks-first : goal.bounds-slacks-first
bounds-slacks-first c = let A = c.requires.sinks_ready.1 in let e = emptied_is c.args.n c.args.slacks.now c.fill.new.self (omega arith) (c.fill.ensures.after (λ y e. e)) in omega (arith, e.0, sink_in A 0 (some_sink A).0)

pub loop-k-init : goal.loop-k-init
loop-k-init c =
    let a = c.args in
    let first = get_or a.sinks.now 0 0 in
    let slack = get_or a.own.now first (pos 0) in
    let e = emptied_is a.n a.slacks.now c.fill.new.self (omega arith) (c.fill.ensures.after (λ y e. e)) in
    let now = emptied a.n a.slacks.now c.fill.new.self in (
      length-set now first (rd slack) ∙ e.0,
      λ N A.
          let s = sink_in A 0 (some_sink A).0 in
          let f : FitsSigned w64 slack = omega (arith, whole, own_slack_within A.ready first s.0 s.1) in
          subst (Kept N (sinks_in N 0) (set now first (rd slack))) (sym c.of-worst.ensures) (first_kept A now (rd slack) (omega (arith, e.0)) e.1 (to_z-of_z w64 slack f)),
    )

pub loop-k-preserved : goal.loop-k-preserved
loop-k-preserved c =
    let l = c.loop-k in
    let r = c.next_worst-worst in
    (r.auto.slacks ∙ l.invariant.0, λ N A. subst (λ (j : ℕ). Kept N (sinks_in N j) r.new.slacks r.result.0) (sym (add-one l.k)) (r.ensures N A (l.invariant.1 N A)))

pub returns : goal.returns
returns c N A =
    let l = c.loop-k in
    let all : c.args.n ≡ suc l.k = omega (arith, some_sink A) in
    worst_maximum A l.k (l.invariant.1 N A) (omega arith) all
