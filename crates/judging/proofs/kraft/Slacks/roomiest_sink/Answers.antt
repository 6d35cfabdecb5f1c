-- The search may end early, since no split leaves more than the worst slack; else the roomier of two goes on (largest_more).
use Rattle.std.proofs.Common.{◌≡◌, ℕ, ◌+◌, ◌-◌, Bool, true, false, cond, Less, Greater, Equal, get_or, ℤ, pos, ◌-ℤ◌, ◌≤ℤ◌, refl, sym, ap, ◌∙◌, subst, arith}
use Rattle.std.specs.Int.Signed.{lt_z}
use Rattle.std.specs.Ordering.{int_cmp, is_ge}
use Rattle.std.proofs.lemmas.Bool.{false≢true}
use Rattle.quantities.specs.Inner.Linear.{whole}
use Rattle.quantities.proofs.Laws.MinMax.{min_le_left}
use Rattle.judging.specs.Inner.SinkSplits.{LargestAt, worst_if_split}
use Rattle.judging.proofs.Laws.Largest.{largest_more, largest_rest}
use Rattle.judging.proofs.kraft.Slacks.roomiest_sink.Goals as goal

not_less : (a b : ℤ) → true ≡ is_ge (int_cmp a b) → b ≤ℤ a
not_less a b e = go (lt_z a b) refl
  where
    go : (t : Bool) → lt_z a b ≡ t → b ≤ℤ a
    go true q = absurd (false≢true (sym (e ∙ ap (λ (t : Bool). is_ge (cond t Less (cond (lt_z b a) Greater Equal))) q)))
    go false q = omega (arith, whole)

pub returns-then-ge-clause-sink : goal.returns-then-ge-clause-sink
returns-then-ge-clause-sink c =
    let s = c.args.self in
    let w = c.loop-u in
    let h = c.if-ge in
    let i = w.invariant in
    largest_rest (worst_if_split s.worst.0 s.branch.0 s.slacks.now) (w.u - 1) s.n w.best.sink s.worst.0 i.0 (omega arith)
    (λ v. min_le_left s.worst.0 (get_or s.slacks.now v (pos 0) -ℤ s.branch.0)) (subst (λ (z : ℤ). s.worst.0 ≤ℤ z) i.1 (not_less w.best.worst.0 s.worst.0 h.ensures))

pub loop-u-preserved : goal.loop-u-preserved
loop-u-preserved c =
    let s = c.args.self in
    let f = worst_if_split s.worst.0 s.branch.0 s.slacks.now in
    let w = c.loop-u in
    let b = c.roomier-best in
    let r = largest_more f w.u w.best.sink w.best.worst.0 (omega arith) w.invariant.0 w.invariant.1 in
    let e : w.u ≡ w.u + 1 - 1 = omega arith in
    (subst (λ (m : ℕ). LargestAt f m b.result.sink) e (subst (LargestAt f w.u) (sym b.ensures.sink) r.0), b.ensures.worst ∙ r.1 ∙ ap f (sym b.ensures.sink))
