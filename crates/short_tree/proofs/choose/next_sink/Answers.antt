-- All sinks are looked at, and one waits: so there is a best, and it goes in next.
use Rattle.std.proofs.Common.{ℕ, ◌+◌, List, Option, ◌≡◌, sym, ap, ◌∙◌, subst, arith}
use Rattle.std.specs.Prelude.{ℤ}
use Rattle.std.specs.Option.{unwrap_or}
use Rattle.short_tree.specs.Inner.Arrays.{Waits, SameZeros, Looked, Chosen}
use Rattle.short_tree.proofs.Laws.SinkSearch.{looked_end}
use Rattle.short_tree.proofs.choose.next_sink.Goals as goal
use Rattle.short_tree.proofs.choose.next_sink.Goals.{else-loop-s-test, then-loop-s-test+else-s-n}

-- the best is taken out of its option, in the arrays as they are named at the end
taken : (n : ℕ) (parents : List ℕ) (xs ys : List ℤ) (kept₀ : List ℕ) {kept kept' costs costs' : List ℕ} {best best' : Option ℕ} {s result : ℕ} → kept' ≡ kept → costs' ≡ costs → best' ≡ best → result ≡ unwrap_or best' 0 → s ≡ n + 1
    → (w : ℕ) × Waits n kept₀ w → SameZeros kept₀ kept → Looked parents xs ys kept costs s best → Chosen n parents xs ys kept' costs' result
taken n parents xs ys kept₀ {kept} {kept'} {costs} {costs'} {best} {best'} {s} {result} k c b r e w z F =
    subst (λ i. Chosen n parents xs ys i costs' result) (sym k)
    (subst (λ i. Chosen n parents xs ys kept i result) (sym c)
    (subst (λ i. Chosen n parents xs ys kept costs i) (sym (r ∙ ap (λ (o : Option ℕ). unwrap_or o 0) b))
    (looked_end parents xs ys n kept costs s w.0 best e (w.1.0, w.1.1, λ i. w.1.2 ((z w.0).1 i)) F)))

pub returns-clause-chosen : goal.returns-clause-chosen
returns-clause-chosen c =
    let a = c.args in
    let t = a.tree in
    let l = c.loop-s in
    elim c.loop-s-test.branch [
      | else-loop-s-test w ↦ taken a.n t.parents.now t.xs.now t.ys.now a.kept.now {kept = l.kept} {costs = l.costs} {best = l.best} {s = l.s} w.kept-is w.costs-is w.best-is c.unwrap_or.ensures (omega arith) c.requires.in_bounds.3 l.invariant.zeros l.invariant.looked
      | then-loop-s-test+else-s-n w ↦
          let r = w.better_sink-best in
          taken a.n t.parents.now t.xs.now t.ys.now a.kept.now {kept = r.new.kept} {costs = r.new.costs} {best = r.result} {s = l.s + 1} w.kept-is w.costs-is w.best-is c.unwrap_or.ensures (omega arith) c.requires.in_bounds.3
          (λ u. ((λ e. (r.ensures.zeros u).0 ((l.invariant.zeros u).0 e)), (λ e. (l.invariant.zeros u).1 ((r.ensures.zeros u).1 e)))) r.ensures.looked
    ]
