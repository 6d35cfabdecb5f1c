-- The total weight of the two that are taken fits, and the stores are those of one join (JoinArrays). No loop.
use Rattle.std.proofs.Common.{◌≡◌, List, ℕ, ◌+◌, ◌*◌, ◌≤◌, get_or, ℤ, pos, ◌+ℤ◌, FitsSigned, w64, refl, sym, ap₂, ◌∙◌, subst, arith}
use Rattle.std.proofs.lemmas.Int.{to_z-of_z}
use Rattle.quantities.specs.Inner.Linear.{whole, rd}
use Rattle.tree.specs.Limits.{sink_limit, weight_limit}
use Rattle.weighted_tree.specs.Inner.Arrays.{Takes}
use Rattle.weighted_tree.proofs.Laws.JoinArrays.{next_total, next_fits, next_joined}
use Rattle.weighted_tree.proofs.join.join_next.Goals as goal

-- of queues that are the same
same_takes : {n k n' k' : ℕ} {ws ws' : List ℤ} {os os' : List ℕ} (i j v i' j' : ℕ) → (n' ≡ n) × (k' ≡ k) × (ws' ≡ ws) × (os' ≡ os)
    → Takes n' k' (λ u. get_or ws' u (pos 0)) (λ q. get_or os' q 0) i j v i' j' → Takes n k (λ u. get_or ws u (pos 0)) (λ q. get_or os q 0) i j v i' j'
same_takes i j v i' j' e t =
    subst (λ (T : Type 0). T) (λ x. Takes (e.0 x) (e.1 x) (λ u. get_or (e.2 x) u (pos 0)) (λ q. get_or (e.3 x) q 0) i j v i' j') t

-- two weights as they are read, and their total as it is kept
total : (p q : ℤ) (a b : ℕ) → p ≡ pos a → q ≡ pos b → a + b ≤ sink_limit * weight_limit → FitsSigned w64 (rd p +ℤ rd q) × (rd (rd p +ℤ rd q) ≡ pos (a + b))
total p q a b e d few =
    let fp : FitsSigned w64 p = omega (arith, whole) in
    let fq : FitsSigned w64 q = omega (arith, whole) in
    let s : rd p +ℤ rd q ≡ pos (a + b) = ap₂ ◌+ℤ◌ (to_z-of_z w64 p fp ∙ e) (to_z-of_z w64 q fq ∙ d) in
    let fits : FitsSigned w64 (pos (a + b)) = omega (arith, whole) in
    let f : FitsSigned w64 (rd p +ℤ rd q) = subst (FitsSigned w64) (sym s) fits in
    (f, to_z-of_z w64 (rd p +ℤ rd q) f ∙ s)

pub overflow_add-weights : goal.overflow_add-weights
overflow_add-weights c =
    let a = c.args in
    let x = c.take_first-x in
    let y = c.take_first-y in
    let held = c.requires.by_index.1.1 in
    let two = same_takes _ _ y.result y.new.self.sinks y.new.self.branches x.ensures.same y.ensures.takes in
    let t = next_total a.n a.k a.i _ a.weights.now a.order.now a.parents.now held c.requires.k_bound.0 x.result x.new.self.sinks x.new.self.branches x.ensures.takes y.result y.new.self.sinks y.new.self.branches two in
    let l = next_fits a.n a.k a.i _ a.weights.now a.order.now a.parents.now held c.requires.k_bound.0 x.result x.new.self.sinks x.new.self.branches x.ensures.takes y.result y.new.self.sinks y.new.self.branches two c.requires.by_index.0 refl c.requires.by_index.1.0 c.requires.k_bound.1 in
    (total _ _ _ _ t.0 t.1 l).0

pub returns : goal.returns
returns c w r held =
    let a = c.args in
    let x = c.take_first-x in
    let y = c.take_first-y in
    let two = same_takes _ _ y.result y.new.self.sinks y.new.self.branches x.ensures.same y.ensures.takes in
    let t = next_total a.n a.k a.i _ a.weights.now a.order.now a.parents.now held c.requires.k_bound.0 x.result x.new.self.sinks x.new.self.branches x.ensures.takes y.result y.new.self.sinks y.new.self.branches two in
    let l = next_fits a.n a.k a.i _ a.weights.now a.order.now a.parents.now held c.requires.k_bound.0 x.result x.new.self.sinks x.new.self.branches x.ensures.takes y.result y.new.self.sinks y.new.self.branches two w refl r c.requires.k_bound.1 in
    next_joined a.n a.k a.i _ a.weights.now a.order.now a.parents.now held c.requires.k_bound.0 x.result x.new.self.sinks x.new.self.branches x.ensures.takes y.result y.new.self.sinks y.new.self.branches two
    (omega arith) (omega arith) (a.n + a.k + 1) (omega arith) _ (total _ _ _ _ t.0 t.1 l).1
