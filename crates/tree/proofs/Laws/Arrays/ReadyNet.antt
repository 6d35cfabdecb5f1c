-- What the arrays of a net say: its sinks in their order, and the ranges of c and of the own slacks. Assumes nothing.
use Prim.Native.Nat.{ℕ, ◌≤◌, ◌<◌}
use mathlib.Core.Path.{◌≡◌, sym, ap, ◌∙◌, subst}
use mathlib.Core.List.{List}
use native.Mathlib.Omega.{arith}
use lib.ListN.{get_or}
use lib.Seq.{get_or-take}
use lib.IntN.{ℤ, pos}
use Rattle.quantities.specs.Inner.Linear.{whole}
use Rattle.quantities.specs.Ranges.{Within}
use Rattle.quantities.specs.Inner.Reach.{term_reach, time_reach}
use Rattle.tree.specs.Net.{Net, size}
use Rattle.tree.specs.Planning.{order}
use Rattle.tree.specs.Limits.{sink_limit}
use Rattle.tree.specs.Inner.DerivedLimits.{own_slack_limit}
use Rattle.tree.specs.Inner.Insertion.{Ready, Lined}
use Rattle.tree.proofs.Laws.Measures.InReach.{own_within}
use Rattle.tree.proofs.Laws.Planning.Steps.{order_in}

pub line_at : {N : Net} {n : ℕ} {sinks : List ℕ} → Lined N n sinks → (i : ℕ) → i < n → get_or sinks i 0 ≡ get_or (order N) i 0
line_at {N} {n} {sinks} L i q = sym (get_or-take n sinks i 0 q) ∙ ap (λ (l : List ℕ). get_or l i 0) L.sinks_are

pub line_in_lem : {N : Net} {n : ℕ} {sinks : List ℕ} → Lined N n sinks → size N ≡ n → (i : ℕ) → i < n → (1 ≤ get_or sinks i 0) × (get_or sinks i 0 ≤ n)
line_in_lem {N} {n} {sinks} L e i q = omega (arith, line_at L i q, order_in N i (omega (arith, e)), e)

pub branch_within : {N : Net} {c : ℤ} {n : ℕ} {own : List ℤ} → Ready N c n own → Within term_reach c
branch_within {N} {c} {n} {own} R = omega (arith, whole, R.branch_is, R.in_range.branch)

pub branch_reach : {N : Net} {c : ℤ} {n : ℕ} {own : List ℤ} → Ready N c n own → Within time_reach c
branch_reach {N} {c} {n} {own} R = omega (arith, whole, R.branch_is, R.in_range.branch)

pub own_slack_within : {N : Net} {c : ℤ} {n : ℕ} {own : List ℤ} → Ready N c n own → (s : ℕ) → 1 ≤ s → s ≤ n → Within own_slack_limit (get_or own s (pos 0))
own_slack_within {N} {c} {n} {own} R s s1 sn = subst (Within own_slack_limit) (sym (R.own_is s s1 sn)) (own_within N R.in_range s s1 (omega (arith, R.size_is)))

pub few_sinks : {N : Net} {c : ℤ} {n : ℕ} {own : List ℤ} → Ready N c n own → (1 ≤ n) × (n ≤ sink_limit)
few_sinks {N} {c} {n} {own} R = subst (λ (m : ℕ). (1 ≤ m) × (m ≤ sink_limit)) R.size_is R.in_range.sinks
