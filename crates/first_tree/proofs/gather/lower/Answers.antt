-- v goes one level down, and where it is a branch point those under it follow; a sink has none under it. No loop.
use Rattle.std.proofs.Common.{◌≡◌, List, ℕ, ◌+◌, ◌<◌, ◌∙◌, sym, ap, subst, get_or, set, length-set, ℤ, pos, arith, rules}
use Rattle.std.specs.Prelude.{◌-ℤ◌}
use mir.Facts.{to_z-of_z}
use mir.Syntax.{w64}
use mir.Val.{SFits}
use Rattle.quantities.specs.Inner.Linear.{rd}
use Rattle.tree.specs.Inner.Regathering.{DeepensUnder, Lowered}
use Rattle.tree.proofs.Laws.Gathering.Lowering.{lowered_first, lowered_sink}
use Rattle.first_tree.proofs.gather.lower.Goals.{After-attoseconds}
use Rattle.first_tree.proofs.gather.lower.Goals as goal

-- the number as it is stored
stored : (c : After-attoseconds) → rd c.attoseconds.result ≡ get_or c.args.slacks.now c.args.v (pos 0) -ℤ c.args.branch.0
stored c =
    let a = c.args in
    let read : SFits w64 (get_or a.slacks.now a.v (pos 0)) = search rules in
    let made : SFits w64 c.attoseconds.result = search rules in
    to_z-of_z made ∙ c.attoseconds.ensures ∙ c.sub.ensures ∙ ap (λ (z : ℤ). z -ℤ a.branch.0) (c.of.ensures ∙ to_z-of_z read)

-- v alone has gone down
first : (c : After-attoseconds) (us : List ℕ) (j : ℕ) (D : ℕ → ℕ) → j < c.args.m → get_or us j 0 ≡ c.args.v → DeepensUnder c.args.parents.now us c.args.n c.args.m j c.args.levels.now D
    → Lowered us c.args.m D c.args.branch.0 c.args.levels.now c.args.slacks.now j (set c.args.levels.now c.args.v (get_or c.args.levels.now c.args.v 0 + 1)) (set c.args.slacks.now c.args.v (rd c.attoseconds.result))
first c us j D jm e S =
    let a = c.args in
    let q = c.requires.by_index in
    let l = q.9 q.1 q.4 in
    let ls = a.levels.now in
    let ss = a.slacks.now in
    subst (λ (y : ℤ). Lowered us a.m D a.branch.0 ls ss j (set ls a.v (get_or ls a.v 0 + 1)) (set ss a.v y)) (sym (stored c))
    (subst (λ (z : ℕ). Lowered us a.m D a.branch.0 ls ss j (set ls z (get_or ls z 0 + 1)) (set ss z (get_or ss z (pos 0) -ℤ a.branch.0))) e
    (lowered_first S jm (omega (arith, l.2, q.5, e)) (omega (arith, l.4, q.5, e))))

pub lower_below-requires-clause-by_index : goal.lower_below-requires-clause-by_index
lower_below-requires-clause-by_index c =
    let a = c.args in
    let q = c.requires.by_index in (
      q.0,
      q.1,
      q.2,
      a.levels.now,
      a.slacks.now,
      q.3,
      q.4,
      q.5,
      q.6.deepens,
      first (goal.at.lower_below-requires-clause-by_index c).After-attoseconds q.0 q.1 q.2 q.4 q.5 q.6,
      (λ h l. q.7 h (omega (arith, q.4))),
      (λ h l. q.8 h (omega (arith, q.4))),
      λ h l. let r = q.9 h l in omega (arith, r, length-set a.levels.now a.v (get_or a.levels.now a.v 0 + 1), length-set a.slacks.now a.v (rd c.attoseconds.result)),
    )

pub returns-then-n-v : goal.returns-then-n-v
returns-then-n-v c us j D C jm e S =
    c.lower_below.ensures us j D c.args.levels.now c.args.slacks.now C jm e S.deepens (first (goal.at.returns-then-n-v c).After-attoseconds us j D jm e S)

pub returns-else-n-v : goal.returns-else-n-v
returns-else-n-v c us j D C jm e S = lowered_sink S (omega (arith, e)) jm (first (goal.at.returns-else-n-v c).After-attoseconds us j D jm e S)
