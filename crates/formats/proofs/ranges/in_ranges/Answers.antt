use Rattle.std.proofs.Common.{arith, ◌∙◌, sym, rules, pos}
use Rattle.std.proofs.lemmas.List.{length-replicate}
use Rattle.formats.proofs.Laws.Numbers.Ranges.{narrow_at, found_start, found_out, found_more, found_all}
use Rattle.formats.proofs.ranges.in_ranges.Goals as goal

pub loop-k-init : goal.loop-k-init
loop-k-init g c = found_start _ _ _ (omega arith) (omega (arith, length-replicate g.row.K (pos 0)))

pub in_range-requires : goal.in_range-requires
in_range-requires g c = narrow_at _ _ _ (omega arith) c.requires.0

pub returns-in_err-values : goal.returns-in_err-values
returns-in_err-values g c zs e = c.from_residual.ensures ∙ found_out _ _ _ _ c.loop-k.invariant (omega arith) _ _ _ c.in_range.ensures (sym c.in_err-values.was) zs e

pub loop-k-preserved : goal.loop-k-preserved
loop-k-preserved g c = found_more _ _ _ _ c.loop-k.invariant (omega arith) _ _ _ c.in_range.ensures _ (search rules)

pub returns : goal.returns
returns g c = found_all _ _ _ _ c.loop-k.invariant (omega arith)
