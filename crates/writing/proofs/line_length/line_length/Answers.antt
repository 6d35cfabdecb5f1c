-- The length of a line: the sum over its numbers, which are four at most and short.
use Rattle.std.proofs.Common.{arith, rules, tests, length-append}
use Rattle.std.proofs.lemmas.Iterator.{YieldsList-from_slice, YieldsList-from_map}
use Rattle.std.proofs.lemmas.Iterator.Consumers.{YieldsList-at, sum_by_from_yields_List, fits_by_from_yields_list}
use Rattle.formats.specs.Line.{row_text}
use Rattle.writing.proofs.Laws.LineLengths.{entry_length, row_length, entries_short}
use Rattle.writing.proofs.line_length.line_length.Goals as goal

pub sum-numbers-requires-clause-fits : goal.sum-numbers-requires-clause-fits
sum-numbers-requires-clause-fits g c =
    fits_by_from_yields_list entry_length c.args.values c.map.result _ (YieldsList-from_map _ entry_length (YieldsList-at c.map.ensures.source (YieldsList-from_slice c.args.values cc)) c.map.ensures.closure (λ x r q k. search (rules, tests))) (omega (arith, entries_short c.args.values c.requires.writable))

pub overflow_add-result : goal.overflow_add-result
overflow_add-result g c =
    let total = sum_by_from_yields_List entry_length c.args.values c.map.result _ c.sum-numbers.ensures.ran (YieldsList-from_map _ entry_length (YieldsList-at c.map.ensures.source (YieldsList-from_slice c.args.values cc)) c.map.ensures.closure (λ x r q k. search (rules, tests))) in
    omega (arith, total, entries_short c.args.values c.requires.writable)

pub returns : goal.returns
returns g c =
    let total = sum_by_from_yields_List entry_length c.args.values c.map.result _ c.sum-numbers.ensures.ran (YieldsList-from_map _ entry_length (YieldsList-at c.map.ensures.source (YieldsList-from_slice c.args.values cc)) c.map.ensures.closure (λ x r q k. search (rules, tests))) in
    record {
      value = omega (arith, total, row_length c.args.values (omega arith) c.requires.writable, length-append c.args.key.now (row_text c.args.values));
      short = omega (arith, total, entries_short c.args.values c.requires.writable);
    }
