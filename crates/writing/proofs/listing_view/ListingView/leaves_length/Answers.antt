-- The length of the leaves' lines: the sum over the sinks, which is no more than the longest listing.
use Rattle.std.proofs.Common.{ℕ, ◌+◌, length, refl, ◌∙◌, arith, rules, tests}
use Rattle.std.specs.List.{range_with_len}
use Rattle.std.proofs.lemmas.Iterator.{YieldsList-from_range, YieldsList-from_map}
use Rattle.std.proofs.lemmas.Iterator.Consumers.{YieldsList-at, sum_by_from_yields_List, fits_by_from_yields_list}
use Rattle.formats.specs.ListingText.{leaf_text}
use Rattle.writing.specs.Inner.ListingSeen.{listing_seen}
use Rattle.writing.proofs.Laws.LineLengths.{lines_length}
use Rattle.writing.proofs.Laws.ListingLines.{seen_short}
use Rattle.writing.proofs.listing_view.ListingView.leaves_length.Goals as goal

pub sum-requires-clause-fits : goal.sum-requires-clause-fits
sum-requires-clause-fits c =
    let n = c.args.self.n in
    let line = leaf_text (listing_seen c.args.self).tree.parents in
    let long = λ (k : ℕ). length (line k) in
    fits_by_from_yields_list long (range_with_len 1 n) c.map.result 18446744073709551616
    (YieldsList-from_map _ long (YieldsList-at c.map.ensures.source (YieldsList-from_range 1 (n + 1) n refl (omega arith))) c.map.ensures.closure (λ x r q k. search (rules, tests)))
    (omega (arith, lines_length line 1 n, seen_short c.args.self))

pub returns : goal.returns
returns c =
    let n = c.args.self.n in
    let line = leaf_text (listing_seen c.args.self).tree.parents in
    let long = λ (k : ℕ). length (line k) in
    sum_by_from_yields_List long (range_with_len 1 n) c.map.result c.sum.result c.sum.ensures.ran
    (YieldsList-from_map _ long (YieldsList-at c.map.ensures.source (YieldsList-from_range 1 (n + 1) n refl (omega arith))) c.map.ensures.closure (λ x r q k. search (rules, tests)))
    ∙ lines_length line 1 n
