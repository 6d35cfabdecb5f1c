-- The length of the nodes' lines: the sum over the branch points, which is no more than the longest listing.
use Rattle.std.proofs.Common.{◌≡◌, ℕ, suc, ◌+◌, ◌*◌, ◌-◌, length, refl, ◌∙◌, arith, rules, tests}
use Rattle.std.specs.List.{range_with_len}
use Rattle.std.proofs.lemmas.Iterator.{YieldsList-from_range, YieldsList-from_map}
use Rattle.std.proofs.lemmas.Iterator.Consumers.{YieldsList-at, sum_by_from_yields_List, fits_by_from_yields_list}
use Rattle.formats.specs.ListingText.{node_text}
use Rattle.writing.specs.Inner.ListingSeen.{listing_seen}
use Rattle.writing.proofs.Laws.LineLengths.{lines_length}
use Rattle.writing.proofs.Laws.ListingLines.{seen_short}
use Rattle.writing.proofs.listing_view.ListingView.nodes_length.Goals as goal

pub sum-requires-clause-fits : goal.sum-requires-clause-fits
sum-requires-clause-fits c =
    let n = c.args.self.n in
    let line = node_text n (listing_seen c.args.self).tree in
    let long = λ (k : ℕ). length (line k) in
    let start : n + 1 ≡ suc n = omega arith in
    fits_by_from_yields_list long (range_with_len (n + 1) (n - 1)) c.map.result 18446744073709551616
    (YieldsList-from_map _ long (YieldsList-at c.map.ensures.source (YieldsList-from_range (n + 1) (2 * n) (n - 1) refl (omega arith))) c.map.ensures.closure (λ x r q k. search (rules, tests)))
    (rw start (omega (arith, lines_length line (suc n) (n - 1), seen_short c.args.self)))

pub returns : goal.returns
returns c =
    let n = c.args.self.n in
    let line = node_text n (listing_seen c.args.self).tree in
    let long = λ (k : ℕ). length (line k) in
    let start : n + 1 ≡ suc n = omega arith in
    sum_by_from_yields_List long (range_with_len (n + 1) (n - 1)) c.map.result c.sum.result c.sum.ensures.ran
    (YieldsList-from_map _ long (YieldsList-at c.map.ensures.source (YieldsList-from_range (n + 1) (2 * n) (n - 1) refl (omega arith))) c.map.ensures.closure (λ x r q k. search (rules, tests)))
    ∙ rw start (lines_length line (suc n) (n - 1))
