-- The first three lines are put: each where the one before it ends.
use Rattle.std.proofs.Common.{◌+◌, ◌≤◌, [], ◌∷◌, ◌++◌, length, ℤ, pos, ap, ◌∙◌, zero-add, arith}
use mir.Syntax.{w64}
use mir.Val.{to_z}
use Rattle.quantities.specs.Inner.Linear.{rd}
use Rattle.tree.specs.Limits.{slack_limit}
use Rattle.formats.specs.Line.{line_text}
use Rattle.formats.specs.NetText.{wire_key, sinks_key}
use Rattle.formats.specs.ListingText.{slack_key}
use Rattle.formats.proofs.Laws.Numbers.Signs.{plain_back}
use Rattle.formats.proofs.Laws.Writing.{fits_first}
use Rattle.formats.proofs.Laws.Listings.ListingWriting.{within_back}
use Rattle.writing.proofs.Laws.Lines.{put_as, next_put}
use Rattle.writing.proofs.listing_view.ListingView.put_head.Goals as goal

pub returns : goal.returns
returns c =
    let v = c.args.self in
    let out = c.args.out.now in
    let slack = line_text slack_key (v.slack.0 ∷ []) in
    let wire = line_text wire_key (pos v.wire.0 ∷ []) in
    let sinks = line_text sinks_key (pos v.n ∷ []) in
    let slack_is = ap (λ (z : ℤ). line_text slack_key (z ∷ [])) (ap rd c.attoseconds.ensures ∙ within_back slack_limit v.slack.0 (omega arith) v.in_range.slack) in
    let wire_is = ap (λ (z : ℤ). line_text wire_key (z ∷ [])) (ap (to_z w64) c.nanometres.ensures ∙ plain_back v.wire.0 (omega (arith, v.in_range.wire))) in
    let sinks_is = ap (λ (z : ℤ). line_text sinks_key (z ∷ [])) (plain_back v.n (omega (arith, v.in_range.sinks))) in
    let room : 0 + length ((slack ++ wire) ++ sinks) ≤ length out = rw (zero-add (length ((slack ++ wire) ++ sinks))) c.requires in
    let first = put_as 0 _ slack slack_is out _ _ c.put_line-first.ensures in
    let second = next_put out 0 slack wire (fits_first out 0 (slack ++ wire) sinks room) _ _ first _ wire_is _ _ c.put_line-second.ensures in
    next_put out 0 (slack ++ wire) sinks room _ _ second _ sinks_is _ _ c.put_line.ensures
