-- The first three lines of a listing, from what they say one after another. Assumes nothing.
use Prim.Native.Nat.{ℕ}
use mathlib.Core.Path.{◌≡◌, refl, ap, ◌∙◌}
use mathlib.Core.List.{List}
use lib.IntN.{ℤ, nat_abs}
use Rattle.tree.specs.Limits.{sink_limit, slack_limit, wire_limit}
use Rattle.formats.specs.Outcome.{Outcome, value, refused, and_then}
use Rattle.formats.specs.Ranges.{around, up_to, from_zero}
use Rattle.formats.specs.NetText.{wire_key, sinks_key}
use Rattle.formats.specs.ListingText.{slack_key}
use Rattle.formats.specs.Reading.Lines.{Read, due_number}
use Rattle.formats.specs.Reading.Listings.{Stated, same_only, read_stated}
use Rattle.formats.specs.Inner.Readers.{ahead, NumberRead}
use Rattle.formats.specs.Inner.ListingReader.{from_total, from_same}
use Rattle.formats.specs.declared.reader.LineReader.{LineReader}
use Rattle.formats.specs.declared.refusal.Text.TheVariants.{InListing}
use Rattle.formats.specs.declared.refusal.Refusal.{Refusal}
use Rattle.formats.proofs.Laws.Lines.Outcomes.{then_then}
use Rattle.reading.specs.Inner.Vertices.{AtLineOf}
use Rattle.reading.proofs.Laws.Steps.{Left, line_refused, line_read}

module _ (n : ℕ) (r : LineReader) (at_start : AtLineOf 1 r) where
  abbrev whole : Outcome (Read Stated)
  whole = read_stated n (ahead r)

  at_slack : Left InListing whole r.text.now 1 (read_stated n) r
  at_slack = record { which_is = at_start.2; text_is = refl; line_is = at_start.1; within = at_start.0; reads = refl }

  module _ (z : ℤ) (r₁ : LineReader) (slack : NumberRead slack_key (around slack_limit) r z r₁) where
    at_total : Left InListing whole r.text.now 2 (from_total n z) r₁
    at_total = line_read InListing whole r.text.now 1 (read_stated n) r at_slack (λ t l u. due_number t l slack_key (around slack_limit) u) _ (λ u. refl) z r₁ slack.read_to slack.same_text

    total_line : (u : List ℕ) → from_total n z u ≡ and_then (due_number InListing 2 wire_key (from_zero wire_limit) u) (λ w. from_same n z (nat_abs w.got) w.rest)
    total_line u = then_then (due_number InListing 2 wire_key (from_zero wire_limit) u) _ _

    module _ (w : ℤ) (r₂ : LineReader) (wire : NumberRead wire_key (from_zero wire_limit) r₁ w r₂) where
      at_count : Left InListing whole r.text.now 3 (from_same n z (nat_abs w)) r₂
      at_count = line_read InListing whole r.text.now 2 (from_total n z) r₁ at_total (λ t l u. due_number t l wire_key (from_zero wire_limit) u) _ total_line w r₂ wire.read_to wire.same_text

      abbrev stated : Read ℕ → Outcome (Read Stated)
      stated count = value (record { got = record { slack = z; wire = nat_abs w }; rest = count.rest })

      count_line : (u : List ℕ) → from_same n z (nat_abs w) u ≡ and_then (due_number InListing 3 sinks_key (up_to sink_limit) u) (λ c. and_then (same_only n (record { got = nat_abs c.got; rest = c.rest })) stated)
      count_line u =
          ap (λ o. and_then o stated) (then_then (due_number InListing 3 sinks_key (up_to sink_limit) u) _ (same_only n))
          ∙ then_then (due_number InListing 3 sinks_key (up_to sink_limit) u) _ _

      pub count_refused : (e : Refusal) → due_number r₂.which r₂.line sinks_key (up_to sink_limit) (ahead r₂) ≡ refused e → whole ≡ refused e
      count_refused e q = line_refused InListing whole r.text.now 3 (from_same n z (nat_abs w)) r₂ at_count (λ t l u. due_number t l sinks_key (up_to sink_limit) u) _ count_line e q
