-- The text of a net in range, or of a listing in range, is within its length; so it is in the format, that of a net where its pins are near enough, and so are the longest. Assumes nothing.
use Prim.Native.Nat.{ℕ, zero, suc, ◌+◌, ◌*◌, ◌-◌, ◌^◌, ◌≤◌, ◌<◌}
use mathlib.Core.Path.{◌≡◌, refl, sym, ap, ◌∙◌, subst}
use mathlib.Core.List.{List, [], ◌∷◌}
use lib.ListN.{length, replicate, length-append, length-replicate, get_or-replicate, get_or-map}
use lib.IntN.{ℤ, pos, neg_ℤ}
use mathlib.Core.Bool.{true, false}
use lib.Dec.{ltb}
use native.Mathlib.Omega.{arith}
use Rattle.quantities.specs.Inner.Linear.{whole, abs_le}
use Rattle.quantities.specs.Distance.{distance}
use Rattle.quantities.specs.Ranges.{Within, PointWithin}
use Rattle.quantities.proofs.Laws.Distance.{distance_self}
use Rattle.tree.specs.Lists.{range}
use Rattle.tree.specs.Net.{Net, Sink, size, sink_at, required}
use Rattle.tree.specs.Tree.{parent_of}
use Rattle.tree.specs.Weights.{weight_of}
use Rattle.tree.specs.Limits.{position_limit, branch_limit, wire_factor_limit, need_limit, sink_limit, required_limit, slack_limit, wire_limit, weight_limit, InRange, WeightsInRange}
use Rattle.formats.specs.Limits.{net_length_limit, pin_limit, listing_length_limit}
use Rattle.formats.specs.Decimal.{digits, show_nat, show}
use Rattle.formats.specs.NetText.{sink_key, WeightedSink, sinks_text, weighted, net_lines, net_text, pin_distance, InFormat}
use Rattle.formats.specs.TextLengths.{corner, longest_net, longest_weights, longest_listing, TextLengths}
use Rattle.formats.specs.ListingText.{Listing, leaf_key, node_key, node_point, leaf_text, node_text, lines_text, listing_text, ListingInRange, ListingInFormat}
use Rattle.formats.proofs.Laws.Numbers.Decimal.{show_nat-length, show_length}
use Rattle.formats.proofs.Laws.Lines.Elements.{All}
use Rattle.formats.proofs.Laws.Nets.Weighing.{weighted_length}
use Rattle.formats.proofs.Laws.Nets.SinkTexts.{LineIn}
use Rattle.formats.proofs.Laws.Nets.NetTexts.{lines_in}

-- ---- numbers

-- the digits of m: the least k from 1 on, and at most 20, with m below 10^k
abbrev width_from : ℕ → ℕ → ℕ → ℕ
width_from zero k m = k
width_from (suc f) k m = elim (ltb m (10 ^ k)) [ true ↦ k | false ↦ width_from f (suc k) m ]

abbrev width : ℕ → ℕ
width m = width_from 20 1 m

-- the most bytes of a coordinate, and of a line of each kind
abbrev position_width : ℕ
position_width = suc (width position_limit)

abbrev sink_width : ℕ
sink_width = length sink_key + (2 * position_width + suc (width required_limit) + width weight_limit + 4)

abbrev leaf_width : ℕ
leaf_width = length leaf_key + (width sink_limit + width (2 * sink_limit) + 2)

abbrev node_width : ℕ
node_width = length node_key + (2 * width (2 * sink_limit) + 2 * position_width + 4)

-- a natural number below 10^k
plain : (n k : ℕ) → n < 10 ^ k → 1 ≤ k → length (show (pos n)) ≤ k
unfolding show
plain n k h p = show_nat-length n k h p

-- a number from -m to m, where m is below 10^k
ranged : (m k : ℕ) (z : ℤ) → Within m z → m < 10 ^ k → 1 ≤ k → length (show z) ≤ k + 1
ranged m k z h b p = let a = abs_le z m h.0 h.1 in show_length z k (omega arith) p

position : (z : ℤ) → Within position_limit z → length (show z) ≤ position_width
position z h = ranged position_limit (width position_limit) z h (omega arith) (omega arith)

-- ---- a net

sinks_short : (l : List WeightedSink) → All LineIn l → length (sinks_text l) ≤ length l * sink_width
sinks_short [] h = omega arith
sinks_short (s ∷ l) h =
    simp length-append
    (omega (arith, position s.sink.point.x h.0.0.0.0, position s.sink.point.y h.0.0.0.1, ranged required_limit (width required_limit) s.sink.required h.0.0.1 (omega arith) (omega arith), plain s.weight (width weight_limit) (omega (arith, h.0.1)) (omega arith), sinks_short l h.1))

pub net_short : (N : Net) (w : List ℕ) → InRange N → WeightsInRange (size N) w → length (net_text N w) ≤ net_length_limit
unfolding net_lines
net_short N w h v =
    simp length-append
    (omega (
      arith,
      position N.root.x h.root.0,
      position N.root.y h.root.1,
      plain N.branch (width branch_limit) (omega (arith, h.branch)) (omega arith),
      plain N.wire.horizontal.0 (width wire_factor_limit) (omega (arith, h.wire.0)) (omega arith),
      plain N.wire.vertical.0 (width wire_factor_limit) (omega (arith, h.wire.1)) (omega arith),
      ranged need_limit (width need_limit) N.need h.need (omega arith) (omega arith),
      plain (size N) (width sink_limit) (omega (arith, h.sinks)) (omega arith),
      sinks_short (weighted N.sinks w) (lines_in N w h v),
      ap (λ (k : ℕ). k * sink_width) (weighted_length N.sinks w v.size),
    ))

-- ---- a listing

lines_short : (f : ℕ → List ℕ) (b a m : ℕ) → ((k : ℕ) → a ≤ k → k < a + m → length (f k) ≤ b) → length (lines_text f (range a m)) ≤ m * b
lines_short f b a zero h = omega arith
lines_short f b a (suc m) h =
    simp length-append (omega (arith, h a (omega arith) (omega arith), lines_short f b (suc a) m (λ k p q. h k (omega arith) (omega arith))))

module _ (n : ℕ) (G : Listing) (h : ListingInRange n G) where
  parent_low : (k : ℕ) → 1 ≤ k → k < 2 * n → parent_of G.tree.parents k < 2 * n
  parent_low zero p q = absurd (omega arith)
  parent_low (suc i) p q = h.parents i (omega (arith, h.parents_all))

  leaf_short : (k : ℕ) → 1 ≤ k → k < 1 + n → length (leaf_text G.tree.parents k) ≤ leaf_width
  leaf_short k p q =
      let w : parent_of G.tree.parents k < 2 * n = parent_low k p (omega arith) in
      simp length-append (omega (arith, plain k (width sink_limit) (omega (arith, h.sinks)) (omega arith), plain (parent_of G.tree.parents k) (width (2 * sink_limit)) (omega (arith, h.sinks)) (omega arith)))

  node_short : (k : ℕ) → suc n ≤ k → k < suc n + (n - 1) → length (node_text n G.tree k) ≤ node_width
  node_short k p q =
      let w : parent_of G.tree.parents k < 2 * n = parent_low k (omega arith) (omega arith) in
      let c = h.points (k - suc n) (omega (arith, h.points_all)) in
      simp length-append
      (omega (
        arith,
        plain k (width (2 * sink_limit)) (omega (arith, h.sinks)) (omega arith),
        plain (parent_of G.tree.parents k) (width (2 * sink_limit)) (omega (arith, h.sinks)) (omega arith),
        position (node_point n G.tree.points k).x c.0,
        position (node_point n G.tree.points k).y c.1,
      ))

  pub listing_short : length (listing_text n G) ≤ listing_length_limit
  unfolding listing_text
  listing_short =
      simp length-append
      (omega (
        arith,
        h.sinks,
        ranged slack_limit (width slack_limit) G.slack h.slack (omega arith) (omega arith),
        plain G.wire (width wire_limit) (omega (arith, h.wire)) (omega arith),
        plain n (width sink_limit) (omega (arith, h.sinks)) (omega arith),
        lines_short (leaf_text G.tree.parents) leaf_width 1 n leaf_short,
        lines_short (node_text n G.tree) node_width (suc n) (n - 1) node_short,
      ))

-- ---- so what is in range, and near enough, has a text in the format

pub net_in_format : (N : Net) (w : List ℕ) → InRange N → WeightsInRange (size N) w → ((v : ℕ) → 1 ≤ v → v ≤ size N → pin_distance N v ≤ pin_limit) → InFormat (net_text N w) N
net_in_format N w h k near = record { weights = w; spelled = refl; in_range = h; weighed = k; near = near; short = net_short N w h k }

pub listing_in_format : (n : ℕ) (G : Listing) → ListingInRange n G → ListingInFormat n (listing_text n G) G
listing_in_format n G h = record { spelled = refl; in_range = h; short = listing_short n G h }

-- ---- the longest of both

abbrev longest_sink : Sink
longest_sink = record { point = corner; required = neg_ℤ (pos required_limit) }

corner_within : PointWithin position_limit corner
corner_within = ((omega (arith, whole), omega (arith, whole)), (omega (arith, whole), omega (arith, whole)))

longest_at : (s : ℕ) → 1 ≤ s → s ≤ size longest_net → sink_at longest_net s ≡ corner
longest_at zero h l = absurd (omega arith)
longest_at (suc i) h l = get_or-map (λ s. s.point) (replicate sink_limit longest_sink) i longest_sink ∙ ap (λ s. s.point) (get_or-replicate sink_limit i longest_sink longest_sink (omega (arith, length-replicate sink_limit longest_sink)))

longest_due : (s : ℕ) → 1 ≤ s → s ≤ size longest_net → required longest_net s ≡ neg_ℤ (pos required_limit)
longest_due zero h l = absurd (omega arith)
longest_due (suc i) h l =
    get_or-map (λ s. s.required) (replicate sink_limit longest_sink) i (record { point = corner; required = pos 0 })
    ∙ ap (λ s. s.required) (get_or-replicate sink_limit i longest_sink (record { point = corner; required = pos 0 }) (omega (arith, length-replicate sink_limit longest_sink)))

longest_in_range : InRange longest_net
longest_in_range = record {
  root = corner_within;
  branch = (omega arith, omega arith);
  wire = ((omega arith, omega arith), (omega arith, omega arith));
  need = (omega (arith, whole), omega (arith, whole));
  sinks = (omega (arith, length-replicate sink_limit longest_sink), omega (arith, length-replicate sink_limit longest_sink));
  points = λ s h l. subst (PointWithin position_limit) (sym (longest_at s h l)) corner_within;
  required = λ s h l. subst (Within required_limit) (sym (longest_due s h l)) (omega (arith, whole), omega (arith, whole));
}

longest_weighed : WeightsInRange (size longest_net) longest_weights
longest_weighed = record { size = length-replicate sink_limit weight_limit ∙ sym (length-replicate sink_limit longest_sink); each = each }
  where
    each : (s : ℕ) → 1 ≤ s → s ≤ size longest_net → (1 ≤ weight_of longest_weights s) × (weight_of longest_weights s ≤ weight_limit)
    each zero p q = absurd (omega arith)
    each (suc i) p q =
        let e : weight_of longest_weights (suc i) ≡ weight_limit = get_or-replicate sink_limit i weight_limit 0 (omega (arith, length-replicate sink_limit longest_sink)) in
        (omega arith, omega arith)

longest_near : (v : ℕ) → 1 ≤ v → v ≤ size longest_net → pin_distance longest_net v ≤ pin_limit
longest_near v h l = let e : pin_distance longest_net v ≡ 0 = ap (distance corner) (longest_at v h l) ∙ distance_self corner in omega arith

longest_listed : ListingInRange sink_limit longest_listing
longest_listed = record {
  slack = (omega (arith, whole), omega (arith, whole));
  wire = omega arith;
  sinks = (omega arith, omega arith);
  parents_all = omega (arith, length-replicate (2 * sink_limit - 1) (2 * sink_limit - 1));
  points_all = length-replicate (sink_limit - 1) corner;
  parents = λ i l. omega (arith, get_or-replicate (2 * sink_limit - 1) i (2 * sink_limit - 1) 0 (omega (arith, length-replicate (2 * sink_limit - 1) (2 * sink_limit - 1))));
  points = λ i l. subst (PointWithin position_limit) (sym (get_or-replicate (sink_limit - 1) i corner _ (omega (arith, length-replicate (sink_limit - 1) corner)))) corner_within;
}

pub text_lengths : TextLengths
unfolding net_lines listing_text digits show_nat show
text_lengths = record {
  nets = net_short;
  listings = listing_short;
  longest_net_lem = (net_in_format longest_net longest_weights longest_in_range longest_weighed longest_near, refl);
  longest_listing_lem = (listing_in_format sink_limit longest_listing longest_listed, refl);
}
