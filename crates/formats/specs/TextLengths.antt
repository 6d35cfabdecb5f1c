-- 02, request 5: "Both texts may have 32,768 bytes.", as a statement: the lengths take nothing from the formats, the weights of request 7 included.
use Rattle.std.specs.Prelude.{ℕ, ◌*◌, ◌-◌, ◌≤◌, ◌≡◌, List, length, replicate, pos, neg_ℤ}
use Rattle.quantities.specs.declared.point.Point.{Point}
use Rattle.tree.specs.Limits.{position_limit, branch_limit, wire_factor_limit, need_limit, sink_limit, required_limit, slack_limit, wire_limit, weight_limit, InRange, WeightsInRange}
use Rattle.tree.specs.Marked.{point, metals}
use Rattle.tree.specs.Net.{Net, size}
use Rattle.formats.specs.Limits.{net_length_limit, listing_length_limit}
use Rattle.formats.specs.NetText.{net_text, InFormat}
use Rattle.formats.specs.ListingText.{Listing, listing_text, ListingInRange, ListingInFormat}

-- a net of 512 sinks, and a listing of so many, with the longest numbers of all ranges
abbrev pub corner : Point
corner = point (neg_ℤ (pos position_limit)) (neg_ℤ (pos position_limit))

abbrev pub longest_net : Net
longest_net = record {
  root = corner;
  branch = branch_limit;
  wire = metals wire_factor_limit wire_factor_limit;
  need = neg_ℤ (pos need_limit);
  sinks = replicate sink_limit (record { point = corner; required = neg_ℤ (pos required_limit) });
}

abbrev pub longest_weights : List ℕ
longest_weights = replicate sink_limit weight_limit

abbrev pub longest_listing : Listing
longest_listing = record {
  slack = neg_ℤ (pos slack_limit);
  wire = wire_limit;
  tree = record { parents = replicate (2 * sink_limit - 1) (2 * sink_limit - 1); points = replicate (sink_limit - 1) corner };
}

pub record TextLengths : Type 0 where
  -- whatever is in range is within its length
  pub nets : (N : Net) (w : List ℕ) → InRange N → WeightsInRange (size N) w → length (net_text N w) ≤ net_length_limit
  pub listings : (n : ℕ) (G : Listing) → ListingInRange n G → length (listing_text n G) ≤ listing_length_limit
  -- so are the two above, which are in the format
  pub longest_net_lem : InFormat (net_text longest_net longest_weights) longest_net × (length (net_text longest_net longest_weights) ≡ 25_695)
  pub longest_listing_lem : ListingInFormat sink_limit (listing_text sink_limit longest_listing) longest_listing × (length (listing_text sink_limit longest_listing) ≡ 25_533)
