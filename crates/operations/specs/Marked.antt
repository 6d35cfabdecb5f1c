-- The marked nets and lines of document 01, by 02's request 4 "restated with h = v", with the weight 1 of its request 7, and those of its requests 1, 2, 4, 5 and 7, as one statement: what is said of texts here, the rest in the tree's own.
use Rattle.std.specs.Prelude.{ℕ, ◌≤◌, ◌≡◌, List, [], ◌∷◌, ◌++◌, length, ℤ, pos, neg_ℤ}
use Prim.Native.String.{String}
use Rattle.quantities.specs.declared.point.Point.{Point}
use Rattle.tree.specs.Limits.{need_limit}
use Rattle.tree.specs.Net.{Net}
use Rattle.tree.specs.Marked as tree
use Rattle.formats.specs.Bytes.{bytes}
use Rattle.formats.specs.NetText.{InFormat}
use Rattle.formats.specs.Outcome.{value, refused}
use Rattle.formats.specs.declared.refusal.Text.TheVariants.{InNet, InListing}
use Rattle.formats.specs.declared.refusal.Refusal.{Refusal}
use Rattle.formats.specs.declared.refusal.Refusal.TheVariants.{NotDue, OutOfRange, Unreachable, WrongChildren, NotReached, OtherSlack, OtherWire, FarPin}
use Rattle.operations.specs.Answers.{plan_of, plan_listing, judge_of}

-- A, and A with `need=1`
abbrev pub text_a : List ℕ
text_a = bytes "root=0,0\nbranch=20\nwire=2,2\nneed=0\nsinks=3\nsink=10,0,100,1\nsink=4,6,60,1\nsink=10,10,70,1\n"

abbrev pub text_a1 : List ℕ
text_a1 = bytes "root=0,0\nbranch=20\nwire=2,2\nneed=1\nsinks=3\nsink=10,0,100,1\nsink=4,6,60,1\nsink=10,10,70,1\n"

-- "prints exactly, a line each"
abbrev pub listing_a : List ℕ
listing_a = bytes "slack=0\nwire=32\nsinks=3\nleaf=1,5\nleaf=2,5\nleaf=3,4\nnode=4,0,4,0\nnode=5,4,4,0\n"

-- A's listing, by how its slack and wire are spelt
abbrev pub stated_a : String → String → List ℕ
stated_a slack wire = bytes "slack=" ++ (bytes slack ++ (bytes "\nwire=" ++ (bytes wire ++ bytes "\nsinks=3\nleaf=1,5\nleaf=2,5\nleaf=3,4\nnode=4,0,4,0\nnode=5,4,4,0\n")))

-- "Three sinks at the root 0,0 with a = 0, c = 20, d = 2, t = -40"
abbrev pub text_three : List ℕ
text_three = bytes "root=0,0\nbranch=20\nwire=2,2\nneed=-40\nsinks=3\nsink=0,0,0,1\nsink=0,0,0,1\nsink=0,0,0,1\n"

abbrev pub listing_three : List ℕ
listing_three = bytes "slack=-40\nwire=0\nsinks=3\nleaf=1,5\nleaf=2,4\nleaf=3,5\nnode=4,0,0,0\nnode=5,4,0,0\n"

-- 02, request 1: the edge above a branch point is the nearest, and the nearer of two sinks
abbrev pub text_root_nearest : List ℕ
text_root_nearest = bytes "root=0,0\nbranch=20\nwire=2,2\nneed=-40\nsinks=3\nsink=10,0,20,1\nsink=10,0,20,1\nsink=1,0,2,1\n"

abbrev pub listing_root_nearest : List ℕ
listing_root_nearest = bytes "slack=-40\nwire=10\nsinks=3\nleaf=1,4\nleaf=2,4\nleaf=3,5\nnode=4,5,10,0\nnode=5,0,1,0\n"

abbrev pub text_nearer_sink : List ℕ
text_nearer_sink = bytes "root=0,0\nbranch=20\nwire=2,2\nneed=-40\nsinks=3\nsink=10,0,20,1\nsink=0,10,20,1\nsink=1,10,22,1\n"

abbrev pub listing_nearer_sink : List ℕ
listing_nearer_sink = bytes "slack=-40\nwire=21\nsinks=3\nleaf=1,4\nleaf=2,5\nleaf=3,5\nnode=4,0,0,0\nnode=5,4,0,10\n"

-- 02, request 2: a net of one sink, by how its root and the sink's position are spelt, and the net that it is where both are in range
abbrev pub pin_text : String → String → List ℕ
pin_text root pin = bytes "root=" ++ (bytes root ++ (bytes "\nbranch=20\nwire=2,2\nneed=-2000000000000000\nsinks=1\nsink=" ++ (bytes pin ++ bytes ",100,1\n")))

abbrev pub pin_net : Point → Point → Net
pin_net root pin = record { root = root; branch = 20; wire = tree.metals 2 2; need = neg_ℤ (pos need_limit); sinks = record { point = pin; required = pos 100 } ∷ [] }

-- 02, request 4: the pins of A with other arrivals, by how the two factors are spelt, and the listing of its plan with h = 2 and v = 6
abbrev pub metals_text : String → List ℕ
metals_text factors = bytes "root=0,0\nbranch=20\nwire=" ++ (bytes factors ++ bytes "\nneed=0\nsinks=3\nsink=10,0,100,1\nsink=4,6,110,1\nsink=10,10,150,1\n")

abbrev pub listing_metals : List ℕ
listing_metals = bytes "slack=30\nwire=26\nsinks=3\nleaf=1,5\nleaf=2,4\nleaf=3,5\nnode=4,0,4,0\nnode=5,4,10,0\n"

-- 02, request 5: a net of one sink at the root, by how its c, t and a are spelt, and the net that it is where they are in range
abbrev pub range_text : String → String → String → List ℕ
range_text branch need required = bytes "root=0,0\nbranch=" ++ (bytes branch ++ (bytes "\nwire=2,2\nneed=" ++ (bytes need ++ (bytes "\nsinks=1\nsink=0,0," ++ (bytes required ++ bytes ",1\n")))))

abbrev pub range_net : ℕ → ℤ → ℤ → Net
range_net branch need required = record { root = tree.point (pos 0) (pos 0); branch = branch; wire = tree.metals 2 2; need = need; sinks = tree.sink (pos 0) (pos 0) required ∷ [] }

-- 02, request 7: a net of one sink at X,0, by how what stands after its a is spelt, and A where sink 2 has no weight
abbrev pub weight_text : String → String → List ℕ
weight_text x weight = bytes "root=0,0\nbranch=20\nwire=2,2\nneed=0\nsinks=1\nsink=" ++ (bytes x ++ (bytes ",0,0" ++ (bytes weight ++ bytes "\n")))

abbrev pub text_unweighted : List ℕ
text_unweighted = bytes "root=0,0\nbranch=20\nwire=2,2\nneed=0\nsinks=3\nsink=10,0,100,1\nsink=4,6,60\nsink=10,10,70,1\n"

-- a net that is refused so by plan and by judge, whatever the output or the listing is
pub record TurnedAway (net : List ℕ) (e : Refusal) : Type 0 where
  pub plan : (room : ℕ) → plan_of net room ≡ refused e
  pub judge : (listing : List ℕ) → judge_of net listing ≡ refused e

pub record Marked : Type 0 where
  pub measures : tree.Marked
  pub a_format : InFormat text_a tree.net_a
  pub a_listing : plan_listing tree.net_a ≡ listing_a
  -- "slack=0", "wire=32", and the listing's bytes, into any output that has room for them
  pub a_plan : (room : ℕ) → length listing_a ≤ room → plan_of text_a room ≡ value (record { slack = pos 0; wire = 32; bytes = listing_a })
  -- "The judge program, given A in net.txt and this in tree.txt, prints `slack=0`, `wire=32`, `best=0`."
  pub a_judge : judge_of text_a listing_a ≡ value (record { slack = pos 0; wire = 32; best = pos 0 })
  -- "A with `need=1`: 5,1,4", whatever the output's length
  pub a_need : (room : ℕ) → plan_of text_a1 room ≡ refused Unreachable
  -- judge "does not look at need"
  pub a_need_judge : judge_of text_a1 listing_a ≡ value (record { slack = pos 0; wire = 32; best = pos 0 })
  -- three sinks at the root: "slack -40, wire 0, .. parents of 1 to 5 are 5, 4, 5, 0, 4", and t = -40 is reached
  pub three_format : InFormat text_three tree.three_at_root
  pub three_plan : (room : ℕ) → length listing_three ≤ room → plan_of text_three room ≡ value (record { slack = neg_ℤ (pos 40); wire = 0; bytes = listing_three })
  pub three_judge : judge_of text_three listing_three ≡ value (record { slack = neg_ℤ (pos 40); wire = 0; best = neg_ℤ (pos 40) })
  -- "A's listing with `slack=1`: 11,2,1. With `wire=31`: 12,2,2."
  pub a_slack : judge_of text_a (stated_a "1" "32") ≡ refused OtherSlack
  pub a_wire : judge_of text_a (stated_a "0" "31") ≡ refused OtherWire
  -- "n = 3, parents of 1 to 5 are 0, 4, 5, 5, 4: 10,2,5."
  pub ring : judge_of text_a (bytes "slack=0\nwire=32\nsinks=3\nleaf=1,0\nleaf=2,4\nleaf=3,5\nnode=4,5,4,0\nnode=5,4,4,0\n") ≡ refused (NotReached 5)
  -- "n = 3, parents 4, 4, 4, 0, 4: 9,2,7."
  pub four_children : judge_of text_a (bytes "slack=0\nwire=32\nsinks=3\nleaf=1,4\nleaf=2,4\nleaf=3,4\nnode=4,0,4,0\nnode=5,4,4,0\n") ≡ refused (WrongChildren 7)
  -- "Empty net: 2,1,1. `branch=0`: 3,1,2. `need=-0`: 2,1,4. .. `sinks=513`: 3,1,5."
  pub empty_net : TurnedAway [] (NotDue InNet 1)
  pub branch_0 : TurnedAway (bytes "root=0,0\nbranch=0\nwire=2,2\nneed=0\nsinks=3\nsink=10,0,100,1\nsink=4,6,60,1\nsink=10,10,70,1\n") (OutOfRange InNet 2)
  pub need_minus_0 : TurnedAway (bytes "root=0,0\nbranch=20\nwire=2,2\nneed=-0\nsinks=3\nsink=10,0,100,1\nsink=4,6,60,1\nsink=10,10,70,1\n") (NotDue InNet 4)
  pub sinks_513 : TurnedAway (bytes "root=0,0\nbranch=20\nwire=2,2\nneed=0\nsinks=513\nsink=10,0,100,1\nsink=4,6,60,1\nsink=10,10,70,1\n") (OutOfRange InNet 5)
  -- the two nets of request 1, their whole listings, and that judge reads them back
  pub root_format : InFormat text_root_nearest tree.root_nearest
  pub root_listing : plan_listing tree.root_nearest ≡ listing_root_nearest
  pub root_judge : judge_of text_root_nearest listing_root_nearest ≡ value (record { slack = neg_ℤ (pos 40); wire = 10; best = neg_ℤ (pos 40) })
  pub sink_format : InFormat text_nearer_sink tree.nearer_sink
  pub sink_listing : plan_listing tree.nearer_sink ≡ listing_nearer_sink
  pub sink_judge : judge_of text_nearer_sink listing_nearer_sink ≡ value (record { slack = neg_ℤ (pos 40); wire = 21; best = neg_ℤ (pos 40) })
  -- "X 100000 passes, 100001: 3", of the root and the sinks, and Y the same: by request 5 they "become 100000000 and 100000001", by request 2 the first passes
  -- "only with a root near enough": else 13,1,6
  pub across_near : InFormat (pin_text "60000000,0" "100000000,0") (pin_net (tree.point (pos 60_000_000) (pos 0)) (tree.point (pos 100_000_000) (pos 0)))
  pub corner_near : InFormat (pin_text "-100000000,100000000" "-100000000,100000000") (pin_net (tree.point (neg_ℤ (pos 100_000_000)) (pos 100_000_000)) (tree.point (neg_ℤ (pos 100_000_000)) (pos 100_000_000)))
  pub across : TurnedAway (pin_text "0,0" "100000000,0") (FarPin 6)
  pub root_x_range : TurnedAway (pin_text "100000001,0" "100000000,0") (OutOfRange InNet 1)
  pub root_y_range : TurnedAway (pin_text "0,-100000001" "0,-100000000") (OutOfRange InNet 1)
  -- "right after 3 on that line": 100000001 is out of range, however far off
  pub sink_x_range : TurnedAway (pin_text "0,0" "100000001,0") (OutOfRange InNet 6)
  pub sink_y_range : TurnedAway (pin_text "0,100000000" "0,100000001") (OutOfRange InNet 6)
  -- "The pin limit of request 2 is 40,000,000"
  pub at_limit : InFormat (pin_text "0,0" "40000000,0") (pin_net (tree.point (pos 0) (pos 0)) (tree.point (pos 40_000_000) (pos 0)))
  pub past_limit : TurnedAway (pin_text "0,0" "40000001,0") (FarPin 6)
  -- the same where |dx| and |dy| both count
  pub both_at_limit : InFormat (pin_text "-10000000,5000000" "5000000,-20000000") (pin_net (tree.point (neg_ℤ (pos 10_000_000)) (pos 5_000_000)) (tree.point (pos 5_000_000) (neg_ℤ (pos 20_000_000))))
  pub both_past_limit : TurnedAway (pin_text "-10000000,5000000" "5000000,-20000001") (FarPin 6)
  -- "with c 1 to 1,000,000,000, the ends of t, a and W 1,000 times as far out, and L to 1,000,000,000,000": each end is in range, where W and L are not A's: 11 and 12; one past it is 3, of c also `branch_0`
  pub low_ends : InFormat (range_text "1" "-2000000000000000" "-1000000000000000") (range_net 1 (neg_ℤ (pos 2_000_000_000_000_000)) (neg_ℤ (pos 1_000_000_000_000_000)))
  pub high_ends : InFormat (range_text "1000000000" "2000000000000000" "1000000000000000") (range_net 1_000_000_000 (pos 2_000_000_000_000_000) (pos 1_000_000_000_000_000))
  pub branch_above : TurnedAway (range_text "1000000001" "0" "0") (OutOfRange InNet 2)
  pub need_below : TurnedAway (range_text "20" "-2000000000000001" "0") (OutOfRange InNet 4)
  pub need_above : TurnedAway (range_text "20" "2000000000000001" "0") (OutOfRange InNet 4)
  pub required_below : TurnedAway (range_text "20" "0" "-1000000000000001") (OutOfRange InNet 6)
  pub required_above : TurnedAway (range_text "20" "0" "1000000000000001") (OutOfRange InNet 6)
  pub slack_least : judge_of text_a (stated_a "-4000000000000000" "32") ≡ refused OtherSlack
  pub slack_most : judge_of text_a (stated_a "4000000000000000" "32") ≡ refused OtherSlack
  pub slack_below : judge_of text_a (stated_a "-4000000000000001" "32") ≡ refused (OutOfRange InListing 1)
  pub slack_above : judge_of text_a (stated_a "4000000000000001" "32") ≡ refused (OutOfRange InListing 1)
  pub wire_least : judge_of text_a (stated_a "0" "0") ≡ refused OtherWire
  pub wire_most : judge_of text_a (stated_a "0" "1000000000000") ≡ refused OtherWire
  pub wire_below : judge_of text_a (stated_a "0" "-1") ≡ refused (OutOfRange InListing 2)
  pub wire_above : judge_of text_a (stated_a "0" "1000000000001") ≡ refused (OutOfRange InListing 2)
  -- 02, request 4: two factors, the whole listing, and that judge reads it back; then the listings of either factor alone
  pub metals_format : InFormat (metals_text "2,6") (tree.two_metals 2 6)
  pub metals_plan : (room : ℕ) → length listing_metals ≤ room → plan_of (metals_text "2,6") room ≡ value (record { slack = pos 30; wire = 26; bytes = listing_metals })
  pub metals_judge : judge_of (metals_text "2,6") listing_metals ≡ value (record { slack = pos 30; wire = 26; best = pos 30 })
  pub horizontal_alone : plan_listing (tree.two_metals 2 2) ≡ bytes "slack=50\nwire=26\nsinks=3\nleaf=1,4\nleaf=2,5\nleaf=3,5\nnode=4,0,4,0\nnode=5,4,4,6\n"
  pub vertical_alone : plan_listing (tree.two_metals 6 6) ≡ bytes "slack=0\nwire=32\nsinks=3\nleaf=1,5\nleaf=2,5\nleaf=3,4\nnode=4,0,4,0\nnode=5,4,4,0\n"
  -- "Wire length, nearness .. stay plain"
  pub plain_listing : plan_listing tree.plain_nearness ≡ bytes "slack=-40\nwire=18\nsinks=3\nleaf=1,4\nleaf=2,5\nleaf=3,5\nnode=4,0,4,0\nnode=5,4,4,0\n"
  -- "The net line becomes `wire=h,v`": one number or three are 2,1,3
  pub one_factor : TurnedAway (metals_text "2") (NotDue InNet 3)
  pub three_factors : TurnedAway (metals_text "2,6,2") (NotDue InNet 3)
  -- "each 1 to 10,000": else 3,1,3
  pub factors_at_ends : InFormat (metals_text "1,10000") (tree.two_metals 1 10_000)
  pub horizontal_0 : TurnedAway (metals_text "0,6") (OutOfRange InNet 3)
  pub vertical_0 : TurnedAway (metals_text "2,0") (OutOfRange InNet 3)
  pub horizontal_10001 : TurnedAway (metals_text "10001,6") (OutOfRange InNet 3)
  pub vertical_10001 : TurnedAway (metals_text "2,10001") (OutOfRange InNet 3)
  -- 02, request 7: "its weight, 1 to 1,000": else 3,1,6, and before 13
  pub weight_least : InFormat (weight_text "0" ",1") (range_net 20 (pos 0) (pos 0))
  pub weight_most : InFormat (weight_text "0" ",1000") (range_net 20 (pos 0) (pos 0))
  pub weight_0 : TurnedAway (weight_text "0" ",0") (OutOfRange InNet 6)
  pub weight_1001 : TurnedAway (weight_text "0" ",1001") (OutOfRange InNet 6)
  pub weight_before_far : TurnedAway (weight_text "40000001" ",1001") (OutOfRange InNet 6)
  pub far_weighted : TurnedAway (weight_text "40000001" ",1000") (FarPin 6)
  -- "lines without it are misspelt under 2", and so are lines of five numbers
  pub weight_missing : TurnedAway (weight_text "0" "") (NotDue InNet 6)
  pub weight_empty : TurnedAway (weight_text "0" ",") (NotDue InNet 6)
  pub two_weights : TurnedAway (weight_text "0" ",1,1") (NotDue InNet 6)
  pub second_unweighted : TurnedAway text_unweighted (NotDue InNet 7)
