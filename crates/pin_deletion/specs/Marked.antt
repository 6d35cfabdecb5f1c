-- Marked deletions of 02's request 9, as one statement: whole texts, and each refusal in its order.
use Rattle.std.specs.Prelude.{ℕ, ◌≤◌, ◌≡◌, List, [], length}
use Rattle.formats.specs.Bytes.{bytes}
use Rattle.formats.specs.Outcome.{value, refused}
use Rattle.formats.specs.declared.refusal.Text.TheVariants.{InNet}
use Rattle.formats.specs.declared.refusal.Refusal.TheVariants.{NotDue, OtherSlack, OtherWire, TooShort, NotASink, OnlySink}
use Rattle.operations.specs.Marked.{text_a, listing_a, stated_a}
use Rattle.pin_deletion.specs.Deletions.{deletion_of}

-- A without each of its sinks. Sinks 1 and 2 hang on branch point 5; sink 3 hangs on 4, which hung on the root, so that its sibling 5 becomes the root's only child
abbrev pub net_without1 : List ℕ
net_without1 = bytes "root=0,0\nbranch=20\nwire=2,2\nneed=0\nsinks=2\nsink=4,6,60,1\nsink=10,10,70,1\n"

abbrev pub net_without2 : List ℕ
net_without2 = bytes "root=0,0\nbranch=20\nwire=2,2\nneed=0\nsinks=2\nsink=10,0,100,1\nsink=10,10,70,1\n"

abbrev pub net_without3 : List ℕ
net_without3 = bytes "root=0,0\nbranch=20\nwire=2,2\nneed=0\nsinks=2\nsink=10,0,100,1\nsink=4,6,60,1\n"

abbrev pub listing_without1 : List ℕ
listing_without1 = bytes "slack=10\nwire=26\nsinks=2\nleaf=1,3\nleaf=2,3\nnode=3,0,4,0\n"

abbrev pub listing_without2 : List ℕ
listing_without2 = bytes "slack=10\nwire=26\nsinks=2\nleaf=1,3\nleaf=2,3\nnode=3,0,4,0\n"

abbrev pub listing_without3 : List ℕ
listing_without3 = bytes "slack=20\nwire=16\nsinks=2\nleaf=1,3\nleaf=2,3\nnode=3,0,4,0\n"

-- then without sink 1: one sink is left, on the root
abbrev pub net_one : List ℕ
net_one = bytes "root=0,0\nbranch=20\nwire=2,2\nneed=0\nsinks=1\nsink=4,6,60,1\n"

abbrev pub listing_one : List ℕ
listing_one = bytes "slack=40\nwire=10\nsinks=1\nleaf=1,0\n"

-- four sinks of four weights under two factors, with a need that no tree has: 5 on the root, 6 and 7 on 5
abbrev pub net_four : List ℕ
net_four = bytes "root=0,0\nbranch=1\nwire=1,2\nneed=500\nsinks=4\nsink=1,0,10,7\nsink=2,0,20,8\nsink=3,0,30,9\nsink=4,0,40,10\n"

abbrev pub listing_four : List ℕ
listing_four = bytes "slack=3\nwire=8\nsinks=4\nleaf=1,6\nleaf=2,6\nleaf=3,7\nleaf=4,7\nnode=5,0,1,1\nnode=6,5,1,0\nnode=7,5,3,0\n"

-- without sink 1 and branch point 6: 5 falls by 1 and 7 by 2
abbrev pub net_four_without1 : List ℕ
net_four_without1 = bytes "root=0,0\nbranch=1\nwire=1,2\nneed=500\nsinks=3\nsink=2,0,20,8\nsink=3,0,30,9\nsink=4,0,40,10\n"

abbrev pub listing_four_without1 : List ℕ
listing_four_without1 = bytes "slack=13\nwire=8\nsinks=3\nleaf=1,4\nleaf=2,5\nleaf=3,5\nnode=4,0,1,1\nnode=5,4,3,0\n"

-- without sink 3 and branch point 7: 1 and 2 keep their numbers, 5 and 6 fall by 1
abbrev pub net_four_without3 : List ℕ
net_four_without3 = bytes "root=0,0\nbranch=1\nwire=1,2\nneed=500\nsinks=3\nsink=1,0,10,7\nsink=2,0,20,8\nsink=4,0,40,10\n"

abbrev pub listing_four_without3 : List ℕ
listing_four_without3 = bytes "slack=3\nwire=8\nsinks=3\nleaf=1,5\nleaf=2,5\nleaf=3,4\nnode=4,0,1,1\nnode=5,4,1,0\n"

-- the two texts, into any two outputs that have room for them
abbrev pub Gives : List ℕ → List ℕ → ℕ → List ℕ → List ℕ → Type 0
Gives net listing s net' listing' = (net_room listing_room : ℕ) → length net' ≤ net_room → length listing' ≤ listing_room → deletion_of net listing s net_room listing_room ≡ value (record { net = net'; listing = listing' })

pub record Marked : Type 0 where
  pub a_1 : Gives text_a listing_a 1 net_without1 listing_without1
  pub a_2 : Gives text_a listing_a 2 net_without2 listing_without2
  pub a_3 : Gives text_a listing_a 3 net_without3 listing_without3
  pub two_1 : Gives net_without3 listing_without3 1 net_one listing_one
  pub four_1 : Gives net_four listing_four 1 net_four_without1 listing_four_without1
  pub four_3 : Gives net_four listing_four 3 net_four_without3 listing_four_without3
  -- "15 .. if the sink number is not 1 to n", whatever the outputs
  pub a_0 : (net_room listing_room : ℕ) → deletion_of text_a listing_a 0 net_room listing_room ≡ refused NotASink
  pub a_4 : (net_room listing_room : ℕ) → deletion_of text_a listing_a 4 net_room listing_room ≡ refused NotASink
  -- "16, likewise, if n is 1", and 15 before it
  pub one_1 : (net_room listing_room : ℕ) → deletion_of net_one listing_one 1 net_room listing_room ≡ refused OnlySink
  pub one_2 : (net_room listing_room : ℕ) → deletion_of net_one listing_one 2 net_room listing_room ≡ refused NotASink
  -- "then 6 if either output is too short": by one byte, the other as long as one likes
  pub short_net : (listing_room : ℕ) → deletion_of text_a listing_a 1 72 listing_room ≡ refused TooShort
  pub short_listing : (net_room : ℕ) → deletion_of text_a listing_a 1 net_room 55 ≡ refused TooShort
  pub lengths : (length net_without1 ≡ 73) × (length listing_without1 ≡ 56)
  -- "after judge's refusals": 2, 11 and 12 before 15
  pub net_first : deletion_of [] listing_a 0 0 0 ≡ refused (NotDue InNet 1)
  pub slack_first : deletion_of text_a (stated_a "1" "32") 0 0 0 ≡ refused OtherSlack
  pub wire_first : deletion_of text_a (stated_a "0" "31") 4 0 0 ≡ refused OtherWire
