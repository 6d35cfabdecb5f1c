-- How long the texts of a listing are: digits counted by division, lines one by one, and the parts of the whole. Assumes nothing.
use Prim.Native.Nat.{ℕ, ◌+◌, ◌-◌, ◌/◌, ◌≤◌, ◌<◌}
use mathlib.Core.Path.{◌≡◌, ap}
use mathlib.Core.List.{List, [], ◌∷◌, ◌++◌}
use native.Mathlib.Omega.{arith}
use lib.ListN.{length, length-append}
use lib.IntN.{ℤ, pos}
use Rattle.tree.specs.Lists.{range}
use Rattle.tree.specs.Net.{sink_numbers, branch_numbers}
use Rattle.formats.specs.Decimal.{show_nat, show}
use Rattle.formats.specs.Line.{line_text}
use Rattle.formats.specs.Limits.{listing_length_limit}
use Rattle.formats.specs.NetText.{wire_key, sinks_key}
use Rattle.formats.specs.ListingText.{Listing, slack_key, leaf_text, node_text, lines_text, listing_text, ListingInRange}
use Rattle.formats.specs.Inner.Writing.{Writable, head_text}
use Rattle.formats.proofs.Laws.Numbers.Decimal.{show_nat_small, show_nat_large, show_nat-length, show_length}
use Rattle.formats.proofs.Laws.Listings.ListingWriting.{lines_next, lines_le, listing_is}
use Rattle.formats.proofs.Laws.TextLengths.{listing_short}

-- ---- digits

pub one_digit : (n : ℕ) → n < 10 → length (show_nat n) ≡ 1
one_digit n h = ap length (show_nat_small n h)

pub digit_more : (n : ℕ) → 10 ≤ n → length (show_nat n) ≡ length (show_nat (n / 10)) + 1
digit_more n h = rw (show_nat_large n h, length-append)

pub four_more : (n : ℕ) → 10_000 ≤ n → length (show_nat n) ≡ length (show_nat (n / 10_000)) + 4
four_more n h =
    let e : n / 10 / 10 / 10 / 10 ≡ n / 10_000 = omega arith in
    let last = rw e at (digit_more (n / 10 / 10 / 10) (omega arith)) in
    omega (arith, digit_more n (omega arith), digit_more (n / 10) (omega arith), digit_more (n / 10 / 10) (omega arith), last)

pub natural_short : (n : ℕ) → Writable (pos n) → length (show_nat n) ≤ 16
natural_short n h = show_nat-length n 16 (omega arith) (omega arith)

pub number_short : (z : ℤ) → Writable z → length (show z) ≤ 17
number_short z h = show_length z 16 (omega arith) (omega arith)

-- ---- a line

module _ (key : List ℕ) (a : ℤ) where
  pub line1_long : length (line_text key (a ∷ [])) ≡ length key + length (show a) + 1
  line1_long = simp length-append (omega arith)

  pub line1_short : Writable a → length (line_text key (a ∷ [])) ≤ length key + 18
  line1_short h = omega (arith, line1_long, number_short a h)

  module _ (b : ℤ) where
    pub line2_long : length (line_text key (a ∷ (b ∷ []))) ≡ length (line_text key (a ∷ [])) + length (show b) + 1
    line2_long = simp length-append (omega arith)

    pub line2_short : Writable a → Writable b → length (line_text key (a ∷ (b ∷ []))) ≤ length key + 36
    line2_short h g = omega (arith, line2_long, line1_short h, number_short b g)

    pub line4_long : (c d : ℤ) → length (line_text key (a ∷ (b ∷ (c ∷ (d ∷ []))))) ≡ length (line_text key (a ∷ (b ∷ []))) + length (show c) + length (show d) + 2
    line4_long c d = simp length-append (omega arith)

-- ---- lines counted one by one

-- of the m lines from a on, those before k are counted
pub record Counting (f : ℕ → List ℕ) (a m k counted : ℕ) : Type 0 where
  pub from : a ≤ k
  pub upto : k ≤ a + m
  pub sum : counted ≡ length (lines_text f (range a (k - a)))

module _ (f : ℕ → List ℕ) (a m : ℕ) where
  pub counting_starts : Counting f a m a 0
  counting_starts =
      let e : a - a ≡ 0 = omega arith in
      record { from = omega arith; upto = omega arith; sum = rw e (omega arith) }

  pub counting_ends : (k counted : ℕ) → Counting f a m k counted → a + m ≤ k → counted ≡ length (lines_text f (range a m))
  counting_ends k counted p h =
      let e : k - a ≡ m = omega arith in
      rw e at p.sum

  module _ (k counted : ℕ) (p : Counting f a m k counted) (h : k < a + m) where
    more : counted + length (f k) ≡ length (lines_text f (range a (k + 1 - a)))
    more = omega (arith, p.sum, ap length (lines_next f a k p.from), length-append (lines_text f (range a (k - a))) (f k))

    -- what is counted so far is no more than the whole
    pub line_counts : counted + length (f k) ≤ length (lines_text f (range a m))
    line_counts = omega (arith, more, lines_le f a (k + 1 - a) m (omega arith))

    pub counting_more : Counting f a m (k + 1) (counted + length (f k))
    counting_more = record { from = omega (arith, p.from); upto = omega arith; sum = more }

-- ---- the parts of a listing

pub head_parts : (slack : ℤ) (wire n : ℕ) → length (head_text slack wire n) ≡ length (line_text slack_key (slack ∷ [])) + length (line_text wire_key (pos wire ∷ [])) + length (line_text sinks_key (pos n ∷ []))
head_parts slack wire n =
    let first = line_text slack_key (slack ∷ []) in
    let second = line_text wire_key (pos wire ∷ []) in
    omega (arith, length-append (first ++ second) (line_text sinks_key (pos n ∷ [])), length-append first second)

-- the head, the leaves and the nodes
abbrev pub parts_length : ℕ → Listing → ℕ
parts_length n G = length (head_text G.slack G.wire n) + length (lines_text (leaf_text G.tree.parents) (sink_numbers n)) + length (lines_text (node_text n G.tree) (branch_numbers n))

module _ (n : ℕ) (G : Listing) where
  pub listing_parts : length (listing_text n G) ≡ parts_length n G
  listing_parts =
      let head = head_text G.slack G.wire n in
      let leaves = lines_text (leaf_text G.tree.parents) (sink_numbers n) in
      let nodes = lines_text (node_text n G.tree) (branch_numbers n) in
      omega (arith, ap length (listing_is n G), length-append (head ++ leaves) nodes, length-append head leaves)

  -- so each part is short
  pub parts_short : ListingInRange n G → parts_length n G ≤ listing_length_limit
  parts_short h = omega (arith, listing_parts, listing_short n G h)
