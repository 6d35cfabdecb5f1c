-- Marked scores of 02's request 8, as one statement: whole 1024ths and all 64 bits.
use Rattle.std.specs.Prelude.{ℕ, ◌≡◌, List, [], ◌++◌, ℤ, pos, neg_ℤ}
use Prim.Native.String.{String}
use Rattle.std.specs.Float.{binary64}
use Rattle.std.specs.Float.Ieee.{to_bits}
use Rattle.formats.specs.Bytes.{bytes}
use Rattle.formats.specs.Outcome.{value, refused}
use Rattle.formats.specs.declared.refusal.Text.TheVariants.{InNet}
use Rattle.formats.specs.declared.refusal.Refusal.TheVariants.{NotDue, OtherSlack, OtherWire, NotScored}
use Rattle.operations.specs.Marked.{text_a, listing_a, stated_a, text_three, listing_three, range_text}
use Rattle.scoring.specs.Binary64.{of1024ths}
use Rattle.scoring.specs.Scores.{score_of}

-- one sink of slack 7 at the end of a wire of 7
abbrev pub text_pin : List ℕ
text_pin = bytes "root=0,0\nbranch=20\nwire=2,2\nneed=0\nsinks=1\nsink=3,4,21,1\n"

abbrev pub listing_pin : List ℕ
listing_pin = bytes "slack=7\nwire=7\nsinks=1\nleaf=1,0\n"

-- one sink at the root, by how its slack is spelt
abbrev pub text_at : String → List ℕ
text_at slack = range_text "20" "0" slack

abbrev pub listing_at : String → List ℕ
listing_at slack = bytes "slack=" ++ (bytes slack ++ bytes "\nwire=0\nsinks=1\nleaf=1,0\n")

-- the score is z 1024ths, of these bits
abbrev pub Gives : List ℕ → List ℕ → ℤ → ℤ → ℤ → ℤ → ℕ → Type 0
Gives net listing A B cap z bits = (score_of net listing A B cap ≡ value z) × (to_bits binary64 (of1024ths z) ≡ bits)

pub record Marked : Type 0 where
  -- A's plan has slack 0 and wire 32: -32, by beta alone too
  pub a_both : Gives text_a listing_a (pos 1024) (pos 1024) (pos 0) (neg_ℤ (pos 32768)) 0xc040_0000_0000_0000
  pub a_beta : Gives text_a listing_a (pos 0) (pos 1024) (pos 0) (neg_ℤ (pos 32768)) 0xc040_0000_0000_0000
  -- "a zero score is plus zero": by alpha alone, by neither, and where 7 - 7 is left
  pub a_alpha : Gives text_a listing_a (pos 1024) (pos 0) (pos 0) (pos 0) 0
  pub a_neither : Gives text_a listing_a (pos 0) (pos 0) (pos 0) (pos 0) 0
  pub pin_even : Gives text_pin listing_pin (pos 1024) (pos 1024) (pos 8) (pos 0) 0
  -- 0 × -40 is minus zero, and the wire is 0
  pub late_alpha : Gives text_three listing_three (pos 0) (pos 0) (pos 0) (pos 0) 0
  pub late_beta : Gives text_three listing_three (pos 0) (pos 1024) (pos 0) (pos 0) 0
  -- "min(worst slack, cap)": a slack of 7 with the cap below it, at it and above it
  pub cap_below : Gives text_pin listing_pin (pos 1024) (pos 0) (pos 6) (pos 6144) 0x4018_0000_0000_0000
  pub cap_at : Gives text_pin listing_pin (pos 1024) (pos 0) (pos 7) (pos 7168) 0x401c_0000_0000_0000
  pub cap_above : Gives text_pin listing_pin (pos 1024) (pos 0) (pos 8) (pos 7168) 0x401c_0000_0000_0000
  -- 1/1024 × 6 - 1/1024 × 7 is -1/1024
  pub least_step : Gives text_pin listing_pin (pos 1) (pos 1) (pos 6) (neg_ℤ (pos 1)) 0xbf50_0000_0000_0000
  -- the ends: a slack of -1,000,000,000,000, and a cap of 1,000,000,000,000 under a slack of 1,000 times that
  pub latest : Gives (text_at "-1000000000000") (listing_at "-1000000000000") (pos 1024) (pos 1024) (pos 1_000_000_000_000) (neg_ℤ (pos 1_024_000_000_000_000)) 0xc26d_1a94_a200_0000
  pub highest : Gives (text_at "1000000000000000") (listing_at "1000000000000000") (pos 1024) (pos 1024) (pos 1_000_000_000_000) (pos 1_024_000_000_000_000) 0x426d_1a94_a200_0000
  -- "14 .. if .. min(..) is below -1,000,000,000,000", where A is 0 too
  pub too_late : score_of (text_at "-1000000000001") (listing_at "-1000000000001") (pos 1024) (pos 1024) (pos 0) ≡ refused NotScored
  pub too_late_alpha : score_of (text_at "-1000000000001") (listing_at "-1000000000001") (pos 0) (pos 0) (pos 0) ≡ refused NotScored
  -- "14 .. if A, B or the cap is out of range": one past each end
  pub alpha_below : score_of text_a listing_a (neg_ℤ (pos 1)) (pos 0) (pos 0) ≡ refused NotScored
  pub alpha_above : score_of text_a listing_a (pos 1025) (pos 0) (pos 0) ≡ refused NotScored
  pub beta_below : score_of text_a listing_a (pos 0) (neg_ℤ (pos 1)) (pos 0) ≡ refused NotScored
  pub beta_above : score_of text_a listing_a (pos 0) (pos 1025) (pos 0) ≡ refused NotScored
  pub cap_negative : score_of text_a listing_a (pos 0) (pos 0) (neg_ℤ (pos 1)) ≡ refused NotScored
  pub cap_past : score_of text_a listing_a (pos 0) (pos 0) (pos 1_000_000_000_001) ≡ refused NotScored
  -- "it follows all of judge's refusals", whatever A, B and the cap are
  pub net_first : (A B cap : ℤ) → score_of [] listing_a A B cap ≡ refused (NotDue InNet 1)
  pub slack_first : (A B cap : ℤ) → score_of text_a (stated_a "1" "32") A B cap ≡ refused OtherSlack
  pub wire_first : (A B cap : ℤ) → score_of text_a (stated_a "0" "31") A B cap ≡ refused OtherWire
