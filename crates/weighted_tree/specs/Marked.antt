-- Marked nets of 02's request 7: joining and ties by weights alone, a net of five sinks and A with their whole listings. One statement.
use Rattle.std.specs.Prelude.{ℕ, ◌≤◌, ◌≡◌, List, [], ◌∷◌, length, pos, neg_ℤ}
use Rattle.tree.specs.Marked.{point, net_a}
use Rattle.formats.specs.Bytes.{bytes}
use Rattle.formats.specs.Outcome.{value, refused}
use Rattle.formats.specs.declared.refusal.Refusal.TheVariants.{Unreachable, TooShort}
use Rattle.operations.specs.Answers.{plan_of, judge_of}
use Rattle.operations.specs.Marked.{listing_a}
use Rattle.weighted_tree.specs.Joining.{joined_after, joined_parents, weighted_tree}
use Rattle.weighted_tree.specs.WeightedDelay.{weighted_delay}
use Rattle.weighted_tree.specs.ThirdPlan.{weighted_of}

-- weights 1, 1, 2, 3, 5: a chain
abbrev pub text_chain : List ℕ
text_chain = bytes "root=0,0\nbranch=20\nwire=2,2\nneed=0\nsinks=5\nsink=8,0,100,1\nsink=8,4,100,1\nsink=2,6,100,2\nsink=-4,2,100,3\nsink=0,-5,100,5\n"

abbrev pub listing_chain : List ℕ
listing_chain = bytes "slack=-4\nwire=29\nsinks=5\nleaf=1,6\nleaf=2,6\nleaf=3,7\nleaf=4,8\nleaf=5,9\nnode=6,7,8,0\nnode=7,8,2,0\nnode=8,9,0,0\nnode=9,0,0,0\n"

-- A with the weights 5, 1, 1, and with `need=1`, which no tree has
abbrev pub text_a : List ℕ
text_a = bytes "root=0,0\nbranch=20\nwire=2,2\nneed=0\nsinks=3\nsink=10,0,100,5\nsink=4,6,60,1\nsink=10,10,70,1\n"

abbrev pub text_a1 : List ℕ
text_a1 = bytes "root=0,0\nbranch=20\nwire=2,2\nneed=1\nsinks=3\nsink=10,0,100,5\nsink=4,6,60,1\nsink=10,10,70,1\n"

abbrev pub weighted_a : List ℕ
weighted_a = bytes "slack=-10\nwire=26\nsinks=3\nleaf=1,5\nleaf=2,4\nleaf=3,4\nnode=4,5,4,6\nnode=5,0,4,0\n"

pub record Marked : Type 0 where
  -- weights 1, 1, 2, 3, 5. "joins the two vertices of least total weight": 1 and 2 make 6, of weight 2; 3 and 6 make 7, of 4; 4 and 7 make 8, of 7; 5 and 8 make 9, "until one is left"
  pub chain : joined_parents 5 (1 ∷ (1 ∷ (2 ∷ (3 ∷ (5 ∷ []))))) ≡ 6 ∷ (6 ∷ (7 ∷ (8 ∷ (9 ∷ (7 ∷ (8 ∷ (9 ∷ (0 ∷ []))))))))
  pub totals : (joined_after 5 (1 ∷ (1 ∷ (2 ∷ (3 ∷ (5 ∷ []))))) 4).totals ≡ 1 ∷ (1 ∷ (2 ∷ (3 ∷ (5 ∷ (2 ∷ (4 ∷ (7 ∷ (12 ∷ []))))))))
  -- "ties to the lowest vertex numbers": 2 and 3 make 5, of weight 3 as sinks 1 and 4 are, which go first
  pub ties : joined_parents 4 (3 ∷ (1 ∷ (2 ∷ (3 ∷ [])))) ≡ 6 ∷ (5 ∷ (5 ∷ (6 ∷ (7 ∷ (7 ∷ (0 ∷ []))))))
  -- all equal: sinks in order, then 7, 8 and 9 tie, and 7 and 8 make 10
  pub equals : joined_parents 6 (1 ∷ (1 ∷ (1 ∷ (1 ∷ (1 ∷ (1 ∷ [])))))) ≡ 7 ∷ (7 ∷ (8 ∷ (8 ∷ (9 ∷ (9 ∷ (10 ∷ (10 ∷ (11 ∷ (11 ∷ (0 ∷ []))))))))))
  -- one sink hangs on the root
  pub alone : joined_parents 1 (7 ∷ []) ≡ 0 ∷ []
  -- 01's net A with weights 5, 1, 1: sinks 2 and 3 make 4, 1 and 4 make 5, "then settles as in 01"
  pub net_a_lem : weighted_tree net_a (5 ∷ (1 ∷ (1 ∷ []))) ≡ record {
    parents = 5 ∷ (4 ∷ (4 ∷ (5 ∷ (0 ∷ []))));
    points = point (pos 4) (pos 6) ∷ (point (pos 4) (pos 0) ∷ []);
  }
  -- 5 × (20 + 20) + 1 × (20 + 40) + 1 × (40 + 40)
  pub delay_a : weighted_delay net_a (5 ∷ (1 ∷ (1 ∷ []))) (weighted_tree net_a (5 ∷ (1 ∷ (1 ∷ [])))) ≡ pos 340
  -- the whole listings
  pub chain_listing : (room : ℕ) → length listing_chain ≤ room → weighted_of text_chain room ≡ value (record { slack = neg_ℤ (pos 4); wire = 29; bytes = listing_chain })
  pub a_weighted : (room : ℕ) → length weighted_a ≤ room → weighted_of text_a room ≡ value (record { slack = neg_ℤ (pos 10); wire = 26; bytes = weighted_a })
  pub a_judged : judge_of text_a weighted_a ≡ value (record { slack = neg_ℤ (pos 10); wire = 26; best = pos 0 })
  -- the first plan, which ignores the weights, has A's listing of 01
  pub a_first : (room : ℕ) → length listing_a ≤ room → plan_of text_a room ≡ value (record { slack = pos 0; wire = 32; bytes = listing_a })
  -- a need that no tree has: the first plan refuses it, the third does not
  pub a_need : (room : ℕ) → length weighted_a ≤ room → (plan_of text_a1 room ≡ refused Unreachable) × (weighted_of text_a1 room ≡ value (record { slack = neg_ℤ (pos 10); wire = 26; bytes = weighted_a }))
  -- one byte less than the listing has
  pub a_room : (length weighted_a ≡ 79) × (weighted_of text_a 78 ≡ refused TooShort)
