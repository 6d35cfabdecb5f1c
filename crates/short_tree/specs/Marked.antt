-- Marked nets of 02's request 6: a net whose short tree is not its first plan, with the whole listing, ties, and an edge above a branch point. One statement.
use Rattle.std.specs.Prelude.{ℕ, ◌≤◌, ◌≡◌, List, [], ◌∷◌, length, pos, neg_ℤ}
use Rattle.tree.specs.Marked.{point, three_at_root, one_sink}
use Rattle.formats.specs.Bytes.{bytes}
use Rattle.formats.specs.Outcome.{value, refused}
use Rattle.formats.specs.declared.refusal.Refusal.TheVariants.{Unreachable, TooShort}
use Rattle.operations.specs.Answers.{plan_of, judge_of}
use Rattle.operations.specs.Marked.{text_a, text_a1, listing_a}
use Rattle.short_tree.specs.ShortTree.{short}
use Rattle.short_tree.specs.SecondPlan.{short_of}

-- A: sink 1 hangs on the root, where 2 is as near; 2 meets its edge at 4,0; 3 meets the lower part of it at 10,0, where the edge to 2 would add as much
abbrev pub short_a : List ℕ
short_a = bytes "slack=-10\nwire=26\nsinks=3\nleaf=1,5\nleaf=2,4\nleaf=3,5\nnode=4,0,4,0\nnode=5,4,10,0\n"

-- sink 3 is nearest; 1 and 2 add 4 each on the way to it, so 1 goes in, and then 2 meets the edge to 1
abbrev pub text_tied : List ℕ
text_tied = bytes "root=0,0\nbranch=20\nwire=2,3\nneed=0\nsinks=3\nsink=3,4,60,1\nsink=2,4,60,1\nsink=5,0,60,1\n"

abbrev pub short_tied : List ℕ
short_tied = bytes "slack=0\nwire=10\nsinks=3\nleaf=1,5\nleaf=2,5\nleaf=3,4\nnode=4,0,3,0\nnode=5,4,3,4\n"

-- 1 goes first, and 3 would add 7 at its edge; 2 adds 2 there, and leaves to the edge to 1 so little that 3 adds 9 at the edge above branch point 4, less than anywhere
abbrev pub text_branch_edge : List ℕ
text_branch_edge = bytes "root=0,0\nbranch=20\nwire=2,2\nneed=0\nsinks=3\nsink=10,2,100,1\nsink=10,-2,100,1\nsink=5,9,100,1\n"

abbrev pub short_branch_edge : List ℕ
short_branch_edge = bytes "slack=36\nwire=23\nsinks=3\nleaf=1,4\nleaf=2,4\nleaf=3,5\nnode=4,5,10,0\nnode=5,0,5,0\n"

pub record Marked : Type 0 where
  pub a_short : (room : ℕ) → length short_a ≤ room → short_of text_a room ≡ value (record { slack = neg_ℤ (pos 10); wire = 26; bytes = short_a })
  pub a_judged : judge_of text_a short_a ≡ value (record { slack = neg_ℤ (pos 10); wire = 26; best = pos 0 })
  -- the first plan's listing is another
  pub a_first : (room : ℕ) → length listing_a ≤ room → plan_of text_a room ≡ value (record { slack = pos 0; wire = 32; bytes = listing_a })
  -- with `need=1`, which no tree has: the first plan refuses it, the second does not
  pub a_need : (room : ℕ) → length short_a ≤ room → (plan_of text_a1 room ≡ refused Unreachable) × (short_of text_a1 room ≡ value (record { slack = neg_ℤ (pos 10); wire = 26; bytes = short_a }))
  -- one byte less than the listing has
  pub a_room : (length short_a ≡ 80) × (short_of text_a 79 ≡ refused TooShort)
  pub tied_sinks : (room : ℕ) → length short_tied ≤ room → short_of text_tied room ≡ value (record { slack = pos 0; wire = 10; bytes = short_tied })
  pub branch_edge : (room : ℕ) → length short_branch_edge ≤ room → short_of text_branch_edge room ≡ value (record { slack = pos 36; wire = 23; bytes = short_branch_edge })
  -- all pins at one point: the lowest sink and the lowest lower end at each turn
  pub tied_ends : ((short three_at_root).parents ≡ 5 ∷ (4 ∷ (5 ∷ (0 ∷ (4 ∷ []))))) × ((short three_at_root).points ≡ point (pos 0) (pos 0) ∷ (point (pos 0) (pos 0) ∷ []))
  -- one sink hangs on the root
  pub one_sink_lem : (c : ℕ) → ((short (one_sink c)).parents ≡ 0 ∷ []) × ((short (one_sink c)).points ≡ [])
