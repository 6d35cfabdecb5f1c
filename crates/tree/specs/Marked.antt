-- The marked nets of document 01, those of requests 1 and 4 of 02, and the numbers of request 3, as far as they need no text: one statement. By request 4 those of 01 are "restated with h = v".
use Rattle.std.specs.Prelude.{ℕ, ◌<◌, ◌≡◌, [], ◌∷◌, map, ℤ, pos, neg_ℤ, ◌<ℤ◌, Some, None}
use Rattle.quantities.specs.declared.metal_pair.MetalPair.{MetalPair}
use Rattle.quantities.specs.declared.point.Point.{Point}
use Rattle.quantities.specs.Median.{median_point}
use Rattle.tree.specs.Net.{Net, Sink, own_slacks}
use Rattle.tree.specs.Tree.{Tree, Legal, LegalTree}
use Rattle.tree.specs.Measures.{worst_slack, wire_length}
use Rattle.tree.specs.Kraft.{IsKraftMaximum}
use Rattle.tree.specs.Planning.{lower_ends}
use Rattle.tree.specs.Settling.{plan}
use Rattle.tree.specs.SmallestSlack.{sinks_in, least_under, worst_with}
use Rattle.tree.specs.Defects.{wrong_children, unreached}

abbrev pub point : ℤ → ℤ → Point
point x y = record { x = x; y = y }

abbrev pub sink : ℤ → ℤ → ℤ → Sink
sink x y a = record { point = point x y; required = a }

-- the factors h and v
abbrev pub metals : ℕ → ℕ → MetalPair
metals horizontal vertical = record { horizontal = record { 0 = horizontal }; vertical = record { 0 = vertical } }

-- "A: `root=0,0`, `branch=20`, `wire=2`, `need=0`, `sinks=3`, `sink=10,0,100`, `sink=4,6,60`, `sink=10,10,70`."
abbrev pub net_a : Net
net_a = record {
  root = point (pos 0) (pos 0);
  branch = 20;
  wire = metals 2 2;
  need = pos 0;
  sinks = sink (pos 10) (pos 0) (pos 100) ∷ (sink (pos 4) (pos 6) (pos 60) ∷ (sink (pos 10) (pos 10) (pos 70) ∷ []));
}

-- "Three sinks at the root 0,0 with a = 0, c = 20, d = 2, t = -40"
abbrev pub three_at_root : Net
three_at_root = record {
  root = point (pos 0) (pos 0);
  branch = 20;
  wire = metals 2 2;
  need = neg_ℤ (pos 40);
  sinks = sink (pos 0) (pos 0) (pos 0) ∷ (sink (pos 0) (pos 0) (pos 0) ∷ (sink (pos 0) (pos 0) (pos 0) ∷ []));
}

-- "One sink 3,4 from 0,0 with a = 10, d = 2"
abbrev pub one_sink : ℕ → Net
one_sink c = record { root = point (pos 0) (pos 0); branch = c; wire = metals 2 2; need = pos 0; sinks = sink (pos 3) (pos 4) (pos 10) ∷ [] }

-- "Two sinks of own slack 5, c = 3": any such net
pub record TwoSinks (N : Net) : Type 0 where
  pub own : own_slacks N ≡ pos 5 ∷ (pos 5 ∷ [])
  pub branch : N.branch ≡ 3

-- 02, request 1: two tied sinks away from the new one, which is near the root
abbrev pub root_nearest : Net
root_nearest = record {
  root = point (pos 0) (pos 0);
  branch = 20;
  wire = metals 2 2;
  need = neg_ℤ (pos 40);
  sinks = sink (pos 10) (pos 0) (pos 20) ∷ (sink (pos 10) (pos 0) (pos 20) ∷ (sink (pos 1) (pos 0) (pos 2) ∷ []));
}

-- 02, request 1: all edges tie for the new sink, which is nearer to sink 2 than to sink 1 and the root
abbrev pub nearer_sink : Net
nearer_sink = record {
  root = point (pos 0) (pos 0);
  branch = 20;
  wire = metals 2 2;
  need = neg_ℤ (pos 40);
  sinks = sink (pos 10) (pos 0) (pos 20) ∷ (sink (pos 0) (pos 10) (pos 20) ∷ (sink (pos 1) (pos 10) (pos 22) ∷ []));
}

-- 02, request 4: the pins of A with other arrivals, under the factors h and v
abbrev pub two_metals : ℕ → ℕ → Net
two_metals horizontal vertical = record {
  root = point (pos 0) (pos 0);
  branch = 20;
  wire = metals horizontal vertical;
  need = pos 0;
  sinks = sink (pos 10) (pos 0) (pos 100) ∷ (sink (pos 4) (pos 6) (pos 110) ∷ (sink (pos 10) (pos 10) (pos 150) ∷ []));
}

-- 02, request 4, "nearness .. stay plain": all edges tie for sink 3, which is 6 from sink 1, straight across, and 4 from sink 2, straight up
abbrev pub plain_nearness : Net
plain_nearness = record {
  root = point (pos 0) (pos 0);
  branch = 20;
  wire = metals 2 6;
  need = neg_ℤ (pos 40);
  sinks = sink (pos 10) (pos 4) (pos 44) ∷ (sink (pos 4) (pos 0) (pos 8) ∷ (sink (pos 4) (pos 4) (pos 32) ∷ []));
}

pub record Marked : Type 0 where
  -- A: "Own slacks 80, 40, 30", its listing's parents and points, slack 0 and wire 32, and best 0
  pub a_own : own_slacks net_a ≡ pos 80 ∷ (pos 40 ∷ (pos 30 ∷ []))
  pub a_tree : plan net_a ≡ record { parents = 5 ∷ (5 ∷ (4 ∷ (0 ∷ (4 ∷ [])))); points = point (pos 4) (pos 0) ∷ (point (pos 4) (pos 0) ∷ []) }
  pub a_slack : worst_slack net_a (plan net_a) ≡ pos 0
  pub a_wire : wire_length net_a (plan net_a) ≡ 32
  pub a_best : IsKraftMaximum net_a.branch (own_slacks net_a) (pos 0)
  -- "A with `need=1`: 5,1,4": no legal tree has worst slack 1 or more
  pub a_need : (R : Tree) → LegalTree net_a R → worst_slack net_a R <ℤ pos 1
  -- three sinks at the root: "slack -40, wire 0, .. parents of 1 to 5 are 5, 4, 5, 0, 4"
  pub three_slack : worst_slack three_at_root (plan three_at_root) ≡ neg_ℤ (pos 40)
  pub three_wire : wire_length three_at_root (plan three_at_root) ≡ 0
  pub three_parents : (plan three_at_root).parents ≡ 5 ∷ (4 ∷ (5 ∷ (0 ∷ (4 ∷ []))))
  -- one sink: "slack -4, wire 7, Kraft maximum -4 whatever c"
  pub one_slack : (c : ℕ) → worst_slack (one_sink c) (plan (one_sink c)) ≡ neg_ℤ (pos 4)
  pub one_wire : (c : ℕ) → wire_length (one_sink c) (plan (one_sink c)) ≡ 7
  pub one_best : (c : ℕ) → 0 < c → IsKraftMaximum c (own_slacks (one_sink c)) (neg_ℤ (pos 4))
  -- two sinks: "slack 2", of the plan, and no legal tree has more
  pub two_slack : (N : Net) → TwoSinks N → worst_slack N (plan N) ≡ pos 2
  pub two_best : (N : Net) → TwoSinks N → IsKraftMaximum N.branch (own_slacks N) (pos 2)
  -- there are such nets
  pub two_some : TwoSinks (record { root = point (pos 0) (pos 0); branch = 3; wire = metals 2 2; need = pos 0; sinks = sink (pos 1) (pos 0) (pos 7) ∷ (sink (pos 0) (pos 0) (pos 5) ∷ []) })
  -- the edge above branch point 4, counted at the root's position, is the nearest: parents of 1 to 5 are 4, 4, 5, 5, 0
  pub nearest_root : plan root_nearest ≡ record { parents = 4 ∷ (4 ∷ (5 ∷ (5 ∷ (0 ∷ [])))); points = point (pos 10) (pos 0) ∷ (point (pos 1) (pos 0) ∷ []) }
  pub nearest_root_slack : worst_slack root_nearest (plan root_nearest) ≡ neg_ℤ (pos 40)
  pub nearest_root_wire : wire_length root_nearest (plan root_nearest) ≡ 10
  -- the edge to sink 2 is split, although sink 1 has the lower number
  pub nearest_sink : plan nearer_sink ≡ record { parents = 4 ∷ (5 ∷ (5 ∷ (0 ∷ (4 ∷ [])))); points = point (pos 0) (pos 0) ∷ (point (pos 0) (pos 10) ∷ []) }
  pub nearest_sink_slack : worst_slack nearer_sink (plan nearer_sink) ≡ neg_ℤ (pos 40)
  pub nearest_sink_wire : wire_length nearer_sink (plan nearer_sink) ≡ 21
  -- 02, request 3: in A sinks 3 and 2 go in first, under branch point 4. The least slacks under the root, 2, 3 and 4, then the worst slacks if sink 1 splits the
  -- edge to 2, 3 or 4: it splits the first
  pub a_gathered : map (least_under net_a 1) (0 ∷ (2 ∷ (3 ∷ (4 ∷ [])))) ≡ pos 10 ∷ (pos 20 ∷ (pos 10 ∷ (pos 10 ∷ [])))
  pub a_tried : map (worst_with net_a 1) (2 ∷ (3 ∷ (4 ∷ []))) ≡ pos 0 ∷ (neg_ℤ (pos 10) ∷ (neg_ℤ (pos 10) ∷ []))
  -- the whole tree of A: the least slacks under 0 to 5
  pub a_gathered_all : map (least_under net_a 2) (0 ∷ (1 ∷ (2 ∷ (3 ∷ (4 ∷ (5 ∷ [])))))) ≡ pos 0 ∷ (pos 40 ∷ (pos 0 ∷ (pos 10 ∷ (pos 0 ∷ (pos 0 ∷ [])))))
  -- three sinks at the root: "all edges tie for sink 3": those to 1, 2 and branch point 4, each with worst slack -40
  pub three_edges : lower_ends 3 (sinks_in three_at_root 1) 1 ≡ 1 ∷ (2 ∷ (4 ∷ []))
  pub three_tried : map (worst_with three_at_root 1) (1 ∷ (2 ∷ (4 ∷ []))) ≡ neg_ℤ (pos 40) ∷ (neg_ℤ (pos 40) ∷ (neg_ℤ (pos 40) ∷ []))
  -- h = 2 and v = 6, then either of them alone: three trees
  pub metals_own : own_slacks (two_metals 2 6) ≡ pos 80 ∷ (pos 66 ∷ (pos 70 ∷ []))
  pub metals_tree : plan (two_metals 2 6) ≡ record { parents = 5 ∷ (4 ∷ (5 ∷ (0 ∷ (4 ∷ [])))); points = point (pos 4) (pos 0) ∷ (point (pos 10) (pos 0) ∷ []) }
  pub metals_slack : worst_slack (two_metals 2 6) (plan (two_metals 2 6)) ≡ pos 30
  pub metals_wire : wire_length (two_metals 2 6) (plan (two_metals 2 6)) ≡ 26
  pub metals_best : IsKraftMaximum 20 (own_slacks (two_metals 2 6)) (pos 30)
  pub horizontal_alone : plan (two_metals 2 2) ≡ record { parents = 4 ∷ (5 ∷ (5 ∷ (0 ∷ (4 ∷ [])))); points = point (pos 4) (pos 0) ∷ (point (pos 4) (pos 6) ∷ []) }
  pub vertical_alone : plan (two_metals 6 6) ≡ record { parents = 5 ∷ (5 ∷ (4 ∷ (0 ∷ (4 ∷ [])))); points = point (pos 4) (pos 0) ∷ (point (pos 4) (pos 0) ∷ []) }
  -- the edges to 1, 2 and branch point 4 tie for sink 3, which splits that to sink 2; by the factors, 12 and 24, it would split that to sink 1
  pub plain_tried : map (worst_with plain_nearness 1) (1 ∷ (2 ∷ (4 ∷ []))) ≡ neg_ℤ (pos 40) ∷ (neg_ℤ (pos 40) ∷ (neg_ℤ (pos 40) ∷ []))
  pub plain_tree : plan plain_nearness ≡ record { parents = 4 ∷ (5 ∷ (5 ∷ (0 ∷ (4 ∷ [])))); points = point (pos 4) (pos 0) ∷ (point (pos 4) (pos 0) ∷ []) }
  pub plain_wire : wire_length plain_nearness (plan plain_nearness) ≡ 18
  -- "The median of 0,0 and 4,6 and 10,0 is 4,0."
  pub median_of_three : median_point (point (pos 0) (pos 0)) (point (pos 4) (pos 6)) (point (pos 10) (pos 0)) ≡ point (pos 4) (pos 0)
  -- "n = 3, parents of 1 to 5 are 0, 4, 5, 5, 4: 10,2,5": the counts are right, vertex 2 is not reached, so the tree is not legal
  pub ring_counts : wrong_children 3 (0 ∷ (4 ∷ (5 ∷ (5 ∷ (4 ∷ []))))) ≡ None
  pub ring_unreached : unreached 3 (0 ∷ (4 ∷ (5 ∷ (5 ∷ (4 ∷ []))))) ≡ Some 2
  pub ring_illegal : Legal 3 (0 ∷ (4 ∷ (5 ∷ (5 ∷ (4 ∷ []))))) → ⊥
  -- "n = 3, parents 4, 4, 4, 0, 4: 9,2,7": vertex 4 has a wrong number of children
  pub star_counts : wrong_children 3 (4 ∷ (4 ∷ (4 ∷ (0 ∷ (4 ∷ []))))) ≡ Some 4
