-- A marked pair for 02's request 5: two nets, one 1,000 times the other, and their plans, as one statement. At the insertions of sinks 4 and 3 several edges tie.
use Rattle.std.specs.Prelude.{ℕ, ◌≤◌, ◌≡◌, List, [], ◌∷◌, length, pos, neg_ℤ}
use Rattle.tree.specs.Marked.{point, sink, metals}
use Rattle.tree.specs.Net.{Net}
use Rattle.formats.specs.Bytes.{bytes}
use Rattle.formats.specs.NetText.{InFormat}
use Rattle.formats.specs.Outcome.{value}
use Rattle.operations.specs.Answers.{plan_of}
use Rattle.invariance.specs.Times.{thousand, times_net}

abbrev pub small_net : Net
small_net = record {
  root = point (neg_ℤ (pos 3)) (pos 2);
  branch = 20;
  wire = metals 2 6;
  need = neg_ℤ (pos 30);
  sinks = sink (pos 7) (pos 2) (pos 40) ∷ (sink (pos 1) (pos 8) (pos 64) ∷ (sink (pos 7) (pos 8) (pos 110) ∷ (sink (pos 5) (neg_ℤ (pos 4)) (pos 97) ∷ [])));
}

abbrev pub small_text : List ℕ
small_text = bytes "root=-3,2\nbranch=20\nwire=2,6\nneed=-30\nsinks=4\nsink=7,2,40,1\nsink=1,8,64,1\nsink=7,8,110,1\nsink=5,-4,97,1\n"

abbrev pub large_text : List ℕ
large_text = bytes "root=-3000,2000\nbranch=20000\nwire=2,6\nneed=-30000\nsinks=4\nsink=7000,2000,40000,1\nsink=1000,8000,64000,1\nsink=7000,8000,110000,1\nsink=5000,-4000,97000,1\n"

abbrev pub small_listing : List ℕ
small_listing = bytes "slack=-20\nwire=28\nsinks=4\nleaf=1,6\nleaf=2,7\nleaf=3,7\nleaf=4,6\nnode=5,0,1,2\nnode=6,5,5,2\nnode=7,5,1,8\n"

abbrev pub large_listing : List ℕ
large_listing = bytes "slack=-20000\nwire=28000\nsinks=4\nleaf=1,6\nleaf=2,7\nleaf=3,7\nleaf=4,6\nnode=5,0,1000,2000\nnode=6,5,5000,2000\nnode=7,5,1000,8000\n"

pub record Marked : Type 0 where
  pub small_format : InFormat small_text small_net
  pub small_plan : (room : ℕ) → length small_listing ≤ room → plan_of small_text room ≡ value (record { slack = neg_ℤ (pos 20); wire = 28; bytes = small_listing })
  pub large_format : InFormat large_text (times_net thousand small_net)
  pub large_plan : (room : ℕ) → length large_listing ≤ room → plan_of large_text room ≡ value (record { slack = neg_ℤ (pos 20_000); wire = 28_000; bytes = large_listing })
