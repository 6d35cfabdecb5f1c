-- The marked nets of documents 01 and 02, by computation and by Theorem 1.
use Prim.Native.Nat.{ℕ}
use mathlib.Core.Path.{◌≡◌, refl, sym, ap, ap₂, subst, ◌∙◌}
use mathlib.Core.List.{[], ◌∷◌}
use native.Mathlib.Nat.{mul-zero}
use native.Mathlib.Omega.{arith}
use lib.ListN.{length}
use lib.IntN.{pos, neg_ℤ}
use lib.Signed.{◌<ℤ◌, lt_z_yes}
use Rattle.quantities.specs.MinMax.{min_ℤ, max_ℤ}
use Rattle.quantities.specs.Floor.{floor_div}
use Rattle.quantities.specs.Delay.{delay}
use Rattle.quantities.specs.Distance.{span, distance}
use Rattle.quantities.specs.Median.{median, median_point}
use Rattle.tree.specs.Net.{Net, size, own_slack, own_slacks}
use Rattle.tree.specs.Tree.{Legal}
use Rattle.tree.specs.Measures.{worst_slack, wire_length}
use Rattle.tree.specs.Kraft.{kraft_maximum, search_down, IsKraftMaximum}
use Rattle.tree.specs.Planning.{tie_rule}
use Rattle.tree.specs.Settling.{plan, plan_by}
use Rattle.tree.specs.Theorem1.{Theorem1For}
use Rattle.tree.specs.Marked.{net_a, one_sink, TwoSinks, two_metals, Marked}
use Rattle.tree.proofs.Laws.Trees.StepsToRoot.{legal_reach}
use Rattle.tree.proofs.Laws.Kraft.Maximum.{maximum_is, maximum_single}
use Rattle.tree.proofs.Laws.Lists.Tables.{table_length}
use Rattle.tree.proofs.Laws.Planning.AnyTieRule.{need_not}
use Rattle.tree.proofs.Laws.Planning.Theorem1.{theorem_1}

maximum_A : kraft_maximum 20 (own_slacks net_a) ≡ pos 0
unfolding kraft_maximum search_down floor_div min_ℤ delay distance span
maximum_A = refl

best_A : IsKraftMaximum 20 (own_slacks net_a) (pos 0)
best_A = subst (IsKraftMaximum 20 (own_slacks net_a)) maximum_A (maximum_is 20 _ _ (omega arith))

maximum_metals : kraft_maximum 20 (own_slacks (two_metals 2 6)) ≡ pos 30
unfolding kraft_maximum search_down floor_div min_ℤ delay span
maximum_metals = refl

best_metals : IsKraftMaximum 20 (own_slacks (two_metals 2 6)) (pos 30)
best_metals = subst (IsKraftMaximum 20 (own_slacks (two_metals 2 6))) maximum_metals (maximum_is 20 _ _ (omega arith))

slack_A : worst_slack net_a (plan_by tie_rule net_a) ≡ pos 0
unfolding worst_slack plan_by tie_rule min_ℤ max_ℤ median median_point delay distance span
slack_A = refl

slack_one : (c : ℕ) → worst_slack (one_sink c) (plan (one_sink c)) ≡ neg_ℤ (pos 4)
unfolding worst_slack plan plan_by tie_rule min_ℤ max_ℤ median median_point delay distance span
slack_one c = rw mul-zero

best_one : (c : ℕ) → IsKraftMaximum c (own_slacks (one_sink c)) (neg_ℤ (pos 4))
unfolding delay distance span
best_one c = maximum_single c (neg_ℤ (pos 4))

-- two sinks of own slack 5, c = 3, by Theorem 1
module _ (N : Net) (t : TwoSinks N) where
  two_own : kraft_maximum N.branch (own_slacks N) ≡ pos 2
  unfolding kraft_maximum search_down floor_div min_ℤ
  two_own = ap₂ kraft_maximum t.branch t.own

  two_size : size N ≡ 2
  two_size = sym (table_length (own_slack N) 1 (size N)) ∙ ap length t.own

  two_theorem : Theorem1For N
  two_theorem = theorem_1 N (omega (arith, t.branch)) (omega (arith, two_size))

  slack_two : worst_slack N (plan N) ≡ pos 2
  slack_two = two_theorem.attained ∙ two_own

  best_two : IsKraftMaximum N.branch (own_slacks N) (pos 2)
  best_two = subst (IsKraftMaximum N.branch (own_slacks N)) two_own two_theorem.maximum

ring_illegal : Legal 3 (0 ∷ (4 ∷ (5 ∷ (5 ∷ (4 ∷ []))))) → ⊥
ring_illegal L = omega (arith, legal_reach 3 (0 ∷ (4 ∷ (5 ∷ (5 ∷ (4 ∷ []))))) L 2 (omega arith))

pub marked : Marked
unfolding worst_slack wire_length plan plan_by tie_rule min_ℤ max_ℤ median median_point delay distance span
marked = record {
  a_own = refl;
  a_tree = refl;
  a_slack = refl;
  a_wire = refl;
  a_best = best_A;
  a_need = λ R L. need_not net_a (omega arith) (omega arith) tie_rule (pos 1) (subst (λ z. z <ℤ pos 1) (sym slack_A) (lt_z_yes tt)) R L;
  three_slack = refl;
  three_wire = refl;
  three_parents = refl;
  one_slack = slack_one;
  one_wire = λ c. refl;
  one_best = λ c h. best_one c;
  two_slack = slack_two;
  two_best = best_two;
  two_some = record { own = refl; branch = refl };
  nearest_root = refl;
  nearest_root_slack = refl;
  nearest_root_wire = refl;
  nearest_sink = refl;
  nearest_sink_slack = refl;
  nearest_sink_wire = refl;
  a_gathered = refl;
  a_tried = refl;
  a_gathered_all = refl;
  three_edges = refl;
  three_tried = refl;
  metals_own = refl;
  metals_tree = refl;
  metals_slack = refl;
  metals_wire = refl;
  metals_best = best_metals;
  horizontal_alone = refl;
  vertical_alone = refl;
  plain_tried = refl;
  plain_tree = refl;
  plain_wire = refl;
  median_of_three = refl;
  ring_counts = refl;
  ring_unreached = refl;
  ring_illegal = ring_illegal;
  star_counts = refl;
}
