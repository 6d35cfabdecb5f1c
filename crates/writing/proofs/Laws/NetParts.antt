-- The net that arrays hold: its text is the head and a line for each sink, all in range, and it is short. Assumes nothing.
use Prim.Native.Nat.{ℕ, zero, suc, ◌+◌, ◌≤◌}
use mathlib.Core.Path.{◌≡◌, refl, sym, ap, ◌∙◌, subst}
use mathlib.Core.List.{List, [], ◌∷◌, ◌++◌, map, append_assoc}
use native.Mathlib.Omega.{arith}
use lib.ListN.{length, get_or, length-append}
use lib.IntN.{ℤ, pos}
use Rattle.quantities.specs.declared.point.Point.{Point}
use Rattle.quantities.specs.Inner.Linear.{up, rd}
use Rattle.quantities.specs.Ranges.{Within}
use Rattle.tree.specs.declared.header.Header.{Header}
use Rattle.tree.specs.Net.{size, sink_numbers}
use Rattle.tree.specs.Weights.{weight_of}
use Rattle.tree.specs.Limits.{position_limit, branch_limit, required_limit, WeightsInRange}
use Rattle.tree.specs.Inner.Arrays.{point_at, net_of, weights_of, HoldsNet, HoldsWeights}
use Rattle.tree.proofs.Laws.Lists.Tables.{table_at}
use Rattle.tree.proofs.Laws.Arrays.NetAndTree.{size_is, required_at}
use Rattle.tree.proofs.Laws.Arrays.PlanArrays.{some_few}
use Rattle.tree.proofs.Laws.Measures.MeasuredArrays.{branch_is}
use Rattle.formats.specs.Limits.{net_length_limit}
use Rattle.formats.specs.Line.{line_text}
use Rattle.formats.specs.NetText.{branch_key, sinks_text, weighted, net_lines}
use Rattle.formats.specs.ListingText.{lines_text}
use Rattle.formats.proofs.Laws.Listings.ListingWriting.{within_back}
use Rattle.formats.proofs.Laws.TextLengths.{net_short}
use Rattle.writing.specs.Inner.NetWriting.{net_held_text, root_line, branch_line, wire_line, need_line, count_line, net_head_text, sink_line, HeadInRange}
use Rattle.writing.specs.declared.net_view.NetView.{NetView}
use Rattle.writing.specs.Inner.NetSeen.{net_seen_text, sink_seen_line}
use Rattle.writing.proofs.Laws.NetLines.{positive_within, SinkInRange}

-- a line for each sink of some numbers
sinks_are : (xs ys rs ws : List ℤ) (l : List ℕ) → sinks_text (weighted (map (λ s. record { point = point_at xs ys s; required = get_or rs s (pos 0) }) l) (map (λ s. up (get_or ws s (pos 0))) l)) ≡ lines_text (sink_line xs ys rs ws) l
sinks_are xs ys rs ws [] = refl
sinks_are xs ys rs ws (s ∷ l) = ap (◌++◌ (sink_line xs ys rs ws s)) (sinks_are xs ys rs ws l)

weight_at : (n : ℕ) (ws : List ℤ) (s : ℕ) → 1 ≤ s → s ≤ n → weight_of (weights_of n ws) s ≡ up (get_or ws s (pos 0))
weight_at n ws zero p q = absurd (omega arith)
weight_at n ws (suc i) p q =
    let e : 1 + i ≡ suc i = omega arith in
    table_at (λ (s : ℕ). up (get_or ws s (pos 0))) 0 1 n i (omega arith) ∙ ap (λ (s : ℕ). up (get_or ws s (pos 0))) e

-- the two parts of the text
abbrev pub head_part : Header → ℕ → List ℤ → List ℤ → List ℕ
head_part h n xs ys = net_head_text h (point_at xs ys 0) n

abbrev pub sinks_part : ℕ → List ℤ → List ℤ → List ℤ → List ℤ → List ℕ
sinks_part n xs ys rs ws = lines_text (sink_line xs ys rs ws) (sink_numbers n)

-- the root, read from the arrays
abbrev pub root_read : List ℤ → List ℤ → Point
root_read xs ys = record { x = rd (get_or xs 0 (pos 0)); y = rd (get_or ys 0 (pos 0)) }

module _ (h : Header) (n : ℕ) (xs ys rs : List ℤ) (net : HoldsNet h n xs ys rs) where
  pub root_back : root_read xs ys ≡ point_at xs ys 0
  root_back =
      let x = within_back position_limit _ (omega arith) net.in_range.root.0 in
      let y = within_back position_limit _ (omega arith) net.in_range.root.1 in
      (λ i. record { x = x i; y = y i })

  pub head_in_range : HeadInRange h (point_at xs ys 0) n
  head_in_range = record {
    root_in = net.in_range.root;
    branch = positive_within branch_limit h.branch.0 net.in_range.branch.0 net.in_range.branch.1;
    wire = net.in_range.wire;
    need = net.in_range.need;
    few = (some_few h n xs ys rs net).1;
  }

  module _ (ws : List ℤ) where
    pub net_is : net_held_text h n xs ys rs ws ≡ head_part h n xs ys ++ sinks_part n xs ys rs ws
    unfolding net_lines
    net_is =
        let root = point_at xs ys 0 in
        let count = size_is h n xs ys rs in
        let branch = sym (branch_is h n xs ys rs net) in
        let sinks = sinks_are xs ys rs ws (sink_numbers n) in
        let right : net_held_text h n xs ys rs ws ≡ root_line root ++ (branch_line h ++ (wire_line h ++ (need_line h ++ (count_line n ++ sinks_part n xs ys rs ws)))) =
        (λ i. root_line root ++ (line_text branch_key (branch i ∷ []) ++ (wire_line h ++ (need_line h ++ (count_line (count i) ++ sinks i))))) in
        right ∙ simp append_assoc

    pub net_parts : length (net_held_text h n xs ys rs ws) ≡ length (head_part h n xs ys) + length (sinks_part n xs ys rs ws)
    net_parts = ap length net_is ∙ length-append (head_part h n xs ys) (sinks_part n xs ys rs ws)

    module _ (weights : HoldsWeights n ws) where
      pub sink_in_range : (k : ℕ) → 1 ≤ k → k ≤ n → SinkInRange xs ys rs ws k
      sink_in_range k p q = record {
        point = net.points.near k (omega arith);
        arrival = subst (Within required_limit) (required_at h n xs ys rs k p q) (net.in_range.required k p (omega (arith, size_is h n xs ys rs)));
        weight = omega (arith, weight_at n ws k p q, weights.in_range.each k p q);
      }

      -- so each part is short
      pub parts_short : length (head_part h n xs ys) + length (sinks_part n xs ys rs ws) ≤ net_length_limit
      parts_short =
          let w : WeightsInRange (size (net_of h n xs ys rs)) (weights_of n ws) = subst (λ (k : ℕ). WeightsInRange k (weights_of n ws)) (sym (size_is h n xs ys rs)) weights.in_range in
          omega (arith, net_parts, net_short (net_of h n xs ys rs) (weights_of n ws) net.in_range w)

-- ---- the net that a view lends

module _ (v : NetView) where
  abbrev pub seen_head : List ℕ
  seen_head = head_part v.header v.n v.xs.now v.ys.now

  abbrev pub seen_sinks : List ℕ
  seen_sinks = lines_text (sink_seen_line v) (sink_numbers v.n)

  -- the head is put with the root that is read
  seen_root : root_read v.xs.now v.ys.now ≡ point_at v.xs.now v.ys.now 0
  seen_root = root_back v.header v.n v.xs.now v.ys.now v.required.now v.holds_net

  pub seen_head_is : net_head_text v.header (root_read v.xs.now v.ys.now) v.n ≡ seen_head
  seen_head_is = ap (λ (p : Point). net_head_text v.header p v.n) seen_root

  pub seen_head_in_range : HeadInRange v.header (root_read v.xs.now v.ys.now) v.n
  seen_head_in_range = subst (λ (p : Point). HeadInRange v.header p v.n) (sym seen_root) (head_in_range v.header v.n v.xs.now v.ys.now v.required.now v.holds_net)

  pub seen_sink : (k : ℕ) → 1 ≤ k → k ≤ v.n → SinkInRange v.xs.now v.ys.now v.required.now v.weights.now k
  seen_sink = sink_in_range v.header v.n v.xs.now v.ys.now v.required.now v.holds_net v.weights.now v.holds_weights

  pub seen_parts : seen_head ++ seen_sinks ≡ net_seen_text v
  seen_parts = sym (net_is v.header v.n v.xs.now v.ys.now v.required.now v.holds_net v.weights.now)

  pub seen_length : length (net_seen_text v) ≡ length seen_head + length seen_sinks
  seen_length = net_parts v.header v.n v.xs.now v.ys.now v.required.now v.holds_net v.weights.now

  pub seen_short : length seen_head + length seen_sinks ≤ net_length_limit
  seen_short = parts_short v.header v.n v.xs.now v.ys.now v.required.now v.holds_net v.weights.now v.holds_weights
