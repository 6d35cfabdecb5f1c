-- The head of a net, from what its five lines say one after another. Assumes nothing.
use Prim.Native.Nat.{ℕ, ◌≤◌, ◌<◌}
use mathlib.Core.Path.{◌≡◌, refl, ap, sym, ◌∙◌}
use mathlib.Core.List.{List}
use lib.ListN.{length, drop}
use lib.IntN.{ℤ, nat_abs}
use native.Mathlib.Omega.{arith}
use borrow.Author.Tests.{lt-ltb, le-ltb}
use Rattle.quantities.specs.Inner.Linear.{up, whole, nat_abs_is, one_part}
use Rattle.tree.specs.Limits.{position_limit, branch_limit, need_limit, sink_limit}
use Rattle.formats.specs.Limits.{net_length_limit}
use Rattle.formats.specs.Outcome.{Outcome, value, refused, and_then}
use Rattle.formats.specs.Ranges.{around, up_to, at}
use Rattle.formats.specs.NetText.{root_key, branch_key, wire_key, need_key, sinks_key, position_ranges, factor_ranges, point_of}
use Rattle.formats.specs.Reading.Lines.{Read, due, due_number}
use Rattle.formats.specs.Reading.Nets.{Head, metals_of, read_head, read_rest, WeightedNet, net_with, read_weighted}
use Rattle.formats.specs.Inner.Readers.{ahead, LineRead, NumberRead, from_branch, from_wire, from_need, from_count, HeadHeld}
use Rattle.formats.specs.declared.reader.LineReader.{LineReader}
use Rattle.formats.specs.declared.read_net.NetHead.{NetHead}
use Rattle.formats.specs.declared.refusal.Text.TheVariants.{InNet}
use Rattle.formats.specs.declared.refusal.Refusal.{Refusal}
use Rattle.formats.specs.declared.refusal.Refusal.TheVariants.{TooLong}
use Rattle.formats.proofs.Laws.Lines.Outcomes.{then_then, then_value, then_refused}
use Rattle.formats.proofs.Laws.Lines.Due.{inside_bounds}
use Rattle.reading.proofs.Laws.Numbers.{inside_at}
use Rattle.reading.proofs.Laws.Steps.{AtStart, Left, left_all, line_refused, line_read}

-- "length first"
pub net_long : (s : List ℕ) → net_length_limit < length s → read_weighted s ≡ refused (TooLong InNet)
unfolding read_weighted
net_long s h = rw (read_weighted, lt-ltb net_length_limit (length s) h)

-- what follows the head
abbrev sinks_after : Read Head → Outcome WeightedNet
sinks_after head = and_then (read_rest head.got.root head.got.count head.rest) λ sinks. value (net_with head.got sinks)

module _ (s : List ℕ) (short : length s ≤ net_length_limit) where
  head_wrong : (e : Refusal) → read_head s ≡ refused e → read_weighted s ≡ refused e
  unfolding read_weighted
  head_wrong e q = rw (read_weighted, le-ltb net_length_limit (length s) short) (then_refused sinks_after q)

  head_right : (head : Read Head) → read_head s ≡ value head → read_weighted s ≡ sinks_after head
  unfolding read_weighted
  head_right head q = rw (read_weighted, le-ltb net_length_limit (length s) short) (then_value sinks_after q)

  -- the reader is at the start, and reads line after line
  module _ (r : LineReader) (start : AtStart InNet s r) where
    at_root : Left InNet (read_head s) s 1 read_head r
    at_root = left_all InNet s read_head r start

    root_line : (u : List ℕ) → read_head u ≡ and_then (due InNet 1 root_key position_ranges u) (λ p. from_branch (point_of p.got) p.rest)
    root_line u = then_then (due InNet 1 root_key position_ranges u) _ _

    pub root_refused : (e : Refusal) → due r.which r.line root_key position_ranges (ahead r) ≡ refused e → read_weighted s ≡ refused e
    root_refused e q = head_wrong e (line_refused InNet (read_head s) s 1 read_head r at_root (λ t l u. due t l root_key position_ranges u) _ root_line e q)

    module _ (p : List ℤ) (r₁ : LineReader) (root : LineRead root_key position_ranges r p r₁) where
      at_branch : Left InNet (read_head s) s 2 (from_branch (point_of p)) r₁
      at_branch = line_read InNet (read_head s) s 1 read_head r at_root (λ t l u. due t l root_key position_ranges u) _ root_line p r₁ root.read_to root.same_text

      branch_line : (u : List ℕ) → from_branch (point_of p) u ≡ and_then (due_number InNet 2 branch_key (up_to branch_limit) u) (λ c. from_wire (point_of p) (nat_abs c.got) c.rest)
      branch_line u = then_then (due_number InNet 2 branch_key (up_to branch_limit) u) _ _

      pub branch_refused : (e : Refusal) → due_number r₁.which r₁.line branch_key (up_to branch_limit) (ahead r₁) ≡ refused e → read_weighted s ≡ refused e
      branch_refused e q = head_wrong e (line_refused InNet (read_head s) s 2 (from_branch (point_of p)) r₁ at_branch (λ t l u. due_number t l branch_key (up_to branch_limit) u) _ branch_line e q)

      module _ (c : ℤ) (r₂ : LineReader) (branch : NumberRead branch_key (up_to branch_limit) r₁ c r₂) where
        at_wire : Left InNet (read_head s) s 3 (from_wire (point_of p) (nat_abs c)) r₂
        at_wire = line_read InNet (read_head s) s 2 (from_branch (point_of p)) r₁ at_branch (λ t l u. due_number t l branch_key (up_to branch_limit) u) _ branch_line c r₂ branch.read_to branch.same_text

        wire_line : (u : List ℕ) → from_wire (point_of p) (nat_abs c) u ≡ and_then (due InNet 3 wire_key factor_ranges u) (λ w. from_need (point_of p) (nat_abs c) (metals_of w.got) w.rest)
        wire_line u = then_then (due InNet 3 wire_key factor_ranges u) _ _

        pub wire_refused : (e : Refusal) → due r₂.which r₂.line wire_key factor_ranges (ahead r₂) ≡ refused e → read_weighted s ≡ refused e
        wire_refused e q = head_wrong e (line_refused InNet (read_head s) s 3 (from_wire (point_of p) (nat_abs c)) r₂ at_wire (λ t l u. due t l wire_key factor_ranges u) _ wire_line e q)

        module _ (w : List ℤ) (r₃ : LineReader) (wire : LineRead wire_key factor_ranges r₂ w r₃) where
          at_need : Left InNet (read_head s) s 4 (from_need (point_of p) (nat_abs c) (metals_of w)) r₃
          at_need = line_read InNet (read_head s) s 3 (from_wire (point_of p) (nat_abs c)) r₂ at_wire (λ t l u. due t l wire_key factor_ranges u) _ wire_line w r₃ wire.read_to wire.same_text

          pub need_refused : (e : Refusal) → due_number r₃.which r₃.line need_key (around need_limit) (ahead r₃) ≡ refused e → read_weighted s ≡ refused e
          need_refused e q = head_wrong e (line_refused InNet (read_head s) s 4 (from_need (point_of p) (nat_abs c) (metals_of w)) r₃ at_need (λ t l u. due_number t l need_key (around need_limit) u) _ (λ u. refl) e q)

          module _ (z : ℤ) (r₄ : LineReader) (need : NumberRead need_key (around need_limit) r₃ z r₄) where
            at_count : Left InNet (read_head s) s 5 (from_count (point_of p) (nat_abs c) (metals_of w) z) r₄
            at_count = line_read InNet (read_head s) s 4 (from_need (point_of p) (nat_abs c) (metals_of w)) r₃ at_need (λ t l u. due_number t l need_key (around need_limit) u) _ (λ u. refl) z r₄ need.read_to need.same_text

            count_line : (u : List ℕ) → from_count (point_of p) (nat_abs c) (metals_of w) z u
                ≡ and_then (due_number InNet 5 sinks_key (up_to sink_limit) u) (λ n. value (record { got = record { root = point_of p; branch = nat_abs c; wire = metals_of w; need = z; count = nat_abs n.got }; rest = n.rest }))
            count_line u = then_then (due_number InNet 5 sinks_key (up_to sink_limit) u) _ _

            pub count_refused : (e : Refusal) → due_number r₄.which r₄.line sinks_key (up_to sink_limit) (ahead r₄) ≡ refused e → read_weighted s ≡ refused e
            count_refused e q = head_wrong e (line_refused InNet (read_head s) s 5 (from_count (point_of p) (nat_abs c) (metals_of w) z) r₄ at_count (λ t l u. due_number t l sinks_key (up_to sink_limit) u) _ count_line e q)

            -- the head that a program makes of these numbers
            pub head_held : (n : ℤ) (head : NetHead) → NumberRead sinks_key (up_to sink_limit) r₄ n head.sinks
                → head.root.x ≡ at p 0 → head.root.y ≡ at p 1 → head.header.branch.0 ≡ c → head.header.wire.horizontal.0 ≡ nat_abs (at w 0) → head.header.wire.vertical.0 ≡ nat_abs (at w 1) → head.header.need.0 ≡ z → head.n ≡ nat_abs n
                → HeadHeld sink_limit s head
            head_held n head count px py hc hh hv hz hn =
                let at_end = line_read InNet (read_head s) s 5 (from_count (point_of p) (nat_abs c) (metals_of w) z) r₄ at_count (λ t l u. due_number t l sinks_key (up_to sink_limit) u) _ count_line n head.sinks count.read_to count.same_text in
                let b = inside_bounds (up_to branch_limit) c branch.in_range in
                let m = inside_bounds (up_to sink_limit) n count.in_range in
                let x = inside_bounds (around position_limit) (at p 0) (inside_at position_ranges p 0 (around position_limit) root.in_ranges (omega arith)) in
                let y = inside_bounds (around position_limit) (at p 1) (inside_at position_ranges p 1 (around position_limit) root.in_ranges (omega arith)) in
                let k : nat_abs c ≡ up head.header.branch.0 = omega (arith, whole, nat_abs_is c, one_part c, ap up hc, b.0) in
                record {
                  text_is = at_end.text_is;
                  reads = head_right _ at_end.reads
                      ∙ (λ i. sinks_after (record {
                        got = record { root = record { x = sym px i; y = sym py i }; branch = k i; wire = record { horizontal = record { 0 = sym hh i }; vertical = record { 0 = sym hv i } }; need = sym hz i; count = sym hn i };
                        rest = drop head.sinks.at (sym at_end.text_is i);
                      }));
                  at_sinks = record {
                    at_most = omega (arith, whole, nat_abs_is n, m.0, m.1, hn);
                    within = omega (arith, at_end.within, ap length at_end.text_is);
                    line_is = at_end.line_is;
                    which_is = at_end.which_is;
                    root_within = rw (px, py) (x, y);
                  };
                }
