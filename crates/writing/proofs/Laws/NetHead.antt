-- The five lines of a net's head, each put where the one before it ends. Assumes nothing.
use Rattle.std.proofs.Common.{◌≡◌, ℕ, ◌+◌, ◌≤◌, List, [], ◌∷◌, ◌++◌, length, ℤ, zero-add}
use mir.Syntax.{w64}
use mir.Val.{to_z}
use Rattle.quantities.specs.declared.point.Point.{Point}
use Rattle.quantities.specs.Inner.Linear.{rd}
use Rattle.tree.specs.declared.header.Header.{Header}
use Rattle.formats.specs.Line.{line_text}
use Rattle.formats.specs.NetText.{root_key, branch_key, wire_key, need_key, sinks_key}
use Rattle.formats.specs.Inner.Writing.{Puts}
use Rattle.formats.proofs.Laws.Writing.{fits_first}
use Rattle.writing.specs.Inner.NetWriting.{root_line, branch_line, wire_line, need_line, count_line, net_head_text, HeadInRange}
use Rattle.writing.proofs.Laws.Lines.{fits_as, put_as, next_fits, next_put}
use Rattle.writing.proofs.Laws.NetLines.{root_line_lem, branch_line_lem, wire_line_lem, need_line_lem, count_line_lem}

module _ (h : Header) (root : Point) (n : ℕ) (R : HeadInRange h root n) (l : List ℕ) (room : length (net_head_text h root n) ≤ length l) where
  -- the first lines, and that there is room for them
  abbrev two : List ℕ
  two = root_line root ++ branch_line h

  abbrev three : List ℕ
  three = two ++ wire_line h

  abbrev four : List ℕ
  four = three ++ need_line h

  room5 : 0 + length (four ++ count_line n) ≤ length l
  room5 = rw (zero-add (length (four ++ count_line n))) room

  room4 : 0 + length four ≤ length l
  room4 = fits_first l 0 four (count_line n) room5

  room3 : 0 + length three ≤ length l
  room3 = fits_first l 0 three (need_line h) room4

  room2 : 0 + length two ≤ length l
  room2 = fits_first l 0 two (wire_line h) room3

  pub root_fits : 0 + length (line_text root_key (rd root.x ∷ (rd root.y ∷ []))) ≤ length l
  root_fits = fits_as 0 _ _ (root_line_lem h root n R) l (fits_first l 0 (root_line root) (branch_line h) room2)

  module _ (at1 : ℕ) (l1 : List ℕ) (p1 : Puts l 0 (line_text root_key (rd root.x ∷ (rd root.y ∷ []))) at1 l1) (b : ℤ) (b_is : b ≡ h.branch.0) where
    one_put : Puts l 0 (root_line root) at1 l1
    one_put = put_as 0 _ _ (root_line_lem h root n R) l at1 l1 p1

    pub branch_fits : at1 + length (line_text branch_key (rd b ∷ [])) ≤ length l1
    branch_fits = next_fits l 0 (root_line root) (branch_line h) room2 at1 l1 one_put _ (branch_line_lem h root n R b b_is)

    module _ (at2 : ℕ) (l2 : List ℕ) (p2 : Puts l1 at1 (line_text branch_key (rd b ∷ [])) at2 l2) (x y : ℕ) (x_is : x ≡ h.wire.horizontal.0) (y_is : y ≡ h.wire.vertical.0) where
      two_put : Puts l 0 two at2 l2
      two_put = next_put l 0 (root_line root) (branch_line h) room2 at1 l1 one_put _ (branch_line_lem h root n R b b_is) at2 l2 p2

      pub wire_fits : at2 + length (line_text wire_key (to_z w64 x ∷ (to_z w64 y ∷ []))) ≤ length l2
      wire_fits = next_fits l 0 two (wire_line h) room3 at2 l2 two_put _ (wire_line_lem h root n R x y x_is y_is)

      module _ (at3 : ℕ) (l3 : List ℕ) (p3 : Puts l2 at2 (line_text wire_key (to_z w64 x ∷ (to_z w64 y ∷ []))) at3 l3) (d : ℤ) (d_is : d ≡ h.need.0) where
        three_put : Puts l 0 three at3 l3
        three_put = next_put l 0 two (wire_line h) room3 at2 l2 two_put _ (wire_line_lem h root n R x y x_is y_is) at3 l3 p3

        pub need_fits : at3 + length (line_text need_key (rd d ∷ [])) ≤ length l3
        need_fits = next_fits l 0 three (need_line h) room4 at3 l3 three_put _ (need_line_lem h root n R d d_is)

        module _ (at4 : ℕ) (l4 : List ℕ) (p4 : Puts l3 at3 (line_text need_key (rd d ∷ [])) at4 l4) where
          four_put : Puts l 0 four at4 l4
          four_put = next_put l 0 three (need_line h) room4 at3 l3 three_put _ (need_line_lem h root n R d d_is) at4 l4 p4

          pub count_fits : at4 + length (line_text sinks_key (to_z w64 n ∷ [])) ≤ length l4
          count_fits = next_fits l 0 four (count_line n) room5 at4 l4 four_put _ (count_line_lem h root n R)

          pub head_put : (at5 : ℕ) (l5 : List ℕ) → Puts l4 at4 (line_text sinks_key (to_z w64 n ∷ [])) at5 l5 → Puts l 0 (net_head_text h root n) at5 l5
          head_put at5 l5 p5 = next_put l 0 four (count_line n) room5 at4 l4 four_put _ (count_line_lem h root n R) at5 l5 p5
