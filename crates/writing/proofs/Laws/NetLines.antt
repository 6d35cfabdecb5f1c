-- The lines of a net in range: their numbers are short enough to be written, and stay the same in 64 bits. Assumes nothing.
use Prim.Native.Nat.{ℕ, ◌+◌, ◌≤◌}
use mathlib.Core.Path.{◌≡◌, ap, ap₂, ◌∙◌}
use mathlib.Core.List.{List, [], ◌∷◌, ◌++◌}
use native.Mathlib.Omega.{arith}
use lib.ListN.{length, get_or, length-append}
use lib.IntN.{ℤ, pos}
use Rattle.std.specs.List.{All}
use mir.Syntax.{w64}
use mir.Val.{to_z}
use Rattle.quantities.specs.declared.point.Point.{Point}
use Rattle.quantities.specs.Inner.Linear.{up, whole, one_part, neg_up, neg_dn, rd}
use Rattle.quantities.specs.Ranges.{Within, PointWithin}
use Rattle.tree.specs.declared.header.Header.{Header}
use Rattle.tree.specs.Inner.Arrays.{point_at}
use Rattle.tree.specs.Limits.{position_limit, branch_limit, need_limit, required_limit, weight_limit}
use Rattle.tree.proofs.Laws.Measures.MeasuredArrays.{pos_up}
use Rattle.formats.specs.Line.{line_text}
use Rattle.formats.specs.NetText.{root_key, branch_key, wire_key, need_key, sinks_key, sink_key}
use Rattle.formats.specs.Inner.Writing.{Writable}
use Rattle.formats.proofs.Laws.Numbers.Signs.{plain_back}
use Rattle.formats.proofs.Laws.Listings.ListingWriting.{within_back, natural_writable}
use Rattle.writing.specs.Inner.NetWriting.{root_line, branch_line, wire_line, need_line, count_line, net_head_text, sink_line, HeadInRange}
use Rattle.writing.proofs.Laws.Lines.{all_one, all_two, all_four, back_writable}

-- ---- numbers in range

-- a number from 1 to k
pub positive_within : (k : ℕ) (z : ℤ) → 1 ≤ up z → up z ≤ k → Within k z
positive_within k z l h =
    let e = one_part z in
    (omega (arith, whole, neg_up (pos k), neg_dn (pos k)), omega (arith, whole))

-- ---- the head

pub head_parts : (h : Header) (root : Point) (n : ℕ) → length (net_head_text h root n) ≡ length (root_line root) + length (branch_line h) + length (wire_line h) + length (need_line h) + length (count_line n)
head_parts h root n =
    let two = root_line root ++ branch_line h in
    let three = two ++ wire_line h in
    let four = three ++ need_line h in
    omega (arith, length-append four (count_line n), length-append three (need_line h), length-append two (wire_line h), length-append (root_line root) (branch_line h))

module _ (h : Header) (root : Point) (n : ℕ) (R : HeadInRange h root n) where
  pub root_writable : All Writable (rd root.x ∷ (rd root.y ∷ []))
  root_writable = all_two (rd root.x) (rd root.y) (back_writable position_limit root.x (omega arith) R.root_in.0) (back_writable position_limit root.y (omega arith) R.root_in.1)

  pub root_line_lem : line_text root_key (rd root.x ∷ (rd root.y ∷ [])) ≡ root_line root
  root_line_lem = ap₂ (λ (x y : ℤ). line_text root_key (x ∷ (y ∷ []))) (within_back position_limit _ (omega arith) R.root_in.0) (within_back position_limit _ (omega arith) R.root_in.1)

  module _ (z : ℤ) (e : z ≡ h.branch.0) where
    pub branch_writable : All Writable (rd z ∷ [])
    branch_writable = all_one (rd z) (rw e (back_writable branch_limit h.branch.0 (omega arith) R.branch))

    pub branch_line_lem : line_text branch_key (rd z ∷ []) ≡ branch_line h
    branch_line_lem = ap (λ (x : ℤ). line_text branch_key (x ∷ [])) (ap rd e ∙ within_back branch_limit _ (omega arith) R.branch)

  module _ (a b : ℕ) (e : a ≡ h.wire.horizontal.0) (f : b ≡ h.wire.vertical.0) where
    pub wire_writable : All Writable (to_z w64 a ∷ (to_z w64 b ∷ []))
    wire_writable = all_two (to_z w64 a) (to_z w64 b) (natural_writable a (omega (arith, R.wire.0.1))) (natural_writable b (omega (arith, R.wire.1.1)))

    pub wire_line_lem : line_text wire_key (to_z w64 a ∷ (to_z w64 b ∷ [])) ≡ wire_line h
    wire_line_lem =
        let p = plain_back a (omega (arith, R.wire.0.1)) ∙ ap pos e in
        let q = plain_back b (omega (arith, R.wire.1.1)) ∙ ap pos f in
        ap₂ (λ (x y : ℤ). line_text wire_key (x ∷ (y ∷ []))) p q

  module _ (z : ℤ) (e : z ≡ h.need.0) where
    pub need_writable : All Writable (rd z ∷ [])
    need_writable = all_one (rd z) (rw e (back_writable need_limit h.need.0 (omega arith) R.need))

    pub need_line_lem : line_text need_key (rd z ∷ []) ≡ need_line h
    need_line_lem = ap (λ (x : ℤ). line_text need_key (x ∷ [])) (ap rd e ∙ within_back need_limit _ (omega arith) R.need)

  pub count_writable : All Writable (to_z w64 n ∷ [])
  count_writable = all_one (to_z w64 n) (natural_writable n (omega (arith, R.few)))

  pub count_line_lem : line_text sinks_key (to_z w64 n ∷ []) ≡ count_line n
  count_line_lem = ap (λ (x : ℤ). line_text sinks_key (x ∷ [])) (plain_back n (omega (arith, R.few)))

-- ---- the line of a sink

pub record SinkInRange (xs ys rs ws : List ℤ) (k : ℕ) : Type 0 where
  pub point : PointWithin position_limit (point_at xs ys k)
  pub arrival : Within required_limit (get_or rs k (pos 0))
  pub weight : (1 ≤ up (get_or ws k (pos 0))) × (up (get_or ws k (pos 0)) ≤ weight_limit)

module _ (xs ys rs ws : List ℤ) (k : ℕ) (R : SinkInRange xs ys rs ws k) where
  abbrev x : ℤ
  x = get_or xs k (pos 0)

  abbrev y : ℤ
  y = get_or ys k (pos 0)

  abbrev a : ℤ
  a = get_or rs k (pos 0)

  abbrev w : ℤ
  w = get_or ws k (pos 0)

  weighs : Within weight_limit w
  weighs = positive_within weight_limit w R.weight.0 R.weight.1

  pub sink_writable : All Writable (rd x ∷ (rd y ∷ (rd a ∷ (rd w ∷ []))))
  sink_writable =
      all_four (rd x) (rd y) (rd a) (rd w)
      (back_writable position_limit x (omega arith) R.point.0)
      (back_writable position_limit y (omega arith) R.point.1)
      (back_writable required_limit a (omega arith) R.arrival)
      (back_writable weight_limit w (omega arith) weighs)

  pub sink_line_lem : line_text sink_key (rd x ∷ (rd y ∷ (rd a ∷ (rd w ∷ [])))) ≡ sink_line xs ys rs ws k
  sink_line_lem =
      let x_back = within_back position_limit x (omega arith) R.point.0 in
      let y_back = within_back position_limit y (omega arith) R.point.1 in
      let a_back = within_back required_limit a (omega arith) R.arrival in
      let w_back = within_back weight_limit w (omega arith) weighs ∙ pos_up w R.weight.0 in
      (λ i. line_text sink_key (x_back i ∷ (y_back i ∷ (a_back i ∷ (w_back i ∷ [])))))
