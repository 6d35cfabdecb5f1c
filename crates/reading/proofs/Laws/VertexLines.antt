-- The line of a vertex, from what the reader took and what its numbers say: the first is the vertex, the second its parent, which is no sink. Assumes nothing.
use Prim.Native.Nat.{ℕ, suc, ◌+◌, ◌-◌}
use mathlib.Core.Path.{◌≡◌, refl, sym, ap, ◌∙◌}
use mathlib.Core.Bool.{Bool, true, false, cond, ◌&&◌}
use mathlib.Core.List.{List, [], ◌∷◌, map}
use lib.ListN.{length, drop, length-drop}
use lib.Seq.{drop-drop}
use lib.IntN.{ℤ, pos, nat_abs}
use lib.Signed.{le_z}
use native.Mathlib.Omega.{arith}
use Rattle.std.specs.Prelude.{Result, Ok, Err}
use Rattle.formats.specs.Outcome.{value, refused}
use Rattle.formats.specs.Ranges.{at}
use Rattle.formats.specs.NetText.{position_ranges}
use Rattle.formats.specs.ListingText.{leaf_key, node_key, parent_range}
use Rattle.formats.specs.Reading.Rows.{Row, row, misspelled, line_in}
use Rattle.formats.specs.Reading.Lines.{all_inside, ranged, ranged_after, due_for}
use Rattle.formats.specs.Reading.Listings.{is_sink, Vertex, vertex_of, no_sink, due_vertex, due_leaf, due_node}
use Rattle.formats.specs.Inner.Scanning.{held}
use Rattle.formats.specs.Inner.Readers.{ahead, place, row_answer, row_moved, ReadTo, SameText}
use Rattle.formats.specs.declared.number.Number.{Number}
use Rattle.formats.specs.declared.ranges.Range.{Range}
use Rattle.formats.specs.declared.reader.LineReader.{LineReader}
use Rattle.formats.specs.declared.refusal.Text.TheVariants.{InListing}
use Rattle.formats.specs.declared.refusal.Refusal.{Refusal}
use Rattle.formats.specs.declared.refusal.Refusal.TheVariants.{NotDue, OutOfRange, SinkParent}
use Rattle.formats.proofs.Laws.Lines.Outcomes.{then_value, then_refused}
use Rattle.formats.proofs.Laws.Lines.Due.{IsRow, right_row}
use Rattle.formats.proofs.Laws.Lines.Lines.{line_sound, line_progress}
use Rattle.reading.specs.Inner.Vertices.{AtLineOf, Says, after_first, leaf_told}

-- ---- the numbers of a row, from what they say after the first

module _ (l k : ℕ) (ranges : List Range) (s : List ℕ) (j : ℕ) where
  row_refused : (zs : List ℤ) (e : Refusal) → Err e ≡ after_first l k ranges zs → ranged_after InListing l k ranges s (row zs j) ≡ refused e
  row_refused [] e h = (let q : NotDue InListing l ≡ e = cc in ap refused q)
  row_refused (z ∷ zs) e h = go (le_z z (pos k) && le_z (pos k) z) refl (all_inside ranges zs) refl
    where
      go : (t : Bool) → (le_z z (pos k) && le_z (pos k) z) ≡ t → (u : Bool) → all_inside ranges zs ≡ u → ranged_after InListing l k ranges s (row (z ∷ zs) j) ≡ refused e
      go true q true p =
          let h' : Err e ≡ Ok zs = rw (q, p) at h in
          cc
      go true q false p =
          let h' : Err e ≡ Err (OutOfRange InListing l) = rw (q, p) at h in
          let f : OutOfRange InListing l ≡ e = cc in
          rw (ranged_after, ranged, q, p) (ap refused f)
      go false q u p =
          let h' : Err e ≡ Err (NotDue InListing l) = rw q at h in
          let f : NotDue InListing l ≡ e = cc in
          rw (ranged_after, q) (ap refused f)

  row_read : (zs ys : List ℤ) → Ok ys ≡ after_first l k ranges zs → (ranged_after InListing l k ranges s (row zs j) ≡ value (record { got = ys; rest = drop j s })) × (all_inside ranges ys ≡ true) × (length zs ≡ suc (length ys))
  row_read [] ys h = (let z : ◌≡◌ {A = ℕ} 0 1 = cc in absurd (omega arith))
  row_read (z ∷ zs) ys h = go (le_z z (pos k) && le_z (pos k) z) refl (all_inside ranges zs) refl
    where
      go : (t : Bool) → (le_z z (pos k) && le_z (pos k) z) ≡ t → (u : Bool) → all_inside ranges zs ≡ u → (ranged_after InListing l k ranges s (row (z ∷ zs) j) ≡ value (record { got = ys; rest = drop j s })) × (all_inside ranges ys ≡ true) × (suc (length zs) ≡ suc (length ys))
      go true q true p =
          let h' : Ok ys ≡ Ok zs = rw (q, p) at h in
          let f : zs ≡ ys = cc in
          (rw (ranged_after, ranged, q, p) (λ i. value (record { got = f i; rest = drop j s })), ap (all_inside ranges) (sym f) ∙ p, ap (λ (l : List ℤ). suc (length l)) f)
      go true q false p =
          let h' : Ok ys ≡ Err (OutOfRange InListing l) = rw (q, p) at h in
          let w : ◌≡◌ {A = ℕ} 0 1 = cc in absurd (omega arith)
      go false q u p =
          let h' : Ok ys ≡ Err (NotDue InListing l) = rw q at h in
          let w : ◌≡◌ {A = ℕ} 0 1 = cc in absurd (omega arith)

-- the numbers after k on the line of vertex k, each in its range
pub record VertexNumbers (key : List ℕ) (ranges : List Range) (n k : ℕ) (r : LineReader) (ys : List ℤ) (r' : LineReader) : Type 0 where
  pub read_to : ReadTo (due_for InListing (k + 3) key k (parent_range n ∷ ranges) (ahead r)) ys r.text.now (k + 4) (place r')
  pub inside : all_inside (parent_range n ∷ ranges) ys ≡ true
  pub count : length ys ≡ suc (length ranges)
  pub same_text : SameText r r'

-- ---- the line of vertex k: a key, k, its parent, and a number for each range

module _ (key : List ℕ) (ranges : List Range) (n k : ℕ) (r : LineReader) (at_line : AtLineOf (k + 3) r) where
  abbrev all_ranges : List Range
  all_ranges = parent_range n ∷ ranges

  abbrev the_row : Row
  the_row = line_in key (suc (length all_ranges)) (ahead r)

  -- it is not as due
  pub vertex_wrong : (e : Refusal) → Err e ≡ row_answer r the_row → due_vertex key ranges n k (ahead r) ≡ refused e
  vertex_wrong e h = then_refused _ (then_refused _ (go the_row h))
    where
      go : (x : Row) → ◌≡◌ {A = Result (List Number) Refusal} (Err e) (row_answer r x) → ranged_after InListing (k + 3) k all_ranges (ahead r) x ≡ refused e
      go misspelled h =
          let f : NotDue r.which r.line ≡ e = cc in
          (λ i. refused (NotDue (sym at_line.2 i) (sym at_line.1 i))) ∙ ap refused f
      go (row zs j) h = (let w : ◌≡◌ {A = ℕ} 0 1 = cc in absurd (omega arith))

  module _ (numbers : List Number) (r' : LineReader) (answer : Ok numbers ≡ row_answer r the_row) (moved : r' ≡ row_moved r the_row) where
    t : IsRow key (suc (length all_ranges)) r numbers r'
    t = right_row key (suc (length all_ranges)) r numbers r' answer moved

    -- a number is not as due, or out of its range
    pub vertex_out : (e : Refusal) → ((zs : List ℤ) → numbers ≡ map held zs → Err e ≡ after_first r.line k all_ranges zs) → due_vertex key ranges n k (ahead r) ≡ refused e
    vertex_out e h =
        let f : ranged_after InListing r.line k all_ranges (ahead r) (row t.zs t.j) ≡ refused e = row_refused r.line k all_ranges (ahead r) t.j t.zs e (h t.zs t.numbers) in
        then_refused _ (then_refused _ (ap (λ l. ranged_after InListing l k all_ranges (ahead r) the_row) (sym at_line.1) ∙ ap (ranged_after InListing r.line k all_ranges (ahead r)) t.there ∙ f))

    -- each of them is in its range
    pub vertex_numbers : (ys : List ℤ) → ((zs : List ℤ) → numbers ≡ map held zs → Ok ys ≡ after_first r.line k all_ranges zs) → VertexNumbers key ranges n k r ys r'
    vertex_numbers ys said =
        let read = row_read r.line k all_ranges (ahead r) t.j t.zs ys (said t.zs t.numbers) in
        let p = line_progress key (suc (length all_ranges)) (ahead r) t.zs t.j t.there in
        let d : length (ahead r) ≡ length r.text.now - r.at = length-drop r.at r.text.now in
        rw t.moved (record {
          read_to = record {
            reads = ap (λ l. ranged_after InListing l k all_ranges (ahead r) the_row) (sym at_line.1) ∙ ap (ranged_after InListing r.line k all_ranges (ahead r)) t.there ∙ read.0 ∙ rw drop-drop;
            within = omega (arith, at_line.0);
            line_is = omega (arith, at_line.1);
          };
          inside = read.1;
          count = omega (arith, read.2, (line_sound key (suc (length all_ranges)) (ahead r) t.zs t.j t.there).0);
          same_text = (refl, refl);
        })

-- the vertex v is read, and its parent is a sink or is none
module _ {key : List ℕ} {ranges : List Range} {n k : ℕ} {r : LineReader} {ys : List ℤ} {r' : LineReader} (t : VertexNumbers key ranges n k r ys r') (v : Vertex) (v_is : vertex_of ys ≡ v) where
  vertex_line : due_vertex key ranges n k (ahead r) ≡ no_sink n (k + 3) (record { got = v; rest = drop r'.at r.text.now })
  vertex_line = then_value _ (then_value _ t.read_to.reads) ∙ ap (λ v. no_sink n (k + 3) (record { got = v; rest = drop r'.at r.text.now })) v_is

  pub vertex_sink : r.line ≡ k + 3 → is_sink n v.parent ≡ true → due_vertex key ranges n k (ahead r) ≡ refused (SinkParent r.line)
  vertex_sink l q = vertex_line ∙ rw (no_sink, q) (ap (λ l. refused (SinkParent l)) (sym l))

  pub vertex_read : is_sink n v.parent ≡ false → ReadTo (due_vertex key ranges n k (ahead r)) v r.text.now (k + 4) (place r') × SameText r r'
  vertex_read q = (record { reads = vertex_line ∙ rw (no_sink, q); within = t.read_to.within; line_is = t.read_to.line_is }, t.same_text)

-- what the test of its parent told
module _ (t : Bool) (d e : Refusal) (p q : ℕ) where
  pub sink_told : ◌≡◌ {A = Result ℕ Refusal} (Err e) (cond t (Err d) (Ok p)) → (t ≡ true) × (e ≡ d)
  sink_told h = go t h
    where
      go : (t : Bool) → ◌≡◌ {A = Result ℕ Refusal} (Err e) (cond t (Err d) (Ok p)) → (t ≡ true) × (e ≡ d)
      go true h = (refl, (let f : e ≡ d = cc in f))
      go false h = (let w : ◌≡◌ {A = ℕ} 0 1 = cc in absurd (omega arith))

  pub parent_told : ◌≡◌ {A = Result ℕ Refusal} (Ok q) (cond t (Err d) (Ok p)) → (t ≡ false) × (q ≡ p)
  parent_told h = go t h
    where
      go : (t : Bool) → ◌≡◌ {A = Result ℕ Refusal} (Ok q) (cond t (Err d) (Ok p)) → (t ≡ false) × (q ≡ p)
      go false h = (refl, (let f : q ≡ p = cc in f))
      go true h = (let w : ◌≡◌ {A = ℕ} 0 1 = cc in absurd (omega arith))

-- ---- a leaf and a node

leaf_of : (p : ℕ) (ys : List ℤ) → length ys ≡ 1 → p ≡ nat_abs (at ys 0) → vertex_of ys ≡ leaf_told p
leaf_of p [] c e = absurd (omega arith)
leaf_of p (y ∷ []) c e = λ i. record { parent = sym e i; point = record { x = pos 0; y = pos 0 } }
leaf_of p (y ∷ (x ∷ ys)) c e = absurd (omega arith)

module _ {n k : ℕ} {r : LineReader} {ys : List ℤ} {r' : LineReader} (l : r.line ≡ k + 3) where
  pub leaf_says : VertexNumbers leaf_key [] n k r ys r' → (p : ℕ) → p ≡ nat_abs (at ys 0) → (result : Result ℕ Refusal) → result ≡ cond (is_sink n p) (Err (SinkParent r.line)) (Ok p)
      → Says (due_leaf n k (ahead r)) leaf_told (k + 4) r result r'
  leaf_says t p e result h = go (is_sink n p) refl result h
    where
      go : (b : Bool) → is_sink n p ≡ b → (result : Result ℕ Refusal) → result ≡ cond b (Err (SinkParent r.line)) (Ok p) → Says (due_leaf n k (ahead r)) leaf_told (k + 4) r result r'
      go true q result h = rw h (vertex_sink t (leaf_told p) (leaf_of p ys t.count e) l q)
      go false q result h = rw h (vertex_read t (leaf_told p) (leaf_of p ys t.count e) q)

  module _ (t : VertexNumbers node_key position_ranges n k r ys r') (p : ℕ) (e : p ≡ nat_abs (at ys 0)) where
    pub node_refused : (f : Refusal) → Err f ≡ cond (is_sink n p) (Err (SinkParent r.line)) (Ok p) → due_node n k (ahead r) ≡ refused f
    node_refused f h =
        let s = sink_told (is_sink n p) (SinkParent r.line) f p p h in
        vertex_sink t (record { parent = p; point = record { x = at ys 1; y = at ys 2 } }) (λ i. record { parent = sym e i; point = record { x = at ys 1; y = at ys 2 } }) l s.0 ∙ ap refused (sym s.1)

    pub node_read : (q : ℕ) (x y : ℤ) → Ok q ≡ cond (is_sink n p) (Err (SinkParent r.line)) (Ok p) → x ≡ at ys 1 → y ≡ at ys 2
        → ReadTo (due_node n k (ahead r)) (record { parent = q; point = record { x = x; y = y } }) r.text.now (k + 4) (place r') × SameText r r'
    node_read q x y h ex ey =
        let s = parent_told (is_sink n p) (SinkParent r.line) (SinkParent r.line) p q h in
        vertex_read t (record { parent = q; point = record { x = x; y = y } }) (λ i. record { parent = sym (s.1 ∙ e) i; point = record { x = sym ex i; y = sym ey i } }) (ap (is_sink n) s.1 ∙ s.0)
