-- Node k is read, or its line is refused by 2, 3 or 8: by its spelling, its number, the ranges, and whether its parent is a sink. No loop.
use Rattle.std.proofs.Common.{arith, [], ◌∷◌, ◌∙◌}
use Rattle.std.proofs.lemmas.Result.{err_from_is_err_and}
use Rattle.quantities.specs.Inner.Linear.{whole}
use Rattle.tree.specs.Limits.{position_limit}
use Rattle.formats.specs.Ranges.{around, at}
use Rattle.formats.specs.NetText.{position_ranges}
use Rattle.formats.specs.ListingText.{node_key, parent_range}
use Rattle.reading.specs.Inner.Vertices.{after_first}
use Rattle.reading.proofs.Laws.Numbers.{inside_at, number_back, natural_is, natural_cast}
use Rattle.reading.proofs.Laws.VertexLines.{vertex_wrong, vertex_out, vertex_numbers, node_refused, node_read}
use Rattle.reading.proofs.read_listing.node_at.Goals as goal

pub returns-in_err-numbers : goal.returns-in_err-numbers
returns-in_err-numbers c =
    let p = err_from_is_err_and c.from_residual.result c.from_residual.ensures.1 in
    let a = c.args in
    rw (p.1, p.2) (vertex_wrong node_key position_ranges a.n a.k a.lines.now c.requires.0 _ c.in_err-numbers.ensures.answer)

pub returns-in_err-parent : goal.returns-in_err-parent
returns-in_err-parent c =
    let p = err_from_is_err_and c.from_residual-in_err-parent.result c.from_residual-in_err-parent.ensures.1 in
    let a = c.args in
    let w = c.in_ok-numbers in
    rw (p.1, p.2)
    (vertex_out node_key position_ranges a.n a.k a.lines.now c.requires.0 w.numbers c.row.new.self w.ensures.answer w.ensures.moved _
    (λ zs h. c.in_err-parent.ensures zs h ∙ (λ i. after_first a.lines.now.line a.k (c.from_zero.ensures i ∷ (c.around.ensures i ∷ (c.around-2.ensures i ∷ []))) zs)))

pub overflow_cast-parent : goal.overflow_cast-parent
overflow_cast-parent c =
    let a = c.args in
    let w = c.in_ok-numbers in
    let ys = c.in_ok-parent.field-0 in
    let t = vertex_numbers node_key position_ranges a.n a.k a.lines.now c.requires.0 w.numbers c.row.new.self w.ensures.answer w.ensures.moved ys
    (λ zs h. c.in_ok-parent.ensures zs h ∙ (λ i. after_first a.lines.now.line a.k (c.from_zero.ensures i ∷ (c.around.ensures i ∷ (c.around-2.ensures i ∷ []))) zs)) in
    natural_cast (parent_range a.n) (omega (arith, whole)) (omega (arith, whole)) (at ys 0) (inside_at (parent_range a.n ∷ position_ranges) ys 0 (parent_range a.n) t.inside (omega arith))

pub returns-in_err-parent-2 : goal.returns-in_err-parent-2
returns-in_err-parent-2 c =
    let p = err_from_is_err_and c.from_residual-in_err-parent-2.result c.from_residual-in_err-parent-2.ensures.1 in
    let a = c.args in
    let w = c.in_ok-numbers in
    let ys = c.in_ok-parent.field-0 in
    let t = vertex_numbers node_key position_ranges a.n a.k a.lines.now c.requires.0 w.numbers c.row.new.self w.ensures.answer w.ensures.moved ys
    (λ zs h. c.in_ok-parent.ensures zs h ∙ (λ i. after_first a.lines.now.line a.k (c.from_zero.ensures i ∷ (c.around.ensures i ∷ (c.around-2.ensures i ∷ []))) zs)) in
    rw (p.1, p.2) (node_refused c.requires.0.1 t _ (natural_is (parent_range a.n) (omega (arith, whole)) (omega (arith, whole)) (at ys 0) (inside_at (parent_range a.n ∷ position_ranges) ys 0 (parent_range a.n) t.inside (omega arith))) _ c.in_err-parent-2.ensures)

pub returns : goal.returns
returns c =
    let a = c.args in
    let w = c.in_ok-numbers in
    let ys = c.in_ok-parent.field-0 in
    let t = vertex_numbers node_key position_ranges a.n a.k a.lines.now c.requires.0 w.numbers c.row.new.self w.ensures.answer w.ensures.moved ys
    (λ zs h. c.in_ok-parent.ensures zs h ∙ (λ i. after_first a.lines.now.line a.k (c.from_zero.ensures i ∷ (c.around.ensures i ∷ (c.around-2.ensures i ∷ []))) zs)) in
    node_read c.requires.0.1 t _ (natural_is (parent_range a.n) (omega (arith, whole)) (omega (arith, whole)) (at ys 0) (inside_at (parent_range a.n ∷ position_ranges) ys 0 (parent_range a.n) t.inside (omega arith))) c.in_ok-parent-2.parent _ _ c.in_ok-parent-2.ensures
    (number_back (around position_limit) (omega (arith, whole)) (omega (arith, whole)) (at ys 1) (inside_at (parent_range a.n ∷ position_ranges) ys 1 (parent_range a.n) t.inside (omega arith)))
    (number_back (around position_limit) (omega (arith, whole)) (omega (arith, whole)) (at ys 2) (inside_at (parent_range a.n ∷ position_ranges) ys 2 (parent_range a.n) t.inside (omega arith)))
