-- The parent of leaf k is read, or refused by 2, 3 or 8: by its spelling, its number, its range, and whether that is a sink. No loop.
use Rattle.std.proofs.Common.{ap, ◌∙◌, arith, [], ◌∷◌}
use Rattle.std.proofs.lemmas.Result.{err_from_is_err_and}
use Rattle.quantities.specs.Inner.Linear.{whole}
use Rattle.formats.specs.Ranges.{at}
use Rattle.formats.specs.ListingText.{leaf_key, parent_range}
use Rattle.reading.specs.Inner.Vertices.{after_first}
use Rattle.reading.proofs.Laws.Numbers.{inside_at, natural_is, natural_cast}
use Rattle.reading.proofs.Laws.VertexLines.{vertex_wrong, vertex_out, vertex_numbers, leaf_says}
use Rattle.reading.proofs.read_listing.leaf_at.Goals as goal

pub returns-in_err-numbers : goal.returns-in_err-numbers
returns-in_err-numbers c =
    let p = err_from_is_err_and c.from_residual.result c.from_residual.ensures.1 in
    let a = c.args in
    rw (p.1, p.2) (vertex_wrong leaf_key [] a.n a.k a.lines.now c.requires.0 _ c.in_err-numbers.ensures.answer)

pub returns-in_err-parent : goal.returns-in_err-parent
returns-in_err-parent c =
    let p = err_from_is_err_and c.from_residual-in_err-parent.result c.from_residual-in_err-parent.ensures.1 in
    let a = c.args in
    let w = c.in_ok-numbers in
    rw (p.1, p.2)
    (vertex_out leaf_key [] a.n a.k a.lines.now c.requires.0 w.numbers c.row.new.self w.ensures.answer w.ensures.moved _
    (λ zs h. c.in_err-parent.ensures zs h ∙ ap (λ g. after_first a.lines.now.line a.k (g ∷ []) zs) c.from_zero.ensures))

pub overflow_cast-parent : goal.overflow_cast-parent
overflow_cast-parent c =
    let a = c.args in
    let w = c.in_ok-numbers in
    let ys = c.in_ok-parent.field-0 in
    let t = vertex_numbers leaf_key [] a.n a.k a.lines.now c.requires.0 w.numbers c.row.new.self w.ensures.answer w.ensures.moved ys
    (λ zs h. c.in_ok-parent.ensures zs h ∙ ap (λ g. after_first a.lines.now.line a.k (g ∷ []) zs) c.from_zero.ensures) in
    natural_cast (parent_range a.n) (omega (arith, whole)) (omega (arith, whole)) (at ys 0) (inside_at (parent_range a.n ∷ []) ys 0 (parent_range a.n) t.inside (omega arith))

pub returns : goal.returns
returns c =
    let a = c.args in
    let w = c.in_ok-numbers in
    let ys = c.in_ok-parent.field-0 in
    let t = vertex_numbers leaf_key [] a.n a.k a.lines.now c.requires.0 w.numbers c.row.new.self w.ensures.answer w.ensures.moved ys
    (λ zs h. c.in_ok-parent.ensures zs h ∙ ap (λ g. after_first a.lines.now.line a.k (g ∷ []) zs) c.from_zero.ensures) in
    leaf_says c.requires.0.1 t _ (natural_is (parent_range a.n) (omega (arith, whole)) (omega (arith, whole)) (at ys 0) (inside_at (parent_range a.n ∷ []) ys 0 (parent_range a.n) t.inside (omega arith))) c.no_sink.result c.no_sink.ensures
