-- A line of numbers is read or refused, by what the row and the ranges tell. No loop.
use Rattle.std.proofs.Common.{ℕ, arith, ◌∙◌}
use Rattle.formats.proofs.Laws.Lines.Due.{ok_some, right_row, line_read}
use Rattle.formats.proofs.reader.LineReader.numbers.Goals as goal

pub returns : goal.returns
returns g c =
    let a = c.args in
    let r = c.in_ok-numbers in
    let k : ℕ = g.row.K in
    let w = right_row a.key.now k a.self.now r.numbers c.row.new.self r.ensures.answer r.ensures.moved in
    line_read a.key.now a.ranges a.self.now r.numbers c.row.new.self k (omega arith) w c.requires.0.0 c.in_ok-values.values (λ ys q. ok_some _ _ _ c.in_ok-values.ensures.value ∙ c.in_ranges.ensures ys q)
