-- A line is spelt as due or not: its key first, then the row of numbers after it. No loop.
use Rattle.std.proofs.Common.{◌∙◌}
use Rattle.formats.proofs.Laws.Lines.Keys.{starts_there}
use Rattle.formats.proofs.Laws.Lines.Rows.{line_wrong, line_right}
use Rattle.formats.proofs.scan.line_at.Goals as goal

pub returns-then-not-starts_with : goal.returns-then-not-starts_with
returns-then-not-starts_with g c =
    let a = c.args in
    line_wrong a.key.now a.text.now a.at g.row.K (starts_there a.key.now a.text.now a.at _ c.starts_with.ensures.value ∙ c.if-not-starts_with.true)

pub returns : goal.returns
returns g c =
    let a = c.args in
    c.row_at.ensures
    ∙ line_right a.key.now a.text.now a.at g.row.K (starts_there a.key.now a.text.now a.at _ c.starts_with.ensures.value ∙ c.if-not-starts_with.false)
