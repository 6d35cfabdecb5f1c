-- The head of a net is held, or refused as one of its lines is: its length, then its first five lines. No loop.
use Rattle.std.proofs.Common.{◌∙◌, arith}
use Rattle.std.proofs.lemmas.Result.{err_from_is_err_and}
use Rattle.quantities.specs.Inner.Linear.{whole}
use Rattle.tree.specs.Limits.{position_limit, branch_limit, wire_factor_limit, need_limit, sink_limit}
use Rattle.formats.specs.Ranges.{around, up_to, at}
use Rattle.formats.specs.NetText.{position_ranges, factor_ranges}
use Rattle.formats.specs.declared.refusal.Text.TheVariants.{InNet}
use Rattle.reading.proofs.Laws.Numbers.{inside_at, number_back, natural_is, natural_cast}
use Rattle.reading.proofs.Laws.Steps.{at_start}
use Rattle.reading.proofs.Laws.HeadLines.{net_long, root_refused, branch_refused, wire_refused, need_refused, count_refused, head_held}
use Rattle.reading.proofs.read_net.read_head.Goals as goal

pub returns-then-text-gt-NET_LENGTH_LIMIT : goal.returns-then-text-gt-NET_LENGTH_LIMIT
returns-then-text-gt-NET_LENGTH_LIMIT c = net_long c.args.text.now c.if-text-gt-NET_LENGTH_LIMIT.true

pub returns-in_err-x : goal.returns-in_err-x
returns-in_err-x c =
    let start = at_start InNet c.args.text c.new-lines.result c.new-lines.ensures in
    let said = rw (c.around.ensures, c.around-2.ensures) at c.in_err-x.ensures in
    let p = err_from_is_err_and c.from_residual.result c.from_residual.ensures.1 in
    rw (p.1, p.2) (root_refused c.args.text.now c.if-text-gt-NET_LENGTH_LIMIT.false c.new-lines.result start _ said.0)

pub returns-in_err-branch : goal.returns-in_err-branch
returns-in_err-branch c =
    let start = at_start InNet c.args.text c.new-lines.result c.new-lines.ensures in
    let root = rw (c.around.ensures, c.around-2.ensures) at c.in_ok-x.ensures in
    let said = rw c.up_to.ensures at c.in_err-branch.ensures in
    let p = err_from_is_err_and c.from_residual-in_err-branch.result c.from_residual-in_err-branch.ensures.1 in
    rw (p.1, p.2) (branch_refused c.args.text.now c.if-text-gt-NET_LENGTH_LIMIT.false c.new-lines.result start c.in_ok-x.field-0 c.numbers.new.self root _ said.0)

pub returns-in_err-horizontal : goal.returns-in_err-horizontal
returns-in_err-horizontal c =
    let start = at_start InNet c.args.text c.new-lines.result c.new-lines.ensures in
    let root = rw (c.around.ensures, c.around-2.ensures) at c.in_ok-x.ensures in
    let branch = rw c.up_to.ensures at c.in_ok-branch.ensures in
    let said = rw (c.up_to-2.ensures, c.up_to-3.ensures) at c.in_err-horizontal.ensures in
    let p = err_from_is_err_and c.from_residual-in_err-horizontal.result c.from_residual-in_err-horizontal.ensures.1 in
    rw (p.1, p.2) (wire_refused c.args.text.now c.if-text-gt-NET_LENGTH_LIMIT.false c.new-lines.result start c.in_ok-x.field-0 c.numbers.new.self root c.in_ok-branch.branch c.number.new.self branch _ said.0)

pub returns-in_err-need : goal.returns-in_err-need
returns-in_err-need c =
    let start = at_start InNet c.args.text c.new-lines.result c.new-lines.ensures in
    let root = rw (c.around.ensures, c.around-2.ensures) at c.in_ok-x.ensures in
    let branch = rw c.up_to.ensures at c.in_ok-branch.ensures in
    let wire = rw (c.up_to-2.ensures, c.up_to-3.ensures) at c.in_ok-horizontal.ensures in
    let said = rw c.around-3.ensures at c.in_err-need.ensures in
    let p = err_from_is_err_and c.from_residual-in_err-need.result c.from_residual-in_err-need.ensures.1 in
    rw (p.1, p.2) (need_refused c.args.text.now c.if-text-gt-NET_LENGTH_LIMIT.false c.new-lines.result start c.in_ok-x.field-0 c.numbers.new.self root c.in_ok-branch.branch c.number.new.self branch c.in_ok-horizontal.field-0 c.numbers-2.new.self wire _ said.0)

pub returns-in_err-count : goal.returns-in_err-count
returns-in_err-count c =
    let start = at_start InNet c.args.text c.new-lines.result c.new-lines.ensures in
    let root = rw (c.around.ensures, c.around-2.ensures) at c.in_ok-x.ensures in
    let branch = rw c.up_to.ensures at c.in_ok-branch.ensures in
    let wire = rw (c.up_to-2.ensures, c.up_to-3.ensures) at c.in_ok-horizontal.ensures in
    let need = rw c.around-3.ensures at c.in_ok-need.ensures in
    let said = rw c.up_to-4.ensures at c.in_err-count.ensures in
    let p = err_from_is_err_and c.from_residual-in_err-count.result c.from_residual-in_err-count.ensures.1 in
    rw (p.1, p.2) (count_refused c.args.text.now c.if-text-gt-NET_LENGTH_LIMIT.false c.new-lines.result start c.in_ok-x.field-0 c.numbers.new.self root c.in_ok-branch.branch c.number.new.self branch c.in_ok-horizontal.field-0 c.numbers-2.new.self wire c.in_ok-need.need c.number-2.new.self need _ said.0)

-- the factors and the number of sinks are cast as they are
pub overflow_cast-horizontal : goal.overflow_cast-horizontal
overflow_cast-horizontal c =
    let wire = rw (c.up_to-2.ensures, c.up_to-3.ensures) at c.in_ok-horizontal.ensures in
    natural_cast (up_to wire_factor_limit) (omega (arith, whole)) (omega (arith, whole)) (at c.in_ok-horizontal.field-0 0) (inside_at factor_ranges c.in_ok-horizontal.field-0 0 (up_to wire_factor_limit) wire.in_ranges (omega arith))

pub overflow_cast-vertical : goal.overflow_cast-vertical
overflow_cast-vertical c =
    let wire = rw (c.up_to-2.ensures, c.up_to-3.ensures) at c.in_ok-horizontal.ensures in
    natural_cast (up_to wire_factor_limit) (omega (arith, whole)) (omega (arith, whole)) (at c.in_ok-horizontal.field-0 1) (inside_at factor_ranges c.in_ok-horizontal.field-0 1 (up_to wire_factor_limit) wire.in_ranges (omega arith))

pub overflow_cast-result : goal.overflow_cast-result
overflow_cast-result c =
    let count = rw c.up_to-4.ensures at c.in_ok-count.ensures in
    natural_cast (up_to sink_limit) (omega (arith, whole)) (omega (arith, whole)) c.in_ok-count.count count.in_range

pub returns : goal.returns
returns c =
    let start = at_start InNet c.args.text c.new-lines.result c.new-lines.ensures in
    let root = rw (c.around.ensures, c.around-2.ensures) at c.in_ok-x.ensures in
    let branch = rw c.up_to.ensures at c.in_ok-branch.ensures in
    let wire = rw (c.up_to-2.ensures, c.up_to-3.ensures) at c.in_ok-horizontal.ensures in
    let need = rw c.around-3.ensures at c.in_ok-need.ensures in
    let count = rw c.up_to-4.ensures at c.in_ok-count.ensures in
    let p = c.in_ok-x.field-0 in
    let w = c.in_ok-horizontal.field-0 in
    head_held c.args.text.now c.if-text-gt-NET_LENGTH_LIMIT.false c.new-lines.result start c.in_ok-x.field-0 c.numbers.new.self root c.in_ok-branch.branch c.number.new.self branch c.in_ok-horizontal.field-0 c.numbers-2.new.self wire c.in_ok-need.need c.number-2.new.self need c.in_ok-count.count _ count
    (number_back (around position_limit) (omega (arith, whole)) (omega (arith, whole)) (at p 0) (inside_at position_ranges p 0 (around position_limit) root.in_ranges (omega arith)))
    (number_back (around position_limit) (omega (arith, whole)) (omega (arith, whole)) (at p 1) (inside_at position_ranges p 1 (around position_limit) root.in_ranges (omega arith)))
    (c.of-3.ensures ∙ number_back (up_to branch_limit) (omega (arith, whole)) (omega (arith, whole)) c.in_ok-branch.branch branch.in_range)
    (c.of.ensures ∙ natural_is (up_to wire_factor_limit) (omega (arith, whole)) (omega (arith, whole)) (at w 0) (inside_at factor_ranges w 0 (up_to wire_factor_limit) wire.in_ranges (omega arith)))
    (c.of-2.ensures ∙ natural_is (up_to wire_factor_limit) (omega (arith, whole)) (omega (arith, whole)) (at w 1) (inside_at factor_ranges w 1 (up_to wire_factor_limit) wire.in_ranges (omega arith)))
    (c.of-4.ensures ∙ number_back (around need_limit) (omega (arith, whole)) (omega (arith, whole)) c.in_ok-need.need need.in_range)
    (natural_is (up_to sink_limit) (omega (arith, whole)) (omega (arith, whole)) c.in_ok-count.count count.in_range)
