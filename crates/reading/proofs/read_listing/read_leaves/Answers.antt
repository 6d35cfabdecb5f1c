-- The leaves' parents are told, or the first refusal, by that invariant.
use Rattle.std.proofs.Common.{◌+◌, ◌∙◌, refl, ap, arith, length, get_or, drop}
use Rattle.std.proofs.Math.ListN.{set}
use Rattle.std.proofs.lemmas.Result.{err_from_is_err_and}
use Rattle.formats.specs.Outcome.{value}
use Rattle.formats.specs.Reading.Listings.{due_leaf}
use Rattle.formats.specs.Inner.Readers.{ahead}
use Rattle.formats.specs.Inner.ListingReader.{parents_from, leaves_in}
use Rattle.reading.specs.Inner.Vertices.{leaf_told}
use Rattle.reading.proofs.Laws.ListingLines.{says_at, says_read, lines_start, lines_refused, lines_more, lines_all, parent_below, parent_here}
use Rattle.reading.proofs.read_listing.read_leaves.Goals as goal

pub loop-k-init : goal.loop-k-init
loop-k-init c =
    let a = c.args in
    record { at_line = c.requires.0; same_text = (refl, refl); left = lines_start (λ v. v.parent) (due_leaf a.n) 1 a.n (ahead a.lines.now) (λ v. get_or a.parents.now v 0) 1 refl }

pub leaf_at-requires : goal.leaf_at-requires
leaf_at-requires c = (c.loop-k.invariant.at_line, c.requires.1, c.requires.2, omega arith)

pub loop-k-preserved : goal.loop-k-preserved
loop-k-preserved c =
    let a = c.args in
    let v = c.loop-k in
    let i = v.invariant in
    let r = c.leaf_at.new.lines in
    let p = c.in_ok-parents.field-0 in
    let m = c.in_ok-parents.ensures in
    let e = says_at (due_leaf a.n v.k (ahead v.lines)) leaf_told (v.k + 4) v.lines p r m (v.k + 3) i.at_line in
    record {
      at_line = (e.0, omega (arith, e.1), e.2);
      same_text = (m.1.0 ∙ i.same_text.0, m.1.1 ∙ i.same_text.1);
      left = lines_more (λ v. v.parent) (due_leaf a.n) 1 a.n (ahead v.lines) (leaves_in a.n (ahead a.lines.now)) (λ w. get_or v.parents w 0) v.k i.left (leaf_told p) (ahead r) (omega arith) (omega arith)
          (says_read (due_leaf a.n v.k (ahead v.lines)) leaf_told (v.k + 4) v.lines p r m)
          (λ w. get_or (set v.parents v.k p) w 0) (parent_below v.parents v.k p) (parent_here v.parents v.k p (omega arith));
    }

pub returns-in_err-parents : goal.returns-in_err-parents
returns-in_err-parents c =
    let a = c.args in
    let v = c.loop-k in
    let p = err_from_is_err_and c.from_residual.result c.from_residual.ensures.1 in
    rw (p.1, p.2) (lines_refused (λ v. v.parent) (due_leaf a.n) 1 a.n (ahead v.lines) (leaves_in a.n (ahead a.lines.now)) (λ w. get_or v.parents w 0) v.k v.invariant.left _ (omega arith) c.in_err-parents.ensures)

pub returns : goal.returns
returns c =
    let a = c.args in
    let v = c.loop-k in
    let i = v.invariant in (
      record {
        reads = lines_all (λ v. v.parent) (due_leaf a.n) 1 a.n (ahead v.lines) (leaves_in a.n (ahead a.lines.now)) (λ w. get_or v.parents w 0) v.k i.left (omega arith) ∙ (λ t. value (record { got = parents_from v.parents 1 a.n; rest = drop v.lines.at (i.same_text.1 t) }));
        within = omega (arith, i.at_line.0, ap length i.same_text.1);
        line_is = omega (arith, i.at_line.1);
      },
      i.same_text,
    )
