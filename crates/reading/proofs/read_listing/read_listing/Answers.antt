-- The listing that the arrays hold is told, or the first refusal: its length, its first three lines, its vertices. No loop.
use Rattle.std.proofs.Common.{refl}
use Rattle.std.proofs.lemmas.Result.{err_from_is_err_and}
use Rattle.tree.specs.Inner.Arrays.{tree_of}
use Rattle.formats.specs.Reading.Listings.{read_stated}
use Rattle.formats.specs.Inner.Readers.{ahead}
use Rattle.formats.specs.declared.refusal.Text.TheVariants.{InListing}
use Rattle.reading.specs.Inner.Vertices.{stated_by}
use Rattle.reading.proofs.Laws.Steps.{at_start}
use Rattle.reading.proofs.Laws.ListingLines.{says_at, listing_long, listing_start, listing_no_stated, listing_no_tree, listing_all}
use Rattle.reading.proofs.read_listing.read_listing.Goals as goal

pub returns-then-text-gt-LISTING_LENGTH_LIMIT : goal.returns-then-text-gt-LISTING_LENGTH_LIMIT
returns-then-text-gt-LISTING_LENGTH_LIMIT c = record { read = listing_long c.args.n c.args.text.now c.if-text-gt-LISTING_LENGTH_LIMIT.true; kept = λ v h. refl }

pub read_stated-requires : goal.read_stated-requires
read_stated-requires c =
    let a = c.args in
    listing_start a.n a.text.now c.if-text-gt-LISTING_LENGTH_LIMIT.false c.new-lines.result (at_start InListing a.text c.new-lines.result c.new-lines.ensures)

pub read_tree-requires : goal.read_tree-requires
read_tree-requires c =
    let a = c.args in
    let q = c.requires in
    let start = listing_start a.n a.text.now c.if-text-gt-LISTING_LENGTH_LIMIT.false c.new-lines.result (at_start InListing a.text c.new-lines.result c.new-lines.ensures) in
    (says_at (read_stated a.n (ahead c.new-lines.result)) stated_by 4 c.new-lines.result c.in_ok-measures.measures c.read_stated.new.lines c.in_ok-measures.ensures 1 start, q.0, q.1, q.2)

pub returns-in_err-measures : goal.returns-in_err-measures
returns-in_err-measures c =
    let a = c.args in
    let p = err_from_is_err_and c.from_residual.result c.from_residual.ensures.1 in
    let start = at_start InListing a.text c.new-lines.result c.new-lines.ensures in
    record { read = rw (p.1, p.2) (listing_no_stated a.n a.text.now c.if-text-gt-LISTING_LENGTH_LIMIT.false c.new-lines.result start _ c.in_err-measures.ensures); kept = λ v h. refl }

pub returns-in_err-read_tree : goal.returns-in_err-read_tree
returns-in_err-read_tree c =
    let a = c.args in
    let p = err_from_is_err_and c.from_residual-in_err-read_tree.result c.from_residual-in_err-read_tree.ensures.1 in
    let start = at_start InListing a.text c.new-lines.result c.new-lines.ensures in
    record {
      read = rw (p.1, p.2)
          (listing_no_tree a.n a.text.now c.if-text-gt-LISTING_LENGTH_LIMIT.false c.new-lines.result start c.in_ok-measures.measures c.read_stated.new.lines c.in_ok-measures.ensures _ c.in_err-read_tree.ensures.read);
      kept = c.in_err-read_tree.ensures.kept;
    }

pub returns : goal.returns
returns c =
    let a = c.args in
    let r = c.read_tree.new in
    let start = at_start InListing a.text c.new-lines.result c.new-lines.ensures in
    record {
      read = listing_all a.n a.text.now c.if-text-gt-LISTING_LENGTH_LIMIT.false c.new-lines.result start c.in_ok-measures.measures c.read_stated.new.lines c.in_ok-measures.ensures (tree_of a.n r.parents r.xs r.ys) c.in_ok-read_tree.ensures.read;
      kept = c.in_ok-read_tree.ensures.kept;
    }
