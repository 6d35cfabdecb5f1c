-- The arrays hold the tree that the vertices' lines say, or the first refusal is told: leaves, nodes, then the test for bytes after them. No loop.
use Rattle.std.proofs.Common.{◌+◌, ◌-◌, suc, refl, arith}
use Rattle.std.proofs.lemmas.Result.{err_from_is_err_and}
use Rattle.formats.specs.Inner.Readers.{ahead}
use Rattle.formats.specs.Inner.ListingReader.{parents_from, vertices_from, leaves_in}
use Rattle.reading.proofs.Laws.ListingLines.{says_at, tree_no_leaves, tree_no_nodes, tree_told, tree_held}
use Rattle.reading.proofs.read_listing.read_tree.Goals as goal

pub read_nodes-requires : goal.read_nodes-requires
read_nodes-requires c =
    let a = c.args in
    let q = c.requires in
    (says_at (leaves_in a.n (ahead a.lines.now)) (λ _. parents_from c.read_leaves.new.parents 1 a.n) (a.n + 4) a.lines.now c.in_ok-read_leaves.field-0 c.read_leaves.new.lines c.in_ok-read_leaves.ensures 4 q.0, q.1, q.2, (omega arith, omega arith, omega arith))

pub returns-in_err-read_leaves : goal.returns-in_err-read_leaves
returns-in_err-read_leaves c =
    let p = err_from_is_err_and c.from_residual.result c.from_residual.ensures.1 in
    record { read = rw (p.1, p.2) (tree_no_leaves c.args.n c.args.lines.now _ c.in_err-read_leaves.ensures); kept = λ v h. refl }

pub returns-in_err-read_nodes : goal.returns-in_err-read_nodes
returns-in_err-read_nodes c =
    let a = c.args in
    let p = err_from_is_err_and c.from_residual-in_err-read_nodes.result c.from_residual-in_err-read_nodes.ensures.1 in
    record {
      read = rw (p.1, p.2) (tree_no_nodes a.n a.lines.now (parents_from c.read_leaves.new.parents 1 a.n) c.read_leaves.new.lines c.in_ok-read_leaves.ensures _ c.in_err-read_nodes.ensures.read);
      kept = c.in_err-read_nodes.ensures.kept;
    }

pub returns : goal.returns
returns c =
    let a = c.args in
    let r = c.read_nodes.new in
    let m = c.in_ok-read_nodes.ensures in
    record {
      read = tree_told a.n a.lines.now (parents_from c.read_leaves.new.parents 1 a.n) c.read_leaves.new.lines c.in_ok-read_leaves.ensures (vertices_from r.parents r.xs r.ys (suc a.n) (a.n - 1)) r.lines m.read c.requires.0 r.parents r.xs r.ys
          (tree_held a.n c.read_leaves.new.parents r.parents r.xs r.ys c.requires.1 m.leaves) c.end.result c.end.ensures;
      kept = m.kept;
    }
