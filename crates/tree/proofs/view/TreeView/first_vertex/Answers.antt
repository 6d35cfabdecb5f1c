-- The measures of vertex 1, a sink: its slack as it was read, and the length of the edge above it. No loop.
use Rattle.std.proofs.Common.{◌≡◌, get_or, pos}
use borrow.Author.Rules.{rules}
use Rattle.tree.proofs.Laws.Measures.MeasuredArrays.{same_measures}
use Rattle.tree.proofs.view.TreeView.first_vertex.Goals as goal

pub returns : goal.returns
returns c =
    let read : c.of.result.0 ≡ get_or c.args.slacks.now 1 (pos 0) = search rules in
    same_measures _ _ read c.edge_length.ensures
