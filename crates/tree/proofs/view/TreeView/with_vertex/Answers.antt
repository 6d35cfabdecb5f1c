-- The measures with v: the edge above v adds to the wire, and the slack of v counts only where v is a sink. No loop.
use Rattle.std.proofs.Common.{◌≡◌, arith, ap, ◌∙◌, get_or, pos}
use borrow.Author.Rules.{rules}
use borrow.Author.Tests.{lt-ltb, le-ltb}
use Rattle.quantities.specs.MinMax.{min_ℤ}
use Rattle.quantities.specs.declared.time.Time.{Time}
use Rattle.quantities.proofs.Laws.Times.{least_of}
use Rattle.tree.proofs.Laws.Measures.MeasuredArrays.{length_limit_lem, same_measures}
use Rattle.tree.proofs.view.TreeView.with_vertex.Goals as goal

pub add-wire-requires : goal.add-wire-requires
add-wire-requires c =
    let t = c.args.self in
    (c.requires.2, omega (arith, c.edge_length.ensures, length_limit_lem t.n t.parents.now t.xs.now t.ys.now t.held c.args.v c.requires.1.0 c.requires.1.1))

pub returns-then-self-v : goal.returns-then-self-v
returns-then-self-v c =
    same_measures _ _ (rw (lt-ltb c.args.self.n c.args.v c.if-self-v.true)) (omega (arith, c.add-wire.ensures, c.edge_length.ensures))

pub returns : goal.returns
returns c =
    let read : c.of.result.0 ≡ get_or c.args.slacks.now c.args.v (pos 0) = search rules in
    same_measures _ _
    (rw (le-ltb c.args.self.n c.args.v c.if-self-v.false) (ap (λ (t : Time). t.0) c.min.ensures ∙ least_of _ _ ∙ ap (min_ℤ c.args.so_far.slack.0) read))
    (omega (arith, c.add-wire.ensures, c.edge_length.ensures))
