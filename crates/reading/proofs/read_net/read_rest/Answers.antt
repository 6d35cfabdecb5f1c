-- The net that the arrays hold is told, or the first refusal, by that invariant.
use Rattle.std.proofs.Common.{arith}
use Rattle.std.proofs.lemmas.Result.{err_from_is_err_and}
use mir.Syntax.{w64}
use mir.Facts.{to_z-of_z}
use lib.ListN.{length-set}
use Rattle.quantities.specs.Inner.Linear.{whole}
use Rattle.formats.specs.Inner.Readers.{ahead}
use Rattle.reading.proofs.Laws.SinkLines.{root_stored, sinking_start, sinking_refused, sinking_more, rest_refused, rest_told}
use Rattle.reading.proofs.read_net.read_rest.Goals as goal

pub loop-s-init : goal.loop-s-init
loop-s-init c =
    let a = c.args in
    let p = c.requires.1 in
    let near = c.requires.0.root_within in
    sinking_start _ a.head c.requires.0 _ _ _ _ (rw length-set p.0) (rw length-set p.1) p.2 p.3
    (root_stored a.head.root a.xs.now a.ys.now (omega arith) (omega arith) _ _ (to_z-of_z {w = w64} (omega (arith, whole, near))) (to_z-of_z {w = w64} (omega (arith, whole, near))))

pub read_sink-requires : goal.read_sink-requires
read_sink-requires c =
    let v = c.loop-s.invariant in
    let h = c.requires.0 in
    (((v.within, omega (arith, v.line_is, v.few, h.at_most)), v.which_is), h.root_within, (omega arith, omega arith, omega arith, omega arith))

pub returns-in_err-read_sink : goal.returns-in_err-read_sink
returns-in_err-read_sink c h =
    let v = c.loop-s in
    let u = ahead c.args.head.sinks in
    let p = err_from_is_err_and c.from_residual.result c.from_residual.ensures.1 in
    rw (p.1, p.2) (rest_refused h c.args.head.root c.args.head.n u _ (sinking_refused _ _ u _ v.xs v.ys v.required v.weights v.lines v.s v.invariant (omega arith) _ c.in_err-read_sink.ensures))

pub loop-s-preserved : goal.loop-s-preserved
loop-s-preserved c =
    let v = c.loop-s in
    sinking_more _ _ (ahead c.args.head.sinks) _ v.xs v.ys v.required v.weights v.lines v.s v.invariant (omega arith) _ _ _ _ _ c.in_ok-read_sink.ensures

pub returns : goal.returns
returns c h =
    let v = c.loop-s in
    rest_told h c.args.head.root c.args.head.n (ahead c.args.head.sinks) v.xs v.ys v.required v.weights v.lines v.s v.invariant (omega arith) c.end.result c.end.ensures
