-- The nodes are told, or the first refusal, by that invariant.
use Rattle.std.proofs.Common.{◌+◌, ◌-◌, ◌∙◌, refl, sym, ap, suc, arith, rules, length, drop, pos}
use Rattle.std.proofs.lemmas.Result.{err_from_is_err_and}
use Rattle.std.proofs.Math.ListN.{set}
use mir.Syntax.{w64}
use mir.Facts.{to_z-of_z}
use Rattle.quantities.specs.Inner.Linear.{rd}
use Rattle.formats.specs.Outcome.{value}
use Rattle.formats.specs.Reading.Listings.{due_node}
use Rattle.formats.specs.Inner.Readers.{ahead}
use Rattle.formats.specs.Inner.ListingReader.{vertex_held, vertices_from, nodes_in}
use Rattle.reading.specs.Inner.Vertices.{node_told}
use Rattle.reading.proofs.Laws.ListingLines.{says_at, says_read, lines_start, lines_refused, lines_more, lines_all, nodes_told, kept_more, vertex_below, vertex_here}
use Rattle.reading.proofs.read_listing.read_nodes.Goals as goal

pub loop-k-init : goal.loop-k-init
loop-k-init c =
    let a = c.args in
    let l = c.requires.0 in
    record {
      at_line = (l.0, omega (arith, l.1), l.2);
      same_text = (refl, refl);
      parents_kept = λ v h. refl;
      xs_kept = λ v h. refl;
      ys_kept = λ v h. refl;
      left = nodes_told a.n (ahead a.lines.now) ∙ lines_start (λ v. v) (due_node a.n) (suc a.n) (a.n - 1) (ahead a.lines.now) (vertex_held a.parents.now a.xs.now a.ys.now) (a.n + 1) (omega arith);
    }

pub node_at-requires : goal.node_at-requires
node_at-requires c = (c.loop-k.invariant.at_line, c.requires.1, c.requires.2, omega arith)

pub loop-k-preserved : goal.loop-k-preserved
loop-k-preserved c =
    let a = c.args in
    let v = c.loop-k in
    let i = v.invariant in
    let r = c.node_at.new.lines in
    let d = c.in_ok-vertex.vertex in
    let m = c.in_ok-vertex.ensures in
    let e = says_at (due_node a.n v.k (ahead v.lines)) node_told (v.k + 4) v.lines d r m (v.k + 3) i.at_line in
    let x = to_z-of_z {w = w64} {z = d.point.x} (search rules) in
    let y = to_z-of_z {w = w64} {z = d.point.y} (search rules) in
    record {
      at_line = (e.0, omega (arith, e.1), e.2);
      same_text = (m.1.0 ∙ i.same_text.0, m.1.1 ∙ i.same_text.1);
      parents_kept = kept_more 0 a.n v.k a.parents.now v.parents d.parent (omega arith) i.parents_kept;
      xs_kept = kept_more (pos 0) a.n v.k a.xs.now v.xs (rd d.point.x) (omega arith) i.xs_kept;
      ys_kept = kept_more (pos 0) a.n v.k a.ys.now v.ys (rd d.point.y) (omega arith) i.ys_kept;
      left = lines_more (λ v. v) (due_node a.n) (suc a.n) (a.n - 1) (ahead v.lines) (nodes_in a.n (ahead a.lines.now)) (vertex_held v.parents v.xs v.ys) v.k i.left
          (record { parent = d.parent; point = record { x = rd d.point.x; y = rd d.point.y } }) (ahead r) (omega arith) (omega arith)
          (says_read (due_node a.n v.k (ahead v.lines)) node_told (v.k + 4) v.lines d r m ∙ (λ t. value (record { got = record { parent = d.parent; point = record { x = sym x t; y = sym y t } }; rest = ahead r })))
          (vertex_held (set v.parents v.k d.parent) (set v.xs v.k (rd d.point.x)) (set v.ys v.k (rd d.point.y)))
          (vertex_below v.parents v.xs v.ys v.k d.parent (rd d.point.x) (rd d.point.y))
          (vertex_here v.parents v.xs v.ys v.k d.parent (rd d.point.x) (rd d.point.y) (omega arith) (omega arith) (omega arith));
    }

pub returns-in_err-vertex : goal.returns-in_err-vertex
returns-in_err-vertex c =
    let a = c.args in
    let v = c.loop-k in
    let i = v.invariant in
    let p = err_from_is_err_and c.from_residual.result c.from_residual.ensures.1 in
    record {
      read = rw (p.1, p.2) (lines_refused (λ v. v) (due_node a.n) (suc a.n) (a.n - 1) (ahead v.lines) (nodes_in a.n (ahead a.lines.now)) (vertex_held v.parents v.xs v.ys) v.k i.left _ (omega arith) c.in_err-vertex.ensures);
      leaves = i.parents_kept;
      kept = λ w h t. record { x = i.xs_kept w h t; y = i.ys_kept w h t };
    }

pub returns : goal.returns
returns c =
    let a = c.args in
    let v = c.loop-k in
    let i = v.invariant in
    record {
      read = (
        record {
          reads = lines_all (λ v. v) (due_node a.n) (suc a.n) (a.n - 1) (ahead v.lines) (nodes_in a.n (ahead a.lines.now)) (vertex_held v.parents v.xs v.ys) v.k i.left (omega arith)
              ∙ (λ t. value (record { got = vertices_from v.parents v.xs v.ys (suc a.n) (a.n - 1); rest = drop v.lines.at (i.same_text.1 t) }));
          within = omega (arith, i.at_line.0, ap length i.same_text.1);
          line_is = omega (arith, i.at_line.1);
        },
        i.same_text,
      );
      leaves = i.parents_kept;
      kept = λ w h t. record { x = i.xs_kept w h t; y = i.ys_kept w h t };
    }
