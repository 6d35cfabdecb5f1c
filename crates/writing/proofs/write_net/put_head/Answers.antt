-- The first five lines are put: each where the one before it ends.
use Rattle.std.proofs.Common.{rules}
use Rattle.writing.proofs.Laws.NetLines.{root_writable, branch_writable, wire_writable, need_writable, count_writable}
use Rattle.writing.proofs.Laws.NetHead.{root_fits, branch_fits, wire_fits, need_fits, count_fits, head_put}
use Rattle.writing.proofs.write_net.put_head.Goals as goal

pub put_line-first-requires : goal.put_line-first-requires
put_line-first-requires c =
    let a = c.args in
    let R = c.requires.head_in_range in
    (search rules, (search rules, (root_writable a.header a.root a.n R, root_fits a.header a.root a.n R a.out.now c.requires.room)))

pub put_line-second-requires : goal.put_line-second-requires
put_line-second-requires c =
    let a = c.args in
    let R = c.requires.head_in_range in
    (search rules, (search rules, (branch_writable a.header a.root a.n R _ c.attoseconds.ensures, branch_fits a.header a.root a.n R a.out.now c.requires.room _ _ c.put_line-first.ensures _ c.attoseconds.ensures)))

pub put_line-third-requires : goal.put_line-third-requires
put_line-third-requires c =
    let a = c.args in
    let R = c.requires.head_in_range in
    let x = c.attoseconds_per_nanometre-horizontal.ensures in
    let y = c.attoseconds_per_nanometre-vertical.ensures in
    (search rules, (search rules, (wire_writable a.header a.root a.n R _ _ x y, wire_fits a.header a.root a.n R a.out.now c.requires.room _ _ c.put_line-first.ensures _ c.attoseconds.ensures _ _ c.put_line-second.ensures _ _ x y)))

pub put_line-fourth-requires : goal.put_line-fourth-requires
put_line-fourth-requires c =
    let a = c.args in
    let R = c.requires.head_in_range in
    let x = c.attoseconds_per_nanometre-horizontal.ensures in
    let y = c.attoseconds_per_nanometre-vertical.ensures in
    (search rules, (search rules, (need_writable a.header a.root a.n R _ c.attoseconds-2.ensures, need_fits a.header a.root a.n R a.out.now c.requires.room _ _ c.put_line-first.ensures _ c.attoseconds.ensures _ _ c.put_line-second.ensures _ _ x y _ _ c.put_line-third.ensures _ c.attoseconds-2.ensures)))

pub put_line-requires : goal.put_line-requires
put_line-requires c =
    let a = c.args in
    let R = c.requires.head_in_range in
    let x = c.attoseconds_per_nanometre-horizontal.ensures in
    let y = c.attoseconds_per_nanometre-vertical.ensures in
    (search rules, (search rules, (count_writable a.header a.root a.n R, count_fits a.header a.root a.n R a.out.now c.requires.room _ _ c.put_line-first.ensures _ c.attoseconds.ensures _ _ c.put_line-second.ensures _ _ x y _ _ c.put_line-third.ensures _ c.attoseconds-2.ensures _ _ c.put_line-fourth.ensures)))

pub returns : goal.returns
returns c =
    let a = c.args in
    let R = c.requires.head_in_range in
    let x = c.attoseconds_per_nanometre-horizontal.ensures in
    let y = c.attoseconds_per_nanometre-vertical.ensures in
    head_put a.header a.root a.n R a.out.now c.requires.room _ _ c.put_line-first.ensures _ c.attoseconds.ensures _ _ c.put_line-second.ensures _ _ x y _ _ c.put_line-third.ensures _ c.attoseconds-2.ensures _ _ c.put_line-fourth.ensures _ _ c.put_line.ensures
