-- The lowest vertex not reached is found: the queue at its end holds just those that are, all where it is full, else the marked ones. No loop.
use Rattle.std.proofs.Common.{ℕ, ◌*◌, ◌-◌, ◌<◌, sym, ◌∙◌, arith, rules, get_or}
use Rattle.tree.specs.Inner.Arrays.{UnderRoot}
use Rattle.tree.proofs.Laws.Lists.Searching.{find_is}
use Rattle.tree.proofs.Laws.Trees.Descent.{descent_few, descent_full, descent_order, unmarked_is, marked_full}
use Rattle.tree.proofs.descend.lowest_unreached.Goals as goal

pub descend-end-requires : goal.descend-end-requires
descend-end-requires c =
    record { tree = (c.args.parents.now, c.link_children.ensures); room = search rules }

pub returns-then-end-n : goal.returns-then-end-n
returns-then-end-n c =
    let a = c.args in
    let D = c.descend-end.ensures a.parents.now c.link_children.ensures in
    let in_tree : (u : ℕ) → UnderRoot a.n u → get_or a.parents.now u 0 < 2 * a.n = λ u h. c.requires.parents.0.inside u h.0 h.1 in
    let full = c.if-end-n.true in
    record {
      found = sym (descent_full D in_tree full);
      order = λ e. descent_order D in_tree full (omega (arith, c.descend-end.auto, c.requires.n_in_bounds));
    }

pub mark_queued-requires : goal.mark_queued-requires
mark_queued-requires c =
    let a = c.args in
    let D = c.descend-end.ensures a.parents.now c.link_children.ensures in
    let in_tree : (u : ℕ) → UnderRoot a.n u → get_or a.parents.now u 0 < 2 * a.n = λ u h. c.requires.parents.0.inside u h.0 h.1 in
    (omega (arith, descent_few D, c.descend-end.auto, c.requires.n_in_bounds), search rules, λ j h. (D.inside j h).1)

pub returns : goal.returns
returns c =
    let a = c.args in
    let D = c.descend-end.ensures a.parents.now c.link_children.ensures in
    let in_tree : (u : ℕ) → UnderRoot a.n u → get_or a.parents.now u 0 < 2 * a.n = λ u h. c.requires.parents.0.inside u h.0 h.1 in
    let M = c.mark_queued.ensures in
    let e = c.lowest_unmarked.ensures ∙ find_is _ 1 1 (2 * a.n - 1) (2 * a.n) (omega arith) (omega arith) in
    record {
      found = e ∙ unmarked_is D in_tree M;
      order = λ z. absurd (c.if-end-n.false (marked_full D in_tree M (sym e ∙ z)));
    }
