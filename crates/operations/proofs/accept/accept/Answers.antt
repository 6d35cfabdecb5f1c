-- The listing is read into the arrays or refused, then its tree is accepted or refused over the net, which stays as it was. No loop.
use Rattle.std.proofs.Common.{◌*◌, ◌≤◌, length, arith}
use Rattle.std.proofs.lemmas.Result.{err_from_is_err_and}
use Rattle.tree.specs.Inner.Arrays.{net_of}
use Rattle.tree.proofs.Laws.Arrays.NetAndTree.{size_is}
use Rattle.tree.proofs.Laws.Arrays.PlanArrays.{some_few}
use Rattle.formats.specs.Inner.ListingReader.{listing_held}
use Rattle.formats.proofs.Laws.Held.{kept_net, kept_holds, read_listing_holds}
use Rattle.operations.proofs.Laws.Judging.{tree_accepted, listing_turned}
use Rattle.operations.proofs.accept.accept.Goals as goal

pub read_listing-requires : goal.read_listing-requires
read_listing-requires c =
    let a = c.args in
    let few = some_few a.header a.n a.xs.now a.ys.now a.required.now c.requires.holds_net.0 in
    (few.0, few.1, c.requires.holds_net.1)

pub returns-in_err-stated-clause-accepted : goal.returns-in_err-stated-clause-accepted
returns-in_err-stated-clause-accepted c =
    let a = c.args in
    let p = err_from_is_err_and c.from_residual.result c.from_residual.ensures.1 in
    rw (p.1, p.2) (listing_turned (net_of a.header a.n a.xs.now a.ys.now a.required.now) a.n a.listing.now _ (size_is a.header a.n a.xs.now a.ys.now a.required.now) c.in_err-stated.ensures.read)

pub invariant_of-tree : goal.invariant_of-tree
invariant_of-tree c =
    let a = c.args in
    let r = c.read_listing in
    let l = r.new in
    let m = c.in_ok-stated in
    let h = c.requires.holds_net in
    let parents_long : 2 * a.n ≤ length l.parents = omega (arith, r.auto, h.1) in
    let xs_long : 2 * a.n ≤ length l.xs = omega (arith, r.auto, h.1) in
    let ys_long : 2 * a.n ≤ length l.ys = omega (arith, r.auto, h.1) in
    record {
      held = read_listing_holds a.header a.n a.xs.now a.ys.now a.required.now l.xs l.ys r.ensures.kept h.0 xs_long ys_long l.parents parents_long m.stated.slack.0 m.stated.wire.0 a.listing.now m.ensures.read;
    }

pub accept_tree-requires-clause-holds_net : goal.accept_tree-requires-clause-holds_net
accept_tree-requires-clause-holds_net c =
    let a = c.args in
    let r = c.read_listing in
    let l = r.new in
    let h = c.requires.holds_net in
    let xs_long : 2 * a.n ≤ length l.xs = omega (arith, r.auto, h.1) in
    let ys_long : 2 * a.n ≤ length l.ys = omega (arith, r.auto, h.1) in
    kept_holds a.header a.n a.xs.now a.ys.now a.required.now l.xs l.ys r.ensures.kept h.0 xs_long ys_long

pub returns-clause-accepted : goal.returns-clause-accepted
returns-clause-accepted c =
    let a = c.args in
    let r = c.read_listing in
    let l = r.new in
    let m = c.in_ok-stated in
    tree_accepted (net_of a.header a.n a.xs.now a.ys.now a.required.now) (net_of a.header a.n l.xs l.ys a.required.now) a.n a.listing.now (listing_held m.stated.slack m.stated.wire a.n l.parents l.xs l.ys) (size_is a.header a.n a.xs.now a.ys.now a.required.now) m.ensures.read
    (kept_net a.header a.n a.xs.now a.ys.now a.required.now l.xs l.ys r.ensures.kept) _ c.accept_tree.ensures
