-- 15 and 16 are told; else the arrays are shortened, and both texts go out. No loop.
use Rattle.std.proofs.Common.{ℕ, ◌-◌, ◌≤◌, ◌≡◌, true, List, length, ℤ, arith, sym, ap, ◌∙◌}
use Rattle.quantities.specs.declared.length.Length.{Length}
use Rattle.quantities.specs.declared.time.Time.{Time}
use Rattle.tree.specs.declared.header.Header.{Header}
use Rattle.tree.specs.Measures.{worst_slack, wire_length}
use Rattle.tree.specs.Inner.Arrays.{net_of, tree_of, weights_of, HoldsNet, HoldsWeights}
use Rattle.tree.proofs.Laws.Arrays.NetAndTree.{size_is}
use Rattle.formats.specs.ListingText.{ListingInRange}
use Rattle.formats.specs.Inner.ListingReader.{listing_held}
use Rattle.shorter_tree.specs.Deletion.{without, pruned}
use Rattle.pin_deletion.specs.Deletions.{is_sink, both_fit}
use Rattle.shorter_tree.specs.Inner.Arrays.{HoldsLegal, HoldsShorter, SlackInRange}
use Rattle.shorter_tree.proofs.Laws.Shortened.{shortened_net, shortened_weights, shortened_listed}
use Rattle.pin_deletion.proofs.Laws.ShorterTexts.{shortened_texts}
use Rattle.pin_deletion.proofs.Laws.Deletions.{sink_is, not_a_sink, only_sink, sink_goes, refused_answers, same_answers}
use Rattle.pin_deletion.proofs.delete_pin.delete_sink.Goals as goal

abbrev Deletable : ℕ → ℕ → Type 0
Deletable n s = (2 ≤ n) × (1 ≤ s) × (s ≤ n)

deletable : (n s : ℕ) → is_sink n s ≡ true → (n ≡ 1 → ⊥) → Deletable n s
deletable n s sink more = let h = sink_is n s sink in (omega arith, h.0, h.1)

-- what the arrays hold once the sink is gone: the net, the weights and the listing, each in range
module _ (h : Header) (n s : ℕ) (ps : List ℕ) (xs ys rs ws : List ℤ) (held : HoldsLegal h n ps xs ys rs ws) (listed : SlackInRange h n ps xs ys rs) (d : Deletable n s)
    (ps' : List ℕ) (xs' ys' rs' ws' : List ℤ) (closed : HoldsShorter n s ps xs ys rs ws ps' xs' ys' rs' ws') where
  shorter-held : (length ps' ≡ length ps → length xs' ≡ length xs → length ys' ≡ length ys → length rs' ≡ length rs → HoldsNet h (n - 1) xs' ys' rs')
      × (length ws' ≡ length ws → HoldsWeights (n - 1) ws')
      × ((slack : Time) (wire : Length) → slack.0 ≡ worst_slack (without (net_of h n xs ys rs) s) (pruned (net_of h n xs ys rs) (tree_of n ps xs ys) s) → wire.0 ≡ wire_length (without (net_of h n xs ys rs) s) (pruned (net_of h n xs ys rs) (tree_of n ps xs ys) s) → ListingInRange (n - 1) (listing_held slack wire (n - 1) ps' xs' ys'))
  shorter-held = (
    shortened_net h n s ps xs ys rs ws held d.0 d.1 d.2 ps' xs' ys' rs' ws' closed,
    shortened_weights h n s ps xs ys rs ws held d.0 d.1 d.2 ps' xs' ys' rs' ws' closed,
    λ slack wire e f. shortened_listed h n s ps xs ys rs ws held d.0 d.1 d.2 ps' xs' ys' rs' ws' closed slack wire listed e f,
  )

pub returns-then-not-is_sink : goal.returns-then-not-is_sink
returns-then-not-is_sink c =
    let a = c.args in
    refused_answers a.net_out.now a.listing_out.now _ _ (not_a_sink (net_of a.header a.n a.xs.now a.ys.now a.required.now) (weights_of a.n a.weights.now) (tree_of a.n a.parents.now a.xs.now a.ys.now) a.s _ _ a.n (size_is a.header a.n a.xs.now a.ys.now a.required.now) (sym c.is_sink.ensures ∙ c.if-not-is_sink.true))

pub returns-then-n-eq1 : goal.returns-then-n-eq1
returns-then-n-eq1 c =
    let a = c.args in
    refused_answers a.net_out.now a.listing_out.now _ _ (only_sink (net_of a.header a.n a.xs.now a.ys.now a.required.now) (weights_of a.n a.weights.now) (tree_of a.n a.parents.now a.xs.now a.ys.now) a.s _ _ a.n (size_is a.header a.n a.xs.now a.ys.now a.required.now) (sym c.is_sink.ensures ∙ c.if-not-is_sink.false) c.if-n-eq1.true)

pub shorten-measures-requires-clause-room : goal.shorten-measures-requires-clause-room
shorten-measures-requires-clause-room c =
    let d = deletable c.args.n c.args.s (sym c.is_sink.ensures ∙ c.if-not-is_sink.false) c.if-n-eq1.false in
    (d.0, d.1, d.2, c.requires.room)

pub emit_both-requires : goal.emit_both-requires
emit_both-requires c =
    let a = c.args in
    let k = c.shorten-measures in
    let d = deletable a.n a.s (sym c.is_sink.ensures ∙ c.if-not-is_sink.false) c.if-n-eq1.false in
    let after = shorter-held a.header a.n a.s a.parents.now a.xs.now a.ys.now a.required.now a.weights.now c.requires.held c.requires.listed d k.new.parents k.new.xs k.new.ys k.new.required k.new.weights k.ensures.shorter in
    let long = c.requires.held.2 in
    record {
      net = (after.0 k.auto.parents k.auto.xs k.auto.ys k.auto.required, after.1 k.auto.weights);
      listing = (after.2 k.result.slack k.result.wire k.ensures.worst k.ensures.wire, (omega (arith, k.auto.parents, long.parents_in_lem.long), omega (arith, k.auto.xs, long.points_in_lem.xs_long), omega (arith, k.auto.ys, long.points_in_lem.ys_long)));
    }

pub returns : goal.returns
returns c =
    let a = c.args in
    let k = c.shorten-measures in
    let sink = sym c.is_sink.ensures ∙ c.if-not-is_sink.false in
    let texts = shortened_texts a.header a.n a.s a.parents.now a.xs.now a.ys.now a.required.now a.weights.now k.new.parents k.new.xs k.new.ys k.new.required k.new.weights k.ensures.shorter k.result k.ensures.worst k.ensures.wire in
    same_answers a.net_out.now a.listing_out.now _ _ _ _ _
    (ap (λ t. both_fit t (length a.net_out.now) (length a.listing_out.now)) texts ∙ sym (sink_goes (net_of a.header a.n a.xs.now a.ys.now a.required.now) (weights_of a.n a.weights.now) (tree_of a.n a.parents.now a.xs.now a.ys.now) a.s _ _ a.n (size_is a.header a.n a.xs.now a.ys.now a.required.now) sink c.if-n-eq1.false))
    c.emit_both.ensures
