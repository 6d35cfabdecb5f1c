-- The arrays hold a legal tree over the net after a listing was accepted into them. Assumes nothing.
use Prim.Native.Nat.{ℕ, ◌*◌, ◌≤◌}
use mathlib.Core.Path.{◌≡◌, sym, ap, ◌∙◌, subst}
use mathlib.Core.List.{List}
use lib.ListN.{length}
use lib.IntN.{ℤ}
use Rattle.quantities.specs.declared.length.Length.{Length}
use Rattle.quantities.specs.declared.time.Time.{Time}
use Rattle.quantities.specs.Ranges.{Within}
use Rattle.tree.specs.declared.header.Header.{Header}
use Rattle.tree.specs.Limits.{slack_limit}
use Rattle.tree.specs.Net.{Net, size}
use Rattle.tree.specs.Measures.{worst_slack}
use Rattle.tree.specs.Tree.{Legal}
use Rattle.tree.specs.Inner.Arrays.{net_of, tree_of, parents_of, HoldsNet, HoldsWeights}
use Rattle.tree.proofs.Laws.Arrays.NetAndTree.{size_is}
use Rattle.formats.specs.Outcome.{value}
use Rattle.formats.specs.ListingText.{Listing, ListingInFormat}
use Rattle.formats.specs.Reading.Listings.{read_listing}
use Rattle.formats.specs.Inner.ListingReader.{listing_held, SinksKept}
use Rattle.formats.proofs.Laws.Held.{kept_net, kept_holds, read_listing_holds}
use Rattle.formats.proofs.Laws.Listings.ListingTexts.{listing_complete}
use Rattle.operations.specs.Accepting.{accept_listing}
use Rattle.operations.specs.Demands.{LegalAndTrue}
use Rattle.operations.proofs.Laws.Accepting.{legal_no_sink}
use Rattle.operations.proofs.Laws.Demands.{accepted_is}
use Rattle.pin_deletion.specs.Deletions.{deleted}
use Rattle.shorter_tree.specs.Inner.Arrays.{HoldsLegal, SlackInRange}
use Rattle.pin_deletion.specs.Inner.Answers.{deleted_over}
use Rattle.pin_deletion.proofs.Laws.Deletions.{listing_accepted}

-- the root and the sinks stand as before; the listing's parents and points were put beside them
module _ (h : Header) (n : ℕ) (xs ys rs xs' ys' : List ℤ) (ps listing : List ℕ) (slack : Time) (wire : Length) (kept : SinksKept n xs ys xs' ys')
    (accepted : accept_listing (net_of h n xs ys rs) listing ≡ value (listing_held slack wire n ps xs' ys')) where
  abbrev N : Net
  N = net_of h n xs ys rs

  abbrev G : Listing
  G = listing_held slack wire n ps xs' ys'

  same : net_of h n xs' ys' rs ≡ N
  same = kept_net h n xs ys rs xs' ys' kept

  is : ListingInFormat (size N) listing G × LegalAndTrue N G
  is = accepted_is N listing G accepted

  read : read_listing n listing ≡ value G
  read = subst (λ m. read_listing m listing ≡ value G) (size_is h n xs ys rs) (listing_complete (size N) listing G is.0 (legal_no_sink (size N) G.tree.parents is.1.0.shape))

  pub accepted_holds : (ws : List ℤ) → HoldsNet h n xs ys rs → HoldsWeights n ws → 2 * n ≤ length ps → 2 * n ≤ length xs' → 2 * n ≤ length ys' → HoldsLegal h n ps xs' ys' rs ws
  accepted_holds ws held weights p q r = (
    kept_holds h n xs ys rs xs' ys' kept held q r,
    weights,
    read_listing_holds h n xs ys rs xs' ys' kept held q r ps p slack.0 wire.0 listing read,
    subst (λ m. Legal m (parents_of n ps)) (size_is h n xs ys rs) is.1.0.shape,
  )

  pub accepted_slack : SlackInRange h n ps xs' ys' rs
  accepted_slack = subst (Within slack_limit) (is.1.1 ∙ ap (λ M. worst_slack M (tree_of n ps xs' ys')) (sym same)) is.0.in_range.slack

  pub accepted_deleted : (w : List ℕ) (s net_room listing_room : ℕ) → deleted (net_of h n xs' ys' rs) w (tree_of n ps xs' ys') s net_room listing_room ≡ deleted_over N w listing s net_room listing_room
  accepted_deleted w s net_room listing_room = ap (λ M. deleted M w (tree_of n ps xs' ys') s net_room listing_room) same ∙ sym (listing_accepted N w listing s net_room listing_room G accepted)
