-- The texts of what the arrays hold once the sink is gone are those of the shorter net and tree. Assumes nothing.
use Prim.Native.Nat.{ℕ, ◌-◌}
use mathlib.Core.Path.{◌≡◌, sym}
use mathlib.Core.List.{List}
use lib.IntN.{ℤ}
use Rattle.tree.specs.declared.header.Header.{Header}
use Rattle.tree.specs.declared.measures.Measures.{Measures}
use Rattle.tree.specs.Net.{Net}
use Rattle.tree.specs.Tree.{Tree}
use Rattle.tree.specs.Measures.{worst_slack, wire_length}
use Rattle.tree.specs.Inner.Arrays.{net_of, tree_of, weights_of}
use Rattle.formats.specs.NetText.{net_text}
use Rattle.formats.specs.ListingText.{listing_text}
use Rattle.shorter_tree.specs.Deletion.{without, pruned}
use Rattle.shorter_tree.specs.Inner.Arrays.{HoldsShorter}
use Rattle.shorter_tree.proofs.Laws.HeldShorter.{shorter_size}
use Rattle.pin_deletion.specs.Deletions.{shorter}
use Rattle.pin_deletion.specs.Inner.Answers.{texts_held}

module _ (h : Header) (n s : ℕ) (ps : List ℕ) (xs ys rs ws : List ℤ) (ps' : List ℕ) (xs' ys' rs' ws' : List ℤ) (closed : HoldsShorter n s ps xs ys rs ws ps' xs' ys' rs' ws') where
  abbrev N : Net
  N = net_of h n xs ys rs

  abbrev T : Tree
  T = tree_of n ps xs ys

  pub shortened_texts : (m : Measures) → m.slack.0 ≡ worst_slack (without N s) (pruned N T s) → m.wire.0 ≡ wire_length (without N s) (pruned N T s)
      → texts_held h m (n - 1) ps' xs' ys' rs' ws' ≡ shorter N (weights_of n ws) T s
  unfolding shorter
  shortened_texts m e f = λ i. record {
    net = net_text (closed.net h i) (closed.weights i);
    listing = listing_text (sym (shorter_size h n s ps xs ys rs ws ps' xs' ys' rs' ws' closed) i) (record { slack = e i; wire = f i; tree = closed.tree h i });
  }
