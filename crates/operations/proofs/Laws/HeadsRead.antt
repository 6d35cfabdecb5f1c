-- A net whose head was read, and the arrays that its sinks were read into: the net, its weights, or the refusal. Assumes nothing.
use Rattle.std.proofs.Common.{ℕ, ◌≡◌, ◌<◌, List, length, ℤ, ◌∙◌}
use Rattle.std.specs.Prelude.{Ok, Err}
use Rattle.tree.specs.declared.header.Header.{Header}
use Rattle.tree.specs.Inner.Arrays.{net_of, weights_of, HoldsNet, HoldsWeights}
use Rattle.formats.specs.Outcome.{value, refused}
use Rattle.formats.specs.Reading.Nets.{read_weighted, read_net}
use Rattle.formats.specs.Inner.Readers.{HeadHeld, after_head, ahead, net_outcome}
use Rattle.formats.specs.declared.read_net.NetHead.{NetHead}
use Rattle.formats.specs.declared.refusal.Refusal.{Refusal}
use Rattle.formats.proofs.Laws.Held.{read_net_holds, read_weights_hold}
use Rattle.formats.proofs.Laws.Nets.NetTexts.{net_of_lem, both_refuse}

module _ (most : ℕ) (s : List ℕ) (head : NetHead) (held : HeadHeld most s head) (xs ys rs ws : List ℤ) where
  -- the sinks' lines are refused
  module _ (e : Refusal) (rest : (h : Header) → after_head h head.root head.n (ahead head.sinks) ≡ net_outcome h head.n (Err e) xs ys rs ws) where
    pub weights_refused : read_weighted s ≡ refused e
    weights_refused = held.reads ∙ rest head.header

    pub sinks_refused : read_net s ≡ refused e
    sinks_refused = both_refuse s e weights_refused

  -- they stand in the arrays
  module _ (u : Unit {0}) (rest : (h : Header) → after_head h head.root head.n (ahead head.sinks) ≡ net_outcome h head.n (Ok u) xs ys rs ws) where
    pub weights_read : read_weighted s ≡ value (record { net = net_of head.header head.n xs ys rs; weights = weights_of head.n ws })
    weights_read = held.reads ∙ rest head.header

    pub sinks_read : read_net s ≡ value (net_of head.header head.n xs ys rs)
    sinks_read = net_of_lem s _ weights_read

    pub net_held : head.n < length xs → head.n < length ys → head.n < length rs → HoldsNet head.header head.n xs ys rs
    net_held p q r = read_net_holds head.header head.n xs ys rs s sinks_read p q r

    pub weights_held : head.n < length ws → HoldsWeights head.n ws
    weights_held p = read_weights_hold head.header head.n xs ys rs s ws weights_read p
