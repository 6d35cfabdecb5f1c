-- The lines of the listing that a view lends: their numbers are short enough to be written, and stay the same in 64 bits. Assumes nothing.
use Rattle.std.proofs.Common.{◌≡◌, ℕ, ◌*◌, ◌≤◌, ◌<◌, List, [], ◌∷◌, ◌++◌, get_or, ℤ, pos, sym, arith}
use Rattle.std.specs.List.{All}
use mir.Syntax.{w64}
use mir.Val.{to_z}
use Rattle.quantities.specs.Inner.Linear.{rd}
use Rattle.quantities.specs.Ranges.{PointWithin}
use Rattle.tree.specs.Inner.Arrays.{point_at, Parents}
use Rattle.tree.specs.Limits.{position_limit}
use Rattle.tree.specs.Net.{sink_numbers, branch_numbers}
use Rattle.formats.specs.Limits.{listing_length_limit}
use Rattle.formats.specs.Line.{line_text}
use Rattle.formats.specs.ListingText.{leaf_key, node_key, leaf_text, node_text, lines_text, listing_text}
use Rattle.formats.specs.Inner.Writing.{Writable, head_text}
use Rattle.formats.proofs.Laws.Listings.ListingWriting.{natural_writable, parent_small, leaf_is, node_is, listing_is, listed_parents, listed_points}
use Rattle.formats.proofs.Laws.Listings.ListingLengths.{parts_length, parts_short}
use Rattle.writing.specs.declared.listing_view.ListingView.{ListingView}
use Rattle.writing.specs.Inner.ListingSeen.{listing_seen}
use Rattle.writing.proofs.Laws.Lines.{all_two, all_four, back_writable}

module _ (v : ListingView) where
  pub seen_parents : Parents v.n v.parents.now
  seen_parents = listed_parents v.n v.parents.now v.xs.now v.ys.now v.slack.0 v.wire.0 v.in_range v.has_vertices.0

  pub seen_point : (k : ℕ) → v.n < k → k < 2 * v.n → PointWithin position_limit (point_at v.xs.now v.ys.now k)
  seen_point = listed_points v.n v.parents.now v.xs.now v.ys.now v.slack.0 v.wire.0 v.in_range

  -- each part of the listing is short
  pub seen_short : parts_length v.n (listing_seen v) ≤ listing_length_limit
  seen_short = parts_short v.n (listing_seen v) v.in_range

  -- the three parts
  abbrev pub head_part : List ℕ
  head_part = head_text v.slack.0 v.wire.0 v.n

  abbrev pub leaves_part : List ℕ
  leaves_part = lines_text (leaf_text (listing_seen v).tree.parents) (sink_numbers v.n)

  abbrev pub nodes_part : List ℕ
  nodes_part = lines_text (node_text v.n (listing_seen v).tree) (branch_numbers v.n)

  pub seen_parts : (head_part ++ leaves_part) ++ nodes_part ≡ listing_text v.n (listing_seen v)
  seen_parts = sym (listing_is v.n (listing_seen v))

  -- the numbers on the line of a sink and on that of a branch point, as they are put
  abbrev pub leaf_numbers : ℕ → List ℤ
  leaf_numbers k = to_z w64 k ∷ (to_z w64 (get_or v.parents.now k 0) ∷ [])

  abbrev pub node_numbers : ℕ → List ℤ
  node_numbers k = to_z w64 k ∷ (to_z w64 (get_or v.parents.now k 0) ∷ (rd (get_or v.xs.now k (pos 0)) ∷ (rd (get_or v.ys.now k (pos 0)) ∷ [])))

  module _ (k : ℕ) (a : 1 ≤ k) (b : k < 2 * v.n) where
    pub seen_small : get_or v.parents.now k 0 < 1024
    seen_small = parent_small v.n v.parents.now seen_parents k a b

    pub leaf_writable : All Writable (leaf_numbers k)
    leaf_writable = all_two _ _ (natural_writable k (omega (arith, seen_parents.few))) (natural_writable (get_or v.parents.now k 0) (omega (arith, seen_small)))

    pub leaf_line : line_text leaf_key (leaf_numbers k) ≡ leaf_text (listing_seen v).tree.parents k
    leaf_line = leaf_is v.n v.parents.now seen_parents k a b

  module _ (k : ℕ) (a : v.n < k) (b : k < 2 * v.n) where
    pub node_writable : All Writable (node_numbers k)
    node_writable =
        let some : 1 ≤ k = omega arith in
        let w = seen_point k a b in
        all_four _ _ _ _ (natural_writable k (omega (arith, seen_parents.few))) (natural_writable (get_or v.parents.now k 0) (omega (arith, seen_small k some b)))
        (back_writable position_limit _ (omega arith) w.0) (back_writable position_limit _ (omega arith) w.1)

    pub node_line : line_text node_key (node_numbers k) ≡ node_text v.n (listing_seen v).tree k
    node_line = node_is v.n v.parents.now seen_parents k (omega (arith, seen_parents.some)) b v.xs.now v.ys.now a (seen_point k a b)
