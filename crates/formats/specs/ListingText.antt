-- The tree listing: document 01, 'The tree listing'. Its bytes, which texts are in the format, and the range of a parent. Definitions alone.
use Rattle.std.specs.Prelude.{ℕ, suc, ◌*◌, ◌-◌, ◌≤◌, ◌<◌, ◌≡◌, ◌⊎◌, List, [], ◌∷◌, ◌++◌, length, get_or, ℤ, pos}
use Rattle.quantities.specs.declared.point.Point.{Point}
use Rattle.quantities.specs.Ranges.{Within, PointWithin}
use Rattle.tree.specs.Net.{sink_numbers, branch_numbers}
use Rattle.tree.specs.Tree.{Tree, parent_of}
use Rattle.tree.specs.Limits.{position_limit, sink_limit, slack_limit, wire_limit}
use Rattle.formats.specs.Limits.{listing_length_limit}
use Rattle.formats.specs.Bytes.{bytes}
use Rattle.formats.specs.Line.{line_text}
use Rattle.formats.specs.Ranges.{from_zero}
use Rattle.formats.specs.NetText.{wire_key, sinks_key}
use Rattle.formats.specs.declared.ranges.Range.{Range}

-- a listing: the stated slack and wire, and "the tree that a listing gives"
pub record Listing : Type 0 where
  pub slack : ℤ
  pub wire : ℕ
  pub tree : Tree

-- ---- the bytes of a listing

abbrev pub slack_key : List ℕ
slack_key = bytes "slack="

abbrev pub leaf_key : List ℕ
leaf_key = bytes "leaf="

abbrev pub node_key : List ℕ
node_key = bytes "node="

-- where branch point k of n sinks stands
abbrev pub node_point : ℕ → List Point → ℕ → Point
node_point n points k = get_or points (k - suc n) (record { x = pos 0; y = pos 0 })

-- `leaf=k,P` and `node=k,P,X,Y`
abbrev pub leaf_text : List ℕ → ℕ → List ℕ
leaf_text P k = line_text leaf_key (pos k ∷ (pos (parent_of P k) ∷ []))

abbrev pub node_text : ℕ → Tree → ℕ → List ℕ
node_text n T k = line_text node_key (pos k ∷ (pos (parent_of T.parents k) ∷ ((node_point n T.points k).x ∷ ((node_point n T.points k).y ∷ []))))

-- a line for each number of a list
abbrev pub lines_text : (ℕ → List ℕ) → List ℕ → List ℕ
lines_text f [] = []
lines_text f (k ∷ l) = f k ++ lines_text f l

-- "Lines: `slack=W`, `wire=L`, `sinks=n`, `leaf=k,P` for k = 1 to n, `node=k,P,X,Y` for k = n+1 to 2n-1."
unfoldable pub listing_text : ℕ → Listing → List ℕ
listing_text n G =
    line_text slack_key (G.slack ∷ [])
    ++ (line_text wire_key (pos G.wire ∷ [])
    ++ (line_text sinks_key (pos n ∷ [])
    ++ (lines_text (leaf_text G.tree.parents) (sink_numbers n)
    ++ lines_text (node_text n G.tree) (branch_numbers n))))

-- "Ranges: W ..; L ..; n 1 to 512; P 0 to 2n-1; X and Y as above." That a P is a sink is refusal 8
pub record ListingInRange (n : ℕ) (G : Listing) : Type 0 where
  pub slack : Within slack_limit G.slack
  pub wire : G.wire ≤ wire_limit
  pub sinks : (1 ≤ n) × (n ≤ sink_limit)
  pub parents_all : suc (length G.tree.parents) ≡ 2 * n
  pub points_all : length G.tree.points ≡ n - 1
  pub parents : (i : ℕ) → i < length G.tree.parents → get_or G.tree.parents i 0 < 2 * n
  pub points : (i : ℕ) → i < length G.tree.points → PointWithin position_limit (get_or G.tree.points i (record { x = pos 0; y = pos 0 }))

-- a text is in the format of the listings of a net of n sinks: it has exactly these lines, so spelled, in range and within its length
pub record ListingInFormat (n : ℕ) (s : List ℕ) (G : Listing) : Type 0 where
  pub spelled : s ≡ listing_text n G
  pub in_range : ListingInRange n G
  pub short : length s ≤ listing_length_limit

-- no P is one of the n sinks: else refusal 8, and the tree is not legal
abbrev pub NoSinkParent : ℕ → List ℕ → Type 0
NoSinkParent n P = (i : ℕ) → i < length P → (get_or P i 0 ≡ 0) ⊎ (n < get_or P i 0)

-- "P 0 to 2n-1"
abbrev pub parent_range : ℕ → Range
parent_range n = from_zero (2 * n - 1)
