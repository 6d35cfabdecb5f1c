-- No listing's text is the start of another's: if it is, the two listings and their counts are the same and nothing follows. Assumes nothing.
use Prim.Native.Nat.{ℕ, zero, suc, ◌+◌, ◌-◌, ◌≤◌, ◌<◌}
use mathlib.Core.Path.{◌≡◌, refl, sym, subst, ◌∙◌}
use mathlib.Core.Logic.{⊎_elim}
use mathlib.Core.List.{List, [], ◌∷◌, ◌++◌, append_assoc, append-nil}
use lib.ListN.{length}
use lib.Seq.{ext_get_or}
use lib.IntN.{ℤ, pos}
use native.Mathlib.Omega.{arith}
use Rattle.quantities.specs.declared.point.Point.{Point}
use Rattle.tree.specs.Lists.{range}
use Rattle.tree.specs.Net.{sink_numbers, branch_numbers}
use Rattle.tree.specs.Tree.{Tree, parent_of}
use Rattle.formats.specs.Line.{line_text}
use Rattle.formats.specs.NetText.{wire_key, sinks_key}
use Rattle.formats.specs.ListingText.{Listing, slack_key, leaf_key, node_key, node_point, leaf_text, node_text, lines_text, listing_text, ListingInRange}
use Rattle.formats.proofs.Laws.Numbers.Decimal.{lt_or_le}
use Rattle.formats.proofs.Laws.Lines.OneLine.{line_one}

-- ---- lines one by one

module _ (key : List ℕ) (F G : ℕ → List ℤ) (count : (k : ℕ) → length (F k) ≡ length (G k)) (some : (k : ℕ) → 1 ≤ length (F k)) where
  lines_one : (a j : ℕ) (r q : List ℕ) → lines_text (λ k. line_text key (F k)) (range a j) ++ r ≡ lines_text (λ k. line_text key (G k)) (range a j) ++ q → ((k : ℕ) → a ≤ k → k < a + j → F k ≡ G k) × (r ≡ q)
  lines_one a zero r q e = (λ k p h. absurd (omega arith), e)
  lines_one a (suc j) r q e =
      let here = line_one key (F a) (G a) _ _ (count a) (some a) (sym (append_assoc (line_text key (F a)) _ r) ∙ e ∙ append_assoc (line_text key (G a)) _ q) in
      let more = lines_one (suc a) j r q here.1 in
      (λ k p h. ⊎_elim (λ (l : a < k). more.0 k l (omega arith)) (λ (l : k ≤ a). let same : a ≡ k = omega arith in subst (λ k. F k ≡ G k) same here.0) (lt_or_le a k), more.1)

-- ---- the numbers of a line

one_number : (y z : ℤ) → y ∷ [] ≡ z ∷ [] → y ≡ z
one_number y z e = cc

natural : (i j : ℕ) → pos i ≡ pos j → i ≡ j
natural i j e = cc

second : (k : ℤ) (i j : ℕ) (l m : List ℤ) → k ∷ (pos i ∷ l) ≡ k ∷ (pos j ∷ m) → (i ≡ j) × (l ≡ m)
second k i j l m e = (let p : i ≡ j = cc in p, let p : l ≡ m = cc in p)

point_one : (p q : Point) → p.x ∷ (p.y ∷ []) ≡ q.x ∷ (q.y ∷ []) → p ≡ q
point_one p q e =
    let x : p.x ≡ q.x = cc in
    let y : p.y ≡ q.y = cc in
    λ i. record { x = x i; y = y i }

-- ---- the tree

abbrev tree_text : ℕ → Tree → List ℕ
tree_text n T = lines_text (leaf_text T.parents) (sink_numbers n) ++ lines_text (node_text n T) (branch_numbers n)

module _ (n : ℕ) (G H : Listing) (g : ListingInRange n G) (h : ListingInRange n H) (r : List ℕ) (e : tree_text n G.tree ≡ tree_text n H.tree ++ r) where
  leaves : ((k : ℕ) → 1 ≤ k → k < 1 + n → pos k ∷ (pos (parent_of G.tree.parents k) ∷ []) ≡ pos k ∷ (pos (parent_of H.tree.parents k) ∷ [])) × (lines_text (node_text n G.tree) (branch_numbers n) ≡ lines_text (node_text n H.tree) (branch_numbers n) ++ r)
  leaves = lines_one leaf_key _ _ (λ k. refl) (λ k. omega arith) 1 n _ _ (e ∙ append_assoc (lines_text (leaf_text H.tree.parents) (sink_numbers n)) (lines_text (node_text n H.tree) (branch_numbers n)) r)

  nodes : ((k : ℕ) → suc n ≤ k → k < suc n + (n - 1) → pos k ∷ (pos (parent_of G.tree.parents k) ∷ ((node_point n G.tree.points k).x ∷ ((node_point n G.tree.points k).y ∷ []))) ≡ pos k ∷ (pos (parent_of H.tree.parents k) ∷ ((node_point n H.tree.points k).x ∷ ((node_point n H.tree.points k).y ∷ [])))) × ([] ≡ r)
  nodes = lines_one node_key _ _ (λ k. refl) (λ k. omega arith) (suc n) (n - 1) [] r (append-nil (lines_text (node_text n G.tree) (branch_numbers n)) ∙ leaves.1)

  parents_one : G.tree.parents ≡ H.tree.parents
  parents_one = ext_get_or 0 G.tree.parents H.tree.parents (omega (arith, g.parents_all, h.parents_all)) (λ i l.
      ⊎_elim (λ (b : i < n). (second _ _ _ _ _ (leaves.0 (suc i) (omega arith) (omega arith))).0)
      (λ (b : n ≤ i). (second _ _ _ _ _ (nodes.0 (suc i) (omega arith) (omega (arith, g.parents_all)))).0)
      (lt_or_le i n))

  points_one : G.tree.points ≡ H.tree.points
  points_one = ext_get_or (record { x = pos 0; y = pos 0 }) G.tree.points H.tree.points (omega (arith, g.points_all, h.points_all)) (λ i l.
      let k : suc n + i - suc n ≡ i = omega arith in
      let p = point_one _ _ (second _ _ _ _ _ (nodes.0 (suc n + i) (omega arith) (omega (arith, g.points_all)))).1 in
      rw k at p)

-- ---- the listing

module _ (n m : ℕ) (G H : Listing) (r : List ℕ) (e : listing_text n G ≡ listing_text m H ++ r) where
  heads : (G.slack ≡ H.slack) × (G.wire ≡ H.wire) × (n ≡ m) × (tree_text n G.tree ≡ tree_text m H.tree ++ r)
  unfolding listing_text
  heads =
      let slack = line_one slack_key (G.slack ∷ []) (H.slack ∷ []) _ _ refl (omega arith) (e ∙ append_assoc (line_text slack_key (H.slack ∷ [])) _ r) in
      let wire = line_one wire_key (pos G.wire ∷ []) (pos H.wire ∷ []) _ _ refl (omega arith) (slack.1 ∙ append_assoc (line_text wire_key (pos H.wire ∷ [])) _ r) in
      let sinks = line_one sinks_key (pos n ∷ []) (pos m ∷ []) _ _ refl (omega arith) (wire.1 ∙ append_assoc (line_text sinks_key (pos m ∷ [])) _ r) in
      (one_number _ _ slack.0, natural _ _ (one_number _ _ wire.0), natural _ _ (one_number _ _ sinks.0), sinks.1)

pub listing_prefix : (n m : ℕ) (G H : Listing) (r : List ℕ) → ListingInRange n G → ListingInRange m H → listing_text n G ≡ listing_text m H ++ r → (n ≡ m) × (G ≡ H) × (r ≡ [])
listing_prefix n m G H r g h e =
    let top = heads n m G H r e in
    let same : m ≡ n = sym top.2 in
    let h' : ListingInRange n H = rw same at h in
    let t : tree_text n G.tree ≡ tree_text n H.tree ++ r = rw same at top.3 in
    let parents = parents_one n G H g h' r t in
    let points = points_one n G H g h' r t in
    (top.2, (λ i. record { slack = top.0 i; wire = top.1 i; tree = record { parents = parents i; points = points i } }), sym (nodes n G H g h' r t).1)
