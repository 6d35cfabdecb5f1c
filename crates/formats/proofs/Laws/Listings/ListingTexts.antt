-- A text is read as a listing of a net of n sinks exactly when it is the listing's text, the listing is in range, no parent is a sink and the text within its length;
-- every other text is refused by 1, 2, 3, 4, 7 or 8, at a line that this number may have. Assumes nothing.
use Prim.Native.Nat.{ℕ, zero, suc, ◌+◌, ◌*◌, ◌-◌, ◌≤◌, ◌<◌}
use mathlib.Core.Path.{◌≡◌, refl, sym, ap, ap₂, subst, ◌∙◌}
use mathlib.Core.Logic.{◌⊎◌, inl, inr}
use mathlib.Core.Bool.{Bool, true, false, ◌&&◌}
use mathlib.Core.List.{List, [], ◌∷◌, ◌++◌, map, map-map, append_assoc, append-nil}
use lib.ListN.{length, get_or, length-append, length-map, get_or-append, get_or-map}
use lib.Seq.{get_or-append-add}
use lib.Dec.{ltb, leb, eqb}
use lib.IntN.{ℤ, pos, nat_abs}
use native.Mathlib.Omega.{arith}
use borrow.Author.Tests.{ltb-false, le-ltb, leb-false, le-leb, lt-leb, eqb-true, eq-eqb}
use Rattle.quantities.specs.declared.point.Point.{Point}
use Rattle.quantities.specs.Inner.Linear.{whole, nat_abs_is}
use Rattle.quantities.specs.Ranges.{Within, PointWithin}
use Rattle.tree.specs.Lists.{range}
use Rattle.tree.specs.Tree.{Tree, parent_of}
use Rattle.tree.specs.Limits.{position_limit, sink_limit, slack_limit, wire_limit}
use Rattle.tree.proofs.Laws.Lists.Tables.{table_length}
use Rattle.formats.specs.declared.refusal.Text.TheVariants.{InListing}
use Rattle.formats.specs.declared.refusal.Refusal.{Refusal}
use Rattle.formats.specs.declared.refusal.Refusal.TheVariants.{TooLong, OtherCount, SinkParent, NotDue, OutOfRange, BytesFollow}
use Rattle.formats.specs.Limits.{listing_length_limit}
use Rattle.formats.specs.Line.{line_text}
use Rattle.formats.specs.Outcome.{Outcome, value, refused}
use Rattle.formats.specs.Ranges.{around, up_to, from_zero}
use Rattle.formats.specs.Reading.Lines.{Read, due_for}
use Rattle.formats.specs.NetText.{wire_key, sinks_key, position_ranges}
use Rattle.formats.specs.ListingText.{Listing, slack_key, leaf_key, node_key, node_point, leaf_text, node_text, lines_text, listing_text, ListingInRange, ListingInFormat, NoSinkParent, parent_range}
use Rattle.formats.specs.Reading.Listings.{Stated, same_only, due_same, read_stated, Vertex, vertex_of, no_sink, due_leaf, due_node, read_vertices, parents_in, points_in, read_tree, read_listing_lines, read_listing}
use Rattle.formats.proofs.Laws.Lines.Outcomes.{then_then, then_value}
use Rattle.formats.proofs.Laws.Lines.Elements.{All, all_at, all_of, all_append, all_map, table_of, table_append, all_table}
use Rattle.formats.proofs.Laws.Lines.DueTexts.{In, LineRefusal, for_cases, for_complete, number_complete, natural_complete}
use Rattle.formats.proofs.Laws.Listings.OneText.{listing_prefix}
use Rattle.formats.proofs.Laws.Lines.Ends.{Ends, stops, goes, ends_value, ends_refused, ends_then, number_ends, natural_ends, ended_ends}

-- ---- the line of a vertex

abbrev NoSink : ℕ → ℕ → Type 0
NoSink n p = (p ≡ 0) ⊎ (n < p)

-- "P 0 to 2n-1", and no sink
abbrev ParentIn : ℕ → ℕ → Type 0
ParentIn n p = (p < 2 * n) × NoSink n p

-- it is refused by 2, 3 or 8
abbrev VertexRefusal : ℕ → Refusal → Type 0
VertexRefusal l e = LineRefusal InListing l e ⊎ (e ≡ SinkParent l)

no_sink_ends : (n l : ℕ) (v : Read Vertex) (G : Read Vertex → Type 0) → (NoSink n v.got.parent → G v) → Ends (VertexRefusal l) G (no_sink n l v)
no_sink_ends n l v G f = go (leb 1 v.got.parent) refl (leb v.got.parent n) refl
  where
    go : (t : Bool) → leb 1 v.got.parent ≡ t → (u : Bool) → leb v.got.parent n ≡ u → Ends (VertexRefusal l) G (elim (t && u) [ true ↦ refused (SinkParent l) | false ↦ value v ])
    go true q true w = stops (inr refl)
    go true q false w = goes (f (inr (leb-false v.got.parent n w)))
    go false q u w = goes (f (inl (omega (arith, leb-false 1 v.got.parent q))))

no_sink_complete : (n l : ℕ) (v : Read Vertex) → NoSink n v.got.parent → no_sink n l v ≡ value v
no_sink_complete n l v (inl e) = rw (no_sink, lt-leb 1 v.got.parent (omega arith))
no_sink_complete n l v (inr h) = rw (no_sink, le-leb 1 v.got.parent (omega arith), lt-leb v.got.parent n h)

abbrev origin : Point
origin = record { x = pos 0; y = pos 0 }

-- the lines of a leaf and of a node, by what they say
abbrev leaf_line : ℕ → Vertex → List ℕ
leaf_line k v = line_text leaf_key (pos k ∷ (pos v.parent ∷ []))

abbrev node_line : ℕ → Vertex → List ℕ
node_line k v = line_text node_key (pos k ∷ (pos v.parent ∷ (v.point.x ∷ (v.point.y ∷ []))))

abbrev LeafIn : ℕ → Vertex → Type 0
LeafIn n v = ParentIn n v.parent × (v.point ≡ origin)

abbrev NodeIn : ℕ → Vertex → Type 0
NodeIn n v = ParentIn n v.parent × PointWithin position_limit v.point

-- the text s begins with the line of vertex k, which says a vertex of which P holds
abbrev SaysVertex : (ℕ → Vertex → List ℕ) → (Vertex → Type 0) → ℕ → List ℕ → Read Vertex → Type 0
SaysVertex f P k s v = P v.got × (s ≡ f k v.got ++ v.rest)

module _ (n k : ℕ) (some : 1 ≤ n) (s : List ℕ) where
  parent_natural : (z : ℤ) → In (parent_range n) z → pos (nat_abs z) ≡ z
  parent_natural z h = omega (arith, whole, nat_abs_is z)

  parent_low : (z : ℤ) → In (parent_range n) z → nat_abs z < 2 * n
  parent_low z h = omega (arith, whole, nat_abs_is z)

  leaf_ends : Ends (VertexRefusal (k + 3)) (SaysVertex leaf_line (LeafIn n) k s) (due_leaf n k s)
  leaf_ends =
      for_cases InListing (k + 3) leaf_key (parent_range n ∷ []) s _ (due_leaf n k s) k (sym (then_then (due_for InListing (k + 3) leaf_key k (parent_range n ∷ []) s) _ (no_sink n (k + 3))))
      (λ e b u. subst (Ends _ _) (sym u) (stops (inl b)))
      λ z hz r t u.
      subst (Ends _ _) u
      (no_sink_ends n (k + 3) (record { got = vertex_of (z ∷ []); rest = r }) (SaysVertex leaf_line (LeafIn n) k s)
      (λ w. (((parent_low z hz, w), refl), rw (parent_natural z hz) t)))

  node_ends : Ends (VertexRefusal (k + 3)) (SaysVertex node_line (NodeIn n) k s) (due_node n k s)
  node_ends =
      for_cases InListing (k + 3) node_key (parent_range n ∷ position_ranges) s _ (due_node n k s) k (sym (then_then (due_for InListing (k + 3) node_key k (parent_range n ∷ position_ranges) s) _ (no_sink n (k + 3))))
      (λ e b u. subst (Ends _ _) (sym u) (stops (inl b)))
      λ z hz x hx y hy r t u.
      subst (Ends _ _) u
      (no_sink_ends n (k + 3) (record { got = vertex_of (z ∷ (x ∷ (y ∷ []))); rest = r }) (SaysVertex node_line (NodeIn n) k s)
      (λ w. (((parent_low z hz, w), (hx, hy)), rw (parent_natural z hz) t)))

module _ (n k : ℕ) (v : Vertex) (r : List ℕ) where
  parent_inside : ParentIn n v.parent → In (parent_range n) (pos v.parent)
  parent_inside h = (omega (arith, whole), omega (arith, whole))

  leaf_complete : LeafIn n v → due_leaf n k (leaf_line k v ++ r) ≡ value (record { got = v; rest = r })
  leaf_complete h =
      then_value (no_sink n (k + 3)) (then_value _ (for_complete InListing (k + 3) leaf_key (parent_range n ∷ []) k (pos v.parent ∷ []) r (parent_inside h.0, tt)))
      ∙ no_sink_complete n (k + 3) (record { got = vertex_of (pos v.parent ∷ []); rest = r }) h.0.1
      ∙ ap (λ c. value (record { got = record { parent = v.parent; point = c }; rest = r })) (sym h.1)

  node_complete : NodeIn n v → due_node n k (node_line k v ++ r) ≡ value (record { got = v; rest = r })
  node_complete h =
      then_value (no_sink n (k + 3))
      (then_value _
      (for_complete InListing (k + 3) node_key (parent_range n ∷ position_ranges) k (pos v.parent ∷ (v.point.x ∷ (v.point.y ∷ []))) r (parent_inside h.0, (h.1.0, (h.1.1, tt)))))
      ∙ no_sink_complete n (k + 3) (record { got = v; rest = r }) h.0.1

-- ---- the lines of vertices

-- one of the lines from a on, below b, is refused
record VerticesRefusal (a b : ℕ) (e : Refusal) : Type 0 where
  line : ℕ
  from : a ≤ line
  below : line < b
  is : VertexRefusal line e

abbrev lines_of : (ℕ → Vertex → List ℕ) → ℕ → List Vertex → List ℕ
lines_of f k [] = []
lines_of f k (v ∷ l) = f k v ++ lines_of f (suc k) l

abbrev SaysVertices : (ℕ → Vertex → List ℕ) → (Vertex → Type 0) → ℕ → ℕ → List ℕ → Read (List Vertex) → Type 0
SaysVertices f P j k s l = (length l.got ≡ j) × All P l.got × (s ≡ lines_of f k l.got ++ l.rest)

module _ (line : ℕ → List ℕ → Outcome (Read Vertex)) (f : ℕ → Vertex → List ℕ) (P : Vertex → Type 0) where
  vertices_end : ((k : ℕ) (s : List ℕ) → Ends (VertexRefusal (k + 3)) (SaysVertex f P k s) (line k s)) → (j k : ℕ) (s : List ℕ)
      → Ends (VerticesRefusal (k + 3) (k + 3 + j)) (SaysVertices f P j k s) (read_vertices line j k s)
  vertices_end step zero k s = goes (refl, tt, refl)
  vertices_end step (suc j) k s =
      ends_then _ (step k s) (λ e b. record { line = k + 3; from = omega arith; below = omega arith; is = b }) λ v h.
      ends_then _ (vertices_end step j (suc k) v.rest)
      (λ e b. record { line = b.line; from = omega (arith, b.from); below = omega (arith, b.below); is = b.is })
      λ l g.
      goes (ap suc g.0, (h.0, g.1), h.1 ∙ ap (λ r. f k v.got ++ r) g.2 ∙ sym (append_assoc (f k v.got) (lines_of f (suc k) l.got) l.rest))

  vertices_complete : ((k : ℕ) (v : Vertex) (r : List ℕ) → P v → line k (f k v ++ r) ≡ value (record { got = v; rest = r })) → (l : List Vertex) (k : ℕ) (r : List ℕ)
      → All P l → read_vertices line (length l) k (lines_of f k l ++ r) ≡ value (record { got = l; rest = r })
  vertices_complete step [] k r h = refl
  vertices_complete step (v ∷ l) k r h =
      then_value _ (ap (line k) (append_assoc (f k v) (lines_of f (suc k) l) r) ∙ step k v (lines_of f (suc k) l ++ r) h.0)
      ∙ then_value _ (vertices_complete step l (suc k) r h.1)

lines_table : (f : ℕ → Vertex → List ℕ) (h : ℕ → Vertex) (k j : ℕ) → lines_of f k (map h (range k j)) ≡ lines_text (λ k. f k (h k)) (range k j)
lines_table f h k zero = refl
lines_table f h k (suc j) = ap (λ r. f k (h k) ++ r) (lines_table f h (suc k) j)

-- ---- the tree: its vertices by their numbers

abbrev leaf_of : Tree → ℕ → Vertex
leaf_of T k = record { parent = parent_of T.parents k; point = origin }

abbrev node_of : ℕ → Tree → ℕ → Vertex
node_of n T k = record { parent = parent_of T.parents k; point = node_point n T.points k }

abbrev tree_read : List Vertex → List Vertex → Tree
tree_read leaves nodes = record { parents = parents_in leaves ++ parents_in nodes; points = points_in nodes }

abbrev no_vertex : Vertex
no_vertex = record { parent = 0; point = origin }

module _ (n : ℕ) (leaves nodes : List Vertex) (count : length leaves ≡ n) where
  leaves_table : All (LeafIn n) leaves → map (leaf_of (tree_read leaves nodes)) (range 1 (length leaves)) ≡ leaves
  leaves_table h =
      table_of (leaf_of (tree_read leaves nodes)) 1 leaves no_vertex λ i b.
      let p : 1 + i ≡ suc i = omega arith in
      let q : get_or (parents_in leaves ++ parents_in nodes) i 0 ≡ (get_or leaves i no_vertex).parent = get_or-append (parents_in leaves) (parents_in nodes) 0 i (omega (arith, length-map leaves (λ v. v.parent))) ∙ get_or-map (λ v. v.parent) leaves i no_vertex in
      ap (leaf_of (tree_read leaves nodes)) p ∙ ap₂ (λ p c. record { parent = p; point = c }) q (sym (all_at (LeafIn n) leaves h i no_vertex b).1)

  nodes_table : map (node_of n (tree_read leaves nodes)) (range (suc n) (length nodes)) ≡ nodes
  nodes_table =
      table_of (node_of n (tree_read leaves nodes)) (suc n) nodes no_vertex λ i b.
      let p : suc n + i ≡ suc (length (parents_in leaves) + i) = omega (arith, length-map leaves (λ v. v.parent)) in
      let m : suc (length (parents_in leaves) + i) - suc n ≡ i = omega (arith, length-map leaves (λ v. v.parent)) in
      let q : get_or (parents_in leaves ++ parents_in nodes) (length (parents_in leaves) + i) 0 ≡ (get_or nodes i no_vertex).parent = get_or-append-add (parents_in leaves) (parents_in nodes) i 0 ∙ get_or-map (λ v. v.parent) nodes i no_vertex in
      let c : get_or (points_in nodes) (suc (length (parents_in leaves) + i) - suc n) origin ≡ (get_or nodes i no_vertex).point = ap (λ (k : ℕ). get_or (points_in nodes) k origin) m ∙ get_or-map (λ v. v.point) nodes i no_vertex in
      ap (node_of n (tree_read leaves nodes)) p ∙ (λ j. record { parent = q j; point = c j })

-- the lines of a tree's vertices, in order
abbrev tree_text : ℕ → Tree → List ℕ
tree_text n T = lines_text (leaf_text T.parents) (range 1 n) ++ lines_text (node_text n T) (range (suc n) (n - 1))

pub record TreeIn (n : ℕ) (T : Tree) : Type 0 where
  parents_all : suc (length T.parents) ≡ 2 * n
  points_all : length T.points ≡ n - 1
  parents : All (ParentIn n) T.parents
  points : All (PointWithin position_limit) T.points

-- the refusals of a listing of a net of n sinks: 2 and 3 on one of the 2n + 2 lines, 4 on the line after the last, 8 on the line of a vertex
pub data ListingRefusal (n : ℕ) : Refusal → Type 0 where
  too_long : ListingRefusal n (TooLong InListing)
  not_due : {l : ℕ} → 1 ≤ l → l ≤ 2 * n + 2 → ListingRefusal n (NotDue InListing l)
  out_of_range : {l : ℕ} → 1 ≤ l → l ≤ 2 * n + 2 → ListingRefusal n (OutOfRange InListing l)
  bytes_follow : ListingRefusal n (BytesFollow InListing (2 * n + 3))
  other_count : ListingRefusal n OtherCount
  parent_sink : {l : ℕ} → 4 ≤ l → l ≤ 2 * n + 2 → ListingRefusal n (SinkParent l)

vertex_refusal : (n : ℕ) (e : Refusal) → VerticesRefusal 4 (2 * n + 3) e → ListingRefusal n e
vertex_refusal n e b = go b.line b.from b.below b.is
  where
    go : (l : ℕ) → 4 ≤ l → l < 2 * n + 3 → VertexRefusal l e → ListingRefusal n e
    go l p q (inl (inl u)) = rw u (not_due {l = l} (omega arith) (omega arith))
    go l p q (inl (inr u)) = rw u (out_of_range {l = l} (omega arith) (omega arith))
    go l p q (inr u) = rw u (parent_sink {l = l} p (omega arith))

tree_ends : (n : ℕ) (s : List ℕ) → 1 ≤ n → Ends (ListingRefusal n) (λ T. (s ≡ tree_text n T) × TreeIn n T) (read_tree n s)
tree_ends n s some =
    ends_then _ (vertices_end (due_leaf n) leaf_line (LeafIn n) (λ k s. leaf_ends n k some s) n 1 s)
    (λ e b. vertex_refusal n e (record { line = b.line; from = omega (arith, b.from); below = omega (arith, b.below); is = b.is }))
    λ leaves h.
    ends_then _ (vertices_end (due_node n) node_line (NodeIn n) (λ k s. node_ends n k some s) (n - 1) (suc n) leaves.rest)
    (λ e b. vertex_refusal n e (record { line = b.line; from = omega (arith, b.from); below = omega (arith, b.below); is = b.is }))
    λ nodes g.
    let T : Tree = tree_read leaves.got nodes.got in
    let a : lines_of leaf_line 1 leaves.got ≡ lines_text (leaf_text T.parents) (range 1 n)
    = ap (lines_of leaf_line 1) (sym (leaves_table n leaves.got nodes.got h.0 h.1))
    ∙ lines_table leaf_line (leaf_of T) 1 (length leaves.got)
    ∙ ap (λ j. lines_text (leaf_text T.parents) (range 1 j)) h.0 in
    let b : lines_of node_line (suc n) nodes.got ≡ lines_text (node_text n T) (range (suc n) (n - 1))
    = ap (lines_of node_line (suc n)) (sym (nodes_table n leaves.got nodes.got h.0))
    ∙ lines_table node_line (node_of n T) (suc n) (length nodes.got)
    ∙ ap (λ j. lines_text (node_text n T) (range (suc n) j)) g.0 in
    ended_ends InListing (2 * n + 3) T nodes.rest bytes_follow λ z. (
      h.2 ∙ ap₂ ◌++◌ a (g.2 ∙ ap (λ r. lines_of node_line (suc n) nodes.got ++ r) z ∙ append-nil (lines_of node_line (suc n) nodes.got) ∙ b),
      record {
        parents_all = omega (arith, length-append (parents_in leaves.got) (parents_in nodes.got), length-map leaves.got (λ v. v.parent), length-map nodes.got (λ v. v.parent), h.0, g.0);
        points_all = length-map nodes.got (λ v. v.point) ∙ g.0;
        parents = all_append (ParentIn n) (parents_in leaves.got) (parents_in nodes.got)
            (all_map (LeafIn n) (λ v. v.parent) (ParentIn n) (λ v p. p.0) leaves.got h.1)
            (all_map (NodeIn n) (λ v. v.parent) (ParentIn n) (λ v p. p.0) nodes.got g.1);
        points = all_map (NodeIn n) (λ v. v.point) (PointWithin position_limit) (λ v p. p.1) nodes.got g.1;
      },
    )

module _ (n : ℕ) (T : Tree) (some : 1 ≤ n) (h : TreeIn n T) where
  abbrev leaves : List Vertex
  leaves = map (leaf_of T) (range 1 n)

  abbrev nodes : List Vertex
  nodes = map (node_of n T) (range (suc n) (n - 1))

  parent_in : (k : ℕ) → 1 ≤ k → k < 2 * n → ParentIn n (parent_of T.parents k)
  parent_in zero p q = absurd (omega arith)
  parent_in (suc i) p q = all_at (ParentIn n) T.parents h.parents i 0 (omega (arith, h.parents_all))

  leaves_in_lem : All (LeafIn n) leaves
  leaves_in_lem = all_table (LeafIn n) (leaf_of T) 1 n (λ k p q. (parent_in k p (omega arith), refl))

  nodes_in_lem : All (NodeIn n) nodes
  nodes_in_lem =
      all_table (NodeIn n) (node_of n T) (suc n) (n - 1)
      (λ k p q. (parent_in k (omega arith) (omega arith), all_at (PointWithin position_limit) T.points h.points (k - suc n) origin (omega (arith, h.points_all))))

  tree_again : tree_read leaves nodes ≡ T
  tree_again =
      let m : n + (n - 1) ≡ length T.parents = omega (arith, h.parents_all) in
      let a : 1 + n ≡ suc n = omega arith in
      let parents : parents_in leaves ++ parents_in nodes ≡ T.parents
      = ap₂ ◌++◌ (map-map (λ v. v.parent) (leaf_of T) (range 1 n)) (map-map (λ v. v.parent) (node_of n T) (range (suc n) (n - 1)) ∙ ap (λ a. map (parent_of T.parents) (range a (n - 1))) (sym a))
      ∙ sym (table_append (parent_of T.parents) 1 n (n - 1))
      ∙ ap (λ m. map (parent_of T.parents) (range 1 m)) m
      ∙ table_of (parent_of T.parents) 1 T.parents 0 (λ i b. let p : 1 + i ≡ suc i = omega arith in ap (parent_of T.parents) p) in
      let points : points_in nodes ≡ T.points
      = map-map (λ v. v.point) (node_of n T) (range (suc n) (n - 1))
      ∙ ap (λ m. map (node_point n T.points) (range (suc n) m)) (sym h.points_all)
      ∙ table_of (node_point n T.points) (suc n) T.points origin (λ i b. ap (λ (k : ℕ). get_or T.points k origin) (omega arith)) in
      λ i. record { parents = parents i; points = points i }

  tree_complete : read_tree n (tree_text n T) ≡ value T
  tree_complete =
      ap (read_tree n)
      (ap₂ ◌++◌ (sym (lines_table leaf_line (leaf_of T) 1 n)) (sym (append-nil (lines_of node_line (suc n) nodes) ∙ lines_table node_line (node_of n T) (suc n) (n - 1))))
      ∙ then_value _
      (ap (λ j. read_vertices (due_leaf n) j 1 (lines_of leaf_line 1 leaves ++ (lines_of node_line (suc n) nodes ++ []))) (sym (table_length (leaf_of T) 1 n))
      ∙ vertices_complete (due_leaf n) leaf_line (LeafIn n) (λ k v r p. leaf_complete n k v r p) leaves 1 (lines_of node_line (suc n) nodes ++ []) leaves_in_lem)
      ∙ then_value _
      (ap (λ j. read_vertices (due_node n) j (suc n) (lines_of node_line (suc n) nodes ++ [])) (sym (table_length (node_of n T) (suc n) (n - 1)))
      ∙ vertices_complete (due_node n) node_line (NodeIn n) (λ k v r p. node_complete n k v r p) nodes (suc n) [] nodes_in_lem)
      ∙ ap value tree_again

-- ---- the first three lines

line_refusal : (n l : ℕ) (e : Refusal) → 1 ≤ l → l ≤ 2 * n + 2 → LineRefusal InListing l e → ListingRefusal n e
line_refusal n l e p q (inl u) = rw u (not_due p q)
line_refusal n l e p q (inr u) = rw u (out_of_range p q)

record StatedIn (n : ℕ) (a : Stated) : Type 0 where
  slack : Within slack_limit a.slack
  wire : a.wire ≤ wire_limit
  sinks : (1 ≤ n) × (n ≤ sink_limit)

abbrev stated_text : ℕ → Stated → List ℕ → List ℕ
stated_text n a r = line_text slack_key (a.slack ∷ []) ++ (line_text wire_key (pos a.wire ∷ []) ++ (line_text sinks_key (pos n ∷ []) ++ r))

same_only_ends : (n : ℕ) (r : Read ℕ) (G : Read ℕ → Type 0) → (r.got ≡ n → G r) → Ends (λ e. 1 ≤ n → ListingRefusal n e) G (same_only n r)
same_only_ends n r G f = go (eqb r.got n) refl
  where
    go : (t : Bool) → eqb r.got n ≡ t → Ends (λ e. 1 ≤ n → ListingRefusal n e) G (elim t [ true ↦ value r | false ↦ refused OtherCount ])
    go true q = goes (f (eqb-true r.got n q))
    go false q = stops (λ some. other_count)

same_ends : (n : ℕ) (s : List ℕ) → Ends (λ e. 1 ≤ n → ListingRefusal n e) (λ r. (1 ≤ n) × (n ≤ sink_limit) × (s ≡ line_text sinks_key (pos n ∷ []) ++ r.rest)) (due_same n s)
same_ends n s =
    ends_then (same_only n) (natural_ends InListing 3 sinks_key (up_to sink_limit) s (omega (arith, whole))) (λ e b some. line_refusal n 3 e (omega arith) (omega arith) b) λ count h.
    same_only_ends n count (λ r. (1 ≤ n) × (n ≤ sink_limit) × (s ≡ line_text sinks_key (pos n ∷ []) ++ r.rest)) λ same.
    (omega (arith, whole, h.0.0), omega (arith, whole, h.0.1), h.1 ∙ ap (λ k. line_text sinks_key (pos k ∷ []) ++ count.rest) same)

stated_ends : (n : ℕ) (s : List ℕ) → Ends (λ e. 1 ≤ n → ListingRefusal n e) (λ a. StatedIn n a.got × (s ≡ stated_text n a.got a.rest)) (read_stated n s)
stated_ends n s =
    ends_then _ (number_ends InListing 1 slack_key (around slack_limit) s) (λ e b some. line_refusal n 1 e (omega arith) (omega arith) b) λ slack h.
    ends_then _ (natural_ends InListing 2 wire_key (from_zero wire_limit) slack.rest (omega (arith, whole))) (λ e b some. line_refusal n 2 e (omega arith) (omega arith) b) λ wire g.
    ends_then _ (same_ends n wire.rest) (λ e b. b) λ count c.
    goes (
      record { slack = h.0; wire = omega (arith, whole, g.0.1); sinks = (c.0, c.1) },
      h.1 ∙ ap (λ r. line_text slack_key (slack.got ∷ []) ++ r) (g.1 ∙ ap (λ r. line_text wire_key (pos wire.got ∷ []) ++ r) c.2),
    )

same_complete : (n : ℕ) (r : List ℕ) → 1 ≤ n → n ≤ sink_limit → due_same n (line_text sinks_key (pos n ∷ []) ++ r) ≡ value (record { got = n; rest = r })
same_complete n r some few =
    then_value (same_only n) (natural_complete InListing 3 sinks_key (up_to sink_limit) n r (omega (arith, whole), omega (arith, whole))) ∙ rw (same_only, eq-eqb n n refl)

stated_complete : (n : ℕ) (a : Stated) (r : List ℕ) → StatedIn n a → read_stated n (stated_text n a r) ≡ value (record { got = a; rest = r })
stated_complete n a r h =
    then_value _ (number_complete InListing 1 slack_key (around slack_limit) a.slack _ h.slack)
    ∙ then_value _ (natural_complete InListing 2 wire_key (from_zero wire_limit) a.wire _ (omega (arith, whole), omega (arith, whole, h.wire)))
    ∙ then_value _ (same_complete n r h.sinks.0 h.sinks.1)

-- ---- the whole text

-- in the format, and no parent is a sink
abbrev Taken : ℕ → List ℕ → Listing → Type 0
Taken n s G = ListingInFormat n s G × NoSinkParent n G.tree.parents

lines_end : (n : ℕ) (s : List ℕ) → length s ≤ listing_length_limit → Ends (λ e. 1 ≤ n → ListingRefusal n e) (Taken n s) (read_listing_lines n s)
unfolding listing_text
lines_end n s short =
    ends_then _ (stated_ends n s) (λ e b. b) λ stated h.
    ends_then _ (tree_ends n stated.rest h.0.sinks.0) (λ e b some. b) λ T g.
    goes (
      record {
        spelled = h.1 ∙ ap (stated_text n stated.got) g.0;
        in_range = record {
          slack = h.0.slack;
          wire = h.0.wire;
          sinks = h.0.sinks;
          parents_all = g.1.parents_all;
          points_all = g.1.points_all;
          parents = λ i b. (all_at (ParentIn n) T.parents g.1.parents i 0 b).0;
          points = λ i b. all_at (PointWithin position_limit) T.points g.1.points i origin b;
        };
        short = short;
      },
      λ i b. (all_at (ParentIn n) T.parents g.1.parents i 0 b).1,
    )

-- "length first"
listing_ends : (n : ℕ) (s : List ℕ) → Ends (λ e. 1 ≤ n → ListingRefusal n e) (Taken n s) (read_listing n s)
unfolding read_listing
listing_ends n s = go (ltb listing_length_limit (length s)) refl
  where
    go : (t : Bool) → ltb listing_length_limit (length s) ≡ t
        → Ends (λ e. 1 ≤ n → ListingRefusal n e) (Taken n s) (elim t [ true ↦ refused (TooLong InListing) | false ↦ read_listing_lines n s ])
    go true q = stops (λ some. too_long)
    go false q = lines_end n s (ltb-false listing_length_limit (length s) q)

pub listing_sound : (n : ℕ) (s : List ℕ) (G : Listing) → read_listing n s ≡ value G → ListingInFormat n s G × NoSinkParent n G.tree.parents
listing_sound n s G e = ends_value (listing_ends n s) e

pub listing_refused : (n : ℕ) (e : Refusal) (s : List ℕ) → 1 ≤ n → read_listing n s ≡ refused e → ListingRefusal n e
listing_refused n e s some h = ends_refused (listing_ends n s) h some

pub listing_complete : (n : ℕ) (s : List ℕ) (G : Listing) → ListingInFormat n s G → NoSinkParent n G.tree.parents → read_listing n s ≡ value G
unfolding read_listing listing_text
listing_complete n s G f none =
    let h : ListingInRange n G = f.in_range in
    let stated : StatedIn n (record { slack = G.slack; wire = G.wire }) = record { slack = h.slack; wire = h.wire; sinks = h.sinks } in
    let tree : TreeIn n G.tree = record {
      parents_all = h.parents_all;
      points_all = h.points_all;
      parents = all_of (ParentIn n) G.tree.parents 0 (λ i b. (h.parents i b, none i b));
      points = all_of (PointWithin position_limit) G.tree.points origin h.points;
    } in
    rw (read_listing, le-ltb listing_length_limit (length s) f.short)
    (ap (read_listing_lines n) f.spelled
    ∙ then_value _ (stated_complete n (record { slack = G.slack; wire = G.wire }) (tree_text n G.tree) stated)
    ∙ then_value _ (tree_complete n G.tree h.sinks.0 tree))

pub listing_one_lem : (n : ℕ) (s : List ℕ) (G H : Listing) → ListingInFormat n s G → ListingInFormat n s H → G ≡ H
listing_one_lem n s G H f g = (listing_prefix n n G H [] f.in_range g.in_range (sym f.spelled ∙ g.spelled ∙ sym (append-nil (listing_text n H)))).1
