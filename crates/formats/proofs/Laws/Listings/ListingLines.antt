-- A tree listing, from what reading its parts answered. Leaves and nodes are read line by line into arrays: what was read, and after it what is still to be read, is what is due.
-- Assumes nothing.
use Prim.Native.Nat.{ℕ, suc, ◌+◌, ◌*◌, ◌-◌, ◌≤◌, ◌<◌}
use mathlib.Core.Path.{◌≡◌, refl, sym, ap, ap₂, ◌∙◌}
use mathlib.Core.Logic.{◌≢◌}
use mathlib.Core.List.{List, [], ◌∷◌, ◌++◌, map, map-map, append-nil, append_assoc}
use native.Mathlib.Omega.{arith}
use borrow.Author.Tests.{lt-ltb, le-ltb, eq-eqb, ne_eqb}
use lib.ListN.{length, get_or, set, drop, drop_of_length-le}
use lib.Seq.{drop-cons, get_or-set_same, get_or-set_other}
use lib.IntN.{ℤ, pos, nat_abs}
use Rattle.tree.specs.Lists.{range}
use Rattle.tree.specs.Inner.Arrays.{point_at, parents_of, tree_of}
use Rattle.tree.specs.Tree.{Tree}
use Rattle.tree.specs.Limits.{sink_limit, wire_limit}
use Rattle.tree.proofs.Laws.Lists.Tables.{table_cong}
use Rattle.formats.specs.Limits.{listing_length_limit}
use Rattle.formats.specs.declared.refusal.Text.{Text}
use Rattle.formats.specs.declared.refusal.Text.TheVariants.{InListing}
use Rattle.formats.specs.declared.refusal.Refusal.{Refusal}
use Rattle.formats.specs.declared.refusal.Refusal.TheVariants.{TooLong, BytesFollow, OtherCount}
use Rattle.formats.specs.Outcome.{Outcome, value, refused, and_then}
use Rattle.formats.specs.Ranges.{up_to, from_zero}
use Rattle.formats.specs.Reading.Lines.{Read, reading, due_number, ended}
use Rattle.formats.specs.NetText.{wire_key, sinks_key}
use Rattle.formats.specs.Reading.Listings.{Stated, due_slack, same_only, Vertex, due_leaf, read_vertices, parents_in, points_in, read_stated, read_tree, read_listing}
use Rattle.formats.specs.Inner.ListingReader.{from_total, from_same, parents_from, vertex_held, vertices_from, leaves_in, nodes_in}
use Rattle.formats.proofs.Laws.Lines.Outcomes.{then_then, then_value, then_refused, reading_reading}
use Rattle.formats.proofs.Laws.Lines.Elements.{table_append}

-- ---- the first three lines

-- line 1
module _ (n : ℕ) (s : List ℕ) where
  pub slack_refused : (e : Refusal) → due_slack s ≡ refused e → read_stated n s ≡ refused e
  slack_refused e u = then_refused _ u

  pub slack_read : (z slack : ℤ) (r : List ℕ) → due_slack s ≡ value (record { got = z; rest = r }) → slack ≡ z → read_stated n s ≡ from_total n slack r
  slack_read z slack r u e = then_value _ u ∙ ap (λ z. from_total n z r) (sym e)

-- line l, which is line 2
module _ (n : ℕ) (slack : ℤ) (s : List ℕ) (l : ℕ) (line_is : l ≡ 2) where
  pub total_refused : (e : Refusal) → due_number InListing l wire_key (from_zero wire_limit) s ≡ refused e → from_total n slack s ≡ refused e
  total_refused e u = then_refused _ (then_refused _ (ap (λ l. due_number InListing l wire_key (from_zero wire_limit) s) (sym line_is) ∙ u))

  pub total_read : (z : ℤ) (wire : ℕ) (r : List ℕ) → due_number InListing l wire_key (from_zero wire_limit) s ≡ value (record { got = z; rest = r }) → wire ≡ nat_abs z
      → from_total n slack s ≡ from_same n slack wire r
  total_read z wire r u e =
      then_value _ (then_value _ (ap (λ l. due_number InListing l wire_key (from_zero wire_limit) s) (sym line_is) ∙ u)) ∙ ap (λ w. from_same n slack w r) (sym e)

-- line l, which is line 3
module _ (n : ℕ) (slack : ℤ) (wire : ℕ) (s : List ℕ) (l : ℕ) (line_is : l ≡ 3) where
  abbrev stated : Read ℕ → Outcome (Read Stated)
  stated count = value (record { got = record { slack = slack; wire = wire }; rest = count.rest })

  pub same_refused : (e : Refusal) → due_number InListing l sinks_key (up_to sink_limit) s ≡ refused e → from_same n slack wire s ≡ refused e
  same_refused e u = then_refused _ (then_refused _ (then_refused _ (ap (λ l. due_number InListing l sinks_key (up_to sink_limit) s) (sym line_is) ∙ u)))

  module _ (z : ℤ) (r : List ℕ) (e : due_number InListing l sinks_key (up_to sink_limit) s ≡ value (record { got = z; rest = r })) where
    same_read : from_same n slack wire s ≡ and_then (same_only n (record { got = nat_abs z; rest = r })) stated
    same_read = ap (λ o. and_then (and_then (reading nat_abs o) (same_only n)) stated) (ap (λ l. due_number InListing l sinks_key (up_to sink_limit) s) (sym line_is) ∙ e)

    pub same_other : nat_abs z ≢ n → from_same n slack wire s ≡ refused OtherCount
    same_other h = same_read ∙ rw (same_only, ne_eqb (nat_abs z) n h)

    pub same_in : nat_abs z ≡ n → from_same n slack wire s ≡ value (record { got = record { slack = slack; wire = wire }; rest = r })
    same_in h = same_read ∙ rw (same_only, eq-eqb (nat_abs z) n h)

-- ---- lines of vertices

-- m lines of vertices from a on come to o, told by g: those below k were read, as h gives them; the line of k stands at `from`
abbrev pub LinesTo : {A : Type 0} → (Vertex → A) → (ℕ → List ℕ → Outcome (Read Vertex)) → Outcome (Read (List A)) → (ℕ → A) → ℕ → ℕ → List ℕ → ℕ → ℕ → Type 0
LinesTo g line o h a m s from k = o ≡ reading (λ l. map h (range a (k - a)) ++ map g l) (read_vertices line (a + m - k) k (drop from s))

-- one place more
table_more : {A : Type 0} (f g : ℕ → A) (a k : ℕ) (x : A) → a ≤ k → ((i : ℕ) → i < k → g i ≡ f i) → g k ≡ x → map g (range a (k + 1 - a)) ≡ map f (range a (k - a)) ++ (x ∷ [])
table_more f g a k x h below e =
    let m : k + 1 - a ≡ k - a + 1 = omega arith in
    let last : a + (k - a) ≡ k = omega arith in
    ap (λ m. map g (range a m)) m
    ∙ table_append g a (k - a) 1
    ∙ ap₂ (λ l y. l ++ (y ∷ [])) (table_cong g f a (k - a) (λ i p q. below i (omega arith))) (ap g last ∙ e)

module _ {A : Type 0} (g : Vertex → A) (line : ℕ → List ℕ → Outcome (Read Vertex)) (a m : ℕ) (s : List ℕ) where
  pub lines_start : (h : ℕ → A) (from k : ℕ) → k ≡ a → LinesTo g line (reading (map g) (read_vertices line m a (drop from s))) h a m s from k
  lines_start h from k e =
      let i : 0 ≡ k - a = omega arith in
      let j : m ≡ a + m - k = omega arith in
      λ t. reading (λ l. map h (range a (i t)) ++ map g l) (read_vertices line (j t) (sym e t) (drop from s))

  module _ (o : Outcome (Read (List A))) (h : ℕ → A) (from k : ℕ) (inv : LinesTo g line o h a m s from k) where
    -- the line of vertex k is due
    line_due : k < a + m → o ≡ reading (λ l. map h (range a (k - a)) ++ map g l) (and_then (line k (drop from s)) λ v. reading (λ l. v.got ∷ l) (read_vertices line (a + m - suc k) (suc k) v.rest))
    line_due b =
        let j : a + m - k ≡ suc (a + m - suc k) = omega arith in
        inv ∙ ap (λ j. reading (λ l. map h (range a (k - a)) ++ map g l) (read_vertices line j k (drop from s))) j

    pub lines_refused : (e : Refusal) → k < a + m → line k (drop from s) ≡ refused e → o ≡ refused e
    lines_refused e b u = line_due b ∙ then_refused _ (then_refused _ u)

    pub lines_more : (v : Vertex) (end : ℕ) → a ≤ k → k < a + m → line k (drop from s) ≡ value (record { got = v; rest = drop end s })
        → (f : ℕ → A) → ((i : ℕ) → i < k → f i ≡ h i) → f k ≡ g v → LinesTo g line o f a m s end (k + 1)
    lines_more v end p b u f below at_k =
        let j : a + m - suc k ≡ a + m - (k + 1) = omega arith in
        let i : suc k ≡ k + 1 = omega arith in
        let rest : Outcome (Read (List Vertex)) = read_vertices line (a + m - suc k) (suc k) (drop end s) in
        let more : map f (range a (k + 1 - a)) ≡ map h (range a (k - a)) ++ (g v ∷ []) = table_more h f a k (g v) p below at_k in
        line_due b
        ∙ ap (reading (λ l. map h (range a (k - a)) ++ map g l)) (then_value _ u)
        ∙ reading_reading (λ l. v ∷ l) (λ l. map h (range a (k - a)) ++ map g l) rest
        ∙ (λ t. reading (λ l. sym (append_assoc (map h (range a (k - a))) (g v ∷ []) (map g l)) t) rest)
        ∙ (λ t. reading (λ l. sym more t ++ map g l) (read_vertices line (j t) (i t) (drop end s)))

    pub lines_all : k ≡ a + m → o ≡ value (record { got = map h (range a m); rest = drop from s })
    lines_all e =
        let j : a + m - k ≡ 0 = omega arith in
        let i : k - a ≡ m = omega arith in
        inv
        ∙ ap (λ j. reading (λ l. map h (range a (k - a)) ++ map g l) (read_vertices line j k (drop from s))) j
        ∙ ap (λ l. value (record { got = l; rest = drop from s })) (append-nil (map h (range a (k - a))) ∙ ap (λ m. map h (range a m)) i)

-- the nodes are told as they are
pub nodes_told : (n : ℕ) (s : List ℕ) → nodes_in n s ≡ reading (map (λ v. v)) (nodes_in n s)
nodes_told n s = go (nodes_in n s)
  where
    same : (l : List Vertex) → l ≡ map (λ v. v) l
    same [] = refl
    same (v ∷ l) = ap (λ r. v ∷ r) (same l)

    go : (o : Outcome (Read (List Vertex))) → o ≡ reading (map (λ v. v)) o
    go (value r) = ap (λ l. value (record { got = l; rest = r.rest })) (same r.got)
    go (refused e) = refl

-- ---- arrays of vertices, with one more in its place

other : (i k : ℕ) → i < k → i ≢ k
other i k h e = omega arith

module _ (parents : List ℕ) (k p : ℕ) where
  pub parent_below : (i : ℕ) → i < k → get_or (set parents k p) i 0 ≡ get_or parents i 0
  parent_below i b = get_or-set_other parents k i p 0 (other i k b)

  pub parent_here : k < length parents → get_or (set parents k p) k 0 ≡ p
  parent_here long = get_or-set_same parents k p 0 long

module _ (parents : List ℕ) (xs ys : List ℤ) (k p : ℕ) (x y : ℤ) where
  pub vertex_below : (i : ℕ) → i < k → vertex_held (set parents k p) (set xs k x) (set ys k y) i ≡ vertex_held parents xs ys i
  vertex_below i b = λ t. record {
    parent = parent_below parents k p i b t;
    point = record { x = get_or-set_other xs k i x (pos 0) (other i k b) t; y = get_or-set_other ys k i y (pos 0) (other i k b) t };
  }

  pub vertex_here : k < length parents → k < length xs → k < length ys → vertex_held (set parents k p) (set xs k x) (set ys k y) k ≡ record { parent = p; point = record { x = x; y = y } }
  vertex_here long xs_long ys_long = λ t. record {
    parent = parent_here parents k p long t;
    point = record { x = get_or-set_same xs k x (pos 0) xs_long t; y = get_or-set_same ys k y (pos 0) ys_long t };
  }

-- the places 0 to n are as they were
abbrev pub Kept : {A : Type 0} → A → ℕ → List A → List A → Type 0
Kept d n l₀ l = (v : ℕ) → v ≤ n → get_or l v d ≡ get_or l₀ v d

pub kept_more : {A : Type 0} (d : A) (n k : ℕ) (l₀ l : List A) (x : A) → n < k → Kept d n l₀ l → Kept d n l₀ (set l k x)
kept_more d n k l₀ l x h kept v b = get_or-set_other l k v x d (other v k (omega arith)) ∙ kept v b

-- ---- all lines of the vertices

ended_more : {A : Type 0} (t : Text) (l : ℕ) (a : A) (s : List ℕ) (end : ℕ) → end < length s → ended t l a (drop end s) ≡ refused (BytesFollow t l)
ended_more t l a s end h = rw (drop-cons s end 0 h)

ended_all : {A : Type 0} (t : Text) (l : ℕ) (a : A) (s : List ℕ) (end : ℕ) → length s ≤ end → ended t l a (drop end s) ≡ value a
ended_all t l a s end h = rw (drop_of_length-le s h)

abbrev tree_read : List ℕ → List Vertex → Tree
tree_read parents nodes = record { parents = parents ++ parents_in nodes; points = points_in nodes }

-- what follows the leaves, by their parents
abbrev after_leaves : ℕ → Read (List ℕ) → Outcome Tree
after_leaves n leaves = and_then (nodes_in n leaves.rest) λ nodes. ended InListing (2 * n + 3) (tree_read leaves.got nodes.got) nodes.rest

tree_parts : (n : ℕ) (s : List ℕ) → read_tree n s ≡ and_then (leaves_in n s) (after_leaves n)
tree_parts n s = sym (then_then (read_vertices (due_leaf n) n 1 s) _ (after_leaves n))

pub tree_no_leaves : (n : ℕ) (s : List ℕ) (e : Refusal) → leaves_in n s ≡ refused e → read_tree n s ≡ refused e
tree_no_leaves n s e u = tree_parts n s ∙ then_refused (after_leaves n) u

module _ (n : ℕ) (s : List ℕ) (from : ℕ) (ps : List ℕ) (here : ℕ) (leaves : leaves_in n (drop from s) ≡ value (record { got = ps; rest = drop here s })) where
  pub tree_no_nodes : (e : Refusal) → nodes_in n (drop here s) ≡ refused e → read_tree n (drop from s) ≡ refused e
  tree_no_nodes e u = tree_parts n (drop from s) ∙ then_value (after_leaves n) leaves ∙ then_refused _ u

  module _ (nodes : List Vertex) (end : ℕ) (read : nodes_in n (drop here s) ≡ value (record { got = nodes; rest = drop end s })) where
    tree_read_lem : read_tree n (drop from s) ≡ ended InListing (2 * n + 3) (tree_read ps nodes) (drop end s)
    tree_read_lem = tree_parts n (drop from s) ∙ then_value (after_leaves n) leaves ∙ then_value _ read

    pub tree_more : (l : ℕ) → l ≡ 2 * n + 3 → end < length s → read_tree n (drop from s) ≡ refused (BytesFollow InListing l)
    tree_more l line_is h = tree_read_lem ∙ ended_more InListing (2 * n + 3) (tree_read ps nodes) s end h ∙ ap (λ l. refused (BytesFollow InListing l)) (sym line_is)

    pub tree_all : length s ≤ end → read_tree n (drop from s) ≡ value (tree_read ps nodes)
    tree_all h = tree_read_lem ∙ ended_all InListing (2 * n + 3) (tree_read ps nodes) s end h

-- the arrays hold the tree: its leaves' parents stood there before the nodes were read
pub tree_held : (n : ℕ) (ps qs : List ℕ) (xs ys : List ℤ) → 1 ≤ n → Kept 0 n ps qs → tree_read (parents_from ps 1 n) (vertices_from qs xs ys (suc n) (n - 1)) ≡ tree_of n qs xs ys
tree_held n ps qs xs ys some kept =
    let m : n + (n - 1) ≡ 2 * n - 1 = omega arith in
    let a : suc n ≡ 1 + n = omega arith in
    let leaves : parents_from ps 1 n ≡ parents_from qs 1 n = table_cong (λ v. get_or ps v 0) (λ v. get_or qs v 0) 1 n (λ v p q. sym (kept v (omega arith))) in
    let nodes : parents_in (vertices_from qs xs ys (suc n) (n - 1)) ≡ parents_from qs (1 + n) (n - 1)
    = map-map (λ v. v.parent) (vertex_held qs xs ys) (range (suc n) (n - 1)) ∙ ap (λ a. parents_from qs a (n - 1)) a in
    let parents : parents_from ps 1 n ++ parents_in (vertices_from qs xs ys (suc n) (n - 1)) ≡ parents_of n qs
    = ap₂ ◌++◌ leaves nodes ∙ sym (table_append (λ v. get_or qs v 0) 1 n (n - 1)) ∙ ap (parents_from qs 1) m in
    let points : points_in (vertices_from qs xs ys (suc n) (n - 1)) ≡ map (point_at xs ys) (range (suc n) (n - 1)) = map-map (λ v. v.point) (vertex_held qs xs ys) (range (suc n) (n - 1)) in
    λ i. record { parents = parents i; points = points i }

-- ---- the whole text

pub listing_long : (n : ℕ) (s : List ℕ) → listing_length_limit < length s → read_listing n s ≡ refused (TooLong InListing)
unfolding read_listing
listing_long n s h = rw (read_listing, lt-ltb listing_length_limit (length s) h)

module _ (n : ℕ) (s : List ℕ) (short : length s ≤ listing_length_limit) where
  pub listing_no_stated : (e : Refusal) → read_stated n s ≡ refused e → read_listing n s ≡ refused e
  unfolding read_listing
  listing_no_stated e u = rw (read_listing, le-ltb listing_length_limit (length s) short) (then_refused _ u)

  module _ (a : Stated) (r : List ℕ) (stated : read_stated n s ≡ value (record { got = a; rest = r })) where
    pub listing_no_tree : (e : Refusal) → read_tree n r ≡ refused e → read_listing n s ≡ refused e
    unfolding read_listing
    listing_no_tree e u = rw (read_listing, le-ltb listing_length_limit (length s) short) (then_value _ stated ∙ then_refused _ u)

    pub listing_all : (T : Tree) → read_tree n r ≡ value T → read_listing n s ≡ value (record { slack = a.slack; wire = a.wire; tree = T })
    unfolding read_listing
    listing_all T u = rw (read_listing, le-ltb listing_length_limit (length s) short) (then_value _ stated ∙ then_value _ u)
