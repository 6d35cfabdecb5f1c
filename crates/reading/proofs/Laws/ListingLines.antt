-- The lines of a listing's vertices, read one by one into arrays, and the whole listing: what was read, and after it what is still to be read, is what is due. Assumes nothing.
use Prim.Native.Nat.{ℕ, suc, ◌+◌, ◌*◌, ◌-◌, ◌≤◌, ◌<◌}
use mathlib.Core.Path.{◌≡◌, refl, sym, ap, ap₂, ◌∙◌}
use mathlib.Core.Logic.{◌≢◌}
use mathlib.Core.Bool.{Bool, true, false, cond}
use mathlib.Core.List.{List, [], ◌∷◌, ◌++◌, map, map-map, append-nil, append_assoc}
use native.Mathlib.Omega.{arith}
use borrow.Author.Tests.{lt-ltb, le-ltb, ltb-true, ltb-false}
use lib.ListN.{length, get_or, set, drop, drop_of_length-le}
use lib.Seq.{drop-cons, get_or-set_same, get_or-set_other}
use lib.Dec.{ltb}
use lib.IntN.{ℤ, pos}
use Rattle.std.specs.Prelude.{Result, Ok, Err}
use Rattle.tree.specs.Lists.{range}
use Rattle.tree.specs.Inner.Arrays.{point_at, parents_of, tree_of}
use Rattle.tree.specs.Tree.{Tree}
use Rattle.tree.specs.declared.measures.Measures.{Measures}
use Rattle.tree.proofs.Laws.Lists.Tables.{table_cong}
use Rattle.formats.specs.Limits.{listing_length_limit}
use Rattle.formats.specs.declared.refusal.Text.TheVariants.{InListing}
use Rattle.formats.specs.declared.refusal.Refusal.{Refusal}
use Rattle.formats.specs.declared.refusal.Refusal.TheVariants.{TooLong, BytesFollow}
use Rattle.formats.specs.declared.reader.LineReader.{LineReader}
use Rattle.formats.specs.Outcome.{Outcome, value, refused, and_then}
use Rattle.formats.specs.Reading.Lines.{Read, reading, ended}
use Rattle.formats.specs.Reading.Listings.{Vertex, due_leaf, read_vertices, parents_in, points_in, read_stated, read_tree, read_listing}
use Rattle.formats.specs.Inner.Readers.{ahead}
use Rattle.formats.specs.Inner.ListingReader.{parents_from, vertex_held, vertices_from, leaves_in, nodes_in}
use Rattle.formats.proofs.Laws.Lines.Outcomes.{then_then, then_value, then_refused, reading_reading}
use Rattle.formats.proofs.Laws.Lines.Elements.{table_append}
use Rattle.reading.specs.Inner.Vertices.{AtLineOf, Says, stated_by, tree_outcome}
use Rattle.reading.proofs.Laws.Steps.{AtStart}

-- ---- lines that were read

module _ {A B : Type 0} (o : Outcome (Read A)) (f : B → A) (l : ℕ) (r : LineReader) (b : B) (r' : LineReader) (says : Says o f l r (Ok b) r') where
  pub says_at : (m : ℕ) → AtLineOf m r → AtLineOf l r'
  says_at m h = (omega (arith, says.0.within, ap length says.1.1), says.0.line_is, says.1.0 ∙ h.2)

  pub says_read : o ≡ value (record { got = f b; rest = ahead r' })
  says_read = says.0.reads ∙ (λ i. value (record { got = f b; rest = drop r'.at (sym says.1.1 i) }))

-- ---- lines of vertices

-- m lines of vertices from a on come to o, told by g: those below k were read, as h gives them; u is what is left, from the line of k on
abbrev pub LinesTo : {A : Type 0} → (Vertex → A) → (ℕ → List ℕ → Outcome (Read Vertex)) → Outcome (Read (List A)) → (ℕ → A) → ℕ → ℕ → List ℕ → ℕ → Type 0
LinesTo g line o h a m u k = o ≡ reading (λ l. map h (range a (k - a)) ++ map g l) (read_vertices line (a + m - k) k u)

-- one place more
table_more : {A : Type 0} (f g : ℕ → A) (a k : ℕ) (x : A) → a ≤ k → ((i : ℕ) → i < k → g i ≡ f i) → g k ≡ x → map g (range a (k + 1 - a)) ≡ map f (range a (k - a)) ++ (x ∷ [])
table_more f g a k x h below e =
    let m : k + 1 - a ≡ k - a + 1 = omega arith in
    let last : a + (k - a) ≡ k = omega arith in
    ap (λ m. map g (range a m)) m
    ∙ table_append g a (k - a) 1
    ∙ ap₂ (λ l y. l ++ (y ∷ [])) (table_cong g f a (k - a) (λ i p q. below i (omega arith))) (ap g last ∙ e)

module _ {A : Type 0} (g : Vertex → A) (line : ℕ → List ℕ → Outcome (Read Vertex)) (a m : ℕ) (u : List ℕ) where
  pub lines_start : (h : ℕ → A) (k : ℕ) → k ≡ a → LinesTo g line (reading (map g) (read_vertices line m a u)) h a m u k
  lines_start h k e =
      let i : 0 ≡ k - a = omega arith in
      let j : m ≡ a + m - k = omega arith in
      λ t. reading (λ l. map h (range a (i t)) ++ map g l) (read_vertices line (j t) (sym e t) u)

  module _ (o : Outcome (Read (List A))) (h : ℕ → A) (k : ℕ) (inv : LinesTo g line o h a m u k) where
    -- the line of vertex k is due
    line_due : k < a + m → o ≡ reading (λ l. map h (range a (k - a)) ++ map g l) (and_then (line k u) λ v. reading (λ l. v.got ∷ l) (read_vertices line (a + m - suc k) (suc k) v.rest))
    line_due b =
        let j : a + m - k ≡ suc (a + m - suc k) = omega arith in
        inv ∙ ap (λ j. reading (λ l. map h (range a (k - a)) ++ map g l) (read_vertices line j k u)) j

    pub lines_refused : (e : Refusal) → k < a + m → line k u ≡ refused e → o ≡ refused e
    lines_refused e b q = line_due b ∙ then_refused _ (then_refused _ q)

    pub lines_more : (v : Vertex) (rest : List ℕ) → a ≤ k → k < a + m → line k u ≡ value (record { got = v; rest = rest })
        → (f : ℕ → A) → ((i : ℕ) → i < k → f i ≡ h i) → f k ≡ g v → LinesTo g line o f a m rest (k + 1)
    lines_more v rest p b q f below at_k =
        let j : a + m - suc k ≡ a + m - (k + 1) = omega arith in
        let i : suc k ≡ k + 1 = omega arith in
        let after : Outcome (Read (List Vertex)) = read_vertices line (a + m - suc k) (suc k) rest in
        let more : map f (range a (k + 1 - a)) ≡ map h (range a (k - a)) ++ (g v ∷ []) = table_more h f a k (g v) p below at_k in
        line_due b
        ∙ ap (reading (λ l. map h (range a (k - a)) ++ map g l)) (then_value _ q)
        ∙ reading_reading (λ l. v ∷ l) (λ l. map h (range a (k - a)) ++ map g l) after
        ∙ (λ t. reading (λ l. sym (append_assoc (map h (range a (k - a))) (g v ∷ []) (map g l)) t) after)
        ∙ (λ t. reading (λ l. sym more t ++ map g l) (read_vertices line (j t) (i t) rest))

    pub lines_all : k ≡ a + m → o ≡ value (record { got = map h (range a m); rest = u })
    lines_all e =
        let j : a + m - k ≡ 0 = omega arith in
        let i : k - a ≡ m = omega arith in
        inv
        ∙ ap (λ j. reading (λ l. map h (range a (k - a)) ++ map g l) (read_vertices line j k u)) j
        ∙ ap (λ l. value (record { got = l; rest = u })) (append-nil (map h (range a (k - a))) ∙ ap (λ m. map h (range a m)) i)

-- the nodes are told as they are
pub nodes_told : (n : ℕ) (s : List ℕ) → nodes_in n s ≡ reading (map (λ v. v)) (nodes_in n s)
nodes_told n s = go (nodes_in n s)
  where
    same : (l : List Vertex) → l ≡ map (λ v. v) l
    same [] = refl
    same (v ∷ l) = ap (λ r. v ∷ r) (same l)

    go : (o : Outcome (Read (List Vertex))) → o ≡ reading (map (λ v. v)) o
    go (value r) = ap (λ l. value (record { got = l; rest = r.rest })) (same r.got)
    go (refused e) = refl

-- ---- arrays of vertices, with one more in its place

other : (i k : ℕ) → i < k → i ≢ k
other i k h e = omega arith

module _ (parents : List ℕ) (k p : ℕ) where
  pub parent_below : (i : ℕ) → i < k → get_or (set parents k p) i 0 ≡ get_or parents i 0
  parent_below i b = get_or-set_other parents k i p 0 (other i k b)

  pub parent_here : k < length parents → get_or (set parents k p) k 0 ≡ p
  parent_here long = get_or-set_same parents k p 0 long

module _ (parents : List ℕ) (xs ys : List ℤ) (k p : ℕ) (x y : ℤ) where
  pub vertex_below : (i : ℕ) → i < k → vertex_held (set parents k p) (set xs k x) (set ys k y) i ≡ vertex_held parents xs ys i
  vertex_below i b = λ t. record {
    parent = parent_below parents k p i b t;
    point = record { x = get_or-set_other xs k i x (pos 0) (other i k b) t; y = get_or-set_other ys k i y (pos 0) (other i k b) t };
  }

  pub vertex_here : k < length parents → k < length xs → k < length ys → vertex_held (set parents k p) (set xs k x) (set ys k y) k ≡ record { parent = p; point = record { x = x; y = y } }
  vertex_here long xs_long ys_long = λ t. record {
    parent = parent_here parents k p long t;
    point = record { x = get_or-set_same xs k x (pos 0) xs_long t; y = get_or-set_same ys k y (pos 0) ys_long t };
  }

-- the places 0 to n are as they were
abbrev pub Kept : {A : Type 0} → A → ℕ → List A → List A → Type 0
Kept d n l₀ l = (v : ℕ) → v ≤ n → get_or l v d ≡ get_or l₀ v d

pub kept_more : {A : Type 0} (d : A) (n k : ℕ) (l₀ l : List A) (x : A) → n < k → Kept d n l₀ l → Kept d n l₀ (set l k x)
kept_more d n k l₀ l x h kept v b = get_or-set_other l k v x d (other v k (omega arith)) ∙ kept v b

-- ---- all lines of the vertices

abbrev tree_read : List ℕ → List Vertex → Tree
tree_read parents nodes = record { parents = parents ++ parents_in nodes; points = points_in nodes }

-- what follows the leaves, by their parents
abbrev after_leaves : ℕ → Read (List ℕ) → Outcome Tree
after_leaves n leaves = and_then (nodes_in n leaves.rest) λ nodes. ended InListing (2 * n + 3) (tree_read leaves.got nodes.got) nodes.rest

tree_parts : (n : ℕ) (s : List ℕ) → read_tree n s ≡ and_then (leaves_in n s) (after_leaves n)
tree_parts n s = sym (then_then (read_vertices (due_leaf n) n 1 s) _ (after_leaves n))

-- the arrays hold the tree: its leaves' parents stood there before the nodes were read
pub tree_held : (n : ℕ) (ps qs : List ℕ) (xs ys : List ℤ) → 1 ≤ n → Kept 0 n ps qs → tree_read (parents_from ps 1 n) (vertices_from qs xs ys (suc n) (n - 1)) ≡ tree_of n qs xs ys
tree_held n ps qs xs ys some kept =
    let m : n + (n - 1) ≡ 2 * n - 1 = omega arith in
    let a : suc n ≡ 1 + n = omega arith in
    let leaves : parents_from ps 1 n ≡ parents_from qs 1 n = table_cong (λ v. get_or ps v 0) (λ v. get_or qs v 0) 1 n (λ v p q. sym (kept v (omega arith))) in
    let nodes : parents_in (vertices_from qs xs ys (suc n) (n - 1)) ≡ parents_from qs (1 + n) (n - 1)
    = map-map (λ v. v.parent) (vertex_held qs xs ys) (range (suc n) (n - 1)) ∙ ap (λ a. parents_from qs a (n - 1)) a in
    let parents : parents_from ps 1 n ++ parents_in (vertices_from qs xs ys (suc n) (n - 1)) ≡ parents_of n qs
    = ap₂ ◌++◌ leaves nodes ∙ sym (table_append (λ v. get_or qs v 0) 1 n (n - 1)) ∙ ap (parents_from qs 1) m in
    let points : points_in (vertices_from qs xs ys (suc n) (n - 1)) ≡ map (point_at xs ys) (range (suc n) (n - 1)) = map-map (λ v. v.point) (vertex_held qs xs ys) (range (suc n) (n - 1)) in
    λ i. record { parents = parents i; points = points i }

module _ (n : ℕ) (r : LineReader) where
  pub tree_no_leaves : (e : Refusal) → leaves_in n (ahead r) ≡ refused e → read_tree n (ahead r) ≡ refused e
  tree_no_leaves e q = tree_parts n (ahead r) ∙ then_refused (after_leaves n) q

  -- the leaves are read, and then the reader stands at the nodes
  module _ (ps : List ℕ) (r₁ : LineReader) (leaves : Says {B = Unit {0}} (leaves_in n (ahead r)) (λ _. ps) (n + 4) r (Ok tt) r₁) where
    tree_leaves : read_tree n (ahead r) ≡ after_leaves n (record { got = ps; rest = ahead r₁ })
    tree_leaves = tree_parts n (ahead r) ∙ then_value (after_leaves n) (says_read {B = Unit {0}} (leaves_in n (ahead r)) (λ _. ps) (n + 4) r tt r₁ leaves)

    pub tree_no_nodes : (e : Refusal) → nodes_in n (ahead r₁) ≡ refused e → read_tree n (ahead r) ≡ refused e
    tree_no_nodes e q = tree_leaves ∙ then_refused _ q

    -- the nodes are read too, and then nothing may follow
    module _ (nodes : List Vertex) (r₂ : LineReader) (read : Says {B = Unit {0}} (nodes_in n (ahead r₁)) (λ _. nodes) (2 * n + 3) r₁ (Ok tt) r₂) where
      tree_nodes : read_tree n (ahead r) ≡ ended InListing (2 * n + 3) (tree_read ps nodes) (ahead r₂)
      tree_nodes = tree_leaves ∙ then_value _ (says_read {B = Unit {0}} (nodes_in n (ahead r₁)) (λ _. nodes) (2 * n + 3) r₁ tt r₂ read)

      pub tree_told : AtLineOf 4 r → (parents : List ℕ) (xs ys : List ℤ) → tree_read ps nodes ≡ tree_of n parents xs ys
          → (result : Result Unit Refusal) → result ≡ cond (ltb r₂.at (length r₂.text.now)) (Err (BytesFollow r₂.which r₂.line)) (Ok tt) → read_tree n (ahead r) ≡ tree_outcome n result parents xs ys
      tree_told h parents xs ys held result e = go (ltb r₂.at (length r₂.text.now)) refl result e
        where
          go : (b : Bool) → ltb r₂.at (length r₂.text.now) ≡ b → (result : Result Unit Refusal) → result ≡ cond b (Err (BytesFollow r₂.which r₂.line)) (Ok tt) → read_tree n (ahead r) ≡ tree_outcome n result parents xs ys
          go true q result e =
              let b : r₂.at < length r₂.text.now = ltb-true _ _ q in
              let w : r₂.which ≡ InListing = read.1.0 ∙ leaves.1.0 ∙ h.2 in
              rw e (tree_nodes ∙ rw (drop-cons r₂.text.now r₂.at 0 b) (λ i. refused (BytesFollow (sym w i) (sym read.0.line_is i))))
          go false q result e =
              let b : length r₂.text.now ≤ r₂.at = ltb-false _ _ q in
              let f : ahead r₂ ≡ [] = drop_of_length-le r₂.text.now b in
              rw e (tree_nodes ∙ rw f (ap value held))

-- ---- the whole text

pub listing_long : (n : ℕ) (s : List ℕ) → listing_length_limit < length s → read_listing n s ≡ refused (TooLong InListing)
unfolding read_listing
listing_long n s h = rw (read_listing, lt-ltb listing_length_limit (length s) h)

module _ (n : ℕ) (s : List ℕ) (short : length s ≤ listing_length_limit) (r : LineReader) (start : AtStart InListing s r) where
  whole : ahead r ≡ s
  whole = (λ i. drop (start.at_is i) (start.text_is i))

  pub listing_start : AtLineOf 1 r
  listing_start = (omega (arith, start.at_is), start.line_is, start.which_is)

  pub listing_no_stated : (e : Refusal) → read_stated n (ahead r) ≡ refused e → read_listing n s ≡ refused e
  unfolding read_listing
  listing_no_stated e u = rw (read_listing, le-ltb listing_length_limit (length s) short) (then_refused _ (ap (read_stated n) (sym whole) ∙ u))

  module _ (m : Measures) (r₁ : LineReader) (stated : Says (read_stated n (ahead r)) stated_by 4 r (Ok m) r₁) where
    stated_is : read_stated n s ≡ value (record { got = stated_by m; rest = ahead r₁ })
    stated_is = ap (read_stated n) (sym whole) ∙ says_read (read_stated n (ahead r)) stated_by 4 r m r₁ stated

    pub listing_no_tree : (e : Refusal) → read_tree n (ahead r₁) ≡ refused e → read_listing n s ≡ refused e
    unfolding read_listing
    listing_no_tree e u = rw (read_listing, le-ltb listing_length_limit (length s) short) (then_value _ stated_is ∙ then_refused _ u)

    pub listing_all : (T : Tree) → read_tree n (ahead r₁) ≡ value T → read_listing n s ≡ value (record { slack = m.slack.0; wire = m.wire.0; tree = T })
    unfolding read_listing
    listing_all T u = rw (read_listing, le-ltb listing_length_limit (length s) short) (then_value _ stated_is ∙ then_value _ u)
