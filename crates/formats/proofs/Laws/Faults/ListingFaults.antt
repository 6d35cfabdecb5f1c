-- The listing of a net of n sinks is refused exactly for its fault, and read exactly where it is in the format and no parent is a sink. Assumes nothing.
use Prim.Native.Nat.{ℕ, zero, suc, ◌+◌, ◌*◌, ◌-◌, ◌≤◌, ◌<◌}
use mathlib.Core.Path.{◌≡◌, refl, sym, ap, subst, ◌∙◌}
use mathlib.Core.Logic.{◌⊎◌, inl, inr}
use mathlib.Core.Bool.{Bool, true, false, ◌&&◌}
use mathlib.Core.List.{List, [], ◌∷◌, ◌++◌}
use lib.ListN.{length}
use lib.Dec.{ltb, leb, eqb}
use lib.IntN.{ℤ, pos, nat_abs}
use lib.Signed.{◌≤ℤ◌}
use native.Mathlib.Omega.{arith}
use borrow.Author.Tests.{ltb-true, ltb-false, lt-ltb, le-ltb, leb-true, leb-false, eqb-true, eqb-false}
use Rattle.quantities.specs.Inner.Linear.{whole, nat_abs_is}
use Rattle.tree.specs.Tree.{Tree}
use Rattle.tree.specs.Limits.{sink_limit, slack_limit, wire_limit}
use Rattle.formats.specs.Limits.{listing_length_limit}
use Rattle.formats.specs.Outcome.{Outcome, value, refused, and_then}
use Rattle.formats.specs.Ranges.{around, up_to, from_zero, at}
use Rattle.formats.specs.Reading.Lines.{Read}
use Rattle.formats.specs.NetText.{wire_key, sinks_key, position_ranges}
use Rattle.formats.specs.ListingText.{Listing, slack_key, leaf_key, node_key, ListingInFormat, NoSinkParent, parent_range}
use Rattle.formats.specs.Reading.Listings.{Stated, due_slack, due_total, same_only, due_same, Vertex, vertex_of, no_sink, due_vertex, due_leaf, due_node, read_vertices, parents_in, points_in, read_tree, read_listing_lines, read_listing}
use Rattle.formats.specs.Inner.ListingReader.{from_same, from_total}
use Rattle.formats.specs.Faults.{count_is, no_sink_lem, Bars, other_count, sink_parent, InRanges, plain, Lines, end, leaf_line, node_line, vertex_lines, lines_of_listing, ListingFault}
use Rattle.formats.specs.TextAnswers.{ListingAnswered}
use Rattle.formats.specs.declared.ranges.Range.{Range}
use Rattle.formats.specs.declared.refusal.Text.TheVariants.{InListing}
use Rattle.formats.specs.declared.refusal.Refusal.{Refusal}
use Rattle.formats.specs.declared.refusal.Refusal.TheVariants.{TooLong, OtherCount, SinkParent}
use Rattle.formats.proofs.Laws.Lines.DueTexts.{never, natural_of}
use Rattle.formats.proofs.Laws.Lines.Outcomes.{same_refusal, then_then}
use Rattle.formats.proofs.Laws.Listings.ListingTexts.{listing_sound, listing_complete, listing_one_lem}
use Rattle.formats.proofs.Laws.Faults.Steps.{asking, Tried, reading_tried, number_tried, natural_tried, for_tried, Asked, bars, passes, asked_tried}
use Rattle.formats.proofs.Laws.Faults.TextFaults.{Told, relined, retold, then_told, ended_told}

-- ---- the line of the count

other : (n l : ℕ) (zs : List ℤ) (e : Refusal) → Bars l zs (count_is n) e → at zs 0 ≡ pos n → ⊥
other n l zs e (other_count h) p = h p

count_asked : (n l : ℕ) (zs : List ℤ) (r : List ℕ) → InRanges (up_to sink_limit ∷ []) zs → Asked {A = Read ℕ} l zs (count_is n) (record { got = nat_abs (at zs 0); rest = r }) (same_only n (record { got = nat_abs (at zs 0); rest = r }))
count_asked n l [] r h = absurd h
count_asked n l (z ∷ zs) r h = go (eqb (nat_abs z) n) refl
  where
    go : (b : Bool) → eqb (nat_abs z) n ≡ b → Asked {A = Read ℕ} l (z ∷ zs) (count_is n) (record { got = nat_abs z; rest = r }) (elim b [ true ↦ value (record { got = nat_abs z; rest = r }) | false ↦ refused OtherCount ])
    go true q = passes (λ e b. other n l (z ∷ zs) e b (sym (natural_of z (omega (arith, whole, h.0.0))) ∙ ap pos (eqb-true (nat_abs z) n q)))
    go false q = bars (other_count (λ p. eqb-false (nat_abs z) n q (ap nat_abs p)))

same_tried : (n : ℕ) (s : List ℕ) → Tried InListing 3 (asking sinks_key [] (up_to sink_limit ∷ []) (count_is n)) s (λ zs. nat_abs (at zs 0)) (due_same n s)
same_tried n s =
    asked_tried InListing 3 sinks_key [] (up_to sink_limit ∷ []) (count_is n) s (λ zs. nat_abs (at zs 0)) (same_only n) (count_asked n 3) _
    (natural_tried InListing 3 sinks_key (up_to sink_limit) s)

-- a count that is in range and the net's own is 1 or more
some_sinks : (n l : ℕ) (zs : List ℤ) → InRanges (up_to sink_limit ∷ []) zs → ((e : Refusal) → Bars l zs (count_is n) e → ⊥) → 1 ≤ n
some_sinks zero l [] h f = absurd h
some_sinks zero l (z ∷ zs) h f = absurd (f OtherCount (other_count (λ p. omega (arith, whole, h.0.0, p))))
some_sinks (suc n) l zs h f = omega arith

-- ---- the lines of the vertices

sink : (n l : ℕ) (zs : List ℤ) (e : Refusal) → Bars l zs (no_sink_lem n) e → (pos 1 ≤ℤ at zs 0) × (at zs 0 ≤ℤ pos n)
sink n l zs e (sink_parent p q) = (p, q)

sink_asked : (n l : ℕ) (gs : List Range) (zs : List ℤ) (r : List ℕ) → InRanges (parent_range n ∷ gs) zs → Asked {A = Read Vertex} l zs (no_sink_lem n) (record { got = vertex_of zs; rest = r }) (no_sink n l (record { got = vertex_of zs; rest = r }))
sink_asked n l gs [] r h = absurd h
sink_asked n l gs (z ∷ zs) r h = go (leb 1 (nat_abs z)) refl (leb (nat_abs z) n) refl
  where
    go : (b : Bool) → leb 1 (nat_abs z) ≡ b → (c : Bool) → leb (nat_abs z) n ≡ c
        → Asked {A = Read Vertex} l (z ∷ zs) (no_sink_lem n) (record { got = vertex_of (z ∷ zs); rest = r }) (elim (b && c) [ true ↦ refused (SinkParent l) | false ↦ value (record { got = vertex_of (z ∷ zs); rest = r }) ])
    go true q true w =
        let low : 1 ≤ nat_abs z = leb-true 1 (nat_abs z) q in
        let high : nat_abs z ≤ n = leb-true (nat_abs z) n w in
        bars (sink_parent {n = n} (omega (arith, whole, nat_abs_is z, h.0.0)) (omega (arith, whole, nat_abs_is z, h.0.0)))
    go true q false w =
        let high : n < nat_abs z = leb-false (nat_abs z) n w in
        passes (λ e b. omega (arith, whole, nat_abs_is z, h.0.0, (sink n l (z ∷ zs) e b).1))
    go false q c w =
        let low : nat_abs z < 1 = leb-false 1 (nat_abs z) q in
        passes (λ e b. omega (arith, whole, nat_abs_is z, h.0.0, (sink n l (z ∷ zs) e b).0))

module _ (key : List ℕ) (gs : List Range) (n : ℕ) where
  vertex_tried : (k : ℕ) (s : List ℕ) → Tried InListing (k + 3) (asking key (pos k ∷ []) (parent_range n ∷ gs) (no_sink_lem n)) s vertex_of (due_vertex key gs n k s)
  vertex_tried k s =
      asked_tried InListing (k + 3) key (pos k ∷ []) (parent_range n ∷ gs) (no_sink_lem n) s vertex_of (no_sink n (k + 3)) (sink_asked n (k + 3) gs) _
      (reading_tried vertex_of (for_tried InListing (k + 3) key k (parent_range n ∷ gs) s (omega arith)))

  vertices_told : {A : Type 0} (j k : ℕ) (L : Lines) (s : List ℕ) (next : Read (List Vertex) → Outcome A) → ((l : List Vertex) (r : List ℕ) → Told InListing L (k + 3 + j) r (next (record { got = l; rest = r })))
      → Told InListing (vertex_lines (λ k. asking key (pos k ∷ []) (parent_range n ∷ gs) (no_sink_lem n)) j k L) (k + 3) s (and_then (read_vertices (due_vertex key gs n) j k s) next)
  vertices_told zero k L s next h = relined (omega arith) (h [] s)
  vertices_told (suc j) k L s next h =
      retold (then_then (due_vertex key gs n k s) _ next)
      (then_told InListing (k + 3) (asking key (pos k ∷ []) (parent_range n ∷ gs) (no_sink_lem n)) s (omega arith) vertex_of _ _ (due_vertex key gs n k s) (vertex_tried k s) λ zs r g.
      retold (then_then (read_vertices (due_vertex key gs n) j (suc k) r) _ next)
      (relined up (vertices_told j (suc k) L r _ λ l q. relined over (h (vertex_of zs ∷ l) q))))
    where
      up : suc k + 3 ≡ suc (k + 3)
      up = omega arith

      over : k + 3 + suc j ≡ suc k + 3 + j
      over = omega arith

-- ---- the whole text

-- what is made of the first three lines and of what is left of the text
abbrev after_stated : ℕ → Read Stated → Outcome Listing
after_stated n stated = and_then (read_tree n stated.rest) λ tree. value (record { slack = stated.got.slack; wire = stated.got.wire; tree = tree })

tree_told : (n : ℕ) (a : Stated) (s : List ℕ) → 1 ≤ n → Told InListing (vertex_lines (leaf_line n) n 1 (vertex_lines (node_line n) (n - 1) (suc n) end)) 4 s (after_stated n (record { got = a; rest = s }))
tree_told n a s least =
    let next : Tree → Outcome Listing = λ tree. value (record { slack = a.slack; wire = a.wire; tree = tree }) in
    retold (then_then (read_vertices (due_leaf n) n 1 s) _ next)
    (vertices_told leaf_key [] n n 1 (vertex_lines (node_line n) (n - 1) (suc n) end) s _ λ leaves s₁.
    relined (omega arith)
    (retold (then_then (read_vertices (due_node n) (n - 1) (suc n) s₁) _ next)
    (vertices_told node_key position_ranges n (n - 1) (suc n) end s₁ _ λ nodes s₂.
    relined (omega arith) (ended_told InListing (2 * n + 3) (record { parents = parents_in leaves ++ parents_in nodes; points = points_in nodes }) s₂ _))))

listing_told : (n : ℕ) (s : List ℕ) → Told InListing (lines_of_listing n) 1 s (read_listing_lines n s)
listing_told n s =
    retold (then_then (due_slack s) (λ slack. from_total n slack.got slack.rest) (after_stated n))
    (then_told InListing 1 (plain slack_key (around slack_limit ∷ [])) s (omega arith) (λ zs. at zs 0) _ _ (due_slack s) (number_tried InListing 1 slack_key (around slack_limit) s) λ slack s₁ g₁.
    retold (then_then (due_total s₁) (λ wire. from_same n (at slack 0) wire.got wire.rest) (after_stated n))
    (then_told InListing 2 (plain wire_key (from_zero wire_limit ∷ [])) s₁ (omega arith) (λ zs. nat_abs (at zs 0)) _ _ (due_total s₁) (natural_tried InListing 2 wire_key (from_zero wire_limit) s₁) λ wire s₂ g₂.
    retold (then_then (due_same n s₂) _ (after_stated n))
    (then_told InListing 3 (asking sinks_key [] (up_to sink_limit ∷ []) (count_is n)) s₂ (omega arith) (λ zs. nat_abs (at zs 0)) _ _ (due_same n s₂) (same_tried n s₂) λ count s₃ g₃.
    tree_told n (record { slack = at slack 0; wire = nat_abs (at wire 0) }) s₃ (some_sinks n 3 count g₃.in_range g₃.not_barred))))

module _ (n : ℕ) (s : List ℕ) where
  listing_found : (e : Refusal) → read_listing n s ≡ refused e → ListingFault n s e
  unfolding read_listing
  listing_found e u = go (ltb listing_length_limit (length s)) refl u
    where
      go : (b : Bool) → ltb listing_length_limit (length s) ≡ b → ◌≡◌ {A = Outcome Listing} (elim b [ true ↦ refused (TooLong InListing) | false ↦ read_listing_lines n s ]) (refused e) → ListingFault n s e
      go true q w = subst (ListingFault n s) (same_refusal {A = Listing} (TooLong InListing) e w) (ListingFault.too_long (ltb-true listing_length_limit (length s) q))
      go false q w = ListingFault.on_line (ltb-false listing_length_limit (length s) q) ((listing_told n s).sound e w)

  listing_only : (e : Refusal) → ListingFault n s e → read_listing n s ≡ refused e
  unfolding read_listing
  listing_only e (ListingFault.too_long h) = rw (read_listing, lt-ltb listing_length_limit (length s) h)
  listing_only e (ListingFault.on_line h f) = rw (read_listing, le-ltb listing_length_limit (length s) h) ((listing_told n s).complete e f)

  listing_either : ((G : Listing) × (ListingInFormat n s G × NoSinkParent n G.tree.parents)) ⊎ ((e : Refusal) × ListingFault n s e)
  listing_either = go (read_listing n s) refl
    where
      go : (o : Outcome Listing) → read_listing n s ≡ o → ((G : Listing) × (ListingInFormat n s G × NoSinkParent n G.tree.parents)) ⊎ ((e : Refusal) × ListingFault n s e)
      go (value G) q = inl (G, listing_sound n s G q)
      go (refused e) q = inr (e, listing_found e q)

  pub listing_answered : ListingAnswered n s
  listing_answered = record {
    refuses = λ e. (listing_found e, listing_only e);
    reads = λ G. (listing_sound n s G, λ h. listing_complete n s G h.0 h.1);
    either = listing_either;
    not_both = λ G e f none g. never G e (sym (listing_complete n s G f none) ∙ listing_only e g);
    one_listing = listing_one_lem n s;
    one_fault = λ e f g h. same_refusal {A = Listing} e f (sym (listing_only e g) ∙ listing_only f h);
  }
