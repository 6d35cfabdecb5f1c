-- A text is read as a net, with its weights, exactly when it is in the format; every other text is refused by 1, 2, 3, 4 or 13, at a line that this number may have, and by 13
-- exactly when it tells of a sink too far off. Assumes nothing.
use Prim.Native.Nat.{ℕ, zero, suc, ◌+◌, ◌≤◌, ◌<◌}
use mathlib.Core.Path.{◌≡◌, refl, sym, ap, subst, ◌∙◌}
use mathlib.Core.Logic.{inl, inr}
use mathlib.Core.Bool.{Bool, true, false}
use mathlib.Core.List.{List, [], ◌∷◌, ◌++◌, map, append_assoc, append-nil}
use lib.ListN.{length, get_or, length-map}
use lib.Dec.{ltb}
use lib.IntN.{pos, nat_abs}
use native.Mathlib.Omega.{arith}
use borrow.Author.Tests.{ltb-false, le-ltb}
use Rattle.quantities.specs.Inner.Linear.{whole}
use Rattle.quantities.specs.declared.metal_pair.MetalPair.{MetalPair}
use Rattle.quantities.specs.declared.point.Point.{Point}
use Rattle.quantities.specs.Distance.{distance}
use Rattle.quantities.specs.Ranges.{Within, PointWithin}
use Rattle.tree.specs.Net.{Net, Sink, size, sink_at, required}
use Rattle.tree.specs.Limits.{position_limit, branch_limit, wire_factor_limit, need_limit, sink_limit, required_limit, FactorsInRange, InRange, WeightsInRange}
use Rattle.formats.specs.Limits.{net_length_limit, pin_limit}
use Rattle.formats.specs.Line.{line_text}
use Rattle.formats.specs.Refusals.{told}
use Rattle.formats.specs.Outcome.{Outcome, value, refused, and_then}
use Rattle.formats.specs.Ranges.{around, up_to}
use Rattle.formats.specs.Reading.Lines.{Read, due, ended}
use Rattle.formats.specs.NetText.{root_key, branch_key, wire_key, need_key, sinks_key, WeightedSink, sinks_text, weighted, net_lines, net_text, pin_distance, InFormat, position_ranges, factor_ranges}
use Rattle.formats.specs.Reading.Nets.{Head, metals_of, due_root, due_branch, due_wire, due_need, due_count, read_head, read_sinks, read_rest, WeightedNet, net_with, read_net_lines, read_weighted, read_net}
use Rattle.formats.specs.FirstFar.{FirstFar, FarPinAt}
use Rattle.formats.specs.Inner.Readers.{from_count, from_need, from_wire, from_branch}
use Rattle.formats.specs.declared.refusal.Text.TheVariants.{InNet}
use Rattle.formats.specs.declared.refusal.Refusal.{Refusal}
use Rattle.formats.specs.declared.refusal.Refusal.TheVariants.{TooLong, NotDue, OutOfRange, BytesFollow, FarPin}
use Rattle.formats.proofs.Laws.Lines.Elements.{All, all_at, all_map}
use Rattle.formats.proofs.Laws.Lines.Outcomes.{then_then, then_value, then_refused}
use Rattle.formats.proofs.Laws.Lines.DueTexts.{In, never, LineRefusal, due_cases, number_cases, natural_cases, due_complete, number_complete, natural_complete, natural_of}
use Rattle.formats.proofs.Laws.Nets.Weighing.{sinks_of, weights_in, sinks_length, weights_length, parts_weighted, weighted_sinks, weighted_weights, weighted_length, all_weighted, WeightIn, weights_in_range, weights_all}
use Rattle.formats.proofs.Laws.Nets.SinkTexts.{SinkIn, LineIn, Near, FarAt, sinks_cases, sinks_complete, sinks_far, far_at_lem, at_far}

-- ---- the sinks

-- the sinks of a net, by their numbers
numbered : (N : Net) → All SinkIn N.sinks → (s : ℕ) → 1 ≤ s → s ≤ size N → PointWithin position_limit (sink_at N s) × Within required_limit (required N s)
numbered N h zero p q = absurd (omega arith)
numbered N h (suc i) p q = (
  all_at (PointWithin position_limit) (map (λ k. k.point) N.sinks) (all_map SinkIn (λ k. k.point) (PointWithin position_limit) (λ k w. w.0) N.sinks h) i N.root (rw length-map q),
  all_at (Within required_limit) (map (λ k. k.required) N.sinks) (all_map SinkIn (λ k. k.required) (Within required_limit) (λ k w. w.1) N.sinks h) i (pos 0) (rw length-map q),
)

-- and as a list
listed : (root : Point) (l : List Sink) → ((i : ℕ) → i < length l → PointWithin position_limit (get_or (map (λ k. k.point) l) i root)) → ((i : ℕ) → i < length l → Within required_limit (get_or (map (λ k. k.required) l) i (pos 0))) → All SinkIn l
listed root [] f g = tt
listed root (k ∷ l) f g = ((f 0 (omega arith), g 0 (omega arith)), listed root l (λ i h. f (suc i) (omega arith)) (λ i h. g (suc i) (omega arith)))

pub sinks_in_lem : (N : Net) → InRange N → All SinkIn N.sinks
sinks_in_lem N h = listed N.root N.sinks (λ i p. h.points (suc i) (omega arith) (omega arith)) (λ i p. h.required (suc i) (omega arith) (omega arith))

-- the same of how far they stand from the root
numbered_near : (N : Net) → All (Near N.root) N.sinks → (v : ℕ) → 1 ≤ v → v ≤ size N → pin_distance N v ≤ pin_limit
numbered_near N h zero p q = absurd (omega arith)
numbered_near N h (suc i) p q =
    let Q : Point → Type 0 = λ a. distance N.root a ≤ pin_limit in
    all_at Q (map (λ k. k.point) N.sinks) (all_map (Near N.root) (λ k. k.point) Q (λ k w. w) N.sinks h) i N.root (rw length-map q)

listed_near : (root : Point) (l : List Sink) → ((i : ℕ) → i < length l → distance root (get_or (map (λ k. k.point) l) i root) ≤ pin_limit) → All (Near root) l
listed_near root [] f = tt
listed_near root (k ∷ l) f = (f 0 (omega arith), listed_near root l (λ i h. f (suc i) (omega arith)))

sinks_near : (N : Net) → ((v : ℕ) → 1 ≤ v → v ≤ size N → pin_distance N v ≤ pin_limit) → All (Near N.root) N.sinks
sinks_near N f = listed_near N.root N.sinks (λ i p. f (suc i) (omega arith) (omega arith))

numbered_far : (N : Net) (i : ℕ) → FarAt N.root N.sinks i → FirstFar N (suc i)
numbered_far N i w =
    let h = far_at_lem N.root N.sinks i w in
    record { sink = (omega arith, omega (arith, h.0)); near = before h.1; far = h.2 }
  where
    before : ((j : ℕ) → j < i → distance N.root (get_or (map (λ k. k.point) N.sinks) j N.root) ≤ pin_limit) → (u : ℕ) → 1 ≤ u → u < suc i → pin_distance N u ≤ pin_limit
    before f zero p q = absurd (omega arith)
    before f (suc j) p q = f j (omega arith)

listed_far : (N : Net) (i : ℕ) → FirstFar N (suc i) → FarAt N.root N.sinks i
listed_far N i f = at_far N.root N.sinks i (omega (arith, f.sink.1)) (λ j p. f.near (suc j) (omega arith) (omega arith)) f.far

-- ---- the head

-- the line of the factors
abbrev wire_text : MetalPair → List ℕ
wire_text w = line_text wire_key (pos w.horizontal.0 ∷ (pos w.vertical.0 ∷ []))

-- the first five lines
abbrev head_text : Head → List ℕ → List ℕ
head_text h r =
    line_text root_key (h.root.x ∷ (h.root.y ∷ []))
    ++ (line_text branch_key (pos h.branch ∷ [])
    ++ (wire_text h.wire
    ++ (line_text need_key (h.need ∷ [])
    ++ (line_text sinks_key (pos h.count ∷ [])
    ++ r))))

record HeadIn (h : Head) : Type 0 where
  root : PointWithin position_limit h.root
  branch : (1 ≤ h.branch) × (h.branch ≤ branch_limit)
  wire : FactorsInRange h.wire
  need : Within need_limit h.need
  count : (1 ≤ h.count) × (h.count ≤ sink_limit)

up_to_lem : (k m : ℕ) → In (up_to m) (pos k) → (1 ≤ k) × (k ≤ m)
up_to_lem k m w = (omega (arith, whole, w.0), omega (arith, whole, w.1))

in_up_to : (k m : ℕ) → (1 ≤ k) × (k ≤ m) → In (up_to m) (pos k)
in_up_to k m w = (omega (arith, whole), omega (arith, whole))

wire_cases : {A C : Type 0} (s : List ℕ) (next : Read MetalPair → Outcome A) (o : Outcome A) → and_then (due_wire s) next ≡ o → ((e : Refusal) → LineRefusal InNet 3 e → o ≡ refused e → C)
    → ((w : MetalPair) → FactorsInRange w → (r : List ℕ) → s ≡ wire_text w ++ r → next (record { got = w; rest = r }) ≡ o → C) → C
wire_cases s next o e bad f =
    due_cases InNet 3 wire_key factor_ranges s _ o (sym (then_then (due InNet 3 wire_key factor_ranges s) _ next) ∙ e) bad λ x hx y hy r t u.
    let m : pos (nat_abs x) ≡ x = natural_of x (omega (arith, whole, hx.0)) in
    let n : pos (nat_abs y) ≡ y = natural_of y (omega (arith, whole, hy.0)) in
    f (metals_of (x ∷ (y ∷ []))) (up_to_lem (nat_abs x) wire_factor_limit (rw m hx), up_to_lem (nat_abs y) wire_factor_limit (rw n hy)) r (rw (m, n) t) u

wire_complete : (w : MetalPair) (r : List ℕ) → FactorsInRange w → due_wire (wire_text w ++ r) ≡ value (record { got = w; rest = r })
wire_complete w r h =
    then_value _
    (due_complete InNet 3 wire_key factor_ranges (pos w.horizontal.0 ∷ (pos w.vertical.0 ∷ [])) r (omega arith) (in_up_to w.horizontal.0 wire_factor_limit h.0, (in_up_to w.vertical.0 wire_factor_limit h.1, tt)))

head_cases : {A C : Type 0} (s : List ℕ) (next : Read Head → Outcome A) (o : Outcome A) → and_then (read_head s) next ≡ o → ((l : ℕ) (e : Refusal) → 1 ≤ l → l ≤ 5 → LineRefusal InNet l e → o ≡ refused e → C)
    → ((h : Head) (r : List ℕ) → HeadIn h → s ≡ head_text h r → next (record { got = h; rest = r }) ≡ o → C) → C
head_cases s next o e bad f =
    let line = due InNet 1 root_key position_ranges s in
    let e₁ = sym (then_then (due_root s) (λ root. from_branch root.got root.rest) next) ∙ e in
    due_cases InNet 1 root_key position_ranges s _ o (sym (then_then line _ (λ root. and_then (from_branch root.got root.rest) next)) ∙ e₁) (λ d b u. bad 1 d (omega arith) (omega arith) b u) λ x hx y hy s₁ t₁ u₁.
    let root : Point = record { x = x; y = y } in
    natural_cases InNet 2 branch_key (up_to branch_limit) s₁ (omega (arith, whole)) _ o (sym (then_then (due_branch s₁) (λ c. from_wire root c.got c.rest) next) ∙ u₁) (λ d b u. bad 2 d (omega arith) (omega arith) b u) λ c hc s₂ t₂ u₂.
    wire_cases s₂ _ o (sym (then_then (due_wire s₂) (λ w. from_need root c w.got w.rest) next) ∙ u₂) (λ d b u. bad 3 d (omega arith) (omega arith) b u) λ w hw s₃ t₃ u₃.
    number_cases InNet 4 need_key (around need_limit) s₃ _ o (sym (then_then (due_need s₃) (λ t. from_count root c w t.got t.rest) next) ∙ u₃) (λ d b u. bad 4 d (omega arith) (omega arith) b u) λ t ht s₄ t₄ u₄.
    natural_cases InNet 5 sinks_key (up_to sink_limit) s₄ (omega (arith, whole)) _ o (sym (then_then (due_count s₄) _ next) ∙ u₄) (λ d b u. bad 5 d (omega arith) (omega arith) b u) λ n hn s₅ t₅ u₅.
    let h : Head = record { root = root; branch = c; wire = w; need = t; count = n } in
    let spelled : s ≡ head_text h s₅ = cc in
    f h s₅ (record { root = (hx, hy); branch = up_to_lem c branch_limit hc; wire = hw; need = ht; count = up_to_lem n sink_limit hn }) spelled u₅

head_complete : (h : Head) (r : List ℕ) → HeadIn h → read_head (head_text h r) ≡ value (record { got = h; rest = r })
head_complete h r w =
    then_value (λ root. from_branch root.got root.rest) (then_value _ (due_complete InNet 1 root_key position_ranges (h.root.x ∷ (h.root.y ∷ [])) _ (omega arith) (w.root.0, (w.root.1, tt))))
    ∙ then_value (λ c. from_wire h.root c.got c.rest) (natural_complete InNet 2 branch_key (up_to branch_limit) h.branch _ (in_up_to h.branch branch_limit w.branch))
    ∙ then_value (λ m. from_need h.root h.branch m.got m.rest) (wire_complete h.wire _ w.wire)
    ∙ then_value (λ t. from_count h.root h.branch h.wire t.got t.rest) (number_complete InNet 4 need_key (around need_limit) h.need _ w.need)
    ∙ then_value _ (natural_complete InNet 5 sinks_key (up_to sink_limit) h.count _ (in_up_to h.count sink_limit w.count))

-- ---- the whole text

-- the head of a net's lines that state n sinks, and those lines with what follows them
abbrev head_with : ℕ → Net → Head
head_with n N = record { root = N.root; branch = N.branch; wire = N.wire; need = N.need; count = n }

lines_then : (n : ℕ) (N : Net) (w r : List ℕ) → net_lines n N w ++ r ≡ head_text (head_with n N) (sinks_text (weighted N.sinks w) ++ r)
unfolding net_lines
lines_then n N w r = simp append_assoc

head_in : (n : ℕ) (N : Net) → InRange N → (1 ≤ n) × (n ≤ sink_limit) → HeadIn (head_with n N)
head_in n N h p = record { root = h.root; branch = h.branch; wire = h.wire; need = h.need; count = p }

-- the sinks of some lines in range are, and so are their weights
plain_in : (sinks : List WeightedSink) → All LineIn sinks → All SinkIn (sinks_of sinks)
plain_in sinks h = all_map LineIn (λ s. s.sink) SinkIn (λ s w. w.0) sinks h

in_range : (h : Head) (sinks : List WeightedSink) → HeadIn h → All LineIn sinks → 1 ≤ length sinks → length sinks ≤ sink_limit → InRange (net_with h sinks).net
in_range h sinks w k p q = record {
  root = w.root;
  branch = w.branch;
  wire = w.wire;
  need = w.need;
  sinks = (rw length-map p, rw length-map q);
  points = λ s p q. (numbered (net_with h sinks).net (plain_in sinks k) s p q).0;
  required = λ s p q. (numbered (net_with h sinks).net (plain_in sinks k) s p q).1;
}

weighed : (h : Head) (sinks : List WeightedSink) → All LineIn sinks → WeightsInRange (size (net_with h sinks).net) (weights_in sinks)
weighed h sinks k = weights_in_range _ (weights_in sinks) (weights_length sinks ∙ sym (sinks_length sinks)) (all_map LineIn (λ s. s.weight) WeightIn (λ s w. w.1) sinks k)

-- the text is in the format of the net M with its weights
abbrev pub WeightedFormat : List ℕ → WeightedNet → Type 0
WeightedFormat s M = (f : InFormat s M.net) × (f.weights ≡ M.weights)

-- a text within its length: its lines are those of a net in the format; or it is refused
net_cases : {C : Type 0} (s : List ℕ) → length s ≤ net_length_limit → (o : Outcome WeightedNet) → read_net_lines s ≡ o → ((l : ℕ) (e : Refusal) → 1 ≤ l → l ≤ 5 + sink_limit → LineRefusal InNet l e → o ≡ refused e → C)
    → ((l : ℕ) → 7 ≤ l → l ≤ 6 + sink_limit → o ≡ refused (BytesFollow InNet l) → C) → ((l : ℕ) → FarPinAt s l → o ≡ refused (FarPin l) → C) → ((M : WeightedNet) → WeightedFormat s M → value M ≡ o → C) → C
net_cases s short o e bad long far f =
    head_cases s _ o e (λ l d p q b u. bad l d p (omega arith) b u) λ h s₅ w t₅ u₅.
    let n : ℕ = h.count in
    let e₆ = sym (then_then (read_sinks h.root n 6 s₅) _ (λ sinks. value (net_with h sinks))) ∙ u₅ in
    let spells : (sinks : List WeightedSink) (r : List ℕ) → s₅ ≡ sinks_text sinks ++ r → s ≡ net_lines n (net_with h sinks).net (weights_in sinks) ++ r
    = λ sinks r t. t₅ ∙ ap (head_text h) (t ∙ ap (λ l. sinks_text l ++ r) (sym (parts_weighted sinks))) ∙ sym (lines_then n (net_with h sinks).net (weights_in sinks) r) in
    sinks_cases h.root n 6 s₅ _ o e₆
    (λ j d p q b u. bad j d (omega arith) (omega (arith, w.count)) b u)
    (λ sinks i r k p t₆ g v u.
    far (6 + i) (record {
      net = (net_with h sinks).net;
      weights = weights_in sinks;
      count = n;
      rest = r;
      spelled = spells sinks r t₆;
      in_range = in_range h sinks w g (omega arith) (omega (arith, w.count));
      weighed = weighed h sinks g;
      counted = (omega (arith, sinks_length sinks), w.count.1);
      first_far = rw (sinks_length sinks, k) (numbered_far (net_with h sinks).net i v);
      line_is = omega (arith, sinks_length sinks);
      short = short;
    }) u)
    λ sinks s₆ k t₆ g v u₆.
    let N : Net = (net_with h sinks).net in
    let size_is : length (sinks_of sinks) ≡ n = sinks_length sinks ∙ k in
    ended_then (n + 6) sinks s₆ (λ sinks. net_with h sinks) o u₆ (λ u. long (n + 6) (omega (arith, w.count)) (omega (arith, w.count)) u) λ z u₇.
    let spelled : s ≡ net_text N (weights_in sinks) = spells sinks s₆ t₆ ∙ rw (z, size_is, append-nil) refl in
    f (net_with h sinks) (record { weights = weights_in sinks; spelled = spelled; in_range = in_range h sinks w g (omega (arith, w.count)) (omega (arith, w.count)); weighed = weighed h sinks g; near = numbered_near N v; short = short }, refl) u₇
  where
    ended_then : {A B C : Type 0} (l : ℕ) (a : A) (s : List ℕ) (g : A → B) (o : Outcome B) → and_then (ended InNet l a s) (λ a. value (g a)) ≡ o → (o ≡ refused (BytesFollow InNet l) → C) → (s ≡ [] → value (g a) ≡ o → C) → C
    ended_then l a [] g o e bad f = f refl e
    ended_then l a (c ∷ s) g o e bad f = bad (sym e)

-- "length first"
length_cases : {C : Type 0} (s : List ℕ) (o : Outcome WeightedNet) → read_weighted s ≡ o → (o ≡ refused (TooLong InNet) → C) → (length s ≤ net_length_limit → read_net_lines s ≡ o → C) → C
unfolding read_weighted
length_cases {C = C} s o e bad f = go (ltb net_length_limit (length s)) refl e
  where
    go : (t : Bool) → ltb net_length_limit (length s) ≡ t → elim t [ true ↦ refused (TooLong InNet) | false ↦ read_net_lines s ] ≡ o → C
    go true q w = bad (sym w)
    go false q w = f (ltb-false net_length_limit (length s) q) w

pub weighted_sound : (s : List ℕ) (N : WeightedNet) → read_weighted s ≡ value N → WeightedFormat s N
weighted_sound s N e =
    length_cases s (value N) e (never N (TooLong InNet)) λ short w.
    net_cases s short (value N) w (λ l d p q b u. never N d u) (λ l p q u. never N (BytesFollow InNet l) u) (λ l p u. never N (FarPin l) u) λ M h u.
    let same : M ≡ N = cc in
    subst (WeightedFormat s) same h

pub net_sound : (s : List ℕ) (N : Net) → read_net s ≡ value N → InFormat s N
unfolding read_net
net_sound s N e = go (read_weighted s) refl e
  where
    go : (o : Outcome WeightedNet) → read_weighted s ≡ o → and_then o (λ M. value M.net) ≡ value N → InFormat s N
    go (refused d) q u = never N d (sym u)
    go (value M) q u = let same : M.net ≡ N = cc in subst (InFormat s) same (weighted_sound s M q).0

-- the first five lines of a net in range, with a count in range, are read; then its sinks
lines_read : (N : Net) (w : List ℕ) (n : ℕ) (r : List ℕ) → InRange N → (1 ≤ n) × (n ≤ sink_limit) → read_net_lines (net_lines n N w ++ r) ≡ and_then (read_rest N.root n (sinks_text (weighted N.sinks w) ++ r)) (λ sinks. value (net_with (head_with n N) sinks))
lines_read N w n r h p = ap read_net_lines (lines_then n N w r) ∙ then_value _ (head_complete (head_with n N) (sinks_text (weighted N.sinks w) ++ r) (head_in n N h p))

-- the lines of sinks in range, of weights in range
pub lines_in : (N : Net) (w : List ℕ) → InRange N → WeightsInRange (size N) w → All LineIn (weighted N.sinks w)
lines_in N w h v = all_weighted SinkIn WeightIn N.sinks w v.size (sinks_in_lem N h) (weights_all (size N) w v)

pub weighted_complete : (s : List ℕ) (N : Net) (f : InFormat s N) → read_weighted s ≡ value (record { net = N; weights = f.weights })
unfolding read_weighted
weighted_complete s N f =
    let w = f.weights in
    let e : length w ≡ size N = f.weighed.size in
    let l = weighted N.sinks w in
    let parts : sinks_of l ≡ N.sinks = weighted_sinks N.sinks w e in
    let read : read_sinks N.root (size N) 6 (sinks_text l ++ []) ≡ value (record { got = l; rest = [] })
    = ap (λ (k : ℕ). read_sinks N.root k 6 (sinks_text l ++ [])) (sym (weighted_length N.sinks w e))
    ∙ sinks_complete N.root l 6 [] (lines_in N w f.in_range f.weighed) (subst (All (Near N.root)) (sym parts) (sinks_near N f.near)) in
    rw (read_weighted, le-ltb net_length_limit (length s) f.short)
    (ap read_net_lines (f.spelled ∙ sym (append-nil (net_text N w)))
    ∙ lines_read N w (size N) [] f.in_range f.in_range.sinks
    ∙ ap (λ o. and_then (and_then o (λ sinks. ended InNet (size N + 6) sinks.got sinks.rest)) (λ sinks. value (net_with (head_with (size N) N) sinks))) read
    ∙ (λ i. value (record { net = record { root = N.root; branch = N.branch; wire = N.wire; need = N.need; sinks = parts i }; weights = weighted_weights N.sinks w e i })))

pub net_complete : (s : List ℕ) (N : Net) → InFormat s N → read_net s ≡ value N
unfolding read_net
net_complete s N f = then_value (λ M. value M.net) (weighted_complete s N f)

-- what both readings come to is the same
pub net_of_lem : (s : List ℕ) (M : WeightedNet) → read_weighted s ≡ value M → read_net s ≡ value M.net
unfolding read_net
net_of_lem s M h = then_value (λ M. value M.net) h

pub both_refuse : (s : List ℕ) (e : Refusal) → read_weighted s ≡ refused e → read_net s ≡ refused e
unfolding read_net
both_refuse s e h = then_refused (λ M. value M.net) h

pub refused_both : (s : List ℕ) (e : Refusal) → read_net s ≡ refused e → read_weighted s ≡ refused e
unfolding read_net
refused_both s e h = go (read_weighted s) refl h
  where
    go : (o : Outcome WeightedNet) → read_weighted s ≡ o → and_then o (λ M. value M.net) ≡ refused e → read_weighted s ≡ refused e
    go (value M) q u = never M.net e u
    go (refused d) q u = let v : d ≡ e = cc in q ∙ ap (λ e. refused e) v

pub net_one_lem : (s : List ℕ) (N M : Net) → InFormat s N → InFormat s M → N ≡ M
net_one_lem s N M f g =
    let a : read_net s ≡ value N = net_complete s N f in
    let b : read_net s ≡ value M = net_complete s M g in
    cc

pub weights_one : (s : List ℕ) (N : Net) (f g : InFormat s N) → f.weights ≡ g.weights
weights_one s N f g =
    let M : WeightedNet = record { net = N; weights = f.weights } in
    let K : WeightedNet = record { net = N; weights = g.weights } in
    let e : M ≡ K = value_one M K (sym (weighted_complete s N f) ∙ weighted_complete s N g) in
    ap (λ M. M.weights) e
  where
    value_one : (M K : WeightedNet) → ◌≡◌ {A = Outcome WeightedNet} (value M) (value K) → M ≡ K
    value_one M K e = cc

-- ---- refusals

-- the refusals of a net text: 2 and 3 on one of the at most 5 + 512 lines, 4 on the line after the last, 13 on a sink's line
pub data NetRefusal : Refusal → Type 0 where
  too_long : NetRefusal (TooLong InNet)
  not_due : {l : ℕ} → 1 ≤ l → l ≤ 5 + sink_limit → NetRefusal (NotDue InNet l)
  out_of_range : {l : ℕ} → 1 ≤ l → l ≤ 5 + sink_limit → NetRefusal (OutOfRange InNet l)
  bytes_follow : {l : ℕ} → 7 ≤ l → l ≤ 6 + sink_limit → NetRefusal (BytesFollow InNet l)
  pin_far : {l : ℕ} → 6 ≤ l → l ≤ 5 + sink_limit → NetRefusal (FarPin l)

line_refusal : (e d : Refusal) (k : ℕ) → 1 ≤ k → k ≤ 5 + sink_limit → LineRefusal InNet k d → ◌≡◌ {A = Outcome WeightedNet} (refused e) (refused d) → NetRefusal e
line_refusal e d k p q (inl b) u = let v : e ≡ NotDue InNet k = cc in rw v (not_due p q)
line_refusal e d k p q (inr b) u = let v : e ≡ OutOfRange InNet k = cc in rw v (out_of_range p q)

far_refusal : (s : List ℕ) (l : ℕ) → FarPinAt s l → NetRefusal (FarPin l)
far_refusal s l f = pin_far {l = l} (omega (arith, f.line_is, f.in_range.sinks)) (omega (arith, f.line_is, f.counted))

pub net_refused : (s : List ℕ) (e : Refusal) → read_net s ≡ refused e → NetRefusal e
net_refused s e h =
    length_cases s (refused e) (refused_both s e h) (λ u. let v : e ≡ TooLong InNet = cc in rw v too_long) λ short w.
    net_cases s short (refused e) w
    (λ k d p q b u. line_refusal e d k p q b u)
    (λ k p q u. let v : e ≡ BytesFollow InNet k = cc in rw v (bytes_follow p q))
    (λ k p u. let v : e ≡ FarPin k = cc in rw v (far_refusal s k p))
    λ N f u. never N e u

-- ---- 13 exactly where a sink is too far off

pub far_sound : (s : List ℕ) (l : ℕ) → read_net s ≡ refused (FarPin l) → FarPinAt s l
far_sound s l h =
    length_cases s (refused (FarPin l)) (refused_both s (FarPin l) h) (λ u. other (TooLong InNet) u (omega arith)) λ short w.
    net_cases s short (refused (FarPin l)) w
    (λ k d p q b u. by_line k d b u)
    (λ k p q u. other (BytesFollow InNet k) u (omega arith))
    (λ k p u. let v : k ≡ l = cc in subst (FarPinAt s) v p)
    λ N f u. never N (FarPin l) u
  where
    other : {C : Type 0} (e : Refusal) → ◌≡◌ {A = Outcome WeightedNet} (refused (FarPin l)) (refused e) → (told e).number < 13 → C
    other e u n = let v : FarPin l ≡ e = cc in absurd (omega (arith, ap (λ e. (told e).number) v, n))

    by_line : {C : Type 0} (k : ℕ) (d : Refusal) → LineRefusal InNet k d → ◌≡◌ {A = Outcome WeightedNet} (refused (FarPin l)) (refused d) → C
    by_line k d (inl b) u = other d u (rw b (omega arith))
    by_line k d (inr b) u = other d u (rw b (omega arith))

-- a net in range whose first sink too far off is at place i, with any count that has room for it, and whatever follows its lines
far_read : (s : List ℕ) (N : Net) (ws : List ℕ) (n i : ℕ) (r : List ℕ) → length s ≤ net_length_limit → s ≡ net_lines n N ws ++ r → InRange N → WeightsInRange (size N) ws → n ≤ sink_limit → i < n → FarAt N.root N.sinks i → read_net s ≡ refused (FarPin (6 + i))
unfolding read_weighted
far_read s N ws n i r short spelled h v few p w =
    let far : FarAt N.root (sinks_of (weighted N.sinks ws)) i = subst (λ l. FarAt N.root l i) (sym (weighted_sinks N.sinks ws v.size)) w in
    both_refuse s (FarPin (6 + i))
    (rw (read_weighted, le-ltb net_length_limit (length s) short)
    (ap read_net_lines spelled
    ∙ lines_read N ws n r h (omega arith, few)
    ∙ ap (λ o. and_then (and_then o (λ sinks. ended InNet (n + 6) sinks.got sinks.rest)) (λ sinks. value (net_with (head_with n N) sinks))) (sinks_far N.root (weighted N.sinks ws) i n 6 r p (lines_in N ws h v) far)))

pub far_complete : (s : List ℕ) (l : ℕ) → FarPinAt s l → read_net s ≡ refused (FarPin l)
far_complete s l f = go (size f.net) refl
  where
    go : (m : ℕ) → size f.net ≡ m → read_net s ≡ refused (FarPin l)
    go zero e = absurd (omega (arith, f.in_range.sinks))
    go (suc i) e =
        far_read s f.net f.weights f.count i f.rest f.short f.spelled f.in_range f.weighed f.counted.1 (omega (arith, f.counted.0)) (listed_far f.net i (subst (FirstFar f.net) e f.first_far))
        ∙ ap (λ l. refused (FarPin l)) (omega (arith, f.line_is))

pub far_net : (N : Net) (w : List ℕ) → InRange N → WeightsInRange (size N) w → length (net_text N w) ≤ net_length_limit → (v : ℕ) → FirstFar N v → FarPinAt (net_text N w) (v + 5)
far_net N w h k short zero f = absurd (omega (arith, f.sink.0))
far_net N w h k short (suc i) f =
    far_sound (net_text N w) (suc i + 5)
    (far_read (net_text N w) N w (size N) i [] short (sym (append-nil (net_text N w))) h k h.sinks.1 (omega (arith, f.sink.1)) (listed_far N i f)
    ∙ ap (λ l. refused (FarPin l)) (omega arith))
