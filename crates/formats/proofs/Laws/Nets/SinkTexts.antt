-- The lines of the sinks as text: read as sinks in range and near the root, or refused at the first line that is not so, by 2, 3 or 13. Assumes nothing.
use Prim.Native.Nat.{ℕ, zero, suc, ◌+◌, ◌≤◌, ◌<◌}
use mathlib.Core.Path.{◌≡◌, refl, sym, ap, ◌∙◌}
use mathlib.Core.Bool.{Bool, true, false}
use mathlib.Core.List.{List, [], ◌∷◌, ◌++◌, map, append_assoc}
use lib.ListN.{length, get_or}
use lib.Dec.{ltb}
use lib.IntN.{pos}
use native.Mathlib.Omega.{arith}
use borrow.Author.Tests.{ltb-true, ltb-false, lt-ltb, le-ltb}
use Rattle.quantities.specs.declared.point.Point.{Point}
use Rattle.quantities.specs.Distance.{distance}
use Rattle.quantities.specs.Inner.Linear.{up, whole, one_part}
use Rattle.quantities.specs.Ranges.{Within, PointWithin}
use Rattle.tree.specs.Net.{Sink}
use Rattle.tree.specs.Limits.{position_limit, required_limit}
use Rattle.formats.specs.Limits.{pin_limit}
use Rattle.formats.specs.Outcome.{Outcome, value, refused, and_then}
use Rattle.formats.specs.Reading.Lines.{Read, reading, due}
use Rattle.formats.specs.Line.{line_text}
use Rattle.formats.specs.NetText.{sink_key, WeightedSink, sink_text, sinks_text, sink_ranges}
use Rattle.formats.specs.Reading.Nets.{sink_of, near_only, due_sink, read_sinks}
use Rattle.formats.specs.declared.refusal.Text.TheVariants.{InNet}
use Rattle.formats.specs.declared.refusal.Refusal.{Refusal}
use Rattle.formats.specs.declared.refusal.Refusal.TheVariants.{FarPin}
use Rattle.formats.proofs.Laws.Lines.Elements.{All}
use Rattle.formats.proofs.Laws.Lines.Outcomes.{then_then, then_value, then_refused}
use Rattle.formats.proofs.Laws.Lines.DueTexts.{LineRefusal, due_cases, due_complete}
use Rattle.formats.proofs.Laws.Nets.Weighing.{sinks_of, WeightIn}

abbrev pub SinkIn : Sink → Type 0
SinkIn k = PointWithin position_limit k.point × Within required_limit k.required

abbrev pub LineIn : WeightedSink → Type 0
LineIn k = SinkIn k.sink × WeightIn k.weight

abbrev pub Near : Point → Sink → Type 0
Near root k = distance root k.point ≤ pin_limit

-- of the sinks, the one at place i is the first too far off
abbrev pub FarAt : Point → List Sink → ℕ → Type 0
FarAt root [] i = ⊥
FarAt root (k ∷ l) zero = pin_limit < distance root k.point
FarAt root (k ∷ l) (suc i) = Near root k × FarAt root l i

-- ---- the line of one sink

module _ (root : Point) (l : ℕ) where
  sink_cases : {A C : Type 0} (s : List ℕ) (next : Read WeightedSink → Outcome A) (o : Outcome A) → and_then (due_sink root l s) next ≡ o → ((e : Refusal) → LineRefusal InNet l e → o ≡ refused e → C)
      → ((k : WeightedSink) (r : List ℕ) → s ≡ sink_text k ++ r → LineIn k → pin_limit < distance root k.sink.point → o ≡ refused (FarPin l) → C)
      → ((k : WeightedSink) (r : List ℕ) → s ≡ sink_text k ++ r → LineIn k → Near root k.sink → next (record { got = k; rest = r }) ≡ o → C) → C
  sink_cases {C = C} s next o e bad far f =
      let line = due InNet l sink_key sink_ranges s in
      let e₁ = sym (then_then (reading sink_of line) (near_only root l) next) ∙ e in
      due_cases InNet l sink_key sink_ranges s _ o (sym (then_then line _ (λ sink. and_then (near_only root l sink) next)) ∙ e₁) bad λ x hx y hy a ha w hw r t u.
      let k : WeightedSink = sink_of (x ∷ (y ∷ (a ∷ (w ∷ [])))) in
      let e₂ : w ≡ pos (up w) = omega (arith, whole, one_part w, hw.0) in
      cases k r (t ∙ ap (λ w. line_text sink_key (x ∷ (y ∷ (a ∷ (w ∷ [])))) ++ r) e₂) (((hx, hy), ha), (omega (arith, whole, one_part w, hw.0), omega (arith, whole, one_part w, hw.0, hw.1))) (ltb pin_limit (distance root k.sink.point)) refl u
    where
      cases : (k : WeightedSink) (r : List ℕ) → s ≡ sink_text k ++ r → LineIn k → (b : Bool) → ltb pin_limit (distance root k.sink.point) ≡ b
          → and_then (elim b [ true ↦ refused (FarPin l) | false ↦ value (record { got = k; rest = r }) ]) next ≡ o → C
      cases k r t h true q w = far k r t h (ltb-true pin_limit (distance root k.sink.point) q) (sym w)
      cases k r t h false q w = f k r t h (ltb-false pin_limit (distance root k.sink.point) q) w

  module _ (k : WeightedSink) (r : List ℕ) (h : LineIn k) where
    sink_spelled : due_sink root l (sink_text k ++ r) ≡ near_only root l (record { got = k; rest = r })
    sink_spelled =
        then_value (near_only root l)
        (then_value _ (due_complete InNet l sink_key sink_ranges (k.sink.point.x ∷ (k.sink.point.y ∷ (k.sink.required ∷ (pos k.weight ∷ [])))) r (omega arith) (h.0.0.0, (h.0.0.1, (h.0.1, ((omega (arith, whole, h.1.0), omega (arith, whole, h.1.1)), tt))))))

    sink_near : Near root k.sink → due_sink root l (sink_text k ++ r) ≡ value (record { got = k; rest = r })
    sink_near p = sink_spelled ∙ rw (near_only, le-ltb pin_limit (distance root k.sink.point) p)

    sink_far : pin_limit < distance root k.sink.point → due_sink root l (sink_text k ++ r) ≡ refused (FarPin l)
    sink_far p = sink_spelled ∙ rw (near_only, lt-ltb pin_limit (distance root k.sink.point) p)

-- ---- the lines of the sinks

-- a sink before others
abbrev before : WeightedSink → Read (List WeightedSink) → Outcome (Read (List WeightedSink))
before k r = value (record { got = k ∷ r.got; rest = r.rest })

-- k lines more, after the sink of line l
abbrev more_lines : Point → ℕ → ℕ → Read WeightedSink → Outcome (Read (List WeightedSink))
more_lines root k l sink = and_then (read_sinks root k (suc l) sink.rest) (before sink.got)

module _ (root : Point) where
  pub sinks_cases : {A C : Type 0} (k l : ℕ) (s : List ℕ) (next : Read (List WeightedSink) → Outcome A) (o : Outcome A) → and_then (read_sinks root k l s) next ≡ o
      → ((j : ℕ) (e : Refusal) → l ≤ j → j < l + k → LineRefusal InNet j e → o ≡ refused e → C)
      → ((sinks : List WeightedSink) (i : ℕ) (r : List ℕ) → length sinks ≡ suc i → i < k → s ≡ sinks_text sinks ++ r → All LineIn sinks → FarAt root (sinks_of sinks) i → o ≡ refused (FarPin (l + i)) → C)
      → ((sinks : List WeightedSink) (r : List ℕ) → length sinks ≡ k → s ≡ sinks_text sinks ++ r → All LineIn sinks → All (Near root) (sinks_of sinks) → next (record { got = sinks; rest = r }) ≡ o → C) → C
  sinks_cases zero l s next o e bad far f = f [] s refl refl tt tt e
  sinks_cases (suc k) l s next o e bad far f =
      sink_cases root l s _ o (sym (then_then (due_sink root l s) (more_lines root k l) next) ∙ e)
      (λ d b u. bad l d (omega arith) (omega arith) b u)
      (λ p r t h w u. far (p ∷ []) 0 r refl (omega arith) (rw append_assoc t) (h, tt) w (u ∙ ap (λ m. refused (FarPin m)) (omega arith)))
      λ p r t h w e₁.
      sinks_cases k (suc l) r _ o (sym (then_then (read_sinks root k (suc l) r) (before p) next) ∙ e₁)
      (λ j d a b c u. bad j d (omega arith) (omega arith) c u)
      (λ sinks i q n a u g v z. far (p ∷ sinks) (suc i) q (ap suc n) (omega arith) (rw append_assoc (t ∙ rw u)) (h, g) (w, v) (z ∙ ap (λ m. refused (FarPin m)) (omega arith)))
      λ sinks q n u g v e₂.
      f (p ∷ sinks) q (ap suc n) (rw append_assoc (t ∙ rw u)) (h, g) (w, v) e₂

  pub sinks_complete : (sinks : List WeightedSink) (l : ℕ) (r : List ℕ) → All LineIn sinks → All (Near root) (sinks_of sinks) → read_sinks root (length sinks) l (sinks_text sinks ++ r) ≡ value (record { got = sinks; rest = r })
  sinks_complete [] l r h w = refl
  sinks_complete (k ∷ sinks) l r h w =
      rw append_assoc
      (then_value (more_lines root (length sinks) l) (sink_near root l k (sinks_text sinks ++ r) h.0 w.0)
      ∙ then_value (before k) (sinks_complete sinks (suc l) r h.1 w.1))

  pub sinks_far : (sinks : List WeightedSink) (i k l : ℕ) (r : List ℕ) → i < k → All LineIn sinks → FarAt root (sinks_of sinks) i → read_sinks root k l (sinks_text sinks ++ r) ≡ refused (FarPin (l + i))
  sinks_far [] i k l r p h w = absurd w
  sinks_far (a ∷ sinks) i zero l r p h w = absurd (omega arith)
  sinks_far (a ∷ sinks) zero (suc k) l r p h w =
      rw append_assoc (then_refused (more_lines root k l) (sink_far root l a (sinks_text sinks ++ r) h.0 w) ∙ ap (λ m. refused (FarPin m)) (omega arith))
  sinks_far (a ∷ sinks) (suc i) (suc k) l r p h w =
      rw append_assoc
      (then_value (more_lines root k l) (sink_near root l a (sinks_text sinks ++ r) h.0 w.0)
      ∙ then_refused (before a) (sinks_far sinks i k (suc l) r (omega arith) h.1 w.1)
      ∙ ap (λ m. refused (FarPin m)) (omega arith))

-- ---- the first sink too far off, by places in the list of positions

module _ (root : Point) where
  pub far_at_lem : (l : List Sink) (i : ℕ) → FarAt root l i → (i < length l) × ((j : ℕ) → j < i → distance root (get_or (map (λ k. k.point) l) j root) ≤ pin_limit) × (pin_limit < distance root (get_or (map (λ k. k.point) l) i root))
  far_at_lem [] i w = absurd w
  far_at_lem (k ∷ l) zero w = (omega arith, (λ j p. absurd (omega arith)), w)
  far_at_lem (k ∷ l) (suc i) w = let h = far_at_lem l i w.1 in (omega (arith, h.0), before w.0 h.1, h.2)
    where
      before : Near root k → ((j : ℕ) → j < i → distance root (get_or (map (λ k. k.point) l) j root) ≤ pin_limit) → (j : ℕ) → j < suc i → distance root (get_or (map (λ k. k.point) (k ∷ l)) j root) ≤ pin_limit
      before n f zero p = n
      before n f (suc j) p = f j (omega arith)

  pub at_far : (l : List Sink) (i : ℕ) → i < length l → ((j : ℕ) → j < i → distance root (get_or (map (λ k. k.point) l) j root) ≤ pin_limit) → pin_limit < distance root (get_or (map (λ k. k.point) l) i root) → FarAt root l i
  at_far [] i p f w = absurd (omega arith)
  at_far (k ∷ l) zero p f w = w
  at_far (k ∷ l) (suc i) p f w = (f 0 (omega arith), at_far l i (omega arith) (λ j q. f (suc j) (omega arith)) w)
