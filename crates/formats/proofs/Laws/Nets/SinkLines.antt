-- The lines of the sinks, read one by one into the places 1 to n of the arrays. Assumes nothing.
use Prim.Native.Nat.{ℕ, zero, suc, ◌+◌, ◌-◌, ◌≤◌, ◌<◌}
use mathlib.Core.Path.{◌≡◌, refl, ap, ap₂, sym, ◌∙◌}
use mathlib.Core.Bool.{true, false}
use mathlib.Core.List.{List, [], ◌∷◌, ◌++◌, map, append_assoc, append-nil, map-append, map-map}
use native.Mathlib.Omega.{arith}
use lib.ListN.{length, drop, set, length-set, drop_of_length-le}
use lib.Seq.{drop-cons, get_or-set_same, get_or-set_other}
use lib.Dec.{ltb}
use lib.IntN.{ℤ, pos}
use Rattle.quantities.specs.declared.point.Point.{Point}
use Rattle.quantities.specs.Distance.{distance}
use Rattle.quantities.specs.Inner.Linear.{up}
use Rattle.tree.specs.declared.header.Header.{Header}
use Rattle.tree.specs.Lists.{range}
use Rattle.tree.specs.Net.{sink_numbers}
use Rattle.tree.specs.Inner.Arrays.{point_at}
use Rattle.tree.proofs.Laws.Lists.Tables.{table_cong}
use Rattle.std.specs.Prelude.{Ok}
use Rattle.formats.specs.Limits.{pin_limit}
use Rattle.formats.specs.Outcome.{Outcome, value, refused, and_then}
use Rattle.formats.specs.Reading.Lines.{Read, reading, due}
use Rattle.formats.specs.NetText.{sink_key, WeightedSink, sink_ranges, point_of}
use Rattle.formats.specs.Reading.Nets.{sink_of, near_only, due_sink, read_sinks, read_rest, net_with}
use Rattle.formats.specs.Inner.Readers.{Place, ReadTo, head_of, after_head, sink_held, sinks_held, net_outcome}
use Rattle.formats.specs.declared.refusal.Text.TheVariants.{InNet}
use Rattle.formats.specs.declared.refusal.Refusal.{Refusal}
use Rattle.formats.specs.declared.refusal.Refusal.TheVariants.{BytesFollow, FarPin}
use Rattle.formats.proofs.Laws.Lines.Outcomes.{then_then, then_value, then_refused, reading_id, reading_reading}

range_snoc : (a k : ℕ) → range a (suc k) ≡ range a k ++ ((a + k) ∷ [])
range_snoc a zero = ap (λ (i : ℕ). i ∷ []) (omega arith)
range_snoc a (suc k) = ap (λ (l : List ℕ). a ∷ l) (range_snoc (suc a) k ∙ ap (λ (i : ℕ). range (suc a) k ++ (i ∷ [])) (omega arith))

-- sinks that are read, before those of the lines after them
abbrev after : List WeightedSink → Outcome (Read (List WeightedSink)) → Outcome (Read (List WeightedSink))
after l o = reading (λ sinks. l ++ sinks) o

-- one sink more in the arrays
module _ (xs ys required weights : List ℤ) (x y a w : ℤ) (k i : ℕ) (e : i ≡ suc k) (px : i < length xs) (py : i < length ys) (pr : i < length required) (pw : i < length weights) where
  held_other : (v : ℕ) → 1 ≤ v → v < 1 + k → sink_held (set xs i x) (set ys i y) (set required i a) (set weights i w) v ≡ sink_held xs ys required weights v
  held_other v p q =
      let d : v ≡ i → ⊥ = λ w. omega arith in
      λ j. record {
        sink = record {
          point = record { x = get_or-set_other xs i v x (pos 0) d j; y = get_or-set_other ys i v y (pos 0) d j };
          required = get_or-set_other required i v a (pos 0) d j;
        };
        weight = up (get_or-set_other weights i v w (pos 0) d j);
      }

  held_same : sink_held (set xs i x) (set ys i y) (set required i a) (set weights i w) i ≡ sink_of (x ∷ (y ∷ (a ∷ (w ∷ []))))
  held_same =
      λ j. record {
        sink = record {
          point = record { x = get_or-set_same xs i x (pos 0) px j; y = get_or-set_same ys i y (pos 0) py j };
          required = get_or-set_same required i a (pos 0) pr j;
        };
        weight = up (get_or-set_same weights i w (pos 0) pw j);
      }

  held_more : sinks_held (set xs i x) (set ys i y) (set required i a) (set weights i w) i ≡ sinks_held xs ys required weights k ++ (sink_of (x ∷ (y ∷ (a ∷ (w ∷ [])))) ∷ [])
  held_more =
      let f = sink_held (set xs i x) (set ys i y) (set required i a) (set weights i w) in
      let u : range 1 i ≡ range 1 k ++ (i ∷ []) = ap (range 1) e ∙ range_snoc 1 k ∙ ap (λ (v : ℕ). range 1 k ++ (v ∷ [])) (omega arith) in
      ap (map f) u ∙ map-append f (range 1 k) (i ∷ []) ∙ ap₂ ◌++◌ (table_cong f (sink_held xs ys required weights) 1 k held_other) (ap (λ (v : WeightedSink). v ∷ []) held_same)

-- ---- the line of a sink, from what its numbers say

module _ (root : Point) (l : ℕ) (s : List ℕ) where
  pub sink_refused : (e : Refusal) → due InNet l sink_key sink_ranges s ≡ refused e → due_sink root l s ≡ refused e
  sink_refused e u = then_refused _ (then_refused _ u)

  module _ (zs : List ℤ) (r : List ℕ) (read : due InNet l sink_key sink_ranges s ≡ value (record { got = zs; rest = r })) where
    tested : due_sink root l s ≡ near_only root l (record { got = sink_of zs; rest = r })
    tested = then_value _ (then_value _ read)

    pub sink_far : ltb pin_limit (distance root (point_of zs)) ≡ true → due_sink root l s ≡ refused (FarPin l)
    sink_far q = tested ∙ rw (near_only, q)

    pub sink_near : ltb pin_limit (distance root (point_of zs)) ≡ false → due_sink root l s ≡ value (record { got = sink_of zs; rest = r })
    sink_near q = tested ∙ rw (near_only, q)

-- ---- the lines of the sinks

-- the sinks before v are read, and the line of v stands at `here`; origin is what stands at place 0
pub record Sinking (root : Point) (n : ℕ) (s : List ℕ) (start : ℕ) (origin : Point) (xs ys required weights : List ℤ) (here : Place) (v : ℕ) : Type 0 where
  pub within : here.at ≤ length s
  pub line_is : here.line ≡ v + 5
  pub some : 1 ≤ v
  pub few : v ≤ n + 1
  pub xs_long : n < length xs
  pub ys_long : n < length ys
  pub required_long : n < length required
  pub weights_long : n < length weights
  pub origin_is : point_at xs ys 0 ≡ origin
  pub reads : read_sinks root n 6 (drop start s) ≡ after (sinks_held xs ys required weights (v - 1)) (read_sinks root (n + 1 - v) (v + 5) (drop here.at s))

pub sinking_start : (root : Point) (n : ℕ) (s : List ℕ) (from : Place) (xs ys required weights : List ℤ) → from.at ≤ length s → from.line ≡ 6 → n < length xs → n < length ys → n < length required → n < length weights → Sinking root n s from.at (point_at xs ys 0) xs ys required weights from 1
sinking_start root n s from xs ys required weights p l px py pr pw =
    let e : n ≡ n + 1 - 1 = omega arith in
    record {
      within = p;
      line_is = l;
      some = omega arith;
      few = omega arith;
      xs_long = px;
      ys_long = py;
      required_long = pr;
      weights_long = pw;
      origin_is = refl;
      reads = ap (λ (k : ℕ). read_sinks root k 6 (drop from.at s)) e ∙ sym (reading_id (read_sinks root (n + 1 - 1) 6 (drop from.at s)));
    }

module _ (root : Point) (n : ℕ) (s : List ℕ) (start : ℕ) (origin : Point) (xs ys required weights : List ℤ) where
  module _ (here : Place) (v : ℕ) (g : Sinking root n s start origin xs ys required weights here v) where
    -- the sinks after those read, and the one of the line at `here`
    abbrev more : Read WeightedSink → Outcome (Read (List WeightedSink))
    more sink = after (sinks_held xs ys required weights (v - 1)) (reading (λ sinks. sink.got ∷ sinks) (read_sinks root (n - v) (suc (v + 5)) sink.rest))

    sinking_due : v ≤ n → read_sinks root n 6 (drop start s) ≡ and_then (due_sink root here.line (drop here.at s)) more
    sinking_due p =
        let e : n + 1 - v ≡ suc (n - v) = omega arith in
        g.reads
        ∙ ap (λ (k : ℕ). after (sinks_held xs ys required weights (v - 1)) (read_sinks root k (v + 5) (drop here.at s))) e
        ∙ then_then (due_sink root (v + 5) (drop here.at s)) _ _
        ∙ ap (λ l. and_then (due_sink root l (drop here.at s)) more) (sym g.line_is)

    pub sinking_refused : v ≤ n → (e : Refusal) → due_sink root here.line (drop here.at s) ≡ refused e → read_rest root n (drop start s) ≡ refused e
    sinking_refused p e r = then_refused _ (sinking_due p ∙ then_refused more r)

    pub sinking_more : v ≤ n → (next : Place) (x y a w : ℤ) → ReadTo (due_sink root here.line (drop here.at s)) (sink_of (x ∷ (y ∷ (a ∷ (w ∷ []))))) s (here.line + 1) next
        → Sinking root n s start origin (set xs v x) (set ys v y) (set required v a) (set weights v w) next (v + 1)
    sinking_more p next x y a w t =
        let k : WeightedSink = sink_of (x ∷ (y ∷ (a ∷ (w ∷ [])))) in
        let m = held_more xs ys required weights x y a w (v - 1) v (omega (arith, g.some)) (omega (arith, g.xs_long)) (omega (arith, g.ys_long)) (omega (arith, g.required_long)) (omega (arith, g.weights_long)) in
        let d : 0 ≡ v → ⊥ = λ w. omega (arith, g.some) in
        let e₁ : n - v ≡ n + 1 - (v + 1) = omega arith in
        let e₂ : suc (v + 5) ≡ v + 1 + 5 = omega arith in
        let e₃ : v ≡ v + 1 - 1 = omega arith in
        let rest = read_sinks root (n - v) (suc (v + 5)) (drop next.at s) in
        record {
          within = t.within;
          line_is = omega (arith, t.line_is, g.line_is);
          some = omega arith;
          few = omega arith;
          xs_long = rw length-set g.xs_long;
          ys_long = rw length-set g.ys_long;
          required_long = rw length-set g.required_long;
          weights_long = rw length-set g.weights_long;
          origin_is = (λ j. record { x = get_or-set_other xs v 0 x (pos 0) d j; y = get_or-set_other ys v 0 y (pos 0) d j }) ∙ g.origin_is;
          reads =
              sinking_due p
              ∙ then_value more t.reads
              ∙ reading_reading (λ sinks. k ∷ sinks) (λ sinks. sinks_held xs ys required weights (v - 1) ++ sinks) rest
              ∙ (λ j. reading (λ sinks. sym (append_assoc (sinks_held xs ys required weights (v - 1)) (k ∷ []) sinks) j) rest)
              ∙ (λ j. after (sym m j) (read_sinks root (e₁ j) (e₂ j) (drop next.at s)))
              ∙ (λ j. after (sinks_held (set xs v x) (set ys v y) (set required v a) (set weights v w) (e₃ j)) (read_sinks root (n + 1 - (v + 1)) (v + 1 + 5) (drop next.at s)));
        }

    -- all lines are read
    all_read : n < v → read_sinks root n 6 (drop start s) ≡ value (record { got = sinks_held xs ys required weights n; rest = drop here.at s })
    all_read p =
        let e : n + 1 - v ≡ 0 = omega arith in
        let d : v - 1 ≡ n = omega (arith, g.few) in
        g.reads
        ∙ ap (λ (k : ℕ). after (sinks_held xs ys required weights (v - 1)) (read_sinks root k (v + 5) (drop here.at s))) e
        ∙ (λ i. value (record { got = append-nil (sinks_held xs ys required weights (d i)) i; rest = drop here.at s }))

    pub sinking_left : n < v → here.at < length s → read_rest root n (drop start s) ≡ refused (BytesFollow InNet here.line)
    sinking_left p q =
        let l : n + 6 ≡ here.line = omega (arith, g.line_is, g.few) in
        then_value _ (all_read p) ∙ rw (drop-cons s here.at 0 q) (ap (λ l. refused (BytesFollow InNet l)) l)

    pub sinking_end : n < v → length s ≤ here.at → read_rest root n (drop start s) ≡ value (sinks_held xs ys required weights n)
    sinking_end p q =
        let f : drop here.at s ≡ [] = drop_of_length-le s q in
        then_value _ (all_read p) ∙ rw f

-- ---- the net

-- the root at place 0
pub root_stored : (p : Point) (xs ys : List ℤ) → 0 < length xs → 0 < length ys → (x y : ℤ) → x ≡ p.x → y ≡ p.y → point_at (set xs 0 x) (set ys 0 y) 0 ≡ p
root_stored p xs ys px py x y ex ey = λ j. record { x = (get_or-set_same xs 0 x (pos 0) px ∙ ex) j; y = (get_or-set_same ys 0 y (pos 0) py ∙ ey) j }

-- what was read of the sinks, with the head
module _ (h : Header) (root : Point) (n : ℕ) (s : List ℕ) where
  pub rest_held : (u : Unit) (xs ys required weights : List ℤ) → point_at xs ys 0 ≡ root → read_rest root n s ≡ value (sinks_held xs ys required weights n) → after_head h root n s ≡ net_outcome h n (Ok u) xs ys required weights
  rest_held u xs ys required weights e w =
      then_value (λ sinks. value (net_with (head_of h root n) sinks)) w
      ∙ (λ i. value (record {
        net = record { root = sym e i; branch = up h.branch.0; wire = h.wire; need = h.need.0; sinks = map-map (λ s. s.sink) (sink_held xs ys required weights) (sink_numbers n) i };
        weights = map-map (λ s. s.weight) (sink_held xs ys required weights) (sink_numbers n) i;
      }))

  pub rest_refused : (e : Refusal) → read_rest root n s ≡ refused e → after_head h root n s ≡ refused e
  rest_refused e w = then_refused (λ sinks. value (net_with (head_of h root n) sinks)) w
