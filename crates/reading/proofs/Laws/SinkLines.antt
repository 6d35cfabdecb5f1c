-- The lines of the sinks, read one by one into the places 1 to n of the arrays. Assumes nothing.
use Prim.Native.Nat.{ℕ, zero, suc, ◌+◌, ◌-◌, ◌≤◌, ◌<◌}
use mathlib.Core.Path.{◌≡◌, refl, ap, ap₂, sym, ◌∙◌}
use mathlib.Core.Bool.{Bool, true, false, cond}
use mathlib.Core.List.{List, [], ◌∷◌, ◌++◌, map, append_assoc, append-nil, map-append, map-map}
use native.Mathlib.Omega.{arith}
use lib.ListN.{length, drop, set, length-set, drop_of_length-le}
use lib.Seq.{drop-cons, get_or-set_same, get_or-set_other}
use lib.Dec.{ltb}
use lib.IntN.{ℤ, pos}
use borrow.Author.Tests.{ltb-true, ltb-false}
use Rattle.std.specs.Prelude.{Result, Ok, Err}
use Rattle.quantities.specs.declared.point.Point.{Point}
use Rattle.quantities.specs.Inner.Linear.{up}
use Rattle.tree.specs.declared.header.Header.{Header}
use Rattle.tree.specs.Lists.{range}
use Rattle.tree.specs.Net.{sink_numbers}
use Rattle.tree.specs.Inner.Arrays.{point_at}
use Rattle.tree.proofs.Laws.Lists.Tables.{table_cong}
use Rattle.formats.specs.Outcome.{Outcome, value, refused, and_then}
use Rattle.formats.specs.Reading.Lines.{Read, reading}
use Rattle.formats.specs.NetText.{WeightedSink}
use Rattle.formats.specs.Reading.Nets.{sink_of, due_sink, read_sinks, read_rest, net_with}
use Rattle.formats.specs.Inner.Readers.{ahead, AtSinks, head_of, after_head, sink_held, sinks_held, net_outcome}
use Rattle.formats.specs.declared.reader.LineReader.{LineReader}
use Rattle.formats.specs.declared.read_net.NetHead.{NetHead}
use Rattle.formats.specs.declared.refusal.Text.TheVariants.{InNet}
use Rattle.formats.specs.declared.refusal.Refusal.{Refusal}
use Rattle.formats.specs.declared.refusal.Refusal.TheVariants.{BytesFollow}
use Rattle.formats.proofs.Laws.Lines.Outcomes.{then_then, then_value, then_refused, reading_id, reading_reading}
use Rattle.reading.specs.Inner.Sinks.{SinkStored}

range_snoc : (a k : ℕ) → range a (suc k) ≡ range a k ++ ((a + k) ∷ [])
range_snoc a zero = ap (λ (i : ℕ). i ∷ []) (omega arith)
range_snoc a (suc k) = ap (λ (l : List ℕ). a ∷ l) (range_snoc (suc a) k ∙ ap (λ (i : ℕ). range (suc a) k ++ (i ∷ [])) (omega arith))

-- sinks that are read, before those of the lines after them
abbrev after : List WeightedSink → Outcome (Read (List WeightedSink)) → Outcome (Read (List WeightedSink))
after l o = reading (λ sinks. l ++ sinks) o

-- one sink more in the arrays
module _ (xs ys required weights : List ℤ) (x y a w : ℤ) (k i : ℕ) (e : i ≡ suc k) (px : i < length xs) (py : i < length ys) (pr : i < length required) (pw : i < length weights) where
  held_other : (v : ℕ) → 1 ≤ v → v < 1 + k → sink_held (set xs i x) (set ys i y) (set required i a) (set weights i w) v ≡ sink_held xs ys required weights v
  held_other v p q =
      let d : v ≡ i → ⊥ = λ w. omega arith in
      λ j. record {
        sink = record {
          point = record { x = get_or-set_other xs i v x (pos 0) d j; y = get_or-set_other ys i v y (pos 0) d j };
          required = get_or-set_other required i v a (pos 0) d j;
        };
        weight = up (get_or-set_other weights i v w (pos 0) d j);
      }

  held_same : sink_held (set xs i x) (set ys i y) (set required i a) (set weights i w) i ≡ sink_of (x ∷ (y ∷ (a ∷ (w ∷ []))))
  held_same =
      λ j. record {
        sink = record {
          point = record { x = get_or-set_same xs i x (pos 0) px j; y = get_or-set_same ys i y (pos 0) py j };
          required = get_or-set_same required i a (pos 0) pr j;
        };
        weight = up (get_or-set_same weights i w (pos 0) pw j);
      }

  held_more : sinks_held (set xs i x) (set ys i y) (set required i a) (set weights i w) i ≡ sinks_held xs ys required weights k ++ (sink_of (x ∷ (y ∷ (a ∷ (w ∷ [])))) ∷ [])
  held_more =
      let f = sink_held (set xs i x) (set ys i y) (set required i a) (set weights i w) in
      let u : range 1 i ≡ range 1 k ++ (i ∷ []) = ap (range 1) e ∙ range_snoc 1 k ∙ ap (λ (v : ℕ). range 1 k ++ (v ∷ [])) (omega arith) in
      ap (map f) u ∙ map-append f (range 1 k) (i ∷ []) ∙ ap₂ ◌++◌ (table_cong f (sink_held xs ys required weights) 1 k held_other) (ap (λ (v : WeightedSink). v ∷ []) held_same)

-- ---- the lines of the sinks

-- sink i comes next, as the reader r does, after `done` sinks of u, the text after the head; origin is what stands at place 0
pub record Sinking (root : Point) (n : ℕ) (u : List ℕ) (origin : Point) (xs ys required weights : List ℤ) (r : LineReader) (i : ℕ) : Type 0 where
  pub done : ℕ
  pub next_is : i ≡ done + 1
  pub few : done ≤ n
  pub which_is : r.which ≡ InNet
  pub within : r.at ≤ length r.text.now
  pub line_is : r.line ≡ 6 + done
  pub xs_long : n < length xs
  pub ys_long : n < length ys
  pub required_long : n < length required
  pub weights_long : n < length weights
  pub origin_is : point_at xs ys 0 ≡ origin
  pub reads : read_sinks root n 6 u ≡ after (sinks_held xs ys required weights done) (read_sinks root (n - done) (6 + done) (ahead r))

module _ (most : ℕ) (head : NetHead) where
  abbrev n : ℕ
  n = head.n

  pub sinking_start : AtSinks most head → (xs ys required weights : List ℤ) → n < length xs → n < length ys → n < length required → n < length weights → point_at xs ys 0 ≡ head.root → Sinking head.root n (ahead head.sinks) head.root xs ys required weights head.sinks 1
  sinking_start h xs ys required weights px py pr pw root =
      let e : n ≡ n - 0 = omega arith in
      record {
        done = 0;
        next_is = refl;
        few = omega arith;
        which_is = h.which_is;
        within = h.within;
        line_is = h.line_is;
        xs_long = px;
        ys_long = py;
        required_long = pr;
        weights_long = pw;
        origin_is = root;
        reads = ap (λ (k : ℕ). read_sinks head.root k 6 (ahead head.sinks)) e ∙ sym (reading_id (read_sinks head.root (n - 0) 6 (ahead head.sinks)));
      }

module _ (root : Point) (n : ℕ) (u : List ℕ) (origin : Point) (xs ys required weights : List ℤ) (r : LineReader) (i : ℕ) (g : Sinking root n u origin xs ys required weights r i) where
  -- the sinks after those read, and the one of the line that comes next
  abbrev more : Read WeightedSink → Outcome (Read (List WeightedSink))
  more sink = after (sinks_held xs ys required weights g.done) (reading (λ sinks. sink.got ∷ sinks) (read_sinks root (n - suc g.done) (suc (6 + g.done)) sink.rest))

  sinking_due : i ≤ n → read_sinks root n 6 u ≡ and_then (due_sink root r.line (ahead r)) more
  sinking_due p =
      let e : n - g.done ≡ suc (n - suc g.done) = omega (arith, g.next_is) in
      g.reads
      ∙ ap (λ (k : ℕ). after (sinks_held xs ys required weights g.done) (read_sinks root k (6 + g.done) (ahead r))) e
      ∙ then_then (due_sink root (6 + g.done) (ahead r)) _ _
      ∙ ap (λ l. and_then (due_sink root l (ahead r)) more) (sym g.line_is)

  pub sinking_refused : i ≤ n → (e : Refusal) → due_sink root r.line (ahead r) ≡ refused e → read_rest root n u ≡ refused e
  sinking_refused p e q = then_refused _ (sinking_due p ∙ then_refused more q)

  pub sinking_more : i ≤ n → (r' : LineReader) (xs' ys' required' weights' : List ℤ) → SinkStored root r i xs ys required weights r' xs' ys' required' weights' → Sinking root n u origin xs' ys' required' weights' r' (i + 1)
  sinking_more p r' xs' ys' required' weights' t = go t.x t.y t.a t.w t.read_to.reads t.xs_is t.ys_is t.required_is t.weights_is
    where
      go : (x y a w : ℤ) → due_sink root r.line (ahead r) ≡ value (record { got = sink_of (x ∷ (y ∷ (a ∷ (w ∷ [])))); rest = drop r'.at r.text.now }) → xs' ≡ set xs i x → ys' ≡ set ys i y → required' ≡ set required i a → weights' ≡ set weights i w → Sinking root n u origin xs' ys' required' weights' r' (i + 1)
      go x y a w e ex ey er ew =
          let k : WeightedSink = sink_of (x ∷ (y ∷ (a ∷ (w ∷ [])))) in
          let m = held_more xs ys required weights x y a w g.done i (omega (arith, g.next_is)) (omega (arith, g.xs_long)) (omega (arith, g.ys_long)) (omega (arith, g.required_long)) (omega (arith, g.weights_long)) in
          let d : 0 ≡ i → ⊥ = λ w. omega (arith, g.next_is) in
          let e₁ : n - suc g.done ≡ n - i = omega (arith, g.next_is) in
          let e₂ : suc (6 + g.done) ≡ 6 + i = omega (arith, g.next_is) in
          let rest = read_sinks root (n - suc g.done) (suc (6 + g.done)) (drop r'.at r.text.now) in
          rw (ex, ey, er, ew) (record {
            done = i;
            next_is = refl;
            few = p;
            which_is = t.same.0 ∙ g.which_is;
            within = omega (arith, t.read_to.within, ap length t.same.1);
            line_is = omega (arith, t.read_to.line_is, g.line_is, g.next_is);
            xs_long = rw length-set g.xs_long;
            ys_long = rw length-set g.ys_long;
            required_long = rw length-set g.required_long;
            weights_long = rw length-set g.weights_long;
            origin_is = (λ j. record { x = get_or-set_other xs i 0 x (pos 0) d j; y = get_or-set_other ys i 0 y (pos 0) d j }) ∙ g.origin_is;
            reads =
                sinking_due p
                ∙ then_value more e
                ∙ reading_reading (λ sinks. k ∷ sinks) (λ sinks. sinks_held xs ys required weights g.done ++ sinks) rest
                ∙ (λ j. reading (λ sinks. sym (append_assoc (sinks_held xs ys required weights g.done) (k ∷ []) sinks) j) rest)
                ∙ (λ j. after (sym m j) (read_sinks root (e₁ j) (e₂ j) (drop r'.at (sym t.same.1 j))));
          })

  -- all lines are read
  all_read : n < i → read_sinks root n 6 u ≡ value (record { got = sinks_held xs ys required weights n; rest = ahead r })
  all_read p =
      let e : n - g.done ≡ 0 = omega (arith, g.next_is) in
      let d : g.done ≡ n = omega (arith, g.few, g.next_is) in
      g.reads
      ∙ ap (λ (k : ℕ). after (sinks_held xs ys required weights g.done) (read_sinks root k (6 + g.done) (ahead r))) e
      ∙ (λ j. value (record { got = append-nil (sinks_held xs ys required weights (d j)) j; rest = ahead r }))

-- ---- the net

-- the root at place 0
pub root_stored : (p : Point) (xs ys : List ℤ) → 0 < length xs → 0 < length ys → (x y : ℤ) → x ≡ p.x → y ≡ p.y → point_at (set xs 0 x) (set ys 0 y) 0 ≡ p
root_stored p xs ys px py x y ex ey = λ j. record { x = (get_or-set_same xs 0 x (pos 0) px ∙ ex) j; y = (get_or-set_same ys 0 y (pos 0) py ∙ ey) j }

-- what the reader of the sinks tells, at the end of their lines
module _ (h : Header) (root : Point) (n : ℕ) (u : List ℕ) where
  rest_held : (xs ys required weights : List ℤ) → point_at xs ys 0 ≡ root → read_rest root n u ≡ value (sinks_held xs ys required weights n) → after_head h root n u ≡ net_outcome h n (Ok tt) xs ys required weights
  rest_held xs ys required weights e w =
      then_value (λ sinks. value (net_with (head_of h root n) sinks)) w
      ∙ (λ i. value (record {
        net = record { root = sym e i; branch = up h.branch.0; wire = h.wire; need = h.need.0; sinks = map-map (λ s. s.sink) (sink_held xs ys required weights) (sink_numbers n) i };
        weights = map-map (λ s. s.weight) (sink_held xs ys required weights) (sink_numbers n) i;
      }))

  pub rest_refused : (e : Refusal) → read_rest root n u ≡ refused e → after_head h root n u ≡ refused e
  rest_refused e w = then_refused (λ sinks. value (net_with (head_of h root n) sinks)) w

  module _ (xs ys required weights : List ℤ) (r : LineReader) (i : ℕ) (g : Sinking root n u root xs ys required weights r i) (past : n < i) where
    pub rest_told : (result : Result Unit Refusal) → result ≡ cond (ltb r.at (length r.text.now)) (Err (BytesFollow r.which r.line)) (Ok tt) → after_head h root n u ≡ net_outcome h n result xs ys required weights
    rest_told result e = go (ltb r.at (length r.text.now)) refl result e
      where
        go : (b : Bool) → ltb r.at (length r.text.now) ≡ b → (result : Result Unit Refusal) → result ≡ cond b (Err (BytesFollow r.which r.line)) (Ok tt) → after_head h root n u ≡ net_outcome h n result xs ys required weights
        go true q result e =
            let b : r.at < length r.text.now = ltb-true _ _ q in
            let l : n + 6 ≡ r.line = omega (arith, g.line_is, g.few, g.next_is) in
            rw e (rest_refused _ (then_value _ (all_read root n u root xs ys required weights r i g past) ∙ rw (drop-cons r.text.now r.at 0 b) (λ j. refused (BytesFollow (sym g.which_is j) (l j)))))
        go false q result e =
            let b : length r.text.now ≤ r.at = ltb-false _ _ q in
            let f : ahead r ≡ [] = drop_of_length-le r.text.now b in
            rw e (rest_held xs ys required weights g.origin_is (then_value _ (all_read root n u root xs ys required weights r i g past) ∙ rw f))
