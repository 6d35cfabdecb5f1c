-- A net text is refused exactly for its fault, and read exactly where it is in the format. Assumes nothing.
use Prim.Native.Nat.{ℕ, zero, suc, ◌+◌, ◌<◌}
use mathlib.Core.Path.{◌≡◌, refl, sym, subst, ◌∙◌}
use mathlib.Core.Logic.{◌⊎◌, inl, inr}
use mathlib.Core.Bool.{Bool, true, false}
use mathlib.Core.List.{List, [], ◌∷◌}
use lib.ListN.{length}
use lib.Dec.{ltb}
use lib.IntN.{ℤ, nat_abs}
use native.Mathlib.Omega.{arith}
use borrow.Author.Tests.{ltb-true, ltb-false, lt-ltb, le-ltb}
use Rattle.quantities.specs.declared.point.Point.{Point}
use Rattle.quantities.specs.Distance.{distance}
use Rattle.tree.specs.Net.{Net}
use Rattle.tree.specs.Limits.{branch_limit, need_limit, sink_limit}
use Rattle.formats.specs.Limits.{net_length_limit, pin_limit}
use Rattle.formats.specs.Outcome.{Outcome, value, refused, and_then}
use Rattle.formats.specs.Ranges.{around, up_to, at}
use Rattle.formats.specs.Reading.Lines.{Read}
use Rattle.formats.specs.NetText.{root_key, branch_key, wire_key, need_key, sinks_key, sink_key, position_ranges, factor_ranges, WeightedSink, sink_ranges, point_of, InFormat}
use Rattle.formats.specs.Reading.Nets.{sink_of, near_only, Head, metals_of, due_root, due_branch, due_wire, due_need, due_count, due_sink, read_sinks, read_rest, WeightedNet, net_with, read_net_lines, read_weighted, read_net}
use Rattle.formats.specs.Inner.Readers.{from_count, from_need, from_wire, from_branch}
use Rattle.formats.specs.Faults.{near, Bars, far_pin, plain, end, sink_lines, lines_of_net, NetFault, too_long, on_line}
use Rattle.formats.specs.TextAnswers.{NetAnswered}
use Rattle.formats.specs.declared.refusal.Text.TheVariants.{InNet}
use Rattle.formats.specs.declared.refusal.Refusal.{Refusal}
use Rattle.formats.specs.declared.refusal.Refusal.TheVariants.{TooLong, FarPin}
use Rattle.formats.proofs.Laws.Lines.DueTexts.{never}
use Rattle.formats.proofs.Laws.Lines.Outcomes.{same_refusal, then_then}
use Rattle.formats.proofs.Laws.Nets.NetTexts.{net_sound, net_complete, weighted_complete, both_refuse, refused_both, net_one_lem, weights_one}
use Rattle.formats.proofs.Laws.Faults.Steps.{asking, Tried, reading_tried, due_tried, number_tried, natural_tried, Asked, bars, passes, asked_tried}
use Rattle.formats.proofs.Laws.Faults.TextFaults.{Told, relined, retold, then_told, ended_told}

-- ---- the lines of the sinks

module _ (root : Point) (l : ℕ) where
  far : (zs : List ℤ) (e : Refusal) → Bars l zs (near root) e → pin_limit < distance root (point_of zs)
  far zs e (far_pin h) = h

  near_asked : (zs : List ℤ) (r : List ℕ) → Asked {A = Read WeightedSink} l zs (near root) (record { got = sink_of zs; rest = r }) (near_only root l (record { got = sink_of zs; rest = r }))
  near_asked zs r = go (ltb pin_limit (distance root (point_of zs))) refl
    where
      go : (b : Bool) → ltb pin_limit (distance root (point_of zs)) ≡ b
          → Asked {A = Read WeightedSink} l zs (near root) (record { got = sink_of zs; rest = r }) (elim b [ true ↦ refused (FarPin l) | false ↦ value (record { got = sink_of zs; rest = r }) ])
      go true q = bars (far_pin (ltb-true pin_limit (distance root (point_of zs)) q))
      go false q = passes (λ e b. absurd (omega (arith, far zs e b, ltb-false pin_limit (distance root (point_of zs)) q)))

  sink_tried : (s : List ℕ) → Tried InNet l (asking sink_key [] sink_ranges (near root)) s sink_of (due_sink root l s)
  sink_tried s =
      asked_tried InNet l sink_key [] sink_ranges (near root) s sink_of (near_only root l) (λ zs r h. near_asked zs r) _
      (reading_tried sink_of (due_tried InNet l sink_key sink_ranges s (omega arith)))

sinks_told : {A : Type 0} (root : Point) (k l : ℕ) (s : List ℕ) (next : Read (List WeightedSink) → Outcome A) → ((sinks : List WeightedSink) (r : List ℕ) → Told InNet end (k + l) r (next (record { got = sinks; rest = r })))
    → Told InNet (sink_lines root k) l s (and_then (read_sinks root k l s) next)
sinks_told root zero l s next h = relined (omega arith) (h [] s)
sinks_told root (suc k) l s next h =
    retold (then_then (due_sink root l s) _ next)
    (then_told InNet l (asking sink_key [] sink_ranges (near root)) s (omega arith) sink_of (λ zs. sink_lines root k) _ (due_sink root l s) (sink_tried root l s) λ zs r g.
    retold (then_then (read_sinks root k (suc l) r) _ next)
    (sinks_told root k (suc l) r _ λ sinks q.
    relined (omega arith) (h (sink_of zs ∷ sinks) q)))

-- ---- the head

-- what is made of the head and of what is left of the text
abbrev after_head : Read Head → Outcome WeightedNet
after_head head = and_then (read_rest head.got.root head.got.count head.rest) λ sinks. value (net_with head.got sinks)

rest_told : (h : Head) (s : List ℕ) → Told InNet (sink_lines h.root h.count) 6 s (after_head (record { got = h; rest = s }))
rest_told h s =
    retold (then_then (read_sinks h.root h.count 6 s) _ (λ sinks. value (net_with h sinks)))
    (sinks_told h.root h.count 6 s _ λ sinks r.
    ended_told InNet (h.count + 6) sinks r (net_with h))

-- the head that the numbers of its lines say
abbrev head_of : List ℤ → List ℤ → List ℤ → List ℤ → List ℤ → Head
head_of root branch wire need count = record { root = point_of root; branch = nat_abs (at branch 0); wire = metals_of wire; need = at need 0; count = nat_abs (at count 0) }

net_told : (s : List ℕ) → Told InNet lines_of_net 1 s (read_net_lines s)
net_told s =
    retold (then_then (due_root s) (λ root. from_branch root.got root.rest) after_head)
    (then_told InNet 1 (plain root_key position_ranges) s (omega arith) point_of _ _ (due_root s) (reading_tried point_of (due_tried InNet 1 root_key position_ranges s (omega arith))) λ root s₁ g₁.
    retold (then_then (due_branch s₁) (λ c. from_wire (point_of root) c.got c.rest) after_head)
    (then_told InNet 2 (plain branch_key (up_to branch_limit ∷ [])) s₁ (omega arith) (λ zs. nat_abs (at zs 0)) _ _ (due_branch s₁) (natural_tried InNet 2 branch_key (up_to branch_limit) s₁) λ branch s₂ g₂.
    retold (then_then (due_wire s₂) (λ w. from_need (point_of root) (nat_abs (at branch 0)) w.got w.rest) after_head)
    (then_told InNet 3 (plain wire_key factor_ranges) s₂ (omega arith) metals_of _ _ (due_wire s₂) (reading_tried metals_of (due_tried InNet 3 wire_key factor_ranges s₂ (omega arith))) λ wire s₃ g₃.
    retold (then_then (due_need s₃) (λ t. from_count (point_of root) (nat_abs (at branch 0)) (metals_of wire) t.got t.rest) after_head)
    (then_told InNet 4 (plain need_key (around need_limit ∷ [])) s₃ (omega arith) (λ zs. at zs 0) _ _ (due_need s₃) (number_tried InNet 4 need_key (around need_limit) s₃) λ need s₄ g₄.
    retold (then_then (due_count s₄) _ after_head)
    (then_told InNet 5 (plain sinks_key (up_to sink_limit ∷ [])) s₄ (omega arith) (λ zs. nat_abs (at zs 0)) _ _ (due_count s₄) (natural_tried InNet 5 sinks_key (up_to sink_limit) s₄) λ count s₅ g₅.
    rest_told (head_of root branch wire need count) s₅)))))

-- ---- the whole text

module _ (s : List ℕ) where
  net_found : (e : Refusal) → read_net s ≡ refused e → NetFault s e
  unfolding read_weighted
  net_found e u = go (ltb net_length_limit (length s)) refl (refused_both s e u)
    where
      go : (b : Bool) → ltb net_length_limit (length s) ≡ b → ◌≡◌ {A = Outcome WeightedNet} (elim b [ true ↦ refused (TooLong InNet) | false ↦ read_net_lines s ]) (refused e) → NetFault s e
      go true q w = subst (NetFault s) (same_refusal {A = WeightedNet} (TooLong InNet) e w) (too_long (ltb-true net_length_limit (length s) q))
      go false q w = on_line (ltb-false net_length_limit (length s) q) ((net_told s).sound e w)

  net_only : (e : Refusal) → NetFault s e → read_net s ≡ refused e
  unfolding read_weighted
  net_only e (too_long h) = both_refuse s e (rw (read_weighted, lt-ltb net_length_limit (length s) h))
  net_only e (on_line h f) = both_refuse s e (rw (read_weighted, le-ltb net_length_limit (length s) h) ((net_told s).complete e f))

  net_either : ((N : Net) × InFormat s N) ⊎ ((e : Refusal) × NetFault s e)
  net_either = go (read_net s) refl
    where
      go : (o : Outcome Net) → read_net s ≡ o → ((N : Net) × InFormat s N) ⊎ ((e : Refusal) × NetFault s e)
      go (value N) q = inl (N, net_sound s N q)
      go (refused e) q = inr (e, net_found e q)

  pub net_answered : NetAnswered s
  net_answered = record {
    refuses = λ e. (net_found e, net_only e);
    reads = λ N. (net_sound s N, net_complete s N);
    weighs = weighted_complete s;
    either = net_either;
    not_both = λ N e f g. never N e (sym (net_complete s N f) ∙ net_only e g);
    one_net_lem = net_one_lem s;
    one_weighing = weights_one s;
    one_fault = λ e f g h. same_refusal {A = Net} e f (sym (net_only e g) ∙ net_only f h);
  }
