-- Plan and judge refuse by 13 exactly the texts with a sink too far from the root: all other rows have lower numbers. Assumes nothing.
use Prim.Native.Nat.{ℕ, ◌≤◌, ◌<◌}
use mathlib.Core.Path.{sym, ◌∙◌}
use mathlib.Core.List.{List}
use native.Mathlib.Omega.{arith}
use Rattle.tree.specs.Net.{size}
use Rattle.formats.specs.Refusals.{told}
use Rattle.formats.specs.FirstFar.{FarPinAt}
use Rattle.formats.specs.Faults.{NetFault}
use Rattle.formats.specs.declared.refusal.Refusal.{Refusal}
use Rattle.formats.specs.declared.refusal.Refusal.TheVariants.{FarPin}
use Rattle.formats.proofs.Laws.Lines.DueTexts.{never}
use Rattle.formats.proofs.Laws.Nets.NetTexts.{net_complete, far_sound, far_complete, far_net}
use Rattle.formats.proofs.Laws.Listings.ListingTexts.{ListingRefusal, listing_refused}
use Rattle.formats.proofs.Laws.Faults.NetFaults.{net_answered}
use Rattle.formats.proofs.Laws.Faults.ListingFaults.{listing_answered}
use Rattle.formats.proofs.Laws.TextLengths.{net_short, net_in_format}
use Rattle.operations.specs.FarPins.{FarPins}
use Rattle.operations.specs.Refusing.{PlanRefuses, JudgeRefuses}
use Rattle.operations.proofs.Laws.Answers.{plan_refused, judge_refused}
use Rattle.operations.proofs.Laws.Refusing.{plan_refuses, judge_refuses}

-- a fault of the net told by 13 is a sink too far off
net_far : (net : List ℕ) (l : ℕ) → NetFault net (FarPin l) → FarPinAt net l
net_far net l f = far_sound net l (((net_answered net).refuses (FarPin l)).1 f)

-- the other rows have lower numbers
abbrev Low : Refusal → Type 0
Low e = (told e).number < 13

listing_low : (n : ℕ) (e : Refusal) → ListingRefusal n e → Low e
listing_low n e ListingRefusal.too_long = omega arith
listing_low n e (ListingRefusal.not_due p q) = omega arith
listing_low n e (ListingRefusal.out_of_range p q) = omega arith
listing_low n e ListingRefusal.bytes_follow = omega arith
listing_low n e ListingRefusal.other_count = omega arith
listing_low n e (ListingRefusal.parent_sink p q) = omega arith

plan_fault : (net : List ℕ) (room : ℕ) (e : Refusal) → PlanRefuses net room e → 13 ≤ (told e).number → NetFault net e
plan_fault net room e (PlanRefuses.in_net f) h = f
plan_fault net room e (PlanRefuses.unreachable N F a) h = absurd (omega arith)
plan_fault net room e (PlanRefuses.too_short N F a l) h = absurd (omega arith)

pub judge_fault : (net listing : List ℕ) (e : Refusal) → JudgeRefuses net listing e → 13 ≤ (told e).number → NetFault net e
judge_fault net listing e (JudgeRefuses.in_net f) h = f
judge_fault net listing e (JudgeRefuses.in_listing N F f) h =
    absurd (omega (arith, listing_low (size N) e (listing_refused (size N) e listing F.in_range.sinks.0 (((listing_answered (size N) listing).refuses e).1 f))))
judge_fault net listing e (JudgeRefuses.wrong_children_lem N G B v W) h = absurd (omega arith)
judge_fault net listing e (JudgeRefuses.not_reached N G B C v L) h = absurd (omega arith)
judge_fault net listing e (JudgeRefuses.other_slack N G B L m) h = absurd (omega arith)
judge_fault net listing e (JudgeRefuses.other_wire N G B L q m) h = absurd (omega arith)

pub far_pins : FarPins
far_pins = record {
  plan_refuses = λ net l f room. plan_refused net (FarPin l) (far_complete net l f) room;
  judge_refuses = λ net l f listing. judge_refused net (FarPin l) (far_complete net l f) listing;
  plan_only = λ net room l h. net_far net l (plan_fault net room (FarPin l) ((plan_refuses net room (FarPin l)).0 h) (omega arith));
  judge_only = λ net listing l h. net_far net l (judge_fault net listing (FarPin l) ((judge_refuses net listing (FarPin l)).0 h) (omega arith));
  near_inside = net_in_format;
  far_told = λ N w h k v f. far_net N w h k (net_short N w h k) v f;
  far_outside = λ net l f N g. never N (FarPin l) (sym (net_complete net N g) ∙ far_complete net l f);
}
