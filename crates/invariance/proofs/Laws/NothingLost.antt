-- "Nothing is lost", as specs/NothingLost states it. Assumes nothing.
use Prim.Native.Nat.{ℕ, ◌*◌, ◌≤◌}
use mathlib.Core.Path.{◌≡◌, sym, ap, ◌∙◌, subst}
use mathlib.Core.Logic.{◌↔◌}
use mathlib.Core.List.{List, []}
use native.Mathlib.Omega.{arith}
use lib.ListN.{length}
use lib.IntN.{pos, ◌*ℤ◌}
use lib.Signed.{◌<ℤ◌}
use Rattle.quantities.proofs.Laws.Rising.{rising_iff, rising_times}
use Rattle.tree.specs.Net.{Net, own_slacks}
use Rattle.tree.specs.Measures.{worst_slack, wire_length}
use Rattle.tree.specs.Kraft.{kraft_maximum}
use Rattle.tree.specs.Settling.{plan}
use Rattle.tree.specs.Theorem1.{Theorem1For}
use Rattle.tree.proofs.Laws.Planning.Theorem1.{theorem_1}
use Rattle.formats.specs.NetText.{InFormat}
use Rattle.formats.specs.ListingText.{Listing}
use Rattle.formats.specs.Outcome.{value, refused}
use Rattle.formats.specs.declared.refusal.Refusal.TheVariants.{Unreachable}
use Rattle.formats.proofs.Laws.Lines.DueTexts.{never}
use Rattle.operations.specs.Answers.{Written, planned, plan_of}
use Rattle.operations.proofs.Laws.Demands.{demands}
use Rattle.invariance.specs.Times.{thousand, times_net, times_tree, times_listing}
use Rattle.invariance.specs.NothingLost.{Scales, AcceptedNet, Multiplied, NothingLost}
use Rattle.invariance.proofs.Laws.Times.{scales, scales_in}
use Rattle.invariance.proofs.Laws.Judged.{judged_times}
use Rattle.invariance.proofs.Laws.Written.{answer_is, listing_is, accepts}

accepted : (net out : List ℕ) (w : Written) → plan_of net (length out) ≡ value w → (N : Net) × ((G : Listing) × AcceptedNet net out N w G)
accepted net out w z =
    let h = (demands.first net [] out).plan_read (λ e r f. never w e (sym z ∙ r)) in
    (h.0, (planned h.0, accepts net out h.0 h.1 w z))

-- refusal 5 is for nets whose Kraft maximum is below their need
below : (net : List ℕ) (N : Net) → InFormat net N → (room : ℕ) → (plan_of net room ≡ refused Unreachable) ↔ (kraft_maximum N.branch (own_slacks N) <ℤ N.need)
below net N F room =
    let D = (demands.third net N F).1.1 in
    let T : Theorem1For N = theorem_1 N F.in_range.branch.0 F.in_range.sinks.0 in
    ((λ z. (T.unreachable N.need).1 ((D.unreachable room).0 z)), λ l. (D.unreachable room).1 ((T.unreachable N.need).0 l))

module _ (k : ℕ) (k1 : 1 ≤ k) (net net' : List ℕ) (N : Net) (F : InFormat net N) (F' : InFormat net' (times_net k N)) where
  S : Scales k N
  S = scales_in k k1 net N F

  planned_times : planned (times_net k N) ≡ times_listing k (planned N)
  planned_times = (λ i. record { slack = worst_slack (times_net k N) (S.planned i); wire = wire_length (times_net k N) (S.planned i); tree = S.planned i })
      ∙ (λ i. record { slack = S.slack (plan N) i; wire = S.wire (plan N) i; tree = times_tree k (plan N) })

  planned_alike : (out out' : List ℕ) (w w' : Written) (G G' : Listing) → AcceptedNet net out N w G → AcceptedNet net' out' (times_net k N) w' G'
      → (G' ≡ times_listing k G) × (w'.slack ≡ w.slack *ℤ pos k) × (w'.wire ≡ w.wire * k)
  planned_alike out out' w w' G G' A A' =
      let e = answer_is net out N F w A.answer in
      let e' = answer_is net' out' (times_net k N) F' w' A'.answer in (
        listing_is net' out' (times_net k N) F' w' A'.answer G' A'.listing ∙ planned_times ∙ ap (times_listing k) (sym (listing_is net out N F w A.answer G A.listing)),
        ap (λ w. w.slack) e' ∙ ap (λ G. G.slack) planned_times ∙ ap (λ w. w.slack *ℤ pos k) (sym e),
        ap (λ w. w.wire) e' ∙ ap (λ G. G.wire) planned_times ∙ ap (λ w. w.wire * k) (sym e),
      )

  unreachable : (room room' : ℕ) → (plan_of net' room' ≡ refused Unreachable) ↔ (plan_of net room ≡ refused Unreachable)
  unreachable room room' =
      let a = below net N F room in
      let b = below net' (times_net k N) F' room' in
      let r = rising_iff (rising_times k k1) (kraft_maximum N.branch (own_slacks N)) N.need in
      ((λ z. a.1 (r.0 (subst (λ s. s <ℤ (N.need *ℤ pos k)) S.best (b.0 z)))), λ z. b.1 (subst (λ s. s <ℤ (N.need *ℤ pos k)) (sym S.best) (r.1 (a.0 z))))

multiplied : (k : ℕ) → 1 ≤ k → Multiplied k
multiplied k k1 = record {
  planned = λ net net' out out' N w w' G G' A A'. planned_alike k k1 net net' N A.in_format A'.in_format out out' w w' G G' A A';
  unreachable = λ net net' N F F'. unreachable k k1 net net' N F F';
  judged = λ net net' listing listing' N G j F F'. judged_times k k1 net net' N F F' listing listing' G j;
}

pub nothing_lost : NothingLost
nothing_lost = record { accepted = accepted; thousandfold = multiplied thousand (omega arith); texts = multiplied; scales = scales }
