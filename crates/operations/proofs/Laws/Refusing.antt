-- Plan and judge refuse exactly for the reasons of specs/Refusing: what was read is refused by the later rows alone. Assumes nothing.
use Prim.Native.Nat.{ℕ}
use mathlib.Core.Path.{◌≡◌, refl, sym, ap, subst, ◌∙◌}
use mathlib.Core.Logic.{◌↔◌, ◌≢◌}
use mathlib.Core.List.{List}
use Rattle.std.specs.Prelude.{None}
use native.Mathlib.Omega.{arith}
use lib.Signed.{◌<ℤ◌}
use Rattle.quantities.specs.Inner.Linear.{whole}
use Rattle.tree.specs.Net.{Net, size}
use Rattle.tree.specs.Tree.{LegalTree}
use Rattle.tree.specs.Measures.{worst_slack, wire_length}
use Rattle.tree.specs.Defects.{wrong_children, RightChildren, WrongChildrenAt, LowestUnreached}
use Rattle.tree.specs.Settling.{plan}
use Rattle.tree.specs.Theorem1.{Theorem1For}
use Rattle.tree.proofs.Laws.Trees.Defects.{Read}
use Rattle.tree.proofs.Laws.Trees.NamedDefects.{right_children, wrong_children_lem, all_reached, lowest_unreached, legal_if}
use Rattle.tree.proofs.Laws.Planning.Theorem1.{theorem_1}
use Rattle.formats.specs.Outcome.{Outcome, value, refused, and_then}
use Rattle.formats.specs.NetText.{InFormat}
use Rattle.formats.specs.Reading.Nets.{read_net}
use Rattle.formats.specs.ListingText.{Listing}
use Rattle.formats.specs.Reading.Listings.{read_listing}
use Rattle.formats.specs.declared.refusal.Refusal.{Refusal}
use Rattle.formats.specs.declared.refusal.Refusal.TheVariants.{Unreachable, TooShort, WrongChildren, NotReached, OtherSlack, OtherWire}
use Rattle.formats.proofs.Laws.Lines.DueTexts.{never}
use Rattle.formats.proofs.Laws.Lines.Outcomes.{same_refusal, then_value, then_refused}
use Rattle.formats.proofs.Laws.Nets.NetTexts.{net_sound, net_complete}
use Rattle.formats.proofs.Laws.Listings.ListingTexts.{listing_sound, listing_complete}
use Rattle.formats.proofs.Laws.Faults.NetFaults.{net_answered}
use Rattle.formats.proofs.Laws.Faults.ListingFaults.{listing_answered}
use Rattle.operations.specs.Accepting.{vertex_line, accept_tree, accept_listing}
use Rattle.operations.specs.Answers.{plan_net, plan_of, judgement, judge_of}
use Rattle.operations.specs.Refusing.{NeedUnreachable, PlanRefuses, BothRead, JudgeRefuses}
use Rattle.operations.specs.Inner.Acceptance.{judge_net}
use Rattle.operations.proofs.Laws.Accepting.{true_cases, slack_false, wire_false, tree_cases, read_shape, legal_accepted}
use Rattle.operations.proofs.Laws.Answers.{plan_refused, judge_refused, plan_written, Ends, unreachable, short, written, ends}
use Rattle.operations.proofs.Laws.Judging.{judge_read, wrong_refused, lost_refused}

-- ---- plan

module _ (net : List ℕ) (N : Net) (F : InFormat net N) where
  T : Theorem1For N
  T = theorem_1 N F.in_range.branch.0 F.in_range.sinks.0

  -- plan, once the net is read
  pub plan_is : (room : ℕ) → plan_of net room ≡ plan_net N room
  unfolding plan_of
  plan_is room = ap (λ o. and_then o (λ N. plan_net N room)) (net_complete net N F)

  -- the planned tree falls short exactly where every tree does
  pub none_reaches : worst_slack N (plan N) <ℤ N.need → NeedUnreachable N
  none_reaches h = (T.unreachable N.need).0 (subst (λ w. w <ℤ N.need) T.attained h)

  pub plan_short : NeedUnreachable N → worst_slack N (plan N) <ℤ N.need
  plan_short all = all (plan N) T.legal

  net_refuses : (room : ℕ) (e : Refusal) → plan_net N room ≡ refused e → PlanRefuses net room e
  net_refuses room e h = go (ends N room)
    where
      go : Ends N room → PlanRefuses net room e
      go (unreachable p f) = subst (PlanRefuses net room) (same_refusal Unreachable e (sym f ∙ h)) (PlanRefuses.unreachable N F (none_reaches p))
      go (short p l f) =
          subst (PlanRefuses net room) (same_refusal TooShort e (sym f ∙ h))
          (PlanRefuses.too_short N F (λ all. let w : worst_slack N (plan N) <ℤ N.need = plan_short all in absurd (omega (arith, whole))) l)
      go (written p l f) = never (plan_written N) e (sym f ∙ h)

module _ (net : List ℕ) (room : ℕ) where
  plan_sound : (e : Refusal) → plan_of net room ≡ refused e → PlanRefuses net room e
  unfolding plan_of
  plan_sound e h = go (read_net net) refl h
    where
      go : (o : Outcome Net) → read_net net ≡ o → and_then o (λ N. plan_net N room) ≡ refused e → PlanRefuses net room e
      go (value N) r w = net_refuses net N (net_sound net N r) room e w
      go (refused d) r w = subst (PlanRefuses net room) (same_refusal d e w) (PlanRefuses.in_net (((net_answered net).refuses d).0 r))

  plan_complete : (e : Refusal) → PlanRefuses net room e → plan_of net room ≡ refused e
  plan_complete e (PlanRefuses.in_net f) = plan_refused net e (((net_answered net).refuses e).1 f) room
  plan_complete e (PlanRefuses.unreachable N F all) = plan_is net N F room ∙ go (ends N room)
    where
      go : Ends N room → plan_net N room ≡ refused Unreachable
      go (unreachable h f) = f
      go (short h l f) = let w : worst_slack N (plan N) <ℤ N.need = plan_short net N F all in absurd (omega (arith, whole))
      go (written h l f) = let w : worst_slack N (plan N) <ℤ N.need = plan_short net N F all in absurd (omega (arith, whole))
  plan_complete e (PlanRefuses.too_short N F some less) = plan_is net N F room ∙ go (ends N room)
    where
      go : Ends N room → plan_net N room ≡ refused TooShort
      go (unreachable h f) = absurd (some (none_reaches net N F h))
      go (short h l f) = f
      go (written h l f) = absurd (omega arith)

  pub plan_refuses : (e : Refusal) → (plan_of net room ≡ refused e) ↔ PlanRefuses net room e
  plan_refuses e = (plan_sound e, plan_complete e)

-- ---- judge: a tree that was read

module _ (net listing : List ℕ) (N : Net) (G : Listing) (B : BothRead net listing N G) where
  shape : Read (size N) G.tree.parents
  shape = read_shape N G B.listing_format B.no_sink_lem

  right : wrong_children (size N) G.tree.parents ≡ None → RightChildren (size N) G.tree.parents
  right = (right_children (size N) G.tree.parents shape.some_sink).0

  tree_refuses : (e : Refusal) → accept_tree N G ≡ refused e → JudgeRefuses net listing e
  tree_refuses e h =
      tree_cases N G (refused e) h
      (λ v q u. subst (JudgeRefuses net listing) (same_refusal (WrongChildren (vertex_line v)) e (sym u)) (JudgeRefuses.wrong_children_lem N G B v ((wrong_children_lem (size N) G.tree.parents v).0 q)))
      (λ p v q u. subst (JudgeRefuses net listing) (same_refusal (NotReached (vertex_line v)) e (sym u)) (JudgeRefuses.not_reached N G B (right p) v ((lowest_unreached (size N) G.tree.parents shape v).0 q)))
      λ p q u.
      let L : LegalTree N G.tree = record {
        shape = legal_if (size N) G.tree.parents shape (right p) ((all_reached (size N) G.tree.parents shape).0 q);
        placed = B.listing_format.in_range.points_all;
      } in
      true_cases N G (refused e) u
      (λ m w. subst (JudgeRefuses net listing) (same_refusal OtherSlack e (sym w)) (JudgeRefuses.other_slack N G B L m))
      (λ s m w. subst (JudgeRefuses net listing) (same_refusal OtherWire e (sym w)) (JudgeRefuses.other_wire N G B L s m))
      λ s m w. never G e w

  -- what comes of the tree comes of the texts
  to_judge : (e : Refusal) → accept_tree N G ≡ refused e → judge_of net listing ≡ refused e
  to_judge e h =
      judge_read net N (net_complete net N B.net_format) listing
      ∙ then_refused _ (then_value (accept_tree N) (listing_complete (size N) listing G B.listing_format B.no_sink_lem) ∙ h)

  wrong_judged : (v : ℕ) → WrongChildrenAt (size N) G.tree.parents v → judge_of net listing ≡ refused (WrongChildren (vertex_line v))
  wrong_judged v W = to_judge _ (sym (wrong_refused N G (size N) refl v (vertex_line v) ((wrong_children_lem (size N) G.tree.parents v).1 W) refl))

  lost_judged : RightChildren (size N) G.tree.parents → (v : ℕ) → LowestUnreached (size N) G.tree.parents v → judge_of net listing ≡ refused (NotReached (vertex_line v))
  lost_judged C v L =
      to_judge _
      (sym (lost_refused N G (size N) refl ((right_children (size N) G.tree.parents shape.some_sink).1 C) v (vertex_line v) ((lowest_unreached (size N) G.tree.parents shape v).1 L) refl))

  slack_judged : LegalTree N G.tree → G.slack ≢ worst_slack N G.tree → judge_of net listing ≡ refused OtherSlack
  slack_judged L m = to_judge _ (legal_accepted N G L.shape shape ∙ slack_false N G m)

  wire_judged : LegalTree N G.tree → G.slack ≡ worst_slack N G.tree → G.wire ≢ wire_length N G.tree → judge_of net listing ≡ refused OtherWire
  wire_judged L s m = to_judge _ (legal_accepted N G L.shape shape ∙ wire_false N G s m)

-- ---- judge: the two texts

module _ (net listing : List ℕ) where
  listing_refuses : (N : Net) → InFormat net N → (e : Refusal) → accept_listing N listing ≡ refused e → JudgeRefuses net listing e
  listing_refuses N F e h = go (read_listing (size N) listing) refl h
    where
      go : (o : Outcome Listing) → read_listing (size N) listing ≡ o → and_then o (accept_tree N) ≡ refused e → JudgeRefuses net listing e
      go (value G) r w =
          let f = listing_sound (size N) listing G r in
          tree_refuses net listing N G (record { net_format = F; listing_format = f.0; no_sink_lem = f.1 }) e w
      go (refused d) r w = subst (JudgeRefuses net listing) (same_refusal d e w) (JudgeRefuses.in_listing N F (((listing_answered (size N) listing).refuses d).0 r))

  read_refuses : (N : Net) → InFormat net N → (e : Refusal) → judge_net N listing ≡ refused e → JudgeRefuses net listing e
  read_refuses N F e h = go (accept_listing N listing) refl h
    where
      go : (o : Outcome Listing) → accept_listing N listing ≡ o → and_then o (λ G. value (judgement (record { net = N; listing = G }))) ≡ refused e → JudgeRefuses net listing e
      go (value G) r w = never (judgement (record { net = N; listing = G })) e w
      go (refused d) r w = subst (JudgeRefuses net listing) (same_refusal d e w) (listing_refuses N F d r)

  judge_sound : (e : Refusal) → judge_of net listing ≡ refused e → JudgeRefuses net listing e
  judge_sound e h = go (read_net net) refl
    where
      go : (o : Outcome Net) → read_net net ≡ o → JudgeRefuses net listing e
      go (value N) r = read_refuses N (net_sound net N r) e (sym (judge_read net N r listing) ∙ h)
      go (refused d) r = subst (JudgeRefuses net listing) (same_refusal d e (sym (judge_refused net d r listing) ∙ h)) (JudgeRefuses.in_net (((net_answered net).refuses d).0 r))

  judge_complete : (e : Refusal) → JudgeRefuses net listing e → judge_of net listing ≡ refused e
  judge_complete e (JudgeRefuses.in_net f) = judge_refused net e (((net_answered net).refuses e).1 f) listing
  judge_complete e (JudgeRefuses.in_listing N F f) =
      judge_read net N (net_complete net N F) listing
      ∙ then_refused _ (then_refused (accept_tree N) (((listing_answered (size N) listing).refuses e).1 f))
  judge_complete e (JudgeRefuses.wrong_children_lem N G B v W) = wrong_judged net listing N G B v W
  judge_complete e (JudgeRefuses.not_reached N G B C v L) = lost_judged net listing N G B C v L
  judge_complete e (JudgeRefuses.other_slack N G B L m) = slack_judged net listing N G B L m
  judge_complete e (JudgeRefuses.other_wire N G B L s m) = wire_judged net listing N G B L s m

  pub judge_refuses : (e : Refusal) → (judge_of net listing ≡ refused e) ↔ JudgeRefuses net listing e
  judge_refuses e = (judge_sound e, judge_complete e)
