-- The three demands, for all bytes, outputs and nets in the format. Assumes nothing.
use Prim.Native.Nat.{ℕ, ◌≤◌, ◌<◌}
use mathlib.Core.Path.{◌≡◌, refl, sym, ap, ◌∙◌, subst}
use mathlib.Core.Logic.{◌≢◌, ◌↔◌, ◌⊎◌, inl, inr}
use mathlib.Core.List.{List, ◌++◌}
use native.Mathlib.Omega.{arith}
use lib.ListN.{length, take, drop}
use lib.Seq.{take_at}
use lib.IntN.{ℤ, pos, neg_ℤ}
use lib.Signed.{◌≤ℤ◌, ◌<ℤ◌}
use Rattle.quantities.specs.Inner.Linear.{whole, up}
use Rattle.tree.specs.Net.{Net, size, own_slacks}
use Rattle.tree.specs.Limits.{need_limit}
use Rattle.tree.specs.Measures.{worst_slack, wire_length}
use Rattle.tree.specs.Kraft.{IsKraftMaximum}
use Rattle.tree.specs.Settling.{plan}
use Rattle.tree.specs.Theorem1.{Theorem1For}
use Rattle.tree.proofs.Laws.Trees.NamedDefects.{right_children, all_reached, legal_if}
use Rattle.tree.proofs.Laws.Planning.Theorem1.{theorem_1, lowest_need_reached}
use Rattle.formats.specs.Refusals.{told}
use Rattle.formats.specs.Outcome.{Outcome, value, refused, and_then}
use Rattle.formats.specs.NetText.{InFormat}
use Rattle.formats.specs.Reading.Nets.{read_net}
use Rattle.formats.specs.ListingText.{Listing, ListingInFormat, NoSinkParent}
use Rattle.formats.specs.Reading.Listings.{read_listing}
use Rattle.formats.specs.Faults.{NetFault}
use Rattle.formats.specs.declared.refusal.Refusal.{Refusal}
use Rattle.formats.specs.declared.refusal.Refusal.TheVariants.{Unreachable, TooShort, WrongChildren, NotReached, OtherSlack, OtherWire}
use Rattle.formats.proofs.Laws.Lines.Refusals.{numbered}
use Rattle.formats.proofs.Laws.Lines.DueTexts.{never}
use Rattle.formats.proofs.Laws.Lines.Outcomes.{same_refusal}
use Rattle.formats.proofs.Laws.Nets.NetTexts.{NetRefusal, net_complete, net_refused}
use Rattle.formats.proofs.Laws.Listings.ListingTexts.{listing_sound, listing_complete, listing_one_lem}
use Rattle.formats.proofs.Laws.Faults.NetFaults.{net_answered}
use Rattle.formats.proofs.Laws.Faults.ListingFaults.{listing_answered}
use Rattle.operations.specs.Accepting.{vertex_line, accept_tree, accept_listing}
use Rattle.operations.specs.Answers.{Written, plan_listing, planned, plan_net, plan_of, bytes_of, overwritten, plan_output, Judgement, judgement, judge_of}
use Rattle.operations.specs.Refusing.{NeedUnreachable, PlanRefuses, JudgeRefuses}
use Rattle.operations.specs.Demands.{OfNetText, Demand1, LegalAndTrue, Accepts, written_to, with_need, Demand2, Demand3, Demands}
use Rattle.operations.specs.Inner.Acceptance.{judge_net}
use Rattle.operations.proofs.Laws.Accepting.{legal_no_sink, true_all, true_cases, tree_cases, read_shape, legal_accepted}
use Rattle.operations.proofs.Laws.Answers.{plan_written, Ends, unreachable, short, written, ends, overwritten_beyond, overwritten_length, plan_one, judge_one}
use Rattle.operations.proofs.Laws.Judging.{judge_read}
use Rattle.operations.proofs.Laws.Needless.{needless}
use Rattle.operations.proofs.Laws.PlanListing.{planned_legal, plan_listing_lem}
use Rattle.operations.proofs.Laws.Refusing.{plan_is, none_reaches, plan_refuses, judge_refuses}

-- ---- the first demand

-- what is written fits
bytes_fit : (net : List ℕ) (room : ℕ) → length (bytes_of (plan_of net room)) ≤ room
unfolding plan_of
bytes_fit net room = go (read_net net)
  where
    net_fits : (N : Net) → Ends N room → length (bytes_of (plan_net N room)) ≤ room
    net_fits N (unreachable p f) = rw f (omega arith)
    net_fits N (short p l f) = rw f (omega arith)
    net_fits N (written p l f) = rw f l

    go : (o : Outcome Net) → length (bytes_of (and_then o (λ N. plan_net N room))) ≤ room
    go (value N) = net_fits N (ends N room)
    go (refused e) = omega arith

-- the faults of a net text are told by 1 to 4 and by 13
pub of_net_text : (e : Refusal) → NetRefusal e → OfNetText e
of_net_text e NetRefusal.too_long = (refl, λ q. omega arith)
of_net_text e (NetRefusal.not_due p q) = (refl, λ q. omega arith)
of_net_text e (NetRefusal.out_of_range p q) = (refl, λ q. omega arith)
of_net_text e (NetRefusal.bytes_follow p q) = (refl, λ q. omega arith)
of_net_text e (NetRefusal.pin_far p q) = (refl, λ q. omega arith)

-- where the net's fault is not what is answered, it has none
read_net_lem : {A : Type 0} (net : List ℕ) (o : Outcome A) → ((e : Refusal) → NetFault net e → o ≡ refused e) → ((e : Refusal) → o ≡ refused e → OfNetText e → ⊥) → (N : Net) × InFormat net N
read_net_lem net o faults others = go (net_answered net).either
  where
    go : ((N : Net) × InFormat net N) ⊎ ((e : Refusal) × NetFault net e) → (N : Net) × InFormat net N
    go (inl f) = f
    go (inr f) = absurd (others f.0 (faults f.0 f.1) (of_net_text f.0 (net_refused net f.0 (((net_answered net).refuses f.0).1 f.1))))

demand_1 : (net listing out : List ℕ) → Demand1 net listing out
unfolding plan_output
demand_1 net listing out =
    let w : List ℕ = bytes_of (plan_of net (length out)) in
    record {
      plan_refuses = plan_refuses net (length out);
      judge_refuses = judge_refuses net listing;
      plan_read = read_net_lem net (plan_of net (length out)) (λ e f. (plan_refuses net (length out) e).1 (PlanRefuses.in_net f));
      judge_read = read_net_lem net (judge_of net listing) (λ e f. (judge_refuses net listing e).1 (JudgeRefuses.in_net f));
      untouched = λ e h. ap (λ o. overwritten (bytes_of o) out) h;
      beyond = overwritten_beyond w out;
      same_length = overwritten_length w out (bytes_fit net (length out));
    }

-- ---- the second demand

-- the listing's own judgement
abbrev pub judged : Net → Listing → Judgement
judged N G = judgement (record { net = N; listing = G })

module _ (N : Net) (listing : List ℕ) (G : Listing) (F : ListingInFormat (size N) listing G) where
  -- a legal tree with true figures is accepted
  pub true_accepted : LegalAndTrue N G → accept_listing N listing ≡ value G
  true_accepted t =
      let k = legal_no_sink (size N) G.tree.parents t.0.shape in
      ap (λ o. and_then o (accept_tree N)) (listing_complete (size N) listing G F k)
      ∙ legal_accepted N G t.0.shape (read_shape N G F k)
      ∙ true_all N G t.1 t.2

  -- what is accepted is one
  accepted_true : NoSinkParent (size N) G.tree.parents → (H : Listing) → accept_tree N G ≡ value H → LegalAndTrue N G × (G ≡ H)
  accepted_true k H h =
      tree_cases N G (value H) h (λ v q u. never H (WrongChildren (vertex_line v)) u) (λ p v q u. never H (NotReached (vertex_line v)) u) λ p q u.
      true_cases N G (value H) u (λ m w. never H OtherSlack w) (λ s m w. never H OtherWire w) λ e f w.
      let R = read_shape N G F k in
      let L = legal_if (size N) G.tree.parents R ((right_children (size N) G.tree.parents R.some_sink).0 p) ((all_reached (size N) G.tree.parents R).0 q) in
      let same : G ≡ H = cc in
      ((record { shape = L; placed = F.in_range.points_all }, e, f), same)

-- what an accepted text is
pub accepted_is : (N : Net) (listing : List ℕ) (G : Listing) → accept_listing N listing ≡ value G → ListingInFormat (size N) listing G × LegalAndTrue N G
accepted_is N listing G h = go (read_listing (size N) listing) refl h
  where
    go : (o : Outcome Listing) → read_listing (size N) listing ≡ o → and_then o (accept_tree N) ≡ value G → ListingInFormat (size N) listing G × LegalAndTrue N G
    go (value H) r w =
        let f = listing_sound (size N) listing H r in
        let t = accepted_true N listing H f.0 f.1 G w in
        subst (λ K. ListingInFormat (size N) listing K × LegalAndTrue N K) t.1 (f.0, t.0)
    go (refused e) r w = never G e (sym w)

module _ (net : List ℕ) (N : Net) (F : InFormat net N) (listing : List ℕ) where
  -- judge, once the net is read
  to_listing : judge_of net listing ≡ judge_net N listing
  to_listing = judge_read net N (net_complete net N F) listing

  -- what a text is that judge accepts
  read_judge : (j : Judgement) → judge_of net listing ≡ value j → (G : Listing) × (ListingInFormat (size N) listing G × LegalAndTrue N G × (j ≡ judged N G))
  read_judge j h = go (accept_listing N listing) refl (sym to_listing ∙ h)
    where
      go : (o : Outcome Listing) → accept_listing N listing ≡ o → and_then o (λ G. value (judged N G)) ≡ value j → (G : Listing) × (ListingInFormat (size N) listing G × LegalAndTrue N G × (j ≡ judged N G))
      go (value G) r w =
          let t = accepted_is N listing G r in
          let q : judged N G ≡ j = cc in
          (G, (t.0, t.1, sym q))
      go (refused e) r w = never j e (sym w)

  -- and what is accepted
  pub judge_true : (G : Listing) → ListingInFormat (size N) listing G → LegalAndTrue N G → judge_of net listing ≡ value (judged N G)
  judge_true G f t = to_listing ∙ ap (λ o. and_then o (λ G. value (judged N G))) (true_accepted N listing G f t)

  accepts : Accepts net listing ↔ ((G : Listing) × (ListingInFormat (size N) listing G × LegalAndTrue N G))
  accepts = ((λ a. let h = read_judge a.0 a.1 in (h.0, (h.1.0, h.1.1))), λ h. (judged N h.0, judge_true h.0 h.1.0 h.1.1))

  measured : (G : Listing) → ListingInFormat (size N) listing G → (j : Judgement) → judge_of net listing ≡ value j → (j.slack ≡ worst_slack N G.tree) × (j.wire ≡ wire_length N G.tree)
  measured G f j w =
      let h = read_judge j w in
      let e : h.0 ≡ G = listing_one_lem (size N) listing h.0 G h.1.0 f in
      (ap (λ j. j.slack) h.1.2 ∙ ap (λ H. worst_slack N H.tree) e, ap (λ j. j.wire) h.1.2 ∙ ap (λ H. wire_length N H.tree) e)

-- ---- the third demand

module _ (net : List ℕ) (N : Net) (F : InFormat net N) where
  T : Theorem1For N
  T = theorem_1 N F.in_range.branch.0 F.in_range.sinks.0

  is : (room : ℕ) → plan_of net room ≡ plan_net N room
  is = plan_is net N F

  output_is : (out : List ℕ) → plan_output net out ≡ overwritten (bytes_of (plan_net N (length out))) out
  unfolding plan_output
  output_is out = ap (λ o. overwritten (bytes_of o) out) (is (length out))

  -- plan's own listing, judged
  own : judge_of net (plan_listing N) ≡ value (judged N (planned N))
  own = judge_true net N F (plan_listing N) (planned N) (plan_listing_lem N F.in_range) (planned_legal N F.in_range, refl, refl)

  -- Unreachable is not TooShort
  differ : {C : Type 0} → ◌≡◌ {A = Outcome Written} (refused Unreachable) (refused TooShort) → C
  differ h = absurd (omega (arith, ap (λ e. (told e).number) (same_refusal Unreachable TooShort h)))

  module _ (s : ℤ) (K : IsKraftMaximum N.branch (own_slacks N) s) where
    is_best : worst_slack N (plan N) ≡ s
    is_best = T.attained ∙ sym (T.only s K)

    -- how plan ends
    module _ (room : ℕ) where
      fifth : (plan_of net room ≡ refused Unreachable) ↔ NeedUnreachable N
      fifth = (to (ends N room), λ all. (plan_refuses net room Unreachable).1 (PlanRefuses.unreachable N F all))
        where
          to : Ends N room → plan_of net room ≡ refused Unreachable → NeedUnreachable N
          to (unreachable h f) z = none_reaches net N F h
          to (short h l f) z = differ (sym z ∙ is room ∙ f)
          to (written h l f) z = never (plan_written N) Unreachable (sym (is room ∙ f) ∙ z)

      sixth : plan_of net room ≢ refused Unreachable → (plan_of net room ≡ refused TooShort) ↔ (room < length (plan_listing N))
      sixth not5 = go (ends N room)
        where
          go : Ends N room → (plan_of net room ≡ refused TooShort) ↔ (room < length (plan_listing N))
          go (unreachable h f) = absurd (not5 (is room ∙ f))
          go (short h l f) = ((λ z. l), λ q. is room ∙ f)
          go (written h l f) = ((λ z. never (plan_written N) TooShort (sym (is room ∙ f) ∙ z)), λ q. absurd (omega arith))

      else_written : plan_of net room ≢ refused Unreachable → plan_of net room ≢ refused TooShort → (w : Written) × (plan_of net room ≡ value w)
      else_written not5 not6 = go (ends N room)
        where
          go : Ends N room → (w : Written) × (plan_of net room ≡ value w)
          go (unreachable h f) = absurd (not5 (is room ∙ f))
          go (short h l f) = absurd (not6 (is room ∙ f))
          go (written h l f) = (plan_written N, is room ∙ f)

    all_written : (out : List ℕ) (w : Written) → plan_of net (length out) ≡ value w
        → (plan_output net out ≡ plan_listing N ++ drop (length (plan_listing N)) out) × (w ≡ record { slack = s; wire = wire_length N (plan N); bytes = plan_listing N })
    all_written out w z = go (ends N (length out))
      where
        go : Ends N (length out) → (plan_output net out ≡ plan_listing N ++ drop (length (plan_listing N)) out) × (w ≡ record { slack = s; wire = wire_length N (plan N); bytes = plan_listing N })
        go (unreachable h f) = never w Unreachable (sym z ∙ is (length out) ∙ f)
        go (short h l f) = never w TooShort (sym z ∙ is (length out) ∙ f)
        go (written h l f) =
            let e : value w ≡ value (plan_written N) = sym z ∙ is (length out) ∙ f in
            let q : w ≡ plan_written N = cc in
            (output_is out ∙ ap (λ o. overwritten (bytes_of o) out) f, q ∙ (λ i. record { slack = is_best i; wire = wire_length N (plan N); bytes = plan_listing N }))

    -- what stands in the output is the listing
    stands : (out : List ℕ) (w : Written) → plan_of net (length out) ≡ value w → written_to net out w ≡ plan_listing N
    stands out w z =
        let h = all_written out w z in
        (λ i. take (length (h.1 i).bytes) (h.0 i)) ∙ take_at (plan_listing N) (drop (length (plan_listing N)) out) (length (plan_listing N)) refl

    read_back : (out : List ℕ) (w : Written) → plan_of net (length out) ≡ value w → judge_of net (written_to net out w) ≡ value (record { slack = w.slack; wire = w.wire; best = s })
    read_back out w z =
        let h = (all_written out w z).1 in
        ap (judge_of net) (stands out w z)
        ∙ own
        ∙ (λ i. value (record { slack = (is_best ∙ sym (ap (λ w. w.slack) h)) i; wire = sym (ap (λ w. w.wire) h) i; best = sym (T.only s K) i }))

    -- "The lowest t is always reachable."
    lowest : N.need ≡ neg_ℤ (pos need_limit) → (room : ℕ) → plan_of net room ≢ refused Unreachable
    lowest e room z =
        let h = lowest_need_reached N F.in_range in
        let w : worst_slack N h.0 <ℤ N.need = (fifth room).0 z h.0 h.1.0 in
        let l : neg_ℤ (pos need_limit) ≤ℤ worst_slack N h.0 = h.1.1 in
        omega (arith, whole, ap up e)

    demand_3 : Demand3 net N s
    demand_3 = record {
      bounded = λ R L. subst (λ z. worst_slack N R ≤ℤ z) (sym (T.only s K)) (T.bounded R L);
      attained = (T.legal, is_best);
      best = λ listing j h. ap (λ j. j.best) (read_judge net N F listing j h).1.2 ∙ sym (T.only s K);
      unreachable = fifth;
      lowest = lowest;
      short = sixth;
      otherwise = else_written;
      written = all_written;
      read_back = read_back;
    }

  demand_2 : Demand2 net N
  demand_2 = record {
    accepted = accepts net N F;
    measured = measured net N F;
    written = λ out w z. (_, read_back _ T.maximum out w z);
    needless = λ other t f listing. judge_read other (with_need t N) (net_complete other (with_need t N) f) listing ∙ needless t N listing ∙ sym (judge_read net N (net_complete net N F) listing);
  }

pub demands : Demands
demands = record {
  first = demand_1;
  figures = record { numbered = numbered; plan_one = plan_one; judge_one = judge_one };
  nets = net_answered;
  listings = listing_answered;
  second = demand_2;
  third = λ net N F. (_, ((T net N F).maximum, demand_3 net N F _ (T net N F).maximum));
}
