-- What is promised of a plan that ignores need holds where its trees are legal and in range. Assumes nothing.
use Prim.Native.Nat.{ℕ, ◌*◌, ◌≤◌, ◌<◌}
use mathlib.Core.Path.{◌≡◌, refl, sym, ap, ◌∙◌, subst}
use mathlib.Core.Logic.{◌↔◌, ◌≢◌}
use mathlib.Core.Bool.{Bool, true, false}
use mathlib.Core.List.{List, ◌++◌}
use Rattle.std.specs.Prelude.{Result, Err}
use native.Mathlib.Omega.{arith}
use borrow.Author.Tests.{ltb-true, ltb-false, le-ltb}
use lib.ListN.{length, take, drop}
use lib.Seq.{take_at}
use lib.Dec.{ltb}
use lib.IntN.{ℤ}
use Rattle.quantities.specs.Ranges.{Within, PointWithin}
use Rattle.tree.specs.Net.{Net, size, own_slacks}
use Rattle.tree.specs.Tree.{LegalTree, place}
use Rattle.tree.specs.Measures.{worst_slack, wire_length}
use Rattle.tree.specs.Kraft.{kraft_maximum}
use Rattle.tree.specs.Limits.{position_limit, slack_limit, InRange}
use Rattle.formats.specs.Refusals.{told}
use Rattle.formats.specs.Outcome.{Outcome, value, refused, and_then}
use Rattle.formats.specs.NetText.{InFormat}
use Rattle.formats.specs.ListingText.{Listing, listing_text, ListingInRange, ListingInFormat}
use Rattle.formats.specs.Reading.Nets.{WeightedNet, read_weighted}
use Rattle.formats.specs.declared.refusal.Refusal.{Refusal}
use Rattle.formats.specs.declared.refusal.Refusal.TheVariants.{Unreachable, TooShort}
use Rattle.formats.proofs.Laws.Lines.Outcomes.{then_value, then_refused, same_refusal}
use Rattle.formats.proofs.Laws.Lines.DueTexts.{never}
use Rattle.formats.proofs.Laws.Nets.NetTexts.{weighted_sound, weighted_complete, both_refuse, refused_both, net_refused}
use Rattle.formats.proofs.Laws.Faults.NetFaults.{net_answered}
use Rattle.formats.proofs.Laws.TextLengths.{listing_in_format}
use Rattle.operations.specs.Answers.{Written, stated, emitted, bytes_of, overwritten, plan_answer, judge_of}
use Rattle.operations.specs.Demands.{with_need}
use Rattle.operations.specs.TreePlans.{Make, tree_listing, tree_plan_of, tree_plan_output, TreePlanRefuses, TreePlan}
use Rattle.operations.specs.declared.answers.Planned.{Planned}
use Rattle.operations.proofs.Laws.Answers.{overwritten_beyond, overwritten_length}
use Rattle.operations.proofs.Laws.PlanListing.{stated_in_range}
use Rattle.operations.proofs.Laws.Needless.{same_worst, same_wire}
use Rattle.operations.proofs.Laws.Demands.{of_net_text, judged, judge_true}

-- what is due of the trees
pub record Makes (make : Make) : Type 0 where
  pub legal : (N : Net) (w : List ℕ) → InRange N → LegalTree N (make N w)
  pub within : (N : Net) (w : List ℕ) → InRange N → (v : ℕ) → v < 2 * size N → PointWithin position_limit (place N (make N w) v)
  pub slack_in_lem : (N : Net) (w : List ℕ) → InRange N → Within slack_limit (worst_slack N (make N w))
  pub needless : (t : ℤ) (N : Net) (w : List ℕ) → make (with_need t N) w ≡ make N w

-- ---- the answer, by what was read: for the contracts

module _ (make : Make) (net out : List ℕ) where
  pub tree_refused_answer : (e : Refusal) → read_weighted net ≡ refused e → (Err e ≡ plan_answer (tree_plan_of make net (length out))) × (out ≡ tree_plan_output make net out)
  unfolding tree_plan_of tree_plan_output
  tree_refused_answer e h =
      let p = then_refused (λ M. emitted (size M.net) (stated M.net (make M.net M.weights)) (length out)) h in
      (sym (ap plan_answer p), sym (ap (λ o. overwritten (bytes_of o) out) p))

  pub tree_read_answer : (left : List ℕ) (N : Net) (w : List ℕ) (n : ℕ) (G : Listing) (r : Result Planned Refusal) → read_weighted net ≡ value (record { net = N; weights = w }) → size N ≡ n → G ≡ stated N (make N w)
      → r ≡ plan_answer (emitted n G (length out)) → left ≡ overwritten (bytes_of (emitted n G (length out))) out → (r ≡ plan_answer (tree_plan_of make net (length out))) × (left ≡ tree_plan_output make net out)
  unfolding tree_plan_of tree_plan_output
  tree_read_answer left N w n G r h sized made e f =
      let p = then_value (λ M. emitted (size M.net) (stated M.net (make M.net M.weights)) (length out)) h in (
        e ∙ (λ i. plan_answer (emitted (sym sized i) (made i) (length out))) ∙ sym (ap plan_answer p),
        f ∙ (λ i. overwritten (bytes_of (emitted (sym sized i) (made i) (length out))) out) ∙ sym (ap (λ o. overwritten (bytes_of o) out) p),
      )

-- a net that is read as N with the weights w, and the listing of its tree: for what is marked
pub tree_over : (make : Make) (net : List ℕ) (N : Net) (w : List ℕ) → read_weighted net ≡ value (record { net = N; weights = w }) → (slack : ℤ) (wire : ℕ) (bytes : List ℕ) → worst_slack N (make N w) ≡ slack → wire_length N (make N w) ≡ wire → tree_listing make N w ≡ bytes
    → (room : ℕ) → length bytes ≤ room → tree_plan_of make net room ≡ value (record { slack = slack; wire = wire; bytes = bytes })
unfolding tree_plan_of tree_listing
tree_over make net N w r slack wire bytes s e l room h =
    let t : ltb room (length (listing_text (size N) (stated N (make N w)))) ≡ false = le-ltb room (length (listing_text (size N) (stated N (make N w)))) (omega (arith, ap length l)) in
    then_value (λ M. emitted (size M.net) (stated M.net (make M.net M.weights)) room) r ∙ rw (emitted, t) (λ i. value (record { slack = s i; wire = e i; bytes = l i }))

-- the listing that goes out is in range
pub made_in_range : (make : Make) → Makes make → (N : Net) (w : List ℕ) (n : ℕ) (G : Listing) → size N ≡ n → G ≡ stated N (make N w) → InRange N → ListingInRange n G
made_in_range make M N w n G sized made R = rw (made, ← sized) (stated_in_range N R (make N w) (M.legal N w R) (M.within N w R) (M.slack_in_lem N w R))

-- ---- how a plan of a net that was read ends

module _ (make : Make) where
  abbrev written : Net → List ℕ → Written
  written N w = record { slack = worst_slack N (make N w); wire = wire_length N (make N w); bytes = tree_listing make N w }

  data Ends (N : Net) (w : List ℕ) (room : ℕ) : Type 0 where
    short : room < length (tree_listing make N w) → emitted (size N) (stated N (make N w)) room ≡ refused TooShort → Ends N w room
    fits : length (tree_listing make N w) ≤ room → emitted (size N) (stated N (make N w)) room ≡ value (written N w) → Ends N w room

  ends : (N : Net) (w : List ℕ) (room : ℕ) → Ends N w room
  unfolding tree_listing
  ends N w room = go (ltb room (length (tree_listing make N w))) refl
    where
      end_by : Bool → Outcome Written
      end_by t = elim t [ true ↦ refused TooShort | false ↦ value (written N w) ]

      go : (t : Bool) → ltb room (length (tree_listing make N w)) ≡ t → Ends N w room
      go true e = short (ltb-true room (length (tree_listing make N w)) e) (ap end_by e)
      go false e = fits (ltb-false room (length (tree_listing make N w)) e) (ap end_by e)

  -- once the net is read
  pub made_over : (net : List ℕ) (N : Net) (F : InFormat net N) (room : ℕ) → tree_plan_of make net room ≡ emitted (size N) (stated N (make N F.weights)) room
  unfolding tree_plan_of
  made_over net N F room = then_value (λ M. emitted (size M.net) (stated M.net (make M.net M.weights)) room) (weighted_complete net N F)

  -- ---- refusals

  module _ (net : List ℕ) (room : ℕ) where
    sound : (e : Refusal) → tree_plan_of make net room ≡ refused e → TreePlanRefuses make net room e
    unfolding tree_plan_of
    sound e h = go (read_weighted net) refl h
      where
        over : (N : Net) (F : InFormat net N) → Ends N F.weights room → emitted (size N) (stated N (make N F.weights)) room ≡ refused e → TreePlanRefuses make net room e
        over N F (short l f) w = subst (TreePlanRefuses make net room) (same_refusal TooShort e (sym f ∙ w)) (TreePlanRefuses.too_short N F l)
        over N F (fits l f) w = never (written N F.weights) e (sym f ∙ w)

        go : (o : Outcome WeightedNet) → read_weighted net ≡ o → and_then o (λ M. emitted (size M.net) (stated M.net (make M.net M.weights)) room) ≡ refused e → TreePlanRefuses make net room e
        go (value M) r u =
            let F = weighted_sound net M r in
            over M.net F.0 (ends M.net F.0.weights room) (ap (λ w. emitted (size M.net) (stated M.net (make M.net w)) room) F.1 ∙ u)
        go (refused d) r u = subst (TreePlanRefuses make net room) (same_refusal d e u) (TreePlanRefuses.in_net (((net_answered net).refuses d).0 (both_refuse net d r)))

    complete : (e : Refusal) → TreePlanRefuses make net room e → tree_plan_of make net room ≡ refused e
    unfolding tree_plan_of
    complete e (TreePlanRefuses.in_net f) = then_refused (λ M. emitted (size M.net) (stated M.net (make M.net M.weights)) room) (refused_both net e (((net_answered net).refuses e).1 f))
    complete e (TreePlanRefuses.too_short N F l) = made_over net N F room ∙ go (ends N F.weights room)
      where
        go : Ends N F.weights room → emitted (size N) (stated N (make N F.weights)) room ≡ refused TooShort
        go (short q f) = f
        go (fits q f) = absurd (omega arith)

    never_5 : (e : Refusal) → TreePlanRefuses make net room e → (told e).number ≢ 5
    never_5 e (TreePlanRefuses.in_net f) = (of_net_text e (net_refused net e (((net_answered net).refuses e).1 f))).1
    never_5 e (TreePlanRefuses.too_short N F l) = λ q. omega arith

    -- what is written fits
    bytes_fit : length (bytes_of (tree_plan_of make net room)) ≤ room
    unfolding tree_plan_of
    bytes_fit = go (read_weighted net)
      where
        over : (N : Net) (w : List ℕ) → Ends N w room → length (bytes_of (emitted (size N) (stated N (make N w)) room)) ≤ room
        over N w (short l f) = rw f (omega arith)
        over N w (fits l f) = rw f l

        go : (o : Outcome WeightedNet) → length (bytes_of (and_then o (λ M. emitted (size M.net) (stated M.net (make M.net M.weights)) room))) ≤ room
        go (value M) = over M.net M.weights (ends M.net M.weights room)
        go (refused e) = omega arith

  -- ---- a net in the format

  module _ (M : Makes make) (net : List ℕ) (N : Net) (F : InFormat net N) where
    abbrev ws : List ℕ
    ws = F.weights

    sixth : (room : ℕ) → (tree_plan_of make net room ≡ refused TooShort) ↔ (room < length (tree_listing make N ws))
    sixth room = go (ends N ws room)
      where
        go : Ends N ws room → (tree_plan_of make net room ≡ refused TooShort) ↔ (room < length (tree_listing make N ws))
        go (short l f) = ((λ z. l), λ q. made_over net N F room ∙ f)
        go (fits l f) = ((λ z. never (written N ws) TooShort (sym (made_over net N F room ∙ f) ∙ z)), λ q. absurd (omega arith))

    otherwise : (room : ℕ) → tree_plan_of make net room ≢ refused TooShort → (w : Written) × (tree_plan_of make net room ≡ value w)
    otherwise room not6 = go (ends N ws room)
      where
        go : Ends N ws room → (w : Written) × (tree_plan_of make net room ≡ value w)
        go (short l f) = absurd (not6 (made_over net N F room ∙ f))
        go (fits l f) = (written N ws, made_over net N F room ∙ f)

    output_is : (out : List ℕ) → tree_plan_output make net out ≡ overwritten (bytes_of (emitted (size N) (stated N (make N ws)) (length out))) out
    unfolding tree_plan_output
    output_is out = ap (λ o. overwritten (bytes_of o) out) (made_over net N F (length out))

    returned : (room : ℕ) (w : Written) → tree_plan_of make net room ≡ value w → w ≡ written N ws
    returned room w z = go (ends N ws room)
      where
        go : Ends N ws room → w ≡ written N ws
        go (short l f) = never w TooShort (sym z ∙ made_over net N F room ∙ f)
        go (fits l f) = let e : value w ≡ value (written N ws) = sym z ∙ made_over net N F room ∙ f in cc

    all_written : (out : List ℕ) (w : Written) → tree_plan_of make net (length out) ≡ value w → tree_plan_output make net out ≡ tree_listing make N ws ++ drop (length (tree_listing make N ws)) out
    all_written out w z = go (ends N ws (length out))
      where
        go : Ends N ws (length out) → tree_plan_output make net out ≡ tree_listing make N ws ++ drop (length (tree_listing make N ws)) out
        go (short l f) = never w TooShort (sym z ∙ made_over net N F (length out) ∙ f)
        go (fits l f) = output_is out ∙ ap (λ o. overwritten (bytes_of o) out) f

    -- the listing of the tree that was made, judged
    listing_format : ListingInFormat (size N) (tree_listing make N ws) (stated N (make N ws))
    unfolding tree_listing
    listing_format = listing_in_format (size N) (stated N (make N ws)) (made_in_range make M N ws (size N) (stated N (make N ws)) refl refl F.in_range)

    pub tree_judged : judge_of net (tree_listing make N ws) ≡ value (judged N (stated N (make N ws)))
    tree_judged = judge_true net N F (tree_listing make N ws) (stated N (make N ws)) listing_format (M.legal N ws F.in_range, refl, refl)

    read_back : (out : List ℕ) (w : Written) → tree_plan_of make net (length out) ≡ value w
        → judge_of net (take (length w.bytes) (tree_plan_output make net out)) ≡ value (record { slack = w.slack; wire = w.wire; best = kraft_maximum N.branch (own_slacks N) })
    read_back out w z =
        let h = returned (length out) w z in
        let o = all_written out w z in
        (λ i. judge_of net (take (length (h i).bytes) (o i)))
        ∙ ap (judge_of net) (take_at (tree_listing make N ws) (drop (length (tree_listing make N ws)) out) (length (tree_listing make N ws)) refl)
        ∙ tree_judged
        ∙ (λ i. value (record { slack = (sym h i).slack; wire = (sym h i).wire; best = kraft_maximum N.branch (own_slacks N) }))

    ignores_need : (other : List ℕ) (t : ℤ) (G : InFormat other (with_need t N)) → G.weights ≡ ws → (room : ℕ) → tree_plan_of make other room ≡ tree_plan_of make net room
    ignores_need other t G e room =
        made_over other (with_need t N) G room
        ∙ ap (λ w. emitted (size N) (stated (with_need t N) (make (with_need t N) w)) room) e
        ∙ (λ i. emitted (size N) (record { slack = same_worst t N i (M.needless t N ws i); wire = same_wire t N i (M.needless t N ws i); tree = M.needless t N ws i }) room)
        ∙ sym (made_over net N F room)

  pub tree_plan : Makes make → TreePlan make
  unfolding tree_plan_output
  tree_plan M = record {
    refuses = λ net room e. (sound net room e, complete net room e);
    never_unreachable = λ net room z. never_5 net room Unreachable (sound net room Unreachable z) refl;
    untouched = λ net out e h. ap (λ o. overwritten (bytes_of o) out) h;
    beyond = λ net out. overwritten_beyond (bytes_of (tree_plan_of make net (length out))) out;
    same_length = λ net out. overwritten_length (bytes_of (tree_plan_of make net (length out))) out (bytes_fit net (length out));
    nets = λ net N F. record { short = sixth M net N F; otherwise = otherwise M net N F; returned = returned M net N F; written = all_written M net N F; read_back = read_back M net N F; needless = ignores_need M net N F };
  }
