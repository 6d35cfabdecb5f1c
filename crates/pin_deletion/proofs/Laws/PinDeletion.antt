-- What 02's request 9 promises of a deletion. Assumes nothing.
use Prim.Native.Nat.{ℕ, ◌≤◌, ◌<◌}
use mathlib.Core.Path.{◌≡◌, refl, sym, ap, subst, ◌∙◌}
use mathlib.Core.Logic.{◌≢◌, ◌⊎◌, inl, inr, ◌↔◌}
use mathlib.Core.List.{List}
use Rattle.std.specs.Prelude.{Result, Ok, Err}
use native.Mathlib.Omega.{arith}
use lib.ListN.{length, take, drop}
use lib.Seq.{take_at}
use Rattle.tree.specs.Net.{Net, size, own_slacks}
use Rattle.tree.specs.Tree.{Tree}
use Rattle.tree.specs.Limits.{WeightsInRange}
use Rattle.tree.specs.Measures.{worst_slack, wire_length}
use Rattle.tree.specs.Kraft.{kraft_maximum}
use Rattle.formats.specs.Refusals.{told}
use Rattle.formats.specs.Outcome.{Outcome, value, refused}
use Rattle.formats.specs.NetText.{InFormat}
use Rattle.formats.specs.ListingText.{Listing, ListingInFormat}
use Rattle.formats.specs.Reading.Nets.{WeightedNet, read_weighted}
use Rattle.formats.specs.declared.refusal.Refusal.{Refusal}
use Rattle.formats.specs.declared.refusal.Refusal.TheVariants.{TooShort, NotASink, OnlySink}
use Rattle.formats.proofs.Laws.Lines.DueTexts.{never}
use Rattle.formats.proofs.Laws.Lines.Outcomes.{same_refusal, then_refused}
use Rattle.formats.proofs.Laws.Lines.Refusals.{numbered, told_one}
use Rattle.formats.proofs.Laws.Nets.NetTexts.{weighted_sound, weighted_complete, net_of_lem, both_refuse, net_refused}
use Rattle.formats.proofs.Laws.Listings.ListingTexts.{ListingRefusal, listing_refused}
use Rattle.formats.proofs.Laws.Faults.NetFaults.{net_answered}
use Rattle.formats.proofs.Laws.Faults.ListingFaults.{listing_answered}
use Rattle.formats.proofs.Laws.TextLengths.{net_short, listing_in_format}
use Rattle.operations.specs.Accepting.{accept_listing}
use Rattle.operations.specs.Answers.{stated, overwritten, judge_of}
use Rattle.operations.specs.Demands.{LegalAndTrue, Accepts}
use Rattle.operations.specs.Refusing.{JudgeRefuses}
use Rattle.operations.proofs.Laws.Answers.{judge_refused, overwritten_beyond, overwritten_length}
use Rattle.operations.proofs.Laws.Demands.{of_net_text, true_accepted, accepted_is, judged, judge_true}
use Rattle.operations.proofs.Laws.Judging.{judge_read}
use Rattle.operations.proofs.Laws.Refusing.{judge_refuses}
use Rattle.shorter_tree.specs.Kept.{Deletable}
use Rattle.shorter_tree.specs.Deletion.{without, weights_without, pruned}
use Rattle.pin_deletion.specs.Deletions.{Shorter, shorter, both_fit, deleted, deletion_of, net_bytes_of, listing_bytes_of, net_output, listing_output, deletion_figures}
use Rattle.pin_deletion.specs.PinDeletion.{TextsOf, DeletionFor, DeletionRefuses, Outputs, PinDeletion}
use Rattle.pin_deletion.specs.declared.delete_pin.Deleted.{Deleted}
use Rattle.shorter_tree.proofs.Laws.Kept.{kept, shorter_legal}
use Rattle.shorter_tree.proofs.Laws.ShorterInRange.{shorter_in_range, shorter_weighed, shorter_near, listed_within, shorter_listed}
use Rattle.pin_deletion.proofs.Laws.Deletions.{both_fit_lem, fit_cases, sink_cases, net_turned, net_read, listing_turned, listing_accepted}

-- ---- a net and an accepted listing over it

module _ (net listing : List ℕ) (N : Net) (w : List ℕ) (T : Tree) (t : TextsOf net listing N w T) where
  -- the deletion, once both are read
  over : (s net_room listing_room : ℕ) → deletion_of net listing s net_room listing_room ≡ deleted N w T s net_room listing_room
  over s net_room listing_room =
      net_read net listing s net_room listing_room N w (weighted_complete net N t.in_format ∙ ap (λ v. value (record { net = N; weights = v })) t.weights_are)
      ∙ listing_accepted N w listing s net_room listing_room (stated N T) (true_accepted N listing (stated N T) t.listed (t.legal, refl, refl))

  judges : judge_of net listing ≡ value (judged N (stated N T))
  judges = judge_true net N t.in_format listing (stated N T) t.listed (t.legal, refl, refl)

  -- ---- a sink of it

  module _ (s : ℕ) (d : Deletable N s) where
    weighed : WeightsInRange (size N) w
    weighed = subst (WeightsInRange (size N)) t.weights_are t.in_format.weighed

    texts : TextsOf (shorter N w T s).net (shorter N w T s).listing (without N s) (weights_without w s) (pruned N T s)
    unfolding shorter
    texts =
        let R = t.in_format.in_range in
        let R' = shorter_in_range N s d.1 d.2 d.0 R in
        let W' = shorter_weighed N s d.1 d.2 d.0 w weighed in
        record {
          in_format = record {
            weights = weights_without w s;
            spelled = refl;
            in_range = R';
            weighed = W';
            near = shorter_near N s d.1 d.2 t.in_format.near;
            short = net_short (without N s) (weights_without w s) R' W';
          };
          weights_are = refl;
          listed = listing_in_format (size (without N s)) (stated (without N s) (pruned N T s)) (shorter_listed N T s t.legal d.0 d.1 d.2 R (listed_within N T R t.listed.in_range) t.listed.in_range.slack);
          legal = shorter_legal N T s t.legal d.0 d.1 d.2;
        }

    goes : (net_room listing_room : ℕ) → deletion_of net listing s net_room listing_room ≡ both_fit (shorter N w T s) net_room listing_room
    goes net_room listing_room =
        over s net_room listing_room
        ∙ sink_cases N w T s net_room listing_room _ refl (λ n u. absurd (n (d.1, d.2))) (λ i e u. absurd (omega (arith, d.0))) (λ i u. sym u)

    given : (net_room listing_room : ℕ) → length (shorter N w T s).net ≤ net_room → length (shorter N w T s).listing ≤ listing_room → deletion_of net listing s net_room listing_room ≡ value (shorter N w T s)
    given net_room listing_room p q = goes net_room listing_room ∙ both_fit_lem (shorter N w T s) net_room listing_room p q

    -- what is given is nothing else
    one : (net_room listing_room : ℕ) (r : Shorter) → deletion_of net listing s net_room listing_room ≡ value r → r ≡ shorter N w T s
    one net_room listing_room r h =
        fit_cases (shorter N w T s) net_room listing_room (value r) (sym (goes net_room listing_room) ∙ h) (λ l u. never r TooShort u) (λ p q u. let e : r ≡ shorter N w T s = cc in e)

    read_back : (net_out listing_out : List ℕ) (r : Shorter) → deletion_of net listing s (length net_out) (length listing_out) ≡ value r
        → judge_of (take (length r.net) (net_output net listing s net_out listing_out)) (take (length r.listing) (listing_output net listing s net_out listing_out))
        ≡ value (record {
          slack = worst_slack (without N s) (pruned N T s);
          wire = wire_length (without N s) (pruned N T s);
          best = kraft_maximum N.branch (own_slacks (without N s));
        })
    unfolding net_output listing_output
    read_back net_out listing_out r h =
        let e = one (length net_out) (length listing_out) r h in
        let p = ap (λ o. take (length r.net) (overwritten (net_bytes_of o) net_out)) h ∙ take_at r.net (drop (length r.net) net_out) (length r.net) refl ∙ ap (λ r. r.net) e in
        let q = ap (λ o. take (length r.listing) (overwritten (listing_bytes_of o) listing_out)) h ∙ take_at r.listing (drop (length r.listing) listing_out) (length r.listing) refl ∙ ap (λ r. r.listing) e in
        (λ i. judge_of (p i) (q i))
        ∙ judge_true (shorter N w T s).net (without N s) texts.in_format (shorter N w T s).listing (stated (without N s) (pruned N T s)) texts.listed (texts.legal, refl, refl)

    deletion_for : DeletionFor net listing N w T s
    deletion_for = record { kept = kept N w T s t.legal d; given = given; texts = texts; read_back = read_back }

-- ---- any two texts: judge refuses, and so does every deletion, or they are such

data Read (net listing : List ℕ) : Type 0 where
  turned : (e : Refusal) → judge_of net listing ≡ refused e → ((s net_room listing_room : ℕ) → deletion_of net listing s net_room listing_room ≡ refused e) → Read net listing
  taken : (N : Net) (w : List ℕ) (T : Tree) → TextsOf net listing N w T → Read net listing

-- the listing states its tree's own slack and wire
own_texts : (net listing : List ℕ) (N : Net) (F : InFormat net N) (G : Listing) → ListingInFormat (size N) listing G → LegalAndTrue N G → TextsOf net listing N F.weights G.tree
own_texts net listing N F G f l = record {
  in_format = F;
  weights_are = refl;
  listed = subst (ListingInFormat (size N) listing) (λ i. record { slack = l.1 i; wire = l.2 i; tree = G.tree }) f;
  legal = l.0;
}

reads : (net listing : List ℕ) → Read net listing
reads net listing = go (read_weighted net) refl
  where
    listed : (M : WeightedNet) → read_weighted net ≡ value M → (o : Outcome Listing) → accept_listing M.net listing ≡ o → Read net listing
    listed M r (refused e) q =
        turned e (judge_read net M.net (net_of_lem net M r) listing ∙ then_refused _ q)
        (λ s a b. net_read net listing s a b M.net M.weights r ∙ listing_turned M.net M.weights listing s a b e q)
    listed M r (value G) q =
        let F = (weighted_sound net M r).0 in
        let h = accepted_is M.net listing G q in
        taken M.net F.weights G.tree (own_texts net listing M.net F G h.0 h.1)

    go : (o : Outcome WeightedNet) → read_weighted net ≡ o → Read net listing
    go (refused e) r = turned e (judge_refused net e (both_refuse net e r) listing) (λ s a b. net_turned net listing s a b e r)
    go (value M) r = listed M r (accept_listing M.net listing) refl

accepted : (net listing : List ℕ) → Accepts net listing ↔ ((N : Net) × (w : List ℕ) × (T : Tree) × TextsOf net listing N w T)
accepted net listing = (to (reads net listing), λ t. (judged t.0 (stated t.0 t.2), judges net listing t.0 t.1 t.2 t.3))
  where
    to : Read net listing → Accepts net listing → (N : Net) × (w : List ℕ) × (T : Tree) × TextsOf net listing N w T
    to (turned e j x) a = never a.0 e (sym a.1 ∙ j)
    to (taken N w T t) a = (N, w, T, t)

-- ---- refusals

module _ (net listing : List ℕ) (s net_room listing_room : ℕ) where
  sound : (e : Refusal) → deletion_of net listing s net_room listing_room ≡ refused e → DeletionRefuses net listing s net_room listing_room e
  sound e h = go (reads net listing)
    where
      told_as : (f : Refusal) → refused f ≡ deletion_of net listing s net_room listing_room → DeletionRefuses net listing s net_room listing_room f → DeletionRefuses net listing s net_room listing_room e
      told_as f u r = subst (DeletionRefuses net listing s net_room listing_room) (same_refusal f e (u ∙ h)) r

      go : Read net listing → DeletionRefuses net listing s net_room listing_room e
      go (turned f j x) = told_as f (sym (x s net_room listing_room)) (DeletionRefuses.by_judge ((judge_refuses net listing f).0 j))
      go (taken N w T t) =
          sink_cases N w T s net_room listing_room (deletion_of net listing s net_room listing_room) (sym (over net listing N w T t s net_room listing_room))
          (λ n u. told_as NotASink (sym u) (DeletionRefuses.not_a_sink N w T t n))
          (λ i q u. told_as OnlySink (sym u) (DeletionRefuses.only_sink N w T t i q))
          (λ d u. fit_cases (shorter N w T s) net_room listing_room (deletion_of net listing s net_room listing_room) u (λ l v. told_as TooShort (sym v) (DeletionRefuses.too_short N w T t d l)) (λ p q v. never (shorter N w T s) e (sym v ∙ h)))

  complete : (e : Refusal) → DeletionRefuses net listing s net_room listing_room e → deletion_of net listing s net_room listing_room ≡ refused e
  complete e (DeletionRefuses.by_judge f) = go (reads net listing)
    where
      go : Read net listing → deletion_of net listing s net_room listing_room ≡ refused e
      go (turned d j x) = x s net_room listing_room ∙ ap refused (same_refusal d e (sym j ∙ (judge_refuses net listing e).1 f))
      go (taken N w T t) = never (judged N (stated N T)) e (sym (judges net listing N w T t) ∙ (judge_refuses net listing e).1 f)
  complete e (DeletionRefuses.not_a_sink N w T t n) =
      over net listing N w T t s net_room listing_room ∙ sink_cases N w T s net_room listing_room _ refl (λ m u. u) (λ i q u. absurd (n i)) (λ d u. absurd (n (d.1, d.2)))
  complete e (DeletionRefuses.only_sink N w T t i q) =
      over net listing N w T t s net_room listing_room ∙ sink_cases N w T s net_room listing_room _ refl (λ n u. absurd (n i)) (λ j r u. u) (λ d u. absurd (omega (arith, d.0)))
  complete e (DeletionRefuses.too_short N w T t d l) =
      goes net listing N w T t s d net_room listing_room ∙ fit_cases (shorter N w T s) net_room listing_room _ refl (λ m u. u) (λ p q u. absurd (long l p q))
    where
      long : (net_room < length (shorter N w T s).net) ⊎ (listing_room < length (shorter N w T s).listing) → length (shorter N w T s).net ≤ net_room → length (shorter N w T s).listing ≤ listing_room → ⊥
      long (inl h) p q = omega arith
      long (inr h) p q = omega arith

  -- what is written fits
  fits : (length (net_bytes_of (deletion_of net listing s net_room listing_room)) ≤ net_room) × (length (listing_bytes_of (deletion_of net listing s net_room listing_room)) ≤ listing_room)
  fits = go (reads net listing)
    where
      Fits : Outcome Shorter → Type 0
      Fits o = (length (net_bytes_of o) ≤ net_room) × (length (listing_bytes_of o) ≤ listing_room)

      none : (e : Refusal) → Fits (refused e)
      none e = (omega arith, omega arith)

      go : Read net listing → Fits (deletion_of net listing s net_room listing_room)
      go (turned e j x) = subst Fits (sym (x s net_room listing_room)) (none e)
      go (taken N w T t) =
          sink_cases N w T s net_room listing_room (deletion_of net listing s net_room listing_room) (sym (over net listing N w T t s net_room listing_room))
          (λ n u. subst Fits (sym u) (none NotASink))
          (λ i q u. subst Fits (sym u) (none OnlySink))
          (λ d u. fit_cases (shorter N w T s) net_room listing_room (deletion_of net listing s net_room listing_room) u (λ l v. subst Fits (sym v) (none TooShort)) (λ p q v. subst Fits (sym v) (p, q)))

-- ---- the rest

-- what judge refuses is about a text
listing_told : (n : ℕ) (e : Refusal) → ListingRefusal n e → (told e).text ≢ 0
listing_told n e ListingRefusal.too_long = λ z. omega arith
listing_told n e (ListingRefusal.not_due p q) = λ z. omega arith
listing_told n e (ListingRefusal.out_of_range p q) = λ z. omega arith
listing_told n e ListingRefusal.bytes_follow = λ z. omega arith
listing_told n e ListingRefusal.other_count = λ z. omega arith
listing_told n e (ListingRefusal.parent_sink p q) = λ z. omega arith

of_a_text : (net listing : List ℕ) (e : Refusal) → JudgeRefuses net listing e → (told e).text ≢ 0
of_a_text net listing e (JudgeRefuses.in_net f) = λ z. omega (arith, (of_net_text e (net_refused net e (((net_answered net).refuses e).1 f))).0)
of_a_text net listing e (JudgeRefuses.in_listing N F f) = listing_told (size N) e (listing_refused (size N) e listing F.in_range.sinks.0 (((listing_answered (size N) listing).refuses e).1 f))
of_a_text net listing e (JudgeRefuses.wrong_children_lem N G B v W) = λ z. omega arith
of_a_text net listing e (JudgeRefuses.not_reached N G B C v L) = λ z. omega arith
of_a_text net listing e (JudgeRefuses.other_slack N G B L m) = λ z. omega arith
of_a_text net listing e (JudgeRefuses.other_wire N G B L q m) = λ z. omega arith

outputs : (net listing : List ℕ) (s : ℕ) (net_out listing_out : List ℕ) → Outputs net listing s net_out listing_out
unfolding net_output listing_output
outputs net listing s net_out listing_out =
    let o = deletion_of net listing s (length net_out) (length listing_out) in
    let f = fits net listing s (length net_out) (length listing_out) in
    record {
      untouched = λ e h. (ap (λ o. overwritten (net_bytes_of o) net_out) h, ap (λ o. overwritten (listing_bytes_of o) listing_out) h);
      net_beyond = overwritten_beyond (net_bytes_of o) net_out;
      listing_beyond = overwritten_beyond (listing_bytes_of o) listing_out;
      same_lengths = (overwritten_length (net_bytes_of o) net_out f.0, overwritten_length (listing_bytes_of o) listing_out f.1);
    }

figures_one : (a b : Result Deleted Refusal) → deletion_figures a ≡ deletion_figures b → a ≡ b
figures_one (Ok d) (Ok f) e = λ i. Ok (record { net_bytes = (e i).net_bytes; listing_bytes = (e i).listing_bytes })
figures_one (Ok d) (Err f) e = absurd (omega (arith, numbered f, ap (λ r. r.number) e))
figures_one (Err f) (Ok d) e = absurd (omega (arith, numbered f, ap (λ r. r.number) e))
figures_one (Err f) (Err g) e = ap Err (told_one f g (λ i. record { number = (e i).number; text = (e i).text; line = (e i).line }))

pub pin_deletion_lem : PinDeletion
pin_deletion_lem = record {
  accepted = accepted;
  deletes = deletion_for;
  refuses = λ net listing s a b e. (sound net listing s a b e, complete net listing s a b e);
  judge_never = λ net listing e h. (
    (λ q. of_a_text net listing e ((judge_refuses net listing e).0 h) (ap (λ e. (told e).text) q)),
    (λ q. of_a_text net listing e ((judge_refuses net listing e).0 h) (ap (λ e. (told e).text) q)),
    λ q. of_a_text net listing e ((judge_refuses net listing e).0 h) (ap (λ e. (told e).text) q),
  );
  outputs = outputs;
  figures = figures_one;
}
