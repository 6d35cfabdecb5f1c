-- The marked deletions of request 9, by computation. Assumes nothing.
use Prim.Native.Nat.{ℕ, ◌≤◌, ◌<◌}
use Prim.Native.String.{String}
use mathlib.Core.Path.{◌≡◌, refl, ap, ◌∙◌}
use mathlib.Core.Bool.{false}
use mathlib.Core.Logic.{◌⊎◌, inl, inr}
use mathlib.Core.List.{List, [], ◌∷◌}
use native.Mathlib.Omega.{arith}
use lib.ListN.{length}
use lib.IntN.{ℤ, pos}
use Rattle.quantities.specs.Delay.{delay}
use Rattle.quantities.specs.Distance.{span, distance}
use Rattle.quantities.specs.MinMax.{min_ℤ}
use Rattle.tree.specs.Net.{Net}
use Rattle.tree.specs.Measures.{worst_slack, wire_length}
use Rattle.tree.specs.Marked.{point, sink, metals, net_a}
use Rattle.formats.specs.Decimal.{digits, show_nat, show}
use Rattle.formats.specs.ListingText.{Listing, listing_text}
use Rattle.formats.specs.NetText.{net_lines}
use Rattle.formats.specs.Outcome.{Outcome, value, refused, and_then}
use Rattle.formats.specs.Reading.Numbers.{lead, natural, field}
use Rattle.formats.specs.Reading.Numbers.{value as digits_value}
use Rattle.formats.specs.Reading.Rows.{number_then, row_in, begins, line_in}
use Rattle.formats.specs.Reading.Nets.{read_weighted}
use Rattle.formats.specs.Reading.Listings.{read_listing}
use Rattle.formats.specs.declared.refusal.Text.TheVariants.{InNet}
use Rattle.formats.specs.declared.refusal.Refusal.{Refusal}
use Rattle.formats.specs.declared.refusal.Refusal.TheVariants.{NotDue, OtherSlack, OtherWire, TooShort, NotASink, OnlySink}
use Rattle.operations.specs.Accepting.{accept_tree, accept_listing}
use Rattle.operations.specs.Marked.{text_a, listing_a, stated_a}
use Rattle.pin_deletion.specs.Deletions.{Shorter, shorter, both_fit, is_sink, deleted, deletion_of}
use Rattle.pin_deletion.specs.Marked.{net_without1, net_without2, net_without3, listing_without1, listing_without2, listing_without3, net_one, listing_one, net_four, listing_four, net_four_without1, listing_four_without1, net_four_without3, listing_four_without3, Gives, Marked}
use Rattle.pin_deletion.proofs.Laws.Deletions.{both_fit_lem, fit_cases, not_a_sink, net_turned, net_read, listing_turned, listing_accepted}

-- ---- what the texts are read as

-- a net and an accepted listing over it
record Texts (net listing : List ℕ) (N : Net) (w : List ℕ) (G : Listing) : Type 0 where
  read : read_weighted net ≡ value (record { net = N; weights = w })
  taken : accept_listing N listing ≡ value G

over : {net listing : List ℕ} {N : Net} {w : List ℕ} {G : Listing} → Texts net listing N w G → (s net_room listing_room : ℕ) (o : Outcome Shorter) → deleted N w G.tree s net_room listing_room ≡ o → deletion_of net listing s net_room listing_room ≡ o
over {net = net} {listing = listing} {N = N} {w = w} {G = G} t s a b o e = net_read net listing s a b N w t.read ∙ listing_accepted N w listing s a b G t.taken ∙ e

-- its two texts without a sink that may go
gives : {net listing : List ℕ} {N : Net} {w : List ℕ} {G : Listing} → Texts net listing N w G → (s : ℕ) (net' listing' : List ℕ) → ((a b : ℕ) → deleted N w G.tree s a b ≡ both_fit (shorter N w G.tree s) a b) → shorter N w G.tree s ≡ record { net = net'; listing = listing' } → Gives net listing s net' listing'
gives t s net' listing' goes e a b p q = over t s a b _ (goes a b ∙ ap (λ t. both_fit t a b) e ∙ both_fit_lem (record { net = net'; listing = listing' }) a b p q)

listed_a : ℤ → ℕ → Listing
listed_a slack wire = record { slack = slack; wire = wire; tree = record { parents = 5 ∷ (5 ∷ (4 ∷ (0 ∷ (4 ∷ [])))); points = point (pos 4) (pos 0) ∷ (point (pos 4) (pos 0) ∷ []) } }

A : Texts text_a listing_a net_a (1 ∷ (1 ∷ (1 ∷ []))) (listed_a (pos 0) 32)
unfolding listed_a read_weighted read_listing number_then row_in begins line_in field natural digits_value lead worst_slack wire_length min_ℤ delay distance span
A = record { read = refl; taken = refl }

-- two sinks, and one
net_two : Net
net_two = record { root = point (pos 0) (pos 0); branch = 20; wire = metals 2 2; need = pos 0; sinks = sink (pos 10) (pos 0) (pos 100) ∷ (sink (pos 4) (pos 6) (pos 60) ∷ []) }

listed_two : Listing
listed_two = record { slack = pos 20; wire = 16; tree = record { parents = 3 ∷ (3 ∷ (0 ∷ [])); points = point (pos 4) (pos 0) ∷ [] } }

two : Texts net_without3 listing_without3 net_two (1 ∷ (1 ∷ [])) listed_two
unfolding net_two listed_two read_weighted read_listing number_then row_in begins line_in field natural digits_value lead worst_slack wire_length min_ℤ delay distance span
two = record { read = refl; taken = refl }

one_net : Net
one_net = record { root = point (pos 0) (pos 0); branch = 20; wire = metals 2 2; need = pos 0; sinks = sink (pos 4) (pos 6) (pos 60) ∷ [] }

listed_one : Listing
listed_one = record { slack = pos 40; wire = 10; tree = record { parents = 0 ∷ []; points = [] } }

one : Texts net_one listing_one one_net (1 ∷ []) listed_one
unfolding one_net listed_one read_weighted read_listing number_then row_in begins line_in field natural digits_value lead worst_slack wire_length min_ℤ delay distance span
one = record { read = refl; taken = refl }

-- four sinks
four_net : Net
four_net = record {
  root = point (pos 0) (pos 0);
  branch = 1;
  wire = metals 1 2;
  need = pos 500;
  sinks = sink (pos 1) (pos 0) (pos 10) ∷ (sink (pos 2) (pos 0) (pos 20) ∷ (sink (pos 3) (pos 0) (pos 30) ∷ (sink (pos 4) (pos 0) (pos 40) ∷ [])));
}

listed_four : Listing
listed_four = record {
  slack = pos 3;
  wire = 8;
  tree = record {
    parents = 6 ∷ (6 ∷ (7 ∷ (7 ∷ (0 ∷ (5 ∷ (5 ∷ []))))));
    points = point (pos 1) (pos 1) ∷ (point (pos 1) (pos 0) ∷ (point (pos 3) (pos 0) ∷ []));
  };
}

four : Texts net_four listing_four four_net (7 ∷ (8 ∷ (9 ∷ (10 ∷ [])))) listed_four
unfolding four_net listed_four read_weighted read_listing number_then row_in begins line_in field natural digits_value lead worst_slack wire_length min_ℤ delay distance span
four = record { read = refl; taken = refl }

-- ---- the deletions

a_1 : Gives text_a listing_a 1 net_without1 listing_without1
unfolding listed_a is_sink shorter net_lines listing_text digits show_nat show worst_slack wire_length min_ℤ delay distance span
a_1 = gives A 1 net_without1 listing_without1 (λ a b. refl) refl

a_2 : Gives text_a listing_a 2 net_without2 listing_without2
unfolding listed_a is_sink shorter net_lines listing_text digits show_nat show worst_slack wire_length min_ℤ delay distance span
a_2 = gives A 2 net_without2 listing_without2 (λ a b. refl) refl

a_3 : Gives text_a listing_a 3 net_without3 listing_without3
unfolding listed_a is_sink shorter net_lines listing_text digits show_nat show worst_slack wire_length min_ℤ delay distance span
a_3 = gives A 3 net_without3 listing_without3 (λ a b. refl) refl

two_1 : Gives net_without3 listing_without3 1 net_one listing_one
unfolding net_two listed_two is_sink shorter net_lines listing_text digits show_nat show worst_slack wire_length min_ℤ delay distance span
two_1 = gives two 1 net_one listing_one (λ a b. refl) refl

four_1 : Gives net_four listing_four 1 net_four_without1 listing_four_without1
unfolding four_net listed_four is_sink shorter net_lines listing_text digits show_nat show worst_slack wire_length min_ℤ delay distance span
four_1 = gives four 1 net_four_without1 listing_four_without1 (λ a b. refl) refl

four_3 : Gives net_four listing_four 3 net_four_without3 listing_four_without3
unfolding four_net listed_four is_sink shorter net_lines listing_text digits show_nat show worst_slack wire_length min_ℤ delay distance span
four_3 = gives four 3 net_four_without3 listing_four_without3 (λ a b. refl) refl

-- ---- the refusals

no_sink_lem : (s : ℕ) → is_sink 3 s ≡ false → (a b : ℕ) → deletion_of text_a listing_a s a b ≡ refused NotASink
no_sink_lem s e a b = over A s a b _ (not_a_sink net_a _ _ s a b 3 refl e)

one_only : (a b : ℕ) → deletion_of net_one listing_one 1 a b ≡ refused OnlySink
unfolding one_net is_sink
one_only a b = over one 1 a b _ refl

one_other : (a b : ℕ) → deletion_of net_one listing_one 2 a b ≡ refused NotASink
unfolding one_net is_sink
one_other a b = over one 2 a b _ refl

-- A without sink 1 into outputs of so many bytes
short_A : (a b : ℕ) → (a < length net_without1) ⊎ (b < length listing_without1) → deletion_of text_a listing_a 1 a b ≡ refused TooShort
unfolding listed_a is_sink shorter net_lines listing_text digits show_nat show worst_slack wire_length min_ℤ delay distance span
short_A a b l = over A 1 a b _ (fit_cases (record { net = net_without1; listing = listing_without1 }) a b _ refl (λ m u. u) (λ p q u. absurd (long l p q)))
  where
    long : (a < length net_without1) ⊎ (b < length listing_without1) → length net_without1 ≤ a → length listing_without1 ≤ b → ⊥
    long (inl h) p q = omega arith
    long (inr h) p q = omega arith

-- a listing of A that states another slack or wire
stated_A : (slack wire : String) (s : ℕ) (z : ℤ) (l : ℕ) (e : Refusal) → read_listing 3 (stated_a slack wire) ≡ value (listed_a z l) → accept_tree net_a (listed_a z l) ≡ refused e → deletion_of text_a (stated_a slack wire) s 0 0 ≡ refused e
stated_A slack wire s z l e r h = net_read text_a (stated_a slack wire) s 0 0 net_a _ A.read ∙ listing_turned net_a _ (stated_a slack wire) s 0 0 e (ap (λ o. and_then o (accept_tree net_a)) r ∙ h)

slack_first : deletion_of text_a (stated_a "1" "32") 0 0 0 ≡ refused OtherSlack
unfolding listed_a read_listing number_then row_in begins line_in field natural digits_value lead worst_slack wire_length min_ℤ delay distance span
slack_first = stated_A "1" "32" 0 (pos 1) 32 OtherSlack refl refl

wire_first : deletion_of text_a (stated_a "0" "31") 4 0 0 ≡ refused OtherWire
unfolding listed_a read_listing number_then row_in begins line_in field natural digits_value lead worst_slack wire_length min_ℤ delay distance span
wire_first = stated_A "0" "31" 4 (pos 0) 31 OtherWire refl refl

net_first : deletion_of [] listing_a 0 0 0 ≡ refused (NotDue InNet 1)
unfolding read_weighted number_then row_in begins line_in field natural digits_value lead
net_first = net_turned [] listing_a 0 0 0 (NotDue InNet 1) refl

pub marked_deletions : Marked
unfolding is_sink
marked_deletions = record {
  a_1 = a_1;
  a_2 = a_2;
  a_3 = a_3;
  two_1 = two_1;
  four_1 = four_1;
  four_3 = four_3;
  a_0 = no_sink_lem 0 refl;
  a_4 = no_sink_lem 4 refl;
  one_1 = one_only;
  one_2 = one_other;
  short_net = λ b. short_A 72 b (inl (omega arith));
  short_listing = λ a. short_A a 55 (inr (omega arith));
  lengths = (refl, refl);
  net_first = net_first;
  slack_first = slack_first;
  wire_first = wire_first;
}
