-- What plan has written for an accepted net is the planned tree's listing, and no other. Assumes nothing.
use Prim.Native.Nat.{ℕ}
use mathlib.Core.Path.{◌≡◌, refl, sym, ◌∙◌, subst}
use mathlib.Core.List.{List}
use lib.ListN.{length, take, drop}
use lib.Seq.{take_at}
use lib.IntN.{ℤ}
use Rattle.tree.specs.Net.{Net, size}
use Rattle.tree.specs.Measures.{wire_length}
use Rattle.tree.specs.Settling.{plan}
use Rattle.formats.specs.NetText.{InFormat}
use Rattle.formats.specs.ListingText.{Listing, ListingInFormat}
use Rattle.formats.specs.Outcome.{value}
use Rattle.formats.proofs.Laws.Listings.ListingTexts.{listing_one_lem}
use Rattle.operations.specs.Answers.{Written, planned, plan_listing, plan_of}
use Rattle.operations.specs.Demands.{written_to, Demand3}
use Rattle.operations.proofs.Laws.Answers.{plan_written}
use Rattle.operations.proofs.Laws.Demands.{demands}
use Rattle.operations.proofs.Laws.PlanListing.{plan_listing_lem}
use Rattle.invariance.specs.NothingLost.{AcceptedNet}

module _ (net out : List ℕ) (N : Net) (F : InFormat net N) (w : Written) (z : plan_of net (length out) ≡ value w) where
  abbrev best : ℤ
  best = (demands.third net N F).0

  third : Demand3 net N best
  third = (demands.third net N F).1.1

  pub answer_is : w ≡ plan_written N
  answer_is = (third.written out w z).1 ∙ (λ i. record { slack = sym third.attained.1 i; wire = wire_length N (plan N); bytes = plan_listing N })

  stands : written_to net out w ≡ plan_listing N
  stands = (λ i. take (length (answer_is i).bytes) ((third.written out w z).0 i)) ∙ take_at (plan_listing N) (drop (length (plan_listing N)) out) (length (plan_listing N)) refl

  written : ListingInFormat (size N) (written_to net out w) (planned N)
  written = subst (λ s. ListingInFormat (size N) s (planned N)) (sym stands) (plan_listing_lem N F.in_range)

  pub listing_is : (G : Listing) → ListingInFormat (size N) (written_to net out w) G → G ≡ planned N
  listing_is G L = listing_one_lem (size N) (written_to net out w) G (planned N) L written

  pub accepts : AcceptedNet net out N w (planned N)
  accepts = record { in_format = F; answer = z; listing = written }
