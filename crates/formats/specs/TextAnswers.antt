-- What reading the two texts comes to: each is refused exactly for its fault and read exactly where it is in the format, so that the readers need not be believed.
use Rattle.std.specs.Prelude.{ℕ, ◌≡◌, ◌⊎◌, ◌↔◌, List}
use Rattle.tree.specs.Net.{Net}
use Rattle.formats.specs.Outcome.{value, refused}
use Rattle.formats.specs.NetText.{InFormat}
use Rattle.formats.specs.ListingText.{Listing, NoSinkParent, ListingInFormat}
use Rattle.formats.specs.Faults.{NetFault, ListingFault}
use Rattle.formats.specs.Reading.Nets.{read_weighted, read_net}
use Rattle.formats.specs.Reading.Listings.{read_listing}
use Rattle.formats.specs.declared.refusal.Refusal.{Refusal}

-- a net text is refused exactly for its fault and read exactly where it is in the format; it has one answer
pub record NetAnswered (s : List ℕ) : Type 0 where
  pub refuses : (e : Refusal) → (read_net s ≡ refused e) ↔ NetFault s e
  pub reads : (N : Net) → (read_net s ≡ value N) ↔ InFormat s N
  -- and so are its weights
  pub weighs : (N : Net) (f : InFormat s N) → read_weighted s ≡ value (record { net = N; weights = f.weights })
  pub either : ((N : Net) × InFormat s N) ⊎ ((e : Refusal) × NetFault s e)
  pub not_both : (N : Net) (e : Refusal) → InFormat s N → NetFault s e → ⊥
  pub one_net_lem : (N M : Net) → InFormat s N → InFormat s M → N ≡ M
  pub one_weighing : (N : Net) (f g : InFormat s N) → f.weights ≡ g.weights
  pub one_fault : (e f : Refusal) → NetFault s e → NetFault s f → e ≡ f

-- the same of a listing of a net of n sinks; a parent that is a sink is a fault of a text in the format
pub record ListingAnswered (n : ℕ) (s : List ℕ) : Type 0 where
  pub refuses : (e : Refusal) → (read_listing n s ≡ refused e) ↔ ListingFault n s e
  pub reads : (G : Listing) → (read_listing n s ≡ value G) ↔ (ListingInFormat n s G × NoSinkParent n G.tree.parents)
  pub either : ((G : Listing) × (ListingInFormat n s G × NoSinkParent n G.tree.parents)) ⊎ ((e : Refusal) × ListingFault n s e)
  pub not_both : (G : Listing) (e : Refusal) → ListingInFormat n s G → NoSinkParent n G.tree.parents → ListingFault n s e → ⊥
  pub one_listing : (G H : Listing) → ListingInFormat n s G → ListingInFormat n s H → G ≡ H
  pub one_fault : (e f : Refusal) → ListingFault n s e → ListingFault n s f → e ≡ f
