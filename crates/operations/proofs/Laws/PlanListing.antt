-- The listing of a plan is in the format of listings, for every net in range. Assumes nothing.
use Prim.Native.Nat.{ℕ, suc, ◌+◌, ◌*◌, ◌<◌}
use mathlib.Core.Path.{subst}
use native.Mathlib.Omega.{arith}
use Rattle.quantities.specs.Inner.Linear.{whole}
use Rattle.quantities.specs.Ranges.{Within, PointWithin}
use Rattle.tree.specs.Net.{Net, size}
use Rattle.tree.specs.Tree.{Tree, LegalTree, place}
use Rattle.tree.specs.Limits.{position_limit, need_limit, slack_limit, InRange}
use Rattle.tree.specs.Measures.{worst_slack}
use Rattle.tree.specs.Planning.{tie_rule}
use Rattle.tree.specs.Settling.{plan}
use Rattle.tree.proofs.Laws.Settling.SlackKept.{place_node}
use Rattle.tree.proofs.Laws.Planning.AnyTieRule.{plan_legal}
use Rattle.tree.proofs.Laws.Measures.FiguresInRange.{plan_within, legal_wire_range, slack_range}
use Rattle.formats.specs.ListingText.{ListingInRange, ListingInFormat}
use Rattle.operations.specs.Answers.{stated, planned, plan_listing}
use Rattle.formats.proofs.Laws.Lines.Elements.{All, all_at, all_of}
use Rattle.formats.proofs.Laws.TextLengths.{listing_in_format}

-- the listing of any legal tree whose vertices and figures are in range
pub stated_in_range : (N : Net) → InRange N → (T : Tree) → LegalTree N T → ((v : ℕ) → v < 2 * size N → PointWithin position_limit (place N T v)) → Within slack_limit (worst_slack N T) → ListingInRange (size N) (stated N T)
stated_in_range N R T L within w = record {
  slack = w;
  wire = legal_wire_range N R T L within;
  sinks = R.sinks;
  parents_all = L.shape.size;
  points_all = L.placed;
  parents = L.shape.inside;
  points = λ i l. all_at (PointWithin position_limit) T.points near i _ l;
}
  where
    near : All (PointWithin position_limit) T.points
    near = all_of (PointWithin position_limit) T.points N.root (λ i l. subst (PointWithin position_limit) (place_node N T i) (within (suc (size N + i)) (omega (arith, L.placed, R.sinks))))

module _ (N : Net) (R : InRange N) where
  pub planned_legal : LegalTree N (plan N)
  unfolding plan
  planned_legal = plan_legal N R.branch.0 R.sinks.0 tie_rule

  pub plan_in_range : ListingInRange (size N) (planned N)
  unfolding plan
  plan_in_range =
      let w : Within need_limit (worst_slack N (plan N)) = slack_range tie_rule N R in
      stated_in_range N R (plan N) planned_legal (plan_within tie_rule N R) (omega (arith, whole))

  pub plan_listing_lem : ListingInFormat (size N) (plan_listing N) (planned N)
  unfolding plan_listing
  plan_listing_lem = listing_in_format (size N) (planned N) plan_in_range
