-- The three demands of the order, as statements about what the contracts of plan and judge give.
use Rattle.std.specs.Prelude.{ℕ, ◌≤◌, ◌<◌, ◌≡◌, ◌↔◌, ◌≢◌, List, ◌++◌, length, take, drop, ℤ, pos, neg_ℤ, ◌≤ℤ◌, Result}
use Rattle.tree.specs.Net.{Net, size, own_slacks}
use Rattle.tree.specs.Tree.{Tree, LegalTree}
use Rattle.tree.specs.Limits.{need_limit}
use Rattle.tree.specs.Measures.{worst_slack, wire_length}
use Rattle.tree.specs.Kraft.{IsKraftMaximum}
use Rattle.tree.specs.Settling.{plan}
use Rattle.formats.specs.Refusals.{told}
use Rattle.formats.specs.Outcome.{value, refused}
use Rattle.formats.specs.NetText.{InFormat}
use Rattle.formats.specs.ListingText.{Listing, ListingInFormat}
use Rattle.formats.specs.TextAnswers.{NetAnswered, ListingAnswered}
use Rattle.formats.specs.declared.refusal.Refusal.{Refusal}
use Rattle.formats.specs.declared.refusal.Refusal.TheVariants.{Unreachable, TooShort}
use Rattle.operations.specs.Answers.{Written, plan_of, bytes_of, plan_output, plan_listing, plan_figures, Judgement, judge_of, judge_figures}
use Rattle.operations.specs.Refusing.{NeedUnreachable, PlanRefuses, JudgeRefuses}
use Rattle.operations.specs.declared.answers.Planned.{Planned}
use Rattle.operations.specs.declared.answers.Judged.{Judged}

-- a refusal of the net text: 1 to 4 and 13, with text 1. (5 has text 1 too, but it is about the trees of a net that was read.)
abbrev pub OfNetText : Refusal → Type 0
OfNetText e = ((told e).text ≡ 1) × ((told e).number ≢ 5)

-- 1. "Any bytes and any output length get a result or a numbered refusal with its line; a refusal leaves the output untouched".
-- (That every run ends is shown with each function.)
pub record Demand1 (net listing out : List ℕ) : Type 0 where
  -- each refusal exactly for its row of 01's table
  pub plan_refuses : (e : Refusal) → (plan_of net (length out) ≡ refused e) ↔ PlanRefuses net (length out) e
  pub judge_refuses : (e : Refusal) → (judge_of net listing ≡ refused e) ↔ JudgeRefuses net listing e
  -- whatever is answered but a refusal of the net text, it is for a net in the format
  pub plan_read : ((e : Refusal) → plan_of net (length out) ≡ refused e → OfNetText e → ⊥) → (N : Net) × InFormat net N
  pub judge_read : ((e : Refusal) → judge_of net listing ≡ refused e → OfNetText e → ⊥) → (N : Net) × InFormat net N
  -- "the output is untouched."
  pub untouched : (e : Refusal) → plan_of net (length out) ≡ refused e → plan_output net out ≡ out
  -- "output bytes beyond those keep their values"
  pub beyond : drop (length (bytes_of (plan_of net (length out)))) (plan_output net out) ≡ drop (length (bytes_of (plan_of net (length out)))) out
  pub same_length : length (plan_output net out) ≡ length out

-- the figures that a caller gets tell the answers apart, a refusal from a result too
pub record Figures : Type 0 where
  pub numbered : (e : Refusal) → 1 ≤ (told e).number
  pub plan_one : (a b : Result Planned Refusal) → plan_figures a ≡ plan_figures b → a ≡ b
  pub judge_one : (a b : Result Judged Refusal) → judge_figures a ≡ judge_figures b → a ≡ b

-- the listing gives a legal tree, and its stated slack and wire are that tree's
abbrev pub LegalAndTrue : Net → Listing → Type 0
LegalAndTrue N G = LegalTree N G.tree × (G.slack ≡ worst_slack N G.tree) × (G.wire ≡ wire_length N G.tree)

-- judge accepts the listing
abbrev pub Accepts : List ℕ → List ℕ → Type 0
Accepts net listing = (j : Judgement) × (judge_of net listing ≡ value j)

-- what plan has written: the output's first bytes, as many as it tells
abbrev pub written_to : List ℕ → List ℕ → Written → List ℕ
written_to net out w = take (length w.bytes) (plan_output net out)

-- the same net with another need
abbrev pub with_need : ℤ → Net → Net
with_need t N = record { root = N.root; branch = N.branch; wire = N.wire; need = t; sinks = N.sinks }

-- 2. "Judge accepts a listing exactly when it is legal for the net and its stated slack and wire are true; every written plan is."
-- For a net in the format, and any text as the listing
pub record Demand2 (net : List ℕ) (N : Net) : Type 0 where
  pub accepted : (listing : List ℕ) → Accepts net listing ↔ ((G : Listing) × (ListingInFormat (size N) listing G × LegalAndTrue N G))
  pub measured : (listing : List ℕ) (G : Listing) → ListingInFormat (size N) listing G → (j : Judgement) → judge_of net listing ≡ value j → (j.slack ≡ worst_slack N G.tree) × (j.wire ≡ wire_length N G.tree)
  pub written : (out : List ℕ) (w : Written) → plan_of net (length out) ≡ value w → Accepts net (written_to net out w)
  -- "it does not look at need"
  pub needless : (other : List ℕ) (t : ℤ) → InFormat other (with_need t N) → (listing : List ℕ) → judge_of other listing ≡ judge_of net listing

-- 3. For every net in the format, s being its Kraft maximum
pub record Demand3 (net : List ℕ) (N : Net) (s : ℤ) : Type 0 where
  -- "every legal tree, however joined and at whatever integer points, has a worst slack of at most the Kraft maximum, and one has exactly that"
  pub bounded : (R : Tree) → LegalTree N R → worst_slack N R ≤ℤ s
  pub attained : LegalTree N (plan N) × (worst_slack N (plan N) ≡ s)
  -- "Judge returns it as `best` with every tree it accepts."
  pub best : (listing : List ℕ) (j : Judgement) → judge_of net listing ≡ value j → j.best ≡ s
  -- "Plan refuses as unreachable exactly when no legal tree has the needed slack", whatever the output's length
  pub unreachable : (room : ℕ) → (plan_of net room ≡ refused Unreachable) ↔ NeedUnreachable N
  -- "The lowest t is always reachable."
  pub lowest : N.need ≡ neg_ℤ (pos need_limit) → (room : ℕ) → plan_of net room ≢ refused Unreachable
  -- "else it refuses exactly when the output is too short"
  pub short : (room : ℕ) → plan_of net room ≢ refused Unreachable → (plan_of net room ≡ refused TooShort) ↔ (room < length (plan_listing N))
  pub otherwise : (room : ℕ) → plan_of net room ≢ refused Unreachable → plan_of net room ≢ refused TooShort → (w : Written) × (plan_of net room ≡ value w)
  -- "else it has written the listing of 01's planning, with the Kraft maximum as its slack"
  pub written : (out : List ℕ) (w : Written) → plan_of net (length out) ≡ value w
      → (plan_output net out ≡ plan_listing N ++ drop (length (plan_listing N)) out) × (w ≡ record { slack = s; wire = wire_length N (plan N); bytes = plan_listing N })
  -- "and judge accepts those bytes with the same slack and wire": those that stand in the output
  pub read_back : (out : List ℕ) (w : Written) → plan_of net (length out) ≡ value w → judge_of net (written_to net out w) ≡ value (record { slack = w.slack; wire = w.wire; best = s })

pub record Demands : Type 0 where
  pub first : (net listing out : List ℕ) → Demand1 net listing out
  pub figures : Figures
  -- every text is in its format or has one fault
  pub nets : (net : List ℕ) → NetAnswered net
  pub listings : (n : ℕ) (listing : List ℕ) → ListingAnswered n listing
  pub second : (net : List ℕ) (N : Net) → InFormat net N → Demand2 net N
  -- a Kraft maximum is there, and the demand holds of it
  pub third : (net : List ℕ) (N : Net) → InFormat net N → (s : ℤ) × (IsKraftMaximum N.branch (own_slacks N) s × Demand3 net N s)
