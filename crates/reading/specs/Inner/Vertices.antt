-- What the answers to the lines of a listing mean, by the declared types. Definitions alone.
use Rattle.std.specs.Prelude.{ℕ, ◌+◌, ◌*◌, ◌≤◌, ◌<◌, ◌≡◌, cond, ◌&&◌, List, [], ◌∷◌, length, ℤ, pos, Result, Ok, Err}
use Rattle.std.specs.Int.Signed.{le_z}
use Rattle.tree.specs.Tree.{Tree}
use Rattle.tree.specs.Limits.{sink_limit}
use Rattle.tree.specs.Inner.Arrays.{tree_of}
use Rattle.tree.specs.declared.measures.Measures.{Measures}
use Rattle.formats.specs.Outcome.{Outcome, value, refused}
use Rattle.formats.specs.Reading.Lines.{all_inside, Read}
use Rattle.formats.specs.Reading.Listings.{Stated, Vertex}
use Rattle.formats.specs.Inner.Readers.{ReadTo, place, SameText}
use Rattle.formats.specs.declared.ranges.Range.{Range}
use Rattle.formats.specs.declared.refusal.Text.TheVariants.{InListing}
use Rattle.formats.specs.declared.refusal.Refusal.{Refusal}
use Rattle.formats.specs.declared.refusal.Refusal.TheVariants.{NotDue, OutOfRange}
use Rattle.formats.specs.declared.reader.LineReader.{LineReader}
use Rattle.reading.specs.declared.read_listing.Vertex.{Vertex as VertexRead}

-- the reader stands at line l of a listing
abbrev pub AtLineOf : ℕ → LineReader → Type 0
AtLineOf l r = (r.at ≤ length r.text.now) × (r.line ≡ l) × (r.which ≡ InListing)

-- the line of vertex k of n sinks comes next
abbrev pub AtVertex : ℕ → ℕ → LineReader → Type 0
AtVertex n k r = AtLineOf (k + 3) r × (1 ≤ n) × (n ≤ sink_limit) × (k < 2 * n)

-- an answer to some lines that come to the outcome o: f tells what was read, and the reader, now r', stands at line l of its text
abbrev pub Says : {A B : Type 0} → Outcome (Read A) → (B → A) → ℕ → LineReader → Result B Refusal → LineReader → Type 0
Says o f l r (Ok b) r' = ReadTo o (f b) r.text.now l (place r') × SameText r r'
Says o f l r (Err e) r' = o ≡ refused e

abbrev pub stated_by : Measures → Stated
stated_by m = record { slack = m.slack.0; wire = m.wire.0 }

-- a leaf by its parent alone; a node
abbrev pub leaf_told : ℕ → Vertex
leaf_told p = record { parent = p; point = record { x = pos 0; y = pos 0 } }

abbrev pub node_told : VertexRead → Vertex
node_told v = record { parent = v.parent; point = v.point }

-- what the numbers of line l say after the first, which is k: each is in its range
abbrev pub after_first : ℕ → ℕ → List Range → List ℤ → Result (List ℤ) Refusal
after_first l k ranges [] = Err (NotDue InListing l)
after_first l k ranges (z ∷ zs) = cond (le_z z (pos k) && le_z (pos k) z) (cond (all_inside ranges zs) (Ok zs) (Err (OutOfRange InListing l))) (Err (NotDue InListing l))

-- the tree that the arrays hold, or the refusal
abbrev pub tree_outcome : ℕ → Result Unit Refusal → List ℕ → List ℤ → List ℤ → Outcome Tree
tree_outcome n (Ok u) parents xs ys = value (tree_of n parents xs ys)
tree_outcome n (Err e) parents xs ys = refused e
