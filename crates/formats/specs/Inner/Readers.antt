-- What the answers of the readers of lines and of the net mean, by the declared types and the arrays that are filled. Definitions alone.
use Rattle.std.specs.Prelude.{ℕ, ◌+◌, ◌^◌, ◌≤◌, ◌<◌, ◌≡◌, true, List, map, length, get_or, drop, ℤ, pos, Result, Ok, Err}
use Rattle.quantities.specs.declared.metal_pair.MetalPair.{MetalPair}
use Rattle.quantities.specs.declared.point.Point.{Point}
use Rattle.quantities.specs.Inner.Linear.{up}
use Rattle.quantities.specs.Ranges.{PointWithin}
use Rattle.tree.specs.declared.header.Header.{Header}
use Rattle.tree.specs.Net.{sink_numbers}
use Rattle.tree.specs.Inner.Arrays.{point_at, net_of, weights_of}
use Rattle.tree.specs.Limits.{position_limit, sink_limit}
use Rattle.formats.specs.Outcome.{Outcome, value, refused, and_then}
use Rattle.formats.specs.NetText.{WeightedSink}
use Rattle.formats.specs.Reading.Rows.{Row, row, misspelled}
use Rattle.formats.specs.Reading.Lines.{inside, all_inside, Read, due, due_number}
use Rattle.formats.specs.Reading.Nets.{Head, due_branch, due_wire, due_need, due_count, read_rest, WeightedNet, net_with, read_weighted}
use Rattle.formats.specs.Inner.Scanning.{held}
use Rattle.formats.specs.declared.number.Number.{Number}
use Rattle.formats.specs.declared.ranges.Range.{Range}
use Rattle.formats.specs.declared.refusal.Refusal.{Refusal}
use Rattle.formats.specs.declared.refusal.Refusal.TheVariants.{NotDue}
use Rattle.formats.specs.declared.refusal.Text.TheVariants.{InNet}
use Rattle.formats.specs.declared.reader.LineReader.{LineReader}
use Rattle.formats.specs.declared.read_net.NetHead.{NetHead}

-- ---- a reader, and the line that it has come to

abbrev pub AtLine : LineReader → Type 0
AtLine r = (r.at ≤ length r.text.now) × (r.line + 1 < 2 ^ 64)

-- what is left of its text
abbrev pub ahead : LineReader → List ℕ
ahead r = drop r.at r.text.now

-- where a line starts, and its number
pub record Place : Type 0 where
  pub at : ℕ
  pub line : ℕ

abbrev pub place : LineReader → Place
place r = record { at = r.at; line = r.line }

-- the answer to a line of numbers
abbrev pub row_answer : LineReader → Row → Result (List Number) Refusal
row_answer r (row zs k) = Ok (map held zs)
row_answer r misspelled = Err (NotDue r.which r.line)

-- the reader after that: it stays where the line is not as due
abbrev pub row_moved : LineReader → Row → LineReader
row_moved r (row zs k) = record r { at = r.at + k; line = r.line + 1 }
row_moved r misspelled = r

-- some lines of the text s were read as a, and line number `line` comes next, at `next`
pub record ReadTo {A : Type 0} (o : Outcome (Read A)) (a : A) (s : List ℕ) (line : ℕ) (next : Place) : Type 0 where
  pub reads : o ≡ value (record { got = a; rest = drop next.at s })
  pub within : next.at ≤ length s
  pub line_is : next.line ≡ line

-- two readers of one text
abbrev pub SameText : LineReader → LineReader → Type 0
SameText r r' = (r'.which ≡ r.which) × (r'.text.now ≡ r.text.now)

-- ---- a line of numbers, each in its range

-- the line has the numbers zs, and the reader r has come to r' after it
pub record LineRead (key : List ℕ) (ranges : List Range) (r : LineReader) (zs : List ℤ) (r' : LineReader) : Type 0 where
  pub read_to : ReadTo (due r.which r.line key ranges (ahead r)) zs r.text.now (r.line + 1) (place r')
  pub in_ranges : all_inside ranges zs ≡ true
  pub same_text : SameText r r'

-- what an answer to it says: where it is refused the reader has stayed
abbrev pub LineSays : List ℕ → List Range → LineReader → Result (List ℤ) Refusal → LineReader → Type 0
LineSays key ranges r (Ok zs) r' = LineRead key ranges r zs r'
LineSays key ranges r (Err e) r' = (due r.which r.line key ranges (ahead r) ≡ refused e) × (r' ≡ r)

-- the same of a line of one number
pub record NumberRead (key : List ℕ) (range : Range) (r : LineReader) (z : ℤ) (r' : LineReader) : Type 0 where
  pub read_to : ReadTo (due_number r.which r.line key range (ahead r)) z r.text.now (r.line + 1) (place r')
  pub in_range : inside range z ≡ true
  pub same_text : SameText r r'

abbrev pub NumberSays : List ℕ → Range → LineReader → Result ℤ Refusal → LineReader → Type 0
NumberSays key range r (Ok z) r' = NumberRead key range r z r'
NumberSays key range r (Err e) r' = (due_number r.which r.line key range (ahead r) ≡ refused e) × (r' ≡ r)

-- ---- the head of a net

-- the head that a program holds, with n sinks
abbrev pub head_of : Header → Point → ℕ → Head
head_of h root n = record { root = root; branch = up h.branch.0; wire = h.wire; need = h.need.0; count = n }

-- the lines from `sinks=` on, where those before it are read; then from each line before it on
abbrev pub from_count : Point → ℕ → MetalPair → ℤ → List ℕ → Outcome (Read Head)
from_count root c w t s =
    and_then (due_count s) λ count.
    value (record { got = record { root = root; branch = c; wire = w; need = t; count = count.got }; rest = count.rest })

abbrev pub from_need : Point → ℕ → MetalPair → List ℕ → Outcome (Read Head)
from_need root c w s = and_then (due_need s) λ need. from_count root c w need.got need.rest

abbrev pub from_wire : Point → ℕ → List ℕ → Outcome (Read Head)
from_wire root c s = and_then (due_wire s) λ wire. from_need root c wire.got wire.rest

abbrev pub from_branch : Point → List ℕ → Outcome (Read Head)
from_branch root s = and_then (due_branch s) λ branch. from_wire root branch.got branch.rest

-- the reader is at the lines of at most so many sinks, of which line 6 is the first; the root is in range
pub record AtSinks (most : ℕ) (head : NetHead) : Type 0 where
  pub at_most : head.n ≤ most
  pub within : head.sinks.at ≤ length head.sinks.text.now
  pub line_is : head.sinks.line ≡ 6
  pub which_is : head.sinks.which ≡ InNet
  pub root_within : PointWithin position_limit head.root

-- what is left to read of the text s after its head
abbrev pub after_head : Header → Point → ℕ → List ℕ → Outcome WeightedNet
after_head h root n s = and_then (read_rest root n s) λ sinks. value (net_with (head_of h root n) sinks)

-- the head of the text s is read, with at most so many sinks
pub record HeadHeld (most : ℕ) (s : List ℕ) (head : NetHead) : Type 0 where
  pub text_is : head.sinks.text.now ≡ s
  pub reads : read_weighted s ≡ after_head head.header head.root head.n (ahead head.sinks)
  pub at_sinks : AtSinks most head

abbrev pub NetHeadSays : List ℕ → Result NetHead Refusal → Type 0
NetHeadSays s (Ok head) = HeadHeld sink_limit s head
NetHeadSays s (Err e) = read_weighted s ≡ refused e

-- ---- the sinks

-- the arrays have a place i
abbrev pub HasPlace : ℕ → List ℤ → List ℤ → List ℤ → List ℤ → Type 0
HasPlace i xs ys required weights = (i < length xs) × (i < length ys) × (i < length required) × (i < length weights)

-- the sinks that the arrays hold at the places 1 to n
abbrev pub sink_held : List ℤ → List ℤ → List ℤ → List ℤ → ℕ → WeightedSink
sink_held xs ys required weights i = record { sink = record { point = point_at xs ys i; required = get_or required i (pos 0) }; weight = up (get_or weights i (pos 0)) }

abbrev pub sinks_held : List ℤ → List ℤ → List ℤ → List ℤ → ℕ → List WeightedSink
sinks_held xs ys required weights n = map (sink_held xs ys required weights) (sink_numbers n)

-- the net that the arrays hold under the header h with its weights, or the refusal
abbrev pub net_outcome : Header → ℕ → Result Unit Refusal → List ℤ → List ℤ → List ℤ → List ℤ → Outcome WeightedNet
net_outcome h n (Ok u) xs ys required weights = value (record { net = net_of h n xs ys required; weights = weights_of n weights })
net_outcome h n (Err e) xs ys required weights = refused e
