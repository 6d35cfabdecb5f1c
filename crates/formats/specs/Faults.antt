-- The faults of the two texts: document 01, 'Refusals by text and line', with the row of 02's request 2, said of the bytes and not of a reader. Definitions alone.
use Rattle.std.specs.Prelude.{ℕ, zero, suc, ◌-◌, ◌≤◌, ◌<◌, ◌≡◌, ◌≢◌, List, [], ◌∷◌, ◌++◌, length, ℤ, pos, nat_abs, ◌≤ℤ◌}
use Rattle.quantities.specs.declared.point.Point.{Point}
use Rattle.quantities.specs.Distance.{distance}
use Rattle.tree.specs.Limits.{branch_limit, need_limit, sink_limit, slack_limit, wire_limit}
use Rattle.formats.specs.Limits.{net_length_limit, listing_length_limit, pin_limit}
use Rattle.formats.specs.Line.{line_text}
use Rattle.formats.specs.Ranges.{around, up_to, from_zero, at}
use Rattle.formats.specs.NetText.{root_key, branch_key, wire_key, need_key, sinks_key, sink_key, position_ranges, factor_ranges, sink_ranges, point_of}
use Rattle.formats.specs.ListingText.{slack_key, leaf_key, node_key, parent_range}
use Rattle.formats.specs.declared.ranges.Range.{Range}
use Rattle.formats.specs.declared.refusal.Text.{Text}
use Rattle.formats.specs.declared.refusal.Text.TheVariants.{InNet, InListing}
use Rattle.formats.specs.declared.refusal.Refusal.{Refusal}
use Rattle.formats.specs.declared.refusal.Refusal.TheVariants.{TooLong, NotDue, OutOfRange, BytesFollow, OtherCount, SinkParent, FarPin}

-- ---- a line that is due

-- what is asked of a line's numbers besides their ranges
pub data Also : Type 0 where
  nothing : Also
  -- the listing's n is the net's
  count_is : ℕ → Also
  -- P is none of the sinks 1 to n
  no_sink_lem : ℕ → Also
  -- the sink is within the pin limit of the root
  near : Point → Also

-- the numbers zs, on line l, are not what is asked, and are refused so
pub data Bars (l : ℕ) (zs : List ℤ) : Also → Refusal → Type 0 where
  -- "n is not the net's"
  other_count : {n : ℕ} → at zs 0 ≢ pos n → Bars l zs (count_is n) OtherCount
  -- "P is a sink"
  sink_parent : {n : ℕ} → pos 1 ≤ℤ at zs 0 → at zs 0 ≤ℤ pos n → Bars l zs (no_sink_lem n) (SinkParent l)
  -- 02, request 2: "A sink more than" the pin limit "from the root is refused"
  far_pin : {root : Point} → pin_limit < distance root (point_of zs) → Bars l zs (near root) (FarPin l)

-- its key, the k that is due if there is one, a range for each number after that, and what else is asked of these
pub record DueLine : Type 0 where
  pub key : List ℕ
  pub given : List ℤ
  pub ranges : List Range
  pub also : Also

-- each number in the range at its place
abbrev pub InRanges : List Range → List ℤ → Type 0
InRanges [] [] = Unit {0}
InRanges [] (z ∷ zs) = ⊥
InRanges (g ∷ gs) [] = ⊥
InRanges (g ∷ gs) (z ∷ zs) = ((g.from ≤ℤ z) × (z ≤ℤ g.to)) × InRanges gs zs

-- s begins with the line that is due, with the numbers zs, and r follows
pub record Spelled (d : DueLine) (s : List ℕ) (zs : List ℤ) (r : List ℕ) : Type 0 where
  pub count : length zs ≡ length d.ranges
  pub text : s ≡ line_text d.key (d.given ++ zs) ++ r

-- and nothing is wrong with it, as line l
pub record Good (l : ℕ) (d : DueLine) (s : List ℕ) (zs : List ℤ) (r : List ℕ) : Type 0 where
  pub spelled : Spelled d s zs r
  pub in_range : InRanges d.ranges zs
  pub not_barred : (e : Refusal) → Bars l zs d.also e → ⊥

-- what is wrong at the start of s, where line l of the text is due: "in each line 2, 3, then 7 or 8", 13 "right after 3"
pub data LineFault (t : Text) (l : ℕ) (d : DueLine) (s : List ℕ) : Refusal → Type 0 where
  -- "the line due here is missing, lacks its end byte, or has another key, shape, spelling or k than is due"
  not_due : ((zs : List ℤ) (r : List ℕ) → Spelled d s zs r → ⊥) → LineFault t l d s (NotDue t l)
  -- "a number is out of range"
  out_of_range : (zs : List ℤ) (r : List ℕ) → Spelled d s zs r → (InRanges d.ranges zs → ⊥) → LineFault t l d s (OutOfRange t l)
  barred : {e : Refusal} (zs : List ℤ) (r : List ℕ) → Spelled d s zs r → InRanges d.ranges zs → Bars l zs d.also e → LineFault t l d s e

-- ---- the lines of a text

-- which lines are due one after another: the numbers of a line may decide which come next
pub data Lines : Type 0 where
  end : Lines
  line : DueLine → (List ℤ → Lines) → Lines

-- the fault of the text s, where these lines are due from line l on: the first l-1 lines are good
pub data Fault (t : Text) : Lines → ℕ → List ℕ → Refusal → Type 0 where
  here : {d : DueLine} {next : List ℤ → Lines} {l : ℕ} {s : List ℕ} {e : Refusal} → LineFault t l d s e → Fault t (line d next) l s e
  later : {d : DueLine} {next : List ℤ → Lines} {l : ℕ} {s : List ℕ} {e : Refusal} (zs : List ℤ) (r : List ℕ) → Good l d s zs r → Fault t (next zs) (suc l) r e → Fault t (line d next) l s e
  -- "bytes follow the last line", on the line after the last
  follow : {l b : ℕ} {r : List ℕ} → Fault t end l (b ∷ r) (BytesFollow t l)

-- a key and a number for each range
abbrev pub plain : List ℕ → List Range → DueLine
plain key ranges = record { key = key; given = []; ranges = ranges; also = nothing }

-- ---- the net text

-- n lines `sink=X,Y,a,w`
abbrev pub sink_lines : Point → ℕ → Lines
sink_lines root zero = end
sink_lines root (suc n) = line (record { key = sink_key; given = []; ranges = sink_ranges; also = near root }) (λ zs. sink_lines root n)

-- `root=X,Y`, `branch=c`, `wire=h,v`, `need=t`, `sinks=n`, "then n lines `sink=X,Y,a`", with request 7's weight
abbrev pub lines_of_net : Lines
lines_of_net =
    line (plain root_key position_ranges) λ root.
    line (plain branch_key (up_to branch_limit ∷ [])) λ branch.
    line (plain wire_key factor_ranges) λ wire.
    line (plain need_key (around need_limit ∷ [])) λ need.
    line (plain sinks_key (up_to sink_limit ∷ [])) λ count.
    sink_lines (point_of root) (nat_abs (at count 0))

-- "length first; then line by line"
pub data NetFault (s : List ℕ) : Refusal → Type 0 where
  -- "the text is over its length"
  too_long : net_length_limit < length s → NetFault s (TooLong InNet)
  on_line : {e : Refusal} → length s ≤ net_length_limit → Fault InNet lines_of_net 1 s e → NetFault s e

-- ---- the listing of a net of n sinks

-- `leaf=k,P` and `node=k,P,X,Y`
abbrev pub leaf_line : ℕ → ℕ → DueLine
leaf_line n k = record { key = leaf_key; given = pos k ∷ []; ranges = parent_range n ∷ []; also = no_sink_lem n }

abbrev pub node_line : ℕ → ℕ → DueLine
node_line n k = record { key = node_key; given = pos k ∷ []; ranges = parent_range n ∷ position_ranges; also = no_sink_lem n }

-- j lines of vertices from k on, and then these lines
abbrev pub vertex_lines : (ℕ → DueLine) → ℕ → ℕ → Lines → Lines
vertex_lines due zero k rest = rest
vertex_lines due (suc j) k rest = line (due k) (λ zs. vertex_lines due j (suc k) rest)

-- `slack=W`, `wire=L`, `sinks=n`, `leaf=k,P` for k = 1 to n, `node=k,P,X,Y` for k = n+1 to 2n-1
abbrev pub lines_of_listing : ℕ → Lines
lines_of_listing n =
    line (plain slack_key (around slack_limit ∷ [])) λ slack.
    line (plain wire_key (from_zero wire_limit ∷ [])) λ wire.
    line (record { key = sinks_key; given = []; ranges = up_to sink_limit ∷ []; also = count_is n }) λ count.
    vertex_lines (leaf_line n) n 1 (vertex_lines (node_line n) (n - 1) (suc n) end)

pub data ListingFault (n : ℕ) (s : List ℕ) : Refusal → Type 0 where
  too_long : listing_length_limit < length s → ListingFault n s (TooLong InListing)
  on_line : {e : Refusal} → length s ≤ listing_length_limit → Fault InListing (lines_of_listing n) 1 s e → ListingFault n s e
