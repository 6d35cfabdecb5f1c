-- A line that is due, from the answer to it: what is read of a row whose numbers were found in their ranges. Assumes nothing.
use Prim.Native.Nat.{ℕ, ◌+◌, ◌≤◌}
use mathlib.Core.Path.{◌≡◌, refl}
use mathlib.Core.Bool.{Bool, true, false, cond, ◌&&◌, false≢true}
use mathlib.Core.List.{List, ◌∷◌, map}
use lib.ListN.{length, length-drop}
use lib.Seq.{drop-drop}
use native.Mathlib.Omega.{arith}
use lib.IntN.{ℤ}
use lib.Signed.{le_z, ◌≤ℤ◌}
use Rattle.quantities.specs.Inner.Linear.{whole}
use Rattle.quantities.specs.Ranges.{PointWithin}
use Rattle.tree.specs.Limits.{position_limit}
use Rattle.std.specs.Prelude.{Option, Some, None, Ok}
use Rattle.std.specs.Option.{ok_or}
use Rattle.formats.specs.Ranges.{around}
use Rattle.formats.specs.Reading.Rows.{Row, row, misspelled, line_in}
use Rattle.formats.specs.Reading.Lines.{inside, all_inside, ranged}
use Rattle.formats.specs.Inner.Scanning.{held}
use Rattle.formats.specs.Inner.Readers.{ahead, row_answer, row_moved, LineRead}
use Rattle.formats.specs.declared.ranges.Range.{Range}
use Rattle.formats.specs.declared.number.Number.{Number}
use Rattle.formats.specs.declared.reader.LineReader.{LineReader}
use Rattle.formats.proofs.Laws.Lines.Lines.{line_sound, line_progress}

-- ---- a number in a range is between its ends

pub and_first : (a b : Bool) → (a && b) ≡ true → a ≡ true
and_first true b e = refl
and_first false b e = e

pub and_second : (a b : Bool) → (a && b) ≡ true → b ≡ true
and_second true b e = e
and_second false b e = absurd (false≢true e)

pub inside_bounds : (r : Range) (z : ℤ) → inside r z ≡ true → (r.from ≤ℤ z) × (z ≤ℤ r.to)
inside_bounds r z e =
    let a : le_z r.from z ≡ true = and_first (le_z r.from z) (le_z z r.to) e in
    let b : le_z z r.to ≡ true = and_second (le_z r.from z) (le_z z r.to) e in
    (omega (arith, whole), omega (arith, whole))

-- the point of a line whose first two numbers are a position
pub point_within : (ranges : List Range) (x y : ℤ) (zs : List ℤ) → all_inside (around position_limit ∷ (around position_limit ∷ ranges)) (x ∷ (y ∷ zs)) ≡ true → PointWithin position_limit (record { x = x; y = y })
point_within ranges x y zs e =
    let f = and_second (inside (around position_limit) x) _ e in
    (inside_bounds (around position_limit) x (and_first _ _ e), inside_bounds (around position_limit) y (and_first _ _ f))

-- ---- a row that was read

-- the line at the reader is spelt as due, with the numbers zs, of which the reader holds ns
pub record IsRow (key : List ℕ) (k : ℕ) (r : LineReader) (ns : List Number) (r' : LineReader) : Type 0 where
  pub zs : List ℤ
  pub j : ℕ
  pub there : line_in key k (ahead r) ≡ row zs j
  pub numbers : ns ≡ map held zs
  pub moved : r' ≡ record r { at = r.at + j; line = r.line + 1 }
  pub count : length zs ≡ k

pub right_row : (key : List ℕ) (k : ℕ) (r : LineReader) (ns : List Number) (r' : LineReader)
    → Ok ns ≡ row_answer r (line_in key k (ahead r)) → r' ≡ row_moved r (line_in key k (ahead r)) → IsRow key k r ns r'
right_row key k r ns r' = go (line_in key k (ahead r)) refl
  where
    go : (x : Row) → line_in key k (ahead r) ≡ x → Ok ns ≡ row_answer r x → r' ≡ row_moved r x → IsRow key k r ns r'
    go misspelled f e m = absurd (let z : ◌≡◌ {A = ℕ} 0 1 = cc in omega arith)
    go (row zs j) f e m = record { zs = zs; j = j; there = f; numbers = (let q : ns ≡ map held zs = cc in q); moved = m; count = (line_sound key k (ahead r) zs j f).0 }

pub ok_some : {A E : Type 0} (o : Option A) (e : E) (x : A) → Ok x ≡ ok_or o e → Some x ≡ o
ok_some (Some y) e x h = cc
ok_some None e x h = cc

-- what is read of it where its numbers are in range, and where the reader stands then
module _ (key : List ℕ) (ranges : List Range) (r : LineReader) (ns : List Number) (r' : LineReader) (k : ℕ) (count : length ranges ≡ k) (w : IsRow key k r ns r') (within : r.at ≤ length r.text.now) (zs : List ℤ)
    (found : (ys : List ℤ) → ns ≡ map held ys → ◌≡◌ {A = Option (List ℤ)} (Some zs) (cond (all_inside ranges ys) (Some ys) None)) where
  all_found : (t : Bool) → all_inside ranges w.zs ≡ t → (zs ≡ w.zs) × (all_inside ranges w.zs ≡ true)
  all_found true e = let u : Some zs ≡ Some w.zs = rw e at (found w.zs w.numbers) in (cc, e)
  all_found false e = let u : Some zs ≡ None = rw e at (found w.zs w.numbers) in absurd (let z : ◌≡◌ {A = ℕ} 0 1 = cc in omega arith)

  pub line_read : LineRead key ranges r zs r'
  line_read =
      let a = all_found _ refl in
      let p = line_progress key k (ahead r) w.zs w.j w.there in
      let d : length (ahead r) ≡ _ = length-drop r.at r.text.now in
      rw (w.moved, a.0) (record {
        read_to = record {
          reads = rw (count, w.there, ranged, a.1, drop-drop);
          within = omega (arith, p, d);
          line_is = refl;
        };
        in_ranges = a.1;
        same_text = (refl, refl);
      })
