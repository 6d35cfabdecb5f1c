-- A line is spelled in one way: two texts that are equal and begin with lines of one key and count have the same numbers on them, and the same bytes after them. Assumes nothing.
use Prim.Native.Nat.{ℕ, ◌≤◌}
use mathlib.Core.Path.{◌≡◌, sym, ap, ap₂, ◌∙◌}
use mathlib.Core.List.{List, ◌++◌, append_cancel_left}
use lib.ListN.{length}
use lib.IntN.{ℤ}
use native.Mathlib.Omega.{arith}
use Rattle.formats.specs.Line.{line_text}
use Rattle.formats.specs.Reading.Rows.{row, line_in}
use Rattle.formats.proofs.Laws.Lines.Lines.{line_complete}

row_numbers : (xs ys : List ℤ) (i j : ℕ) → row xs i ≡ row ys j → xs ≡ ys
row_numbers xs ys i j e = cc

pub line_one : (key : List ℕ) (xs ys : List ℤ) (r q : List ℕ) → length xs ≡ length ys → 1 ≤ length xs → line_text key xs ++ r ≡ line_text key ys ++ q → (xs ≡ ys) × (r ≡ q)
line_one key xs ys r q count some e =
    let both : line_in key (length xs) (line_text key xs ++ r) ≡ line_in key (length ys) (line_text key ys ++ q) = ap₂ (line_in key) count e in
    let same : xs ≡ ys = row_numbers xs ys _ _ (sym (line_complete key xs r some) ∙ both ∙ line_complete key ys q (omega arith)) in
    (same, append_cancel_left (line_text key xs) r q (e ∙ ap (λ (zs : List ℤ). line_text key zs ++ q) (sym same)))
