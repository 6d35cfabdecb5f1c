-- Numbers in a row and lines, from what reading their parts answered. Assumes nothing.
use Prim.Native.Nat.{ℕ, zero, suc, ◌+◌, ◌*◌, ◌-◌, ◌<◌, ◌≤◌}
use mathlib.Core.Path.{◌≡◌, refl, ap, sym, ◌∙◌}
use mathlib.Core.Logic.{◌⊎◌, inl, inr}
use mathlib.Core.Bool.{Bool, true, false, cond}
use mathlib.Core.List.{List, [], ◌∷◌, ◌++◌, map, append_assoc, append-nil}
use lib.ListN.{length, get_or, drop, take, set, length-set}
use lib.Seq.{drop-drop}
use lib.Dec.{ltb, eqb}
use lib.IntN.{ℤ}
use native.Mathlib.Omega.{arith}
use native.Mathlib.Nat.{add-zero}
use borrow.Author.Tests.{lt-ltb, eqb-false}
use Rattle.std.specs.Prelude.{Option, Some, None}
use Rattle.std.proofs.lemmas.List.{take_more_set, take_all}
use Rattle.formats.specs.Reading.Numbers.{Field, spelt, misspelt, is_digit, lead, value, well, natural, signing, field, signed}
use Rattle.formats.specs.Bytes.{end_byte, comma}
use Rattle.formats.specs.Reading.Rows.{stop_by, number_then, Row, row, misspelled, prepend, after, last, first, row_in, begins, line_in}
use Rattle.formats.specs.Inner.Scanning.{held_by, held, scanned_at, line_at}
use Rattle.formats.specs.declared.number.Number.{Number}
use Rattle.formats.specs.declared.scan.Scanned.{Scanned}
use Rattle.formats.proofs.Laws.Numbers.Digits.{digit_range, lead_yes, lead_no, value_cons, value_positive}
use Rattle.formats.proofs.Laws.Numbers.Spelling.{and_false, is_scanned, then_ends}

-- ---- no number that is read is -0, so none loses its sign as a whole number

abbrev Kept : Field → Type 0
Kept (spelt neg v k) = held (signed neg v) ≡ held_by neg v
Kept misspelt = Unit {0}

kept_positive : (v : ℕ) → 0 < v → held (signed true v) ≡ held_by true v
kept_positive zero h = absurd (omega arith)
kept_positive (suc v) h = refl

kept_plain : (s : List ℕ) → Kept (natural false s)
unfolding natural
kept_plain s = go (well false s (length (lead s)))
  where
    go : (t : Bool) → Kept (cond t (spelt false (value 0 (lead s)) (length (lead s))) misspelt)
    go true = refl
    go false = tt

kept_minus : (s : List ℕ) → Kept (signing (natural true s))
unfolding natural lead
kept_minus [] = tt
kept_minus (b ∷ s) = go (is_digit b) refl (eqb b 48) refl
  where
    some : ltb 0 (length (b ∷ lead s)) ≡ true
    some = lt-ltb 0 (suc (length (lead s))) (omega arith)

    go : (d : Bool) → is_digit b ≡ d → (z : Bool) → eqb b 48 ≡ z → Kept (signing (natural true (b ∷ s)))
    go true e true q = rw (natural, lead_yes b s e, some, q, and_false) tt
    go true e false q =
        let r : (48 ≤ b) × (b < 58) = digit_range b e in
        let p : 0 < 0 * 10 + (b - 48) = omega (arith, eqb-false b 48 q) in
        rw (natural, lead_yes b s e, some, q) (kept_positive (value 0 (b ∷ lead s)) (rw value_cons (value_positive _ (lead s) p)))
    go false e z q = rw (natural, lead_no b s e) tt

kept_field : (s : List ℕ) → Kept (field s)
unfolding field
kept_field s = go (eqb (get_or s 0 0) 45)
  where
    go : (t : Bool) → Kept (cond t (signing (natural true (drop 1 s))) (natural false s))
    go true = kept_minus (drop 1 s)
    go false = kept_plain s

kept_stop : (stop : ℕ) (s : List ℕ) (x : Field) → Kept x → Kept (stop_by stop s x)
kept_stop stop s misspelt h = tt
kept_stop stop s (spelt neg v k) h = go (eqb (get_or s k 0) stop)
  where
    go : (t : Bool) → Kept (cond t (spelt neg v (suc k)) misspelt)
    go true = h
    go false = tt

kept_then : (stop : ℕ) (s : List ℕ) → Kept (number_then stop s)
unfolding number_then
kept_then stop s = kept_stop stop s (field s) (kept_field s)

-- ---- the numbers of a row, after some that stand in front of them

abbrev pub in_front : List Number → Option (List Number × ℕ) → Option (List Number × ℕ)
in_front ms (Some p) = Some (ms ++ p.0, p.1)
in_front ms None = None

front_twice : (ms : List Number) (n : Number) (o : Option (List Number × ℕ)) → in_front ms (in_front (n ∷ []) o) ≡ in_front (ms ++ (n ∷ [])) o
front_twice ms n None = refl
front_twice ms n (Some p) = ap (λ (l : List Number). Some (l, p.1)) (sym (append_assoc ms (n ∷ []) p.0))

-- the last number of a row at `at`, and one number more before a row that starts where it ends
module _ (at : ℕ) where
  last_wrong : (x : Field) → None ≡ scanned_at at x → line_at at (last x) ≡ None
  last_wrong misspelt e = refl
  last_wrong (spelt neg v j) e = cc

  last_right : (x : Field) → Kept x → (r : Scanned) → Some r ≡ scanned_at at x → line_at at (last x) ≡ Some (r.number ∷ [], r.next)
  last_right misspelt h r e = cc
  last_right (spelt neg v j) h r e = rw (is_scanned at neg v j r e, h)

  module _ (f : ℕ → Row) where
    first_wrong : (x : Field) → None ≡ scanned_at at x → line_at at (first x (λ j. f (at + j))) ≡ None
    first_wrong misspelt e = refl
    first_wrong (spelt neg v j) e = cc

    prepend_front : (z : ℤ) (j : ℕ) (r : Row) → line_at at (prepend z j r) ≡ in_front (held z ∷ []) (line_at (at + j) r)
    prepend_front z j misspelled = refl
    prepend_front z j (row zs m) = ap (λ (n : ℕ). Some (held z ∷ map held zs, n)) (omega arith)

    first_right : (x : Field) → Kept x → (r : Scanned) → Some r ≡ scanned_at at x → line_at at (first x (λ j. f (at + j))) ≡ in_front (r.number ∷ []) (line_at r.next (f r.next))
    first_right misspelt h r e = cc
    first_right (spelt neg v j) h r e = rw (is_scanned at neg v j r e) (prepend_front (signed neg v) j (f (at + j)) ∙ rw h)

-- ---- a row that is read number by number

-- the stop after number k of n: a comma, or the end byte after the last
abbrev pub Stops : ℕ → ℕ → ℕ → Type 0
Stops n k stop = ((k + 1 < n) × (stop ≡ comma)) ⊎ ((n ≤ k + 1) × (stop ≡ end_byte))

-- what is left of a row to read
abbrev left : ℕ → List ℕ → Row
left zero s = row [] 0
left (suc k) s = row_in (suc k) s

-- k numbers of a row of n at `at` are read, and the next one stands at `here`
pub record RowSoFar (n : ℕ) (s : List ℕ) (at : ℕ) (numbers : List Number) (here k : ℕ) : Type 0 where
  pub within : here ≤ length s
  pub few : k ≤ n
  pub long : length numbers ≡ n
  pub answer : line_at at (row_in n (drop at s)) ≡ in_front (take k numbers) (line_at here (left (n - k) (drop here s)))

left_all : (n : ℕ) (s : List ℕ) → 1 ≤ n → left n s ≡ row_in n s
left_all zero s h = absurd (omega arith)
left_all (suc n) s h = refl

front_none : (o : Option (List Number × ℕ)) → in_front [] o ≡ o
front_none None = refl
front_none (Some p) = refl

pub row_start : (n : ℕ) (s : List ℕ) (at : ℕ) (numbers : List Number) → 1 ≤ n → at ≤ length s → length numbers ≡ n → RowSoFar n s at numbers at 0
row_start n s at numbers h b l =
    let z : n - 0 ≡ n = omega arith in
    record {
      within = b;
      few = omega arith;
      long = l;
      answer = rw z (ap (line_at at) (sym (left_all n (drop at s) h)) ∙ sym (front_none _));
    }

left_last : (m : ℕ) (s : List ℕ) → m ≡ 1 → left m s ≡ last (number_then end_byte s)
unfolding row_in
left_last m s e = rw e

left_more : (m : ℕ) (s : List ℕ) (at : ℕ) → 2 ≤ m → left m (drop at s) ≡ first (number_then comma (drop at s)) (λ j. left (m - 1) (drop (at + j) s))
unfolding row_in
left_more zero s at h = absurd (omega arith)
left_more (suc zero) s at h = absurd (omega arith)
left_more (suc (suc m)) s at h =
    let q : suc (suc m) - 1 ≡ suc m = omega arith in
    simp (q, drop-drop)

module _ (n : ℕ) (s : List ℕ) (at : ℕ) (numbers : List Number) (here k : ℕ) (g : RowSoFar n s at numbers here k) (b : k < n) where
  -- the number at `here` is misspelt
  pub row_wrong : (stop : ℕ) → Stops n k stop → None ≡ scanned_at here (number_then stop (drop here s)) → None ≡ line_at at (row_in n (drop at s))
  row_wrong stop (inl t) e =
      let w : None ≡ scanned_at here (number_then comma (drop here s)) = rw t.1 at e in
      sym (g.answer ∙ ap (in_front (take k numbers)) (ap (line_at here) (left_more (n - k) s here (omega arith)) ∙ first_wrong here (λ j. left (n - k - 1) (drop j s)) (number_then comma (drop here s)) w))
  row_wrong stop (inr t) e =
      let w : None ≡ scanned_at here (number_then end_byte (drop here s)) = rw t.1 at e in
      sym (g.answer ∙ ap (in_front (take k numbers)) (ap (line_at here) (left_last (n - k) (drop here s) (omega arith)) ∙ last_wrong here (number_then end_byte (drop here s)) w))

  module _ (r : Scanned) where
    -- the numbers with it, before what is left
    more : line_at here (left (n - k) (drop here s)) ≡ in_front (r.number ∷ []) (line_at r.next (left (n - (k + 1)) (drop r.next s))) → line_at at (row_in n (drop at s)) ≡ in_front (take (k + 1) (set numbers k r.number)) (line_at r.next (left (n - (k + 1)) (drop r.next s)))
    more e =
        g.answer
        ∙ ap (in_front (take k numbers)) e
        ∙ front_twice (take k numbers) r.number _
        ∙ ap (λ l. in_front l (line_at r.next (left (n - (k + 1)) (drop r.next s)))) (sym (take_more_set numbers k r.number (omega (arith, g.long))))

    pub row_more : (stop : ℕ) → Stops n k stop → Some r ≡ scanned_at here (number_then stop (drop here s)) → RowSoFar n s at (set numbers k r.number) r.next (k + 1)
    row_more stop t e = record {
      within = then_ends s here stop r e (positive t);
      few = omega arith;
      long = rw length-set g.long;
      answer = more (step t);
    }
      where
        positive : Stops n k stop → 0 < stop
        positive (inl t) = omega (arith, t.1)
        positive (inr t) = omega (arith, t.1)

        step : Stops n k stop → line_at here (left (n - k) (drop here s)) ≡ in_front (r.number ∷ []) (line_at r.next (left (n - (k + 1)) (drop r.next s)))
        step (inl t) =
            let w : Some r ≡ scanned_at here (number_then comma (drop here s)) = rw t.1 at e in
            let m : n - k - 1 ≡ n - (k + 1) = omega arith in
            ap (line_at here) (left_more (n - k) s here (omega arith))
            ∙ first_right here (λ j. left (n - k - 1) (drop j s)) (number_then comma (drop here s)) (kept_then comma (drop here s)) r w
            ∙ ap (λ m. in_front (r.number ∷ []) (line_at r.next (left m (drop r.next s)))) m
        step (inr t) =
            let w : Some r ≡ scanned_at here (number_then end_byte (drop here s)) = rw t.1 at e in
            let m : n - (k + 1) ≡ 0 = omega arith in
            ap (line_at here) (left_last (n - k) (drop here s) (omega arith))
            ∙ last_right here (number_then end_byte (drop here s)) (kept_then end_byte (drop here s)) r w
            ∙ rw (m, add-zero)

pub row_all : (n : ℕ) (s : List ℕ) (at : ℕ) (numbers : List Number) (here k : ℕ) → RowSoFar n s at numbers here k → n ≤ k → Some (numbers, here) ≡ line_at at (row_in n (drop at s))
row_all n s at numbers here k g h =
    let m : n - k ≡ 0 = omega arith in
    let e : take k numbers ≡ numbers = take_all k numbers (omega (arith, g.long)) in
    sym (g.answer ∙ rw (m, e, add-zero, append-nil))

-- ---- a line at a position

after_at : (at j : ℕ) (r : Row) → line_at (at + j) r ≡ line_at at (after j r)
after_at at j misspelled = refl
after_at at j (row zs m) = ap (λ (n : ℕ). Some (map held zs, n)) (omega arith)

module _ (key s : List ℕ) (at c : ℕ) where
  pub line_wrong : begins key (drop at s) ≡ false → None ≡ line_at at (line_in key c (drop at s))
  unfolding line_in
  line_wrong e = rw (line_in, e)

  pub line_right : begins key (drop at s) ≡ true → line_at (at + length key) (row_in c (drop (at + length key) s)) ≡ line_at at (line_in key c (drop at s))
  unfolding line_in
  line_right e = after_at at (length key) (row_in c (drop (at + length key) s)) ∙ rw (line_in, e, drop-drop)
