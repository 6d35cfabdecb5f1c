-- What the tests of a number's spelling say. Assumes nothing.
use Prim.Native.Nat.{ℕ, suc, ◌+◌, ◌-◌, ◌<◌, ◌≤◌}
use mathlib.Core.Path.{◌≡◌, refl, ap, sym, ◌∙◌}
use mathlib.Core.Logic.{⊎_elim}
use mathlib.Core.Bool.{Bool, true, false, not, ◌&&◌, false≢true}
use mathlib.Core.List.{List}
use lib.ListN.{length, get_or, drop, length-drop, get_or-eq_default}
use lib.Seq.{get_or-drop, drop-drop}
use lib.Dec.{ltb, eqb}
use native.Mathlib.Omega.{arith}
use native.Mathlib.Nat.{add-zero, eq-zero-or-pos}
use borrow.Author.Tests.{lt-ltb, le-ltb, eq-eqb, ne_eqb, eqb-true}
use Rattle.std.specs.Prelude.{Option, Some, None}
use Rattle.formats.specs.Reading.Numbers.{Field, spelt, misspelt, lead, well, natural, signing, field}
use Rattle.formats.specs.Reading.Rows.{stop_by, number_then}
use Rattle.formats.specs.Inner.Scanning.{held_by, run_at, scanned_at}
use Rattle.formats.specs.declared.number.Number.{Number}
use Rattle.formats.specs.declared.scan.Scanned.{Scanned}
use Rattle.formats.proofs.Laws.Numbers.Digits.{lead_short}

first_at : (s : List ℕ) (at : ℕ) → get_or (drop at s) 0 0 ≡ get_or s at 0
first_at s at = rw (get_or-drop, add-zero)

pub and_false : (b : Bool) → b && false ≡ false
and_false true = refl
and_false false = refl

-- two numbers that are not the same, and two that are
pub unequal : (a b : ℕ) → not (eqb a b) ≡ true → a ≡ b → ⊥
unequal a b e q = let f : not true ≡ true = rw (eq-eqb a b q) at e in false≢true f

pub equal : (a b : ℕ) → not (eqb a b) ≡ false → a ≡ b
equal a b e = go (eqb a b) refl e
  where
    go : (t : Bool) → eqb a b ≡ t → not t ≡ false → a ≡ b
    go true q e = eqb-true a b q
    go false q e = absurd (false≢true (sym e))

-- ---- a run of digits as a number

module _ (neg : Bool) (s : List ℕ) (at : ℕ) where
  is_misspelt : well neg (drop at s) (length (lead (drop at s))) ≡ false → None ≡ scanned_at at (natural neg (drop at s))
  unfolding natural
  is_misspelt h = rw (natural, h)

  is_spelt : (r : Scanned) → r ≡ run_at neg s at → well neg (drop at s) (length (lead (drop at s))) ≡ true → Some r ≡ scanned_at at (natural neg (drop at s))
  unfolding natural
  is_spelt r e h = rw (natural, h, e)

  module _ (r : Scanned) (e : r ≡ run_at neg s at) where
    ended : r.next ≡ at + length (lead (drop at s))
    ended = ap (λ (x : Scanned). x.next) e

    -- where digits were found, the text goes on
    pub run_within : at ≤ length s → (r.next ≡ at → ⊥) → at < length s
    run_within h k = omega (arith, ended, lead_short (drop at s), length-drop at s)

    pub by_none : r.next ≡ at → None ≡ scanned_at at (natural neg (drop at s))
    by_none h = is_misspelt (rw (le-ltb 0 (length (lead (drop at s))) (omega (arith, ended))))

    some : (r.next ≡ at → ⊥) → ltb 0 (length (lead (drop at s))) ≡ true
    some k = lt-ltb 0 (length (lead (drop at s))) (omega (arith, ended))

    pub by_sign : (r.next ≡ at → ⊥) → get_or s at 0 ≡ 48 → neg ≡ true → None ≡ scanned_at at (natural neg (drop at s))
    by_sign k z n = is_misspelt (rw (some k, first_at s at, z, n) (and_false (eqb (length (lead (drop at s))) 1)))

    pub by_long : (r.next ≡ at → ⊥) → get_or s at 0 ≡ 48 → (r.next ≡ at + 1 → ⊥) → None ≡ scanned_at at (natural neg (drop at s))
    by_long k z l = is_misspelt (rw (some k, first_at s at, z, ne_eqb (length (lead (drop at s))) 1 (λ q. omega (arith, ended))))

    pub by_zero : (r.next ≡ at → ⊥) → get_or s at 0 ≡ 48 → neg ≡ false → r.next ≡ at + 1 → Some r ≡ scanned_at at (natural neg (drop at s))
    by_zero k z n l = is_spelt r e (rw (some k, first_at s at, z, eq-eqb (length (lead (drop at s))) 1 (omega (arith, ended)), n))

    pub by_plain : (r.next ≡ at → ⊥) → (get_or s at 0 ≡ 48 → ⊥) → Some r ≡ scanned_at at (natural neg (drop at s))
    by_plain k z = is_spelt r e (rw (some k, first_at s at, ne_eqb (get_or s at 0) 48 z))

-- ---- the sign

abbrev pub scanned : Number → ℕ → Option Scanned
scanned n k = Some (record { number = n; next = k })

signing_at : (at : ℕ) (x : Field) → scanned_at (at + 1) x ≡ scanned_at at (signing x)
signing_at at misspelt = refl
signing_at at (spelt neg v k) = ap (λ (n : ℕ). scanned (held_by neg v) n) (omega arith)

module _ (s : List ℕ) (at : ℕ) where
  pub by_minus : get_or s at 0 ≡ 45 → scanned_at (at + 1) (natural true (drop (at + 1) s)) ≡ scanned_at at (field (drop at s))
  unfolding field
  by_minus h = signing_at at (natural true (drop (at + 1) s)) ∙ rw (field, first_at s at, h, drop-drop)

  pub by_digit : (get_or s at 0 ≡ 45 → ⊥) → scanned_at at (natural false (drop at s)) ≡ scanned_at at (field (drop at s))
  unfolding field
  by_digit h = rw (field, first_at s at, ne_eqb (get_or s at 0) 45 h)

  pub past_end : length s ≤ at → get_or s at 0 ≡ 45 → ⊥
  past_end h e = omega (arith, get_or-eq_default s 0 h)

-- ---- the byte after a number

-- what is scanned of a number that is spelt
pub is_scanned : (at : ℕ) (neg : Bool) (v k : ℕ) (r : Scanned) → Some r ≡ scanned_at at (spelt neg v k) → r ≡ record { number = held_by neg v; next = at + k }
is_scanned at neg v k r e = cc

module _ (s : List ℕ) (at stop : ℕ) where
  wrong : (x : Field) → None ≡ scanned_at at x → None ≡ scanned_at at (stop_by stop (drop at s) x)
  wrong misspelt e = refl
  wrong (spelt neg v j) e = cc

  unlike : (x : Field) (r : Scanned) → Some r ≡ scanned_at at x → (get_or s r.next 0 ≡ stop → ⊥) → None ≡ scanned_at at (stop_by stop (drop at s) x)
  unlike misspelt r e h = cc
  unlike (spelt neg v j) r e h =
      let q : r.next ≡ at + j = ap (λ (r : Scanned). r.next) (is_scanned at neg v j r e) in
      rw (get_or-drop, ne_eqb (get_or s (at + j) 0) stop (rw q at h))

  like : (x : Field) (r : Scanned) → Some r ≡ scanned_at at x → get_or s r.next 0 ≡ stop → Some (record { number = r.number; next = r.next + 1 }) ≡ scanned_at at (stop_by stop (drop at s) x)
  like misspelt r e h = cc
  like (spelt neg v j) r e h =
      let q : r.next ≡ at + j = ap (λ (r : Scanned). r.next) (is_scanned at neg v j r e) in
      let p : r.number ≡ held_by neg v = ap (λ (r : Scanned). r.number) (is_scanned at neg v j r e) in
      let d : at + j + 1 ≡ at + suc j = omega arith in
      rw (get_or-drop, eq-eqb (get_or s (at + j) 0) stop (rw q at h), q, p, d)

  pub then_wrong : None ≡ scanned_at at (field (drop at s)) → None ≡ scanned_at at (number_then stop (drop at s))
  unfolding number_then
  then_wrong e = wrong (field (drop at s)) e

  module _ (r : Scanned) where
    pub then_unlike : Some r ≡ scanned_at at (field (drop at s)) → (get_or s r.next 0 ≡ stop → ⊥) → None ≡ scanned_at at (number_then stop (drop at s))
    unfolding number_then
    then_unlike e h = unlike (field (drop at s)) r e h

    pub then_like : Some r ≡ scanned_at at (field (drop at s)) → get_or s r.next 0 ≡ stop → Some (record { number = r.number; next = r.next + 1 }) ≡ scanned_at at (number_then stop (drop at s))
    unfolding number_then
    then_like e h = like (field (drop at s)) r e h

    pub then_short : Some r ≡ scanned_at at (field (drop at s)) → length s ≤ r.next → 0 < stop → None ≡ scanned_at at (number_then stop (drop at s))
    then_short e h p = then_unlike e (λ z. omega (arith, get_or-eq_default s 0 h))

  -- a byte that stands after a number lies in the text
  ends : (x : Field) (r : Scanned) → Some r ≡ scanned_at at (stop_by stop (drop at s) x) → 0 < stop → r.next ≤ length s
  ends misspelt r e p = absurd (let z : ◌≡◌ {A = ℕ} 0 1 = cc in omega arith)
  ends (spelt neg v j) r e p = go (eqb (get_or (drop at s) j 0) stop) refl
    where
      go : (t : Bool) → eqb (get_or (drop at s) j 0) stop ≡ t → r.next ≤ length s
      go true q =
          let w : Some r ≡ scanned_at at (spelt neg v (suc j)) = rw q at e in
          let k : r.next ≡ at + suc j = ap (λ (r : Scanned). r.next) (is_scanned at neg v (suc j) r w) in
          let b : get_or s (at + j) 0 ≡ stop = rw get_or-drop at (eqb-true (get_or (drop at s) j 0) stop q) in
          let past : length s ≤ at + j → get_or s (at + j) 0 ≡ 0 = λ h. get_or-eq_default s 0 h in
          ⊎_elim (λ z. omega (arith, past (omega arith))) (λ h. omega arith) (eq-zero-or-pos (length s - (at + j)))
      go false q = absurd (let w : Some r ≡ None = rw q at e in let z : ◌≡◌ {A = ℕ} 0 1 = cc in omega arith)

  pub then_ends : (r : Scanned) → Some r ≡ scanned_at at (number_then stop (drop at s)) → 0 < stop → r.next ≤ length s
  unfolding number_then
  then_ends r e p = ends (field (drop at s)) r e p
