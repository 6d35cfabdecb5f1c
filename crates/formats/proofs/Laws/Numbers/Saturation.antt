-- A number that is held at the cap while its digits are read one by one is held as the whole number is. Assumes nothing.
use Prim.Native.Nat.{ℕ, suc, ◌+◌, ◌*◌, ◌-◌, ◌<◌, ◌≤◌, min}
use mathlib.Core.Path.{◌≡◌, refl, ap, sym, ◌∙◌}
use mathlib.Core.Bool.{Bool, true}
use mathlib.Core.List.{List, [], ◌∷◌}
use lib.ListN.{length, get_or, drop}
use lib.Seq.{drop-cons}
use native.Mathlib.Omega.{arith}
use native.Mathlib.Numerals.{add-one}
use Rattle.formats.specs.Reading.Numbers.{is_digit, lead, value}
use Rattle.formats.specs.Inner.Scanning.{magnitude_cap, held_by, run_at}
use Rattle.formats.specs.declared.number.Number.{Number}
use Rattle.formats.proofs.Laws.Numbers.Digits.{lead_yes, value_nil, value_cons}

-- a state held at the cap makes no difference to what is held at the end
pub capped : (v : ℕ) (s : List ℕ) → min (value (min v magnitude_cap) s) magnitude_cap ≡ min (value v s) magnitude_cap
unfolding value
capped v [] = omega arith
capped v (b ∷ s) =
    let e : min (min v magnitude_cap * 10 + (b - 48)) magnitude_cap ≡ min (v * 10 + (b - 48)) magnitude_cap = omega arith in
    sym (capped (min v magnitude_cap * 10 + (b - 48)) s) ∙ ap (λ (n : ℕ). min (value n s) magnitude_cap) e ∙ capped (v * 10 + (b - 48)) s

pub number_path : (neg : Bool) {a b : ℕ} → a ≡ b → ◌≡◌ {A = Number} (record { neg = neg; mag = a }) (record { neg = neg; mag = b })
number_path neg e = λ i. record { neg = neg; mag = e i }

-- the digits from `from` on, read up to i: what is still to be read completes them
pub record Going (neg : Bool) (s : List ℕ) (from : ℕ) (n : Number) (i : ℕ) : Type 0 where
  pub within : i ≤ length s
  pub sign : n.neg ≡ neg
  pub small : n.mag ≤ magnitude_cap
  pub total : min (value n.mag (lead (drop i s))) magnitude_cap ≡ min (value 0 (lead (drop from s))) magnitude_cap
  pub count : i + length (lead (drop i s)) ≡ from + length (lead (drop from s))

module _ (neg : Bool) (s : List ℕ) (from : ℕ) where
  pub going_start : from ≤ length s → Going neg s from (held_by neg 0) from
  going_start h = record { within = h; sign = refl; small = omega arith; total = refl; count = refl }

  pub going_more : (n : Number) (i : ℕ) → i < length s → is_digit (get_or s i 0) ≡ true → Going neg s from n i → Going neg s from (held_by n.neg (n.mag * 10 + (get_or s i 0 - 48))) (i + 1)
  going_more n i h d g =
      let e : lead (drop i s) ≡ get_or s i 0 ∷ lead (drop (suc i) s) = rw (drop-cons s i 0 h) (lead_yes (get_or s i 0) (drop (suc i) s) d) in
      let t : min (value n.mag (get_or s i 0 ∷ lead (drop (suc i) s))) magnitude_cap ≡ min (value 0 (lead (drop from s))) magnitude_cap = rw e at g.total in
      let k : i + suc (length (lead (drop (suc i) s))) ≡ from + length (lead (drop from s)) = rw e at g.count in
      record {
        within = omega arith;
        sign = g.sign;
        small = omega arith;
        total = rw add-one (capped (n.mag * 10 + (get_or s i 0 - 48)) (lead (drop (suc i) s)) ∙ rw value_cons at t);
        count = rw add-one (omega arith);
      }

  pub going_stop : (n : Number) (i : ℕ) → lead (drop i s) ≡ [] → Going neg s from n i → record { number = n; next = i } ≡ run_at neg s from
  going_stop n i e g =
      let t : min (value n.mag []) magnitude_cap ≡ min (value 0 (lead (drop from s))) magnitude_cap = rw e at g.total in
      let u : min n.mag magnitude_cap ≡ min (value 0 (lead (drop from s))) magnitude_cap = rw value_nil at t in
      let m : n.mag ≡ min (value 0 (lead (drop from s))) magnitude_cap = omega arith in
      let k : i ≡ from + length (lead (drop from s)) = omega (arith, rw e at g.count) in
      λ j. record { number = record { neg = g.sign j; mag = m j }; next = k j }
