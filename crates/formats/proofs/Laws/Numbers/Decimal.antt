-- Laws of decimal numbers. Soundness: a number that `field` finds stands there as `show` spells it, and counts that many bytes. Completeness: `field` finds
-- every number that `show` spells, where no digit follows it. So each number has one spelling, and no spelling is that of two numbers.
use Prim.Native.Nat.{ℕ, zero, suc, ◌+◌, ◌*◌, ◌-◌, ◌/◌, ◌%◌, ◌<◌, ◌≤◌, ◌^◌}
use mathlib.Core.Path.{◌≡◌, refl, ap, sym, ◌∙◌}
use mathlib.Core.Logic.{◌⊎◌, inl, inr, ⊎_elim}
use mathlib.Core.Bool.{Bool, true, false, false≢true}
use mathlib.Core.List.{List, [], ◌∷◌, ◌++◌, append_assoc, append-nil}
use lib.ListN.{length, get_or, drop, length-append}
use lib.Dec.{ltb, eqb}
use lib.IntN.{ℤ, pos, negsuc, nat_abs}
use lib.Signed.{lt_z}
use native.Mathlib.Omega.{arith}
use native.Mathlib.Nat.{div-add-mod', pow-succ'}
use borrow.Author.Tests.{lt-ltb, le-ltb, le-leb, ltb-true, ltb-false, eqb-true, eqb-false, ne_eqb}
use Rattle.formats.specs.Decimal.{digits, show_nat, show}
use Rattle.formats.specs.Reading.Numbers.{is_digit, lead, value, Field, spelt, misspelt, natural, signing, field, signed, is_negative}
use Rattle.formats.proofs.Laws.Numbers.Digits.{digit_range, lead_nil, lead_yes, lead_no, value_nil, value_cons}

pub lt_or_le : (a b : ℕ) → (a < b) ⊎ (b ≤ a)
lt_or_le a b = go (ltb a b) refl
  where
    go : (t : Bool) → ltb a b ≡ t → (a < b) ⊎ (b ≤ a)
    go true e = inl (ltb-true a b e)
    go false e = inr (ltb-false a b e)

-- ---- writing

digits_small : (f n : ℕ) → n < 10 → digits (suc f) n ≡ (48 + n) ∷ []
unfolding digits
digits_small f n h = rw (digits, lt-ltb n 10 h)

digits_large : (f n : ℕ) → 10 ≤ n → digits (suc f) n ≡ digits f (n / 10) ++ ((48 + n % 10) ∷ [])
unfolding digits
digits_large f n h = rw (digits, le-ltb n 10 h)

-- a bound past n changes nothing
bound_free : (f g n : ℕ) → n < f → n < g → digits f n ≡ digits g n
bound_free zero g n hf hg = absurd (omega arith)
bound_free (suc f) zero n hf hg = absurd (omega arith)
bound_free (suc f) (suc g) n hf hg =
    ⊎_elim (λ h. digits_small f n h ∙ sym (digits_small g n h))
    (λ h. digits_large f n h ∙ ap (λ (l : List ℕ). l ++ ((48 + n % 10) ∷ [])) (bound_free f g (n / 10) (omega arith) (omega arith)) ∙ sym (digits_large g n h))
    (lt_or_le n 10)

pub show_nat_small : (n : ℕ) → n < 10 → show_nat n ≡ (48 + n) ∷ []
unfolding show_nat
show_nat_small n h = digits_small n n h

pub show_nat_snoc : (v d : ℕ) → 0 < v → d < 10 → show_nat (v * 10 + d) ≡ show_nat v ++ ((48 + d) ∷ [])
unfolding show_nat
show_nat_snoc v d hv hd =
    let q : (v * 10 + d) / 10 ≡ v = omega arith in
    let r : (v * 10 + d) % 10 ≡ d = omega arith in
    digits_large (v * 10 + d) (v * 10 + d) (omega arith) ∙ rw (q, r) (ap (λ (l : List ℕ). l ++ ((48 + d) ∷ [])) (bound_free (v * 10 + d) (suc v) v (omega arith) (omega arith)))

-- ---- reading

pub range_digit : (b : ℕ) → 48 ≤ b → b < 58 → is_digit b ≡ true
range_digit b h k = rw (le-leb 48 b h, lt-ltb b 58 k)

pub lead_split : (s : List ℕ) → s ≡ lead s ++ drop (length (lead s)) s
unfolding lead
lead_split [] = refl
lead_split (b ∷ s) = go (is_digit b) refl (lead_split s)
  where
    go : (t : Bool) → is_digit b ≡ t → s ≡ lead s ++ drop (length (lead s)) s → b ∷ s ≡ lead (b ∷ s) ++ drop (length (lead (b ∷ s))) (b ∷ s)
    go true e ih = rw (lead_yes b s e) (ap (λ (l : List ℕ). b ∷ l) ih)
    go false e ih = rw (lead_no b s e)

show_lead : (v : ℕ) (s : List ℕ) → 0 < v → show_nat (value v (lead s)) ≡ show_nat v ++ lead s
show_lead v [] hv = rw (lead_nil, value_nil, append-nil)
show_lead v (b ∷ s) hv = go (is_digit b) refl (show_lead (v * 10 + (b - 48)) s (omega arith))
  where
    go : (t : Bool) → is_digit b ≡ t → show_nat (value (v * 10 + (b - 48)) (lead s)) ≡ show_nat (v * 10 + (b - 48)) ++ lead s → show_nat (value v (lead (b ∷ s))) ≡ show_nat v ++ lead (b ∷ s)
    go true e ih =
        let r : (48 ≤ b) × (b < 58) = digit_range b e in
        let q : 48 + (b - 48) ≡ b = omega arith in
        let w : show_nat (v * 10 + (b - 48)) ≡ show_nat v ++ ((48 + (b - 48)) ∷ []) = show_nat_snoc v (b - 48) hv (omega arith) in
        rw (lead_yes b s e, value_cons, ih, w, append_assoc, q)
    go false e ih = rw (lead_no b s e, value_nil, append-nil)

-- the digits that s begins with, where the first is no 0, are the spelling of their value
pub show_digits : (b : ℕ) (s : List ℕ) → is_digit b ≡ true → (b ≡ 48 → ⊥) → show_nat (value 0 (lead (b ∷ s))) ≡ lead (b ∷ s)
show_digits b s e h =
    let r : (48 ≤ b) × (b < 58) = digit_range b e in
    let q : 48 + (b - 48) ≡ b = omega arith in
    let z : 0 * 10 + (b - 48) ≡ b - 48 = omega arith in
    rw (lead_yes b s e, value_cons, z, show_lead (b - 48) s (omega arith), show_nat_small (b - 48) (omega arith), q)

-- ---- what is shown is read

lead_digits : (f n : ℕ) (r : List ℕ) → lead (digits f n ++ r) ≡ digits f n ++ lead r
unfolding digits
lead_digits zero n r = refl
lead_digits (suc f) n r =
    ⊎_elim (λ k. rw (digits_small f n k, lead_yes (48 + n) r (range_digit (48 + n) (omega arith) (omega arith))))
    (λ k. rw (digits_large f n k, append_assoc (digits f (n / 10)) ((48 + n % 10) ∷ []) r, lead_digits f (n / 10) ((48 + n % 10) ∷ r), lead_yes (48 + n % 10) r (range_digit (48 + n % 10) (omega arith) (omega arith)), append_assoc))
    (lt_or_le n 10)

value_append : (v : ℕ) (s t : List ℕ) → value v (s ++ t) ≡ value (value v s) t
unfolding value
value_append v [] t = refl
value_append v (b ∷ s) t = value_append (v * 10 + (b - 48)) s t

value_digits : (f n : ℕ) → n < f → value 0 (digits f n) ≡ n
value_digits zero n h = absurd (omega arith)
value_digits (suc f) n h =
    ⊎_elim (λ k. rw (digits_small f n k, value_cons, value_nil) (omega arith))
    (λ k. rw (digits_large f n k, value_append, value_digits f (n / 10) (omega arith), value_cons, value_nil) (omega arith))
    (lt_or_le n 10)

-- the first digit
first_digits : (f n : ℕ) (r : List ℕ) → n < f → (48 ≤ get_or (digits f n ++ r) 0 0) × (0 < n → 48 < get_or (digits f n ++ r) 0 0)
first_digits zero n r h = absurd (omega arith)
first_digits (suc f) n r h =
    ⊎_elim (λ k. rw (digits_small f n k) (omega arith))
    (λ k.
    let p : 0 < n / 10 = omega arith in
    let q : n / 10 < f = omega arith in
    let w : (48 ≤ get_or (digits f (n / 10) ++ ((48 + n % 10) ∷ r)) 0 0) × (0 < n / 10 → 48 < get_or (digits f (n / 10) ++ ((48 + n % 10) ∷ r)) 0 0) = first_digits f (n / 10) ((48 + n % 10) ∷ r) q in
    rw (digits_large f n k, append_assoc) (w.0, λ _. w.1 p))
    (lt_or_le n 10)

length_digits : (f n : ℕ) → n < f → 0 < length (digits f n)
length_digits zero n h = absurd (omega arith)
length_digits (suc f) n h =
    ⊎_elim (λ k. rw (digits_small f n k) (omega arith))
    (λ k. rw (digits_large f n k, length-append) (omega arith))
    (lt_or_le n 10)

-- ---- the law of a field

-- what `natural` says where it finds a number
abbrev Sound : Bool → List ℕ → Field → Type 0
Sound neg s (spelt n v k) = (n ≡ neg) × (s ≡ show_nat v ++ drop (length (show_nat v)) s) × (k ≡ length (show_nat v)) × (neg ≡ true → 0 < v)
Sound neg s misspelt = Unit {0}

value_pos : (v : ℕ) (s : List ℕ) → 0 < v → 0 < value v s
unfolding value
value_pos v [] h = h
value_pos v (b ∷ s) h = value_pos (v * 10 + (b - 48)) s (omega arith)

natural_sound : (neg : Bool) (s : List ℕ) → Sound neg s (natural neg s)
unfolding natural lead
natural_sound neg [] = tt
natural_sound neg (b ∷ s) = go (is_digit b) refl
  where
    some : (l : List ℕ) → ltb 0 (length (b ∷ l)) ≡ true
    some l = lt-ltb 0 (suc (length l)) (omega arith)

    other : is_digit b ≡ true → eqb b 48 ≡ false → Sound neg (b ∷ s) (natural neg (b ∷ s))
    other e h =
        let ne : b ≡ 48 → ⊥ = eqb-false b 48 h in
        let r : (48 ≤ b) × (b < 58) = digit_range b e in
        let d : show_nat (value 0 (b ∷ lead s)) ≡ b ∷ lead s = rw (lead_yes b s e) at (show_digits b s e ne) in
        let p : 0 < value 0 (b ∷ lead s) = rw value_cons (value_pos (0 * 10 + (b - 48)) (lead s) (omega arith)) in
        rw (natural, lead_yes b s e, some (lead s), h) (refl, rw d (ap (λ (l : List ℕ). b ∷ l) (lead_split s)), rw d refl, λ _. p)

    zero_first : (l : List ℕ) → lead s ≡ l → (neg' : Bool) → neg ≡ neg' → is_digit b ≡ true → eqb b 48 ≡ true → Sound neg (b ∷ s) (natural neg (b ∷ s))
    zero_first [] q true m e h = rw (natural, lead_yes b s e, some (lead s), h, q, m) tt
    zero_first [] q false m e h =
        let z : 0 * 10 + (b - 48) ≡ 0 = omega (arith, eqb-true b 48 h) in
        let y : 48 + 0 ≡ b = omega (arith, eqb-true b 48 h) in
        let d : show_nat (value 0 (b ∷ [])) ≡ b ∷ [] = rw (value_cons, value_nil, z, show_nat_small 0 (omega arith)) (ap (λ (n : ℕ). n ∷ []) y) in
        rw (natural, lead_yes b s e, some (lead s), h, q, m) (refl, rw d refl, rw d refl, λ w. absurd (false≢true w))
    zero_first (x ∷ l) q neg' m e h = rw (natural, lead_yes b s e, some (lead s), h, q, ne_eqb (suc (suc (length l))) 1 (λ z. omega arith)) tt

    pick : (t : Bool) → eqb b 48 ≡ t → is_digit b ≡ true → Sound neg (b ∷ s) (natural neg (b ∷ s))
    pick true h e = zero_first (lead s) refl neg refl e h
    pick false h e = other e h

    go : (t : Bool) → is_digit b ≡ t → Sound neg (b ∷ s) (natural neg (b ∷ s))
    go true e = pick (eqb b 48) refl e
    go false e = rw (natural, lead_no b s e) tt

-- a number that is found is the spelling of its value, k is how long that is, and 0 has no sign
abbrev Found : List ℕ → Field → Type 0
Found s (spelt neg v k) = (s ≡ show (signed neg v) ++ drop k s) × (k ≡ length (show (signed neg v))) × (is_negative (signed neg v) ≡ neg)
Found s misspelt = Unit {0}

found_plain : (s : List ℕ) (x : Field) → Sound false s x → Found s x
unfolding show
found_plain s misspelt h = tt
found_plain s (spelt true v k) h = absurd (false≢true (sym h.0))
found_plain s (spelt false v k) h = (rw h.2 h.1, h.2, refl)

found_signed : (s : List ℕ) (x : Field) → Sound true s x → Found (45 ∷ s) (signing x)
unfolding show
found_signed s misspelt h = tt
found_signed s (spelt false v k) h = absurd (false≢true h.0)
found_signed s (spelt true zero k) h = absurd (omega (arith, h.3 refl))
found_signed s (spelt true (suc v) k) h = (rw h.2 (ap (λ (l : List ℕ). 45 ∷ l) h.1), ap suc h.2, refl)

field_found : (s : List ℕ) → Found s (field s)
unfolding field natural lead
field_found [] = tt
field_found (b ∷ s) = go (eqb b 45) refl
  where
    go : (t : Bool) → eqb b 45 ≡ t → Found (b ∷ s) (field (b ∷ s))
    go true e = rw (field, e) (rw (eqb-true b 45 e) (found_signed s (natural true s) (natural_sound true s)))
    go false e = rw (field, e) (found_plain (b ∷ s) (natural false (b ∷ s)) (natural_sound false (b ∷ s)))

pub field_sound : (s : List ℕ) (neg : Bool) (v k : ℕ) → field s ≡ spelt neg v k → (s ≡ show (signed neg v) ++ drop k s) × (k ≡ length (show (signed neg v)))
field_sound s neg v k e =
    let f : Found s (spelt neg v k) = rw e at (field_found s) in
    (f.0, f.1)

-- ---- what is shown is found

lead_stop : (r : List ℕ) → is_digit (get_or r 0 0) ≡ false → lead r ≡ []
lead_stop [] h = lead_nil
lead_stop (b ∷ r) h = lead_no b r h

lead_show_nat : (n : ℕ) (r : List ℕ) → is_digit (get_or r 0 0) ≡ false → lead (show_nat n ++ r) ≡ show_nat n
unfolding show_nat
lead_show_nat n r h = rw (lead_digits (suc n) n r, lead_stop r h, append-nil)

value_show_nat : (n : ℕ) → value 0 (show_nat n) ≡ n
unfolding show_nat
value_show_nat n = value_digits (suc n) n (omega arith)

length-show_nat : (n : ℕ) → 0 < length (show_nat n)
unfolding show_nat
length-show_nat n = length_digits (suc n) n (omega arith)

first_show_nat : (n : ℕ) (r : List ℕ) → (48 ≤ get_or (show_nat n ++ r) 0 0) × (0 < n → 48 < get_or (show_nat n ++ r) 0 0)
unfolding show_nat
first_show_nat n r = first_digits (suc n) n r (omega arith)

natural_found : (neg : Bool) (n : ℕ) (r : List ℕ) → is_digit (get_or r 0 0) ≡ false → 0 < n → natural neg (show_nat n ++ r) ≡ spelt neg n (length (show_nat n))
unfolding natural
natural_found neg n r h p =
    let f : 48 < get_or (show_nat n ++ r) 0 0 = (first_show_nat n r).1 p in
    let ne : eqb (get_or (show_nat n ++ r) 0 0) 48 ≡ false = ne_eqb (get_or (show_nat n ++ r) 0 0) 48 (λ z. omega arith) in
    rw (natural, lead_show_nat n r h, lt-ltb 0 (length (show_nat n)) (length-show_nat n), ne, value_show_nat n)

zero_found : (r : List ℕ) → is_digit (get_or r 0 0) ≡ false → natural false (show_nat 0 ++ r) ≡ spelt false 0 (length (show_nat 0))
unfolding natural
zero_found r h =
    let e : show_nat 0 ≡ 48 ∷ [] = show_nat_small 0 (omega arith) in
    let w : lead (48 ∷ r) ≡ 48 ∷ [] = rw e at (lead_show_nat 0 r h) in
    let u : value 0 (48 ∷ []) ≡ 0 = rw e at (value_show_nat 0) in
    rw (natural, e, w, u)

pub field_complete : (z : ℤ) (r : List ℕ) → is_digit (get_or r 0 0) ≡ false → field (show z ++ r) ≡ spelt (is_negative z) (nat_abs z) (length (show z))
unfolding field show
field_complete (pos n) r h = rw (field, ne_eqb (get_or (show_nat n ++ r) 0 0) 45 (λ z. omega (arith, (first_show_nat n r).0))) (go n)
  where
    go : (n : ℕ) → natural false (show_nat n ++ r) ≡ spelt false n (length (show_nat n))
    go zero = zero_found r h
    go (suc n) = natural_found false (suc n) r h (omega arith)
field_complete (negsuc n) r h = ap signing (natural_found true (suc n) r h (omega arith))

-- ---- consequences

-- a number is its sign and magnitude
pub signed_abs : (z : ℤ) → signed (is_negative z) (nat_abs z) ≡ z
signed_abs (pos n) = refl
signed_abs (negsuc n) = refl

pub show_nat_large : (n : ℕ) → 10 ≤ n → show_nat n ≡ show_nat (n / 10) ++ ((48 + n % 10) ∷ [])
show_nat_large n h = ap show_nat (sym (div-add-mod' n 10)) ∙ show_nat_snoc (n / 10) (n % 10) (omega arith) (omega arith)

-- the spelling by the sign
pub show_minus : (z : ℤ) → lt_z z (pos 0) ≡ true → show z ≡ 45 ∷ show_nat (nat_abs z)
unfolding show
show_minus (pos n) h = absurd (omega (arith, ltb-true n 0 h))
show_minus (negsuc n) h = refl

pub show_plain : (z : ℤ) → lt_z z (pos 0) ≡ false → show z ≡ show_nat (nat_abs z)
unfolding show
show_plain (pos n) h = refl
show_plain (negsuc n) h = absurd (false≢true (sym h))

-- ---- lengths

-- k digits spell every number below 10^k
pub show_nat-length : (n k : ℕ) → n < 10 ^ k → 1 ≤ k → length (show_nat n) ≤ k
show_nat-length n zero h p = absurd (omega arith)
show_nat-length n (suc zero) h p = rw (show_nat_small n h) (omega arith)
show_nat-length n (suc (suc k)) h p =
    let less : n / 10 < 10 ^ suc k = omega (arith, pow-succ' 10 (suc k)) in
    let more : length (show_nat (n / 10)) ≤ suc k = show_nat-length (n / 10) (suc k) less (omega arith) in
    ⊎_elim (λ q. rw (show_nat_small n q) (omega arith)) (λ q. rw (show_nat_large n q, length-append) (omega arith)) (lt_or_le n 10)

-- the sign is one byte more
pub show_length : (z : ℤ) (k : ℕ) → nat_abs z < 10 ^ k → 1 ≤ k → length (show z) ≤ k + 1
unfolding show
show_length (pos n) k h p = omega (arith, show_nat-length n k h p)
show_length (negsuc n) k h p = omega (arith, show_nat-length (suc n) k h p)
