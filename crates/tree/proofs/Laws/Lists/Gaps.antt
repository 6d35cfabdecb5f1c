-- The order of whole numbers by differences: a is at least σ where it is σ + t, and the gap t is the distance. Assumes nothing.
use mathlib.Core.Path.{◌≡◌, refl, sym, ap, ◌∙◌}
use mathlib.Core.Bool.{Bool, true, false, not, cond}
use Prim.Native.Nat.{ℕ, suc, ◌+◌, ◌-◌, ◌≤◌, ◌<◌}
use native.Mathlib.Omega.{arith}
use lib.Dec.{T, ltb, leb→le, le→leb, ltb→lt, nltb→le}
use lib.IntN.{ℤ, pos, negsuc, sub_ℕ, nat_abs, ◌+ℤ◌, ◌-ℤ◌, +ℤ_assoc, +ℤ_comm, +ℤ-neg_ℤ_cancel, -ℤ-+ℤ_cancel}
use lib.Signed.{◌≤ℤ◌, le_z}

cond_ind : (c : Bool) (x y : ℤ) (P : ℤ → Type 0) → (T c → P x) → (T (not c) → P y) → P (cond c x y)
cond_ind true x y P f g = f tt
cond_ind false x y P f g = g tt

sub_ge : (a b : ℕ) → b ≤ a → sub_ℕ a b ≡ pos (a - b)
sub_ge a b h = cond_ind (ltb a b) (negsuc (b - suc a)) (pos (a - b)) (λ z. z ≡ pos (a - b)) (λ u. absurd (omega (arith, ltb→lt a b u))) (λ u. refl)

sub-lt : (a b : ℕ) → a < b → sub_ℕ a b ≡ negsuc (b - suc a)
sub-lt a b h = cond_ind (ltb a b) (negsuc (b - suc a)) (pos (a - b)) (λ z. z ≡ negsuc (b - suc a)) (λ u. refl) (λ u. absurd (omega (arith, nltb→le a b u)))

-- the gap from σ up to a
abbrev pub gap : ℤ → ℤ → ℕ
gap σ a = nat_abs (a -ℤ σ)

to_diff : (s a : ℤ) → T (le_z s a) → (t : ℕ) × (a ≡ s +ℤ pos t)
to_diff (pos s) (pos a) h = (a - s, ap pos (omega (arith, leb→le s a h)))
to_diff (pos s) (negsuc a) h = absurd h
to_diff (negsuc s) (pos a) h = (suc s + a, sym (sub_ge (suc s + a) (suc s) (omega arith) ∙ ap pos (omega arith)))
to_diff (negsuc s) (negsuc a) h = let l : a ≤ s = leb→le a s h in (s - a, sym (sub-lt (s - a) (suc s) (omega arith) ∙ ap negsuc (omega arith)))

of_diff : (s : ℤ) (t : ℕ) → T (le_z s (s +ℤ pos t))
of_diff (pos s) t = le→leb s (s + t) (omega arith)
of_diff (negsuc s) t = cond_ind (ltb t (suc s)) (negsuc (suc s - suc t)) (pos (t - suc s)) (λ z. T (le_z (negsuc s) z)) (λ u. le→leb (suc s - suc t) s (omega arith)) (λ u. tt)

diff_gap : (σ a : ℤ) (t : ℕ) → a ≡ σ +ℤ pos t → gap σ a ≡ t
diff_gap σ a t e = ap (λ z. nat_abs (z -ℤ σ)) (e ∙ +ℤ_comm σ (pos t)) ∙ ap nat_abs (+ℤ-neg_ℤ_cancel (pos t) σ)

diff_le : (σ a : ℤ) (t : ℕ) → a ≡ σ +ℤ pos t → σ ≤ℤ a
diff_le σ a t e = record { le = rw e (of_diff σ t) }

le_diff : (σ a : ℤ) → σ ≤ℤ a → a ≡ σ +ℤ pos (gap σ a)
le_diff σ a h = let r : (t : ℕ) × (a ≡ σ +ℤ pos t) = to_diff σ a h.le in rw (diff_gap σ a r.0 r.1) r.1

-- σ is at most a - k where it is at most a and the gap has room for k
pub fits : (σ a : ℤ) (k : ℕ) → σ ≤ℤ (a -ℤ pos k) → (σ ≤ℤ a) × (k ≤ gap σ a)
fits σ a k h =
    let t : ℕ = gap σ (a -ℤ pos k) in
    let e : a ≡ σ +ℤ pos (t + k) = sym (-ℤ-+ℤ_cancel a (pos k)) ∙ ap (λ z. z +ℤ pos k) (le_diff σ (a -ℤ pos k) h) ∙ +ℤ_assoc σ (pos t) (pos k) in
    (diff_le σ a (t + k) e, omega (arith, diff_gap σ a (t + k) e))

sub_diff : (σ a : ℤ) (k : ℕ) → σ ≤ℤ a → k ≤ gap σ a → a -ℤ pos k ≡ σ +ℤ pos (gap σ a - k)
sub_diff σ a k h l =
    let r : ℕ = gap σ a - k in
    let e : gap σ a ≡ r + k = omega arith in
    ap (λ z. z -ℤ pos k) (le_diff σ a h ∙ ap (λ z. σ +ℤ pos z) e ∙ sym (+ℤ_assoc σ (pos r) (pos k))) ∙ +ℤ-neg_ℤ_cancel (σ +ℤ pos r) (pos k)

pub fits_back : (σ a : ℤ) (k : ℕ) → σ ≤ℤ a → k ≤ gap σ a → σ ≤ℤ (a -ℤ pos k)
fits_back σ a k h l = diff_le σ (a -ℤ pos k) (gap σ a - k) (sub_diff σ a k h l)

pub gap_mono : (σ a b : ℤ) → σ ≤ℤ a → a ≤ℤ b → (σ ≤ℤ b) × (gap σ a ≤ gap σ b)
gap_mono σ a b h k =
    let t : ℕ = gap σ a + gap a b in
    let e : b ≡ σ +ℤ pos t = le_diff a b k ∙ ap (λ z. z +ℤ pos (gap a b)) (le_diff σ a h) ∙ +ℤ_assoc σ (pos (gap σ a)) (pos (gap a b)) in
    (diff_le σ b t e, omega (arith, diff_gap σ b t e))

-- a - k, where the gap of a has room for k
pub gap_sub : (σ a : ℤ) (k : ℕ) → σ ≤ℤ a → k ≤ gap σ a → gap σ (a -ℤ pos k) ≡ gap σ a - k
gap_sub σ a k h l = diff_gap σ (a -ℤ pos k) (gap σ a - k) (sub_diff σ a k h l)
