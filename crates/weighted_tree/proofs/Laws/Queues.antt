-- Two queues, each in order: what is taken goes before all that wait, and joining the two that are taken first keeps both in order. Assumes nothing.
use Prim.Native.Nat.{ℕ, suc, ◌+◌, ◌*◌, ◌≤◌, ◌<◌}
use mathlib.Core.Path.{◌≡◌, sym, ap, ◌∙◌, subst}
use mathlib.Core.Bool.{Bool, true, false, cond}
use mathlib.Core.Logic.{◌≢◌, ◌⊎◌, inl, inr}
use native.Mathlib.Omega.{arith}
use lib.IntN.{ℤ, pos}
use lib.Signed.{◌≤ℤ◌, ◌<ℤ◌, le_z}
use Rattle.quantities.specs.Inner.Linear.{whole}
use Rattle.tree.proofs.Laws.Lists.Sums.{equal?}
use Rattle.weighted_tree.specs.Inner.Arrays.{Waits, SinkFirst, BranchFirst, Takes, Lower, Lines, Queues}

-- ---- which goes first

module _ (n k : ℕ) (o : ℕ → ℤ) (O : ℕ → ℕ) (i j : ℕ) where
  -- by the test of the two weights
  pub weights_tell : i < n → j < k → (t : Bool) → le_z (o (O i)) (o (n + suc j)) ≡ t → cond t (SinkFirst n k o O i j) (BranchFirst n k o O i j)
  weights_tell h l true e = (h, λ g. omega (arith, whole))
  weights_tell h l false e = (l, λ g. omega (arith, whole))

  -- what the answer tells
  pub sink_taken : (t : Bool) → t ≡ true → cond t (SinkFirst n k o O i j) (BranchFirst n k o O i j) → SinkFirst n k o O i j
  sink_taken t e h = subst (λ (t : Bool). cond t (SinkFirst n k o O i j) (BranchFirst n k o O i j)) e h

  pub branch_taken : (t : Bool) → t ≡ false → cond t (SinkFirst n k o O i j) (BranchFirst n k o O i j) → BranchFirst n k o O i j
  branch_taken t e h = subst (λ (t : Bool). cond t (SinkFirst n k o O i j) (BranchFirst n k o O i j)) e h

-- ---- one vertex is taken

module _ (n k : ℕ) (W O : ℕ → ℕ) (L : Lines n k W O) (o : ℕ → ℤ) (same : (v : ℕ) → 1 ≤ v → v ≤ n + k → o v ≡ pos (W v)) (i j v i' j' : ℕ) where
  -- it waited, and one more has been taken
  taken_waits : Takes n k o O i j v i' j' → Waits n k O i j v
  taken_waits (inl t) = inl (i, omega arith, t.0.0, sym t.1)
  taken_waits (inr t) = inr (omega (arith, t.0.0, t.1), omega (arith, t.0.0, t.1))

  pub taken_more : Takes n k o O i j v i' j' → i ≤ n → j ≤ k → (i' + j' ≡ suc (i + j)) × (i' ≤ n) × (j' ≤ k)
  taken_more (inl t) a b = omega (arith, t.0.0, t.2, t.3)
  taken_more (inr t) a b = omega (arith, t.0.0, t.2, t.3)

  -- those that wait are it and those that wait then
  still_waits : Takes n k o O i j v i' j' → (u : ℕ) → Waits n k O i j u → u ≢ v → Waits n k O i' j' u
  still_waits (inl t) u (inl h) d =
      let ne : i ≢ h.0 = λ e. d (sym h.3 ∙ ap O (sym e) ∙ sym t.1) in
      inl (h.0, omega (arith, h.1, t.2), h.2, h.3)
  still_waits (inl t) u (inr h) d = inr (omega (arith, h.0, t.3), h.1)
  still_waits (inr t) u (inl h) d = inl (h.0, omega (arith, h.1, t.2), h.2, h.3)
  still_waits (inr t) u (inr h) d = inr (omega (arith, h.0, t.3, t.1), h.1)

  waited : Takes n k o O i j v i' j' → (u : ℕ) → Waits n k O i' j' u → Waits n k O i j u
  waited (inl t) u (inl h) = inl (h.0, omega (arith, h.1, t.2), h.2, h.3)
  waited (inl t) u (inr h) = inr (omega (arith, h.0, t.3), h.1)
  waited (inr t) u (inl h) = inl (h.0, omega (arith, h.1, t.2), h.2, h.3)
  waited (inr t) u (inr h) = inr (omega (arith, h.0, t.3), h.1)

  other_waits : Takes n k o O i j v i' j' → (u : ℕ) → Waits n k O i' j' u → u ≢ v
  other_waits (inl t) u (inl h) e =
      let r : Lower W (O i) (O h.0) = L.sinks_rise i h.0 (omega (arith, h.1, t.2)) h.2 in
      let z : O i ≡ O h.0 = sym t.1 ∙ sym e ∙ sym h.3 in
      omega (arith, r.1 (ap W z))
  other_waits (inl t) u (inr h) e = omega (arith, h.0, t.1, L.sinks i t.0.0)
  other_waits (inr t) u (inl h) e = omega (arith, h.3, t.1, L.sinks h.0 h.2)
  other_waits (inr t) u (inr h) e = omega (arith, h.0, t.3, t.1)

  -- it goes before all others
  taken_first : Takes n k o O i j v i' j' → (u : ℕ) → Waits n k O i j u → u ≢ v → Lower W v u
  taken_first (inl t) u (inl h) d =
      let ne : i ≢ h.0 = λ e. d (sym h.3 ∙ ap O (sym e) ∙ sym t.1) in
      let l : i < h.0 = omega (arith, h.1) in
      subst (λ (z : ℕ). Lower W z u) (sym t.1) (subst (Lower W (O i)) h.3 (L.sinks_rise i h.0 l h.2))
  taken_first (inl t) u (inr h) d =
      let s : (1 ≤ O i) × (O i ≤ n) = L.sinks i t.0.0 in
      let g : o (O i) ≤ℤ o (n + suc j) = t.0.1 (omega (arith, h)) in
      let a : o (O i) ≡ pos (W (O i)) = same (O i) s.0 (omega (arith, s.1)) in
      let b : o (n + suc j) ≡ pos (W (n + suc j)) = same (n + suc j) (omega arith) (omega (arith, h)) in
      let r : W (n + suc j) ≤ W u = L.branches_rise (n + suc j) u (omega arith) (omega (arith, h.0)) h.1 in
      subst (λ (z : ℕ). Lower W z u) (sym t.1) (omega (arith, whole), λ e. omega (arith, s.1, h.0))
  taken_first (inr t) u (inl h) d =
      let s : (1 ≤ O i) × (O i ≤ n) = L.sinks i (omega (arith, h.1, h.2)) in
      let g : o (n + suc j) <ℤ o (O i) = t.0.1 (omega (arith, h.1, h.2)) in
      let a : o (O i) ≡ pos (W (O i)) = same (O i) s.0 (omega (arith, s.1)) in
      let b : o (n + suc j) ≡ pos (W (n + suc j)) = same (n + suc j) (omega arith) (omega (arith, t.0.0)) in
      let f : W (n + suc j) < W (O i) = omega (arith, whole) in
      let r : W (O i) ≤ W u = behind (equal? i h.0) in
      subst (λ (z : ℕ). Lower W z u) (sym t.1) (omega arith, λ e. omega arith)
    where
      behind : (i ≡ h.0) ⊎ (i ≢ h.0) → W (O i) ≤ W u
      behind (inl e) = omega (arith, ap W (ap O e ∙ h.3))
      behind (inr d) = omega (arith, (L.sinks_rise i h.0 (omega (arith, h.1)) h.2).0, ap W h.3)
  taken_first (inr t) u (inr h) d =
      let ne : u ≢ n + suc j = λ e. d (e ∙ sym t.1) in
      subst (λ (z : ℕ). Lower W z u) (sym t.1) (L.branches_rise (n + suc j) u (omega arith) (omega (arith, h.0)) h.1, λ e. omega (arith, h.0))

-- ---- the two that are taken are joined

-- b takes x and y
pub record Stored (b x y : ℕ) (W p W' p' : ℕ → ℕ) : Type 0 where
  pub total : W' b ≡ W x + W y
  pub totals : (v : ℕ) → v ≢ b → W' v ≡ W v
  pub x_under : p' x ≡ b
  pub y_under : p' y ≡ b
  pub others : (v : ℕ) → v ≢ x → v ≢ y → p' v ≡ p v

module _ (n k i j : ℕ) (W p O : ℕ → ℕ) (Q : Queues n k i j W p O) (o : ℕ → ℤ) (same : (v : ℕ) → 1 ≤ v → v ≤ n + k → o v ≡ pos (W v))
    (x i₁ j₁ : ℕ) (one : Takes n k o O i j x i₁ j₁) (y i₂ j₂ : ℕ) (two : Takes n k o O i₁ j₁ y i₂ j₂) where
  waits_in : (a b u : ℕ) → Waits n k O a b u → (1 ≤ u) × (u ≤ n + k)
  waits_in a b u (inl h) = let s = Q.lines.sinks h.0 h.2 in omega (arith, h.3, s)
  waits_in a b u (inr h) = omega (arith, h)

  x_waits : Waits n k O i j x
  x_waits = taken_waits n k W O Q.lines o same i j x i₁ j₁ one

  y_waits₁ : Waits n k O i₁ j₁ y
  y_waits₁ = taken_waits n k W O Q.lines o same i₁ j₁ y i₂ j₂ two

  y_waits : Waits n k O i j y
  y_waits = waited n k W O Q.lines o same i j x i₁ j₁ one y y_waits₁

  pub apart : y ≢ x
  apart = other_waits n k W O Q.lines o same i j x i₁ j₁ one y y_waits₁

  pub x_free : (1 ≤ x) × (x ≤ n + k) × (p x ≡ 0)
  x_free = let h = waits_in i j x x_waits in (h.0, h.1, Q.free x x_waits)

  pub y_free : (1 ≤ y) × (y ≤ n + k) × (p y ≡ 0)
  y_free = let h = waits_in i j y y_waits in (h.0, h.1, Q.free y y_waits)

  x_before : (u : ℕ) → Waits n k O i j u → u ≢ x → Lower W x u
  x_before = taken_first n k W O Q.lines o same i j x i₁ j₁ one

  y_before : (u : ℕ) → Waits n k O i j u → u ≢ x → u ≢ y → Lower W y u
  y_before u h d = taken_first n k W O Q.lines o same i₁ j₁ y i₂ j₂ two u (still_waits n k W O Q.lines o same i j x i₁ j₁ one u h d)

  pub x_first : (u : ℕ) → 1 ≤ u → u ≤ n + k → p u ≡ 0 → u ≢ x → Lower W x u
  x_first u a b f = x_before u (Q.all u a b f)

  pub y_next : (u : ℕ) → 1 ≤ u → u ≤ n + k → p u ≡ 0 → u ≢ x → u ≢ y → Lower W y u
  y_next u a b f = y_before u (Q.all u a b f)

  -- those that wait then
  left : (u : ℕ) → Waits n k O i₂ j₂ u → Waits n k O i j u × (u ≢ x) × (u ≢ y)
  left u h =
      let h₁ : Waits n k O i₁ j₁ u = waited n k W O Q.lines o same i₁ j₁ y i₂ j₂ two u h in
      (waited n k W O Q.lines o same i j x i₁ j₁ one u h₁, other_waits n k W O Q.lines o same i j x i₁ j₁ one u h₁, other_waits n k W O Q.lines o same i₁ j₁ y i₂ j₂ two u h)

  module _ (W' p' : ℕ → ℕ) (S : Stored (n + suc k) x y W p W' p') where
    wider : (u : ℕ) → Waits n k O i₂ j₂ u → Waits n (suc k) O i₂ j₂ u
    wider u (inl h) = inl h
    wider u (inr h) = inr (h.0, omega (arith, h.1))

    narrower : (u : ℕ) → u ≢ n + suc k → Waits n (suc k) O i₂ j₂ u → Waits n k O i₂ j₂ u
    narrower u d (inl h) = inl h
    narrower u d (inr h) = inr (h.0, omega (arith, h.1))

    old : (v : ℕ) → v ≤ n + k → W' v ≡ W v
    old v l = S.totals v (omega arith)

    -- no branch point weighs more than the new one
    under_new : (b : ℕ) → n < b → b ≤ n + k → W b ≤ W x + W y
    under_new b h l = omega (arith, Q.light b x h l x_waits, (x_before y y_waits apart).0)

    joined_lines : Lines n (suc k) W' O
    joined_lines = record { sinks = Q.lines.sinks; sinks_rise = sinks_rise; branches_rise = λ b c h g l. rise b c h g l (equal? c (n + suc k)) (equal? b (n + suc k)) }
      where
        sinks_rise : (q r : ℕ) → q < r → r < n → Lower W' (O q) (O r)
        sinks_rise q r h g =
            let a : W' (O q) ≡ W (O q) = old (O q) (omega (arith, Q.lines.sinks q (omega arith))) in
            let b : W' (O r) ≡ W (O r) = old (O r) (omega (arith, Q.lines.sinks r g)) in
            let l : Lower W (O q) (O r) = Q.lines.sinks_rise q r h g in
            (omega (arith, l.0), λ e. l.1 (omega arith))

        rise : (b c : ℕ) → n < b → b ≤ c → c ≤ n + suc k → (c ≡ n + suc k) ⊎ (c ≢ n + suc k) → (b ≡ n + suc k) ⊎ (b ≢ n + suc k) → W' b ≤ W' c
        rise b c h g l (inl e) (inl f) = omega (arith, ap W' e, ap W' f)
        rise b c h g l (inl e) (inr d) = omega (arith, ap W' e, S.total, old b (omega arith), under_new b h (omega arith))
        rise b c h g l (inr d) f = omega (arith, old b (omega arith), old c (omega arith), Q.lines.branches_rise b c h g (omega arith))

    pub joined_queues : suc k < n → Queues n (suc k) i₂ j₂ W' p' O
    joined_queues more = record {
      lines = joined_lines;
      sinks_taken = m₂.1;
      branches_taken = omega (arith, m₂.2);
      two_each = omega (arith, m₁.0, m₂.0, Q.two_each);
      free = λ u h. free u h (equal? u (n + suc k));
      all = λ u a b f. all u a b f (equal? u (n + suc k));
      unborn = λ u l. S.others u (omega (arith, x_free.1)) (omega (arith, y_free.1)) ∙ Q.unborn u (omega arith);
      light = λ b u h l g. light b u h l g (equal? b (n + suc k)) (equal? u (n + suc k));
    }
      where
        m₁ : (i₁ + j₁ ≡ suc (i + j)) × (i₁ ≤ n) × (j₁ ≤ k)
        m₁ = taken_more n k W O Q.lines o same i j x i₁ j₁ one Q.sinks_taken Q.branches_taken

        m₂ : (i₂ + j₂ ≡ suc (i₁ + j₁)) × (i₂ ≤ n) × (j₂ ≤ k)
        m₂ = taken_more n k W O Q.lines o same i₁ j₁ y i₂ j₂ two m₁.1 m₁.2

        free : (u : ℕ) → Waits n (suc k) O i₂ j₂ u → (u ≡ n + suc k) ⊎ (u ≢ n + suc k) → p' u ≡ 0
        free u h (inl e) = S.others u (omega (arith, x_free.1)) (omega (arith, y_free.1)) ∙ Q.unborn u (omega arith)
        free u h (inr d) = let l = left u (narrower u d h) in S.others u l.1 l.2 ∙ Q.free u l.0

        all : (u : ℕ) → 1 ≤ u → u ≤ n + suc k → p' u ≡ 0 → (u ≡ n + suc k) ⊎ (u ≢ n + suc k) → Waits n (suc k) O i₂ j₂ u
        all u a b f (inl e) = inr (omega (arith, m₂.2), b)
        all u a b f (inr d) =
            let dx : u ≢ x = λ e. omega (arith, ap p' e, S.x_under) in
            let dy : u ≢ y = λ e. omega (arith, ap p' e, S.y_under) in
            let h : Waits n k O i j u = Q.all u a (omega arith) (sym (S.others u dx dy) ∙ f) in
            wider u (still_waits n k W O Q.lines o same i₁ j₁ y i₂ j₂ two u (still_waits n k W O Q.lines o same i j x i₁ j₁ one u h dx) dy)

        light : (b u : ℕ) → n < b → b ≤ n + suc k → Waits n (suc k) O i₂ j₂ u → (b ≡ n + suc k) ⊎ (b ≢ n + suc k) → (u ≡ n + suc k) ⊎ (u ≢ n + suc k) → W' b ≤ 2 * W' u
        light b u h l g (inl e) (inl f) = omega (arith, ap W' e, ap W' f)
        light b u h l g (inl e) (inr d) =
            let r = left u (narrower u d g) in
            omega (arith, ap W' e, S.total, old u (waits_in i j u r.0).1, (x_before u r.0 r.1).0, (y_before u r.0 r.1 r.2).0)
        light b u h l g (inr c) (inl f) = omega (arith, ap W' f, S.total, old b (omega arith), under_new b h (omega arith))
        light b u h l g (inr c) (inr d) =
            let r = left u (narrower u d g) in
            omega (arith, old b (omega arith), old u (waits_in i j u r.0).1, Q.light b u h (omega arith) r.0)
