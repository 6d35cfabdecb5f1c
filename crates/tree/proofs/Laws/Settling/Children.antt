-- The children of each vertex, listed vertex by vertex. Assumes nothing.
use Prim.Native.Nat.{ℕ, zero, suc, ◌+◌, ◌*◌, ◌-◌, ◌≤◌, ◌<◌}
use mathlib.Core.Path.{◌≡◌, refl, sym, ap, ap₂, ◌∙◌, subst}
use mathlib.Core.Bool.{Bool, true, false, cond}
use mathlib.Core.Logic.{◌≢◌, ◌⊎◌, inl, inr}
use mathlib.Core.List.{List, [], ◌∷◌, ◌++◌, append-nil}
use native.Mathlib.Nat.{suc-add}
use native.Mathlib.Numerals.{add-one}
use native.Mathlib.Omega.{arith}
use native.Mathlib.Decide.{dec_le}
use borrow.Author.Tests.{eq-eqb, ne_eqb}
use lib.Dec.{eqb}
use lib.ListN.{length, get_or, set, length-append}
use lib.Seq.{get_or-set_same, get_or-set_other}
use Rattle.tree.specs.Lists.{count, range}
use Rattle.tree.specs.Tree.{parent_of, Legal}
use Rattle.tree.specs.Settling.{children_in, children}
use Rattle.tree.specs.Inner.Arrays.{parents_of}
use Rattle.tree.proofs.Laws.Arrays.NetAndTree.{parents_at}
use Rattle.tree.proofs.Laws.Lists.Sums.{equal?}
use Rattle.tree.proofs.Laws.Settling.SlackKept.{children_length}

-- ---- the children among the vertices of a list

pub range_append : (a j k : ℕ) → range a (j + k) ≡ range a j ++ range (a + j) k
range_append a zero k =
    let e : a ≡ a + 0 = omega arith in
    let f : 0 + k ≡ k = omega arith in
    ap₂ range e f
range_append a (suc j) k = ap (range a) (suc-add j k) ∙ ap (◌∷◌ a) (range_append (suc a) j k ∙ ap (λ z. range (suc a) j ++ range z k) (omega arith))

module _ (p : ℕ → ℕ) (b : ℕ) where
  children_append : (l r : List ℕ) → children_in p b (l ++ r) ≡ children_in p b l ++ children_in p b r
  children_append [] r = refl
  children_append (v ∷ l) r = go (eqb (p v) b) (children_append l r)
    where
      go : (t : Bool) → children_in p b (l ++ r) ≡ children_in p b l ++ children_in p b r
          → cond t (v ∷ children_in p b (l ++ r)) (children_in p b (l ++ r)) ≡ cond t (v ∷ children_in p b l) (children_in p b l) ++ children_in p b r
      go true ih = ap (◌∷◌ v) ih
      go false ih = ih

  -- with one vertex more
  one_more : (k : ℕ) → children_in p b (range 1 (suc k)) ≡ children_in p b (range 1 k) ++ cond (eqb (p (suc k)) b) (suc k ∷ []) []
  one_more k =
      let e : range 1 (suc k) ≡ range 1 k ++ (suc k ∷ []) = ap (range 1) (sym (add-one k)) ∙ range_append 1 k 1 ∙ ap (λ z. range 1 k ++ (z ∷ [])) (omega arith) in
      ap (children_in p b) e ∙ children_append (range 1 k) (suc k ∷ [])

  more_child : (k : ℕ) → p (suc k) ≡ b → children_in p b (range 1 (suc k)) ≡ children_in p b (range 1 k) ++ (suc k ∷ [])
  more_child k e = one_more k ∙ ap (λ t. children_in p b (range 1 k) ++ cond t (suc k ∷ []) []) (eq-eqb (p (suc k)) b e)

  more_other : (k : ℕ) → p (suc k) ≢ b → children_in p b (range 1 (suc k)) ≡ children_in p b (range 1 k)
  more_other k d = one_more k ∙ ap (λ t. children_in p b (range 1 k) ++ cond t (suc k ∷ []) []) (ne_eqb (p (suc k)) b d) ∙ append-nil (children_in p b (range 1 k))

  -- a first child is not the root
  first_child : (a k : ℕ) → 1 ≤ a → 0 < length (children_in p b (range a k)) → get_or (children_in p b (range a k)) 0 0 ≢ 0
  first_child a zero h some = absurd (omega arith)
  first_child a (suc k) h some = go (eqb (p a) b) some (first_child (suc a) k (omega arith))
    where
      go : (t : Bool) → 0 < length {A = ℕ} (cond t (a ∷ children_in p b (range (suc a) k)) (children_in p b (range (suc a) k)))
          → (0 < length (children_in p b (range (suc a) k)) → get_or (children_in p b (range (suc a) k)) 0 0 ≢ 0)
          → get_or (cond t (a ∷ children_in p b (range (suc a) k)) (children_in p b (range (suc a) k))) 0 0 ≢ 0
      go true some ih = omega arith
      go false some ih = ih some

-- ---- at most two, in a legal tree

module _ (n : ℕ) (P : List ℕ) (L : Legal n P) where
  count_two : (b : ℕ) → b < 2 * n → count b P ≤ 2
  count_two zero h = omega (arith, L.root)
  count_two (suc v) h = go (dec_le (suc v) n)
    where
      go : Dec (suc v ≤ n) → count (suc v) P ≤ 2
      go (yes q) = omega (arith, L.sink (suc v) (omega arith) q)
      go (no q) = omega (arith, L.branch (suc v) (omega arith) h)

  children_two : (b : ℕ) → b < 2 * n → length (children P b) ≤ 2
  children_two b h = omega (arith, children_length P b, count_two b h)

  part_two : (b k : ℕ) → b < 2 * n → k ≤ length P → length (children_in (parent_of P) b (range 1 k)) ≤ 2
  part_two b k h q =
      let l : ℕ = length P - k in
      let e : length P ≡ k + l = omega arith in
      let c : children P b ≡ children_in (parent_of P) b (range 1 k) ++ children_in (parent_of P) b (range (1 + k) l)
      = ap (λ z. children_in (parent_of P) b (range 1 z)) e ∙ ap (children_in (parent_of P) b) (range_append 1 k l) ∙ children_append (parent_of P) b (range 1 k) (range (1 + k) l) in
      omega (arith, children_two b h, simp length-append at (ap length c))

-- ---- the two places of each vertex

-- the list l stands at the places of b
abbrev pub Holds : List ℕ → ℕ → List ℕ → Type 0
Holds kids b l = (get_or kids (2 * b) 0 ≡ get_or l 0 0) × (get_or kids (2 * b + 1) 0 ≡ get_or l 1 0)

-- the children with the numbers 1 to k stand at the places of their parents
abbrev pub Listed : (ℕ → ℕ) → ℕ → ℕ → List ℕ → Type 0
Listed p m k kids = (b : ℕ) → b < m → Holds kids b (children_in p b (range 1 k))

-- v is one child more of u
abbrev pub Added : List ℕ → ℕ → ℕ → List ℕ → Type 0
Added kids u v new = (get_or kids (2 * u) 0 ≡ 0 → new ≡ set kids (2 * u) v) × (get_or kids (2 * u) 0 ≢ 0 → new ≡ set kids (2 * u + 1) v)

pub listed_none : (p : ℕ → ℕ) (m : ℕ) (kids : List ℕ) → ((u : ℕ) → u < 2 * m → get_or kids u 0 ≡ 0) → Listed p m 0 kids
listed_none p m kids clear b h = (clear (2 * b) (omega arith), clear (2 * b + 1) (omega arith))

module _ (kids : List ℕ) (u v : ℕ) (new : List ℕ) (room : 2 * u + 1 < length kids) (added : Added kids u v new) where
  -- what stands at a place after a store at another
  kept : (i j : ℕ) → new ≡ set kids i v → j ≢ i → get_or new j 0 ≡ get_or kids j 0
  kept i j e d = ap (λ l. get_or l j 0) e ∙ get_or-set_other kids i j v 0 d

  stored : (i : ℕ) → new ≡ set kids i v → i < length kids → get_or new i 0 ≡ v
  stored i e h = ap (λ l. get_or l i 0) e ∙ get_or-set_same kids i v 0 h

  other : (b : ℕ) (l : List ℕ) → b ≢ u → Holds kids b l → Holds new b l
  other b l d h = go (equal? (get_or kids (2 * u) 0) 0)
    where
      at : (i : ℕ) → new ≡ set kids i v → 2 * b ≢ i → 2 * b + 1 ≢ i → Holds new b l
      at i e d₀ d₁ = (kept i (2 * b) e d₀ ∙ h.0, kept i (2 * b + 1) e d₁ ∙ h.1)

      go : (get_or kids (2 * u) 0 ≡ 0) ⊎ (get_or kids (2 * u) 0 ≢ 0) → Holds new b l
      go (inl e) = at (2 * u) (added.0 e) (omega arith) (omega arith)
      go (inr e) = at (2 * u + 1) (added.1 e) (omega arith) (omega arith)

  here : (l : List ℕ) → length l < 2 → (0 < length l → get_or l 0 0 ≢ 0) → Holds kids u l → Holds new u (l ++ (v ∷ []))
  here [] few first h =
      let e : new ≡ set kids (2 * u) v = added.0 h.0 in
      (stored (2 * u) e (omega arith), kept (2 * u) (2 * u + 1) e (omega arith) ∙ h.1)
  here (x ∷ []) few first h =
      let e : new ≡ set kids (2 * u + 1) v = added.1 (λ z. first (omega arith) (sym h.0 ∙ z)) in
      (kept (2 * u + 1) (2 * u) e (omega arith) ∙ h.0, stored (2 * u + 1) e room)
  here (x ∷ (y ∷ l)) few first h = absurd (omega arith)

listed_more : (n : ℕ) (P : List ℕ) → Legal n P → (k : ℕ) (kids new : List ℕ) → suc k ≤ length P → 4 * n ≤ length kids
    → Added kids (parent_of P (suc k)) (suc k) new → Listed (parent_of P) (2 * n) k kids → Listed (parent_of P) (2 * n) (suc k) new
listed_more n P L k kids new q long added listed b h = go (equal? b (parent_of P (suc k)))
  where
    p : ℕ → ℕ
    p = parent_of P

    u : ℕ
    u = p (suc k)

    u_in : u < 2 * n
    u_in = L.inside k q

    l : List ℕ
    l = children_in p u (range 1 k)

    few : length l < 2
    few = omega (arith, part_two n P L u (suc k) u_in q, simp length-append at (ap length (more_child p u k refl)))

    go : (b ≡ u) ⊎ (b ≢ u) → Holds new b (children_in p b (range 1 (suc k)))
    go (inl e) = subst (λ z. Holds new z (children_in p z (range 1 (suc k)))) (sym e)
        (subst (Holds new u) (sym (more_child p u k refl)) (here kids u (suc k) new (omega (arith, u_in)) added l few (first_child p u 1 k (omega arith)) (listed u u_in)))
    go (inr d) = subst (Holds new b) (sym (more_other p b k (λ e. d (sym e)))) (other kids u (suc k) new (omega (arith, u_in)) added b (children_in p b (range 1 k)) d (listed b h))

-- ---- the loop

module _ (n : ℕ) (ps : List ℕ) (L : Legal n (parents_of n ps)) where
  pub listed_step : (v : ℕ) (kids new : List ℕ) → 1 ≤ v → v < 2 * n → 4 * n ≤ length kids → Added kids (get_or ps v 0) v new
      → Listed (parent_of (parents_of n ps)) (2 * n) (v - 1) kids → Listed (parent_of (parents_of n ps)) (2 * n) (v + 1 - 1) new
  listed_step zero kids new h q long added listed = absurd (omega arith)
  listed_step (suc k) kids new h q long added listed =
      let P : List ℕ = parents_of n ps in
      let e : k ≡ suc k - 1 = omega arith in
      let e' : suc k ≡ suc k + 1 - 1 = omega arith in
      subst (λ z. Listed (parent_of P) (2 * n) z new) e'
      (listed_more n P L k kids new (omega (arith, L.size)) long
      (subst (λ u. Added kids u (suc k) new) (sym (parents_at n ps (suc k) h q)) added)
      (subst (λ z. Listed (parent_of P) (2 * n) z kids) (sym e) listed))

  pub listed_all : (v : ℕ) (kids : List ℕ) → v ≡ 2 * n → Listed (parent_of (parents_of n ps)) (2 * n) (v - 1) kids
      → (b : ℕ) → n < b → b < 2 * n → Holds kids b (children (parents_of n ps) b)
  listed_all v kids e listed b h q =
      let f : v - 1 ≡ length (parents_of n ps) = omega (arith, L.size) in
      subst (λ z. Holds kids b (children_in (parent_of (parents_of n ps)) b (range 1 z))) f (listed b q)
