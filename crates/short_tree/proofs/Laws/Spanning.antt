-- A tree that grows by the cheapest insertion is no longer than any spanning tree: the argument of cuts. The terminals are 0 .. n, 0 the root.
-- Edge j joins f j and g j. Assumes nothing.
use mathlib.Core.Path.{◌≡◌, refl, sym, ap, ◌∙◌, subst}
use mathlib.Core.Logic.{◌≢◌, ◌⊎◌, inl, inr}
use mathlib.Core.List.{List, [], ◌∷◌}
use Prim.Native.Nat.{ℕ, zero, suc, ◌+◌, ◌≤◌}
use native.Mathlib.Omega.{arith}
use Rattle.tree.specs.Lists.{sum_over, delta, count}
use Rattle.tree.proofs.Laws.Lists.Sums.{delta_self, delta_ne, equal?}

-- a list without one x
abbrev keep : ℕ → ℕ → List ℕ → List ℕ → List ℕ
keep zero y l r = y ∷ r
keep (suc k) y l r = l

abbrev pub without : ℕ → List ℕ → List ℕ
without x [] = []
without x (y ∷ l) = keep (delta x y) y l (without x l)

pub without_sum : (x : ℕ) (l : List ℕ) (f : ℕ → ℕ) → count x l ≢ 0 → sum_over l f ≡ f x + sum_over (without x l) f
without_sum x [] f h = absurd (h refl)
without_sum x (y ∷ l) f h = go (without_sum x l f) (equal? x y)
  where
    go : (count x l ≢ 0 → sum_over l f ≡ f x + sum_over (without x l) f) → (x ≡ y) ⊎ (x ≢ y) → f y + sum_over l f ≡ f x + sum_over (keep (delta x y) y l (without x l)) f
    go ih (inl e) = rw (← e) (rw (delta_self x) refl)
    go ih (inr d) = rw (delta_ne x y d) (omega (arith, ih (omega (arith, delta_ne x y d))))

-- edge j joins u and v
pub data Ends (f g : ℕ → ℕ) (j u v : ℕ) : Type 0 where
  fore : f j ≡ u → g j ≡ v → Ends f g j u v
  rear : f j ≡ v → g j ≡ u → Ends f g j u v

-- a chain of edges, each of them one that is allowed, from v to one of U
pub data Way (f g : ℕ → ℕ) (ok : ℕ → Type 0) (U : List ℕ) : ℕ → Type 0 where
  there : {v : ℕ} → count v U ≢ 0 → Way f g ok U v
  by : {v : ℕ} (j z : ℕ) → ok j → Ends f g j v z → Way f g ok U z → Way f g ok U v

-- the edges of T span the terminals 0 .. n: they join terminals, and a chain of them leads from each terminal to the root
pub record Spans (n : ℕ) (T : List ℕ) (f g : ℕ → ℕ) : Type 0 where
  pub ends : (j : ℕ) → count j T ≢ 0 → (f j ≤ n) × (g j ≤ n)
  pub joined : (v : ℕ) → v ≤ n → Way f g (λ j. count j T ≢ 0) (0 ∷ []) v

-- the edges that are left still join all to U, and are no longer than B less W
pub record Left (n : ℕ) (D : ℕ → ℕ → ℕ) (f g : ℕ → ℕ) (U : List ℕ) (W B : ℕ) : Type 0 where
  pub T : List ℕ
  pub ends : (j : ℕ) → count j T ≢ 0 → (f j ≤ n) × (g j ≤ n)
  pub joined : (v : ℕ) → v ≤ n → Way f g (λ j. count j T ≢ 0) U v
  pub fits : W + sum_over T (λ j. D (f j) (g j)) ≤ B

pub left_start : (n : ℕ) (D : ℕ → ℕ → ℕ) (f g : ℕ → ℕ) (T : List ℕ) → Spans n T f g → Left n D f g (0 ∷ []) 0 (sum_over T (λ j. D (f j) (g j)))
left_start n D f g T h = record { T = T; ends = h.ends; joined = h.joined; fits = omega arith }

module _ {f g : ℕ → ℕ} where
  flip : {j u v : ℕ} → Ends f g j u v → Ends f g j v u
  flip (fore p q) = rear p q
  flip (rear p q) = fore p q

  -- an edge has two ends
  end_of : {j v z a b : ℕ} → Ends f g j v z → Ends f g j a b → (v ≡ a) ⊎ (v ≡ b)
  end_of (fore p q) (fore r s) = inl (sym p ∙ r)
  end_of (fore p q) (rear r s) = inr (sym p ∙ r)
  end_of (rear p q) (fore r s) = inr (sym q ∙ s)
  end_of (rear p q) (rear r s) = inl (sym q ∙ s)

  way_map : {ok ok' : ℕ → Type 0} {U U' : List ℕ} {v : ℕ} → ((j : ℕ) → ok j → ok' j) → ((u : ℕ) → count u U ≢ 0 → count u U' ≢ 0) → Way f g ok U v → Way f g ok' U' v
  way_map h k (there {v = v} q) = there (k v q)
  way_map h k (by j z o e w) = by j z (h j o) e (way_map h k w)

-- the edges with no end in U
abbrev Free : (ℕ → ℕ) → (ℕ → ℕ) → (ℕ → Type 0) → List ℕ → ℕ → Type 0
Free f g ok U j = ok j × (count (f j) U ≡ 0) × (count (g j) U ≡ 0)

free_ends : {f g : ℕ → ℕ} {j u v : ℕ} (U : List ℕ) → Ends f g j u v → count u U ≡ 0 → count v U ≡ 0 → (count (f j) U ≡ 0) × (count (g j) U ≡ 0)
free_ends U (fore p q) a b = (ap (λ z. count z U) p ∙ a, ap (λ z. count z U) q ∙ b)
free_ends U (rear p q) a b = (ap (λ z. count z U) p ∙ b, ap (λ z. count z U) q ∙ a)

-- where the chain from s first enters U: by the edge e from z to t; the chain before has no end in U
record Cut (f g : ℕ → ℕ) (ok : ℕ → Type 0) (U : List ℕ) (s : ℕ) : Type 0 where
  e : ℕ
  z : ℕ
  t : ℕ
  has : ok e
  ends : Ends f g e z t
  out : count z U ≡ 0
  into : count t U ≢ 0
  back : Way f g (Free f g ok U) (s ∷ []) z

cut : {f g : ℕ → ℕ} {ok : ℕ → Type 0} {U : List ℕ} {v : ℕ} (s : ℕ) → Way f g ok U v → count v U ≡ 0 → Way f g (Free f g ok U) (s ∷ []) v → Cut f g ok U s
cut s (there q) n acc = absurd (q n)
cut {f} {g} {ok} {U} s (by {v = v} j z o e w) n acc = go (cut s w) (equal? (count z U) 0)
  where
    go : (count z U ≡ 0 → Way f g (Free f g ok U) (s ∷ []) z → Cut f g ok U s) → (count z U ≡ 0) ⊎ (count z U ≢ 0) → Cut f g ok U s
    go ih (inl q) = let r : (count (f j) U ≡ 0) × (count (g j) U ≡ 0) = free_ends U e n q in ih q (by j v (o, r.0, r.1) (flip e) acc)
    go ih (inr q) = record { e = j; z = v; t = z; has = o; ends = e; out = n; into = q; back = acc }

-- s joins U, at a price that no edge from U to the outside undercuts
module _ (n : ℕ) (D : ℕ → ℕ → ℕ) (f g : ℕ → ℕ) (U U' : List ℕ) (W W' B s a : ℕ) (symm : (u v : ℕ) → D u v ≡ D v u) (L : Left n D f g U W B)
    (sn : s ≤ n) (fresh : count s U ≡ 0) (more : (v : ℕ) → count v U' ≡ delta v s + count v U)
    (total : W' ≤ W + a) (cheap : (t z : ℕ) → count t U ≢ 0 → z ≤ n → count z U ≡ 0 → a ≤ D t z) where
  -- the chain from s, cut
  first : Cut f g (λ j. count j L.T ≢ 0) U s
  first = cut s (L.joined s sn) fresh (there {v = s} (omega (arith, delta_self s)))

  module _ (c : Cut f g (λ j. count j L.T ≢ 0) U s) where
    fewer : (j : ℕ) → j ≢ c.e → count j L.T ≢ 0 → count j (without c.e L.T) ≢ 0
    fewer j d h = omega (arith, without_sum c.e L.T (delta j) c.has, delta_ne j c.e d)

    other : (j : ℕ) → count (f j) U ≡ 0 → count (g j) U ≡ 0 → j ≢ c.e
    other j p q h = go c.ends
      where
        go : Ends f g c.e c.z c.t → ⊥
        go (fore l r) = c.into (ap (λ z. count z U) (sym r ∙ ap g (sym h)) ∙ q)
        go (rear l r) = c.into (ap (λ z. count z U) (sym l ∙ ap f (sym h)) ∙ p)

    back' : Way f g (λ j. count j (without c.e L.T) ≢ 0) U' c.z
    back' = way_map (λ j o. fewer j (other j o.1 o.2) o.0) (λ u q. omega (arith, more u)) c.back

    relink : {v : ℕ} → Way f g (λ j. count j L.T ≢ 0) U v → Way f g (λ j. count j (without c.e L.T) ≢ 0) U' v
    relink (there {v = v} q) = there {v = v} (omega (arith, more v))
    relink (by {v = v} j z o e w) = go (relink w) (equal? j c.e)
      where
        end : (v ≡ c.z) ⊎ (v ≡ c.t) → Way f g (λ i. count i (without c.e L.T) ≢ 0) U' v
        end (inl h) = subst (Way f g (λ i. count i (without c.e L.T) ≢ 0) U') (sym h) back'
        end (inr h) = there {v = v} (omega (arith, more v, ap (λ u. count u U) h, c.into))

        go : Way f g (λ i. count i (without c.e L.T) ≢ 0) U' z → (j ≡ c.e) ⊎ (j ≢ c.e) → Way f g (λ i. count i (without c.e L.T) ≢ 0) U' v
        go ih (inl h) = end (end_of (subst (λ i. Ends f g i v z) h e) c.ends)
        go ih (inr d) = by j z (fewer j d o) e ih

    price : a ≤ D (f c.e) (g c.e)
    price = go c.ends (L.ends c.e c.has)
      where
        go : Ends f g c.e c.z c.t → (f c.e ≤ n) × (g c.e ≤ n) → a ≤ D (f c.e) (g c.e)
        go (fore p q) l = rw (p, q, symm c.z c.t) (cheap c.t c.z c.into (omega arith) c.out)
        go (rear p q) l = rw (p, q) (cheap c.t c.z c.into (omega arith) c.out)

    left_cut : Left n D f g U' W' B
    left_cut = record {
      T = without c.e L.T;
      ends = λ j q. L.ends j (omega (arith, without_sum c.e L.T (delta j) c.has));
      joined = λ v h. relink (L.joined v h);
      fits = omega (arith, L.fits, price, without_sum c.e L.T (λ j. D (f j) (g j)) c.has);
    }

  pub left_step : Left n D f g U' W' B
  left_step = left_cut first
