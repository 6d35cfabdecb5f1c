-- The order from the leaves up: how it grows where an edge is split, and the chain that holds it. Assumes nothing.
use Prim.Native.Nat.{ℕ, zero, suc, ◌+◌, ◌-◌, ◌≤◌, ◌<◌}
use mathlib.Core.Path.{◌≡◌, refl, sym, ap, ◌∙◌, subst}
use mathlib.Core.Logic.{◌≢◌, ◌⊎◌, inl, inr}
use mathlib.Core.List.{List, ◌∷◌, ◌++◌}
use native.Mathlib.Decide.{dec_le}
use native.Mathlib.Omega.{arith}
use lib.ListN.{length, get_or, set, take, drop, length-set, length-append, length-drop, get_or-append, get_or-eq_default}
use lib.Seq.{get_or-append-add, get_or-drop, get_or-take, get_or-set_same, get_or-set_other, length-take-le}
use Rattle.tree.proofs.Laws.Lists.Sums.{equal?}
use Rattle.tree.specs.Inner.Arrays.{LeavesUp, Chained}

-- s and b are put in after place j of the m that `upward` holds
pub record PutAfter (upward : List ℕ) (m j s b : ℕ) (after : List ℕ) : Type 0 where
  pub low : (i : ℕ) → i ≤ j → get_or after i 0 ≡ get_or upward i 0
  pub first : get_or after (j + 1) 0 ≡ s
  pub second : get_or after (j + 2) 0 ≡ b
  pub high : (i : ℕ) → j < i → i < m → get_or after (i + 2) 0 ≡ get_or upward i 0

-- an edge is split: v and s hang on b, which hangs where v did
pub record SplitAt (Vertex : ℕ → Type 0) (ps ps' : List ℕ) (v s b : ℕ) : Type 0 where
  pub low : get_or ps' v 0 ≡ b
  pub new : get_or ps' s 0 ≡ b
  pub mid : get_or ps' b 0 ≡ get_or ps v 0
  pub old : (y : ℕ) → Vertex y → y ≢ v → get_or ps' y 0 ≡ get_or ps y 0
  pub s_fresh : Vertex s → ⊥
  pub b_fresh : Vertex b → ⊥
  pub apart : s ≢ b
  -- no vertex hangs on s or b before
  pub s_bare : (y : ℕ) → Vertex y → get_or ps y 0 ≢ s
  pub b_bare : (y : ℕ) → Vertex y → get_or ps y 0 ≢ b

-- what stands at a place of the new order
data Spot (m j s b : ℕ) (us us' : List ℕ) (i : ℕ) : Type 0 where
  was : (h : ℕ) → h < m → get_or us' i 0 ≡ get_or us h 0 → ((h ≤ j) × (i ≡ h)) ⊎ ((j < h) × (i ≡ h + 2)) → Spot m j s b us us' i
  is_s : i ≡ j + 1 → get_or us' i 0 ≡ s → Spot m j s b us us' i
  is_b : i ≡ j + 2 → get_or us' i 0 ≡ b → Spot m j s b us us' i

module _ {m j s b : ℕ} {us us' : List ℕ} (jm : j < m) (u : PutAfter us m j s b us') where
  spot : (i : ℕ) → i < m + 2 → Spot m j s b us us' i
  spot i l = go (dec_le i j) (equal? i (j + 1)) (equal? i (j + 2))
    where
      go : Dec (i ≤ j) → (i ≡ j + 1) ⊎ (i ≢ j + 1) → (i ≡ j + 2) ⊎ (i ≢ j + 2) → Spot m j s b us us' i
      go (yes q) x y = was i (omega arith) (u.low i q) (inl (q, omega arith))
      go (no q) (inl e) y = is_s e (ap (λ (z : ℕ). get_or us' z 0) e ∙ u.first)
      go (no q) (inr d) (inl e) = is_b e (ap (λ (z : ℕ). get_or us' z 0) e ∙ u.second)
      go (no q) (inr d) (inr f) =
          let e : i ≡ i - 2 + 2 = omega arith in
          was (i - 2) (omega arith) (ap (λ (z : ℕ). get_or us' z 0) e ∙ u.high (i - 2) (omega arith) (omega arith)) (inr (omega arith, e))

  -- where an old vertex stands now
  now_at : (h : ℕ) → h < m → (i : ℕ) × (i < m + 2) × (get_or us' i 0 ≡ get_or us h 0)
  now_at h l = go (dec_le h j)
    where
      go : Dec (h ≤ j) → (i : ℕ) × (i < m + 2) × (get_or us' i 0 ≡ get_or us h 0)
      go (yes q) = (h, omega arith, u.low h q)
      go (no q) = (h + 2, omega arith, u.high h (omega arith) l)

-- places keep their order
keeps : {j h h' i i' : ℕ} → ((h ≤ j) × (i ≡ h)) ⊎ ((j < h) × (i ≡ h + 2)) → ((h' ≤ j) × (i' ≡ h')) ⊎ ((j < h') × (i' ≡ h' + 2)) → h < h' → i < i'
keeps (inl a) (inl b) l = omega (arith, a, b)
keeps (inl a) (inr b) l = omega (arith, a, b)
keeps (inr a) (inl b) l = omega (arith, a, b)
keeps (inr a) (inr b) l = omega (arith, a, b)

keeps_same : {j h h' i i' : ℕ} → ((h ≤ j) × (i ≡ h)) ⊎ ((j < h) × (i ≡ h + 2)) → ((h' ≤ j) × (i' ≡ h')) ⊎ ((j < h') × (i' ≡ h' + 2)) → h ≡ h' → i ≡ i'
keeps_same (inl a) (inl b) l = omega (arith, a, b)
keeps_same (inl a) (inr b) l = absurd (omega (arith, a, b))
keeps_same (inr a) (inl b) l = absurd (omega (arith, a, b))
keeps_same (inr a) (inr b) l = omega (arith, a, b)

-- a place that is at most j stays
low_place : {j h i : ℕ} → ((h ≤ j) × (i ≡ h)) ⊎ ((j < h) × (i ≡ h + 2)) → h ≤ j → i < j + 2
low_place (inl a) e = omega (arith, a)
low_place (inr a) e = absurd (omega (arith, a))

high_place : {j h i : ℕ} → ((h ≤ j) × (i ≡ h)) ⊎ ((j < h) × (i ≡ h + 2)) → j < h → j + 2 < i
high_place (inl a) e = absurd (omega (arith, a))
high_place (inr a) e = omega (arith, a)

module _ {Vertex Vertex' : ℕ → Type 0} {m j s b : ℕ} {ps ps' us us' : List ℕ} (jm : j < m)
    (L : LeavesUp Vertex m ps us) {v : ℕ} (hv : Vertex v) (c : SplitAt Vertex ps ps' v s b) (u : PutAfter us m j s b us')
    (low : (y : ℕ) → y < m → get_or us y 0 ≡ v → y ≤ j) (high : (y : ℕ) → y < m → get_or ps v 0 ≡ get_or us y 0 → j < y)
    (more : (v : ℕ) → Vertex v → Vertex' v) (more_s : Vertex' s) (more_b : Vertex' b) (only : (v : ℕ) → Vertex' v → (v ≡ s) ⊎ ((v ≡ b) ⊎ Vertex v)) where
  -- neither s nor b is an old vertex
  not_s : (h : ℕ) → h < m → get_or us h 0 ≢ s
  not_s h l e = c.s_fresh (subst Vertex e (L.inside h l))

  not_b : (h : ℕ) → h < m → get_or us h 0 ≢ b
  not_b h l e = c.b_fresh (subst Vertex e (L.inside h l))

  up_inside : (i : ℕ) → Spot m j s b us us' i → Vertex' (get_or us' i 0)
  up_inside i (was h l e w) = subst Vertex' (sym e) (more (get_or us h 0) (L.inside h l))
  up_inside i (is_s q e) = subst Vertex' (sym e) more_s
  up_inside i (is_b q e) = subst Vertex' (sym e) more_b

  up_all : (v : ℕ) → (v ≡ s) ⊎ ((v ≡ b) ⊎ Vertex v) → (i : ℕ) × (i < m + 2) × (get_or us' i 0 ≡ v)
  up_all v (inl e) = (j + 1, omega arith, u.first ∙ sym e)
  up_all v (inr (inl e)) = (j + 2, omega arith, u.second ∙ sym e)
  up_all v (inr (inr x)) =
      let w : (h : ℕ) × (h < m) × (get_or us h 0 ≡ v) = L.all v x in
      let z : (i : ℕ) × (i < m + 2) × (get_or us' i 0 ≡ get_or us w.0 0) = now_at jm u w.0 w.1 in
      (z.0, z.1, z.2 ∙ w.2)

  up_once : (h i : ℕ) → Spot m j s b us us' h → Spot m j s b us us' i → get_or us' h 0 ≡ get_or us' i 0 → h ≡ i
  up_once h i (was x xl xe xw) (was y yl ye yw) e = keeps_same xw yw (L.once x y xl yl (sym xe ∙ e ∙ ye))
  up_once h i (was x xl xe xw) (is_s q f) e = absurd (not_s x xl (sym xe ∙ e ∙ f))
  up_once h i (was x xl xe xw) (is_b q f) e = absurd (not_b x xl (sym xe ∙ e ∙ f))
  up_once h i (is_s q f) (was y yl ye yw) e = absurd (not_s y yl (sym ye ∙ sym e ∙ f))
  up_once h i (is_s q f) (is_s r g) e = omega arith
  up_once h i (is_s q f) (is_b r g) e = absurd (c.apart (sym f ∙ e ∙ g))
  up_once h i (is_b q f) (was y yl ye yw) e = absurd (not_b y yl (sym ye ∙ sym e ∙ f))
  up_once h i (is_b q f) (is_s r g) e = absurd (c.apart (sym g ∙ sym e ∙ f))
  up_once h i (is_b q f) (is_b r g) e = omega arith

  -- the parent of what stands at place h stands at place i
  up_before : (h i : ℕ) → Spot m j s b us us' h → Spot m j s b us us' i → get_or ps' (get_or us' h 0) 0 ≡ get_or us' i 0 → h < i
  up_before h i (is_s q f) z e = go z
    where
      is : get_or us' i 0 ≡ b
      is = sym e ∙ ap (λ (y : ℕ). get_or ps' y 0) f ∙ c.new

      go : Spot m j s b us us' i → h < i
      go (was y yl ye yw) = absurd (not_b y yl (sym ye ∙ is))
      go (is_s r g) = absurd (c.apart (sym g ∙ is))
      go (is_b r g) = omega arith
  up_before h i (is_b q f) z e = go z
    where
      is : get_or us' i 0 ≡ get_or ps v 0
      is = sym e ∙ ap (λ (y : ℕ). get_or ps' y 0) f ∙ c.mid

      go : Spot m j s b us us' i → h < i
      go (was y yl ye yw) = omega (arith, high_place yw (high y yl (sym is ∙ ye)))
      go (is_s r g) = absurd (c.s_bare v hv (sym is ∙ g))
      go (is_b r g) = absurd (c.b_bare v hv (sym is ∙ g))
  up_before h i (was x xl xe xw) z e = go (equal? (get_or us x 0) v)
    where
      go : (get_or us x 0 ≡ v) ⊎ (get_or us x 0 ≢ v) → h < i
      go (inl q) = on_b z
        where
          is : get_or us' i 0 ≡ b
          is = sym e ∙ ap (λ (y : ℕ). get_or ps' y 0) (xe ∙ q) ∙ c.low

          on_b : Spot m j s b us us' i → h < i
          on_b (was y yl ye yw) = absurd (not_b y yl (sym ye ∙ is))
          on_b (is_s r g) = absurd (c.apart (sym g ∙ is))
          on_b (is_b r g) = omega (arith, low_place xw (low x xl q))
      go (inr d) = as_before z
        where
          is : get_or us' i 0 ≡ get_or ps (get_or us x 0) 0
          is = sym e ∙ ap (λ (y : ℕ). get_or ps' y 0) xe ∙ c.old (get_or us x 0) (L.inside x xl) d

          as_before : Spot m j s b us us' i → h < i
          as_before (was y yl ye yw) = keeps xw yw (L.before x y xl yl (sym is ∙ ye))
          as_before (is_s r g) = absurd (c.s_bare (get_or us x 0) (L.inside x xl) (sym is ∙ g))
          as_before (is_b r g) = absurd (c.b_bare (get_or us x 0) (L.inside x xl) (sym is ∙ g))

  pub grown_up : LeavesUp Vertex' (m + 2) ps' us'
  grown_up = record {
    inside = λ i l. up_inside i (spot jm u i l);
    all = λ v x. up_all v (only v x);
    once = λ h i hl il e. up_once h i (spot jm u h hl) (spot jm u i il) e;
    before = λ h i hl il e. up_before h i (spot jm u h hl) (spot jm u i il) e;
  }

-- the same order in another list
pub leaves_same : {Vertex : ℕ → Type 0} {m : ℕ} {ps us vs : List ℕ} → LeavesUp Vertex m ps us → ((i : ℕ) → i < m → get_or vs i 0 ≡ get_or us i 0) → LeavesUp Vertex m ps vs
leaves_same {Vertex} {m} {ps} {us} {vs} L e = record {
  inside = λ i l. subst Vertex (sym (e i l)) (L.inside i l);
  all = λ v x. let w = L.all v x in (w.0, w.1, e w.0 w.1 ∙ w.2);
  once = λ h i hl il q. L.once h i hl il (sym (e h hl) ∙ q ∙ e i il);
  before = λ h i hl il q. L.before h i hl il (ap (λ (z : ℕ). get_or ps z 0) (sym (e h hl)) ∙ q ∙ e i il);
}

-- ---- the chain

-- s and b put in after place j
abbrev pub put_in : List ℕ → ℕ → ℕ → ℕ → List ℕ
put_in us j s b = take (suc j) us ++ (s ∷ (b ∷ drop (suc j) us))

module _ (us : List ℕ) (j s b : ℕ) {m : ℕ} (size : length us ≡ m) (jm : j < m) where
  cut : length (take (suc j) us) ≡ suc j
  cut = length-take-le (suc j) us (omega arith)

  put_size : length (put_in us j s b) ≡ m + 2
  put_size = omega (arith, length-append (take (suc j) us) (s ∷ (b ∷ drop (suc j) us)), cut, length-drop (suc j) us)

  beyond : (i : ℕ) → get_or (put_in us j s b) (suc j + i) 0 ≡ get_or (s ∷ (b ∷ drop (suc j) us)) i 0
  beyond i = ap (λ (z : ℕ). get_or (put_in us j s b) (z + i) 0) (sym cut) ∙ get_or-append-add (take (suc j) us) (s ∷ (b ∷ drop (suc j) us)) i 0

  put_past : (i : ℕ) → j < i → get_or (put_in us j s b) (i + 2) 0 ≡ get_or us i 0
  put_past i l =
      let e : i + 2 ≡ suc j + suc (suc (i - suc j)) = omega arith in
      let f : suc j + (i - suc j) ≡ i = omega arith in
      ap (λ (z : ℕ). get_or (put_in us j s b) z 0) e ∙ beyond (suc (suc (i - suc j))) ∙ get_or-drop (suc j) us (i - suc j) 0 ∙ ap (λ (z : ℕ). get_or us z 0) f

  pub put_in_lem : PutAfter us m j s b (put_in us j s b)
  put_in_lem = record {
    low = λ i l. get_or-append (take (suc j) us) (s ∷ (b ∷ drop (suc j) us)) 0 i (omega (arith, cut)) ∙ get_or-take (suc j) us i 0 (omega arith);
    first = let e : j + 1 ≡ suc j + 0 = omega arith in ap (λ (z : ℕ). get_or (put_in us j s b) z 0) e ∙ beyond 0;
    second = let e : j + 2 ≡ suc j + 1 = omega arith in ap (λ (z : ℕ). get_or (put_in us j s b) z 0) e ∙ beyond 1;
    high = λ i l h. put_past i l;
  }

module _ (us below : List ℕ) (j s b u : ℕ) {m : ℕ} (C : Chained m us below) (jm : j < m) (u_is : u ≡ get_or us (suc j) 0)
    (apart : (h i : ℕ) → h < m → i < m → get_or us h 0 ≡ get_or us i 0 → h ≡ i) (positive : (h : ℕ) → h < m → get_or us h 0 ≢ 0)
    (not_s : (h : ℕ) → h < m → get_or us h 0 ≢ s) (not_b : (h : ℕ) → h < m → get_or us h 0 ≢ b) (sb : s ≢ b) (s0 : s ≢ 0) (b0 : b ≢ 0)
    (long_s : s < length below) (long_b : b < length below) (long_u : u < length below) where
  abbrev below₁ : List ℕ
  below₁ = set below s (get_or below u 0)

  abbrev below₂ : List ℕ
  below₂ = set (set below s (get_or below u 0)) b s

  abbrev below₃ : List ℕ
  below₃ = set (set (set below s (get_or below u 0)) b s) u b

  -- u is neither of the two
  us' : u ≢ s
  us' e = go (dec_le m (suc j))
    where
      go : Dec (m ≤ suc j) → ⊥
      go (yes q) = s0 (sym e ∙ u_is ∙ get_or-eq_default us 0 (omega (arith, C.size)))
      go (no q) = not_s (suc j) (omega arith) (sym u_is ∙ e)

  ub' : u ≢ b
  ub' e = go (dec_le m (suc j))
    where
      go : Dec (m ≤ suc j) → ⊥
      go (yes q) = b0 (sym e ∙ u_is ∙ get_or-eq_default us 0 (omega (arith, C.size)))
      go (no q) = not_b (suc j) (omega arith) (sym u_is ∙ e)

  -- what stands at another place leads where it led
  others : (h : ℕ) → h ≤ m → h ≢ suc j → get_or below₃ (get_or us h 0) 0 ≡ get_or below (get_or us h 0) 0
  others h l d = get_or-set_other below₂ u (get_or us h 0) b 0 not_u ∙ get_or-set_other below₁ b (get_or us h 0) s 0 nb ∙ get_or-set_other below s (get_or us h 0) (get_or below u 0) 0 ns
    where
      end : (i : ℕ) → m ≤ i → get_or us i 0 ≡ 0
      end i q = get_or-eq_default us 0 (omega (arith, C.size))

      ns : get_or us h 0 ≢ s
      ns e = go (dec_le m h)
        where
          go : Dec (m ≤ h) → ⊥
          go (yes q) = s0 (sym e ∙ end h q)
          go (no q) = not_s h (omega arith) e

      nb : get_or us h 0 ≢ b
      nb e = go (dec_le m h)
        where
          go : Dec (m ≤ h) → ⊥
          go (yes q) = b0 (sym e ∙ end h q)
          go (no q) = not_b h (omega arith) e

      not_u : get_or us h 0 ≢ u
      not_u e = go (dec_le m h) (dec_le m (suc j))
        where
          go : Dec (m ≤ h) → Dec (m ≤ suc j) → ⊥
          go (yes q) (yes r) = d (omega arith)
          go (yes q) (no r) = positive (suc j) (omega arith) (sym u_is ∙ sym e ∙ end h q)
          go (no q) (yes r) = positive h (omega arith) (e ∙ u_is ∙ end (suc j) r)
          go (no q) (no r) = d (apart h (suc j) (omega arith) (omega arith) (e ∙ u_is))

  abbrev vs : List ℕ
  vs = put_in us j s b

  pub chained_put : Chained (m + 2) (put_in us j s b) (set (set (set below s (get_or below u 0)) b s) u b)
  chained_put = record {
    size = put_size us j s b C.size jm;
    first = ap (λ (z : ℕ). get_or below₃ z 0) (P.low 0 (omega arith)) ∙ others 0 (omega arith) (omega arith) ∙ C.first;
    next = λ i l. next i l (dec_le (suc i) j) (equal? i j) (equal? i (suc j)) (equal? i (suc (suc j)));
  }
    where
      P : PutAfter us m j s b (put_in us j s b)
      P = put_in_lem us j s b C.size jm

      at_s : get_or below₃ s 0 ≡ get_or us j 0
      at_s =
          get_or-set_other below₂ u s b 0 (λ e. us' (sym e)) ∙ get_or-set_other below₁ b s s 0 sb ∙ get_or-set_same below s (get_or below u 0) 0 long_s
          ∙ ap (λ (z : ℕ). get_or below z 0) u_is ∙ C.next j jm

      at_b : get_or below₃ b 0 ≡ s
      at_b = get_or-set_other below₂ u b b 0 (λ e. ub' (sym e)) ∙ get_or-set_same below₁ b s 0 (omega (arith, length-set below s (get_or below u 0)))

      at_u : get_or below₃ u 0 ≡ b
      at_u = get_or-set_same below₂ u b 0 (omega (arith, length-set below₁ b s, length-set below s (get_or below u 0)))

      by : (h i : ℕ) → get_or (put_in us j s b) (suc i) 0 ≡ h → get_or below₃ h 0 ≡ get_or (put_in us j s b) i 0 → get_or below₃ (get_or (put_in us j s b) (suc i) 0) 0 ≡ get_or (put_in us j s b) i 0
      by h i e f = ap (λ (z : ℕ). get_or below₃ z 0) e ∙ f

      place : (a c : ℕ) → a ≡ c → get_or (put_in us j s b) a 0 ≡ get_or (put_in us j s b) c 0
      place a c e = ap (λ (z : ℕ). get_or (put_in us j s b) z 0) e

      next : (i : ℕ) → i < m + 2 → Dec (suc i ≤ j) → (i ≡ j) ⊎ (i ≢ j) → (i ≡ suc j) ⊎ (i ≢ suc j) → (i ≡ suc (suc j)) ⊎ (i ≢ suc (suc j)) → get_or below₃ (get_or (put_in us j s b) (suc i) 0) 0 ≡ get_or (put_in us j s b) i 0
      next i l (yes q) x y z = by (get_or us (suc i) 0) i (P.low (suc i) q) (others (suc i) (omega arith) (omega arith) ∙ C.next i (omega arith) ∙ sym (P.low i (omega arith)))
      next i l (no q) (inl e) y z = by s i (place (suc i) (j + 1) (omega arith) ∙ P.first) (at_s ∙ sym (place i j e ∙ P.low j (omega arith)))
      next i l (no q) (inr d) (inl e) z = by b i (place (suc i) (j + 2) (omega arith) ∙ P.second) (at_b ∙ sym (place i (j + 1) (omega arith) ∙ P.first))
      next i l (no q) (inr d) (inr f) (inl e) = by u i (place (suc i) (suc j + 2) (omega arith) ∙ put_past us j s b C.size jm (suc j) (omega arith) ∙ sym u_is) (at_u ∙ sym (place i (j + 2) (omega arith) ∙ P.second))
      next i l (no q) (inr d) (inr f) (inr g) =
          let h : ℕ = i - 2 in
          by (get_or us (suc h) 0) i (place (suc i) (suc h + 2) (omega arith) ∙ put_past us j s b C.size jm (suc h) (omega arith))
          (others (suc h) (omega arith) (omega arith) ∙ C.next h (omega arith) ∙ sym (place i (h + 2) (omega arith) ∙ put_past us j s b C.size jm h (omega arith)))

-- ---- walking along the chain

module _ (us below : List ℕ) {m : ℕ} (C : Chained m us below) where
  -- where the walk is, the root behind the last included
  pub walk_in : (B i : ℕ) → ((h : ℕ) → h < m → get_or us h 0 < B) → 0 < B → get_or us i 0 < B
  walk_in B i small b = go (dec_le m i)
    where
      go : Dec (m ≤ i) → get_or us i 0 < B
      go (yes q) = subst (λ (z : ℕ). z < B) (sym (get_or-eq_default us 0 (omega (arith, C.size)))) b
      go (no q) = small i (omega arith)

  -- one more is written out
  pub written_next : (i at : ℕ) (vs : List ℕ) → i < m → i < length vs → at ≡ get_or us (suc i) 0 → ((h : ℕ) → suc i ≤ h → h < m → get_or vs h 0 ≡ get_or us h 0)
      → (get_or below at 0 ≡ get_or us i 0) × ((h : ℕ) → i ≤ h → h < m → get_or (set vs i (get_or below at 0)) h 0 ≡ get_or us h 0)
  written_next i at vs l long e done = (led, λ h a b. each h a b (equal? h i))
    where
      led : get_or below at 0 ≡ get_or us i 0
      led = ap (λ (z : ℕ). get_or below z 0) e ∙ C.next i l

      each : (h : ℕ) → i ≤ h → h < m → (h ≡ i) ⊎ (h ≢ i) → get_or (set vs i (get_or below at 0)) h 0 ≡ get_or us h 0
      each h a b (inl q) = ap (λ (z : ℕ). get_or (set vs i (get_or below at 0)) z 0) q ∙ get_or-set_same vs i (get_or below at 0) 0 long ∙ led ∙ ap (λ (z : ℕ). get_or us z 0) (sym q)
      each h a b (inr d) = get_or-set_other vs i h (get_or below at 0) 0 d ∙ done h (omega arith) b

-- the vertex before place i, or 0
abbrev pub prior : List ℕ → ℕ → ℕ
prior us zero = 0
prior us (suc i) = get_or us i 0

pub prior_led : (us below : List ℕ) {m : ℕ} → Chained m us below → (i : ℕ) → i < m → get_or below (get_or us i 0) 0 ≡ prior us i
prior_led us below C zero l = C.first
prior_led us below C (suc i) l = C.next i (omega arith)

-- where the walk has not come to its end, it is at a place
pub prior_at : (us : List ℕ) (i at : ℕ) → at ≡ prior us i → at ≢ 0 → (0 < i) × (at ≡ get_or us (i - 1) 0)
prior_at us zero at e d = absurd (d e)
prior_at us (suc i) at e d = let q : i ≡ suc i - 1 = omega arith in (omega arith, e ∙ ap (λ (z : ℕ). get_or us z 0) q)

-- at the end no place is left
pub prior_end : (us : List ℕ) (m i : ℕ) → ((h : ℕ) → h < m → get_or us h 0 ≢ 0) → i ≤ m → 0 ≡ prior us i → i ≡ 0
prior_end us m zero positive l e = refl
prior_end us m (suc i) positive l e = absurd (positive i l (sym e))
