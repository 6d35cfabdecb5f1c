-- Two edges compared: by the room for a score, by score, and by distance and number where the scores are the same. Assumes nothing.
use Rattle.std.proofs.Common.{is_le, int_cmp, Less, Greater, Equal}
use Prim.Native.Nat.{ℕ, ◌≤◌, ◌<◌}
use mathlib.Core.Path.{◌≡◌, refl, sym, ap, ◌∙◌}
use mathlib.Core.Bool.{Bool, true, false, cond}
use mathlib.Core.List.{List}
use mathlib.Core.Logic.{◌⊎◌, inl, inr}
use native.Mathlib.Omega.{arith}
use borrow.Author.Tests.{lt-ltb, le-ltb}
use lib.Dec.{ltb}
use lib.ListN.{get_or}
use lib.IntN.{ℤ, pos, ◌-ℤ◌}
use lib.Signed.{◌≤ℤ◌, ◌<ℤ◌, lt_z}
use Rattle.quantities.specs.Distance.{distance}
use Rattle.quantities.specs.Inner.Linear.{whole, lt_z_is, lt_z_not}
use Rattle.quantities.proofs.Laws.MinMax.{min_is}
use Rattle.first_tree.specs.declared.choose.Edge.{Edge}
use Rattle.tree.specs.Inner.Arrays.{point_at}
use Rattle.tree.specs.Planning.{nearer}
use Rattle.tree.specs.SmallestSlack.{score_of}
use Rattle.first_tree.specs.Inner.Choice.{far_at, goes_before, first_of, edge_to}

-- what a test of an order by its three answers says
no_greater : (t u : Bool) → is_le (cond t Less (cond u Greater Equal)) ≡ true → (t ≡ true) ⊎ (u ≡ false)
no_greater true u e = inl refl
no_greater false true e = inl e
no_greater false false e = inr refl

greater : (t u : Bool) → is_le (cond t Less (cond u Greater Equal)) ≡ false → u ≡ true
greater true u e = cc
greater false true e = refl
greater false false e = cc

pub le_says : (x y : ℤ) → is_le (int_cmp x y) ≡ true → x ≤ℤ y
le_says x y e = go (no_greater (lt_z x y) (lt_z y x) e)
  where
    go : (lt_z x y ≡ true) ⊎ (lt_z y x ≡ false) → x ≤ℤ y
    go (inl h) = omega (arith, whole)
    go (inr h) = omega (arith, whole)

pub le_denies : (x y : ℤ) → is_le (int_cmp x y) ≡ false → y <ℤ x
le_denies x y e = let h : lt_z y x ≡ true = greater (lt_z x y) (lt_z y x) e in omega (arith, whole)

-- the tests of two scores, and what decides after them
abbrev by_scores : Edge → Edge → Bool → Bool → Bool
by_scores a x p q = cond p true (cond q false (nearer a.far.0 x.far.0 (ltb a.end x.end)))

-- an edge of less score goes behind
less_behind : (a x : Edge) → lt_z a.score.0 x.score.0 ≡ true → first_of a x ≡ x
less_behind a x e = λ i. cond (by_scores a x (below i) (e i)) a x
  where
    below : lt_z x.score.0 a.score.0 ≡ false
    below = lt_z_not {a = x.score.0} {b = a.score.0} (omega (arith, whole))

-- the edge to v, where what is left under v is less than w, or no less
module _ (c : ℤ) (slacks : List ℤ) (v : ℕ) where
  room_less : (w : ℤ) → lt_z (get_or slacks v (pos 0) -ℤ c) w ≡ true → score_of c slacks v <ℤ w
  room_less w e = omega (arith, whole, min_is (get_or slacks 0 (pos 0)) (get_or slacks v (pos 0) -ℤ c))

  pub room_tied : (w : ℤ) → score_of c slacks v ≤ℤ w → w ≤ℤ get_or slacks 0 (pos 0) → lt_z (get_or slacks v (pos 0) -ℤ c) w ≡ false → w ≡ score_of c slacks v
  room_tied w h l e = omega (arith, whole, min_is (get_or slacks 0 (pos 0)) (get_or slacks v (pos 0) -ℤ c))

  pub room_behind : (d : ℕ → ℕ) (x : Edge) → lt_z (get_or slacks v (pos 0) -ℤ c) x.score.0 ≡ true → first_of (edge_to (score_of c slacks) d v) x ≡ x
  room_behind d x e = less_behind (edge_to (score_of c slacks) d v) x (lt_z_is {a = score_of c slacks v} {b = x.score.0} (room_less x.score.0 e))

-- where x has the largest score, so does the one that goes first
pub first_keeps : (a x : Edge) → a.score.0 ≤ℤ x.score.0 → (first_of a x).score.0 ≡ x.score.0
first_keeps a x l = go (goes_before a x) refl
  where
    above : lt_z x.score.0 a.score.0 ≡ false
    above = lt_z_not {a = x.score.0} {b = a.score.0} l

    same : (q : Bool) → lt_z a.score.0 x.score.0 ≡ q → goes_before a x ≡ true → a.score.0 ≡ x.score.0
    same true e h = let z : true ≡ false = sym h ∙ (λ i. by_scores a x (above i) (e i)) in let z : ◌≡◌ {A = ℕ} 0 1 = cc in absurd (omega arith)
    same false e h = omega (arith, whole)

    go : (t : Bool) → goes_before a x ≡ t → (cond t a x).score.0 ≡ x.score.0
    go true h = same (lt_z a.score.0 x.score.0) refl h
    go false h = refl

-- an edge by its parts
pub edge_is : (f : ℕ → ℤ) (d : ℕ → ℕ) (x : Edge) (u : ℕ) → x.end ≡ u → x.score.0 ≡ f u → x.far.0 ≡ d u → x ≡ edge_to f d u
edge_is f d x u p q r i = record { end = p i; score = record { 0 = q i }; far = record { 0 = r i } }

-- how far the ends are: a sink at its own place, a branch point at the root's
module _ (n : ℕ) (xs ys : List ℤ) (s v : ℕ) where
  abbrev from : Bool → ℕ
  from t = distance (point_at xs ys (cond t 0 v)) (point_at xs ys s)

  pub far_sink : v ≤ n → distance (point_at xs ys v) (point_at xs ys s) ≡ far_at n xs ys s v
  far_sink l = ap from (sym (le-ltb n v l))

  pub far_branch_point : n < v → far_at n xs ys s v ≡ distance (point_at xs ys 0) (point_at xs ys s)
  far_branch_point l = ap from (lt-ltb n v l)
