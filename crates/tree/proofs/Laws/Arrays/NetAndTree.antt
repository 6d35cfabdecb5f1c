-- What stands in the net and the tree that arrays hold. Assumes nothing.
use Prim.Native.Nat.{ℕ, zero, suc, ◌+◌, ◌*◌, ◌-◌, ◌≤◌, ◌<◌}
use mathlib.Core.Path.{◌≡◌, refl, ap, ap₂, ◌∙◌}
use mathlib.Core.List.{List, [], ◌∷◌, ◌++◌, map}
use native.Mathlib.Omega.{arith}
use native.Mathlib.Decide.{dec_le}
use lib.ListN.{length, get_or, get_or-append, length-map}
use lib.Seq.{get_or-append-add}
use lib.IntN.{ℤ, pos, ◌-ℤ◌}
use Rattle.quantities.specs.declared.point.Point.{Point}
use Rattle.quantities.specs.Delay.{delay}
use Rattle.tree.specs.declared.header.Header.{Header}
use Rattle.tree.specs.Lists.{range}
use Rattle.tree.specs.Net.{Sink, size, sink_at, required, own_slack}
use Rattle.tree.specs.Tree.{parent_of, place}
use Rattle.tree.proofs.Laws.Lists.Tables.{table_length, table_at}
use Rattle.tree.specs.Inner.Arrays.{point_at, net_of, parents_of, tree_of}

-- ---- the parents

module _ (n : ℕ) (ps : List ℕ) where
  pub parents_length : length (parents_of n ps) ≡ 2 * n - 1
  parents_length = table_length (λ v. get_or ps v 0) 1 (2 * n - 1)

  pub parents_at : (v : ℕ) → 1 ≤ v → v < 2 * n → parent_of (parents_of n ps) v ≡ get_or ps v 0
  parents_at zero h l = absurd (omega arith)
  parents_at (suc v) h l = table_at (λ v. get_or ps v 0) 0 1 (2 * n - 1) v (omega arith) ∙ ap (λ i. get_or ps i 0) (omega arith)

-- ---- the net

module _ (h : Header) (n : ℕ) (xs ys rs : List ℤ) where
  sink_of : ℕ → Sink
  sink_of s = record { point = point_at xs ys s; required = get_or rs s (pos 0) }

  pub size_is : size (net_of h n xs ys rs) ≡ n
  unfolding sink_of
  size_is = table_length sink_of 1 n

  map-map : {A : Type 0} (f : Sink → A) (l : List ℕ) → map f (map sink_of l) ≡ map (λ s. f (sink_of s)) l
  map-map f [] = refl
  map-map f (s ∷ l) = ap (λ r. f (sink_of s) ∷ r) (map-map f l)

  pub sink_at_lem : (s : ℕ) → s ≤ n → sink_at (net_of h n xs ys rs) s ≡ point_at xs ys s
  unfolding sink_of
  sink_at_lem zero l = refl
  sink_at_lem (suc i) l =
      ap (λ r. get_or r i (point_at xs ys 0)) (map-map (λ s. s.point) (range 1 n))
      ∙ table_at (point_at xs ys) (point_at xs ys 0) 1 n i (omega arith)
      ∙ ap (point_at xs ys) (omega arith)

  pub required_at : (s : ℕ) → 1 ≤ s → s ≤ n → required (net_of h n xs ys rs) s ≡ get_or rs s (pos 0)
  unfolding sink_of
  required_at zero g l = absurd (omega arith)
  required_at (suc i) g l =
      ap (λ r. get_or r i (pos 0)) (map-map (λ s. s.required) (range 1 n))
      ∙ table_at (λ s. get_or rs s (pos 0)) (pos 0) 1 n i (omega arith)
      ∙ ap (λ s. get_or rs s (pos 0)) (omega arith)

  pub own_slack_at : (s : ℕ) → 1 ≤ s → s ≤ n → own_slack (net_of h n xs ys rs) s ≡ get_or rs s (pos 0) -ℤ pos (delay h.wire (point_at xs ys 0) (point_at xs ys s))
  own_slack_at s g l =
      ap₂ (λ (a : ℤ) (p : Point). a -ℤ pos (delay h.wire (point_at xs ys 0) p)) (required_at s g l) (sink_at_lem s l)

  -- ---- the tree over it

  pub place_at : (ps : List ℕ) (v : ℕ) → v < 2 * n → place (net_of h n xs ys rs) (tree_of n ps xs ys) v ≡ point_at xs ys v
  unfolding sink_of
  place_at ps zero l = refl
  place_at ps (suc i) l = go (dec_le (suc i) n)
    where
      at : List Point
      at = map (λ s. s.point) (map sink_of (range 1 n))

      at_length : length at ≡ n
      at_length = length-map (map sink_of (range 1 n)) (λ s. s.point) ∙ size_is

      points : List Point
      points = map (point_at xs ys) (range (suc n) (n - 1))

      go : Dec (suc i ≤ n) → get_or (at ++ points) i (point_at xs ys 0) ≡ point_at xs ys (suc i)
      go (yes q) = get_or-append at points (point_at xs ys 0) i (omega (arith, at_length)) ∙ sink_at_lem (suc i) q
      go (no q) =
          let e : i ≡ length at + (i - n) = omega (arith, at_length) in
          ap (λ j. get_or (at ++ points) j (point_at xs ys 0)) e
          ∙ get_or-append-add at points (i - n) (point_at xs ys 0)
          ∙ table_at (point_at xs ys) (point_at xs ys 0) (suc n) (n - 1) (i - n) (omega arith)
          ∙ ap (point_at xs ys) (omega arith)
