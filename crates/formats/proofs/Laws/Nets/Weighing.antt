-- Sinks and their weights, apart and together. Assumes nothing.
use Prim.Native.Nat.{ℕ, zero, suc, ◌≤◌}
use mathlib.Core.Path.{◌≡◌, refl, ap}
use mathlib.Core.List.{List, [], ◌∷◌, map}
use lib.ListN.{length, length-map}
use native.Mathlib.Omega.{arith}
use Rattle.tree.specs.Net.{Sink}
use Rattle.tree.specs.Weights.{weight_of}
use Rattle.tree.specs.Limits.{weight_limit, WeightsInRange}
use Rattle.formats.specs.NetText.{WeightedSink, weighted}
use Rattle.formats.proofs.Laws.Lines.Elements.{All, all_at, all_of}

-- the sinks, and the weights, of a list of both
abbrev pub sinks_of : List WeightedSink → List Sink
sinks_of l = map (λ s. s.sink) l

abbrev pub weights_in : List WeightedSink → List ℕ
weights_in l = map (λ s. s.weight) l

pub sinks_length : (l : List WeightedSink) → length (sinks_of l) ≡ length l
sinks_length l = length-map l (λ s. s.sink)

pub weights_length : (l : List WeightedSink) → length (weights_in l) ≡ length l
weights_length l = length-map l (λ s. s.weight)

pub parts_weighted : (l : List WeightedSink) → weighted (sinks_of l) (weights_in l) ≡ l
parts_weighted [] = refl
parts_weighted (s ∷ l) = ap (λ l. s ∷ l) (parts_weighted l)

module _ where
  pub weighted_sinks : (l : List Sink) (w : List ℕ) → length w ≡ length l → sinks_of (weighted l w) ≡ l
  weighted_sinks [] w e = refl
  weighted_sinks (s ∷ l) [] e = absurd (omega arith)
  weighted_sinks (s ∷ l) (a ∷ w) e = ap (λ l. s ∷ l) (weighted_sinks l w (omega arith))

  pub weighted_weights : (l : List Sink) (w : List ℕ) → length w ≡ length l → weights_in (weighted l w) ≡ w
  weighted_weights [] [] e = refl
  weighted_weights [] (a ∷ w) e = absurd (omega arith)
  weighted_weights (s ∷ l) [] e = absurd (omega arith)
  weighted_weights (s ∷ l) (a ∷ w) e = ap (λ w. a ∷ w) (weighted_weights l w (omega arith))

  pub weighted_length : (l : List Sink) (w : List ℕ) → length w ≡ length l → length (weighted l w) ≡ length l
  weighted_length [] w e = refl
  weighted_length (s ∷ l) [] e = absurd (omega arith)
  weighted_length (s ∷ l) (a ∷ w) e = ap suc (weighted_length l w (omega arith))

-- what holds of the sinks and of the weights
pub all_weighted : (P : Sink → Type 0) (Q : ℕ → Type 0) (l : List Sink) (w : List ℕ) → length w ≡ length l → All P l → All Q w → All (λ s. P s.sink × Q s.weight) (weighted l w)
all_weighted P Q [] w e f g = tt
all_weighted P Q (s ∷ l) [] e f g = absurd (omega arith)
all_weighted P Q (s ∷ l) (a ∷ w) e f g = ((f.0, g.0), all_weighted P Q l w (omega arith) f.1 g.1)

-- ---- weights in range, by their places and as a list

abbrev pub WeightIn : ℕ → Type 0
WeightIn a = (1 ≤ a) × (a ≤ weight_limit)

pub weights_in_range : (n : ℕ) (w : List ℕ) → length w ≡ n → All WeightIn w → WeightsInRange n w
weights_in_range n w e h = record { size = e; each = each }
  where
    each : (s : ℕ) → 1 ≤ s → s ≤ n → WeightIn (weight_of w s)
    each zero p q = absurd (omega arith)
    each (suc i) p q = all_at WeightIn w h i 0 (omega arith)

pub weights_all : (n : ℕ) (w : List ℕ) → WeightsInRange n w → All WeightIn w
weights_all n w h = all_of WeightIn w 0 (λ i p. h.each (suc i) (omega arith) (omega (arith, h.size)))
