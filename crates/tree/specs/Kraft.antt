-- The Kraft maximum: document 01, 'Planning', Theorem 1. Definitions alone.
use Rattle.std.specs.Prelude.{ℕ, zero, suc, ◌+◌, ◌*◌, ◌-◌, ◌^◌, ◌≤◌, max, Bool, true, false, List, [], ◌∷◌, map, length, leb, ℤ, pos, negsuc, ◌-ℤ◌, ◌≤ℤ◌}
use Rattle.std.proofs.Math.IntN.{pred_ℤ}
use Rattle.quantities.specs.Floor.{floor_div}
use Rattle.tree.specs.Lists.{least}

-- floor((a' - s)/c) of each sink, given the own slacks
abbrev pub floors : ℕ → List ℤ → ℤ → List ℤ
floors c own s = map (λ a. floor_div (a -ℤ s) c) own

-- "each power 2^-f is stated as the whole number 2^(m-f)"; for f = -(g+1) the exponent m - f is m + g + 1
abbrev pub power : ℕ → ℤ → ℕ
power m (pos f) = 2 ^ (m - f)
power m (negsuc g) = 2 ^ (m + suc g)

abbrev pub powers : ℕ → List ℤ → ℕ
powers m [] = 0
powers m (f ∷ l) = power m f + powers m l

-- "m being any whole number no smaller than every f"
abbrev pub Above : ℕ → List ℤ → Type 0
Above m [] = Unit {0}
Above m (f ∷ l) = (f ≤ℤ pos m) × Above m l

-- "the sum over sinks of 2^-floor((a' - s)/c) at most 1", with "the 1 as 2^m"
abbrev pub Kraft : ℕ → List ℤ → ℤ → Type 0
Kraft c own s = (m : ℕ) → Above m (floors c own s) → powers m (floors c own s) ≤ 2 ^ m

-- "the largest whole s with" it
pub record IsKraftMaximum (c : ℕ) (own : List ℤ) (s : ℤ) : Type 0 where
  pub meets : Kraft c own s
  pub largest : (r : ℤ) → Kraft c own r → r ≤ℤ s

-- ---- the same number by computing: a search downward

-- a number no smaller than every floor
abbrev pub upper : ℤ → ℕ
upper (pos f) = f
upper (negsuc g) = 0

abbrev pub top : List ℤ → ℕ
top [] = 0
top (f ∷ l) = max (upper f) (top l)

abbrev pub meets_kraft_at : ℕ → List ℤ → Bool
meets_kraft_at m fs = leb (powers m fs) (2 ^ m)

abbrev pub meets_kraft : ℕ → List ℤ → ℤ → Bool
meets_kraft c own s = meets_kraft_at (top (floors c own s)) (floors c own s)

-- from s down, k steps at most, to the first that meets the condition
unfoldable pub search_down : ℕ → List ℤ → ℕ → ℤ → ℤ
search_down c own zero s = s
search_down c own (suc k) s = elim (meets_kraft c own s) [ true ↦ s | false ↦ search_down c own k (pred_ℤ s) ]

-- none above the least own slack meets it, and the least less n × c does
unfoldable pub kraft_maximum : ℕ → List ℤ → ℤ
unfolding search_down
kraft_maximum c own = search_down c own (length own * c) (least own)
