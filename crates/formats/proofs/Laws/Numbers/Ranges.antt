-- A number that is held up to the cap is tested against a range below the cap as the number itself is. Assumes nothing.
use Prim.Native.Nat.{ℕ, zero, suc, ◌+◌, ◌<◌, ◌≤◌}
use mathlib.Core.Path.{◌≡◌, refl, ap, ap₂, sym, ◌∙◌}
use mathlib.Core.Bool.{Bool, true, false, cond, ◌&&◌}
use mathlib.Core.List.{List, [], ◌∷◌, ◌++◌, map}
use native.Mathlib.Omega.{arith}
use native.Mathlib.Numerals.{add-one}
use lib.ListN.{length, get_or, drop, take, set, length-set, drop_of_length-le}
use lib.Seq.{drop-cons}
use lib.IntN.{ℤ, pos}
use Rattle.quantities.specs.Inner.Linear.{whole, neg_up, neg_dn}
use Rattle.std.specs.Prelude.{Option, Some, None}
use Rattle.std.proofs.lemmas.List.{length-map, get_or-map, take_more, take_more_set, take_all}
use Rattle.formats.specs.Ranges.{around}
use Rattle.formats.specs.Reading.Lines.{inside, all_inside}
use Rattle.formats.specs.Inner.Scanning.{held, magnitude_cap}
use Rattle.formats.specs.Inner.Ranging.{Narrow, AllNarrow}
use Rattle.formats.specs.declared.ranges.Range.{Range}
use Rattle.formats.specs.declared.number.Number.{Number}

-- ---- ranges below the cap

module _ (limit : ℕ) (below : limit < magnitude_cap) where
  pub around_narrow : Narrow (around limit)
  around_narrow = record {
    low = omega (arith, whole, neg_up (pos limit), neg_dn (pos limit));
    high = omega (arith, whole);
  }

  pub from_narrow : (a : ℕ) → Narrow (record { from = pos a; to = pos limit })
  from_narrow a = record { low = omega (arith, whole); high = omega (arith, whole) }

pub narrow_at : (ranges : List Range) (k : ℕ) (d : Range) → k < length ranges → AllNarrow ranges → Narrow (get_or ranges k d)
narrow_at [] k d b h = absurd (omega arith)
narrow_at (r ∷ ranges) zero d b h = h.0
narrow_at (r ∷ ranges) (suc k) d b h = narrow_at ranges k d (omega arith) h.1

-- ---- numbers that are tested one by one

-- the first k numbers were found in their ranges, and are the first k values
pub record FoundSoFar (ranges : List Range) (numbers : List Number) (values : List ℤ) (k : ℕ) : Type 0 where
  pub few : k ≤ length ranges
  pub numbers_long : length numbers ≡ length ranges
  pub values_long : length values ≡ length ranges
  pub values_are : (zs : List ℤ) → numbers ≡ map held zs → take k values ≡ take k zs
  pub inside_are : (zs : List ℤ) → numbers ≡ map held zs → all_inside ranges zs ≡ all_inside (drop k ranges) (drop k zs)

pub found_start : (ranges : List Range) (numbers : List Number) (values : List ℤ) → length numbers ≡ length ranges → length values ≡ length ranges → FoundSoFar ranges numbers values 0
found_start ranges numbers values n v = record { few = omega arith; numbers_long = n; values_long = v; values_are = λ zs e. refl; inside_are = λ zs e. refl }

module _ (ranges : List Range) (numbers : List Number) (values : List ℤ) (k : ℕ) (g : FoundSoFar ranges numbers values k) where
  zs_long : (zs : List ℤ) → numbers ≡ map held zs → length zs ≡ length ranges
  zs_long zs e = sym (length-map zs held) ∙ sym (ap length e) ∙ g.numbers_long

  -- number k is tested against range k
  module _ (b : k < length ranges) (d : Range) (n₀ : Number) (o : Option ℤ) (said : (z : ℤ) → get_or numbers k n₀ ≡ held z → o ≡ cond (inside (get_or ranges k d) z) (Some z) None) (zs : List ℤ) (e : numbers ≡ map held zs) where
    here : o ≡ cond (inside (get_or ranges k d) (get_or zs k (pos 0))) (Some (get_or zs k (pos 0))) None
    here = said (get_or zs k (pos 0)) (ap (λ (l : List Number). get_or l k n₀) e ∙ get_or-map held zs k (pos 0) n₀ (omega (arith, zs_long zs e)))

    split : all_inside ranges zs ≡ inside (get_or ranges k d) (get_or zs k (pos 0)) && all_inside (drop (suc k) ranges) (drop (suc k) zs)
    split = g.inside_are zs e ∙ ap₂ all_inside (drop-cons ranges k d b) (drop-cons zs k (pos 0) (omega (arith, zs_long zs e)))

    found_none : (t : Bool) → inside (get_or ranges k d) (get_or zs k (pos 0)) ≡ t → None ≡ o → ◌≡◌ {A = Option (List ℤ)} None (cond (all_inside ranges zs) (Some zs) None)
    found_none true q w = let u : None ≡ Some (get_or zs k (pos 0)) = rw q at (w ∙ here) in cc
    found_none false q w = rw (split, q)

    found_some : (v : ℤ) (t : Bool) → inside (get_or ranges k d) (get_or zs k (pos 0)) ≡ t → Some v ≡ o → (v ≡ get_or zs k (pos 0)) × (all_inside ranges zs ≡ all_inside (drop (suc k) ranges) (drop (suc k) zs))
    found_some v false q w = let u : Some v ≡ None = rw q at (w ∙ here) in cc
    found_some v true q w = let u : Some v ≡ Some (get_or zs k (pos 0)) = rw q at (w ∙ here) in (cc, rw (split, q))

  module _ (b : k < length ranges) (d : Range) (n₀ : Number) (o : Option ℤ) (said : (z : ℤ) → get_or numbers k n₀ ≡ held z → o ≡ cond (inside (get_or ranges k d) z) (Some z) None) where
    pub found_out : None ≡ o → (zs : List ℤ) → numbers ≡ map held zs → ◌≡◌ {A = Option (List ℤ)} None (cond (all_inside ranges zs) (Some zs) None)
    found_out w zs e = found_none b d n₀ o said zs e _ refl w

    pub found_more : (v : ℤ) → Some v ≡ o → FoundSoFar ranges numbers (set values k v) (k + 1)
    found_more v w = record {
      few = omega arith;
      numbers_long = g.numbers_long;
      values_long = rw length-set g.values_long;
      values_are = λ zs e.
          take_more_set values k v (omega (arith, g.values_long))
          ∙ ap₂ (λ (l : List ℤ) (z : ℤ). l ++ (z ∷ [])) (g.values_are zs e) (found_some b d n₀ o said zs e v _ refl w).0
          ∙ sym (take_more zs k (pos 0) (omega (arith, zs_long zs e)));
      inside_are = λ zs e. rw add-one (found_some b d n₀ o said zs e v _ refl w).1;
    }

  pub found_all : length ranges ≤ k → (zs : List ℤ) → numbers ≡ map held zs → ◌≡◌ {A = Option (List ℤ)} (Some values) (cond (all_inside ranges zs) (Some zs) None)
  found_all h zs e =
      let v : values ≡ zs = sym (take_all k values (omega (arith, g.values_long))) ∙ g.values_are zs e ∙ take_all k zs (omega (arith, zs_long zs e)) in
      let d : drop k ranges ≡ [] = drop_of_length-le ranges h in
      let t : all_inside ranges zs ≡ true = g.inside_are zs e ∙ rw d in
      rw (t, v)
