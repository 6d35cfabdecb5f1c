-- Laws of the listing's writer: lines put one by one, the numbers on them, and the parts of the text. Assumes nothing.
use Prim.Native.Nat.{ℕ, zero, suc, ◌+◌, ◌*◌, ◌-◌, ◌≤◌, ◌<◌}
use mathlib.Core.Path.{◌≡◌, refl, sym, ap, ap₂, subst, ◌∙◌}
use mathlib.Core.List.{List, [], ◌∷◌, ◌++◌, map, append_assoc, append-nil}
use native.Mathlib.Nat.{suc-add}
use native.Mathlib.Omega.{arith}
use lib.ListN.{length, get_or, length-append}
use lib.IntN.{ℤ, pos}
use mir.Syntax.{w64}
use mir.Val.{SFits, to_z}
use mir.Facts.{to_z-of_z}
use Rattle.quantities.specs.declared.point.Point.{Point}
use Rattle.quantities.specs.Inner.Linear.{whole, abs_le, neg_up, neg_dn, rd}
use Rattle.quantities.specs.Ranges.{Within, PointWithin}
use Rattle.tree.specs.Inner.Arrays.{point_at, parents_of, tree_of, Parents}
use Rattle.tree.specs.Limits.{position_limit}
use Rattle.tree.specs.Lists.{range}
use Rattle.tree.specs.Net.{sink_numbers, branch_numbers}
use Rattle.tree.specs.Tree.{parent_of}
use Rattle.tree.proofs.Laws.Arrays.NetAndTree.{parents_length, parents_at}
use Rattle.tree.proofs.Laws.Lists.Tables.{table_length, table_at}
use Rattle.formats.specs.Line.{line_text}
use Rattle.formats.specs.ListingText.{Listing, leaf_key, node_key, node_point, leaf_text, node_text, lines_text, listing_text, ListingInRange}
use Rattle.formats.specs.Inner.Writing.{Puts, Writable, head_text}
use Rattle.formats.proofs.Laws.Numbers.Signs.{plain_back}
use Rattle.formats.proofs.Laws.Writing.{length_over, over_nil, fits_next, puts_both}

-- ---- lines put one by one

lines_add : (f : ℕ → List ℕ) (a i j : ℕ) → lines_text f (range a (i + j)) ≡ lines_text f (range a i) ++ lines_text f (range (a + i) j)
lines_add f a zero j =
    let e : a ≡ a + 0 = omega arith in
    let g : 0 + j ≡ j = omega arith in
    ap₂ (λ (b k : ℕ). lines_text f (range b k)) e g
lines_add f a (suc i) j =
    let e : suc a + i ≡ a + suc i = omega arith in
    let rest = lines_add f (suc a) i j ∙ ap (λ (b : ℕ). lines_text f (range (suc a) i) ++ lines_text f (range b j)) e in
    ap (λ (k : ℕ). lines_text f (range a k)) (suc-add i j) ∙ ap (◌++◌ (f a)) rest ∙ sym (append_assoc (f a) _ _)

-- one line more at the end
lines_more : (f : ℕ → List ℕ) (a i : ℕ) → lines_text f (range a (i + 1)) ≡ lines_text f (range a i) ++ f (a + i)
lines_more f a i = lines_add f a i 1 ∙ ap (λ r. lines_text f (range a i) ++ r) (append-nil (f (a + i)))

-- the lines below k + 1 are those below k and that of k
pub lines_next : (f : ℕ → List ℕ) (a k : ℕ) → a ≤ k → lines_text f (range a (k + 1 - a)) ≡ lines_text f (range a (k - a)) ++ f k
lines_next f a k h =
    let e : k + 1 - a ≡ k - a + 1 = omega arith in
    let g : a + (k - a) ≡ k = omega arith in
    ap (λ (i : ℕ). lines_text f (range a i)) e ∙ lines_more f a (k - a) ∙ ap (λ (i : ℕ). lines_text f (range a (k - a)) ++ f i) g

pub lines_le : (f : ℕ → List ℕ) (a i m : ℕ) → i ≤ m → length (lines_text f (range a i)) ≤ length (lines_text f (range a m))
lines_le f a i m h =
    let e : m ≡ i + (m - i) = omega arith in
    let all : lines_text f (range a m) ≡ lines_text f (range a i) ++ lines_text f (range (a + i) (m - i)) = ap (λ (k : ℕ). lines_text f (range a k)) e ∙ lines_add f a i (m - i) in
    rw (all, length-append) (omega arith)

-- of the m lines from a on, those before k are put into l
pub record Putting (f : ℕ → List ℕ) (a m : ℕ) (l : List ℕ) (at k next : ℕ) (out : List ℕ) : Type 0 where
  pub from : a ≤ k
  pub upto : k ≤ a + m
  pub long : length out ≡ length l
  pub put : Puts l at (lines_text f (range a (k - a))) next out

module _ (f : ℕ → List ℕ) (a m : ℕ) (l : List ℕ) (at : ℕ) where
  pub putting_starts : Putting f a m l at a at l
  putting_starts =
      let e : a - a ≡ 0 = omega arith in
      record { from = omega arith; upto = omega arith; long = refl; put = rw e (omega arith, sym (over_nil l at)) }

  pub putting_ends : (k next : ℕ) (out : List ℕ) → Putting f a m l at k next out → a + m ≤ k → Puts l at (lines_text f (range a m)) next out
  putting_ends k next out p h =
      let e : k - a ≡ m = omega arith in
      rw e at p.put

  module _ (fits : at + length (lines_text f (range a m)) ≤ length l) (k next : ℕ) (out : List ℕ) (p : Putting f a m l at k next out) (h : k < a + m) where
    done : List ℕ
    done = lines_text f (range a (k - a))

    more : lines_text f (range a (k + 1 - a)) ≡ done ++ f k
    unfolding done
    more = lines_next f a k p.from

    room : at + length (done ++ f k) ≤ length l
    room = rw (← more) (omega (arith, lines_le f a (k + 1 - a) m (omega arith)))

    pub line_fits : next + length (f k) ≤ length out
    unfolding done
    line_fits = fits_next l at done (f k) room next out p.put

    pub putting_more : (end : ℕ) (left : List ℕ) → Puts out next (f k) end left → Putting f a m l at (k + 1) end left
    unfolding done
    putting_more end left q =
        let both : Puts l at (done ++ f k) end left = puts_both l at done (f k) room next out p.put end left q in
        record {
          from = omega (arith, p.from);
          upto = omega arith;
          long = rw both.1 (length_over l at (done ++ f k) room);
          put = rw more both;
        }

-- ---- the numbers on the lines

pub within_writable : (k : ℕ) (z : ℤ) → Writable (pos k) → Within k z → Writable z
within_writable k z h w = omega (arith, abs_le z k w.0 w.1)

within_fits : (k : ℕ) (z : ℤ) → Writable (pos k) → Within k z → SFits w64 z
within_fits k z h w = omega (arith, whole, neg_up (pos k), neg_dn (pos k))

pub within_back : (k : ℕ) (z : ℤ) → Writable (pos k) → Within k z → rd z ≡ z
within_back k z h w = to_z-of_z (within_fits k z h w)

pub natural_writable : (n : ℕ) → Writable (pos n) → Writable (to_z w64 n)
natural_writable n h = rw (plain_back n (omega arith)) h

-- where branch point k stands
point_is : (n : ℕ) (xs ys : List ℤ) (k : ℕ) → n < k → k < 2 * n → node_point n (map (point_at xs ys) (branch_numbers n)) k ≡ point_at xs ys k
point_is n xs ys k a b =
    let e : suc n + (k - suc n) ≡ k = omega arith in
    table_at (point_at xs ys) _ (suc n) (n - 1) (k - suc n) (omega arith) ∙ ap (point_at xs ys) e

module _ (n : ℕ) (ps : List ℕ) (P : Parents n ps) (k : ℕ) (a : 1 ≤ k) (b : k < 2 * n) where
  pub parent_small : get_or ps k 0 < 1024
  parent_small = omega (arith, P.few, P.inside k a b)

  parent_back : to_z w64 (get_or ps k 0) ≡ pos (parent_of (parents_of n ps) k)
  parent_back = plain_back (get_or ps k 0) (omega (arith, parent_small)) ∙ ap pos (sym (parents_at n ps k a b))

  number_back : to_z w64 k ≡ pos k
  number_back = plain_back k (omega (arith, P.few))

  pub leaf_is : line_text leaf_key (to_z w64 k ∷ (to_z w64 (get_or ps k 0) ∷ [])) ≡ leaf_text (parents_of n ps) k
  leaf_is = ap₂ (λ (x y : ℤ). line_text leaf_key (x ∷ (y ∷ []))) number_back parent_back

  module _ (xs ys : List ℤ) (g : n < k) (w : PointWithin position_limit (point_at xs ys k)) where
    pub node_is : line_text node_key (to_z w64 k ∷ (to_z w64 (get_or ps k 0) ∷ (rd (get_or xs k (pos 0)) ∷ (rd (get_or ys k (pos 0)) ∷ [])))) ≡ node_text n (tree_of n ps xs ys) k
    node_is =
        let x = within_back position_limit _ (omega arith) w.0 ∙ ap (λ (p : Point). p.x) (sym (point_is n xs ys k g b)) in
        let y = within_back position_limit _ (omega arith) w.1 ∙ ap (λ (p : Point). p.y) (sym (point_is n xs ys k g b)) in
        (λ i. line_text node_key (number_back i ∷ (parent_back i ∷ (x i ∷ (y i ∷ [])))))

-- ---- the parts of the text

pub listing_is : (n : ℕ) (G : Listing) → listing_text n G ≡ (head_text G.slack G.wire n ++ lines_text (leaf_text G.tree.parents) (sink_numbers n)) ++ lines_text (node_text n G.tree) (branch_numbers n)
unfolding listing_text
listing_is n G = simp append_assoc

-- ---- what the arrays hold

module _ (n : ℕ) (ps : List ℕ) (xs ys : List ℤ) (slack : ℤ) (wire : ℕ) (R : ListingInRange n (record { slack = slack; wire = wire; tree = tree_of n ps xs ys })) where
  pub listed_parents : 2 * n ≤ length ps → Parents n ps
  listed_parents l = record { some = R.sinks.0; few = R.sinks.1; long = l; inside = inside }
    where
      inside : (v : ℕ) → 1 ≤ v → v < 2 * n → get_or ps v 0 < 2 * n
      inside zero a b = absurd (omega arith)
      inside (suc v) a b = rw (parents_at n ps (suc v) a b) at (R.parents v (omega (arith, parents_length n ps)))

  pub listed_points : (v : ℕ) → n < v → v < 2 * n → PointWithin position_limit (point_at xs ys v)
  listed_points v a b =
      let o : v - suc n < length (map (point_at xs ys) (branch_numbers n)) = rw (table_length (point_at xs ys) (suc n) (n - 1)) (omega arith) in
      subst (PointWithin position_limit) (point_is n xs ys v a b) (R.points (v - suc n) o)
