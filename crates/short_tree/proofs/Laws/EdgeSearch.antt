-- The search for a sink's cheapest edge. Assumes nothing.
use Prim.Native.Nat.{ℕ, ◌+◌, ◌≤◌}
use mathlib.Core.Path.{◌≡◌, refl, sym, ap, ◌∙◌, subst}
use mathlib.Core.Logic.{◌≢◌, ◌⊎◌, inl, inr}
use mathlib.Core.List.{List}
use native.Mathlib.Omega.{arith}
use lib.ListN.{get_or}
use lib.IntN.{ℤ}
use Rattle.quantities.specs.Median.{median_point}
use Rattle.quantities.specs.Ranges.{PointWithin}
use Rattle.quantities.specs.Inner.Reach.{coordinate_reach}
use Rattle.quantities.proofs.Laws.Median.{median_in_range}
use Rattle.tree.specs.Limits.{position_limit}
use Rattle.tree.specs.Inner.Arrays.{point_at}
use Rattle.tree.proofs.Laws.Lists.Sums.{equal?}
use Rattle.tree.proofs.Laws.Measures.InReach.{point_reach}
use Rattle.std.specs.Ordering.{ord_min}
use Rattle.short_tree.specs.declared.edge.Edge.{Edge}
use Rattle.short_tree.specs.contracts.edge.EdgeOrd.TheImpl.{cmp-value}
use Rattle.short_tree.specs.Inner.Searching.{Leads, Bound}
use Rattle.short_tree.specs.Inner.Arrays.{meeting_at, added_at, Reaches, Inside, Seen, Cheapest}
use Rattle.short_tree.proofs.Laws.Choosing.{leads_trans, leads_same}
use Rattle.short_tree.proofs.Laws.Edges.{least_by}

-- ---- points in range

module _ {last : ℕ} {parents : List ℕ} {xs ys : List ℤ} (R : Reaches last parents xs ys) where
  stands : (v : ℕ) → v ≤ last → PointWithin position_limit (point_at xs ys v)
  stands v h = R.points.near v (omega arith)

  meets : (s v : ℕ) → s ≤ last → 1 ≤ v → v ≤ last → PointWithin position_limit (meeting_at parents xs ys s v)
  unfolding median_point
  meets s v sl v1 vl =
      let p : PointWithin position_limit (point_at xs ys (get_or parents v 0)) = stands (get_or parents v 0) (R.inside v v1 vl) in
      let q : PointWithin position_limit (point_at xs ys v) = stands v vl in
      let r : PointWithin position_limit (point_at xs ys s) = stands s sl in
      (median_in_range _ _ _ _ _ p.0 q.0 r.0, median_in_range _ _ _ _ _ p.1 q.1 r.1)

  pub stands_reach : (v : ℕ) → v ≤ last → PointWithin coordinate_reach (point_at xs ys v)
  stands_reach v h = point_reach _ (stands v h)

  pub meets_reach : (s v : ℕ) → s ≤ last → 1 ≤ v → v ≤ last → PointWithin coordinate_reach (meeting_at parents xs ys s v)
  meets_reach s v sl v1 vl = point_reach _ (meets s v sl v1 vl)

-- ---- bounds

-- over other edges, of which each is one of those before
pub bound_among : (f : ℕ → ℕ) (In Jn : ℕ → Type 0) (v cost : ℕ) → Jn v → ((u : ℕ) → Jn u → In u) → Bound f In v cost → Bound f Jn v cost
bound_among f In Jn v cost j from B = record { member = j; leads = λ u i. B.leads u (from u i) }

-- ---- the scan: `from` is an edge that is in, and the edges before v are seen

module _ (kept parents : List ℕ) (xs ys : List ℤ) (s from : ℕ) where
  abbrev f : ℕ → ℕ
  f = added_at parents xs ys s

  seen_more : (v u : ℕ) → Seen kept from v u → Seen kept from (v + 1) u
  seen_more v u (inl e) = inl e
  seen_more v u (inr q) = inr (q.0, omega arith, q.2)

  seen_less : (v u : ℕ) → u ≢ v → Seen kept from (v + 1) u → Seen kept from v u
  seen_less v u d (inl e) = inl e
  seen_less v u d (inr q) = inr (q.0, omega arith, q.2)

  pub scan_start : (lower cost : ℕ) → lower ≡ from → cost ≡ added_at parents xs ys s from → Cheapest (Seen kept from 1) parents xs ys s lower cost
  scan_start lower cost l a = record { bound = record { member = inl l; leads = leads }; cost_is = a ∙ ap f (sym l) }
    where
      leads : (u : ℕ) → Seen kept from 1 u → Leads cost lower (added_at parents xs ys s u) u
      leads u (inl e) = record { less = omega (arith, a, ap f e); tied = λ q. omega arith }
      leads u (inr q) = absurd (omega arith)

  module _ (v lower cost : ℕ) (C : Cheapest (Seen kept from v) parents xs ys s lower cost) where
    -- v waits: it has no edge
    pub scan_skip : get_or kept v 0 ≢ 0 → Cheapest (Seen kept from (v + 1)) parents xs ys s lower cost
    scan_skip w = record { bound = record { member = seen_more v lower C.bound.member; leads = λ u i. leads u i (equal? u v) }; cost_is = C.cost_is }
      where
        leads : (u : ℕ) → Seen kept from (v + 1) u → (u ≡ v) ⊎ (u ≢ v) → Leads cost lower (added_at parents xs ys s u) u
        leads u i (inr d) = C.bound.leads u (seen_less v u d i)
        leads u (inl e) (inl q) = C.bound.leads u (inl e)
        leads u (inr i) (inl q) = absurd (w (ap (λ z. get_or kept z 0) (sym q) ∙ i.2))

    -- the edge to v does not go before
    pub scan_stay : Leads cost lower (added_at parents xs ys s v) v → Cheapest (Seen kept from (v + 1)) parents xs ys s lower cost
    scan_stay L = record { bound = record { member = seen_more v lower C.bound.member; leads = λ u i. leads u i (equal? u v) }; cost_is = C.cost_is }
      where
        leads : (u : ℕ) → Seen kept from (v + 1) u → (u ≡ v) ⊎ (u ≢ v) → Leads cost lower (added_at parents xs ys s u) u
        leads u i (inl q) = subst (λ z. Leads cost lower (added_at parents xs ys s z) z) (sym q) L
        leads u i (inr d) = C.bound.leads u (seen_less v u d i)

    -- it does
    pub scan_take : 1 ≤ v → get_or kept v 0 ≡ 0 → Leads (added_at parents xs ys s v) v cost lower → (next here : ℕ) → next ≡ v → here ≡ added_at parents xs ys s v → Cheapest (Seen kept from (v + 1)) parents xs ys s next here
    scan_take v1 i L next here e h = subst (λ z. Cheapest (Seen kept from (v + 1)) parents xs ys s z here) (sym e) (subst (Cheapest (Seen kept from (v + 1)) parents xs ys s v) (sym h) new)
      where
        leads : (u : ℕ) → Seen kept from (v + 1) u → (u ≡ v) ⊎ (u ≢ v) → Leads (added_at parents xs ys s v) v (added_at parents xs ys s u) u
        leads u j (inl q) = record { less = omega (arith, ap f q); tied = λ z. omega arith }
        leads u j (inr d) = leads_trans (f v) v L (C.bound.leads u (seen_less v u d j))

        new : Cheapest (Seen kept from (v + 1)) parents xs ys s v (added_at parents xs ys s v)
        new = record { bound = record { member = inr (v1, omega arith, i); leads = λ u j. leads u j (equal? u v) }; cost_is = refl }

    -- the better of the two is taken
    pub scan_better : (best next found : Edge) → found ≡ ord_min cmp-value.it best next → best.lower ≡ lower → best.added.0 ≡ cost → 1 ≤ v → get_or kept v 0 ≡ 0 → next.lower ≡ v → next.added.0 ≡ added_at parents xs ys s v
        → Cheapest (Seen kept from (v + 1)) parents xs ys s found.lower found.added.0
    scan_better best next found e l c v1 i nl nc = subst After (sym e) (least_by After best next stay take)
      where
        After : Edge → Type 0
        After m = Cheapest (Seen kept from (v + 1)) parents xs ys s m.lower m.added.0

        stay : Leads best.added.0 best.lower next.added.0 next.lower → After best
        stay L = subst (λ z. Cheapest (Seen kept from (v + 1)) parents xs ys s z best.added.0) (sym l) (subst (Cheapest (Seen kept from (v + 1)) parents xs ys s lower) (sym c) (scan_stay (leads_same cost lower (added_at parents xs ys s v) v c l nc nl L)))

        take : Leads next.added.0 next.lower best.added.0 best.lower → After next
        take L = scan_take v1 i (leads_same (added_at parents xs ys s v) v cost lower nc nl c l L) next.lower next.added.0 nl nc

  -- all are seen
  pub scan_end : (last v lower cost : ℕ) → v ≡ last + 1 → Inside last kept from → Cheapest (Seen kept from v) parents xs ys s lower cost → Cheapest (Inside last kept) parents xs ys s lower cost
  scan_end last v lower cost e i C = record { bound = bound_among f (Seen kept from v) (Inside last kept) lower cost (to lower C.bound.member) back C.bound; cost_is = C.cost_is }
    where
      to : (u : ℕ) → Seen kept from v u → Inside last kept u
      to u (inl q) = subst (Inside last kept) (sym q) i
      to u (inr q) = (q.0, omega arith, q.2)

      back : (u : ℕ) → Inside last kept u → Seen kept from v u
      back u q = inr (q.0, omega arith, q.2)
