-- The search for the best edge: best of one, one more, and none of the rest goes before it. Assumes nothing.
use Prim.Native.Nat.{ℕ, suc, ◌+◌, ◌≤◌, ◌<◌}
use mathlib.Core.Path.{◌≡◌, refl, sym, ap, ◌∙◌, subst}
use mathlib.Core.Bool.{Bool, true, false, cond}
use mathlib.Core.Logic.{◌≢◌, ◌⊎◌, inl, inr}
use mathlib.Core.List.{List}
use native.Mathlib.Decide.{dec_le}
use native.Mathlib.Omega.{arith}
use lib.ListN.{get_or}
use lib.IntN.{ℤ, pos, ◌-ℤ◌}
use lib.Signed.{◌≤ℤ◌, ◌<ℤ◌, lt_z, ≤ℤ_refl}
use Rattle.quantities.specs.Inner.Linear.{whole, -is}
use Rattle.quantities.proofs.Laws.MinMax.{min_is}
use Rattle.first_tree.specs.declared.choose.Edge.{Edge}
use Rattle.first_tree.specs.declared.choose.Scored.{Scored}
use Rattle.tree.specs.SmallestSlack.{score_of}
use Rattle.first_tree.specs.Inner.Choice.{goes_before, first_of, edge_to, scored_at, roomier_of, RoomiestFrom, BestEnd, BestEdge, SinkEnd, SinkFrom, AnyEnd, NoneRoomier, FirstAsGood}
use Rattle.tree.proofs.Laws.Lists.Sums.{equal?}
use Rattle.tree.proofs.Laws.Planning.Ties.{Ahead, ahead_self, ahead_trans, ahead_one, NearerOrLower, before_self, before_trans, nearer_says, by_distance}

module _ (f : ℕ → ℤ) (d : ℕ → ℕ) where
  -- the edge to r comes no later than the one to u
  abbrev pub Leads : ℕ → ℕ → Type 0
  Leads = Ahead f (by_distance d) (NearerOrLower d) (before_self d) (before_trans d) (nearer_says d)

  leads_self : (u : ℕ) → Leads u u
  leads_self = ahead_self f (by_distance d) (NearerOrLower d) (before_self d) (before_trans d) (nearer_says d)

  leads_trans : (r u v : ℕ) → Leads r u → Leads u v → Leads r v
  leads_trans = ahead_trans f (by_distance d) (NearerOrLower d) (before_self d) (before_trans d) (nearer_says d)

  leads_one : (u v : ℕ) (t : Bool) → goes_before (edge_to f d u) (edge_to f d v) ≡ t → cond t (Leads u v) (Leads v u)
  leads_one = ahead_one f (by_distance d) (NearerOrLower d) (before_self d) (before_trans d) (nearer_says d)

  -- the best of some ends: it leads them all
  leads_best : {Ends : ℕ → Type 0} (r : ℕ) → Ends r → ((u : ℕ) → Ends u → Leads r u) → BestEdge Ends f d (edge_to f d r)
  leads_best r m all = (
    refl,
    record {
      inside = m;
      largest = λ u w. (all u w).more;
      nearest = λ u w q. ((all u w).tied q).near;
      lowest = λ u w q e. ((all u w).tied q).low (sym e);
    },
  )

  best_leads : {Ends : ℕ → Type 0} {r : ℕ} → BestEnd Ends f d r → (u : ℕ) → Ends u → Leads r u
  best_leads B u w = record {
    more = B.largest u w;
    tied = λ q. record { near = B.nearest u w q; low = λ e. B.lowest u w q (sym e) };
  }

  module _ {Ends Ends' : ℕ → Type 0} (x : Edge) (B : BestEdge Ends f d x) (more : (v : ℕ) → Ends v → Ends' v) where
    -- the rest come no earlier
    best_enough : ((v : ℕ) → Ends' v → Leads x.end v ⊎ Ends v) → BestEdge Ends' f d x
    best_enough rest = subst (BestEdge Ends' f d) (sym B.0) (leads_best x.end (more _ B.1.inside) (λ v w. go v (rest v w)))
      where
        go : (v : ℕ) → Leads x.end v ⊎ Ends v → Leads x.end v
        go v (inl l) = l
        go v (inr w) = best_leads B.1 v w

    -- one more
    best_more : (u : ℕ) (r : Edge) → r ≡ first_of (edge_to f d u) x → Ends' u → ((v : ℕ) → Ends' v → (v ≡ u) ⊎ Ends v) → BestEdge Ends' f d r
    best_more u r e m rest = subst (BestEdge Ends' f d) (sym (e ∙ ap (first_of (edge_to f d u)) B.0)) (go (goes_before (edge_to f d u) (edge_to f d y)) refl)
      where
        y : ℕ
        y = x.end

        go : (t : Bool) → goes_before (edge_to f d u) (edge_to f d y) ≡ t → BestEdge Ends' f d (cond t (edge_to f d u) (edge_to f d y))
        go true h = leads_best u m (λ v w. each v (rest v w))
          where
            each : (v : ℕ) → (v ≡ u) ⊎ Ends v → Leads u v
            each v (inl q) = subst (Leads u) (sym q) (leads_self u)
            each v (inr w) = leads_trans u y v (leads_one u y true h) (best_leads B.1 v w)
        go false h = leads_best y (more y B.1.inside) (λ v w. each v (rest v w))
          where
            each : (v : ℕ) → (v ≡ u) ⊎ Ends v → Leads y v
            each v (inl q) = subst (Leads y) (sym q) (leads_one u y false h)
            each v (inr w) = best_leads B.1 v w

  -- ---- the sinks, by place

  -- the roomiest is the best of those from its place on
  pub roomiest_best : (sinks : List ℕ) (m : ℕ) (r : Scored) (x : Edge) → RoomiestFrom f sinks 0 m r → x ≡ edge_to f d (get_or sinks r.place 0) → BestEdge (SinkFrom sinks r.place m) f d x
  roomiest_best sinks m r x R e = subst (BestEdge (SinkFrom sinks r.place m) f d) (sym e) (leads_best u (r.place, omega arith, R.inside, refl) (λ v w. go v w (equal? w.0 r.place)))
    where
      u : ℕ
      u = get_or sinks r.place 0

      go : (v : ℕ) (w : SinkFrom sinks r.place m v) → (w.0 ≡ r.place) ⊎ (w.0 ≢ r.place) → Leads u v
      go v w (inl q) = subst (Leads u) (sym (ap (λ (h : ℕ). get_or sinks h 0) q) ∙ w.3) (leads_self u)
      go v w (inr q) =
          let less : f v <ℤ f u = subst (λ (z : ℕ). f z <ℤ f u) w.3 (subst (λ (z : ℤ). f (get_or sinks w.0 0) <ℤ z) R.is (R.behind w.0 (omega (arith, w.1)) w.2)) in
          record { more = omega (arith, whole); tied = λ t. absurd (omega (arith, whole)) }

  pub next_sink_lem : (sinks : List ℕ) (m i : ℕ) (x r : Edge) → i < m → BestEdge (SinkFrom sinks (suc i) m) f d x → r ≡ first_of (edge_to f d (get_or sinks i 0)) x → BestEdge (SinkFrom sinks i m) f d r
  next_sink_lem sinks m i x r l B e =
      best_more x B (λ v w. (w.0, omega (arith, w.1), w.2, w.3)) (get_or sinks i 0) r e (i, omega arith, l, refl) (λ v w. go v w (equal? w.0 i))
    where
      go : (v : ℕ) (w : SinkFrom sinks i m v) → (w.0 ≡ i) ⊎ (w.0 ≢ i) → (v ≡ get_or sinks i 0) ⊎ SinkFrom sinks (suc i) m v
      go v w (inl q) = inl (sym w.3 ∙ ap (λ (h : ℕ). get_or sinks h 0) q)
      go v w (inr q) = inr (w.0, omega (arith, w.1), w.2, w.3)

  pub all_sinks : (sinks : List ℕ) (m : ℕ) (x : Edge) → BestEdge (SinkFrom sinks 0 m) f d x → BestEdge (SinkEnd sinks m) f d x
  all_sinks sinks m x B = (
    B.0,
    record {
      inside = (B.1.inside.0, B.1.inside.2, B.1.inside.3);
      largest = λ u w. B.1.largest u (w.0, omega arith, w.1, w.2);
      nearest = λ u w. B.1.nearest u (w.0, omega arith, w.1, w.2);
      lowest = λ u w. B.1.lowest u (w.0, omega arith, w.1, w.2);
    },
  )

-- ---- the roomiest sink: of one more, and of all where none can score more

module _ (f : ℕ → ℤ) (sinks : List ℕ) (m : ℕ) where
  pub roomiest_more : (i : ℕ) (x r : Scored) → RoomiestFrom f sinks (suc i) m x → r ≡ roomier_of (scored_at f sinks i) x → RoomiestFrom f sinks i m r
  roomiest_more i x r R e = subst (RoomiestFrom f sinks i m) (sym e) (go (lt_z x.score.0 (f (get_or sinks i 0))) refl)
    where
      go : (t : Bool) → lt_z x.score.0 (f (get_or sinks i 0)) ≡ t → RoomiestFrom f sinks i m (cond t (scored_at f sinks i) x)
      go true h = record {
        from = omega arith;
        inside = omega (arith, R.from, R.inside);
        is = refl;
        largest = λ k q p. each k p (equal? k i) q;
        behind = λ k q p. let z : f (get_or sinks k 0) ≤ℤ x.score.0 = R.largest k q p in omega (arith, whole);
      }
        where
          each : (k : ℕ) → k < m → (k ≡ i) ⊎ (k ≢ i) → i ≤ k → f (get_or sinks k 0) ≤ℤ f (get_or sinks i 0)
          each k p (inl z) q = subst (λ (j : ℕ). f (get_or sinks j 0) ≤ℤ f (get_or sinks i 0)) (sym z) (≤ℤ_refl (f (get_or sinks i 0)))
          each k p (inr z) q = let y : f (get_or sinks k 0) ≤ℤ x.score.0 = R.largest k (omega arith) p in omega (arith, whole)
      go false h = record {
        from = omega (arith, R.from);
        inside = R.inside;
        is = R.is;
        largest = λ k q p. each k p (equal? k i) q;
        behind = R.behind;
      }
        where
          each : (k : ℕ) → k < m → (k ≡ i) ⊎ (k ≢ i) → i ≤ k → f (get_or sinks k 0) ≤ℤ x.score.0
          each k p (inl z) q = subst (λ (j : ℕ). f (get_or sinks j 0) ≤ℤ x.score.0) (sym z) (omega (arith, whole))
          each k p (inr z) q = R.largest k (omega arith) p

  pub roomiest_all : (worst : ℤ) (i : ℕ) (x : Scored) → ((v : ℕ) → f v ≤ℤ worst) → lt_z x.score.0 worst ≡ false → RoomiestFrom f sinks i m x → RoomiestFrom f sinks 0 m x
  roomiest_all worst i x top e R = record {
    from = omega arith;
    inside = R.inside;
    is = R.is;
    largest = λ h q p. let z : f (get_or sinks h 0) ≤ℤ worst = top (get_or sinks h 0) in omega (arith, whole);
    behind = R.behind;
  }

-- ---- the branch points: none scores more than the best sink, and all are as far as the root
module _ (c : ℤ) (n k : ℕ) (sinks : List ℕ) (slacks : List ℤ) (d : ℕ → ℕ) (x : Edge) {far : ℕ} (small : (i : ℕ) → i < suc k → get_or sinks i 0 ≤ n)
    (same : (b : ℕ) → n < b → d b ≡ far) (roomier : NoneRoomier n k sinks slacks) (B : BestEdge (SinkEnd sinks (suc k)) (score_of c slacks) d x) where
  abbrev f : ℕ → ℤ
  f = score_of c slacks

  score_is : x.score.0 ≡ f x.end
  score_is = ap (λ (y : Edge). y.score.0) B.0

  far_is : x.far.0 ≡ d x.end
  far_is = ap (λ (y : Edge). y.far.0) B.0

  none_above : (v : ℕ) → n < v → v ≤ n + k → f v ≤ℤ f x.end
  none_above v l h =
      let w = roomier v l h in
      let u : ℕ = get_or sinks w.0 0 in
      let less : get_or slacks v (pos 0) ≤ℤ get_or slacks u (pos 0) = w.2 in
      let top : f u ≤ℤ f x.end = B.1.largest u (w.0, w.1, refl) in
      let e = min_is (get_or slacks 0 (pos 0)) (get_or slacks v (pos 0) -ℤ c) in
      let g = min_is (get_or slacks 0 (pos 0)) (get_or slacks u (pos 0) -ℤ c) in
      omega (arith, whole, -is (get_or slacks v (pos 0)) c, -is (get_or slacks u (pos 0)) c)

  end_small : x.end ≤ n
  end_small = let w = B.1.inside in omega (arith, small w.0 w.1, w.2)

  less : (v : ℕ) → lt_z (f v) x.score.0 ≡ true → f v <ℤ f x.end
  less v e = subst (λ (z : ℤ). f v <ℤ z) score_is (omega (arith, whole))

  -- the best sink leads the branch points
  sink_best : ((v : ℕ) → n < v → v ≤ n + k → Leads f d x.end v) → BestEnd (AnyEnd sinks (suc k) n k) f d x.end
  sink_best lead = (best_enough f d x B (λ v w. inl w) (λ v w. go v w)).1
    where
      go : (v : ℕ) → AnyEnd sinks (suc k) n k v → Leads f d x.end v ⊎ SinkEnd sinks (suc k) v
      go v (inl w) = inr w
      go v (inr h) = inl (lead v h.0 h.1)

  pub root_no_nearer : x.far.0 ≤ far → BestEnd (AnyEnd sinks (suc k) n k) f d x.end
  root_no_nearer e = sink_best (λ v l h. record {
    more = none_above v l h;
    tied = λ q. record { near = omega (arith, e, far_is, same v l); low = λ q. omega (arith, end_small) };
  })

  pub root_nearer : (r : ℕ) → far < x.far.0 → FirstAsGood c slacks x.score.0 n k x.end r → BestEnd (AnyEnd sinks (suc k) n k) f d r
  root_nearer r near (inr w) = subst (BestEnd (AnyEnd sinks (suc k) n k) f d) (sym w.0) (sink_best (λ v l h. behind v (less v (w.1 v l (omega arith)))))
    where
      behind : (v : ℕ) → f v <ℤ f x.end → Leads f d x.end v
      behind v q = record { more = omega (arith, whole); tied = λ t. absurd (omega (arith, whole)) }
  root_nearer r near (inl w) = (leads_best f d r (inr (w.0, w.1)) (λ v h. go v h)).1
    where
      as_good : f r ≡ f x.end
      as_good =
          let h : f r ≤ℤ f x.end = none_above r w.0 w.1 in
          let t = w.2 in
          omega (arith, whole, score_is)

      first : Leads f d r x.end
      first = record { more = omega (arith, whole, as_good); tied = λ q. record { near = omega (arith, near, far_is, same r w.0); low = λ q. absurd (omega (arith, near, far_is, same r w.0)) } }

      low : (v : ℕ) → n < v → f v ≡ f r → Dec (r ≤ v) → r ≤ v
      low v l q (yes h) = h
      low v l q (no h) = let z : f v <ℤ f x.end = less v (w.3 v l (omega arith)) in absurd (omega (arith, whole, as_good))

      go : (v : ℕ) → AnyEnd sinks (suc k) n k v → Leads f d r v
      go v (inl h) = leads_trans f d r x.end v first (best_leads f d B.1 v h)
      go v (inr h) = record {
        more = let z : f v ≤ℤ f x.end = none_above v h.0 h.1 in omega (arith, whole, as_good);
        tied = λ q. record { near = omega (arith, same v h.0, same r w.0); low = λ t. low v h.0 q (dec_le r v) };
      }
