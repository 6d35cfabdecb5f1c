-- What is chosen is the first of all sinks that wait and all edges; so the tree of `after` grows as Laws/Wiring has it. Assumes nothing.
use Prim.Native.Nat.{ℕ, zero, suc, ◌+◌, ◌-◌, ◌*◌, ◌≤◌, ◌<◌}
use mathlib.Core.Path.{◌≡◌, ap}
use mathlib.Core.Logic.{◌≢◌, ◌⊎◌, inl, inr}
use native.Mathlib.Omega.{arith}
use native.Mathlib.Nat.{eq-or-lt_of_le}
use lib.ListN.{get_or, replicate, length-replicate}
use Rattle.quantities.specs.Distance.{distance}
use Rattle.tree.specs.Lists.{count, down, range}
use Rattle.tree.specs.Net.{Net, size, sink_numbers, sink_at}
use Rattle.tree.proofs.Laws.Trees.LegalTrees.{somewhere, hangs}
use Rattle.tree.proofs.Laws.Planning.BeforeSettling.{count-append}
use Rattle.short_tree.specs.Inner.Searching.{Ahead}
use Rattle.short_tree.specs.ShortTree.{Growing, added, waiting, edges, edge_for, next_sink, inserted, nearest, after}
use Rattle.short_tree.specs.Theorem2.{NearestSink, NotAfter, FirstChoice}
use Rattle.short_tree.proofs.Laws.Choosing.{FirstOf, first_of_lem}
use Rattle.short_tree.proofs.Laws.Waiting.{outside_free, outside_in, sink_once, sink_range, some_waits}
use Rattle.short_tree.proofs.Laws.Wiring.{InTree, Grown, grown_start, grown_next}

-- the first s by the least cost of each, and the first v of s: first among all pairs
pairs_first : (c : ℕ → ℕ → ℕ) (e : ℕ → ℕ) (s t u : ℕ) → Ahead (λ z. c z (e z)) s t → Ahead (c t) (e t) u → NotAfter (c s (e s)) s (e s) (c t u) t u
pairs_first c e s t u a b = go (eq-or-lt_of_le h)
  where
    h : c s (e s) ≤ c t u
    h = omega (arith, a.less, b.less)

    go : (c s (e s) ≡ c t u) ⊎ (c s (e s) < c t u) → NotAfter (c s (e s)) s (e s) (c t u) t u
    go (inr l) = inl l
    go (inl q) = inr (q, sink (eq-or-lt_of_le (a.tied (omega (arith, a.less, b.less)))))
      where
        low : e t ≤ u
        low = b.tied (omega (arith, a.less, b.less))

        sink : (s ≡ t) ⊎ (s < t) → (s < t) ⊎ ((s ≡ t) × (e s ≤ u))
        sink (inl i) = inr (i, omega (arith, low, ap e i))
        sink (inr l) = inl l

pub not_after_le : {a s v b t u : ℕ} → NotAfter a s v b t u → a ≤ b
not_after_le (inl l) = omega arith
not_after_le (inr q) = omega (arith, q.0)

module _ (N : Net) (k : ℕ) (g : Growing) where
  pub edge_count : (v : ℕ) → count v (edges N k g) ≡ count v g.sinks + count v (down (size N) k)
  edge_count v = count-append v g.sinks (down (size N) k)

  pub waits : (s : ℕ) → 1 ≤ s → s ≤ size N → count s g.sinks ≡ 0 → count s (waiting N g) ≢ 0
  waits s a b h = omega (arith, outside_free g.sinks (range 1 (size N)) s h, sink_once (size N) s a b)

  pub waiting_in : (s : ℕ) → count s (waiting N g) ≢ 0 → (count s g.sinks ≡ 0) × (1 ≤ s) × (s ≤ size N)
  waiting_in s m =
      let r : (count s g.sinks ≡ 0) × (count s (range 1 (size N)) ≢ 0) = outside_in g.sinks (range 1 (size N)) s m in
      let q : (1 ≤ s) × (s ≤ size N) = sink_range (size N) s r.1 in
      (r.0, q.0, q.1)

  module _ (G : Grown N k g) where
    pub edge_first : (s : ℕ) → FirstOf (added N g.tree s) (edges N k g) (edge_for N k g s)
    edge_first s = first_of_lem (added N g.tree s) (edges N k g) (get_or g.sinks 0 0) (omega (arith, edge_count (get_or g.sinks 0 0), somewhere g.sinks 0 (omega (arith, G.in_it))))

    pub next_first : suc k < size N → FirstOf (λ s. added N g.tree s (edge_for N k g s)) (waiting N g) (next_sink N k g)
    next_first h =
        let r : (s : ℕ) × (count s (waiting N g) ≢ 0) = some_waits (size N) g.sinks (λ s m. G.tree.low s m) (omega (arith, G.in_it)) in
        first_of_lem (λ s. added N g.tree s (edge_for N k g s)) (waiting N g) r.0 r.1

    pub first_choice : suc k < size N → FirstChoice N k g (next_sink N k g) (edge_for N k g (next_sink N k g))
    first_choice h = record {
      sink = (next_first h).member;
      edge = (edge_first (next_sink N k g)).member;
      first = λ t u tw ue. pairs_first (added N g.tree) (edge_for N k g) (next_sink N k g) t u ((next_first h).ahead t tw) ((edge_first t).ahead u ue);
    }

    -- one insertion more
    pub grown_step : suc k < size N → (s v : ℕ) → FirstChoice N k g s v → Grown N (suc k) (inserted N k g s v)
    grown_step h s v c = grown_next N k g G s v w.1 w.2 w.0 h e least
      where
        w : (count s g.sinks ≡ 0) × (1 ≤ s) × (s ≤ size N)
        w = waiting_in s c.sink

        e : InTree N k g v
        e = omega (arith, edge_count v, c.edge)

        least : (t u : ℕ) → 1 ≤ t → t ≤ size N → count t g.sinks ≡ 0 → InTree N k g u → added N g.tree s v ≤ added N g.tree t u
        least t u a b o i = not_after_le (c.first t u (waits t a b o) (omega (arith, edge_count u)))

module _ (N : Net) (n1 : 1 ≤ size N) where
  pub nearest_first : FirstOf (λ s. distance N.root (sink_at N s)) (sink_numbers (size N)) (nearest N)
  nearest_first = first_of_lem (λ s. distance N.root (sink_at N s)) (sink_numbers (size N)) 1 (omega (arith, sink_once (size N) 1 (omega arith) n1))

  pub nearest_sink : NearestSink N (nearest N)
  nearest_sink = record { sink = nearest_first.member; first = λ t m. go t (nearest_first.ahead t m) (eq-or-lt_of_le (nearest_first.ahead t m).less) }
    where
      go : (t : ℕ) → Ahead (λ s. distance N.root (sink_at N s)) (nearest N) t
          → (distance N.root (sink_at N (nearest N)) ≡ distance N.root (sink_at N t)) ⊎ (distance N.root (sink_at N (nearest N)) < distance N.root (sink_at N t))
          → (distance N.root (sink_at N (nearest N)) < distance N.root (sink_at N t)) ⊎ ((distance N.root (sink_at N (nearest N)) ≡ distance N.root (sink_at N t)) × (nearest N ≤ t))
      go t a (inl e) = inr (e, a.tied e)
      go t a (inr l) = inl l

  pub grown : (k : ℕ) → k < size N → Grown N k (after N k)
  grown zero h =
      let r : (1 ≤ nearest N) × (nearest N ≤ size N) = sink_range (size N) (nearest N) nearest_first.member in
      grown_start N (nearest N) (replicate (2 * size N - 1) 0) r.0 r.1 (omega (arith, length-replicate (2 * size N - 1) zero)) (hangs (2 * size N - 1) (nearest N))
      (λ z a b. (nearest_first.ahead z (omega (arith, sink_once (size N) z a b))).less)
  grown (suc k) h =
      grown_step N k (after N k) (grown k (omega arith)) h (next_sink N k (after N k)) (edge_for N k (after N k) (next_sink N k (after N k))) (first_choice N k (after N k) (grown k (omega arith)) h)
