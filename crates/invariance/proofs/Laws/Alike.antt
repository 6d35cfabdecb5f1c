-- Nets N and M that compare alike: M has N's positions under f, its times under g, and c times k. Then every tree's edges, slacks and wire go over. Assumes nothing.
use Prim.Native.Nat.{ℕ, zero, suc, ◌*◌, ◌-◌, ◌≤◌, ◌<◌}
use mathlib.Core.Path.{◌≡◌, refl, sym, ap, ap₂, ◌∙◌}
use mathlib.Core.List.{List, [], ◌∷◌, ◌++◌, map, map-append, map-map}
use native.Mathlib.Nat.{mul_comm, mul_right_comm}
use native.Mathlib.Omega.{arith}
use lib.ListN.{length, get_or, length-map, get_or-map}
use lib.Seq.{ext_get_or}
use lib.Dec.{ltb}
use lib.IntN.{ℤ, pos, ◌-ℤ◌}
use Rattle.quantities.specs.declared.point.Point.{Point}
use Rattle.quantities.specs.Delay.{delay}
use Rattle.quantities.specs.Distance.{distance}
use Rattle.tree.specs.Lists.{sum_over, range, least}
use Rattle.tree.specs.Net.{Sink, Net, size, sink_at, required}
use Rattle.tree.specs.Tree.{Tree, parent, place}
use Rattle.tree.specs.Measures.{path, edge_length, edge_delay, path_delay, one_if, depth, slack, worst_over, worst_slack, wire_length}
use Rattle.tree.proofs.Laws.Lists.Sums.{sum_over_cong, sum_over_scale}
use Rattle.formats.proofs.Laws.Lines.Elements.{All}
use Rattle.invariance.proofs.Laws.SinkLists.{IsSink, sinks_range, map_same}
use Rattle.invariance.proofs.Laws.Similar.{Similar, least_rises, distances, delays}

pub record Alike (k : ℕ) (f : Point → Point) (g : ℤ → ℤ) (N M : Net) : Type 0 where
  pub similar : Similar k f g
  pub root : M.root ≡ f N.root
  pub branch : M.branch ≡ N.branch * k
  pub wire : M.wire ≡ N.wire
  pub n_alike : size M ≡ size N
  pub points : (s : ℕ) → IsSink (size N) s → sink_at M s ≡ f (sink_at N s)
  pub arrivals : (s : ℕ) → IsSink (size N) s → required M s ≡ g (required N s)

-- the tree with its branch points moved by f
abbrev pub map_tree : (Point → Point) → Tree → Tree
map_tree f T = record { parents = T.parents; points = map f T.points }

-- ---- a net whose sinks are changed one by one

abbrev pub map_sink : (Point → Point) → (ℤ → ℤ) → Sink → Sink
map_sink f g s = record { point = f s.point; required = g s.required }

within_map : (g : ℤ → ℤ) (l : List ℤ) (i : ℕ) → i < length l → get_or (map g l) i (pos 0) ≡ g (get_or l i (pos 0))
within_map g [] i h = absurd (omega arith)
within_map g (x ∷ l) zero h = refl
within_map g (x ∷ l) (suc i) h = within_map g l i (omega arith)

module _ (f : Point → Point) (g : ℤ → ℤ) (N M : Net) (r : M.root ≡ f N.root) (e : M.sinks ≡ map (map_sink f g) N.sinks) where
  pub mapped_size : size M ≡ size N
  mapped_size = ap length e ∙ length-map N.sinks (map_sink f g)

  pub mapped_points : (s : ℕ) → IsSink (size N) s → sink_at M s ≡ f (sink_at N s)
  mapped_points s h =
      (λ i. get_or (r i ∷ map (λ s. s.point) (e i)) s (r i))
      ∙ ap (λ l. get_or (f N.root ∷ l) s (f N.root)) (map-map (λ s. s.point) (map_sink f g) N.sinks ∙ sym (map-map f (λ s. s.point) N.sinks))
      ∙ get_or-map f (N.root ∷ map (λ s. s.point) N.sinks) s N.root

  pub mapped_arrivals : (s : ℕ) → IsSink (size N) s → required M s ≡ g (required N s)
  mapped_arrivals zero h = absurd (omega arith)
  mapped_arrivals (suc i) h =
      ap (λ l. get_or (map (λ s. s.required) l) i (pos 0)) e
      ∙ ap (λ l. get_or l i (pos 0)) (map-map (λ s. s.required) (map_sink f g) N.sinks ∙ sym (map-map g (λ s. s.required) N.sinks))
      ∙ within_map g (map (λ s. s.required) N.sinks) i (omega (arith, length-map N.sinks (λ s. s.required)))

-- ---- positions and measures

sum_times : (k : ℕ) (p q : ℕ → ℕ) → ((v : ℕ) → p v ≡ q v * k) → (l : List ℕ) → sum_over l p ≡ sum_over l q * k
sum_times k p q e l = sum_over_cong l p (λ x. k * q x) (λ x h. e x ∙ mul_comm (q x) k) ∙ sum_over_scale l k q ∙ mul_comm k (sum_over l q)

module _ {k : ℕ} {f : Point → Point} {g : ℤ → ℤ} {N M : Net} (A : Alike k f g N M) where
  sink_points : map (λ s. s.point) M.sinks ≡ map f (map (λ s. s.point) N.sinks)
  sink_points = ext_get_or M.root (map (λ s. s.point) M.sinks) (map f (map (λ s. s.point) N.sinks))
      (length-map M.sinks (λ s. s.point) ∙ A.n_alike ∙ sym (length-map (map (λ s. s.point) N.sinks) f ∙ length-map N.sinks (λ s. s.point)))
      (λ i h. A.points (suc i) (omega arith, omega (arith, A.n_alike, length-map M.sinks (λ s. s.point)))
      ∙ sym (ap (get_or (map f (map (λ s. s.point) N.sinks)) i) A.root ∙ get_or-map f (map (λ s. s.point) N.sinks) i N.root))

  -- where a vertex stands, a number that is none included
  pub sink_places : (s : ℕ) → sink_at M s ≡ f (sink_at N s)
  sink_places s = (λ i. get_or (A.root i ∷ sink_points i) s (A.root i)) ∙ get_or-map f (N.root ∷ map (λ s. s.point) N.sinks) s N.root

  pub places : (T : Tree) (v : ℕ) → place M (map_tree f T) v ≡ f (place N T v)
  places T v =
      (λ i. get_or (A.root i ∷ (sink_points i ++ map f T.points)) v (A.root i))
      ∙ ap (λ l. get_or (f N.root ∷ l) v (f N.root)) (sym (map-append f (map (λ s. s.point) N.sinks) T.points))
      ∙ get_or-map f (N.root ∷ (map (λ s. s.point) N.sinks ++ T.points)) v N.root

  edge_delays : (T : Tree) (v : ℕ) → edge_delay M (map_tree f T) v ≡ edge_delay N T v * k
  edge_delays T v = (λ i. delay (A.wire i) (places T (parent T v) i) (places T v i)) ∙ delays A.similar N.wire (place N T (parent T v)) (place N T v)

  edge_lengths : (T : Tree) (v : ℕ) → edge_length M (map_tree f T) v ≡ edge_length N T v * k
  edge_lengths T v = ap₂ distance (places T (parent T v)) (places T v) ∙ distances A.similar (place N T (parent T v)) (place N T v)

  pub same_wire : (T : Tree) → wire_length M (map_tree f T) ≡ wire_length N T * k
  unfolding wire_length
  same_wire T = ap (λ n. sum_over (range 1 (2 * n - 1)) (edge_length M (map_tree f T))) A.n_alike ∙ sum_times k (edge_length M (map_tree f T)) (edge_length N T) (edge_lengths T) (range 1 (2 * size N - 1))

  pub same_slack : (T : Tree) (s : ℕ) → IsSink (size N) s → slack M (map_tree f T) s ≡ g (slack N T s)
  same_slack T s h =
      (λ i. A.arrivals s h i -ℤ pos (delayed i) -ℤ pos (A.branch i * deep i))
      ∙ ap (λ m. g (required N s) -ℤ pos (path_delay N T s * k) -ℤ pos m) (mul_right_comm N.branch k (depth N T s))
      ∙ sym (A.similar.less (required N s -ℤ pos (path_delay N T s)) (N.branch * depth N T s) ∙ ap (λ z. z -ℤ pos (N.branch * depth N T s * k)) (A.similar.less (required N s) (path_delay N T s)))
    where
      delayed : path_delay M (map_tree f T) s ≡ path_delay N T s * k
      delayed = sum_times k (edge_delay M (map_tree f T)) (edge_delay N T) (edge_delays T) (path T s)

      deep : depth M (map_tree f T) s ≡ depth N T s
      deep = ap (λ n. sum_over (path T s) (λ u. one_if (ltb n u))) A.n_alike

  -- of some sinks, of which there is one
  pub worst_over_lem : (T : Tree) (s : ℕ) (S : List ℕ) → All (IsSink (size N)) (s ∷ S) → worst_over M (map_tree f T) (s ∷ S) ≡ g (worst_over N T (s ∷ S))
  worst_over_lem T s S h =
      ap least (map_same (size N) (slack M (map_tree f T)) (λ u. g (slack N T u)) (same_slack T) (s ∷ S) h ∙ sym (map-map g (slack N T) (s ∷ S)))
      ∙ least_rises A.similar.rising (slack N T s) (map (slack N T) S)

  pub same_worst : (T : Tree) → 1 ≤ size N → worst_slack M (map_tree f T) ≡ g (worst_slack N T)
  unfolding worst_slack
  same_worst T n1 = ap (λ n. worst_over M (map_tree f T) (range 1 n)) A.n_alike ∙ go (size N) refl n1
    where
      go : (n : ℕ) → size N ≡ n → 1 ≤ n → worst_over M (map_tree f T) (range 1 n) ≡ g (worst_over N T (range 1 n))
      go zero e h = absurd (omega arith)
      go (suc m) e h = worst_over_lem T 1 (range 2 m) (sinks_range (size N) 1 (suc m) (omega arith) (omega arith))
