-- Arrays that are closed up hold the shorter net, its weights and the shorter tree. Assumes nothing.
use Prim.Native.Nat.{ℕ, suc, ◌+◌, ◌-◌, ◌*◌, ◌≤◌, ◌<◌}
use mathlib.Core.Path.{◌≡◌, sym, ap, ap₂, ◌∙◌}
use mathlib.Core.List.{List, map}
use native.Mathlib.Omega.{arith}
use lib.ListN.{length, get_or}
use lib.IntN.{ℤ, pos}
use lib.Seq.{ext_get_or}
use Rattle.quantities.specs.Inner.Linear.{up}
use Rattle.quantities.specs.declared.point.Point.{Point}
use Rattle.tree.specs.declared.header.Header.{Header}
use Rattle.tree.specs.Lists.{range}
use Rattle.tree.specs.Net.{Sink, size}
use Rattle.tree.specs.Tree.{parent_of, Legal}
use Rattle.tree.specs.Inner.Arrays.{point_at, net_of, weights_of, tree_of, parents_of}
use Rattle.tree.proofs.Laws.Lists.Tables.{table_length, table_at}
use Rattle.tree.proofs.Laws.Arrays.NetAndTree.{parents_at, parents_length, size_is}
use Rattle.shorter_tree.specs.Deletion.{drop_at, without, weights_without, renumber, above, pruned_at, pruned}
use Rattle.shorter_tree.specs.Inner.Arrays.{skip, old, Closed, HoldsShorter}
use Rattle.shorter_tree.proofs.Laws.Dropping.{skip_low, skip_high, skip_le, skip_ge, skip_add, gone_at, gone_length}
use Rattle.shorter_tree.proofs.Laws.Closing.{old_le}
use Rattle.shorter_tree.proofs.Laws.ShorterLegal.{pruned_parents, pruned_step, pruned_length, branch_point}

-- a sink's vertex among the sinks
old_one : (n s b i : ℕ) → 1 ≤ s → n < b → suc i < n → old s b (1 + i) ≡ 1 + skip (s - 1) i
old_one n s b i s1 nb h =
    let e : s ≡ 1 + (s - 1) = omega arith in
    let f : skip s (1 + i) ≡ 1 + skip (s - 1) i = ap (λ z. skip z (1 + i)) e ∙ skip_add 1 (s - 1) i in
    ap (skip b) f ∙ skip_low b (1 + skip (s - 1) i) (omega (arith, skip_le (s - 1) i))

-- a branch point's vertex among the branch points
old_more : (n s b i : ℕ) → s ≤ n → n < b → old s b (n + i) ≡ suc n + skip (b - suc n) i
old_more n s b i sn nb =
    let e : b ≡ suc n + (b - suc n) = omega arith in
    let f : suc (n + i) ≡ suc n + i = omega arith in
    ap (skip b) (skip_high s (n + i) (omega arith) ∙ f) ∙ ap (λ z. skip z (suc n + i)) e ∙ skip_add (suc n) (b - suc n) i

pub old_sink_below : (n s b w : ℕ) → n < b → w < n → old s b w < suc n
old_sink_below n s b w nb h = omega (arith, skip_le s w, skip_low b (skip s w) (omega (arith, skip_le s w)))

pub old_below : (n s b w : ℕ) → w < 2 * n - 2 → old s b w < 2 * n
old_below n s b w h = omega (arith, old_le s b w)

module _ (n s : ℕ) (ps : List ℕ) (L : Legal n (parents_of n ps)) (n2 : 2 ≤ n) (s1 : 1 ≤ s) (sn : s ≤ n) where
  abbrev b : ℕ
  b = get_or ps s 0

  branch_is : parent_of (parents_of n ps) s ≡ b
  branch_is = parents_at n ps s s1 (omega arith)

  pub branch_in : (n < b) × (b < 2 * n)
  branch_in = let r : (n < parent_of (parents_of n ps) s) × (parent_of (parents_of n ps) s < 2 * n) = branch_point n (parents_of n ps) L n2 s s1 sn in omega (arith, branch_is)

  -- a list with a place for each sink, closed up
  table_gone : {A : Type 0} (f g : ℕ → A) (d : A) → ((x : ℕ) → 1 ≤ x → x < n → g x ≡ f (old s b x)) → map g (range 1 (n - 1)) ≡ drop_at (s - 1) (map f (range 1 n))
  table_gone f g d new = ext_get_or d (map g (range 1 (n - 1))) (drop_at (s - 1) (map f (range 1 n))) lengths at
    where
      lengths : length (map g (range 1 (n - 1))) ≡ length (drop_at (s - 1) (map f (range 1 n)))
      lengths = omega (arith, table_length g 1 (n - 1), table_length f 1 n, gone_length (map f (range 1 n)) (s - 1) (omega (arith, table_length f 1 n)))

      at : (i : ℕ) → i < length (map g (range 1 (n - 1))) → get_or (map g (range 1 (n - 1))) i d ≡ get_or (drop_at (s - 1) (map f (range 1 n))) i d
      at i h =
          let k : i < n - 1 = omega (arith, table_length g 1 (n - 1)) in
          table_at g d 1 (n - 1) i k
          ∙ new (1 + i) (omega arith) (omega arith)
          ∙ ap f (old_one n s b i s1 branch_in.0 (omega arith))
          ∙ sym (table_at f d 1 n (skip (s - 1) i) (omega (arith, skip_le (s - 1) i)))
          ∙ sym (gone_at (map f (range 1 n)) (s - 1) i d)

  module _ (ps' : List ℕ) (xs ys rs ws xs' ys' rs' ws' : List ℤ) (closed : Closed 0 (λ u. renumber s b (above b (get_or ps b 0) u)) s b (2 * n - 2) ps ps')
      (closed_x : Closed (pos 0) (λ x. x) s b (2 * n - 2) xs xs') (first_x : get_or xs' 0 (pos 0) ≡ get_or xs 0 (pos 0))
      (closed_y : Closed (pos 0) (λ x. x) s b (2 * n - 2) ys ys') (first_y : get_or ys' 0 (pos 0) ≡ get_or ys 0 (pos 0))
      (closed_r : Closed (pos 0) (λ x. x) s b n rs rs') (closed_w : Closed (pos 0) (λ x. x) s b n ws ws') where
    point_root : point_at xs' ys' 0 ≡ point_at xs ys 0
    point_root = λ i. record { x = first_x i; y = first_y i }

    point_new : (w : ℕ) → 1 ≤ w → w < 2 * n - 2 → point_at xs' ys' w ≡ point_at xs ys (old s b w)
    point_new w h l = λ i. record { x = closed_x w h l i; y = closed_y w h l i }

    abbrev sink_of : ℕ → Sink
    sink_of t = record { point = point_at xs ys t; required = get_or rs t (pos 0) }

    abbrev new_sink : ℕ → Sink
    new_sink t = record { point = point_at xs' ys' t; required = get_or rs' t (pos 0) }

    sink_new : (w : ℕ) → 1 ≤ w → w < n → new_sink w ≡ sink_of (old s b w)
    sink_new w h l = λ i. record { point = point_new w h (omega arith) i; required = closed_r w h l i }

    sinks_new : map new_sink (range 1 (n - 1)) ≡ drop_at (s - 1) (map sink_of (range 1 n))
    sinks_new = table_gone sink_of new_sink (sink_of 0) sink_new

    holds_net : (h : Header) → net_of h (n - 1) xs' ys' rs' ≡ without (net_of h n xs ys rs) s
    holds_net h = λ i. record {
      root = point_root i;
      branch = (net_of h n xs ys rs).branch;
      wire = (net_of h n xs ys rs).wire;
      need = (net_of h n xs ys rs).need;
      sinks = sinks_new i;
    }

    parents_new : parents_of (n - 1) ps' ≡ pruned_parents (parents_of n ps) s b
    parents_new = ext_get_or 0 (parents_of (n - 1) ps') (pruned_parents (parents_of n ps) s b) lengths at
      where
        lengths : length (parents_of (n - 1) ps') ≡ length (pruned_parents (parents_of n ps) s b)
        lengths =
            let e : suc (suc (length (pruned_parents (parents_of n ps) s b))) ≡ length (parents_of n ps) =
            ap (λ z. suc (suc (length (pruned_parents (parents_of n ps) s z)))) (sym branch_is) ∙ pruned_length n (parents_of n ps) L n2 s s1 sn in
            omega (arith, parents_length (n - 1) ps', parents_length n ps)

        at : (i : ℕ) → i < length (parents_of (n - 1) ps') → get_or (parents_of (n - 1) ps') i 0 ≡ get_or (pruned_parents (parents_of n ps) s b) i 0
        at i h =
            let k : suc i < 2 * (n - 1) = omega (arith, parents_length (n - 1) ps') in
            let o : (1 ≤ old s b (suc i)) × (old s b (suc i) < 2 * n) = (omega (arith, old_some (suc i) (omega arith)), old_below n s b (suc i) (omega arith)) in
            parents_at (n - 1) ps' (suc i) (omega arith) k
            ∙ closed (suc i) (omega arith) (omega arith)
            ∙ ap₂ (λ a u. renumber s b (above b a u)) (sym (parents_at n ps b (omega (arith, branch_in)) branch_in.1)) (sym (parents_at n ps (old s b (suc i)) o.0 o.1))
            ∙ sym (pruned_step (parents_of n ps) s b s1 (omega (arith, branch_in)) (suc i))
          where
            old_some : (w : ℕ) → 1 ≤ w → 1 ≤ old s b w
            old_some w q = omega (arith, skip_ge s w, skip_ge b (skip s w))

    points_new : map (point_at xs' ys') (range (suc (n - 1)) (n - 1 - 1)) ≡ drop_at (b - suc n) (map (point_at xs ys) (range (suc n) (n - 1)))
    points_new = ext_get_or (point_at xs ys 0) l r lengths at
      where
        l : List Point
        l = map (point_at xs' ys') (range (suc (n - 1)) (n - 1 - 1))

        r : List Point
        r = drop_at (b - suc n) (map (point_at xs ys) (range (suc n) (n - 1)))

        l_length : length l ≡ n - 1 - 1
        l_length = table_length (point_at xs' ys') (suc (n - 1)) (n - 1 - 1)

        r_length : length (map (point_at xs ys) (range (suc n) (n - 1))) ≡ n - 1
        r_length = table_length (point_at xs ys) (suc n) (n - 1)

        lengths : length l ≡ length r
        lengths = omega (arith, l_length, r_length, gone_length (map (point_at xs ys) (range (suc n) (n - 1))) (b - suc n) (omega (arith, r_length, branch_in)))

        at : (i : ℕ) → i < length l → get_or l i (point_at xs ys 0) ≡ get_or r i (point_at xs ys 0)
        at i h =
            let k : i < n - 1 - 1 = omega (arith, l_length) in
            let e : suc (n - 1) + i ≡ n + i = omega arith in
            table_at (point_at xs' ys') (point_at xs ys 0) (suc (n - 1)) (n - 1 - 1) i k
            ∙ ap (point_at xs' ys') e
            ∙ point_new (n + i) (omega arith) (omega arith)
            ∙ ap (point_at xs ys) (old_more n s b i sn branch_in.0)
            ∙ sym (table_at (point_at xs ys) (point_at xs ys 0) (suc n) (n - 1) (skip (b - suc n) i) (omega (arith, skip_le (b - suc n) i)))
            ∙ sym (gone_at (map (point_at xs ys) (range (suc n) (n - 1))) (b - suc n) i (point_at xs ys 0))

    holds_tree : (h : Header) → tree_of (n - 1) ps' xs' ys' ≡ pruned (net_of h n xs ys rs) (tree_of n ps xs ys) s
    holds_tree h =
        let e : tree_of (n - 1) ps' xs' ys' ≡ pruned_at n (tree_of n ps xs ys) s b = λ i. record { parents = parents_new i; points = points_new i } in
        e ∙ ap₂ (λ m c. pruned_at m (tree_of n ps xs ys) s c) (sym (size_is h n xs ys rs)) (sym branch_is)

    holds_weights : weights_of (n - 1) ws' ≡ weights_without (weights_of n ws) s
    holds_weights = table_gone (λ t. up (get_or ws t (pos 0))) (λ t. up (get_or ws' t (pos 0))) 0 (λ x h l. ap up (closed_w x h l))

    pub holds_shorter : HoldsShorter n s ps xs ys rs ws ps' xs' ys' rs' ws'
    holds_shorter = record { net = holds_net; weights = holds_weights; tree = holds_tree }

-- so many sinks remain
pub shorter_size : (h : Header) (n s : ℕ) (ps : List ℕ) (xs ys rs ws : List ℤ) (ps' : List ℕ) (xs' ys' rs' ws' : List ℤ) → HoldsShorter n s ps xs ys rs ws ps' xs' ys' rs' ws' → size (without (net_of h n xs ys rs) s) ≡ n - 1
shorter_size h n s ps xs ys rs ws ps' xs' ys' rs' ws' closed = ap size (sym (closed.net h)) ∙ size_is h (n - 1) xs' ys' rs'
