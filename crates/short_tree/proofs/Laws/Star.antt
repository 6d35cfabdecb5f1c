-- A wire of its own from the root to each sink is a spanning tree. Assumes nothing.
use Prim.Native.Nat.{ℕ, zero, suc, ◌≤◌, ◌<◌}
use mathlib.Core.Path.{◌≡◌, sym, ap, ◌∙◌, subst}
use native.Mathlib.Omega.{arith}
use lib.ListN.{length}
use Rattle.tree.specs.SpanningTrees.{link_at, Linked, here, from_one, from_other, Among, SpanningTree, terminals}
use Rattle.tree.proofs.Laws.Lists.Tables.{table_length, table_at, range_length}
use Rattle.tree.proofs.Laws.Trees.Defects.{range_in, in_range}
use Rattle.short_tree.specs.Theorem2.{star}

module _ (n : ℕ) where
  long : length (star n) ≡ n
  long = table_length (λ s. record { one = 0; other = s }) 1 n

  wire : (i : ℕ) → i < n → link_at (star n) i ≡ record { one = 0; other = suc i }
  wire i h = table_at (λ s. record { one = 0; other = s }) (record { one = 0; other = 0 }) 1 n i h ∙ ap (λ s. record { one = 0; other = s }) (omega arith)

  -- from any terminal to the root, and on to any
  to_root : (u : ℕ) → u ≤ n → Linked (star n) u 0
  to_root zero h = here
  to_root (suc i) h =
      let e : link_at (star n) i ≡ record { one = 0; other = suc i } = wire i (omega arith) in
      subst (Linked (star n) (suc i)) (ap (λ l. l.one) e) (from_other i (omega (arith, long)) (subst (Linked (star n) (suc i)) (sym (ap (λ l. l.other) e)) here))

  onward : (u v : ℕ) → Linked (star n) u 0 → v ≤ n → Linked (star n) u v
  onward u zero w h = w
  onward u (suc i) w h =
      let e : link_at (star n) i ≡ record { one = 0; other = suc i } = wire i (omega arith) in
      subst (Linked (star n) u) (ap (λ l. l.other) e) (from_one i (omega (arith, long)) (subst (Linked (star n) u) (sym (ap (λ l. l.one) e)) w))

  pub terminal_low : (v : ℕ) → Among (terminals n) v → v ≤ n
  terminal_low v m = omega (arith, range_in 0 (suc n) v m)

  pub low_terminal : (v : ℕ) → v ≤ n → Among (terminals n) v
  low_terminal v h = in_range 0 (suc n) v (omega arith) (omega arith)

  pub star_spans : SpanningTree (terminals n) (star n)
  star_spans = record { size = omega (arith, long, range_length 0 (suc n)); ends = ends; linked = λ u v a b. onward u v (to_root u (terminal_low u a)) (terminal_low v b) }
    where
      ends : (i : ℕ) → i < length (star n) → Among (terminals n) (link_at (star n) i).one × Among (terminals n) (link_at (star n) i).other
      ends i h =
          let e : link_at (star n) i ≡ record { one = 0; other = suc i } = wire i (omega (arith, long)) in
          (subst (Among (terminals n)) (sym (ap (λ l. l.one) e)) (low_terminal 0 (omega arith)), subst (Among (terminals n)) (sym (ap (λ l. l.other) e)) (low_terminal (suc i) (omega (arith, long))))
