-- Where a branch point settles, by where its two children settle. Assumes nothing.
use Prim.Native.Nat.{ℕ, suc, ◌*◌, ◌-◌, ◌≤◌, ◌<◌}
use mathlib.Core.Path.{◌≡◌, sym, ap, ap₂, ◌∙◌}
use mathlib.Core.List.{List}
use native.Mathlib.Omega.{arith}
use lib.ListN.{get_or}
use Rattle.quantities.specs.Median.{median_point}
use Rattle.tree.proofs.Laws.Settling.SlackKept.{child, hop_child, stable, at_settled, settled_branch}
use Rattle.tree.specs.Net.{Net, size}
use Rattle.tree.specs.Settling.{children, settled, settled_tree}
use Rattle.tree.specs.Tree.{parent_of, Legal, place}

module _ (N : Net) (P : List ℕ) (L : Legal (size N) P) where
  child_place : (b c : ℕ) → size N < b → b < 2 * size N → (parent_of P c ≡ b) × (1 ≤ c) × (c < 2 * size N) → settled N P (2 * size N - 1) c ≡ place N (settled_tree N P) c
  child_place b c bN b2 h =
      let e : 2 * size N ≡ suc (2 * size N - 1) = omega arith in
      stable N P L (2 * size N - 1) c h.1 h.2 (omega (arith, hop_child N P L b c h.1 h.2 h.0)) ∙ ap (λ z. settled N P z c) (sym e) ∙ sym (at_settled N P L c h.1 h.2)

  pub settled_median : (b : ℕ) → size N < b → b < 2 * size N
      → place N (settled_tree N P) b ≡ median_point N.root (place N (settled_tree N P) (get_or (children P b) 0 0)) (place N (settled_tree N P) (get_or (children P b) 1 0))
  settled_median b bN b2 =
      let e : 2 * size N ≡ suc (2 * size N - 1) = omega arith in
      at_settled N P L b (omega arith) b2 ∙ ap (λ z. settled N P z b) e ∙ settled_branch N P (2 * size N - 1) b bN
      ∙ ap₂ (median_point N.root) (child_place b _ bN b2 (child N P L b 0 bN b2 (omega arith))) (child_place b _ bN b2 (child N P L b 1 bN b2 (omega arith)))
