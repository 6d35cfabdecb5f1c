-- Stores to the array of the parents: one store, and the three that split an edge. Assumes nothing.
use Prim.Native.Nat.{ℕ, suc, ◌+◌, ◌*◌, ◌-◌, ◌≤◌, ◌<◌}
use mathlib.Core.Path.{◌≡◌, sym, ap, ◌∙◌}
use mathlib.Core.Logic.{◌≢◌, ◌⊎◌, inl, inr}
use mathlib.Core.List.{List}
use native.Mathlib.Omega.{arith}
use lib.ListN.{length, get_or, set, length-set}
use lib.Seq.{ext_get_or, get_or-set_same, get_or-set_other}
use Rattle.tree.specs.Tree.{parent_of}
use Rattle.tree.specs.Planning.{put, split}
use Rattle.tree.specs.Inner.Arrays.{parents_of}
use Rattle.tree.proofs.Laws.Lists.Sums.{equal?}
use Rattle.tree.proofs.Laws.Arrays.NetAndTree.{parents_length, parents_at}
use Rattle.tree.proofs.Laws.Trees.LegalTrees.{put_same, put_other}

pub parents_put : (n : ℕ) (ps : List ℕ) (v a : ℕ) → 2 * n ≤ length ps → 1 ≤ v → v < 2 * n → parents_of n (set ps v a) ≡ put (parents_of n ps) v a
parents_put n ps v a long v1 vn =
    ext_get_or 0 (parents_of n (set ps v a)) (put P v a) (parents_length n (set ps v a) ∙ sym (length-set P (v - 1) a ∙ parents_length n ps)) (λ i q. at i (omega (arith, parents_length n (set ps v a))))
  where
    P : List ℕ
    P = parents_of n ps

    at : (i : ℕ) → suc i < 2 * n → get_or (parents_of n (set ps v a)) i 0 ≡ get_or (put P v a) i 0
    at i q = parents_at n (set ps v a) (suc i) (omega arith) q ∙ go (equal? (suc i) v)
      where
        go : (suc i ≡ v) ⊎ (suc i ≢ v) → get_or (set ps v a) (suc i) 0 ≡ parent_of (put P v a) (suc i)
        go (inl e) =
            ap (λ j. get_or (set ps v a) j 0) e ∙ get_or-set_same ps v a 0 (omega arith)
            ∙ sym (ap (parent_of (put P v a)) e ∙ put_same P v a v1 (omega (arith, parents_length n ps)))
        go (inr d) = get_or-set_other ps v (suc i) a 0 d ∙ sym (put_other P v a (suc i) v1 d ∙ parents_at n ps (suc i) (omega arith) q)

-- the three stores that split the edge to v
pub parents_split : (n : ℕ) (ps : List ℕ) (k s v : ℕ) → 2 * n ≤ length ps → suc k < n → 1 ≤ s → s ≤ n → 1 ≤ v → v < 2 * n
    → parents_of n (set (set (set ps (n + suc k) (get_or ps v 0)) v (n + suc k)) s (n + suc k)) ≡ split (parents_of n ps) n k s v
parents_split n ps k s v long kn s1 sn v1 vn =
    let b : ℕ = n + suc k in
    let ps₁ : List ℕ = set ps b (get_or ps v 0) in
    let ps₂ : List ℕ = set ps₁ v b in
    parents_put n ps₂ s b (omega (arith, length-set ps₁ v b, length-set ps b (get_or ps v 0))) s1 (omega arith)
    ∙ ap (λ (P : List ℕ). put P s b) (parents_put n ps₁ v b (omega (arith, length-set ps b (get_or ps v 0))) v1 vn)
    ∙ ap (λ (P : List ℕ). put (put P v b) s b) (parents_put n ps b (get_or ps v 0) long (omega arith) (omega arith))
    ∙ ap (λ (u : ℕ). put (put (put (parents_of n ps) b u) v b) s b) (sym (parents_at n ps v v1 vn))
