-- What holds of the list of parents before an insertion holds after it, and at the end no legal tree has a better worst slack. Assumes nothing.
use mathlib.Core.Path.{◌≡◌, refl, ap, subst}
use mathlib.Core.Logic.{◌≢◌, ◌⊎◌, inl, inr}
use mathlib.Core.List.{List, [], ◌∷◌}
use Prim.Native.Nat.{ℕ, suc, ◌+◌, ◌-◌, ◌*◌, ◌≤◌, ◌<◌}
use native.Mathlib.Omega.{arith}
use lib.ListN.{length, length-set}
use lib.IntN.{ℤ, pos, ◌-ℤ◌}
use lib.Signed.{◌≤ℤ◌}
use Rattle.tree.proofs.Laws.Lists.Gaps.{gap_mono}
use Rattle.tree.proofs.Laws.Trees.Growing.{PartTree, Split, split_tree}
use Rattle.tree.proofs.Laws.Kraft.GapSums.{depth_in}
use Rattle.tree.proofs.Laws.Trees.LegalTrees.{stores, tree_legal}
use Rattle.tree.proofs.Laws.Kraft.Rivals.{Attains, NoWorse, attains_step, base_tree, base_attains}
use Rattle.tree.proofs.Laws.Lists.Sums.{down_in, equal?}
use Rattle.tree.specs.Lists.{count, down}
use Rattle.tree.specs.Planning.{split}
use Rattle.tree.specs.Tree.{parent_of, Legal}

-- w is the least of f over a list
pub record Least (S : List ℕ) (f : ℕ → ℤ) (w : ℤ) : Type 0 where
  pub below : (y : ℕ) → count y S ≢ 0 → w ≤ℤ f y
  pub at : ℕ
  pub in_list : count at S ≢ 0
  pub is : f at ≡ w

pub ≤ℤ_trans : (a b c : ℤ) → a ≤ℤ b → b ≤ℤ c → a ≤ℤ c
≤ℤ_trans a b c h k = (gap_mono a b c h k).0

no_worse : (c : ℕ) (S : List ℕ) (o : ℕ → ℤ) (F : ℕ) (p p' : ℕ → ℕ) (w w' : ℤ)
    → Least S (λ y. o y -ℤ pos (depth_in F p y * c)) w → Least S (λ y. o y -ℤ pos (depth_in F p' y * c)) w' → w ≤ℤ w' → NoWorse c S o F p p'
no_worse c S o F p p' w w' l l' h σ all y m =
    ≤ℤ_trans σ w _ (subst (λ z. σ ≤ℤ z) l.is (all l.at l.in_list)) (≤ℤ_trans w w' _ h (l'.below y m))

pub record Grown (N c : ℕ) (o : ℕ → ℤ) (S : List ℕ) (k : ℕ) (P : List ℕ) : Type 0 where
  pub size : suc (length P) ≡ 2 * N
  pub tree : PartTree N S k (2 * k + 1) (parent_of P)
  pub best : Attains c S o (2 * k + 1) (parent_of P)

pub start : (N c s : ℕ) (o : ℕ → ℤ) (P : List ℕ) → suc (length P) ≡ 2 * N → 1 ≤ s → s ≤ N → parent_of P s ≡ 0 → Grown N c o (s ∷ []) 0 P
start N c s o P size s1 sN e = record { size = size; tree = base_tree N s (parent_of P) s1 sN refl e; best = base_attains c s o (parent_of P) e }

-- the slacks after the edge to x is split
abbrev pub after : (N c : ℕ) (o : ℕ → ℤ) (k : ℕ) (P : List ℕ) (s x : ℕ) → ℕ → ℤ
after N c o k P s x y = o y -ℤ pos (depth_in (2 * suc k + 1) (parent_of (split P N k s x)) y * c)

module _ {N c : ℕ} {o : ℕ → ℤ} {S : List ℕ} {k : ℕ} {P : List ℕ} (g : Grown N c o S k P) (c1 : 0 < c) (s : ℕ)
    (s1 : 1 ≤ s) (sN : s ≤ N) (fresh : count s S ≡ 0) (kN : suc k < N) (rising : (y : ℕ) → count y S ≢ 0 → o y ≤ℤ o s) where
  pub splits : (x : ℕ) → count x S + count x (down N k) ≢ 0 → Split N k s x (parent_of P) (parent_of (split P N k s x))
  splits x h = go (equal? (count x S) 0)
    where
      go : (count x S ≡ 0) ⊎ (count x S ≢ 0) → Split N k s x (parent_of P) (parent_of (split P N k s x))
      go (inl e) = let d : (N < x) × (x ≤ N + k) = down_in N k x (omega arith) in
          stores P N k s x s1 (omega arith) (omega arith) (omega arith) (omega arith) (omega (arith, g.size)) (omega (arith, g.size)) (omega (arith, g.size))
      go (inr d) = let l : (1 ≤ x) × (x ≤ N) = g.tree.low x d in
          stores P N k s x s1 (omega arith) (λ e. omega (arith, ap (λ z. count z S) e)) (omega arith) (omega arith) (omega (arith, g.size)) (omega (arith, g.size)) (omega (arith, g.size))

  pub fuel : 2 * suc k + 1 ≡ suc (suc (2 * k + 1))
  fuel = omega arith

  -- v is an edge whose split leaves the largest worst slack
  pub grow : (w : ℕ → ℤ) (v : ℕ) → count v S + count v (down N k) ≢ 0
      → ((x : ℕ) → count x S + count x (down N k) ≢ 0 → Least (s ∷ S) (after N c o k P s x) (w x))
      → ((x : ℕ) → count x S + count x (down N k) ≢ 0 → w x ≤ℤ w v)
      → Grown N c o (s ∷ S) (suc k) (split P N k s v)
  grow w v hv least top = record {
    size = simp length-set g.size;
    tree = rw fuel (split_tree g.tree (splits v hv) hv s1 sN fresh);
    best = rw fuel (attains_step g.tree o c c1 s1 sN fresh rising g.best (parent_of (split P N k s v)) each);
  }
    where
      each : (x : ℕ) → count x S ≢ 0 → (p' : ℕ → ℕ) × Split N k s x (parent_of P) p' × NoWorse c (s ∷ S) o (suc (suc (2 * k + 1))) p' (parent_of (split P N k s v))
      each x m =
          let hx : count x S + count x (down N k) ≢ 0 = omega arith in
          (parent_of (split P N k s x), splits x hx, rw fuel at (no_worse c (s ∷ S) o (2 * suc k + 1) (parent_of (split P N k s x)) (parent_of (split P N k s v)) (w x) (w v) (least x hx) (least v hv) (top x hx)))

-- at the end: all sinks are in, and the tree is legal
pub ends : (N c k : ℕ) (o : ℕ → ℤ) (S P : List ℕ) → suc k ≡ N → Grown N c o S k P → ((s : ℕ) → 1 ≤ s → s ≤ N → count s S ≡ 1) → Legal N P
ends N c k o S P e g all = tree_legal N P S g.size all t
  where
    e1 : N - 1 ≡ k
    e1 = omega arith

    e2 : 2 * N - 1 ≡ 2 * k + 1
    e2 = omega arith

    t : PartTree N S (N - 1) (2 * N - 1) (parent_of P)
    t = rw (e1, e2) g.tree
