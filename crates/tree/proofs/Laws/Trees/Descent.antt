-- Going down from the root by a queue: each step keeps Descended, the queue has room, and at its end it holds just the vertices that are reached. Assumes nothing.
use Prim.Native.Nat.{ℕ, zero, suc, ◌+◌, ◌*◌, ◌-◌, ◌≤◌, ◌<◌}
use mathlib.Core.Path.{◌≡◌, refl, sym, ap, ◌∙◌, subst}
use mathlib.Core.Bool.{true, false, not}
use mathlib.Core.Logic.{◌≢◌, ◌⊎◌, inl, inr}
use mathlib.Core.List.{List, [], ◌∷◌}
use Rattle.std.specs.Prelude.{None}
use native.Mathlib.Omega.{arith}
use native.Mathlib.Decide.{dec_le}
use borrow.Author.Tests.{eq-eqb, ne_eqb}
use lib.Dec.{eqb}
use lib.ListN.{length, get_or, set, length-set}
use lib.Seq.{get_or-set_same, get_or-set_other}
use Rattle.tree.specs.Lists.{delta, count, range, first_with}
use Rattle.tree.specs.Tree.{parent_of, ancestor}
use Rattle.tree.specs.Defects.{unreached}
use Rattle.tree.specs.Inner.Arrays.{parents_of, UnderRoot, RootDown}
use Rattle.tree.specs.Inner.Descent.{Queued, Descended, MarksQueued}
use Rattle.tree.proofs.Laws.Lists.Sums.{delta_self, delta_ne, equal?}
use Rattle.tree.proofs.Laws.Arrays.NetAndTree.{parents_at}
use Rattle.tree.proofs.Laws.Trees.Walks.{ancestor_top}
use Rattle.tree.proofs.Laws.Lists.Distinct.{places_many, places_few, once_more}
use Rattle.tree.proofs.Laws.Lists.Searching.{search_same}
use Rattle.tree.proofs.Laws.Trees.Defects.{first_none, none_first, no_differs, range_in, in_range}
use Rattle.tree.proofs.Laws.Trees.Linking.{Children}

-- ---- the queue holds no more than there are

module _ {n : ℕ} {ps queue : List ℕ} {i end : ℕ} (D : Descended n ps queue i end) where
  inside : (j : ℕ) → j < end → (1 ≤ get_or queue j 0) × (get_or queue j 0 ≤ 2 * n - 1)
  inside j h = let w = D.inside j h in (w.0, omega (arith, w.1))

  pub descent_few : end ≤ 2 * n - 1
  descent_few = omega (arith, places_few (λ j. get_or queue j 0) end (2 * n - 1) inside D.once [] (λ x. omega arith) (λ x h. absurd (h refl)))

-- ---- one vertex more is looked at

module _ {n : ℕ} {ps first second : List ℕ} (C : Children n ps first second) where
  pub descent_begins : (queue : List ℕ) → get_or queue 0 0 ≡ get_or first 0 0 → Descended n ps queue 0 1
  descent_begins queue e = record {
    begun = omega arith;
    inside = λ j h. subst (UnderRoot n) (sym (at j h)) C.root.0;
    once = λ h j p q z. omega arith;
    after = λ j h. inl (ap (λ v. get_or ps v 0) (at j h) ∙ C.root.1);
    top = λ v h q. (0, omega arith, e ∙ sym (C.root_all v h q));
    down = λ h v l. absurd (omega arith);
  }
    where
      at : (j : ℕ) → j < 1 → get_or queue j 0 ≡ get_or first 0 0
      at j h = let z : j ≡ 0 = omega arith in ap (λ k. get_or queue k 0) z ∙ e

  module _ {queue : List ℕ} {i end : ℕ} (D : Descended n ps queue i end) (looked : i < end) where
    -- a sink has no children
    descent_sink : get_or queue i 0 ≤ n → Descended n ps queue (i + 1) end
    descent_sink low = record {
      begun = omega arith;
      inside = D.inside;
      once = D.once;
      after = λ j h. later j (D.after j h);
      top = D.top;
      down = λ h v l b e. further h v l b e (equal? h i);
    }
      where
        later : (j : ℕ) → (get_or ps (get_or queue j 0) 0 ≡ 0) ⊎ ((h : ℕ) × (h < j) × (h < i) × (get_or queue h 0 ≡ get_or ps (get_or queue j 0) 0))
            → (get_or ps (get_or queue j 0) 0 ≡ 0) ⊎ ((h : ℕ) × (h < j) × (h < i + 1) × (get_or queue h 0 ≡ get_or ps (get_or queue j 0) 0))
        later j (inl e) = inl e
        later j (inr r) = inr (r.0, r.1, omega (arith, r.2), r.3)

        further : (h v : ℕ) → h < i + 1 → UnderRoot n v → get_or ps v 0 ≡ get_or queue h 0 → (h ≡ i) ⊎ (h ≢ i) → Queued queue end v
        further h v l b e (inl q) =
            let z : get_or ps v 0 ≡ get_or queue i 0 = e ∙ ap (λ k. get_or queue k 0) q in
            absurd (omega (arith, C.no_sink_lem v b (omega (arith, (D.inside i looked).0)), low))
        further h v l b e (inr d) = D.down h v (omega arith) b e

    -- a child of what is looked at is not in the queue yet
    fresh : (a : ℕ) → get_or ps a 0 ≡ get_or queue i 0 → (j : ℕ) → j < end → get_or queue j 0 ≢ a
    fresh a e j h z = go (D.after j h)
      where
        same : get_or ps (get_or queue j 0) 0 ≡ get_or queue i 0
        same = ap (λ v. get_or ps v 0) z ∙ e

        go : (get_or ps (get_or queue j 0) 0 ≡ 0) ⊎ ((h : ℕ) × (h < j) × (h < i) × (get_or queue h 0 ≡ get_or ps (get_or queue j 0) 0)) → ⊥
        go (inl q) = omega (arith, same, (D.inside i looked).0)
        go (inr r) = omega (arith, r.2, D.once r.0 i (omega (arith, r.2)) looked (r.3 ∙ same))

    module _ (branch : n < get_or queue i 0) where
      a : ℕ
      a = get_or first (get_or queue i 0) 0

      b : ℕ
      b = get_or second (get_or queue i 0) 0

      left : UnderRoot n a × (get_or ps a 0 ≡ get_or queue i 0)
      unfolding a
      left = C.left (get_or queue i 0) branch (D.inside i looked).1

      right : UnderRoot n b × (get_or ps b 0 ≡ get_or queue i 0)
      unfolding b
      right = C.right (get_or queue i 0) branch (D.inside i looked).1

      apart : a ≢ b
      unfolding a b
      apart = C.apart (get_or queue i 0) branch (D.inside i looked).1

      -- there is room for both
      pub descent_room : 2 + end ≤ 2 * n - 1
      descent_room =
          places_few (λ j. get_or queue j 0) end (2 * n - 1)
          (inside D)
          D.once
          (a ∷ (b ∷ []))
          (λ x. single x (equal? x a))
          (λ x h. which x h (equal? x a))
        where
          single : (x : ℕ) → (x ≡ a) ⊎ (x ≢ a) → delta x a + (delta x b + 0) ≤ 1
          single x (inl e) = omega (arith, ap (delta x) (sym e), delta_self x, delta_ne x b (λ q. apart (sym e ∙ q)))
          single x (inr d) = go (equal? x b)
            where
              go : (x ≡ b) ⊎ (x ≢ b) → delta x a + (delta x b + 0) ≤ 1
              go (inl e) = omega (arith, delta_ne x a d, ap (delta x) (sym e), delta_self x)
              go (inr q) = omega (arith, delta_ne x a d, delta_ne x b q)

          of : (x c : ℕ) → x ≡ c → UnderRoot n c × (get_or ps c 0 ≡ get_or queue i 0) → (1 ≤ x) × (x ≤ 2 * n - 1) × ((j : ℕ) → j < end → get_or queue j 0 ≢ x)
          of x c e w = (omega (arith, w.0), omega (arith, w.0), λ j h z. fresh c w.1 j h (z ∙ e))

          which : (x : ℕ) → delta x a + (delta x b + 0) ≢ 0 → (x ≡ a) ⊎ (x ≢ a) → (1 ≤ x) × (x ≤ 2 * n - 1) × ((j : ℕ) → j < end → get_or queue j 0 ≢ x)
          which x h (inl e) = of x a e left
          which x h (inr d) = go (equal? x b)
            where
              go : (x ≡ b) ⊎ (x ≢ b) → (1 ≤ x) × (x ≤ 2 * n - 1) × ((j : ℕ) → j < end → get_or queue j 0 ≢ x)
              go (inl e) = of x b e right
              go (inr q) = absurd (omega (arith, delta_ne x a d, delta_ne x b q))

      -- both go to the end
      descent_branch : end + 1 < length queue
          → Descended n ps (set (set queue end (get_or first (get_or queue i 0) 0)) (end + 1) (get_or second (get_or queue i 0) 0)) (i + 1) (end + 2)
      unfolding a b
      descent_branch room = record {
        begun = omega arith;
        inside = λ j h. by (λ j. UnderRoot n (get_or q j 0)) j h (λ l. subst (UnderRoot n) (sym (old j l)) (D.inside j l)) (subst (UnderRoot n) (sym at_a) left.0) (subst (UnderRoot n) (sym at_b) right.0);
        once = once;
        after = λ j h. by (λ j. After j) j h (λ l. earlier j l (D.after j l)) (below end a (omega arith) at_a left.1) (below (end + 1) b (omega arith) at_b right.1);
        top = λ v h e. kept v (D.top v h e);
        down = λ h v l w e. further h v w (e ∙ old h (omega arith)) (equal? h i) l;
      }
        where
          q : List ℕ
          q = set (set queue end a) (end + 1) b

          After : ℕ → Type 0
          After j = (get_or ps (get_or q j 0) 0 ≡ 0) ⊎ ((h : ℕ) × (h < j) × (h < i + 1) × (get_or q h 0 ≡ get_or ps (get_or q j 0) 0))

          old : (j : ℕ) → j < end → get_or q j 0 ≡ get_or queue j 0
          old j l = get_or-set_other (set queue end a) (end + 1) j b 0 (omega arith) ∙ get_or-set_other queue end j a 0 (omega arith)

          at_a : get_or q end 0 ≡ a
          at_a = get_or-set_other (set queue end a) (end + 1) end b 0 (omega arith) ∙ get_or-set_same queue end a 0 (omega arith)

          at_b : get_or q (end + 1) 0 ≡ b
          at_b = get_or-set_same (set queue end a) (end + 1) b 0 (simp length-set room)

          by : (A : ℕ → Type 0) (j : ℕ) → j < end + 2 → (j < end → A j) → A end → A (end + 1) → A j
          by A j h f x y = go (equal? j end) (equal? j (end + 1))
            where
              go : (j ≡ end) ⊎ (j ≢ end) → (j ≡ end + 1) ⊎ (j ≢ end + 1) → A j
              go (inl e) d = subst A (sym e) x
              go (inr c) (inl e) = subst A (sym e) y
              go (inr c) (inr d) = f (omega arith)

          first_once : (h j : ℕ) → h < end + 1 → j < end + 1 → get_or q h 0 ≡ get_or q j 0 → h ≡ j
          first_once = once_more (λ j. get_or q j 0) end (λ h j l m e. D.once h j l m (sym (old h l) ∙ e ∙ old j m)) (λ j l e. fresh a left.1 j l (sym (old j l) ∙ e ∙ at_a))

          once : (h j : ℕ) → h < end + 2 → j < end + 2 → get_or q h 0 ≡ get_or q j 0 → h ≡ j
          once h j l m = once_more (λ j. get_or q j 0) (end + 1) first_once (λ j l e. other j l (equal? j end) (e ∙ at_b)) h j (omega arith) (omega arith)
            where
              other : (j : ℕ) → j < end + 1 → (j ≡ end) ⊎ (j ≢ end) → get_or q j 0 ≡ b → ⊥
              other j l (inl z) e = apart (sym at_a ∙ ap (λ k. get_or q k 0) (sym z) ∙ e)
              other j l (inr z) e = fresh b right.1 j (omega arith) (sym (old j (omega arith)) ∙ e)

          earlier : (j : ℕ) → j < end → (get_or ps (get_or queue j 0) 0 ≡ 0) ⊎ ((h : ℕ) × (h < j) × (h < i) × (get_or queue h 0 ≡ get_or ps (get_or queue j 0) 0)) → After j
          earlier j l (inl e) = inl (ap (λ v. get_or ps v 0) (old j l) ∙ e)
          earlier j l (inr r) = inr (r.0, r.1, omega (arith, r.2), old r.0 (omega (arith, r.2)) ∙ r.3 ∙ ap (λ v. get_or ps v 0) (sym (old j l)))

          below : (j c : ℕ) → i < j → get_or q j 0 ≡ c → get_or ps c 0 ≡ get_or queue i 0 → After j
          below j c l e w = inr (i, l, omega arith, old i looked ∙ sym w ∙ ap (λ v. get_or ps v 0) (sym e))

          kept : (v : ℕ) → Queued queue end v → Queued q (end + 2) v
          kept v r = (r.0, omega (arith, r.1), old r.0 r.1 ∙ r.2)

          further : (h v : ℕ) → UnderRoot n v → get_or ps v 0 ≡ get_or queue h 0 → (h ≡ i) ⊎ (h ≢ i) → h < i + 1 → Queued q (end + 2) v
          further h v w e (inr d) l = kept v (D.down h v (omega arith) w e)
          further h v w e (inl z) l = go (C.all v w (omega (arith, at_i)))
            where
              at_i : get_or ps v 0 ≡ get_or queue i 0
              at_i = e ∙ ap (λ k. get_or queue k 0) z

              go : (v ≡ get_or first (get_or ps v 0) 0) ⊎ (v ≡ get_or second (get_or ps v 0) 0) → Queued q (end + 2) v
              go (inl o) = (end, omega arith, at_a ∙ sym (o ∙ ap (λ u. get_or first u 0) at_i))
              go (inr o) = (end + 1, omega arith, at_b ∙ sym (o ∙ ap (λ u. get_or second u 0) at_i))

-- ---- a step as `queue_children` takes it

abbrev pub QueuesChildren : ℕ → List ℕ → List ℕ → List ℕ → ℕ → ℕ → List ℕ → ℕ → Type 0
QueuesChildren n first second queue end v queue' end' =
    (v ≤ n → (end' ≡ end) × (queue' ≡ queue)) × (n < v → (end' ≡ end + 2) × (queue' ≡ set (set queue end (get_or first v 0)) (end + 1) (get_or second v 0)))

pub descent_step : {n : ℕ} {ps first second queue : List ℕ} {i end : ℕ} → Children n ps first second → Descended n ps queue i end → i < end → 2 * n ≤ length queue
    → (queue' : List ℕ) (end' : ℕ) → QueuesChildren n first second queue end (get_or queue i 0) queue' end' → Descended n ps queue' (i + 1) end'
descent_step {n} {ps} {first} {second} {queue} {i} {end} C D looked long queue' end' step = go (dec_le (get_or queue i 0) n)
  where
    moved : {q : List ℕ} {e : ℕ} → end' ≡ e → queue' ≡ q → Descended n ps q (i + 1) e → Descended n ps queue' (i + 1) end'
    moved {q} {e} a b d = subst (λ l. Descended n ps l (i + 1) end') (sym b) (subst (λ z. Descended n ps q (i + 1) z) (sym a) d)

    go : Dec (get_or queue i 0 ≤ n) → Descended n ps queue' (i + 1) end'
    go (yes l) = let w = step.0 l in moved w.0 w.1 (descent_sink C D looked l)
    go (no l) =
        let b : n < get_or queue i 0 = omega arith in
        let w = step.1 b in
        moved w.0 w.1 (descent_branch C D looked b (omega (arith, descent_room C D looked b)))

-- all are looked at
pub descent_ended : {n : ℕ} {ps queue : List ℕ} {i end : ℕ} → Descended n ps queue i end → end ≤ i → Descended n ps queue end end
descent_ended {n} {ps} {queue} {i} {end} D h = let e : i ≡ end = omega (arith, D.begun) in subst (λ k. Descended n ps queue k end) e D

-- ---- the marks of the first j

pub marks_none : (n : ℕ) (queue marks : List ℕ) → ((u : ℕ) → u < 2 * n → get_or marks u 0 ≡ 0) → MarksQueued n queue 0 marks
marks_none n queue marks clear = record { out = λ v l e r. omega (arith, r.1); in_queue = λ v l d. absurd (d (clear v l)) }

pub marks_more : (n : ℕ) (queue marks : List ℕ) (j : ℕ) → get_or queue j 0 < length marks → MarksQueued n queue j marks → MarksQueued n queue (j + 1) (set marks (get_or queue j 0) 1)
marks_more n queue marks j room M = record { out = λ v l e r. out v l e r (equal? v u); in_queue = λ v l d. in_queue v l d (equal? v u) }
  where
    u : ℕ
    u = get_or queue j 0

    here : (v : ℕ) → v ≡ u → get_or (set marks u 1) v 0 ≡ 1
    here v q = ap (λ w. get_or (set marks u 1) w 0) q ∙ get_or-set_same marks u 1 0 room

    other : (v : ℕ) → v ≢ u → get_or (set marks u 1) v 0 ≡ get_or marks v 0
    other v d = get_or-set_other marks u v 1 0 d

    out : (v : ℕ) → v < 2 * n → get_or (set marks u 1) v 0 ≡ 0 → Queued queue (j + 1) v → (v ≡ u) ⊎ (v ≢ u) → ⊥
    out v l e r (inl q) = omega (arith, here v q)
    out v l e r (inr d) = go (equal? r.0 j)
      where
        go : (r.0 ≡ j) ⊎ (r.0 ≢ j) → ⊥
        go (inl q) = d (sym r.2 ∙ ap (λ k. get_or queue k 0) q)
        go (inr q) = M.out v l (sym (other v d) ∙ e) (r.0, omega (arith, r.1), r.2)

    in_queue : (v : ℕ) → v < 2 * n → get_or (set marks u 1) v 0 ≢ 0 → (v ≡ u) ⊎ (v ≢ u) → Queued queue (j + 1) v
    in_queue v l e (inl q) = (j, omega arith, sym q)
    in_queue v l e (inr d) = let r = M.in_queue v l (λ z. e (other v d ∙ z)) in (r.0, omega (arith, r.1), r.2)

-- ---- the queue at its end

module _ {n : ℕ} {ps queue : List ℕ} {end : ℕ} (D : Descended n ps queue end end) where
  abbrev p : ℕ → ℕ
  p = parent_of (parents_of n ps)

  parent_is : (v : ℕ) → UnderRoot n v → p v ≡ get_or ps v 0
  parent_is v h = parents_at n ps v h.0 h.1

  -- what is queued is reached
  up : (bound i k : ℕ) → i < bound → i < end → i < k → ancestor p k (get_or queue i 0) ≡ 0
  up zero i k b l h = absurd (omega arith)
  up (suc bound) i zero b l h = absurd (omega arith)
  up (suc bound) i (suc k) b l h = ap (ancestor p k) (parent_is (get_or queue i 0) (D.inside i l)) ∙ go (D.after i l) (λ j jb je jk. up bound j k jb je jk)
    where
      go : (get_or ps (get_or queue i 0) 0 ≡ 0) ⊎ ((h : ℕ) × (h < i) × (h < end) × (get_or queue h 0 ≡ get_or ps (get_or queue i 0) 0))
          → ((j : ℕ) → j < bound → j < end → j < k → ancestor p k (get_or queue j 0) ≡ 0) → ancestor p k (get_or ps (get_or queue i 0) 0) ≡ 0
      go (inl e) ih = ap (ancestor p k) e ∙ ancestor_top p k refl
      go (inr r) ih = ap (ancestor p k) (sym r.3) ∙ ih r.0 (omega (arith, r.1)) r.2 (omega (arith, r.1))

  queued_reached : (v : ℕ) → Queued queue end v → ancestor p (2 * n - 1) v ≡ 0
  queued_reached v r = ap (ancestor p (2 * n - 1)) (sym r.2) ∙ up (suc r.0) r.0 (2 * n - 1) (omega arith) r.1 (omega (arith, r.1, descent_few D))

  -- and back
  reached_queued : (k v : ℕ) → UnderRoot n v → get_or ps v 0 < 2 * n → ((u : ℕ) → UnderRoot n u → get_or ps u 0 < 2 * n) → ancestor p k v ≡ 0 → Queued queue end v
  reached_queued zero v h l in_tree e = absurd (omega (arith, h))
  reached_queued (suc k) v h l in_tree e = go (equal? (get_or ps v 0) 0) (λ w. reached_queued k (get_or ps v 0) w (in_tree (get_or ps v 0) w) in_tree (ap (ancestor p k) (sym (parent_is v h)) ∙ e))
    where
      go : (get_or ps v 0 ≡ 0) ⊎ (get_or ps v 0 ≢ 0) → (UnderRoot n (get_or ps v 0) → Queued queue end (get_or ps v 0)) → Queued queue end v
      go (inl z) ih = D.top v h z
      go (inr d) ih = let r = ih (omega arith, l) in D.down r.0 v r.1 h (sym r.2)

  module _ (in_tree : (u : ℕ) → UnderRoot n u → get_or ps u 0 < 2 * n) where
    -- a queue of all vertices
    all_in : end ≡ 2 * n - 1 → (v : ℕ) → UnderRoot n v → Queued queue end v
    all_in full v h = go (equal? (ancestor p (2 * n - 1) v) 0)
      where
        out : ancestor p (2 * n - 1) v ≢ 0 → (j : ℕ) → j < end → get_or queue j 0 ≢ v
        out d j l e = d (queued_reached v (j, l, e))

        one : (x : ℕ) → delta x v + 0 ≤ 1
        one x = single (equal? x v)
          where
            single : (x ≡ v) ⊎ (x ≢ v) → delta x v + 0 ≤ 1
            single (inl e) = omega (arith, ap (delta x) (sym e), delta_self x)
            single (inr d) = omega (arith, delta_ne x v d)

        only : ancestor p (2 * n - 1) v ≢ 0 → (x : ℕ) → delta x v + 0 ≢ 0 → (x ≡ v) ⊎ (x ≢ v) → (1 ≤ x) × (x ≤ 2 * n - 1) × ((j : ℕ) → j < end → get_or queue j 0 ≢ x)
        only d x q (inl e) = (omega (arith, h), omega (arith, h), λ j l z. out d j l (z ∙ e))
        only d x q (inr e) = absurd (omega (arith, delta_ne x v e))

        go : (ancestor p (2 * n - 1) v ≡ 0) ⊎ (ancestor p (2 * n - 1) v ≢ 0) → Queued queue end v
        go (inl e) = reached_queued (2 * n - 1) v h (in_tree v h) in_tree e
        go (inr d) =
            absurd (omega (arith, places_few (λ j. get_or queue j 0) end (2 * n - 1) (inside D) D.once (v ∷ []) one (λ x q. only d x q (equal? x v))))

    pub descent_full : end ≡ 2 * n - 1 → unreached n (parents_of n ps) ≡ None
    descent_full full = none_first (λ v. not (eqb (ancestor p (2 * n - 1) v) 0)) (range 1 (2 * n - 1)) each
      where
        each : (v : ℕ) → count v (range 1 (2 * n - 1)) ≢ 0 → not (eqb (ancestor p (2 * n - 1) v) 0) ≡ false
        each v m =
            let r = range_in 1 (2 * n - 1) v m in
            no_differs (ancestor p (2 * n - 1) v) 0 (queued_reached v (all_in full v (r.0, omega (arith, r.1))))

    pub descent_order : end ≡ 2 * n - 1 → 2 * n - 1 ≤ length queue → RootDown n ps queue
    descent_order full long = record {
      long = long;
      inside = λ i h. D.inside i (omega arith);
      all = λ v h. let r = all_in full v h in (r.0, omega (arith, r.1), r.2);
      after = λ i h. later i (D.after i (omega arith));
    }
      where
        later : (i : ℕ) → (get_or ps (get_or queue i 0) 0 ≡ 0) ⊎ ((h : ℕ) × (h < i) × (h < end) × (get_or queue h 0 ≡ get_or ps (get_or queue i 0) 0))
            → (get_or ps (get_or queue i 0) 0 ≡ 0) ⊎ ((h : ℕ) × (h < i) × (get_or queue h 0 ≡ get_or ps (get_or queue i 0) 0))
        later i (inl e) = inl e
        later i (inr r) = inr (r.0, r.1, r.3)

    -- ---- the marks

    module _ {marks : List ℕ} (M : MarksQueued n queue end marks) where
      -- what is not marked is not reached
      pub unmarked_is : first_with (λ v. eqb (get_or marks v 0) 0) (range 1 (2 * n - 1)) ≡ unreached n (parents_of n ps)
      unmarked_is = search_same (λ v. eqb (get_or marks v 0) 0) (λ v. not (eqb (ancestor p (2 * n - 1) v) 0)) 1 (2 * n - 1) (λ v a b. same v a (omega arith) (equal? (get_or marks v 0) 0))
        where
          same : (v : ℕ) → 1 ≤ v → v < 2 * n → (get_or marks v 0 ≡ 0) ⊎ (get_or marks v 0 ≢ 0) → eqb (get_or marks v 0) 0 ≡ not (eqb (ancestor p (2 * n - 1) v) 0)
          same v a l (inl e) =
              eq-eqb (get_or marks v 0) 0 e
              ∙ ap not (sym (ne_eqb (ancestor p (2 * n - 1) v) 0 (λ z. M.out v l e (reached_queued (2 * n - 1) v (a, l) (in_tree v (a, l)) in_tree z))))
          same v a l (inr d) = ne_eqb (get_or marks v 0) 0 d ∙ ap not (sym (eq-eqb (ancestor p (2 * n - 1) v) 0 (queued_reached v (M.in_queue v l d))))

      -- where all are marked all are queued
      pub marked_full : first_with (λ v. eqb (get_or marks v 0) 0) (range 1 (2 * n - 1)) ≡ None → end ≡ 2 * n - 1
      marked_full e = omega (arith, descent_few D, places_many (λ j. get_or queue j 0) end (2 * n - 1) (inside D) every)
        where
          every : (x : ℕ) → 1 ≤ x → x ≤ 2 * n - 1 → (j : ℕ) × (j < end) × (get_or queue j 0 ≡ x)
          every x a l = M.in_queue x (omega arith) marked
            where
              z : eqb (get_or marks x 0) 0 ≡ false
              z = first_none (λ v. eqb (get_or marks v 0) 0) (range 1 (2 * n - 1)) e x (in_range 1 (2 * n - 1) x a (omega arith))

              marked : get_or marks x 0 ≢ 0
              marked q = let f : true ≡ false = sym (eq-eqb (get_or marks x 0) 0 q) ∙ z in let o : ◌≡◌ {A = ℕ} 0 1 = cc in omega arith
