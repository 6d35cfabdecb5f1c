-- The planned tree before settling: document 01, 'Planning', steps 1 to 3. Definitions alone.
use Rattle.std.specs.Prelude.{ℕ, suc, ◌+◌, ◌*◌, ◌-◌, Bool, true, false, cond, List, [], ◌∷◌, ◌++◌, take, drop, set, replicate, ltb, ℤ}
use Rattle.std.specs.Int.Signed.{lt_z}
use Rattle.quantities.specs.Distance.{distance}
use Rattle.tree.specs.Lists.{down}
use Rattle.tree.specs.Net.{Net, size, sink_numbers, sink_at, own_slack}
use Rattle.tree.specs.Tree.{Tree, parent_of, place}
use Rattle.tree.specs.Measures.{worst_over}

-- ---- 1. "Order the sinks by rising a', ties by lower number."

abbrev pub earlier : Net → ℕ → ℕ → Bool
earlier N u v = cond (lt_z (own_slack N u) (own_slack N v)) true (cond (lt_z (own_slack N v) (own_slack N u)) false (ltb u v))

abbrev pub insert : (ℕ → ℕ → Bool) → ℕ → List ℕ → List ℕ
insert before x [] = x ∷ []
insert before x (y ∷ l) = elim (before x y) [ true ↦ x ∷ (y ∷ l) | false ↦ y ∷ insert before x l ]

abbrev pub sort : (ℕ → ℕ → Bool) → List ℕ → List ℕ
sort before [] = []
sort before (x ∷ l) = insert before x (sort before l)

abbrev pub order : Net → List ℕ
order N = sort (earlier N) (sink_numbers (size N))

-- ---- 2. "Each next sink splits one edge."

-- "All branch points stand at the root's position meanwhile."
abbrev pub unsettled : Net → List ℕ → Tree
unsettled N P = record { parents = P; points = replicate (size N - 1) N.root }

-- the parent of v is a from now on
abbrev pub put : List ℕ → ℕ → ℕ → List ℕ
put P v a = set P (v - 1) a

-- "If the edge from u to v is split, the new branch point's parent is u; v and the sink become its children. Branch points are numbered n+1 upward
-- in order of making": k were made before, so it is n + k + 1
abbrev pub split : List ℕ → ℕ → ℕ → ℕ → ℕ → List ℕ
split P n k s v = put (put (put P (n + suc k) (parent_of P v)) v (n + suc k)) s (n + suc k)

-- the lower ends of the edges of the tree that has the sinks S and k branch points
abbrev pub lower_ends : ℕ → List ℕ → ℕ → List ℕ
lower_ends n S k = S ++ down n k

-- ---- 3. "The edge is the one that gives the largest worst slack of the enlarged tree."

-- the worst slack after the edge to v is split for sink s
abbrev pub worst_after : Net → List ℕ → ℕ → List ℕ → ℕ → ℕ → ℤ
worst_after N S k P s v = worst_over N (unsettled N (split P (size N) k s v)) (s ∷ S)

-- a tie rule says whether the edge to u goes before the edge to v, where both give the same worst slack: `tie N P s u v`
abbrev pub TieRule : Type 0
TieRule = Net → List ℕ → ℕ → ℕ → ℕ → Bool

-- 02, request 1: "Among edges of equal worst slack, take the one whose lower end is nearest to the new sink, branch points counted at the root's position as
-- during insertion; then the lowest number."

-- how far the lower end v stands from the new sink s, all branch points at the root's position
abbrev pub far : Net → List ℕ → ℕ → ℕ → ℕ
far N P s v = distance (place N (unsettled N P) v) (sink_at N s)

-- u goes before v, of distances a and b
abbrev pub nearer : ℕ → ℕ → Bool → Bool
nearer a b t = cond (ltb a b) true (cond (ltb b a) false t)

-- the edge to u goes before the edge to v: the nearest, then the lowest number
abbrev pub nearest : TieRule
nearest N P s u v = nearer (far N P s u) (far N P s v) (ltb u v)

-- the house's rule
unfoldable pub tie_rule : TieRule
tie_rule = nearest

-- u goes before v, of worst slacks a and b
abbrev pub ranks : ℤ → ℤ → Bool → Bool
ranks a b t = cond (lt_z b a) true (cond (lt_z a b) false t)

-- the best of v, whose worst slack is w, and the list
abbrev pub best : (ℕ → ℤ) → (ℕ → ℕ → Bool) → ℕ → ℤ → List ℕ → ℕ
best f tie v w [] = v
best f tie v w (u ∷ l) = elim (ranks (f u) w (tie u v)) [ true ↦ best f tie u (f u) l | false ↦ best f tie v w l ]

abbrev pub best_of : (ℕ → ℤ) → (ℕ → ℕ → Bool) → List ℕ → ℕ
best_of f tie [] = 0
best_of f tie (v ∷ l) = best f tie v (f v) l

abbrev pub chosen : TieRule → Net → List ℕ → ℕ → List ℕ → ℕ → ℕ
chosen tie N S k P s = best_of (worst_after N S k P s) (tie N P s) (lower_ends (size N) S k)

-- the sinks todo go in, one after another: S are in, k branch points are made, P are the parents
abbrev pub insert_all : TieRule → Net → List ℕ → List ℕ → ℕ → List ℕ → List ℕ
insert_all tie N [] S k P = P
insert_all tie N (s ∷ todo) S k P = insert_all tie N todo (s ∷ S) (suc k) (split P (size N) k s (chosen tie N S k P s))

-- the parents after j insertions. "The first hangs on the root": its parent is 0, as are all that are not in yet
abbrev pub parents_after : TieRule → Net → ℕ → List ℕ
parents_after tie N j = insert_all tie N (take j (drop 1 (order N))) (take 1 (order N)) 0 (replicate (2 * size N - 1) 0)

abbrev pub plan_parents : TieRule → Net → List ℕ
plan_parents tie N = parents_after tie N (size N - 1)
