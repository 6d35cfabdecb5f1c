-- Spanning trees on some terminals, joined by straight wires: what change request 6 of 02 compares with. Definitions alone.
use Rattle.std.specs.Prelude.{ℕ, suc, ◌+◌, ◌<◌, ◌≡◌, ◌≢◌, List, [], ◌∷◌, length, get_or}
use Rattle.quantities.specs.declared.point.Point.{Point}
use Rattle.quantities.specs.Distance.{distance}
use Rattle.tree.specs.Lists.{count, range}

-- a straight wire between two terminals, which are told by their numbers and may stand at one point
pub record Link : Type 0 where
  pub one : ℕ
  pub other : ℕ

-- link number i of a list, from 0
abbrev pub link_at : List Link → ℕ → Link
link_at L i = get_or L i (record { one = 0; other = 0 })

-- links of L lead from terminal u to terminal v
pub data Linked (L : List Link) (u : ℕ) : ℕ → Type 0 where
  here : Linked L u u
  from_one : (i : ℕ) → i < length L → Linked L u (link_at L i).one → Linked L u (link_at L i).other
  from_other : (i : ℕ) → i < length L → Linked L u (link_at L i).other → Linked L u (link_at L i).one

-- v is one of the terminals S
abbrev pub Among : List ℕ → ℕ → Type 0
Among S v = count v S ≢ 0

-- links between the terminals S, each of which is listed once: one fewer than there are terminals, and they lead from each to each. (So there is no ring.)
pub record SpanningTree (S : List ℕ) (L : List Link) : Type 0 where
  pub size : suc (length L) ≡ length S
  pub ends : (i : ℕ) → i < length L → Among S (link_at L i).one × Among S (link_at L i).other
  pub linked : (u v : ℕ) → Among S u → Among S v → Linked L u v

-- the plain wire of all the links, the terminals standing where `stand` says
abbrev pub link_wire : (ℕ → Point) → List Link → ℕ
link_wire stand [] = 0
link_wire stand (e ∷ L) = distance (stand e.one) (stand e.other) + link_wire stand L

-- the root and the sinks of a net of n sinks
abbrev pub terminals : ℕ → List ℕ
terminals n = range 0 (suc n)
