-- No public contract names these: they are of private steps and of proofs.
-- How pairs are kept: nodes, a stack of free nodes, and lists of places, three places for each node.
use Rattle.std.specs.Prelude.{◌≡◌, ◌≢◌, ℕ, zero, suc, ◌+◌, ◌*◌, ◌/◌, ◌<◌, ◌≤◌, List, [], ◌∷◌, ◌++◌, length, slice_index, slice_index_or, vec_len, vec_capacity, Option, None, Some, if◌then◌else◌, ◌==◌, ◌-◌, ◌&&◌, nat_le, nat_lt}
use Rattle.mt_edges.specs.declared.edge.Edge.{Edge}
use Rattle.mt_edges.specs.declared.table.Table.{Table}
use Rattle.mt_edges.specs.Private.Laid.{Has, IsHead, Laid}
use Rattle.mt_edges.specs.Pairs.{HaveSameEnds, IsEach, IsEdge, degree, without_end}

-- the pairs that stand in the nodes, in the order of the nodes
abbrev pub standing_pairs : List (Option Edge) → List Edge
standing_pairs [] = []
standing_pairs (None ∷ nodes) = standing_pairs nodes
standing_pairs (Some e ∷ nodes) = e ∷ standing_pairs nodes

-- the node at a place, None past the end
abbrev pub node_at : List (Option Edge) → ℕ → Option Edge
node_at nodes i = slice_index_or nodes i None

-- the heads of a pair's three lists: its lesser end, its greater end, its first second's bucket
abbrev pub head_of : ℕ → Edge → ℕ → ℕ
head_of ends e zero = 1 + e.a
head_of ends e (suc zero) = 1 + e.b
head_of ends e (suc (suc s)) = 1 + ends + e.first / 256

-- the pair of a node owns place p in list h
pub record Owned (ends base : ℕ) (nodes : List (Option Edge)) (h p : ℕ) : Type 0 where
  pub node : ℕ
  pub edge : Edge
  pub side : ℕ
  pub here : node_at nodes node ≡ Some edge
  pub few : side < 3
  pub head : h ≡ head_of ends edge side
  pub place : p ≡ base + 3 * node + side

-- the lists hold the places of the standing pairs, and no other
pub record Ties (ends base : ℕ) (nodes : List (Option Edge)) (lists : ℕ → List ℕ) : Type 0 where
  pub listed : (h p : ℕ) → IsHead base h → Has (lists h) p → Owned ends base nodes h p
  pub owned : (i : ℕ) (e : Edge) (s : ℕ) → node_at nodes i ≡ Some e → s < 3 → Has (lists (head_of ends e s)) (base + 3 * i + s)

-- the pairs in the nodes are sound, and no two have the same ends
pub record Sound (ends : ℕ) (nodes : List (Option Edge)) : Type 0 where
  pub each : (i : ℕ) (e : Edge) → node_at nodes i ≡ Some e → IsEdge ends e
  pub once : (i j : ℕ) (e f : Edge) → node_at nodes i ≡ Some e → node_at nodes j ≡ Some f → HaveSameEnds e f → i ≡ j

-- the stack holds free nodes, each once, and there are as many as it says
pub record Spares (nodes : List (Option Edge)) (free : List ℕ) (spare : ℕ) : Type 0 where
  pub count : spare + length (standing_pairs nodes) ≡ length nodes
  pub room : length nodes ≤ length free
  pub empty : (k : ℕ) → k < spare → (slice_index free k < length nodes) × (node_at nodes (slice_index free k) ≡ None)
  pub once : (j k : ℕ) → j < k → k < spare → slice_index free j ≢ slice_index free k

-- all that is kept, but for the linked lists
pub record Shape (ends base : ℕ) (nodes : List (Option Edge)) (free : List ℕ) (spare : ℕ) (next : List ℕ) : Type 0 where
  pub base_is : base ≡ ends + 39120
  pub room : base + 3 * length nodes ≤ length next
  pub sound : Sound ends nodes
  pub spares : Spares nodes free spare

-- all that is kept: nodes, free nodes, and linked lists
pub record AreEdgesKept (ends base : ℕ) (nodes : List (Option Edge)) (free : List ℕ) (spare : ℕ) (next prev : List ℕ) : Type 0 where
  pub shape : Shape ends base nodes free spare next
  pub lists : ℕ → List ℕ
  pub laid : Laid next prev base lists
  pub ties : Ties ends base nodes lists

-- a table keeps all of it
abbrev pub IsTable : Table → Type 0
IsTable t = AreEdgesKept t.ends t.base t.nodes.items t.free.items t.spare t.links.next.items t.links.prev.items

-- a list at least as long as another, and the same as far as that goes
pub record IsRoomier (old new : List ℕ) : Type 0 where
  pub longer : length old ≤ length new
  pub kept : (k : ℕ) → k < length old → slice_index new k ≡ slice_index old k

-- there is room for so many more nodes. In the table of nodes, on the stack of free ones, and among the links.
pub record HasRoom (t : Table) (count : ℕ) : Type 0 where
  pub nodes : vec_len t.nodes + count ≤ vec_capacity t.nodes
  pub free : length t.nodes.items + count ≤ length t.free.items
  pub links : t.base + 3 * (length t.nodes.items + count) ≤ length t.links.next.items

-- the first place of a list, 0 where it has none
abbrev pub first_place : List ℕ → ℕ
first_place [] = 0
first_place (x ∷ xs) = x

-- `Walk`, `IsWalk`: between two turns of the walk that drops a list. The places before the one that is reached are linked still, though their pairs
-- are gone.
pub record Walk (ends base : ℕ) (nodes : List (Option Edge)) (free : List ℕ) (spare : ℕ) (next prev : List ℕ) (head place : ℕ) : Type 0 where
  pub shape : Shape ends base nodes free spare next
  pub head_is : IsHead base head
  pub linked : ℕ → List ℕ
  pub laid : Laid next prev base linked
  pub lists : ℕ → List ℕ
  pub ties : Ties ends base nodes lists
  pub done : List ℕ
  pub here : linked head ≡ done ++ lists head
  pub others : (k : ℕ) → IsHead base k → k ≢ head → linked k ≡ lists k
  pub reached : place ≡ first_place (lists head)

abbrev pub IsWalk : Table → ℕ → ℕ → Type 0
IsWalk t head place = Walk t.ends t.base t.nodes.items t.free.items t.spare t.links.next.items t.links.prev.items head place

-- one pair of an end is gone, and no pair with another end
pub record IsDropped (end : ℕ) (nodes nodes' : List (Option Edge)) : Type 0 where
  pub kept : without_end end (standing_pairs nodes') ≡ without_end end (standing_pairs nodes)
  pub one : degree end (standing_pairs nodes) ≡ degree end (standing_pairs nodes') + 1

-- the lists with a place in front of one of them
abbrev pub with_place : ℕ → ℕ → (ℕ → List ℕ) → ℕ → List ℕ
with_place h p lists k = if k == h then p ∷ lists k else lists k

-- how many turns a walk from place u takes, up to the fuel
abbrev pub left_at : List ℕ → ℕ → ℕ → ℕ
left_at next zero u = 0
left_at next (suc fuel) u = if u == 0 then 0 else suc (left_at next fuel (slice_index next u))

-- the pair of a node, where its first second is in the range
abbrev pub in_range_of : ℕ → ℕ → Option Edge → List Edge
in_range_of from to None = []
in_range_of from to (Some e) = if nat_le from e.first && nat_lt e.first to then e ∷ [] else []

-- the pairs at some places, of those whose first second is in the range
abbrev pub gathered : List (Option Edge) → ℕ → ℕ → ℕ → List ℕ → List Edge
gathered nodes base from to [] = []
gathered nodes base from to (p ∷ ps) = in_range_of from to (node_at nodes ((p - base) / 3)) ++ gathered nodes base from to ps

-- between two turns of a walk that reads a list
pub record ReadsWalk (ends base : ℕ) (nodes : List (Option Edge)) (free : List ℕ) (spare : ℕ) (next prev : List ℕ) (head place : ℕ) : Type 0 where
  pub kept : AreEdgesKept ends base nodes free spare next prev
  pub head_is : IsHead base head
  pub done : List ℕ
  pub todo : List ℕ
  pub here : kept.lists head ≡ done ++ todo
  pub reached : place ≡ first_place todo

-- a pair stands in the list of that head
abbrev pub StandsIn : ℕ → ℕ → Edge → Type 0
StandsIn ends head e = (s : ℕ) × (s < 3) × (head ≡ head_of ends e s)

-- the list grew by the pairs of one head whose first second is in the range, each once
pub record AreEdgesGathered (ends head from to : ℕ) (edges old new : List Edge) : Type 0 where
  pub found : List Edge
  pub is : new ≡ old ++ found
  pub each : IsEach (λ e. StandsIn ends head e × (from ≤ e.first) × (e.first < to)) edges found
