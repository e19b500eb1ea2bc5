-- Kept pairs, as callers see them.
use Rattle.std.specs.Prelude.{◌≡◌, ℕ, Bool, ◌<◌, ◌≤◌, ◌↔◌, ◌||◌, ◌==◌, not, List, ◌∷◌, ◌++◌, length, filter, AllPairs, Contains}
use Rattle.mt_edges.specs.declared.edge.Edge.{Edge}

-- kept pairs, spare room, and the number of ends. `spare` says how many may be added before the next reserve.
pub record Pairs : Type 0 where
  pub edges : List Edge
  pub spare : ℕ
  pub ends : ℕ

-- a pair has this end
abbrev pub touches : ℕ → Edge → Bool
touches end e = e.a == end || e.b == end

-- the pairs without those of an end
abbrev pub without_end : ℕ → List Edge → List Edge
without_end end edges = filter (λ e. not (touches end e)) edges

-- how many pairs have this end
abbrev pub degree : ℕ → List Edge → ℕ
degree end edges = length (filter (touches end) edges)

-- a pair that may be kept: ends in order and in range, last second before 10,014,400
pub record IsEdge (ends : ℕ) (e : Edge) : Type 0 where
  pub order : e.a < e.b
  pub ends_in : e.b < ends
  pub span : e.first ≤ e.last
  pub early : e.last < 10014400

-- two pairs have the same ends
abbrev pub HaveSameEnds : Edge → Edge → Type 0
HaveSameEnds e f = (e.a ≡ f.a) × (e.b ≡ f.b)

-- no two pairs have the same ends
abbrev pub AreDistinctPairs : List Edge → Type 0
AreDistinctPairs edges = AllPairs (λ e f. ¬ HaveSameEnds e f) edges

-- the list with one more pair, at some place
pub record IsWith (old : List Edge) (e : Edge) (new : List Edge) : Type 0 where
  pub front : List Edge
  pub back : List Edge
  pub was : old ≡ front ++ back
  pub is : new ≡ front ++ e ∷ back

-- exactly the pairs that pass, each once, in any order
pub record IsEach (P : Edge → Type 0) (edges found : List Edge) : Type 0 where
  pub exact : (e : Edge) → Contains found e ↔ (Contains edges e × P e)
  pub apart : AreDistinctPairs found
