-- No public contract names these: they are of private steps and of proofs.
-- Callsigns in rows.
use Rattle.std.specs.Prelude.{◌≡◌, ◌≢◌, ℕ, ◌+◌, ◌*◌, ◌%◌, List, [], ◌∷◌, ◌++◌, Contains, length, map, slice_index_or}
use Rattle.std.specs.Arc.{arc_value}
use Rattle.std.specs.declared.sync.Arc.{Arc}
use Rattle.mt_names.specs.declared.names.Named.{Named}

-- the row that letters lead to from another: with each, eleven times the row and the letter, in turns of 32
abbrev pub row_from : ℕ → List ℕ → ℕ
row_from row [] = row
row_from row (letter ∷ text) = row_from ((11 * row + letter) % 32) text

-- the row of a callsign
abbrev pub row_of : List ℕ → ℕ
row_of call = row_from 0 call

-- the callsigns of shared rows
abbrev pub callsigns : {Z : Type 0} → List (Arc (List Named) Z) → List (List Named)
callsigns {Z} rows = map (arc_value {X = List Named} {Z = Z}) rows

-- the rows, one after another
abbrev pub one_list : List (List Named) → List Named
one_list [] = []
one_list (row ∷ rows) = row ++ one_list rows

-- there is no row, or there are 32
abbrev pub AreFull : List (List Named) → Type 0
AreFull rows = length rows ≢ 0 → length rows ≡ 32

-- a row that isn't there is like an empty one, else the rows are the same
abbrev pub AreSameRows : List (List Named) → List (List Named) → Type 0
AreSameRows rows others = (i : ℕ) → slice_index_or others i [] ≡ slice_index_or rows i []

-- no row, or 32, and each callsign stands in its own
pub record AreOwnRows (rows : List (List Named)) : Type 0 where
  pub full : AreFull rows
  pub own : (i : ℕ) (n : Named) → Contains (slice_index_or rows i []) n → row_of n.call ≡ i
