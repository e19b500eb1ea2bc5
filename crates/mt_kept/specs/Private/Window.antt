-- No public contract names these: they are of private steps and of proofs.
use Rattle.std.specs.Prelude.{◌≡◌, ◌≢◌, ℕ, ◌<◌, ◌⊎◌, ◌↔◌, List, ◌++◌, map, filter, All, Contains, AllPairs, Option, Some, true, false}
use Rattle.std.specs.List.Sorted.{IsPermutation}
use Rattle.mt_base.specs.declared.conflict.Conflict.{Conflict}
use Rattle.mt_base.specs.declared.rules.Rules.{Rules}
use Rattle.mt_base.specs.Picture.{NamedTrajectory}
use Rattle.mt_edges.specs.declared.edge.Edge.{Edge}
use Rattle.mt_edges.specs.Pairs.{HaveSameEnds}
use Rattle.mt_kept.specs.declared.open_pair.OpenPair.{OpenPair}
use Rattle.mt_kept.specs.Losing.{IsPair, Joins, LoseSeparation, TouchesOne}
use Rattle.mt_kept.specs.Places.{at}
use Rattle.mt_kept.specs.declared.stale.Stale.{Stale}
use Rattle.mt_kept.specs.Private.Stale.{stays}
use Rattle.mt_kept.specs.Private.Made.{IsInOrder, goes_on, is_at_border, is_tested, opens, span_within}
use Rattle.mt_kept.specs.Window.{IsOpen, ShowsInWindow, edge_of}

-- exactly the kept pairs that are open, each once, with what it shows
pub record AreOpen (rules : Rules) (places : List (Option NamedTrajectory)) (now : ℕ) (edges : List Edge)
    (open_pairs : List OpenPair) : Type 0 where
  pub sound : (o : OpenPair) → Contains open_pairs o
      → Contains edges o.edge × IsOpen now o.edge × ShowsInWindow rules places now o.edge o.conflict
  pub complete : (e : Edge) → Contains edges e → IsOpen now e → Contains (map edge_of open_pairs) e
  pub distinct : AllPairs (λ o p. o.edge ≢ p.edge) open_pairs

-- some open pair shows that conflict
pub record Shows (open_pairs : List OpenPair) (c : Conflict) : Type 0 where
  pub pair : OpenPair
  pub held : Contains open_pairs pair
  pub shown : pair.conflict ≡ Some c

-- a pair shows what of its span lies within the look-ahead, the lesser callsign first
pub record ShowsWithin (places : List (Option NamedTrajectory)) (now : ℕ) (e : Edge) (shown : Option Conflict) : Type 0 where
  pub left : NamedTrajectory
  pub right : NamedTrajectory
  pub left_is : at places e.a ≡ Some left
  pub right_is : at places e.b ≡ Some right
  pub conflict : Conflict
  pub is : shown ≡ Some conflict
  pub order : IsInOrder left right (span_within now e) conflict ⊎ IsInOrder right left (span_within now e) conflict

-- some pair of the same places shows that
pub record IsShownAmong (pairs : List OpenPair) (e : Edge) (shown : Option Conflict) : Type 0 where
  pub pair : OpenPair
  pub held : Contains pairs pair
  pub ends : HaveSameEnds pair.edge e
  pub is : shown ≡ pair.conflict

-- what an open pair shows without a test: what it shows among those that were tested, where it would be tested, and what lies within the look-ahead
-- else
pub record IsShownUntested (places : List (Option NamedTrajectory)) (now : ℕ) (tested : List OpenPair) (e : Edge) (shown : Option Conflict) : Type 0 where
  pub among : is_tested now e ≡ true → Contains (map edge_of tested) e → IsShownAmong tested e shown
  pub within : is_tested now e ≡ false → ShowsWithin places now e shown

-- these pairs, each with what it shows without a test where it is open
pub record AreShownUntested (places : List (Option NamedTrajectory)) (now : ℕ) (tested : List OpenPair) (edges : List Edge) (pairs : List OpenPair) : Type 0 where
  pub same : map edge_of pairs ≡ edges
  pub shown : All (λ o. IsOpen now o.edge → IsShownUntested places now tested o.edge o.conflict) pairs

-- these pairs were looked at, and put after others with what they show
pub record AreAdded (rules : Rules) (places : List (Option NamedTrajectory)) (now : ℕ) (edges : List Edge) (old new : List OpenPair) : Type 0 where
  pub pairs : List OpenPair
  pub is : new ≡ old ++ pairs
  pub same : map edge_of pairs ≡ edges
  pub shown : All (λ o. ShowsInWindow rules places now o.edge o.conflict) pairs

-- so were those of some pairs that go on, and each shows what of its earlier conflict stays
pub record AreLookedAt (rules : Rules) (places : List (Option NamedTrajectory)) (now : ℕ) (earlier : List OpenPair) (stale : Stale)
    (old new : List OpenPair) : Type 0 where
  pub added : AreAdded rules places now (filter (goes_on now) (map edge_of earlier)) old new
  pub kept : (o : OpenPair) (c : Conflict) → Contains earlier o → goes_on now o.edge ≡ true → o.conflict ≡ Some c → stays stale c ≡ true
      → Contains added.pairs (record { edge = o.edge; conflict = Some c })

-- of some pairs, in another order, those at the border of the look-ahead, and what the open ones show
pub record AreListed (now : ℕ) (renewed bordering : List OpenPair) (conflicts : List Conflict) : Type 0 where
  pub pairs : List OpenPair
  pub order : IsPermutation renewed pairs
  pub at_border : bordering ≡ filter (is_at_border now) pairs
  pub exact : (c : Conflict) → Contains conflicts c ↔ Shows (filter (opens now) pairs) c

-- the pairs of some places, with what open ones show
pub record AreOwnPairs (rules : Rules) (places : List (Option NamedTrajectory)) (now : ℕ) (changed : List ℕ) (own : List OpenPair) : Type 0 where
  pub sound : (o : OpenPair) → Contains own o
      → TouchesOne changed o.edge × IsPair rules places o.edge × (IsOpen now o.edge → ShowsInWindow rules places now o.edge o.conflict)
  pub complete : (a b k : ℕ) → a < b → Contains changed a ⊎ Contains changed b → LoseSeparation rules places a b k → Joins (map edge_of own) a b
