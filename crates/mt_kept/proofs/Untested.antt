-- Pairs put together one by one, each with what it shows without a test; and a list that a test leaves as it is.
use Rattle.std.proofs.Common.{◌≡◌, ℕ, Bool, true, List, [], ◌∷◌, ◌++◌, Contains, Option, refl, ◌∙◌, ap}
use Rattle.std.specs.List.{filter}
use Rattle.std.proofs.lemmas.List.{map-append}
use Rattle.std.proofs.lemmas.List.Elements.{All-push}
use Rattle.mt_base.proofs.Members.{Contains-head, Contains-later}
use Rattle.mt_base.specs.Picture.{NamedTrajectory}
use Rattle.mt_edges.specs.declared.edge.Edge.{Edge}
use Rattle.mt_kept.specs.declared.open_pair.OpenPair.{OpenPair}
use Rattle.mt_kept.specs.Window.{IsOpen, edge_of}
use Rattle.mt_kept.specs.Private.Window.{AreShownUntested, IsShownUntested}

pub untested_more : (places : List (Option NamedTrajectory)) (now : ℕ) (tested : List OpenPair) (edges : List Edge) (o : OpenPair) (pairs : List OpenPair)
    → AreShownUntested places now tested edges pairs → (IsOpen now o.edge → IsShownUntested places now tested o.edge o.conflict)
    → AreShownUntested places now tested (edges ++ o.edge ∷ []) (pairs ++ o ∷ [])
untested_more places now tested edges o pairs so_far shown = record {
  same = map-append edge_of pairs (o ∷ []) ∙ ap (λ (es : List Edge). es ++ o.edge ∷ []) so_far.same;
  shown = All-push (λ (p : OpenPair). IsOpen now p.edge → IsShownUntested places now tested p.edge p.conflict) pairs o so_far.shown shown;
}

-- a test that all of a list pass leaves the list as it is
pub filter_all : {X : Type 0} (p : X → Bool) (xs : List X) → ((x : X) → Contains xs x → p x ≡ true) → filter p xs ≡ xs
filter_all p [] all = refl
filter_all p (x ∷ xs) all = rw (all x (Contains-head x xs), filter_all p xs (λ y held. all y (Contains-later x xs y held))) refl
