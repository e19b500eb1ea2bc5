-- What a door gives and takes back.
use Rattle.std.specs.Prelude.{◌≡◌, ◌<◌, ℕ, ◌+◌, ⊤, List, [], ◌∷◌, ◌++◌, MatchResult, MatchOption}
use Rattle.std.specs.declared.option.Option.{Option}
use Rattle.std.specs.declared.option.Option.TheVariants.{None, Some}
use Rattle.std.specs.declared.result.Result.{Result}

-- a known list loses these items at its front
abbrev pub LosesFront : {A : Type 0} → Option (List A) → Option (List A) → List A → Type 0
LosesFront None new items = ⊤
LosesFront (Some xs) None items = ⊥
LosesFront (Some xs) (Some ys) items = xs ≡ items ++ ys

-- a known list gains these items at its end
abbrev pub Gains : {A : Type 0} → Option (List A) → Option (List A) → List A → Type 0
Gains None new items = ⊤
Gains (Some xs) None items = ⊥
Gains (Some xs) (Some ys) items = ys ≡ xs ++ items

-- a door's port, sessions, links given and links back
pub record Count : Type 0 where
  pub port : ℕ
  pub sessions : ℕ
  pub given : ℕ
  pub back : ℕ

-- the counts right after `listen`
abbrev pub listened : ℕ → ℕ → Count
listened port sessions = record { port = port; sessions = sessions; given = 0; back = 0 }

-- `gave_one`, `took_one`: one more link given, and one more back
abbrev pub gave_one : Count → Count
gave_one count = record count { given = count.given + 1 }

abbrev pub took_one : Count → Count
took_one count = record count { back = count.back + 1 }

-- the next link, or a failure, or none once each session has one. Where fewer links were given than there are sessions, it is the first of those
-- still to give. But for the link nothing changes.
abbrev pub GivesLink : {L E : Type 0} → Count → Count → Option (List L) → Option (List L) → Result (Option L) E → Type 0
GivesLink {L} old new still left result =
    MatchResult result
    (λ found. MatchOption found
    ((old.given ≡ old.sessions) × (new ≡ old) × (left ≡ still))
    (λ link. (old.given < old.sessions) × (new ≡ gave_one old) × LosesFront still left (link ∷ [])))
    (λ _. (old.given < old.sessions) × (new ≡ old) × (left ≡ still))
