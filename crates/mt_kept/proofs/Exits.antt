-- What is ensured where nothing was dropped or tested, and numbers of places that fit.
use mir.Syntax.{w32}
use mir.Val.{Fits}
use Rattle.std.proofs.Common.{ℕ, ◌*◌, ◌<◌, [], List, length, map, Option, refl, arith}
use Rattle.std.specs.List.{All}
use Rattle.std.proofs.lemmas.List.{length-map}
use Rattle.mt_track.specs.declared.roster.Item.{Item}
use Rattle.mt_base.specs.declared.rules.Rules.{Rules}
use Rattle.mt_base.specs.Picture.{NamedTrajectory}
use Rattle.mt_kept.specs.declared.changes.PlaceChange.{PlaceChange}
use Rattle.mt_kept.specs.Dropped.{WereStepsOf}
use Rattle.mt_kept.specs.Places.{seen}
use Rattle.mt_kept.specs.Window.{WasTestedOnce}

pub none_dropped : (rules : Rules) (places : List (Option NamedTrajectory)) (changed : List ℕ) (count : ℕ)
    → WereStepsOf rules places changed count count
none_dropped rules places changed count =
    record { edges = []; distinct = (λ i j d before below. absurd (omega arith)); each = (λ k d below. absurd (omega arith)); within = omega arith }

pub none_tested : (rules : Rules) (places : List (Option NamedTrajectory)) (now count : ℕ) → WasTestedOnce rules places now count count
none_tested rules places now count =
    record { edges = []; distinct = (λ i j d before below. absurd (omega arith)); each = (λ k d below. absurd (omega arith)); is = refl }

-- how many places there are
pub doubled_fits : (slots : ℕ) → slots < 2147483648 → Fits w32 (2 * slots)
doubled_fits slots few = omega arith

-- each change's place is one of the items'
pub inside_all : (items : List (Option Item)) (changes : List PlaceChange) → All (λ c. c.place < length (map seen items)) changes
    → All (λ c. c.place < length items) changes
inside_all items changes inside = λ k d below. let h = inside k d below in let same = length-map items seen in omega arith
