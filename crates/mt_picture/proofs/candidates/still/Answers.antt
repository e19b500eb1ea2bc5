use Rattle.std.proofs.Common.{◌≡◌, ℕ, ◌<◌, ◌≤◌, Some, ap, arith}
use Rattle.mt_picture.specs.declared.places.FoundPlace.{FoundPlace}
use Rattle.std.proofs.lemmas.Option.{none-some, same_Some}
use Rattle.mt_picture.proofs.candidates.still.Goals as goal

late_not : (version s t : ℕ) → version < s → s ≡ t → t ≤ version → ⊥
late_not version s t late same early = omega arith

pub returns-in_err-it-clause-only : goal.returns-in_err-it-clause-only
returns-in_err-it-clause-only c = λ place stamp stands early. absurd (none-some _ (c.in_err-it.ensures.only place stamp stands))

pub returns-then-version-it-clause-only : goal.returns-then-version-it-clause-only
returns-then-version-it-clause-only c = λ place stamp stands early.
    let r : FoundPlace = record { place = place; stamp = stamp } in
    let some : Some c.in_ok-it.it ≡ Some r = c.in_ok-it.ensures.only place stamp stands in
    let one = same_Some c.in_ok-it.it r some in
    let stamps : c.in_ok-it.it.stamp ≡ stamp = ap (λ (x : FoundPlace). x.stamp) one in
    late_not c.args.version c.in_ok-it.it.stamp stamp c.if-version-it.true stamps early

pub returns-clause-only : goal.returns-clause-only
returns-clause-only c = λ place stamp stands early.
    let r : FoundPlace = record { place = place; stamp = stamp } in
    let some : Some c.in_ok-it.it ≡ Some r = c.in_ok-it.ensures.only place stamp stands in
    let one = same_Some c.in_ok-it.it r some in
    ap (λ (x : FoundPlace). x.place) one
