use Rattle.std.proofs.Common.{ℕ, List, sym, ◌∙◌, ap, subst}
use Rattle.mt_base.specs.Decision.{filled}
use Rattle.mt_base.specs.Picture.{State}
use Rattle.mt_picture.specs.Private.Holding.{held_story}
use Rattle.mt_picture.specs.Story.{IsFlightNamedAfter}
use Rattle.std.proofs.lemmas.Option.{same_Some}
use Rattle.mt_picture.proofs.usable.is_usable.Goals as goal

-- an entry after the prep names the flight
pub returns-then-is_flight_named_after-clause-unusable : goal.returns-then-is_flight_named_after-clause-unusable
returns-then-is_flight_named_after-clause-unusable c = λ unusable usable.
    let named = rw c.version.ensures.version at (c.is_flight_named_after.ensures.named c.if-is_flight_named_after.true) in
    usable.same_flight c.in-Some.call (sym c.in-Some.ensures) named

-- none does, and the moment is the same
pub returns-clause-usable : goal.returns-clause-usable
returns-clause-usable c = λ same.
    let unnamed = rw c.version.ensures.version at (c.is_flight_named_after.ensures.unnamed c.if-is_flight_named_after.false) in
    record {
      same_flight = λ call is.
          let own = same_Some c.in-Some.call call (c.in-Some.ensures ∙ is) in
          subst (λ (k : List ℕ). ¬ IsFlightNamedAfter (held_story c.args.held.now) c.args.prep.now.state.version k) own unnamed;
      same_moment = rw c.snapshot.ensures.value at (c.is_same_moment.ensures.same same) ∙ ap (λ (s : State). filled s.now c.args.command.now) c.snapshot.ensures.stands;
    }

pub is_flight_named_after-requires-clause-there : goal.is_flight_named_after-requires-clause-there
is_flight_named_after-requires-clause-there c = c.requires.named.there

pub is_flight_named_after-requires-clause-flight : goal.is_flight_named_after-requires-clause-flight
is_flight_named_after-requires-clause-flight c = rw (← c.in-Some.ensures) at c.requires.named.flight_is
