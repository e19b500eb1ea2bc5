use Rattle.std.proofs.Common.{◌∙◌, ap, is_some, sym, inl, inr}
use Rattle.mt_probe.specs.Shot.{state_in_shot as state_in}
use Rattle.mt_picture.specs.Private.Holding.{IsPassed}
use Rattle.mt_picture.specs.Stamps.{IsFiling}
use Rattle.mt_picture.proofs.Effected.{of_flight}
use Rattle.mt_picture.proofs.Passing.{flight_there, full_not, none_filed, seat_passed}
use Rattle.mt_picture.proofs.deciding.decide.Goals as goal

-- the flight that it names is there
pub unreachable-requires : goal.unreachable-requires
unreachable-requires c =
    let shot = c.args.snapshot.now in
    let passed : IsPassed shot c.args.who c.args.command.now =
    sym (rw (c.flights-held.ensures, c.version-entries.ensures.version) at c.in_ok-judge_on.ensures) in
    let of = of_flight c.args.command.now c.in_default.not-Plan c.in_default.not-External c.in_default.not-Tick in
    let there = flight_there shot.setup (state_in shot) c.args.who c.keeps.ensures.sound.rules c.args.command.now of passed in
    let none = ap is_some c.in_default-slot.ensures.flight_is in
    let both = sym there ∙ none in
    cc

-- there is room for what is filed
pub unreachable-requires-in_default-free : goal.unreachable-requires-in_default-free
unreachable-requires-in_default-free c =
    let shot = c.args.snapshot.now in
    let sound = c.keeps.ensures.sound in
    let passed : IsPassed shot c.args.who c.args.command.now =
    sym (rw (c.flights-held.ensures, c.version-entries.ensures.version) at c.in_ok-judge_on.ensures) in
    let filing : IsFiling c.args.command.now = elim c.in-Plan.is [ inl w ↦ rw w.7 tt | inr w ↦ rw w.2 tt ] in
    full_not _ _ shot.setup.rules.flights sound.places
    (seat_passed shot.setup (state_in shot) c.args.who sound.rules c.args.command.now filing passed) c.in_default-free.ensures

pub returns-in-Some : goal.returns-in-Some
returns-in-Some c = record {
  passed = sym (rw (c.flights-held.ensures, c.version-entries.ensures.version) at c.in_ok-judge_on.ensures);
  effect = record { named = rw c.effect_in.ensures.slot c.in-Some.ensures; does = c.effect_in.ensures.does c.args.snapshot.now };
  refused = tt;
}

-- nobody has the callsign of what is filed
pub returns-in-Some-free-clause-effect : goal.returns-in-Some-free-clause-effect
returns-in-Some-free-clause-effect c =
    let shot = c.args.snapshot.now in
    let passed : IsPassed shot c.args.who c.args.command.now =
    sym (rw (c.flights-held.ensures, c.version-entries.ensures.version) at c.in_ok-judge_on.ensures) in
    let filing : IsFiling c.args.command.now = elim c.in-Plan.is [ inl w ↦ rw w.7 tt | inr w ↦ rw w.2 tt ] in
    record {
      named = record { there = tt; flight_is = none_filed shot.setup (state_in shot) c.args.who c.keeps.ensures.sound.rules c.args.command.now filing passed };
      does = (filing, c.in-Some-free.ensures);
    }
