use Rattle.std.proofs.Common.{◌≡◌, Ok, subst}
use Rattle.mt_base.specs.declared.command.Command.{Command}
use Rattle.mt_probe.specs.Prepared.{judged_aside}
use Rattle.mt_probe.specs.Shot.{state_in_shot}
use Rattle.mt_probe.proofs.Left.{alters_by, left_external, left_plan, not_there, planned_there}
use Rattle.mt_probe.proofs.preparing.left_of.Goals as goal

pub unreachable-requires : goal.unreachable-requires
unreachable-requires c =
    let shot = c.args.snapshot.now in
    let alters = alters_by c.args.command.now c.requires.makes c.in_default.not-Plan c.in_default.not-External in
    not_there _ (rw c.in_default-slot.is at c.requires.named.flight_is)
    (planned_there shot.setup (state_in_shot shot) c.args.who c.args.command.now alters c.requires.passed)

pub altered_flight-requires : goal.altered_flight-requires
altered_flight-requires c = record {
  named = rw c.in-Some.is at c.requires.named;
  alters = alters_by c.args.command.now c.requires.makes c.in_default.not-Plan c.in_default.not-External;
  bounded = c.requires.bounded;
  passed = c.requires.passed;
}

pub returns-in_ok-route-in-Plan : goal.returns-in_ok-route-in-Plan
returns-in_ok-route-in-Plan c =
    let shot = c.args.snapshot.now in
    let passed = subst (λ (m : Command). judged_aside shot.setup (state_in_shot shot) c.args.who m ≡ Ok (tt {0})) c.in-Plan.is c.requires.passed in
    let bounded = rw c.in-Plan.is at c.requires.bounded in
    let plane = rw (c.tables.ensures, c.in_ok-route-in-Plan.ensures) at c.planned_course-course.ensures.plane in
    rw (c.in-Plan.is, c.planned_course-course.ensures.course, c.in_ok-route-in-Plan.ensures, c.rules.ensures.rules, c.tables.ensures)
    (left_plan shot.setup (state_in_shot shot) c.args.who c.in-Plan.call c.in-Plan.kind c.in-Plan.route c.in-Plan.at c.in-Plan.from c.in-Plan.level c.in-Plan.rvsm
    c.keeps.ensures.sound.rules passed bounded.0 bounded.1 bounded.2 plane)

pub returns-in-External : goal.returns-in-External
returns-in-External c =
    let shot = c.args.snapshot.now in
    let passed = subst (λ (m : Command). judged_aside shot.setup (state_in_shot shot) c.args.who m ≡ Ok (tt {0})) c.in-External.is c.requires.passed in
    let bounded = rw c.in-External.is at c.requires.bounded in
    rw c.in-External.is (left_external shot.setup (state_in_shot shot) c.args.who c.in-External.call c.in-External.straight passed bounded)
