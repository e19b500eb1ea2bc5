use Rattle.std.proofs.Common.{◌≡◌, ◌+◌, ◌∙◌, List, Option, Some, ap, option_map, refl, subst, sym}
use Rattle.std.specs.Arc.{arc_value}
use Rattle.mt_paged.proofs.Sharing.{on_err}
use Rattle.mt_probe.specs.declared.flight.Flight.{Flight}
use Rattle.mt_probe.specs.declared.snapshot.Body.{Body}
use Rattle.mt_probe.specs.Private.Body.{shot_of}
use Rattle.mt_probe.specs.Putting.{Fits}
use Rattle.mt_probe.specs.Shot.{Shot, flight_at, kept_of}
use Rattle.mt_probe.proofs.PutAgain.{kept_again, kept_still, records_again, same_body, shot_again}
use Rattle.mt_probe.proofs.snapshot.Snapshot.put_again.Goals as goal

pub invariant_of-self-in_err-replace : goal.invariant_of-self-in_err-replace
invariant_of-self-in_err-replace c =
    let body : Body = c.in_ok-body.body.now in
    let same = same_body (arc_value c.self.inside.body) body c.in_ok-body.ensures.value in
    let there = c.make_mut.follows.holds (record body { slots = c.replace.new.self }) (rw c.in_ok-body.was refl) in
    kept_still (arc_value c.self.inside.body) body _ same (there ∙ ap (λ (ss : List (Option Flight)). record body { slots = ss }) c.in_err-replace.ensures.err)
    c.self.invariant

pub returns-in_err-replace-clause-unchanged : goal.returns-in_err-replace-clause-unchanged
returns-in_err-replace-clause-unchanged c =
    let body : Body = c.in_ok-body.body.now in
    let same = same_body (arc_value c.self.inside.body) body c.in_ok-body.ensures.value in
    let there = c.make_mut.follows.holds (record body { slots = c.replace.new.self }) (rw c.in_ok-body.was refl) in
    on_err _ (ap shot_of (there ∙ ap (λ (ss : List (Option Flight)). record body { slots = ss }) c.in_err-replace.ensures.err) ∙ same.shot ∙ c.self.view_is)

pub invariant_of-self-2 : goal.invariant_of-self-2
invariant_of-self-2 c =
    let old : Body = arc_value c.self.inside.body in
    let body : Body = c.in_ok-body.body.now in
    let flight = c.args.flight in
    let same = same_body old body c.in_ok-body.ensures.value in
    let there = c.make_mut.follows.holds (record body { version = body.version + 1; slots = c.replace.new.self }) (rw c.in_ok-body.was refl) in
    let fits = subst (λ (s : Shot). Fits s c.args.slot flight) (sym c.self.view_is) c.requires.fits in
    let has = subst (λ (s : Shot). option_map kept_of (flight_at s c.args.slot) ≡ Some (kept_of flight)) (sym c.self.view_is) c.requires.same in
    kept_again old body _ c.args.slot flight (arc_value c.in_ok-flight.flight) c.replace.new.self same c.in_ok-flight.ensures.ok c.in_ok-replace.ensures.ok there
    fits has c.self.invariant

pub returns-clause-value : goal.returns-clause-value
returns-clause-value c =
    let old : Body = arc_value c.self.inside.body in
    let body : Body = c.in_ok-body.body.now in
    let same = same_body old body c.in_ok-body.ensures.value in
    let there = c.make_mut.follows.holds (record body { version = body.version + 1; slots = c.replace.new.self }) (rw c.in_ok-body.was refl) in
    rw (← c.self.view_is) (shot_again old body _ c.args.slot c.args.flight (arc_value c.in_ok-flight.flight) c.replace.new.self same c.in_ok-flight.ensures.ok
    c.in_ok-replace.ensures.ok there)

pub returns-clause-records : goal.returns-clause-records
returns-clause-records c =
    let old : Body = arc_value c.self.inside.body in
    let body : Body = c.in_ok-body.body.now in
    let flight = c.args.flight in
    let same = same_body old body c.in_ok-body.ensures.value in
    let there = c.make_mut.follows.holds (record body { version = body.version + 1; slots = c.replace.new.self }) (rw c.in_ok-body.was refl) in
    let fits = subst (λ (s : Shot). Fits s c.args.slot flight) (sym c.self.view_is) c.requires.fits in
    let has = subst (λ (s : Shot). option_map kept_of (flight_at s c.args.slot) ≡ Some (kept_of flight)) (sym c.self.view_is) c.requires.same in
    rw (← c.self.view_is) (records_again old body _ c.args.slot flight (arc_value c.in_ok-flight.flight) c.replace.new.self same c.in_ok-flight.ensures.ok
    c.in_ok-replace.ensures.ok there fits has c.self.invariant)
