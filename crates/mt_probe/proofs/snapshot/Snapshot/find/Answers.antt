use Rattle.std.proofs.Common.{subst, IfSome, ◌≡◌, is_some, option_map, true}
use Rattle.std.specs.Arc.{arc_value}
use Rattle.std.specs.Prelude.{option_and_then}
use Rattle.mt_base.specs.Picture.{flight_of}
use Rattle.mt_names.specs.Naming.{IsPlaceOf}
use Rattle.mt_probe.specs.declared.snapshot.Body.{Body}
use Rattle.mt_probe.specs.Private.Body.{shot_of}
use Rattle.mt_probe.specs.Shot.{Shot, flight_at, records_in}
use Rattle.mt_probe.proofs.Indexing.{found_by}
use Rattle.mt_probe.proofs.snapshot.Snapshot.find.Goals as goal

pub returns : goal.returns
returns c =
    let body : Body = arc_value c.self.inside.body in
    let place = subst (λ (b : Body). IsPlaceOf b.index.names c.args.call c.find.result) c.deref.ensures c.find.ensures in
    let found = found_by (shot_of body) body.index c.args.call c.self.invariant.sound c.self.invariant.indexed c.find.result place in
    record {
      there = subst (λ (s : Shot). IfSome c.find.result (λ slot. is_some (flight_at s slot) ≡ true)) c.self.view_is found.0;
      flight = subst (λ (s : Shot). flight_of (records_in s.slots) c.args.call ≡ option_map (λ f. f.card) (option_and_then (flight_at s) c.find.result)) c.self.view_is
          found.1;
    }
