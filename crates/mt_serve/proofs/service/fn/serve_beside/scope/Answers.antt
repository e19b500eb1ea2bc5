use Rattle.std.proofs.Common.{rules}
use Rattle.mt_serve.proofs.Staff.{begun_ready, staffed}
use Rattle.mt_serve.proofs.service.fn.serve_beside.scope.Goals as goal

pub rest_all-requires-clause-ready : goal.rest_all-requires-clause-ready
rest_all-requires-clause-ready g c κs within = begun_ready _ _ _ _ c.requires.staffed.ready c.begin_all-staff.ensures.begun

pub returns : goal.returns
returns g c = record {
  same = search rules;
  links = search rules;
  staff = staffed _ _ _ _ _ _ _ c.begin_all-staff.ensures.begun c.begin_all-staff.ensures.ready c.begin_all-staff.ensures.started c.begin_all-staff.ensures.few c.rest_all.ensures;
  channels = λ none. c.serve_links-seats.ensures.channels (c.senders_to-senders.ensures none);
}
