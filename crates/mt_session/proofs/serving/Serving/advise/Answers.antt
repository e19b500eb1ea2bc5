use Rattle.std.proofs.Common.{inl, inr, map, refl}
use Rattle.mt_session.proofs.Advice.{items_length}
use Rattle.mt_session.proofs.Stays.{stays_on}
use Rattle.mt_session.proofs.serving.Serving.advise.Goals as goal

pub returns-in-Ok-items_from-clause-fit : goal.returns-in-Ok-items_from-clause-fit
returns-in-Ok-items_from-clause-fit g c = record {
  few = rw (c.in-Ok-items_from.ensures.exact, c.deref.ensures.value, items_length c.count.result (map g.B.Probe.Probed.told c.in-Ok.field-0.probes.items)) c.in-Ok.ensures.advised.few;
  each = c.in-Ok-items_from.ensures.short;
  call_is = c.keeps.ensures;
}

pub returns-in-Ok-items_from-clause-advised : goal.returns-in-Ok-items_from-clause-advised
returns-in-Ok-items_from-clause-advised g c =
    inl (inl (record {
      seat = c.ask_advice.new.self.session.seat;
      eff = c.in-Ok.field-0.eff;
      version = c.in-Ok.field-0.version;
      probes = map g.B.Probe.Probed.told c.in-Ok.field-0.probes.items;
      advised = c.in-Ok.ensures.advised;
      given = record {
        reply_is = rw (c.in-Ok-items_from.ensures.exact, c.deref.ensures.value, c.count.ensures, c.in-Ok.ensures.kept) refl;
        next_is = rw (c.keep_all.ensures.kept, c.in-Ok.ensures.kept) refl;
      };
    }))

pub returns-in-Err-clause-advised : goal.returns-in-Err-clause-advised
returns-in-Err-clause-advised g c =
    inl (inr (record {
      seat = c.ask_advice.new.self.session.seat;
      denied = c.in-Err.no;
      not_advised = c.in-Err.ensures.denied;
      given = record { reply_is = c.refused.ensures.reply; next_is = c.in-Err.ensures.kept };
    }))

-- with no memory for the clearances no probe is kept
pub returns-in_default-clause-advised : goal.returns-in_default-clause-advised
returns-in_default-clause-advised g c =
    inr (record {
      seat = c.ask_advice.new.self.session.seat;
      left = c.in-Ok.ensures.advised.seen.looked;
      given = record { reply_is = refl; next_is = c.in-Ok.ensures.kept };
    })

pub returns-in-Ok-items_from-clause-on : goal.returns-in-Ok-items_from-clause-on
returns-in-Ok-items_from-clause-on g c = stays_on _ _ _ c.ask_advice.ensures.on c.keep_all.ensures.on

pub returns-in_default-clause-on : goal.returns-in_default-clause-on
returns-in_default-clause-on g c = c.ask_advice.ensures.on

pub returns-in-Err-clause-on : goal.returns-in-Err-clause-on
returns-in-Err-clause-on g c = c.ask_advice.ensures.on

pub returns-in-Err-clause-fit : goal.returns-in-Err-clause-fit
returns-in-Err-clause-fit g c = c.refused.ensures.fit
