use Rattle.std.proofs.Common.{inl, inr, refl, Ok, Err}
use Rattle.mt_session.proofs.Stays.{stays_on}
use Rattle.mt_session.proofs.serving.Serving.probe.Goals as goal

pub returns-in-Ok-short_hits-clause-probed : goal.returns-in-Ok-short_hits-clause-probed
returns-in-Ok-short_hits-clause-probed g c =
    inl (record {
      seat = c.what_if.new.self.session.seat;
      result = Ok (g.B.Probe.Probed.told c.in-Ok.probe);
      tried = (
        c.in-Ok.ensures.probed,
        record {
          reply_is = rw (c.in-Ok-short_hits.ensures.same, c.hits.ensures.told, c.eff-eff.ensures, c.version-version.ensures, c.keep-number.ensures.number, c.in-Ok.ensures.kept) refl;
          next_is = rw (c.keep-number.ensures.kept, c.in-Ok.ensures.kept) refl;
        },
      );
    })

pub returns-in-Err-clause-probed : goal.returns-in-Err-clause-probed
returns-in-Err-clause-probed g c =
    inl (record {
      seat = c.what_if.new.self.session.seat;
      result = Err c.in-Err.no;
      tried = (
        c.in-Err.ensures.denied,
        record {
          reply_is = c.refused.ensures.reply;
          next_is = c.in-Err.ensures.kept;
        },
      );
    })

-- with no memory for the hits no probe is kept
pub returns-in_default-clause-probed : goal.returns-in_default-clause-probed
returns-in_default-clause-probed g c =
    inr (record {
      seat = c.what_if.new.self.session.seat;
      left = c.in-Ok.ensures.probed.seen.looked;
      given = record { reply_is = refl; next_is = c.in-Ok.ensures.kept };
    })

pub returns-in-Ok-short_hits-clause-on : goal.returns-in-Ok-short_hits-clause-on
returns-in-Ok-short_hits-clause-on g c = stays_on _ _ _ c.what_if.ensures.on c.keep-number.ensures.on

pub returns-in-Ok-short_hits-clause-fit : goal.returns-in-Ok-short_hits-clause-fit
returns-in-Ok-short_hits-clause-fit g c = c.in-Ok-short_hits.ensures.brief

pub returns-in_default-clause-on : goal.returns-in_default-clause-on
returns-in_default-clause-on g c = c.what_if.ensures.on

pub returns-in-Err-clause-on : goal.returns-in-Err-clause-on
returns-in-Err-clause-on g c = c.what_if.ensures.on

pub returns-in-Err-clause-fit : goal.returns-in-Err-clause-fit
returns-in-Err-clause-fit g c = c.refused.ensures.fit
