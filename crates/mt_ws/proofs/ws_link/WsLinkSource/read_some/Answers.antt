use Rattle.std.proofs.Common.{sym, ◌∙◌, refl, inl, inr}
use Rattle.std.proofs.lemmas.List.{length-take-le}
use Rattle.mt_ws.specs.Messages.{payload_of}
use Rattle.mt_ws.proofs.Giving.{some_ended, takes_some}
use Rattle.mt_ws.proofs.ws_link.WsLinkSource.read_some.Goals as goal

pub returns-in-End-clause-reads : goal.returns-in-End-clause-reads
returns-in-End-clause-reads g c = rw c.end.ensures (inr (inr (record {
  no_bytes = refl;
  none = (c.is_empty.ensures.0 c.if-not-is_empty.false, c.is_empty.ensures.0 c.if-not-is_empty.false);
  ended = refl;
  met = inr (c.if-self.false, (c.in-End.failure, c.in-End.ensures));
  cause = refl;
})))

pub returns-in-Fault-clause-reads : goal.returns-in-Fault-clause-reads
returns-in-Fault-clause-reads g c = rw c.fail_read.ensures.same (record {
  none = (c.is_empty.ensures.0 c.if-not-is_empty.false, c.is_empty.ensures.0 c.if-not-is_empty.false);
  going = (c.if-self.false, c.if-self.false);
  cause = c.in-Fault.cause;
  kept = refl;
  fails = c.in-Fault.ensures;
})

pub give-requires-in-Data-clause-some : goal.give-requires-in-Data-clause-some
give-requires-in-Data-clause-some g c = rw (c.replace.ensures.after, c.of.ensures) (some_ended (payload_of c.in-Data.message))

pub returns-then-not-is_empty-clause-reads : goal.returns-then-not-is_empty-clause-reads
returns-then-not-is_empty-clause-reads g c =
    inl (record {
      some = takes_some c.give.result c.give.new.buf c.give.ensures.bound;
      bytes_are = c.give.ensures.bytes;
      socket = refl;
      ended = refl;
      cause = refl;
    })

pub returns-then-self-clause-reads : goal.returns-then-self-clause-reads
returns-then-self-clause-reads g c =
    inr (inr (record {
      no_bytes = refl;
      none = (c.is_empty.ensures.0 c.if-not-is_empty.false, c.is_empty.ensures.0 c.if-not-is_empty.false);
      ended = c.if-self.true;
      met = inl (c.if-self.true, refl);
      cause = refl;
    }))

pub returns-in-Data-clause-reads : goal.returns-in-Data-clause-reads
returns-in-Data-clause-reads g c =
    inr (inl (record {
      none = c.is_empty.ensures.0 c.if-not-is_empty.false;
      going = (c.if-self.false, c.if-self.false);
      message = c.in-Data.message;
      is_data = c.in-Data.ensures.0;
      answers = c.in-Data.ensures.1;
      some = takes_some c.give-in-Data.result c.give-in-Data.new.buf c.give-in-Data.ensures.bound;
      bytes_are = sym c.of.ensures ∙ (sym c.replace.ensures.after ∙ c.give-in-Data.ensures.bytes);
      cause = refl;
    }))

pub returns-then-not-is_empty-clause-bound : goal.returns-then-not-is_empty-clause-bound
returns-then-not-is_empty-clause-bound g c =
    let bound = c.give.ensures.bound in
    (bound.1, sym (length-take-le c.give.result c.give.new.buf bound.1))

pub returns-in-Data-clause-bound : goal.returns-in-Data-clause-bound
returns-in-Data-clause-bound g c =
    let bound = c.give-in-Data.ensures.bound in
    (bound.1, sym (length-take-le c.give-in-Data.result c.give-in-Data.new.buf bound.1))

pub returns-in-Fault-clause-cause : goal.returns-in-Fault-clause-cause
returns-in-Fault-clause-cause g c = record { later = c.fail_read.ensures.count.0; failed = c.fail_read.ensures.count.1 }

pub returns-in-Fault-clause-kept : goal.returns-in-Fault-clause-kept
returns-in-Fault-clause-kept g c = rw c.fail_read.ensures.same (refl, refl)
