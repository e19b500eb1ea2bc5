use Rattle.std.proofs.Common.{◌∙◌, sym, Ok, Err, arith, inl, inr, refl}
use Rattle.mt_ws.proofs.Beats.{beats_on, answers_by, is_data, close_is}
use Rattle.mt_ws.proofs.pull.pull.Goals as goal

pub returns-then-is_closed : goal.returns-then-is_closed
returns-then-is_closed g c = inr (
  c.in-Err.error,
  sym c.is_closed.ensures ∙ c.if-is_closed.true,
  refl,
  answers_by g.S.Read.remaining g.S.Write.contents c.loop.counter _ c.loop.socket _ (Err c.in-Err.error) (omega arith) c.loop.invariant.0 c.in-Err.ensures,
)

pub returns-then-is_memory : goal.returns-then-is_memory
returns-then-is_memory g c = (
  c.in-Err.error,
  sym c.is_memory.ensures ∙ c.if-is_memory.true,
  answers_by g.S.Read.remaining g.S.Write.contents c.loop.counter _ c.loop.socket _ (Err c.in-Err.error) (omega arith) c.loop.invariant.0 c.in-Err.ensures,
)

pub returns-then-is_close : goal.returns-then-is_close
returns-then-is_close g c =
    let is = close_is c.in-Ok.message (sym c.is_close.ensures ∙ c.if-is_close.true) in
    inl (
      c.read.new.self,
      (
        is.0,
        rw (← is.1)
            (answers_by g.S.Read.remaining g.S.Write.contents c.loop.counter _ c.loop.socket _ (Ok c.in-Ok.message) (omega arith) c.loop.invariant.0 c.in-Ok.ensures),
      ),
      c.send_waiting.ensures.sent,
      c.send_waiting.ensures.all,
    )

pub returns-then-not-is_beat : goal.returns-then-not-is_beat
returns-then-not-is_beat g c = (
  is_data c.in-Ok.message (sym c.is_beat.ensures ∙ c.if-not-is_beat.true) (sym c.is_close.ensures ∙ c.if-is_close.false),
  answers_by g.S.Read.remaining g.S.Write.contents c.loop.counter _ c.loop.socket _ (Ok c.in-Ok.message) (omega arith) c.loop.invariant.0 c.in-Ok.ensures,
)

pub loop-preserved : goal.loop-preserved
loop-preserved g c = (
  beats_on g.S.Read.remaining g.S.Write.contents c.loop.counter _ c.loop.socket _ c.in-Ok.message c.loop.invariant.0 c.in-Ok.ensures (sym c.is_beat.ensures ∙ c.if-not-is_beat.false),
  omega arith,
)

pub returns : goal.returns
returns g c = (c.loop.counter, omega arith, c.loop.invariant.0)
