use Rattle.std.proofs.Common.{sym, ◌∙◌, arith}
use Rattle.mt_ws.proofs.Opened.{gives_back, reads_behind, some_left, some_room}
use Rattle.mt_ws.proofs.front.FrontRead.read.Goals as goal

pub give-requires : goal.give-requires
give-requires g c = record {
  room = some_room c.args.buf.now (sym c.is_empty.ensures ∙ c.if-is_empty.false);
  some = some_left c.args.self.now.back _ c.is_empty-2.ensures c.if-is_empty-2.false;
}

pub returns-clause-bytes : goal.returns-clause-bytes
returns-clause-bytes g c = (
  gives_back (g.S.Read.remaining c.args.self.now.stream) c.args.self.now.back _ _ c.give.ensures.bytes,
  λ none. absurd (omega (arith, none, c.give.ensures.bound)),
)

pub returns-then-is_empty-2-clause-bytes : goal.returns-then-is_empty-2-clause-bytes
returns-then-is_empty-2-clause-bytes g c =
    reads_behind (g.S.Read.remaining c.args.self.now.stream) _ c.args.self.now.back c.read_on.result _ (c.is_empty-2.ensures.0 c.if-is_empty-2.true) c.read_on.ensures.bytes
