use Rattle.std.proofs.Common.{refl, ◌∙◌}
use Rattle.mt_lines.specs.Given.{is_farewell}
use Rattle.mt_lines.proofs.Turning.{begins}
use Rattle.mt_session.specs.Following.{IsFollowed, TouchesNoJob}
use Rattle.mt_session.proofs.Turning.{explained, nothing_done, read_ends, write_ends}
use Rattle.mt_session.proofs.over_link.answer_link.Goals as goal

pub returns-in_default : goal.returns-in_default
returns-in_default g c = record { session = nothing_done _ _ _; home = refl }

pub returns : goal.returns
returns g c =
    let lines = c.answer_all-ending.ensures in
    let on = rw (c.of.ensures.new, c.of.ensures.home) at lines.on in
    record {
      session = rw (c.board.ensures.seat, c.of-2.ensures) (record {
        end = c.answer_all-ending.new.self.serving.session;
        seat_is = refl;
        explained = explained _ _ _ _ _ _ _ (lines.ended _ _ (rw (c.in-Ok.ensures.reader, c.of.ensures.new) (begins is_farewell TouchesNoJob IsFollowed _ _)));
        same = on.same;
        begins = on.begins;
        read_cause = λ is. lines.reads.cause (read_ends _ is);
        write_cause = λ is. lines.writes.cause (write_ends _ is);
      });
      home = c.board.ensures.home ∙ on.home;
    }
