use Rattle.std.proofs.Common.{sym, ap}
use Rattle.mt_read.specs.Words.{own_word_of}
use Rattle.mt_read.proofs.word.own_word_of.Goals as goal

pub returns-in-fix : goal.returns-in-fix
unfolding own_word_of
returns-in-fix c = sym (ap own_word_of c.in-fix.is)

pub returns-in-type : goal.returns-in-type
unfolding own_word_of
returns-in-type c = sym (ap own_word_of c.in-type.is)

pub returns-in-area : goal.returns-in-area
unfolding own_word_of
returns-in-area c = sym (ap own_word_of c.in-area.is)

pub returns-in-rule : goal.returns-in-rule
unfolding own_word_of
returns-in-rule c = sym (ap own_word_of c.in-rule.is)

pub returns-in-begin : goal.returns-in-begin
unfolding own_word_of
returns-in-begin c = sym (ap own_word_of c.in-begin.is)

pub returns-in-take : goal.returns-in-take
unfolding own_word_of
returns-in-take c = sym (ap own_word_of c.in-take.is)

pub returns-in-areas : goal.returns-in-areas
unfolding own_word_of
returns-in-areas c = sym (ap own_word_of c.in-areas.is)

pub returns-in-probe : goal.returns-in-probe
unfolding own_word_of
returns-in-probe c = sym (ap own_word_of c.in-probe.is)

pub returns-in-accept : goal.returns-in-accept
unfolding own_word_of
returns-in-accept c = sym (ap own_word_of c.in-accept.is)

pub returns-in-advise : goal.returns-in-advise
unfolding own_word_of
returns-in-advise c = sym (ap own_word_of c.in-advise.is)

pub returns-in-hello : goal.returns-in-hello
unfolding own_word_of
returns-in-hello c = sym (ap own_word_of c.in-hello.is)

pub returns-in-list : goal.returns-in-list
unfolding own_word_of
returns-in-list c = sym (ap own_word_of c.in-list.is)

pub returns-in-check : goal.returns-in-check
unfolding own_word_of
returns-in-check c = sym (ap own_word_of c.in-check.is)

pub returns-in-due : goal.returns-in-due
unfolding own_word_of
returns-in-due c = sym (ap own_word_of c.in-due.is)

pub returns-in-flight : goal.returns-in-flight
unfolding own_word_of
returns-in-flight c = sym (ap own_word_of c.in-flight.is)

pub returns-in-history : goal.returns-in-history
unfolding own_word_of
returns-in-history c = sym (ap own_word_of c.in-history.is)

pub returns-in-settle : goal.returns-in-settle
unfolding own_word_of
returns-in-settle c = sym (ap own_word_of c.in-settle.is)

pub returns-in-bye : goal.returns-in-bye
unfolding own_word_of
returns-in-bye c = sym (ap own_word_of c.in-bye.is)
