use Rattle.std.proofs.Common.{refl}
use Rattle.mt_lines.proofs.telling.told.Goals as goal

pub returns-in-Ok-List-clause-reply : goal.returns-in-Ok-List-clause-reply
returns-in-Ok-List-clause-reply c = rw (c.in-Ok-List.is, c.in-Ok-List.field-0-is) refl

pub returns-in-Ok-Check-clause-reply : goal.returns-in-Ok-Check-clause-reply
returns-in-Ok-Check-clause-reply c = rw (c.in-Ok-Check.is, c.in-Ok-Check.field-0-is) refl

pub returns-in-Ok-Due-clause-reply : goal.returns-in-Ok-Due-clause-reply
returns-in-Ok-Due-clause-reply c = rw (c.in-Ok-Due.is, c.in-Ok-Due.field-0-is) refl

pub returns-in-Ok-Flight-clause-reply : goal.returns-in-Ok-Flight-clause-reply
returns-in-Ok-Flight-clause-reply c = rw (c.in-Ok-Flight.is, c.in-Ok-Flight.field-0-is) refl

pub returns-in-Ok-History-clause-reply : goal.returns-in-Ok-History-clause-reply
returns-in-Ok-History-clause-reply c = rw (c.in-Ok-History.is, c.in-Ok-History.field-0-is) refl

pub returns-in-Err-clause-reply : goal.returns-in-Err-clause-reply
returns-in-Err-clause-reply c = rw c.in-Err.is c.refused.ensures.reply
