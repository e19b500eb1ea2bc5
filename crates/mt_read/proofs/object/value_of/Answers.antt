use Rattle.std.proofs.Common.{ap, inr, refl, Err, ◌∙◌}
use Rattle.mt_read.proofs.Decoding.{decoded_some, decoded_none}
use Rattle.mt_read.proofs.object.value_of.Goals as goal

pub returns-in-Ok : goal.returns-in-Ok
returns-in-Ok c = decoded_some c.args.bytes.now _ c.in-Ok.ensures.ok.0 c.in-Ok.ensures.ok.1

pub returns-in-Err-Json : goal.returns-in-Err-Json
returns-in-Err-Json c = inr (refl, decoded_none c.args.bytes.now (c.read.ensures.err (c.in-Err-Json.is ∙ ap Err c.in-Err-Json.field-0-is)))
