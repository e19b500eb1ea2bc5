use Rattle.std.proofs.Common.{◌≡◌, Err, sym, ◌∙◌, ap, arith}
use Rattle.mt_io.specs.declared.line.LineFault.TheVariants.{ReadFault}
use Rattle.mt_io.proofs.Advancing.{advanced, none_left, stopped_at}
use Rattle.mt_io.proofs.read_line.read_line.Goals as goal

pub returns-in-Ok-clause-advances : goal.returns-in-Ok-clause-advances
returns-in-Ok-clause-advances g c =
    advanced c.args.ahead.now c.gather.new.ahead _ _ c.args.line.now.bytes.items _ _ c.in-Ok.whole c.args.given.now c.give.new.given c.give.result
    c.requires (sym c.has_ended.ensures ∙ c.if-has_ended.false) c.in-Ok.ensures.gathers c.give.ensures

pub returns-then-has_ended-clause-advances : goal.returns-then-has_ended-clause-advances
returns-then-has_ended-clause-advances g c =
    none_left c.args.ahead.now _ c.args.line.now.bytes.items c.args.given.now c.requires (sym c.has_ended.ensures ∙ c.if-has_ended.true)

pub returns-in-Err-clause-advances : goal.returns-in-Err-clause-advances
returns-in-Err-clause-advances g c =
    stopped_at c.args.ahead.now c.gather.new.ahead _ _ c.args.line.now.bytes.items _ c.args.given.now c.in-Err.fault c.requires
    (sym c.has_ended.ensures ∙ c.if-has_ended.false) c.in-Err.ensures.gathers

pub returns-then-has_ended-clause-cause : goal.returns-then-has_ended-clause-cause
returns-then-has_ended-clause-cause g c = λ is. cc

pub returns-then-has_ended-clause-later : goal.returns-then-has_ended-clause-later
returns-then-has_ended-clause-later g c = omega arith

pub returns-then-has_ended-clause-kept : goal.returns-then-has_ended-clause-kept
returns-then-has_ended-clause-kept g c = g.met.S.Source.reads_to_itself _

pub returns-in-Ok-clause-cause : goal.returns-in-Ok-clause-cause
returns-in-Ok-clause-cause g c = λ is. cc

pub returns-in-Ok-clause-later : goal.returns-in-Ok-clause-later
returns-in-Ok-clause-later g c = c.gather.ensures.later

pub returns-in-Ok-clause-kept : goal.returns-in-Ok-clause-kept
returns-in-Ok-clause-kept g c = c.gather.ensures.kept

pub returns-in-Err-clause-cause : goal.returns-in-Err-clause-cause
returns-in-Err-clause-cause g c = λ is. let same : c.in-Err.fault ≡ ReadFault = cc in c.in-Err.ensures.cause (ap Err same)

pub returns-in-Err-clause-later : goal.returns-in-Err-clause-later
returns-in-Err-clause-later g c = c.gather.ensures.later

pub returns-in-Err-clause-kept : goal.returns-in-Err-clause-kept
returns-in-Err-clause-kept g c = c.gather.ensures.kept
