use Rattle.std.proofs.Common.{sym, arith}
use Rattle.std.proofs.lemmas.Bool.Decides.{nat_tests}
use Rattle.mt_args.proofs.Numbers.{never}
use Rattle.mt_args.proofs.number.number.Goals as goal

pub returns-in_default : goal.returns-in_default
returns-in_default c =
    let digits = rw c.as_bytes.ensures.value at (sym c.if-not-are_digits.ensures) in
    absurd (never c.args.text.now c.parse.result c.in_default.field-0 c.parse.ensures.value.0 digits
    (grind (arith, nat_tests, c.if-is_empty.ensures)) (omega (arith, c.if-text-gt-DIGITS.false)) c.in_default.is)
