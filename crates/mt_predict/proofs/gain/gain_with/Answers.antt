use Rattle.std.proofs.Common.{arith}
use Rattle.mt_predict.proofs.Gains.{gain_is_less, gain_is_more, quotient_is, rest_is}
use Rattle.mt_predict.proofs.gain.gain_with.Goals as goal

pub returns-then-from-rest : goal.returns-then-from-rest
returns-then-from-rest c =
    let each = quotient_is c.args.total c.args.seconds c.from.result c.div_euclid-each.result c.requires.kept (omega arith) c.from.ensures c.div_euclid-each.ensures in
    let rest = rest_is c.args.total c.args.seconds c.from-2.result c.rem_euclid.result c.unsigned_abs-rest.result c.requires.kept c.requires.some (omega arith) c.from-2.ensures c.rem_euclid.ensures.value c.unsigned_abs-rest.ensures.value in
    gain_is_more c.args.total c.args.seconds c.args.n c.div_euclid-each.result c.unsigned_abs-rest.result c.requires.kept each rest (omega (arith, c.from-3.ensures))

pub returns-else-from-rest : goal.returns-else-from-rest
returns-else-from-rest c =
    let each = quotient_is c.args.total c.args.seconds c.from.result c.div_euclid-each.result c.requires.kept (omega arith) c.from.ensures c.div_euclid-each.ensures in
    let rest = rest_is c.args.total c.args.seconds c.from-2.result c.rem_euclid.result c.unsigned_abs-rest.result c.requires.kept c.requires.some (omega arith) c.from-2.ensures c.rem_euclid.ensures.value c.unsigned_abs-rest.ensures.value in
    gain_is_less c.args.total c.args.seconds c.args.n c.div_euclid-each.result c.unsigned_abs-rest.result c.requires.kept each rest (omega (arith, c.from-3.ensures))
