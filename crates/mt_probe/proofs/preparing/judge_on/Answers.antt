use Rattle.mt_predict.proofs.Looks.{judged_flown, some_strand}
use Rattle.mt_probe.proofs.preparing.judge_on.Goals as goal

pub judge-requires : goal.judge-requires
judge-requires c = record {
  strand = some_strand c.args.snapshot.now.setup c.look-looked.result c.args.command.now (c.look-looked.ensures.strand c.args.command.now);
}

pub returns : goal.returns
returns c =
    let looked = rw (← c.requires.flight_is) at c.look-looked.ensures.look in
    rw looked at (judged_flown c.args.snapshot.now.setup c.look-looked.result c.args.who c.args.command.now c.judge.result
    (c.look-looked.ensures.strand c.args.command.now) (rw (c.tables.ensures, c.rules.ensures.rules) at c.judge.ensures))
