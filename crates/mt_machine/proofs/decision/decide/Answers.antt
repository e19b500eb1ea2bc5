use Rattle.std.proofs.Common.{◌∙◌, refl, sym}
use Rattle.mt_base.specs.Decision.{checks, look_at}
use Rattle.mt_base.specs.Tables.{Setup, setup_with}
use Rattle.mt_base.proofs.CheckLemmas.{all_passed}
use Rattle.mt_predict.proofs.Looks.{judged_flown, some_strand}
use Rattle.mt_change.proofs.Decisions.{entered, refused, stale}
use Rattle.mt_machine.proofs.decision.decide.Goals as goal

pub judge-requires : goal.judge-requires
judge-requires g c = record {
  strand = some_strand (setup_with c.args.rules.now c.args.tables.now) c.look-looked.result c.args.command.now
      (c.in_ok-strand.ensures c.look-looked.result c.look-looked.ensures.look (c.look-looked.ensures.strand ∙ c.as_ref.ensures.value));
}

pub returns-in-Err : goal.returns-in-Err
returns-in-Err g c =
    let setup : Setup = setup_with c.args.rules.now c.args.tables.now in
    let flies = c.in_ok-strand.ensures c.look-looked.result c.look-looked.ensures.look (c.look-looked.ensures.strand ∙ c.as_ref.ensures.value) in
    let is = rw (c.look-looked.ensures.look, c.in-Err.is) at (judged_flown setup c.look-looked.result c.args.who c.args.command.now c.judge.result flies c.judge.ensures) in
    refused setup c.args.plain.now c.args.who c.args.command.now c.in-Err.refusal (sym is)

pub first_hit-requires-clause-passed : goal.first_hit-requires-clause-passed
first_hit-requires-clause-passed g c = λ κs sub.
    let setup : Setup = setup_with c.args.rules.now c.args.tables.now in
    let flies = c.in_ok-strand.ensures c.look-looked.result c.look-looked.ensures.look (c.look-looked.ensures.strand ∙ c.as_ref.ensures.value) in
    let is = rw (c.look-looked.ensures.look, c.in_default.is) at (judged_flown setup c.look-looked.result c.args.who c.args.command.now c.judge.result flies c.judge.ensures) in
    (c.args.who, all_passed (checks setup (look_at c.args.plain.now c.args.command.now) c.args.who c.args.command.now) (tt {0}) (rw (← is) refl))

pub returns-in-Some : goal.returns-in-Some
returns-in-Some g c =
    let setup : Setup = setup_with c.args.rules.now c.args.tables.now in
    let flies = c.in_ok-strand.ensures c.look-looked.result c.look-looked.ensures.look (c.look-looked.ensures.strand ∙ c.as_ref.ensures.value) in
    let is = rw (c.look-looked.ensures.look, c.in_default.is) at (judged_flown setup c.look-looked.result c.args.who c.args.command.now c.judge.result flies c.judge.ensures) in
    let hit = rw c.in-Some.is at c.in_ok-first.ensures in
    stale setup c.args.plain.now c.args.who c.args.command.now c.in-Some.first (sym is) hit.0 hit.1

pub returns : goal.returns
returns g c =
    let setup : Setup = setup_with c.args.rules.now c.args.tables.now in
    let flies = c.in_ok-strand.ensures c.look-looked.result c.look-looked.ensures.look (c.look-looked.ensures.strand ∙ c.as_ref.ensures.value) in
    let is = rw (c.look-looked.ensures.look, c.in_default.is) at (judged_flown setup c.look-looked.result c.args.who c.args.command.now c.judge.result flies c.judge.ensures) in
    rw (c.in_ok-filled.ensures, c.now.ensures)
    (entered setup c.args.plain.now c.args.who c.args.command.now (sym is) (rw c.in_default-2.is at c.in_ok-first.ensures))
