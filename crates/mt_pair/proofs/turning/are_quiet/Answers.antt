use Rattle.std.proofs.lemmas.Bool.Decides.{not_from_Decides}
use Rattle.mt_pair.proofs.turning.are_quiet.Goals as goal

pub returns-then-not-lasts_until : goal.returns-then-not-lasts_until
returns-then-not-lasts_until c = λ _ some.
    not_from_Decides _ (c.lasts_until.ensures 0 c.args.seconds c.requires.some some) c.if-not-lasts_until.true some

pub returns-then-not-begins_before : goal.returns-then-not-begins_before
returns-then-not-begins_before c = λ _ some.
    not_from_Decides _ (c.begins_before.ensures 0 c.args.seconds c.requires.some some) c.if-not-begins_before.true some
