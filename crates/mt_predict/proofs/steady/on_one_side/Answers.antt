use Rattle.mt_predict.proofs.Layers.{is_parted_above, is_parted_below}
use Rattle.mt_predict.proofs.steady.on_one_side.Goals as goal

pub returns-then-top-z-clause-lowest : goal.returns-then-top-z-clause-lowest
returns-then-top-z-clause-lowest c =
    (is_parted_above c.args.layer.lowest c.args.layer.highest c.args.top c.args.z c.max.result c.requires.lowest c.requires.highest c.requires.top
    c.if-top-z.true c.max.ensures.value).lowest

pub returns-then-top-z-clause-highest : goal.returns-then-top-z-clause-highest
returns-then-top-z-clause-highest c =
    (is_parted_above c.args.layer.lowest c.args.layer.highest c.args.top c.args.z c.max.result c.requires.lowest c.requires.highest c.requires.top
    c.if-top-z.true c.max.ensures.value).highest

pub returns-then-top-z-clause-inside : goal.returns-then-top-z-clause-inside
returns-then-top-z-clause-inside c =
    (is_parted_above c.args.layer.lowest c.args.layer.highest c.args.top c.args.z c.max.result c.requires.lowest c.requires.highest c.requires.top
    c.if-top-z.true c.max.ensures.value).inside

pub returns-then-top-z-clause-side : goal.returns-then-top-z-clause-side
returns-then-top-z-clause-side c =
    (is_parted_above c.args.layer.lowest c.args.layer.highest c.args.top c.args.z c.max.result c.requires.lowest c.requires.highest c.requires.top
    c.if-top-z.true c.max.ensures.value).side

pub returns-else-top-z-clause-lowest : goal.returns-else-top-z-clause-lowest
returns-else-top-z-clause-lowest c =
    (is_parted_below c.args.layer.lowest c.args.layer.highest c.args.top c.args.z c.min.result c.requires.lowest c.requires.highest c.requires.top
    c.if-top-z.false c.min.ensures.value).lowest

pub returns-else-top-z-clause-highest : goal.returns-else-top-z-clause-highest
returns-else-top-z-clause-highest c =
    (is_parted_below c.args.layer.lowest c.args.layer.highest c.args.top c.args.z c.min.result c.requires.lowest c.requires.highest c.requires.top
    c.if-top-z.false c.min.ensures.value).highest

pub returns-else-top-z-clause-inside : goal.returns-else-top-z-clause-inside
returns-else-top-z-clause-inside c =
    (is_parted_below c.args.layer.lowest c.args.layer.highest c.args.top c.args.z c.min.result c.requires.lowest c.requires.highest c.requires.top
    c.if-top-z.false c.min.ensures.value).inside

pub returns-else-top-z-clause-side : goal.returns-else-top-z-clause-side
returns-else-top-z-clause-side c =
    (is_parted_below c.args.layer.lowest c.args.layer.highest c.args.top c.args.z c.min.result c.requires.lowest c.requires.highest c.requires.top
    c.if-top-z.false c.min.ensures.value).side
