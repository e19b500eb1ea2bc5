use Rattle.std.proofs.Common.{◌≡◌, [], true}
use Rattle.std.proofs.lemmas.List.{append-nil}
use Rattle.mt_picture.proofs.Choosing.{near_all, near_known}
use Rattle.mt_picture.proofs.Newer.{newer, none_newer}
use Rattle.mt_picture.proofs.candidates.candidates.Goals as goal

pub returns-then-not-known : goal.returns-then-not-known
returns-then-not-known c =
    let added = rw c.new-list.ensures.items at c.in_ok-add_met.ensures in
    rw added.is (near_all c.args.snapshot.now c.args.history.now c.args.strand.now c.args.prep.now c.args.known added.more c.keeps.ensures.sound c.keeps-2.ensures
    c.if-not-known.true c.requires.setup c.requires.stamped added.met)

pub returns-then-not-may_stand_since : goal.returns-then-not-may_stand_since
returns-then-not-may_stand_since c =
    let shot = c.args.snapshot.now in
    let is_known : c.args.known ≡ true = (let test = c.if-not-known.false in cc) in
    let none = rw c.version-version.ensures.version at c.may_stand_since.ensures c.if-not-may_stand_since.true in
    let all = near_known shot c.args.strand.now c.args.prep.now c.args.known c.in_ok-list.list.items [] c.keeps.ensures.sound c.version-version.ensures.kept
    c.keeps-2.ensures c.requires.setup is_known c.requires.preps c.requires.stood c.in_ok-list.ensures
    (none_newer shot c.args.strand.now c.args.prep.now.state.version c.keeps.ensures.sound c.keeps-2.ensures none) in
    rw (append-nil c.in_ok-list.list.items) at all

pub returns : goal.returns
returns c =
    let shot = c.args.snapshot.now in
    let is_known : c.args.known ≡ true = (let test = c.if-not-known.false in cc) in
    let added = rw c.version-version.ensures.version at c.in_ok-add_met-2.ensures in
    rw added.is (near_known shot c.args.strand.now c.args.prep.now c.args.known c.in_ok-list.list.items added.more c.keeps.ensures.sound c.version-version.ensures.kept
    c.keeps-2.ensures c.requires.setup is_known c.requires.preps c.requires.stood c.in_ok-list.ensures
    (newer shot c.args.strand.now c.args.prep.now.state.version c.keeps.ensures.sound c.keeps-2.ensures added.more added.met))
